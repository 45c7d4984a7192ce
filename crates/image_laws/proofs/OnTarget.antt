-- What was built is on a target that it was copied to.
use Rattle.std.specs.Prelude.{◌≡◌, ◌≢◌, ℕ, ◌/◌, ◌^◌, ◌<◌, Bool, true, false, not, ◌&&◌, ◌||◌, List}
use Rattle.std.specs.Prelude.{[], length, slice_get, slice_index, nat_eq, nat_le, nat_lt, Option, Some, Result, Ok, unwrap_or, IsOkAnd, IsTrue}
use Rattle.std.specs.Str.{bytes_eq}
use Rattle.std.proofs.Common.{ap, refl, sym, subst, ◌∙◌, get_or, true≢false}
use Rattle.std.proofs.lemmas.Bool.{lt-ltb}
use Rattle.std.proofs.lemmas.List.Folds.{list_any_at}
use Rattle.std.proofs.lemmas.Option.{get_or_from_slice_get, slice_get-get_or, slice_get_within}
use Rattle.std.proofs.lemmas.Slice.Eq.{bytes_eq-Decides}
use Rattle.base_fields.proofs.Binds.{bind_ok, or_else_ok, refused_ok, when_ok}
use Rattle.base_fields.specs.Results.{◌>>=◌, or_else, refused_by, when}
use Rattle.bench.specs.Disk.{Disk}
use Rattle.block_map.specs.Maps.{is_mapped, runs_of}
use Rattle.block_map.specs.declared.maps.BlockMap.{BlockMap}
use Rattle.build_job.specs.Said.{sparse_said}
use Rattle.build_laws.specs.Builds.{IsBuilt, IsLaid, IsOfKind}
use Rattle.chain_laws.proofs.ChainLemmas.{OnlyNow, ReadsLeave, done_chains}
use Rattle.conf_keys.specs.declared.conf.Kind.{Kind}
use Rattle.conf_keys.specs.declared.conf.Kind.TheVariants as kind
use Rattle.copy_states.specs.Standing.{Copied, IsByteOf}
use Rattle.image_graph.specs.Clashes.{taken}
use Rattle.image_graph.specs.declared.images.Graph.{Graph}
use Rattle.image_layout.specs.Layout.{byte_at, is_covered}
use Rattle.image_layout.specs.declared.layout.Layout.{Layout}
use Rattle.image_names.proofs.NameLemmas.{list_any-map}
use Rattle.image_names.specs.Names.{holds, number_of}
use Rattle.image_plan.specs.Plans.{is_planned, plan_said}
use Rattle.image_plan.specs.declared.faults.PlanFault.{PlanFault}
use Rattle.image_plan.specs.declared.faults.PlanFault.TheVariants.{Place}
use Rattle.image_specs.specs.Specs.{full_names, spec_names}
use Rattle.image_specs.specs.declared.specs.ImageSpec.{ImageSpec}
use Rattle.map_job.specs.Mapped.{IsMapped}
use Rattle.map_job.specs.Said.{Image, bytes_said, chosen_said, covered_said, image_by, image_said, is_named, mapping_said, whole_said}
use Rattle.map_job.specs.declared.faults.MappingFault.{MappingFault}
use Rattle.map_job.specs.declared.faults.MappingFault.TheVariants.{NoImage, NameClash, Plan, Measure, ImageStale}
use Rattle.map_job.specs.declared.mapping.Mapped.{Mapped}
use Rattle.outside.specs.Files.{Tree, bytes_of}
use Rattle.outside.specs.declared.files.FileErr.TheVariants.{Missing}
use Rattle.placement_rules.specs.declared.faults.PlaceFault.TheVariants.{TooFar}
use Rattle.span_cover.specs.Cover.{IsTouched, covers}
use Rattle.image_laws.proofs.Maps.{mapped_texts, ok_same, some_same}
use Rattle.image_laws.specs.Images.{HasImage, has_on_target}
use Rattle.image_laws.specs.Laws.{BuiltImagesAreOnTarget, CopiesHaveTheImage, DoneChainsPutImages, copy_of}

-- ---- offsets that count are mapped
both : (a b : Bool) → a ≡ true → b ≡ true → (a && b) ≡ true
both a b first second = rw (first, second) refl

mapped_at : {image : Image} {block : ℕ} {file : Option (List ℕ)} {mapped : Mapped} (is : IsMapped image block file mapped) (o : ℕ) →
    o < length image.bytes → image.counts o ≡ true → is_mapped is.map o ≡ true
mapped_at {image} {block} {file} {mapped} is o below counts =
    let touched : IsTouched is.spans (length image.bytes) block (o / block) = (o, is.cover o ∙ counts, below, refl) in
    let covered : covers (runs_of is.map) (o / block) ≡ true = (is.is.runs.runs.exact (o / block)).1 touched in
    both (nat_lt o is.map.size) (covers (runs_of is.map) (o / is.map.block))
    (lt-ltb o is.map.size (subst (λ (n : ℕ). o < n) (sym is.is.runs.same_size) below))
    (subst (λ (n : ℕ). covers (runs_of is.map) (o / n) ≡ true) (sym is.is.runs.same_block) covered)

pub copies_have : CopiesHaveTheImage
copies_have image block file mapped source id t j is read copied o below counts =
    copied.bytes o (subst (λ (m : BlockMap). is_mapped m o ≡ true)
    (sym (mapped_texts image block file mapped source is read)) (mapped_at is o below counts))

-- ---- what is said of an image
said_of : (graph : Graph) (texts : List (List ℕ)) (file : Tree) (name out : List ℕ) (image : Image) (number : ℕ) (spec : ImageSpec) →
    mapping_said texts graph file name out ≡ Ok image → chosen_said texts graph.specs name out ≡ Ok number →
    slice_get graph.specs number ≡ Some spec → image_said file number spec ≡ Ok image
said_of graph texts file name out image number spec said chosen there =
    sym (ap (λ (r : Result ℕ MappingFault). r >>= (λ (n : ℕ). or_else (slice_get graph.specs n) NoImage >>= image_said file n)) chosen
    ∙ ap (λ (found : Option ImageSpec). or_else found NoImage >>= image_said file number) there) ∙ said

-- of an image with a layout
record IsOfLayout (file : Tree) (spec : ImageSpec) (image : Image) : Type 0 where
  layout : Layout
  plan : plan_said file spec ≡ Ok layout
  there : file spec.full ≡ Some image.bytes
  counts : (o : ℕ) → image.counts o ≡ is_covered layout o

of_layout : (file : Tree) (number : ℕ) (spec : ImageSpec) (image : Image) → image_by true file number spec ≡ Ok image →
    IsOfLayout file spec image
of_layout file number spec image said =
    let planned : (layout : Layout) × (refused_by (Plan number) (plan_said file spec) ≡ Ok layout) × ((bytes_said file number spec >>= covered_said layout) ≡ Ok image) =
    bind_ok (refused_by (Plan number) (plan_said file spec)) (λ (l : Layout). bytes_said file number spec >>= covered_said l) image said in
    let found : (bytes : List ℕ) × (bytes_said file number spec ≡ Ok bytes) × (covered_said planned.0 bytes ≡ Ok image) =
    bind_ok (bytes_said file number spec) (covered_said planned.0) image planned.2 in
    let made : Image = record { counts = is_covered planned.0; bytes = found.0 } in
    let same : (nat_eq (length found.0) planned.0.size ≡ true) × (made ≡ image) =
    when_ok (nat_eq (length found.0) planned.0.size) made image (ImageStale (length found.0) planned.0.size) found.2 in
    record {
      layout = planned.0;
      plan = refused_ok (Plan number) (plan_said file spec) planned.0 planned.1;
      there = or_else_ok (file spec.full) found.0 (Measure number Missing) found.1 ∙ ap (λ (i : Image). Some i.bytes) same.1;
      counts = λ o. sym (ap (λ (i : Image). i.counts o) same.1);
    }

-- of another one
record IsOfFile (file : Tree) (spec : ImageSpec) (image : Image) : Type 0 where
  there : file spec.full ≡ Some image.bytes
  counts : (o : ℕ) → image.counts o ≡ nat_lt o (length image.bytes)

abbrev whole_of : List ℕ → Image
whole_of bytes = record { counts = λ o. nat_lt o (length bytes); bytes = bytes }

of_file : (file : Tree) (number : ℕ) (spec : ImageSpec) (image : Image) → image_by false file number spec ≡ Ok image →
    IsOfFile file spec image
of_file file number spec image said =
    let measured : (len : ℕ) × (refused_by (Plan number) (sparse_said file spec) ≡ Ok len) × ((bytes_said file number spec >>= whole_said number spec) ≡ Ok image) =
    bind_ok (refused_by (Plan number) (sparse_said file spec)) (λ (len : ℕ). bytes_said file number spec >>= whole_said number spec) image said in
    let found : (bytes : List ℕ) × (bytes_said file number spec ≡ Ok bytes) × (whole_said number spec bytes ≡ Ok image) =
    bind_ok (bytes_said file number spec) (whole_said number spec) image measured.2 in
    let same : (nat_le (length found.0) (2 ^ 43) ≡ true) × (whole_of found.0 ≡ image) =
    when_ok (nat_le (length found.0) (2 ^ 43)) (whole_of found.0) image (Plan number (Place (TooFar spec.name (length found.0) (2 ^ 43)))) found.2 in
    record {
      there = or_else_ok (file spec.full) found.0 (Measure number Missing) found.1 ∙ ap (λ (i : Image). Some i.bytes) same.1;
      counts = λ o. subst (λ (i : Image). i.counts o ≡ nat_lt o (length i.bytes)) same.1 refl;
    }

-- either way its bytes are those of its file
there_by : (planned : Bool) (file : Tree) (number : ℕ) (spec : ImageSpec) (image : Image) →
    image_by planned file number spec ≡ Ok image → file spec.full ≡ Some image.bytes
there_by true file number spec image said = (of_layout file number spec image said).there
there_by false file number spec image said = (of_file file number spec image said).there

-- ---- the map's file has another name
none_named : (a b c : Bool) → not (a || b || c) ≡ true → c ≡ true → ⊥
none_named true b c free held = true≢false (sym free)
none_named false true c free held = true≢false (sym free)
none_named false false c free held = true≢false (sym (subst (λ (d : Bool). not d ≡ true) held free))

other_name : (texts : List (List ℕ)) (specs : List ImageSpec) (name out : List ℕ) (number : ℕ) (spec : ImageSpec) →
    chosen_said texts specs name out ≡ Ok number → slice_get specs number ≡ Some spec → spec.full ≢ out
other_name texts specs name out number spec chosen there = λ same.
    let found : (n : ℕ) × (or_else (number_of (spec_names specs) name) NoImage ≡ Ok n) × (when (not (is_named texts specs out)) n NameClash ≡ Ok number) =
    bind_ok (or_else (number_of (spec_names specs) name) NoImage) (λ (n : ℕ). when (not (is_named texts specs out)) n NameClash) number chosen in
    let free : not (is_named texts specs out) ≡ true = (when_ok (not (is_named texts specs out)) found.0 number NameClash found.2).0 in
    let here : get_or specs number spec ≡ spec = get_or_from_slice_get specs number spec spec there in
    let equal : bytes_eq out spec.full ≡ true = (bytes_eq-Decides out spec.full).1 (sym same) in
    let held : holds (full_names specs) out ≡ true =
    list_any-map (bytes_eq out) (λ (s : ImageSpec). s.full) specs ∙ list_any_at (λ (s : ImageSpec). bytes_eq out s.full) specs number spec (slice_get_within specs number spec there)
    (subst (λ (s : ImageSpec). bytes_eq out s.full ≡ true) (sym here) equal) in
    none_named (holds texts out) (holds (taken specs) out) (holds (full_names specs) out) free held

-- ---- what was built
laid_by : (k : Kind) (all : List ImageSpec) (file : Tree) (spec : ImageSpec) → is_planned k ≡ true →
    IsOfKind k all file spec file → IsLaid file spec file
laid_by kind.Hd all file spec planned made = made
laid_by kind.Plain all file spec planned made = made
laid_by kind.Flash all file spec planned made = made
laid_by kind.Sparse all file spec planned made = absurd (true≢false (sym planned))
laid_by kind.Ready all file spec planned made = absurd made

bytes_are : (file : Tree) (name : List ℕ) (bytes : List ℕ) → file name ≡ Some bytes → bytes_of file name ≡ bytes
bytes_are file name bytes there = ap (λ (found : Option (List ℕ)). unwrap_or found []) there

-- the byte of the target at an offset of a layout
byte_there : (t bytes : List ℕ) (o b : ℕ) → o < length bytes → IsByteOf bytes t o → slice_index bytes o ≡ b → slice_get t o ≡ Some b
byte_there t bytes o b below copied is = copied.same ∙ slice_get-get_or bytes o 0 below ∙ ap (λ (n : ℕ). Some n) is

laid_on : (file : Tree) (spec : ImageSpec) (image : Image) (t : List ℕ) → IsOfLayout file spec image →
    IsLaid file spec file → HasImage image t → has_on_target true file spec t
laid_on file spec image t of_layout laid has =
    let same : bytes_of file spec.full ≡ image.bytes = bytes_are file spec.full image.bytes of_layout.there in
    let layouts : laid.layout ≡ of_layout.layout = ok_same laid.plan of_layout.plan in
    subst (λ (r : Result Layout PlanFault). IsOkAnd r (λ layout. (o : ℕ) → o < layout.size → IsTrue (is_covered layout o) → slice_get t o ≡ Some (byte_at layout (bytes_of file) o)))
    (sym laid.plan)
    (λ o below covered.
    let inside : o < length image.bytes = subst (λ (bytes : List ℕ). o < length bytes) same (subst (λ (n : ℕ). o < n) (sym laid.has.size) below) in
    let counts : image.counts o ≡ true = of_layout.counts o ∙ subst (λ (l : Layout). is_covered l o ≡ true) layouts covered in
    byte_there t image.bytes o (byte_at laid.layout (bytes_of file) o) inside (has o inside counts)
    (subst (λ (bytes : List ℕ). slice_index bytes o ≡ byte_at laid.layout (bytes_of file) o) same (laid.has.each o below)))

file_on : (file : Tree) (spec : ImageSpec) (image : Image) (t : List ℕ) → IsOfFile file spec image → HasImage image t →
    has_on_target false file spec t
file_on file spec image t of_file has o below =
    let same : bytes_of file spec.full ≡ image.bytes = bytes_are file spec.full image.bytes of_file.there in
    let inside : o < length image.bytes = subst (λ (bytes : List ℕ). o < length bytes) same below in
    subst (λ (bytes : List ℕ). slice_get t o ≡ slice_get bytes o) (sym same)
    (has o inside (of_file.counts o ∙ lt-ltb o (length image.bytes) inside)).same

on_by : (planned : Bool) (all : List ImageSpec) (file : Tree) (number : ℕ) (spec : ImageSpec) (image : Image) (t : List ℕ) →
    is_planned spec.kind ≡ planned → image_by planned file number spec ≡ Ok image → IsBuilt all file spec →
    HasImage image t → has_on_target planned file spec t
on_by true all file number spec image t is said built has =
    laid_on file spec image t (of_layout file number spec image said) (laid_by spec.kind all file spec is built) has
on_by false all file number spec image t is said built has =
    file_on file spec image t (of_file file number spec image said) has

pub built_on : BuiltImagesAreOnTarget
built_on graph texts name out block before built after image spec bytes source id t j of_map choice from copied =
    let said : image_said built choice.number spec ≡ Ok image =
    said_of graph texts built name out image choice.number spec of_map.said choice.chosen choice.there in
    let stays : after spec.full ≡ built spec.full =
    of_map.others spec.full (other_name texts graph.specs name out choice.number spec choice.chosen choice.there) in
    let same : bytes ≡ image.bytes =
    some_same (sym from.bytes_are ∙ stays ∙ there_by (is_planned spec.kind) built choice.number spec image said) in
    let made : IsBuilt graph.specs built spec =
    subst (λ (s : ImageSpec). IsBuilt graph.specs built s) (get_or_from_slice_get graph.specs choice.number spec spec choice.there)
    (of_map.build.each choice.number spec (slice_get_within graph.specs choice.number spec choice.there)) in
    on_by (is_planned spec.kind) graph.specs built choice.number spec image t refl said made
    (copies_have image block (after out) of_map.mapped source id t j of_map.map from.map
    (subst (λ (s : List ℕ). Copied id source.map (Some s) t j) same copied))

-- ---- at the end of a chain
pub chains_put : {B : Type 0} (disk : B → Disk) → OnlyNow disk → ReadsLeave disk → DoneChainsPutImages disk
chains_put disk only reads graph texts name out block before built after image spec bytes source id first later of_map choice from of_job chain k d below ends =
    let held = done_chains disk only reads (copy_of id source bytes) first later of_job chain k d below ends in
    record {
      reads = built_on graph texts name out block before built after image spec bytes source id _ _ of_map choice from held.reads.copied;
      each = λ t j pair. built_on graph texts name out block before built after image spec bytes source id t j of_map choice from
          (held.each t j pair).copied;
    }
