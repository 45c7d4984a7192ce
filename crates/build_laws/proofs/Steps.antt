-- What the layers above build with: one image more, and the files that composing and writing a sparse file leave.
use Rattle.std.specs.Prelude.{◌≡◌, ℕ, ◌≤◌, ◌^◌, List, [], ◌∷◌, ◌++◌, Ok, Some, IsTrue, length, replicate, slice_index, take}
use Rattle.std.proofs.Common.{refl, sym, subst}
use Rattle.std.proofs.Math.Seq.{take-append_seam}
use Rattle.base_fields.specs.declared.spans.Span.{Span}
use Rattle.conf_keys.specs.declared.conf.Kind.{Kind}
use Rattle.conf_keys.specs.declared.conf.Kind.TheVariants as kind
use Rattle.image_composer.specs.Images.{IsMade, IsReadBack}
use Rattle.image_layout.specs.IsLayout.{IsLayout}
use Rattle.image_layout.specs.ReadsBack.{ReadsBack}
use Rattle.image_layout.specs.declared.layout.Layout.{Layout}
use Rattle.image_plan.specs.Plans.{is_planned, plan_said}
use Rattle.image_specs.specs.declared.specs.ImageSpec.{ImageSpec}
use Rattle.image_specs.specs.declared.specs.Source.{Source}
use Rattle.outside.specs.Files.{IsThere, OthersStay, Tree, bytes_of}
use Rattle.sparse_text.specs.Text.{IsSparseText}
use Rattle.build_laws.specs.Builds.{Builds, BuildsTo, HasLayout, IsCoverFor, IsLaid, IsOfKind, child_in}
use Rattle.build_laws.proofs.Sources.{file_of_plan}

-- one more behind those that are built
pub builds_more : (all front : List ImageSpec) (spec : ImageSpec) (before middle after : Tree)
    → BuildsTo all front before middle → Builds all spec middle after → BuildsTo all (front ++ spec ∷ []) before after
builds_more all [] spec before middle after built next =
    (after, subst (λ (file : Tree). Builds all spec file after) built next, refl)
builds_more all (first ∷ front) spec before middle after built next =
    (built.0, built.1, builds_more all front spec built.0 middle after built.2 next)

-- ---- an image with a layout

laid_builds : (planned : Kind) → IsTrue (is_planned planned) → (all : List ImageSpec) (before : Tree) (spec : ImageSpec)
    (after : Tree) → IsLaid before spec after → IsOfKind planned all before spec after
laid_builds kind.Hd is all before spec after laid = laid
laid_builds kind.Plain is all before spec after laid = laid
laid_builds kind.Flash is all before spec after laid = laid
laid_builds kind.Sparse is all before spec after laid = absurd (cc)
laid_builds kind.Ready is all before spec after laid = absurd (cc)

made_has : (layout : Layout) (before after : Tree) → IsMade layout before after
    → HasLayout layout before layout.file after
made_has layout before after made = record { there = made.there; size = made.size; each = made.each }

-- an image whose layout is composed is built
pub composed_builds : (all : List ImageSpec) (spec : ImageSpec) (layout : Layout) (before after : Tree)
    → IsTrue (is_planned spec.kind) → plan_said before spec ≡ Ok layout → IsLayout layout → IsMade layout before after
    → IsReadBack layout after → OthersStay layout.file before after → Builds all spec before after
composed_builds all spec layout before after planned plan apart made back others =
    let same : layout.file ≡ spec.full = file_of_plan before spec layout plan in
    record {
      made = laid_builds spec.kind planned all before spec after (record {
        layout = layout;
        plan = plan;
        apart = apart;
        has = subst (λ (name : List ℕ). HasLayout layout before name after) same (made_has layout before after made);
        back = subst (λ (name : List ℕ). ReadsBack (λ o. slice_index (bytes_of after name) o) layout) same back;
      });
      others = subst (λ (name : List ℕ). OthersStay name before after) same others;
    }

-- ---- a sparse image

-- so many bytes of a file are the file, where that is its length
pub sized_same : (size : ℕ) (bytes : List ℕ) → size ≡ length bytes → take size (bytes ++ replicate size 0) ≡ bytes
sized_same size bytes long =
    subst (λ (n : ℕ). take n (bytes ++ replicate n 0) ≡ bytes) (sym long)
    (take-append_seam bytes (replicate (length bytes) 0))

-- one whose source's bytes are written with the cover of what is built for it is built
pub sparse_builds : (all : List ImageSpec) (spec : ImageSpec) (source : Source) (name : List ℕ) (size : ℕ)
    (cover : List Span) (before after : Tree) → spec.kind ≡ kind.Sparse → spec.sources ≡ source ∷ []
    → source.file ≡ Some name → before name ≡ Some (bytes_of before name) → size ≡ length (bytes_of before name)
    → size ≤ 2 ^ 43 → IsCoverFor before size cover (child_in all source)
    → IsThere after spec.full (IsSparseText (take size (bytes_of before name ++ replicate size 0)) cover
    spec.keys.sparse.block_size (bytes_of after spec.full))
    → OthersStay spec.full before after → Builds all spec before after
sparse_builds all spec source name size cover before after is one named found long small counts has others = record {
  made = subst (λ (k : Kind). IsOfKind k all before spec after) (sym is) (record {
    source = source;
    one = one;
    name = name;
    named = named;
    found = found;
    small = subst (λ (n : ℕ). n ≤ 2 ^ 43) long small;
    cover = cover;
    counts = subst (λ (n : ℕ). IsCoverFor before n cover (child_in all source)) long counts;
    has = (
      has.0,
      subst (λ (bytes : List ℕ). IsSparseText bytes cover spec.keys.sparse.block_size
          (bytes_of after spec.full)) (sized_same size (bytes_of before name) long) has.1,
    );
  });
  others = others;
}
