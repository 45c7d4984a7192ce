-- The text of a map is read as that map.
use Rattle.std.specs.Prelude.{◌≡◌, ℕ, ◌≤◌, true, List, length, nat_le, All, Option, Some, IfSome, Result, Ok}
use Rattle.std.proofs.Common.{ap, refl, sym, subst, ◌∙◌}
use Rattle.std.proofs.lemmas.Bool.{le-leb}
use Rattle.sha2.specs.Sha256.{sha256}
use Rattle.base_fields.proofs.Binds.{bind_ok, when_ok}
use Rattle.base_fields.specs.Results.{◌>>=◌, refused_by, when}
use Rattle.block_map.specs.Maps.{HasDigest}
use Rattle.block_map.specs.declared.maps.BlockMap.{BlockMap}
use Rattle.bmap_grammar.specs.Document.{said}
use Rattle.bmap_grammar.specs.declared.faults.MapFault.{MapFault}
use Rattle.bmap_laws.proofs.Digests.{sum_is_digest}
use Rattle.bmap_laws.proofs.TheLaw.{written_texts_say_their_map}
use Rattle.bmap_laws.specs.Digests.{HasDigests, IsDigest}
use Rattle.bmap_writer.specs.Written.{written_text}
use Rattle.map_job.specs.Mapped.{IsMapped}
use Rattle.map_job.specs.Said.{Image}
use Rattle.map_job.specs.declared.mapping.Mapped.{Mapped}
use Rattle.map_source.specs.Faults.{fault_of}
use Rattle.map_source.specs.Said.{fitting, map_said, most_bytes, source_in}
use Rattle.map_source.specs.declared.faults.SourceFault.{SourceFault}
use Rattle.map_source.specs.declared.faults.SourceFault.TheVariants.{BadMap}
use Rattle.map_source.specs.declared.sources.MapSource.{MapSource}
use Rattle.image_laws.specs.Laws.{MappedTextsAreRead, MappedTextsAreTheMap}

-- the digests of an image's map are digests
have_digests : (m : BlockMap) (bytes : List ℕ) → All (HasDigest m bytes) m.ranges → HasDigests m
have_digests m bytes all k d below =
    subst (λ (digest : Option (List ℕ)). IfSome digest IsDigest) (sym (all k d below)) (sum_is_digest _)

-- what is read of a text that says a map
abbrev pub source_for : List ℕ → BlockMap → MapSource
source_for text m = record { map = m; digest = sha256 text }

source_of : (text : List ℕ) (m : BlockMap) → said text ≡ Ok m → source_in text ≡ Ok (source_for text m)
source_of text m says =
    ap (λ (r : Result BlockMap MapFault). refused_by fault_of r >>= (λ (map : BlockMap). Ok (source_for text map))) says

pub ok_same : {A E : Type 0} {x y : A} {r : Result A E} → r ≡ Ok x → r ≡ Ok y → x ≡ y
ok_same one other = cc

read_as : (text : List ℕ) (m : BlockMap) (source : MapSource) → said text ≡ Ok m → map_said (Some text) ≡ Ok source →
    source ≡ source_for text m
read_as text m source says read =
    let step : (found : List ℕ) × (fitting text ≡ Ok found) × (source_in found ≡ Ok source) = bind_ok (fitting text) source_in source read in
    let fits : (nat_le (length text) most_bytes ≡ true) × (text ≡ step.0) = when_ok (nat_le (length text) most_bytes) text step.0 (BadMap most_bytes) step.1 in
    ok_same (subst (λ (found : List ℕ). source_in found ≡ Ok source) (sym fits.1) step.2) (source_of text m says)

says_map : {image : Image} {block : ℕ} {file : Option (List ℕ)} {mapped : Mapped} →
    (is : IsMapped image block file mapped) → said (written_text is.map) ≡ Ok is.map
says_map {image} {block} {file} {mapped} is = written_texts_say_their_map is.map is.sound (have_digests is.map image.bytes is.is.digests)

pub mapped_texts : MappedTextsAreTheMap
mapped_texts image block file mapped source is read =
    ap (λ (s : MapSource). s.map)
    (read_as (written_text is.map) is.map source (says_map is)
    (subst (λ (f : Option (List ℕ)). map_said f ≡ Ok source) is.text read))

pub some_same : {A : Type 0} {x y : A} → Some x ≡ Some y → x ≡ y
some_same same = cc

-- a text that fits is taken
fits_in : (text : List ℕ) (n : ℕ) → length text ≤ n → when (nat_le (length text) n) text (BadMap n) ≡ Ok text
fits_in text n few = rw (le-leb (length text) n few) refl

read_in : (text : List ℕ) (m : BlockMap) → length text ≤ most_bytes → said text ≡ Ok m → map_said (Some text) ≡ Ok (source_for text m)
read_in text m few says = ap (λ (r : Result (List ℕ) SourceFault). r >>= source_in) (fits_in text most_bytes few) ∙ source_of text m says

pub mapped_read : MappedTextsAreRead
mapped_read image block text mapped is few =
    read_in text is.map few (subst (λ (w : List ℕ). said w ≡ Ok is.map) (sym (some_same is.text)) (says_map is))
