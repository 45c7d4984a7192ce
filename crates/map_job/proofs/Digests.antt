-- The digest of a range.
use Rattle.std.specs.Prelude.{◌≡◌, ℕ, ◌+◌, ◌<◌, ◌≤◌, List, Result, Ok, IsOkAnd, None, Option, Some, length}
use Rattle.std.proofs.Common.{ap, arith, subst, ◌∙◌}
use Rattle.std.proofs.lemmas.Bool.Decides.{nat_tests}
use Rattle.std.proofs.lemmas.List.{length-set}
use Rattle.sha2.specs.Sha256.{sha256}
use Rattle.base_fields.specs.declared.spans.Span.{Span}
use Rattle.block_map.specs.Laws.{DigestsGoOn}
use Rattle.block_map.specs.Maps.{HasDigestSet, IsMapTo, IsRangeBytes, part_of}
use Rattle.block_map.specs.declared.maps.BlockMap.{BlockMap}
use Rattle.block_map.specs.declared.maps.Range.{Range}
use Rattle.outside.specs.Files.{Tree, bytes_of}
use Rattle.outside.specs.Reading.{span_of}
use Rattle.outside.specs.declared.reading.FillFault.{FillFault}
use Rattle.range_digest.specs.Digests.{Digests}

-- a span that has bytes and lies within the file is there
pub span_there : (bytes : List ℕ) (span : Span) → 0 < span.len → span.at + span.len ≤ length bytes
    → span_of (Some bytes) span.at span.len ≡ Ok (part_of span bytes)
span_there bytes span some inside = grind (arith, nat_tests)

digest_is : (wanted : Result (List ℕ) FillFault) (bytes digest : List ℕ) → wanted ≡ Ok bytes
    → Digests wanted (Ok digest) → digest ≡ sha256 bytes
digest_is wanted bytes digest is given = subst (λ w. IsOkAnd w (λ bs. digest ≡ sha256 bs)) is given

-- the digest of a range more
pub digest_more : DigestsGoOn → (file : Option (List ℕ)) (spans : List Span) (bytes digest : List ℕ) (block k : ℕ)
    (old new : BlockMap) (span : Span) → file ≡ Some bytes → IsRangeBytes old k span → 0 < span.len
    → span.at + span.len ≤ length bytes → k < length old.ranges
    → Digests (span_of file span.at span.len) (Ok digest) → HasDigestSet old k digest new
    → IsMapTo spans bytes block k old → IsMapTo spans bytes block (k + 1) new
digest_more go_on file spans bytes digest block k old new span there range some inside below given set so_far =
    let d : Range = record { first = 0; last = 0; digest = None } in
    let is : digest ≡ sha256 (part_of span bytes) =
    digest_is (span_of file span.at span.len) (part_of span bytes) digest
    (ap (λ (f : Option (List ℕ)). span_of f span.at span.len) there ∙ span_there bytes span some inside) given in
    let of_range = is ∙ ap (λ (s : Span). sha256 (part_of s bytes)) (range d) in
    go_on spans bytes block k old new d so_far below (subst (λ (h : List ℕ). HasDigestSet old k h new) of_range set)

-- the same, of a file that is as before
pub range_more : (old now : Tree) (name : List ℕ) (spans : List Span) (block k : ℕ) (m n : BlockMap) → now ≡ old
    → (IsMapTo spans (bytes_of now name) block k m → IsMapTo spans (bytes_of now name) block (k + 1) n)
    → IsMapTo spans (bytes_of old name) block k m → IsMapTo spans (bytes_of old name) block (k + 1) n
range_more old now name spans block k m n same more =
    subst (λ (t : Tree). IsMapTo spans (bytes_of t name) block k m → IsMapTo spans (bytes_of t name) block (k + 1) n)
    same more

pub set_many : (old new : BlockMap) (k : ℕ) (digest : List ℕ) → HasDigestSet old k digest new
    → length new.ranges ≡ length old.ranges
set_many old new k digest set =
    let d : Range = record { first = 0; last = 0; digest = None } in
    ap (λ (rs : List Range). length rs) (set.ranges d) ∙ length-set old.ranges k _
