-- What a write of units to the target keeps.
use Rattle.std.proofs.Common.{◌≡◌, ℕ, ◌+◌, List, inl, inr, sym, ◌∙◌}
use Rattle.std.proofs.lemmas.Bool.{cases_lt}
use Rattle.std.specs.Prelude.{Option, None, Some, IfSome}
use Rattle.span_cover.specs.Cover.{has}
use Rattle.span_cover.proofs.Spans.{has_in}
use Rattle.block_map.specs.Maps.{digest_in}
use Rattle.block_map.specs.declared.maps.BlockMap.{BlockMap}
use Rattle.block_map.specs.declared.maps.Range.{Range}
use Rattle.block_map.proofs.Numbering.{unit_is}
use Rattle.copy_states.specs.Jobs.{HasFrom, SameIn}
use Rattle.copy_states.specs.Standing.{HasItsDigest}
use Rattle.copy_laws.specs.Writes.{OneUnitTorn, WritesKeepBytes, WritesKeepDigests, WritesKeepSince, WritesKeepStanding, WritesKeepTheRest}
use Rattle.copy_laws.proofs.UnitBytes.{other_unit, same_digest, some_unit}

-- a range's digest is that of another image with the same digest there
pub digest_kept : (m : BlockMap) (t new : List ℕ) (range : Range) → digest_in m new range ≡ digest_in m t range → HasItsDigest m t range → HasItsDigest m new range
digest_kept m t new range same has = by_cases range.digest has
  where
    by_cases : (digest : Option (List ℕ)) → IfSome digest (λ d. d ≡ digest_in m t range) → IfSome digest (λ d. d ≡ digest_in m new range)
    by_cases None h = h
    by_cases (Some d) h = h ∙ sym same

pub source_kept : (source : Option (List ℕ)) (P Q : List ℕ → Type 0) → ((s : List ℕ) → P s → Q s) → IfSome source P → IfSome source Q
source_kept None P Q f h = h
source_kept (Some s) P Q f h = f s h

pub one_unit_torn : OneUnitTorn
one_unit_torn id m ks k t new mine torn = record {
  size = torn.torn.size;
  same = λ o out. elim (cases_lt o torn.span.at) [
    | inl before ↦ torn.torn.below o before
    | inr from ↦ elim (cases_lt o (torn.span.at + torn.span.len)) [
      | inl inside ↦ absurd (out (k, torn.span, mine, torn.is, has_in torn.span o from inside))
      | inr behind ↦ torn.torn.above o behind
    ]
  ];
}

pub writes_keep_digests : WritesKeepDigests
writes_keep_digests id m ks t new j job torn unchecked right r range is checked =
    digest_kept m t new range
    (same_digest id m r range t new job is (λ k u mine at. other_unit id m ks k u t new job torn at (λ among. unchecked k among r mine checked)))
    (right r range is checked)

pub writes_keep_bytes : WritesKeepBytes
writes_keep_bytes id m source ks t new j job torn unrecorded bytes =
    source_kept source _ _ (λ s h k u is recorded.
    let from : HasFrom u s t = h k u is recorded in
    let same : SameIn u t new = other_unit id m ks k u t new job torn is (λ among. unrecorded k among recorded) in
    record { there = from.there; same = same ∙ from.same }) bytes

pub writes_keep_the_rest : WritesKeepTheRest
writes_keep_the_rest id m ks before t new job torn rest = record {
  size = torn.size ∙ rest.size;
  bytes = λ o off. torn.same o (λ byte. off ((unit_is m id.unit byte.0 byte.1 job.map (some_unit id m job) byte.3).mapped o byte.4)) ∙ rest.bytes o off;
}

pub writes_keep_standing : WritesKeepStanding
writes_keep_standing id m source ks t new j job torn unrecorded unchecked standing = record {
  digests = writes_keep_digests id m ks t new j job torn unchecked standing.digests;
  bytes = writes_keep_bytes id m source ks t new j job torn unrecorded standing.bytes;
  marks = standing.marks;
}

pub writes_keep_since : WritesKeepSince
writes_keep_since id m source before ks t new j job torn unrecorded unchecked since = record {
  standing = writes_keep_standing id m source ks t new j job torn unrecorded unchecked since.standing;
  rest = writes_keep_the_rest id m ks before t new job torn since.rest;
}
