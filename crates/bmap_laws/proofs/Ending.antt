-- The map of a text in which all has stood.
use Rattle.std.proofs.Common.{◌≡◌, ℕ, ◌+◌, ◌≤◌, true, nat_eq, nat_le, List, [], ◌∷◌, ◌++◌, length, take, drop, replicate, Ok, codes}
use Rattle.std.proofs.Common.{ap, append_assoc, drop_at, eq-eqb, le-leb, refl, rules, sym, ◌∙◌}
use Rattle.std.proofs.Math.Seq.{drop-append-add, take-append_seam}
use Rattle.std.proofs.lemmas.Grind.{flat_map-append}
use Rattle.std.specs.Str.{bytes_eq}
use Rattle.sha2.specs.Sha256.{sha256}
use Rattle.block_map.specs.Maps.{block_count, blocks_in}
use Rattle.block_map.specs.declared.maps.BlockMap.{BlockMap}
use Rattle.bmap_grammar.specs.Document.{enough_blocks, map_of, same_count, same_sum, sum_of}
use Rattle.bmap_grammar.specs.Stood.{next_of}
use Rattle.bmap_writer.specs.Parts.{back_of, front_of}
use Rattle.bmap_writer.specs.Written.{back_lines, closing, element, ended, front_lines, opening, text_of, text_with}
use Rattle.bmap_laws.proofs.States.{all_stood}
use lib.Pointwise.{bytes_decides}

-- ---- the counts

right_count : (n : ℕ) → same_count n n ≡ Ok tt
right_count n = let same : nat_eq n n ≡ true = eq-eqb n n refl in rw same refl

enough : (want got : ℕ) → got ≤ want → enough_blocks want got ≡ Ok tt
enough want got h = let fits : nat_le got want ≡ true = le-leb got want h in rw fits refl

right_sum : (want got : List ℕ) → want ≡ got → same_sum want got ≡ Ok tt
right_sum want got h = let same : bytes_eq want got ≡ true = (bytes_decides want got).1 h in rw same refl

pub map_found : (m : BlockMap) (text digest : List ℕ) (place : ℕ) → digest ≡ sum_of text place →
    next_of m.ranges ≤ block_count m → map_of text (all_stood m place digest) ≡ Ok m
map_found m text digest place sum fits =
    let blocks = right_count (block_count m) in
    let mapped = right_count (blocks_in m.ranges) in
    let last = enough (block_count m) (next_of m.ranges) fits in
    let same = right_sum digest (sum_of text place) sum in
    rw (blocks, mapped, last, same) refl

-- ---- the sum

-- a value within its line
around_value : (start o v c rest : List ℕ) →
    start ++ (((o ++ (v ++ c)) ++ 10 ∷ []) ++ rest) ≡ (start ++ o) ++ (v ++ ((c ++ 10 ∷ []) ++ rest))
around_value start o v c rest = search (rules, append_assoc)

-- the text of a map is what stands in front of the sum, the sum, and what stands behind it
pub text_parts : (m : BlockMap) (digits : List ℕ) → text_with m digits ≡ front_of m ++ (digits ++ back_of m.ranges)
text_parts m digits =
    flat_map-append ended (front_lines m) (element (codes "BmapFileChecksum") digits ∷ back_lines m.ranges)
    ∙ around_value (text_of (front_lines m)) (opening (codes "BmapFileChecksum")) digits
    (closing (codes "BmapFileChecksum")) (text_of (back_lines m.ranges))

-- zeros over a value in the middle
zeros_over : (front digits back zeros : List ℕ) → length digits ≡ 64 →
    take (length front) (front ++ (digits ++ back)) ++ zeros ++ drop (length front + 64) (front ++ (digits ++ back))
    ≡ front ++ (zeros ++ back)
zeros_over front digits back zeros long =
    let first = take-append_seam front (digits ++ back) in
    let behind = drop-append-add front (digits ++ back) 64 ∙ drop_at digits back 64 long in
    ap (λ (xs : List ℕ). xs ++ zeros ++ drop (length front + 64) (front ++ (digits ++ back))) first
    ∙ (ap (λ (xs : List ℕ). front ++ zeros ++ xs) behind ∙ append_assoc front zeros back)

sum_between : (text front digits back : List ℕ) → text ≡ front ++ (digits ++ back) → length digits ≡ 64 →
    sum_of text (length front) ≡ sha256 (front ++ (replicate 64 48 ++ back))
unfolding sum_of
sum_between text front digits back is long =
    ap (λ (xs : List ℕ). sha256 (take (length front) xs ++ replicate 64 48 ++ drop (length front + 64) xs)) is
    ∙ ap sha256 (zeros_over front digits back (replicate 64 48) long)

pub sum_there : (m : BlockMap) (digits : List ℕ) → length digits ≡ 64 →
    sum_of (text_with m digits) (length (front_of m)) ≡ sha256 (text_with m (replicate 64 48))
sum_there m digits long =
    sum_between (text_with m digits) (front_of m) digits (back_of m.ranges) (text_parts m digits) long
    ∙ ap sha256 (sym (text_parts m (replicate 64 48)))
