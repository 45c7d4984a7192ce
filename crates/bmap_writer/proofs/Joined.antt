-- Texts joined of parts.
use Rattle.std.specs.Prelude.{◌≡◌, ℕ, ◌+◌, List, [], ◌∷◌, ◌++◌, length, take, drop, codes, replicate}
use Rattle.std.proofs.Common.{ap, refl, sym, ◌∙◌, append_assoc, rules}
use Rattle.std.proofs.Math.Seq.{drop-append_seam, take-append_seam, drop-append-add}
use Rattle.std.proofs.lemmas.Grind.{flat_map-append}
use Rattle.hex.specs.Hex.{encode_lower}
use Rattle.sha2.specs.Sha256.{sha256}
use Rattle.base_fields.specs.Fields.{written}
use Rattle.block_map.specs.declared.maps.BlockMap.{BlockMap}
use Rattle.bmap_writer.specs.Parts.{back_of, front_of}
use Rattle.bmap_writer.specs.Written.{back_lines, closing, ended, element, front_lines, opening, text_of, text_with}
use Rattle.bmap_writer.specs.Written.{written_text}

-- a text with lines put behind it one by one
abbrev pub behind : List ℕ → List (List ℕ) → List ℕ
behind text [] = text
behind text (line ∷ more) = behind (text ++ ended line) more

behind_both : (text : List ℕ) (front back : List (List ℕ)) →
    behind text (front ++ back) ≡ behind (behind text front) back
behind_both text [] back = refl
behind_both text (line ∷ front) back = behind_both (text ++ ended line) front back

-- it is the text and that of the lines
behind_is : (text : List ℕ) (lines : List (List ℕ)) → behind text lines ≡ text ++ text_of lines
behind_is text [] = search (rules, append_assoc)
behind_is text (line ∷ more) = behind_is (text ++ ended line) more ∙ append_assoc text (ended line) (text_of more)

-- what lines put one by one give
pub lines_put : (text new : List ℕ) (lines : List (List ℕ)) → new ≡ behind text lines → new ≡ text ++ text_of lines
lines_put text new lines put = put ∙ behind_is text lines

-- what lines give that are put in front of others and behind them
pub frame_put : (text new : List ℕ) (front lines back : List (List ℕ)) →
    new ≡ behind (behind text front ++ text_of lines) back → new ≡ text ++ text_of (front ++ (lines ++ back))
frame_put text new front lines back put =
    put
    ∙ (ap (λ xs. behind xs back) (sym (behind_is (behind text front) lines))
    ∙ (sym (behind_both (behind text front) lines back)
    ∙ (sym (behind_both text front (lines ++ back)) ∙ behind_is text (front ++ (lines ++ back)))))

-- what the parts of a line give
pub parts_put : (text new a b c d e : List ℕ) → new ≡ ((((text ++ a) ++ b) ++ c) ++ d) ++ (e ++ 10 ∷ []) →
    new ≡ text ++ (((((a ++ b) ++ c) ++ d) ++ e) ++ 10 ∷ [])
parts_put text new a b c d e put = search (rules, append_assoc)

-- four parts put one behind another
pub four_put : (text x1 x2 x3 x4 a b c d : List ℕ) → x1 ≡ text ++ a → x2 ≡ x1 ++ b → x3 ≡ x2 ++ c → x4 ≡ x3 ++ d →
    x4 ≡ (((text ++ a) ++ b) ++ c) ++ d
four_put text x1 x2 x3 x4 a b c d e1 e2 e3 e4 =
    e4 ∙ ap (λ x. x ++ d) (e3 ∙ ap (λ x. x ++ c) (e2 ∙ ap (λ x. x ++ b) e1))

-- a value within its line
around : (start o v c rest : List ℕ) →
    start ++ (((o ++ (v ++ c)) ++ 10 ∷ []) ++ rest) ≡ (start ++ o) ++ (v ++ ((c ++ 10 ∷ []) ++ rest))
around start o v c rest = search (rules, append_assoc)

-- the text of a map is what stands in front of the sum, the sum, and what stands behind it
text_parts : (m : BlockMap) (digits : List ℕ) → text_with m digits ≡ front_of m ++ (digits ++ back_of m.ranges)
text_parts m digits =
    flat_map-append ended (front_lines m) (element (codes "BmapFileChecksum") digits ∷ back_lines m.ranges)
    ∙ around (text_of (front_lines m)) (opening (codes "BmapFileChecksum")) digits
    (closing (codes "BmapFileChecksum")) (text_of (back_lines m.ranges))

-- bytes written over as many in the middle
written_between : (front middle back bytes : List ℕ) → length bytes ≡ length middle →
    written (front ++ (middle ++ back)) (length front) bytes ≡ front ++ (bytes ++ back)
written_between front middle back bytes h =
    ap (λ xs. xs ++ bytes ++ drop (length front + length bytes) (front ++ (middle ++ back)))
    (take-append_seam front (middle ++ back))
    ∙ (ap (λ xs. front ++ bytes ++ xs) (drop-append-add front (middle ++ back) (length bytes)
    ∙ (ap (λ n. drop n (middle ++ back)) h ∙ drop-append_seam middle back))
    ∙ append_assoc front bytes back)

written_at : (front middle back bytes whole : List ℕ) (at : ℕ) → whole ≡ front ++ (middle ++ back) →
    at ≡ length front → length bytes ≡ length middle → written whole at bytes ≡ front ++ (bytes ++ back)
written_at front middle back bytes whole at is place h =
    ap (λ xs. written xs at bytes) is
    ∙ (ap (λ n. written (front ++ (middle ++ back)) n bytes) place ∙ written_between front middle back bytes h)

-- a vector whose items were all written holds what was written
pub held : (old new : List ℕ) (n : ℕ) → length new ≡ n → take n (new ++ drop (length new) old) ≡ new
held old new n is =
    ap (λ k. take k (new ++ drop (length new) old)) (sym is) ∙ take-append_seam new (drop (length new) old)

-- the sum of the text with zeros, put over them, gives the text of the map
pub sum_put : (m : BlockMap) (front whole new : List ℕ) (at : ℕ) → front ≡ front_of m →
    whole ≡ front ++ (replicate 64 48 ++ back_of m.ranges) → at ≡ length front →
    length (encode_lower (sha256 whole)) ≡ 64 → new ≡ written whole at (encode_lower (sha256 whole)) →
    new ≡ written_text m
sum_put m front whole new at head tail place size put =
    let is : whole ≡ front_of m ++ (replicate 64 48 ++ back_of m.ranges) =
    tail ∙ ap (λ xs. xs ++ (replicate 64 48 ++ back_of m.ranges)) head in
    put
    ∙ (written_at (front_of m) (replicate 64 48) (back_of m.ranges) (encode_lower (sha256 whole)) whole at is
    (place ∙ ap length head) size
    ∙ (sym (text_parts m (encode_lower (sha256 whole)))
    ∙ ap (λ xs. text_with m (encode_lower (sha256 xs))) (is ∙ sym (text_parts m (replicate 64 48)))))
