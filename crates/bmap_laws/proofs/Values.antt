-- Values between tags.
use Rattle.std.proofs.Common.{◌≡◌, ℕ, ◌+◌, ◌-◌, ◌^◌, ◌<◌, ◌≤◌, ◌==◌, Bool, true, false, not, nat_eq, nat_le, nat_lt, List, [], ◌∷◌, ◌++◌}
use Rattle.std.proofs.Common.{length, take, drop, reverse, decimal, Option, Some, option_map, position, refl, ap, sym, ◌∙◌}
use Rattle.std.proofs.Common.{append_assoc, arith, drop-drop, eqb-true, length-append, le-leb, lt-ltb, ne_eqb}
use Rattle.std.proofs.Math.Seq.{drop-append_seam, take-append_seam, drop-append-add}
use Rattle.std.proofs.lemmas.Fmt.{decimal_is_IsNumeral, length-decimal-le}
use Rattle.std.proofs.lemmas.List.{reverse-append}
use Rattle.std.specs.Char.{is_ascii_digit}
use Rattle.std.specs.List.{list_all, prefix_len}
use Rattle.block_map.specs.declared.maps.Range.{Range}
use Rattle.bmap_grammar.specs.Items.{number_at, number_in, sized}
use Rattle.bmap_grammar.specs.Text.{◌>>=◌, bare_in, blocks_by, blocks_of, element_of, inside_len, is_space, moved, number_of}
use Rattle.bmap_grammar.specs.Text.{spaces, spaces_behind, tag_len, valued}
use Rattle.bmap_grammar.specs.declared.items.Field.{Field}
use Rattle.bmap_grammar.specs.declared.items.Held.{Held}
use Rattle.bmap_grammar.specs.declared.items.Item.TheVariants as item
use Rattle.bmap_grammar.specs.declared.items.Piece.{Piece}
use Rattle.bmap_writer.specs.Written.{range_blocks}
use Rattle.bmap_laws.proofs.Bytes.{Pass, digits_all, digits_pass, digits_plain, found, is_plain, no_run, not_found, other}
use Rattle.bmap_laws.proofs.Bytes.{pass_both, pass_reverse, pass_so, plain_inside, plain_space, run_ends}

-- ---- a value with a space on each side

abbrev pub spaced : List ℕ → List ℕ
spaced value = 32 ∷ (value ++ 32 ∷ [])

no_spaces : (value rest : List ℕ) → 0 < length value → Pass is_plain value → spaces (value ++ rest) ≡ 0
no_spaces [] rest some h = absurd (omega arith)
no_spaces (b ∷ value) rest some h = rw (plain_space b h.0) refl

one_behind : (value : List ℕ) → Pass is_plain value → spaces_behind (value ++ 32 ∷ []) ≡ 1
one_behind value h =
    let turned : reverse (value ++ 32 ∷ []) ≡ 32 ∷ reverse value = reverse-append value (32 ∷ []) in
    let none = no_run is_space is_plain (reverse value) plain_space (pass_reverse is_plain value h) in
    ap (prefix_len is_space) turned ∙ ap (λ (n : ℕ). 1 + n) none

held_same : (at at' count count' len len' : ℕ) → at ≡ at' → count ≡ count' → len ≡ len' →
    ◌≡◌ {A = Held} (record { at = at; count = count; len = len }) (record { at = at'; count = count'; len = len' })
held_same at at' count count' len len' p q r = λ i. record { at = p i; count = q i; len = r i }

bare_spaced : (value : List ℕ) (n : ℕ) → 0 < length value → Pass is_plain value →
    bare_in (spaced value) n ≡ record { at = 1; count = length value; len = length value + 2 + n }
bare_spaced value n some h =
    let none = no_spaces value (32 ∷ []) some h in
    let place : spaces (spaced value) ≡ 1 = ap (λ (k : ℕ). 1 + k) none in
    let long = length-append value (32 ∷ []) in
    let behind = one_behind value h in
    let held : length (value ++ 32 ∷ []) - spaces_behind (value ++ 32 ∷ []) ≡ length value =
    omega (arith, long, behind) in
    held_same _ _ _ _ _ _ place
    (ap (λ (k : ℕ). length (drop k (spaced value)) - spaces_behind (drop k (spaced value))) place ∙ held)
    (omega (arith, long))

pub valued_spaced : (closing tail value : List ℕ) (n : ℕ) → 0 < length value → Pass is_plain value →
    tag_len closing (60 ∷ tail) ≡ Some n →
    valued closing (32 ∷ (value ++ 32 ∷ 60 ∷ tail))
    ≡ Some (record { at = 1; count = length value; len = length value + 2 + n })
valued_spaced closing tail value n some h tag =
    let text : List ℕ = spaced value ++ 60 ∷ tail in
    let is : 32 ∷ (value ++ 32 ∷ 60 ∷ tail) ≡ text =
    ap (λ (xs : List ℕ). 32 ∷ xs) (sym (append_assoc value (32 ∷ []) (60 ∷ tail))) in
    let within : ℕ → Bool = λ b. not (b == 60) in
    let inside : Pass within (spaced value) =
    (refl, pass_both within value (32 ∷ []) (pass_so is_plain within value plain_inside h) (refl, tt)) in
    let long : inside_len text ≡ length (spaced value) = run_ends within (spaced value) 60 tail inside refl in
    let first : take (inside_len text) text ≡ spaced value =
    ap (λ (k : ℕ). take k text) long ∙ take-append_seam (spaced value) (60 ∷ tail) in
    let rest : drop (inside_len text) text ≡ 60 ∷ tail =
    ap (λ (k : ℕ). drop k text) long ∙ drop-append_seam (spaced value) (60 ∷ tail) in
    ap (valued closing) is
    ∙ (ap (λ (xs : List ℕ). option_map (bare_in xs) (tag_len closing (drop (inside_len text) text))) first
    ∙ (ap (λ (xs : List ℕ). option_map (bare_in (spaced value)) (tag_len closing xs)) rest
    ∙ (ap (λ (o : Option ℕ). option_map (bare_in (spaced value)) o) tag ∙ ap Some (bare_spaced value n some h))))

-- ---- an element whose value stands so

pub record IsElement (opening closing text value tail : List ℕ) (k n : ℕ) : Type 0 where
  pub opens : tag_len opening text ≡ Some k
  pub holds : drop k text ≡ 32 ∷ (value ++ 32 ∷ 60 ∷ tail)
  pub some : 0 < length value
  pub plain : Pass is_plain value
  pub closes : tag_len closing (60 ∷ tail) ≡ Some n

abbrev pub held_at : ℕ → List ℕ → ℕ → Held
held_at k value n = record { at = k + 1; count = length value; len = k + (length value + 2 + n) }

pub element_held : (opening closing text value tail : List ℕ) (k n : ℕ) →
    IsElement opening closing text value tail k n → element_of opening closing text ≡ Some (held_at k value n)
element_held opening closing text value tail k n h =
    ap (λ (o : Option ℕ). o >>= λ j. moved j (valued closing (drop j text))) h.opens
    ∙ (ap (λ (xs : List ℕ). moved k (valued closing xs)) h.holds
    ∙ ap (moved k) (valued_spaced closing tail value n h.some h.plain h.closes))

pub value_there : (text value tail : List ℕ) (k : ℕ) → drop k text ≡ 32 ∷ (value ++ tail) →
    take (length value) (drop (k + 1) text) ≡ value
value_there text value tail k holds =
    ap (take (length value)) (sym (drop-drop 1 k text) ∙ ap (drop 1) holds) ∙ take-append_seam value tail

pub number_read : (field : Field) (opening closing text value tail : List ℕ) (k n number : ℕ) →
    IsElement opening closing text value tail k n → number_of value ≡ Some number →
    number_at field opening closing text ≡ Some (sized (item.Number field number) (k + (length value + 2 + n)))
number_read field opening closing text value tail k n number h is =
    let made : Option ℕ → Option Piece =
    λ o. option_map (λ x. sized (item.Number field x) (k + (length value + 2 + n))) o in
    ap (λ (o : Option Held). o >>= number_in field text) (element_held opening closing text value tail k n h)
    ∙ (ap (λ (xs : List ℕ). made (number_of xs)) (value_there text value (32 ∷ 60 ∷ tail) k h.holds) ∙ ap made is)

-- ---- numbers

pub decimal_number : (n : ℕ) → n < 2 ^ 64 → number_of (decimal n) ≡ Some n
decimal_number n h =
    let is = decimal_is_IsNumeral n h in
    let all : list_all is_ascii_digit (decimal n) ≡ true = digits_all (decimal n) is.0.1 in
    let some : nat_lt 0 (length (decimal n)) ≡ true = lt-ltb 0 (length (decimal n)) is.0.0 in
    let short : nat_le (length (decimal n)) 20 ≡ true =
    le-leb (length (decimal n)) 20 (length-decimal-le 20 n (omega arith) (omega (arith, h)) h) in
    rw (all, some, short) (rw (is.1, lt-ltb n (2 ^ 64) h) refl)

pub decimal_plain : (n : ℕ) → n < 2 ^ 64 → Pass is_plain (decimal n)
decimal_plain n h = digits_plain (decimal n) (decimal_is_IsNumeral n h).0.1

pub decimal_some : (n : ℕ) → n < 2 ^ 64 → 0 < length (decimal n)
decimal_some n h = (decimal_is_IsNumeral n h).0.0

-- ---- the blocks of a range

abbrev is_dash : ℕ → Bool
is_dash b = b == 45

no_digit : (b : ℕ) → 48 ≤ b → b ≤ 57 → other is_dash b ≡ true
no_digit b low high = ap not (ne_eqb b 45 (omega arith))

no_dash : (n : ℕ) → n < 2 ^ 64 → Pass (other is_dash) (decimal n)
no_dash n h = digits_pass (other is_dash) (decimal n) no_digit (decimal_is_IsNumeral n h).0.1

one_block : (n : ℕ) → n < 2 ^ 64 → blocks_of (decimal n) ≡ Some (n, n)
one_block n h =
    ap (blocks_by (decimal n)) (not_found is_dash (decimal n) (no_dash n h))
    ∙ ap (λ (o : Option ℕ). option_map (λ k. (k, k)) o) (decimal_number n h)

two_blocks : (first last : ℕ) → first < 2 ^ 64 → last < 2 ^ 64 →
    blocks_of (decimal first ++ 45 ∷ decimal last) ≡ Some (first, last)
two_blocks first last f l =
    let text : List ℕ = decimal first ++ 45 ∷ decimal last in
    let place : position is_dash text ≡ Some (length (decimal first)) =
    found is_dash (decimal first) 45 (decimal last) (no_dash first f) refl in
    let front : take (length (decimal first)) text ≡ decimal first =
    take-append_seam (decimal first) (45 ∷ decimal last) in
    let back : drop (length (decimal first) + 1) text ≡ decimal last =
    drop-append-add (decimal first) (45 ∷ decimal last) 1 in
    ap (blocks_by text) place
    ∙ rw (front, back, decimal_number first f, decimal_number last l) refl

blocks_by_test : (r : Range) (t : Bool) → nat_eq r.first r.last ≡ t → r.first < 2 ^ 64 → r.last < 2 ^ 64 →
    blocks_of (range_blocks r) ≡ Some (r.first, r.last)
blocks_by_test r true e f l = rw e (one_block r.first f ∙ ap (λ (n : ℕ). Some (r.first, n)) (eqb-true r.first r.last e))
blocks_by_test r false e f l =
    rw e (ap blocks_of (append_assoc (decimal r.first) (45 ∷ []) (decimal r.last)) ∙ two_blocks r.first r.last f l)

pub blocks_read : (r : Range) → r.first < 2 ^ 64 → r.last < 2 ^ 64 → blocks_of (range_blocks r) ≡ Some (r.first, r.last)
blocks_read r f l = blocks_by_test r (nat_eq r.first r.last) refl f l

plain_by_test : (r : Range) (t : Bool) → nat_eq r.first r.last ≡ t → r.first < 2 ^ 64 → r.last < 2 ^ 64 →
    Pass is_plain (range_blocks r) × (0 < length (range_blocks r))
plain_by_test r true e f l = rw e (decimal_plain r.first f, decimal_some r.first f)
plain_by_test r false e f l =
    let both = length-append (decimal r.first ++ 45 ∷ []) (decimal r.last) in
    let some = decimal_some r.last l in
    rw e (
      pass_both is_plain (decimal r.first ++ 45 ∷ []) (decimal r.last)
          (pass_both is_plain (decimal r.first) (45 ∷ []) (decimal_plain r.first f) (refl, tt))
          (decimal_plain r.last l),
      omega (arith, both, some),
    )

pub blocks_plain : (r : Range) → r.first < 2 ^ 64 → r.last < 2 ^ 64 →
    Pass is_plain (range_blocks r) × (0 < length (range_blocks r))
blocks_plain r f l = plain_by_test r (nat_eq r.first r.last) refl f l
