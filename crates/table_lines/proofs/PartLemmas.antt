-- The lengths of identifiers, and where a name ends.
use Rattle.std.specs.Prelude.{◌≡◌, ℕ, Bool, true, false, List, Some, None, cond, length, nat_lt, take}
use Rattle.std.specs.List.{before_first, position, position_or_len}
use Rattle.std.proofs.Common.{◌∙◌, ap, refl, sym}
use Rattle.std.proofs.lemmas.Bool.{ltb-false}
use Rattle.std.proofs.lemmas.List.{take_all}
use Rattle.uuid.proofs.TextLemmas.{by_index_length}
use Rattle.uuid.specs.Text.{hyphenated_text, lower}

pub identifier_long : (id text : List ℕ) → text ≡ hyphenated_text lower id → length text ≡ 36
identifier_long id text same = ap length same ∙ by_index_length 36 _

found_is : (b : Bool) (n end : ℕ) → cond b (Some n) None ≡ Some end → end ≡ n
found_is true n end found = let same : Some n ≡ Some end = found in cc
found_is false n end found = absurd (let no : None ≡ Some end = found in cc)

none_is : (b : Bool) (n : ℕ) → cond b (Some n) None ≡ None → b ≡ false
none_is true n none = absurd (let no : Some n ≡ None = none in cc)
none_is false n none = refl

-- what stands before the first that passes
pub before_found : (p : ℕ → Bool) (xs : List ℕ) (end : ℕ) → position p xs ≡ Some end → take end xs ≡ before_first p xs
before_found p xs end found =
    ap (λ (n : ℕ). take n xs) (found_is (nat_lt (position_or_len p xs) (length xs)) (position_or_len p xs) end found)

-- where none passes, all do
pub before_none : (p : ℕ → Bool) (xs : List ℕ) → position p xs ≡ None → xs ≡ before_first p xs
before_none p xs none =
    let past = none_is (nat_lt (position_or_len p xs) (length xs)) (position_or_len p xs) none in
    sym (take_all (position_or_len p xs) xs (ltb-false (position_or_len p xs) (length xs) past))
