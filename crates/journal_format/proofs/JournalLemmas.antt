-- One image of a journal beside another.
use Rattle.std.specs.Prelude.{◌≡◌, ◌≢◌, ℕ, ◌+◌, ◌<◌, ◌≤◌, Bool, true, false, List, length, take, drop, get_or, slice_index, nat_eq}
use Rattle.std.specs.List.{starts_with}
use Rattle.std.specs.Cmp.Lexicographic.{same_text, other_text}
use Rattle.std.proofs.Common.{refl, ◌∙◌, sym, ap, subst, inl, inr, ⊎_elim, arith}
use Rattle.std.proofs.lemmas.Bool.{false≢true}
use Rattle.std.proofs.lemmas.Grind.{same_number_lists}
use Rattle.std.proofs.lemmas.List.{get_or-drop, get_or-take, length-drop, length-take-le}
use Rattle.journal_format.specs.Journals.{HasVersion, IsHeld, IsOpenedFor, IsWindow, fields_in, magic_1, magic_2, window_of}
use Rattle.journal_format.specs.declared.jobs.JobId.{JobId}

-- ---- magics and windows

-- what the test of a magic says
pub begins : (r : Bool) (j magic : List ℕ) → length magic ≡ 8 → r ≡ starts_with nat_eq j magic → (r ≡ true → take 8 j ≡ magic) × (take 8 j ≡ magic → r ≡ true)
begins true j magic long e =
    (λ is. sym (same_text magic (take (length magic) j) e ∙ ap (λ (n : ℕ). take n j) long), λ same. refl)
begins false j magic long e =
    (λ is. absurd (cc), λ same. absurd (other_text magic (take (length magic) j) e (sym same ∙ ap (λ (n : ℕ). take n j) (sym long))))

pub window_1 : (j : List ℕ) → take 8 j ≡ magic_1 → window_of j ≡ 1
unfolding magic_1
window_1 j e = rw e refl

pub window_2 : (j : List ℕ) → take 8 j ≡ magic_2 → window_of j ≡ slice_index j 9
unfolding magic_1 magic_2
window_2 j e = rw e refl

-- no version, where neither magic is there
pub no_version : (first second : Bool) (j : List ℕ) → first ≡ false → second ≡ false → (take 8 j ≡ magic_1 → first ≡ true) → (take 8 j ≡ magic_2 → second ≡ true) → ¬ HasVersion j
no_version first second j not_first not_second is_first is_second version =
    ⊎_elim (λ h. let e : first ≡ true = is_first h in absurd (false≢true (sym not_first ∙ e))) (λ h. let e : second ≡ true = is_second h.0 in absurd (false≢true (sym not_second ∙ e))) version

-- the second version has a window from 1 to 16
pub second_version : (first : Bool) (j : List ℕ) → first ≡ false → (take 8 j ≡ magic_1 → first ≡ true) → HasVersion j → IsWindow (slice_index j 9)
second_version first j not_first is_first version =
    ⊎_elim (λ h. let e : first ≡ true = is_first h in absurd (false≢true (sym not_first ∙ e))) (λ h. h.1) version

-- ---- images with the same bytes

-- the bytes below a place are the same
abbrev pub SameBelow : ℕ → List ℕ → List ℕ → Type 0
SameBelow n a b = (k : ℕ) → k < n → slice_index b k ≡ slice_index a k

-- a run of bytes is that of the other, where each byte of it is
pub same_run : (at n : ℕ) (a b : List ℕ) → at + n ≤ length a → at + n ≤ length b → ((k : ℕ) → at ≤ k → k < at + n → slice_index b k ≡ slice_index a k) → take n (drop at b) ≡ take n (drop at a)
same_run at n a b in_a in_b same =
    let long : (xs : List ℕ) → at + n ≤ length xs → length (take n (drop at xs)) ≡ n = λ xs within. length-take-le n (drop at xs) (omega (arith, length-drop at xs)) in
    let byte : (xs : List ℕ) (k : ℕ) → k < n → get_or (take n (drop at xs)) k 0 ≡ slice_index xs (at + k) = λ xs k h. get_or-take n (drop at xs) k 0 h ∙ get_or-drop at xs k 0 in
    same_number_lists (take n (drop at b)) (take n (drop at a)) (long b in_b ∙ sym (long a in_a)) (λ k h. let inside : k < n = let len = long b in_b in omega arith in byte b k inside ∙ same (at + k) (omega arith) (omega arith) ∙ sym (byte a k inside))

pub same_front : (n : ℕ) (a b : List ℕ) → n ≤ length a → n ≤ length b → SameBelow n a b → take n b ≡ take n a
same_front n a b in_a in_b same =
    let in_a' : 0 + n ≤ length a = omega arith in
    let in_b' : 0 + n ≤ length b = omega arith in
    same_run 0 n a b in_a' in_b' (λ k low high. same k (omega arith))

-- the version, the window and the fields are those of the bytes in front of the marks, but for the gate
pub record SameHead (a b : List ℕ) : Type 0 where
  pub magic : take 8 b ≡ take 8 a
  pub window : slice_index b 9 ≡ slice_index a 9
  pub fields : fields_in b ≡ fields_in a

pub same_head : (a b : List ℕ) → 80 ≤ length a → 80 ≤ length b → ((k : ℕ) → k < 80 → k ≢ 8 → slice_index b k ≡ slice_index a k) → SameHead a b
same_head a b in_a in_b same = record {
  magic = same_front 8 a b (omega arith) (omega arith) (λ k h. same k (omega arith) (omega arith));
  window = same 9 (omega arith) (omega arith);
  fields = same_run 16 64 a b (omega arith) (omega arith) (λ k low high. same k (omega arith) (omega arith));
}

pub same_version : (a b : List ℕ) → SameHead a b → HasVersion a → HasVersion b
same_version a b head version =
    ⊎_elim (λ first. inl (head.magic ∙ first)) (λ second. inr (head.magic ∙ second.0, subst IsWindow (sym head.window) second.1)) version

pub same_window : (a b : List ℕ) → SameHead a b → HasVersion a → window_of b ≡ window_of a
same_window a b head version =
    ⊎_elim (λ first. window_1 b (head.magic ∙ first) ∙ sym (window_1 a first)) (λ second. window_2 b (head.magic ∙ second.0) ∙ (head.window ∙ sym (window_2 a second.0))) version

-- held is held, where the bytes in front of the marks are the same
pub same_held : (a b : List ℕ) → 80 ≤ length b → SameBelow 80 a b → IsHeld a → IsHeld b
same_held a b in_b same held = record {
  long = in_b;
  gate = same 8 (omega arith) ∙ held.gate;
  version = same_version a b (same_head a b held.long in_b (λ k h other. same k h)) held.version;
}

-- opened is opened, where the bytes in front of the marks are the same
pub same_opened : (id : JobId) (a b : List ℕ) → length b ≡ length a → SameBelow 80 a b → IsOpenedFor id a → IsOpenedFor id b
same_opened id a b size same opened =
    let in_a : 80 ≤ length a = opened.held.long in
    let in_b : 80 ≤ length b = omega arith in
    record {
      held = same_held a b in_b same opened.held;
      fields = (same_head a b in_a in_b (λ k h other. same k h)).fields ∙ opened.fields;
      long = let long = opened.long in omega arith;
    }

-- ---- the first 80 bytes tell it

take_below : (j : List ℕ) → SameBelow 80 j (take 80 j)
take_below j k h = get_or-take 80 j k 0 h

long_front : (j : List ℕ) → 80 ≤ length j → 80 ≤ length (take 80 j)
long_front j h = let long = length-take-le 80 j h in omega (arith, long)

pub held_front : (j : List ℕ) → 80 ≤ length j → IsHeld (take 80 j) → IsHeld j
held_front j long held = same_held (take 80 j) j long (λ k h. sym (take_below j k h)) held

pub held_in_front : (j : List ℕ) → IsHeld j → IsHeld (take 80 j)
held_in_front j held = same_held j (take 80 j) (long_front j held.long) (take_below j) held

front_head : (j : List ℕ) → 80 ≤ length j → SameHead j (take 80 j)
front_head j long = same_head j (take 80 j) long (long_front j long) (λ k h other. take_below j k h)

pub front_fields : (j : List ℕ) → 80 ≤ length j → fields_in (take 80 j) ≡ fields_in j
front_fields j long = (front_head j long).fields

pub front_window : (j : List ℕ) → IsHeld j → window_of (take 80 j) ≡ window_of j
front_window j held = same_window j (take 80 j) (front_head j held.long) held.version
