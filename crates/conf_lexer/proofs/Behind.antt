-- A piece that ends by itself is the same piece, whatever stands behind it.
use Rattle.std.proofs.Common.{◌≡◌, ℕ, zero, suc, ◌+◌, ◌-◌, ◌==◌, ◌<◌, Bool, true, false, ◌&&◌, ◌||◌, not, Option, Some, None, List, [], ◌∷◌, ◌++◌, length, take, drop, codes, cond, if◌then◌else◌, nat_lt, nat_le, arith, refl, ap, sym, ◌∙◌, length-append, length-drop}
use Rattle.std.proofs.lemmas.Bool.Decides.{nat_tests}
use Rattle.std.proofs.lemmas.List.{take-append-le, drop-append-le}
use Rattle.std.specs.List.{position, prefix_len}
use Rattle.conf_lexer.proofs.Steps.{part_above}
use Rattle.conf_lexer.specs.Text.{◌>>=◌, at_quote, begins, behind_dollar, behind_double, behind_name, body_len, ends_word, is_letter, is_name_byte, is_quotable, later, name_len, pair_part, parts_len, through, through_comment, variable_len, word_part}

-- what a test chooses, where each side stays
pub choice : {X : Type 0} (t u : Bool) (a c b d : Option X) (x : X) → (t ≡ true → (u ≡ true) × (a ≡ Some x → c ≡ Some x)) → (t ≡ false → b ≡ Some x → (u ≡ false) × (d ≡ Some x)) → (if t then a else b) ≡ Some x → (if u then c else d) ≡ Some x
choice true u a c b d x f g e = let h : (u ≡ true) × (a ≡ Some x → c ≡ Some x) = f refl in rw h.0 (h.1 e)
choice false u a c b d x f g e = let h : (u ≡ false) × (d ≡ Some x) = g refl e in rw h.0 h.1

-- the same at one test
pub chosen : {X : Type 0} (t : Bool) (a c b d : Option X) (x : X) → (t ≡ true → a ≡ Some x → c ≡ Some x) → (t ≡ false → b ≡ Some x → d ≡ Some x) → (if t then a else b) ≡ Some x → (if t then c else d) ≡ Some x
chosen true a c b d x f g e = f refl e
chosen false a c b d x f g e = g refl e

-- what each side of a test gives, the test gives
pub given : {X G : Type 0} (t : Bool) (a b : Option X) (x : X) → (t ≡ true → a ≡ Some x → G) → (t ≡ false → b ≡ Some x → G) → (if t then a else b) ≡ Some x → G
given true a b x f g e = f refl e
given false a b x f g e = g refl e

pub later_stays : (n : ℕ) (o p : Option ℕ) (k : ℕ) → ((j : ℕ) → o ≡ Some j → n + j ≡ k → p ≡ Some j) → later n o ≡ Some k → later n p ≡ Some k
later_stays n None p k f e = absurd (cc)
later_stays n (Some j) p k f e = let sum : n + j ≡ k = cc in ap (later n) (f j refl sum) ∙ e

pub bind_stays : {X : Type 0} (o p : Option ℕ) (f g : ℕ → Option X) (x : X) → ((n : ℕ) → o ≡ Some n → f n ≡ Some x → (p ≡ Some n) × (g n ≡ Some x)) → (o >>= f) ≡ Some x → (p >>= g) ≡ Some x
bind_stays None p f g x h e = absurd (cc)
bind_stays (Some n) p f g x h e = let both : (p ≡ Some n) × (g n ≡ Some x) = h n refl e in ap (λ o. o >>= g) both.0 ∙ both.1

pub bind_given : {X G : Type 0} (o : Option ℕ) (f : ℕ → Option X) (x : X) → ((n : ℕ) → o ≡ Some n → f n ≡ Some x → G) → (o >>= f) ≡ Some x → G
bind_given None f x h e = absurd (cc)
bind_given (Some n) f x h e = h n refl e

and_false : (t : Bool) → (t && false) ≡ false
and_false true = refl
and_false false = refl

-- one byte doesn't begin with two
pub one_begins : (x u v : ℕ) → begins (x ∷ []) (u ∷ v ∷ []) ≡ false
one_begins x u v = and_false _

prefix_choice : (t : Bool) (m n k : ℕ) → cond t (1 + m) 0 < suc k → (m < k → n ≡ m) → cond t (1 + n) 0 ≡ cond t (1 + m) 0
prefix_choice true m n k h f = let e : n ≡ m = f (omega arith) in ap (λ i. 1 + i) e
prefix_choice false m n k h f = refl

pub prefix_stays : (p : ℕ → Bool) (xs ys : List ℕ) → prefix_len p xs < length xs → prefix_len p (xs ++ ys) ≡ prefix_len p xs
prefix_stays p [] ys h = absurd (omega arith)
prefix_stays p (x ∷ xs) ys h = prefix_choice (p x) (prefix_len p xs) (prefix_len p (xs ++ ys)) (length xs) h (prefix_stays p xs ys)

place_choice : (t : Bool) (m k : ℕ) → cond t (Some m) None ≡ Some k → (t ≡ true) × (m ≡ k)
place_choice true m k e = (refl, cc)
place_choice false m k e = absurd (cc)

place_stays : (p : ℕ → Bool) (xs ys : List ℕ) (k : ℕ) → position p xs ≡ Some k → position p (xs ++ ys) ≡ Some k
place_stays p xs ys k e =
    let found = place_choice (nat_lt (prefix_len (λ c. not (p c)) xs) (length xs)) (prefix_len (λ c. not (p c)) xs) k e in
    let test : nat_lt (prefix_len (λ c. not (p c)) xs) (length xs) ≡ true = found.0 in
    let low : prefix_len (λ c. not (p c)) xs < length xs = grind (arith, nat_tests) in
    let same : prefix_len (λ c. not (p c)) (xs ++ ys) ≡ prefix_len (λ c. not (p c)) xs = prefix_stays (λ c. not (p c)) xs ys low in
    let long : prefix_len (λ c. not (p c)) xs < length (xs ++ ys) = simp length-append (omega arith) in
    let within : nat_lt (prefix_len (λ c. not (p c)) xs) (length (xs ++ ys)) ≡ true = grind (arith, nat_tests) in
    rw (same, within) (ap Some found.1)

pub through_stays : (c : ℕ) (xs ys : List ℕ) (k : ℕ) → through c xs ≡ Some k → through c (xs ++ ys) ≡ Some k
through_stays c xs ys k e = later_stays 1 (position (λ b. b == c) xs) (position (λ b. b == c) (xs ++ ys)) k (λ j h sum. place_stays (λ b. b == c) xs ys j h) e

pub comment_stays : (xs ys : List ℕ) (k : ℕ) → through_comment xs ≡ Some k → through_comment (xs ++ ys) ≡ Some k
comment_stays [] ys k e = absurd (cc)
comment_stays (x ∷ []) ys k e = absurd (cc (rw (one_begins x 42 47) at e))
comment_stays (x ∷ y ∷ xs) ys k e = chosen (begins (x ∷ y ∷ xs) (codes "*/")) (Some 2) (Some 2) (later 1 (through_comment (y ∷ xs))) (later 1 (through_comment (y ∷ (xs ++ ys)))) k (λ _ h. h) (λ _ h. later_stays 1 (through_comment (y ∷ xs)) (through_comment (y ∷ (xs ++ ys))) k (λ j g sum. comment_stays (y ∷ xs) ys j g) h) e

-- parts that end before the text does
pub parts_stay : (ends : List ℕ → Bool) (part : List ℕ → Option ℕ) → ((x : ℕ) (s b : List ℕ) → ends (x ∷ s) ≡ true → ends (x ∷ (s ++ b)) ≡ true) → ((x y : ℕ) (s b : List ℕ) → ends (x ∷ y ∷ s) ≡ false → ends (x ∷ y ∷ (s ++ b)) ≡ false) → ((x y : ℕ) (s b : List ℕ) (n : ℕ) → part (x ∷ y ∷ s) ≡ Some n → part (x ∷ y ∷ (s ++ b)) ≡ Some n) → (n : ℕ) (s b : List ℕ) (k : ℕ) → parts_len ends part n s ≡ Some k → k < length s → parts_len ends part n (s ++ b) ≡ Some k
parts_stay ends part E F P n [] b k e h = absurd (omega arith)
parts_stay ends part E F P (suc n) (x ∷ s) b k e h = later_stays 1 (parts_len ends part n s) (parts_len ends part n (s ++ b)) k (λ j g sum. parts_stay ends part E F P n s b j g (omega arith)) e
parts_stay ends part E F P zero (x ∷ []) b k e h = choice (ends (x ∷ [])) (ends (x ∷ b)) (Some 0) (Some 0) (part (x ∷ []) >>= λ n. later 1 (parts_len ends part (n - 1) [])) (part (x ∷ b) >>= λ n. later 1 (parts_len ends part (n - 1) b)) k (λ t. (E x [] b t, λ g. g)) (λ t g. let low : 0 < k = part_above (part (x ∷ [])) (λ n. parts_len ends part (n - 1) []) k g in absurd (omega arith)) e
parts_stay ends part E F P zero (x ∷ y ∷ s) b k e h = choice (ends (x ∷ y ∷ s)) (ends (x ∷ y ∷ (s ++ b))) (Some 0) (Some 0) (part (x ∷ y ∷ s) >>= λ n. later 1 (parts_len ends part (n - 1) (y ∷ s))) (part (x ∷ y ∷ (s ++ b)) >>= λ n. later 1 (parts_len ends part (n - 1) (y ∷ (s ++ b)))) k (λ t. (E x (y ∷ s) b t, λ g. g)) (λ t g. (F x y s b t, bind_stays (part (x ∷ y ∷ s)) (part (x ∷ y ∷ (s ++ b))) (λ n. later 1 (parts_len ends part (n - 1) (y ∷ s))) (λ n. later 1 (parts_len ends part (n - 1) (y ∷ (s ++ b)))) k (λ n f l. (P x y s b n f, later_stays 1 (parts_len ends part (n - 1) (y ∷ s)) (parts_len ends part (n - 1) (y ∷ (s ++ b))) k (λ j i sum. parts_stay ends part E F P (n - 1) (y ∷ s) b j i (omega arith)) l)) g)) e

-- a variable
name_end_some : (t : List ℕ) (i : ℕ) → behind_name t ≡ Some i → 0 < length t
name_end_some [] i e = absurd (cc)
name_end_some (x ∷ t) i e = omega arith

name_end_stays : (t b : List ℕ) (i : ℕ) → behind_name t ≡ Some i → behind_name (t ++ b) ≡ Some i
name_end_stays [] b i e = absurd (cc)
name_end_stays (x ∷ []) b i e = chosen (begins (x ∷ []) (codes "}")) (Some 1) (Some 1) (if begins (x ∷ []) (codes ":-") then later 2 (through 125 []) else None) (if begins (x ∷ b) (codes ":-") then later 2 (through 125 (drop 2 (x ∷ b))) else None) i (λ _ h. h) (λ _ h. absurd (cc (rw (one_begins x 58 45) at h))) e
name_end_stays (x ∷ y ∷ t) b i e = chosen (begins (x ∷ y ∷ t) (codes "}")) (Some 1) (Some 1) (if begins (x ∷ y ∷ t) (codes ":-") then later 2 (through 125 t) else None) (if begins (x ∷ y ∷ t) (codes ":-") then later 2 (through 125 (t ++ b)) else None) i (λ _ h. h) (λ _ h. chosen (begins (x ∷ y ∷ t) (codes ":-")) (later 2 (through 125 t)) (later 2 (through 125 (t ++ b))) None None i (λ _ g. later_stays 2 (through 125 t) (through 125 (t ++ b)) i (λ j f sum. through_stays 125 t b j f) g) (λ _ g. g) h) e

name_choice : (t : Bool) (m n k : ℕ) → cond t m 0 < k → (m < k → n ≡ m) → cond t n 0 ≡ cond t m 0
name_choice true m n k h f = f h
name_choice false m n k h f = refl

name_stays : (s b : List ℕ) → name_len s < length s → name_len (s ++ b) ≡ name_len s
name_stays [] b h = absurd (omega arith)
name_stays (x ∷ s) b h = name_choice (is_letter x) (prefix_len is_name_byte (x ∷ s)) (prefix_len is_name_byte (x ∷ (s ++ b))) (length (x ∷ s)) h (prefix_stays is_name_byte (x ∷ s) b)

later_some : (n : ℕ) (o : Option ℕ) (k : ℕ) → later n o ≡ Some k → (j : ℕ) × (o ≡ Some j)
later_some n None k e = absurd (cc)
later_some n (Some j) k e = (j, refl)

dollar_name : (k : ℕ) (s : List ℕ) (j : ℕ) → later k (behind_name (drop k s)) ≡ Some j → k < length s
dollar_name k s j e =
    let found = later_some k (behind_name (drop k s)) j e in
    let some : 0 < length (drop k s) = name_end_some (drop k s) found.0 found.1 in
    let count : length (drop k s) ≡ length s - k = length-drop k s in
    omega arith

dollar_stays : (s b : List ℕ) (j : ℕ) → behind_dollar s ≡ Some j → behind_dollar (s ++ b) ≡ Some j
dollar_stays s b j e =
    let low : name_len s < length s = given (name_len s == 0) None (later (name_len s) (behind_name (drop (name_len s) s))) j (λ _ h. absurd (cc)) (λ _ h. dollar_name (name_len s) s j h) e in
    let same : name_len (s ++ b) ≡ name_len s = name_stays s b low in
    let cut : drop (name_len s) (s ++ b) ≡ drop (name_len s) s ++ b = drop-append-le (name_len s) s b (omega arith) in
    rw (same, cut) (chosen (name_len s == 0) None None (later (name_len s) (behind_name (drop (name_len s) s))) (later (name_len s) (behind_name (drop (name_len s) s ++ b))) j (λ _ h. h) (λ _ h. later_stays (name_len s) (behind_name (drop (name_len s) s)) (behind_name (drop (name_len s) s ++ b)) j (λ i g sum. name_end_stays (drop (name_len s) s) b i g) h) e)

pub variable_stays : (x y : ℕ) (s b : List ℕ) (n : ℕ) → variable_len (x ∷ y ∷ s) ≡ Some n → variable_len (x ∷ y ∷ (s ++ b)) ≡ Some n
variable_stays x y s b n e = later_stays 2 (behind_dollar s) (behind_dollar (s ++ b)) n (λ j h sum. dollar_stays s b j h) e

-- a bare word
or_stays : (t u v : Bool) → (t || u) ≡ true → u ≡ false → (t || v) ≡ true
or_stays true u v e f = refl
or_stays false u v e f = absurd (cc)

word_ends_stay : (x : ℕ) (s b : List ℕ) → ends_word (x ∷ s) ≡ true → ends_word (x ∷ (s ++ b)) ≡ true
word_ends_stay x [] b e = or_stays _ (begins (x ∷ []) (codes "+=")) (begins (x ∷ b) (codes "+=")) e (one_begins x 43 61)
word_ends_stay x (y ∷ s) b e = e

word_part_stays : (x y : ℕ) (s b : List ℕ) (n : ℕ) → word_part (x ∷ y ∷ s) ≡ Some n → word_part (x ∷ y ∷ (s ++ b)) ≡ Some n
word_part_stays x y s b n e = chosen (begins (x ∷ y ∷ s) (codes "${")) (variable_len (x ∷ y ∷ s)) (variable_len (x ∷ y ∷ (s ++ b))) (Some 1) (Some 1) n (λ _ h. variable_stays x y s b n h) (λ _ h. h) e

pub word_stays : (s b : List ℕ) (k : ℕ) → parts_len ends_word word_part 0 s ≡ Some k → k < length s → parts_len ends_word word_part 0 (s ++ b) ≡ Some k
word_stays s b k e h = parts_stay ends_word word_part word_ends_stay (λ x y s b e. e) word_part_stays 0 s b k e h

-- a double-quoted text
pair_stays : (x y : ℕ) (s b : List ℕ) (n : ℕ) → pair_part (x ∷ y ∷ s) ≡ Some n → pair_part (x ∷ y ∷ (s ++ b)) ≡ Some n
pair_stays x y s b n e =
    let front : nat_le 2 (length (x ∷ y ∷ s)) ≡ true = grind (arith, nat_tests) in
    let whole : nat_le 2 (length (x ∷ y ∷ (s ++ b))) ≡ true = grind (arith, nat_tests) in
    rw whole (rw front at e)

body_stays : (s b : List ℕ) (k : ℕ) → body_len s ≡ Some k → k < length s → body_len (s ++ b) ≡ Some k
body_stays s b k e h = parts_stay at_quote pair_part (λ x s b e. e) (λ x y s b e. e) pair_stays 0 s b k e h

pub quote_stays : (t b : List ℕ) → at_quote t ≡ true → (0 < length t) × (at_quote (t ++ b) ≡ true)
quote_stays [] b e = absurd (cc)
quote_stays (x ∷ t) b e = (omega arith, e)

pub and_true : (t u : Bool) → (t && u) ≡ true → (t ≡ true) × (u ≡ true)
and_true true u e = (refl, e)
and_true false u e = absurd (cc)

double_at : (t b : List ℕ) (k n : ℕ) → body_len t ≡ Some k → (if at_quote (drop k t) && is_quotable (take k t) then Some (k + 1) else None) ≡ Some n → (body_len (t ++ b) ≡ Some k) × ((if at_quote (drop k (t ++ b)) && is_quotable (take k (t ++ b)) then Some (k + 1) else None) ≡ Some n)
double_at t b k n h e =
    let tests : (at_quote (drop k t) ≡ true) × (is_quotable (take k t) ≡ true) = given (at_quote (drop k t) && is_quotable (take k t)) (Some (k + 1)) None n (λ g _. and_true (at_quote (drop k t)) (is_quotable (take k t)) g) (λ _ g. absurd (cc)) e in
    let quote = quote_stays (drop k t) b tests.0 in
    let count : length (drop k t) ≡ length t - k = length-drop k t in
    let some : 0 < length (drop k t) = quote.0 in
    let low : k < length t = omega arith in
    let cut : drop k (t ++ b) ≡ drop k t ++ b = drop-append-le k t b (omega arith) in
    let front : take k (t ++ b) ≡ take k t = take-append-le k t b (omega arith) in
    let test : (at_quote (drop k (t ++ b)) && is_quotable (take k (t ++ b))) ≡ true = rw (cut, front, quote.1, tests.1) refl in
    let same : (at_quote (drop k t) && is_quotable (take k t)) ≡ true = rw (tests.0, tests.1) refl in
    (body_stays t b k h low, ap (λ u. if u then Some (k + 1) else None) (test ∙ sym same) ∙ e)

pub double_stays : (t b : List ℕ) (n : ℕ) → behind_double t ≡ Some n → behind_double (t ++ b) ≡ Some n
double_stays t b n e = bind_stays (body_len t) (body_len (t ++ b)) (λ k. if at_quote (drop k t) && is_quotable (take k t) then Some (k + 1) else None) (λ k. if at_quote (drop k (t ++ b)) && is_quotable (take k (t ++ b)) then Some (k + 1) else None) n (λ k h g. double_at t b k n h g) e
