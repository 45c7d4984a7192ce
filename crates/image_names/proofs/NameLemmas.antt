-- Names of a set, by the texts of its keys.
use Rattle.std.proofs.Common.{◌≡◌, ℕ, ◌||◌, ◌+◌, ◌<◌, ◌≤◌, List, [], ◌∷◌, ◌++◌, refl, ap, sym, ◌∙◌, map, Bool, true, false, not, Some, None, drop, get_or, length, cond, arith, string_bytes, String, Global}
use Rattle.std.specs.Str.{bytes_eq}
use Rattle.std.proofs.lemmas.Slice.Eq.{bytes_eq-Decides}
use Rattle.image_names.proofs.Reading.{drop_read}
use Rattle.std.specs.String.{string_eq}
use Rattle.indexmap.specs.IndexSet.{insert_key}
use Rattle.std.proofs.lemmas.List.Folds.{list_any-append}
use Rattle.image_names.specs.Names.{HoldSame, holds}
use Rattle.std.specs.List.{list_any, position, position_or_len}
use Rattle.std.proofs.lemmas.List.{at_drop_all, length-map, map-append}

-- a test of a text, and of the keys that have it
pub list_any-map : {X Y : Type 0} (p : Y → Bool) (f : X → Y) (xs : List X) → list_any p (map f xs) ≡ list_any (λ x. p (f x)) xs
list_any-map p f [] = refl
list_any-map p f (x ∷ xs) = ap (λ b. p (f x) || b) (list_any-map p f xs)

position_or_len-map : {X Y : Type 0} (p : Y → Bool) (f : X → Y) (xs : List X) → position_or_len p (map f xs) ≡ position_or_len (λ x. p (f x)) xs
position_or_len-map p f [] = refl
position_or_len-map p f (x ∷ xs) = grind (arith, position_or_len-map p f xs)

pub position-map : {X Y : Type 0} (p : Y → Bool) (f : X → Y) (xs : List X) → position p (map f xs) ≡ position (λ x. p (f x)) xs
position-map p f xs = simp (position_or_len-map p f xs, length-map xs f)

pub holds_key : (keys : List (String Global)) (key : String Global) (name : List ℕ) → string_bytes key ≡ name → list_any (string_eq key) keys ≡ holds (map string_bytes keys) name
holds_key keys key name is = sym (list_any-map (bytes_eq (string_bytes key)) string_bytes keys) ∙ ap (holds (map string_bytes keys)) is

-- the names of the keys after one is inserted
pub names_inserted : (keys : List (String Global)) (key : String Global) (name : List ℕ) (names : List (List ℕ)) (new : Bool) → string_bytes key ≡ name → map string_bytes keys ≡ names → new ≡ not (holds names name) → map string_bytes (insert_key string_eq keys key) ≡ cond new (names ++ name ∷ []) names
names_inserted keys key name names new is are e = chosen (holds names name) refl
  where
    found : list_any (string_eq key) keys ≡ holds names name
    found = holds_key keys key name is ∙ ap (λ ns. holds ns name) are

    chosen : (b : Bool) → holds names name ≡ b → map string_bytes (insert_key string_eq keys key) ≡ cond new (names ++ name ∷ []) names
    chosen true h = rw (found, e, h) are
    chosen false h = rw (found, e, h) (map-append string_bytes keys (key ∷ []) ∙ ap (λ ns. ns ++ string_bytes key ∷ []) are ∙ ap (λ n. names ++ n ∷ []) is)

-- ---- lists that hold the same names

or_false : (b : Bool) → (b || false) ≡ b
or_false true = refl
or_false false = refl

-- behind names that hold the same
pub same_more : (old new xs ys : List (List ℕ)) → HoldSame old xs → HoldSame new (old ++ ys) → HoldSame new (xs ++ ys)
same_more old new xs ys before after q =
    after q ∙ list_any-append (bytes_eq q) old ys ∙ ap (λ b. b || holds ys q) (before q) ∙ sym (list_any-append (bytes_eq q) xs ys)

-- a name that is added, or that is there
pub same_added : (old new : List (List ℕ)) (name : List ℕ) (fresh : Bool) → fresh ≡ not (holds old name) → new ≡ cond fresh (old ++ name ∷ []) old → HoldSame new (old ++ name ∷ [])
same_added old new name fresh is e q = chosen (holds old name) refl
  where
    chosen : (b : Bool) → holds old name ≡ b → holds new q ≡ holds (old ++ name ∷ []) q
    chosen false h = rw (e, is, h) refl
    chosen true h = rw (e, is, h) (sym (there (bytes_eq q name) refl))
      where
        there : (b : Bool) → bytes_eq q name ≡ b → holds (old ++ name ∷ []) q ≡ holds old q
        there false same = list_any-append (bytes_eq q) old (name ∷ []) ∙ ap (λ b. holds old q || (b || false)) same ∙ or_false (holds old q)
        there true same =
            let is_name : q ≡ name = (bytes_eq-Decides q name).0 same in
            let known : holds old q ≡ true = rw is_name h in
            list_any-append (bytes_eq q) old (name ∷ []) ∙ ap (λ b. b || (bytes_eq q name || false)) known ∙ sym known

-- ---- the place of the first that passes

pub found_at : {X : Type 0} (p : X → Bool) (xs : List X) (i : ℕ) (x : X) → i < length xs → x ≡ get_or xs i x → position_or_len p xs ≡ i + position_or_len p (drop i xs) → p x ≡ true → position p xs ≡ Some i
found_at p xs i x below is so_far passes =
    let here : position_or_len p (drop i xs) ≡ position_or_len p (x ∷ drop (i + 1) xs) = ap (position_or_len p) (drop_read xs i x below is) in
    let whole : position_or_len p xs ≡ i = grind (arith, here) in
    rw whole (grind arith)

pub passed_at : {X : Type 0} (p : X → Bool) (xs : List X) (i : ℕ) (x : X) → i < length xs → x ≡ get_or xs i x → position_or_len p xs ≡ i + position_or_len p (drop i xs) → p x ≡ false → position_or_len p xs ≡ (i + 1) + position_or_len p (drop (i + 1) xs)
passed_at p xs i x below is so_far fails =
    let here : position_or_len p (drop i xs) ≡ position_or_len p (x ∷ drop (i + 1) xs) = ap (position_or_len p) (drop_read xs i x below is) in
    grind (arith, here)

pub found_nowhere : {X : Type 0} (p : X → Bool) (xs : List X) (i : ℕ) → length xs ≤ i → i ≤ length xs → position_or_len p xs ≡ i + position_or_len p (drop i xs) → position p xs ≡ None
found_nowhere p xs i past within so_far =
    let none : position_or_len p (drop i xs) ≡ position_or_len p [] = at_drop_all (position_or_len p) xs i past in
    let whole : position_or_len p xs ≡ length xs = grind (arith, none) in
    rw whole (grind arith)
