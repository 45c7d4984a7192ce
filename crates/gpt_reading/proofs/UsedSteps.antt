-- The slots in use, one slot after another.
use Rattle.std.specs.Prelude.{◌≡◌, ℕ, zero, suc, ◌+◌, List, [], ◌∷◌, ◌++◌, map, Bool, true, false}
use Rattle.std.proofs.Common.{refl, ap, ◌∙◌, add-one, append-nil}
use Rattle.std.proofs.lemmas.List.{map-append}
use Rattle.gpt_table.specs.declared.entry.GptEntry.{GptEntry}
use Rattle.gpt_reading.specs.Used.{is_used, used_below}

pub used_none : {A : Type 0} (f : ℕ → A) (slot : ℕ → GptEntry) → map f (used_below slot 0) ≡ []
unfolding used_below
used_none f slot = refl

-- a slot in use is one more
pub used_more : {A : Type 0} (f : ℕ → A) (slot : ℕ → GptEntry) (k : ℕ) → is_used (slot k) ≡ true → map f (used_below slot (k + 1)) ≡ map f (used_below slot k) ++ f k ∷ []
unfolding used_below
used_more f slot k used = rw (add-one, used) (map-append f (used_below slot k) (k ∷ []))

-- and any other isn't
pub unused_same : {A : Type 0} (f : ℕ → A) (slot : ℕ → GptEntry) (k : ℕ) → is_used (slot k) ≡ false → map f (used_below slot (k + 1)) ≡ map f (used_below slot k)
unfolding used_below
unused_same f slot k unused = rw (add-one, unused) (ap (map f) (append-nil (used_below slot k)))
