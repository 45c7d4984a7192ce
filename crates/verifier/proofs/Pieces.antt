-- Runs of bytes that are hashed piece by piece, and what reading them costs.
use Rattle.std.proofs.Common.{◌≡◌, ℕ, ◌+◌, ◌/◌, ◌≤◌, List, ◌++◌, take, drop, ap, sym, subst, ◌∙◌, arith}
use Rattle.std.proofs.Math.Seq.{take-add}
use Rattle.std.proofs.lemmas.List.{drop-drop}
use Rattle.sha2.specs.declared.Sha256.{Sha256}
use Rattle.sha2.specs.Hashers.{Holds256}

-- ---- what is hashed

-- n bytes from an offset on
abbrev pub run : List ℕ → ℕ → ℕ → List ℕ
run bytes at n = take n (drop at bytes)

-- whatever a hasher holds, these bytes are put behind it
abbrev pub Adds : List ℕ → Sha256 → Sha256 → Type 0
Adds piece old new = (m : List ℕ) → Holds256 old m → Holds256 new (m ++ piece)

-- a run, and the piece behind it
pub run_more :
    (bytes : List ℕ) (at done n : ℕ) → run bytes at (done + n) ≡ run bytes at done ++ run bytes (at + done) n
run_more bytes at done n =
    take-add done n (drop at bytes)
    ∙ ap (λ (rest : List ℕ). run bytes at done ++ take n rest) (drop-drop done at bytes)

-- what is hashed is one run with the piece that is added
pub hashed_more :
    (bytes : List ℕ) (at done n : ℕ) (old new : Sha256) → Holds256 old (run bytes at done)
    → Adds (run bytes (at + done) n) old new → Holds256 new (run bytes at (done + n))
hashed_more bytes at done n old new front added =
    subst (Holds256 new) (sym (run_more bytes at done n)) (added (run bytes at done) front)

-- ---- what reading costs, for each 512 bytes

-- for a part no more than for the whole
pub part_costs : (part whole : ℕ) → part ≤ whole → part / 512 ≤ whole / 512
part_costs part whole within = omega arith

-- for two parts no more than for both
pub parts_cost : (one two : ℕ) → one / 512 + two / 512 ≤ (one + two) / 512
parts_cost one two = omega arith
