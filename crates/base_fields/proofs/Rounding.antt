-- What is rounded up fits where the number and what it is rounded to fit together.
use Rattle.std.specs.Prelude.{◌≡◌, ◌≢◌, ℕ, ◌+◌, ◌-◌, ◌*◌, ◌/◌, ◌%◌, ◌^◌, ◌<◌, ◌≤◌}
use Rattle.std.proofs.Common.{arith}
use Rattle.std.proofs.lemmas.Nat.{div-add-mod', mod_below}

-- what `round_up` asks for, which `#[tactic(auto, using(base_fields::proofs::Rounding::round_fits))]` finds
pub round_fits : (n to : ℕ) → to ≢ 0 → n + to ≤ 2 ^ 64 → n ≤ (2 ^ 64 - 1) / to * to
round_fits n to nonzero h = most_fits (2 ^ 64 - 1) n to nonzero (omega arith)
  where
    most_fits : (most n to : ℕ) → to ≢ 0 → n + to ≤ most + 1 → n ≤ most / to * to
    most_fits most n to nonzero h =
        let whole : most / to * to + most % to ≡ most = div-add-mod' most to in
        let rest : most % to < to = mod_below most to (omega arith) in
        omega arith
