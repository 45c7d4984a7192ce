-- Counts of what failed. They never fall, and end at the greatest number of 64 bits.
use Rattle.std.specs.Prelude.{ℕ, ◌+◌, ◌-◌, ◌^◌, ◌≤◌, min}

-- a count rose, or stands at its end
abbrev pub Rose : ℕ → ℕ → Type 0
Rose before now = min (before + 1) (2 ^ 64 - 1) ≤ now

-- what files count: calls that failed, names that were not there, and reads at or past an end
pub record Counts : Type 0 where
  pub faults : ℕ
  pub absences : ℕ
  pub ends : ℕ

-- a count is at most the greatest number of 64 bits
abbrev pub IsCount : ℕ → Type 0
IsCount n = n ≤ 2 ^ 64 - 1

-- so is each of these
pub record AreCounts (counts : Counts) : Type 0 where
  pub faults : IsCount counts.faults
  pub absences : IsCount counts.absences
  pub ends : IsCount counts.ends

-- no count fell
pub record NoneFell (before now : Counts) : Type 0 where
  pub faults : before.faults ≤ now.faults
  pub absences : before.absences ≤ now.absences
  pub ends : before.ends ≤ now.ends
