-- Each part of a table lies within the disk's sectors.
use Rattle.std.specs.Prelude.{◌≡◌, ℕ, ◌+◌, ◌-◌, ◌*◌, ◌/◌, ◌≤◌, ◌⊎◌, Bool, true, if◌then◌else◌}
use Rattle.std.proofs.Common.{subst, arith, inl, inr}
use Rattle.gpt_table.specs.Gpt.{GptFits, HasRoom, back_entries_at, entry_sectors, last_sector}
use Rattle.gpt_table.specs.declared.table.GptSpec.{GptSpec}

-- entries of whole sectors, as bytes
pub behind_entries : (at next z : ℕ) → (z ≡ 512) ⊎ (z ≡ 4096) → at + 16384 / z ≤ next → at * z + 16384 ≤ next * z
behind_entries at next z (inl e) h = let g : at + 32 ≤ next = rw e at h in rw e (omega arith)
behind_entries at next z (inr e) h = let g : at + 4 ≤ next = rw e at h in rw e (omega arith)

last_one : (n z : ℕ) → (z ≡ 512) ⊎ (z ≡ 4096) → 1 ≤ n → (n - 1) * z + z ≤ n * z
last_one n z (inl e) h = rw e (omega arith)
last_one n z (inr e) h = rw e (omega arith)

-- the sectors that a backup takes beside LBA 0 and 1
pub backup_sectors : (spec : GptSpec) → GptFits spec → spec.backup ≡ true → 2 + entry_sectors spec ≤ spec.sectors
backup_sectors spec fits is =
    subst (λ (b : Bool). (if b then 2 + entry_sectors spec else 1) ≤ spec.sectors) is fits.least

pub front_inside : (spec : GptSpec) → HasRoom spec → spec.sector + spec.sector ≤ spec.sectors * spec.sector
front_inside spec room = omega arith

pub entries_inside : (spec : GptSpec) → HasRoom spec → spec.entries_at * spec.sector + 16384 ≤ spec.sectors * spec.sector
entries_inside spec room = omega arith

pub back_entries_inside : (spec : GptSpec) → GptFits spec → spec.backup ≡ true → back_entries_at spec * spec.sector + 16384 ≤ last_sector spec * spec.sector
back_entries_inside spec fits is =
    let sectors : 2 + entry_sectors spec ≤ spec.sectors = backup_sectors spec fits is in
    behind_entries (back_entries_at spec) (last_sector spec) spec.sector fits.sector (omega arith)

pub back_inside : (spec : GptSpec) → GptFits spec → spec.backup ≡ true → last_sector spec * spec.sector + spec.sector ≤ spec.sectors * spec.sector
back_inside spec fits is =
    let sectors : 2 + entry_sectors spec ≤ spec.sectors = backup_sectors spec fits is in
    last_one spec.sectors spec.sector fits.sector (omega arith)
