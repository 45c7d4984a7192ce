-- The parts of the GUID partition table of an image: where they stand in its bytes, in order and within it.
use Rattle.std.specs.Prelude.{◌≡◌, ℕ, ◌+◌, ◌-◌, ◌*◌, ◌/◌, ◌≤◌, ◌⊎◌, List, [], ◌∷◌, ◌++◌, All, Bool, true, false, if◌then◌else◌}
use Rattle.std.proofs.Common.{refl, arith, inl, inr}
use Rattle.std.proofs.lemmas.List.Elements.{All-cons, All-nil}
use Rattle.base_fields.specs.Parts.{AreApart, AreInOrder, Part}
use Rattle.base_fields.proofs.PartBytes.{in_order_apart}
use Rattle.gpt_table.specs.Gpt.{back_entries_at, last_sector}
use Rattle.gpt_table.specs.GptParts.{back_entries_part, back_part, entries_part, front_part, gpt_parts}
use Rattle.gpt_table.specs.declared.table.GptSpec.{GptSpec}
use Rattle.mbr_table.specs.Mbr.{mbr_parts}
use Rattle.mbr_table.specs.declared.mbr.MbrSpec.{MbrSpec}
use Rattle.image_specs.specs.declared.specs.ImageSpec.{ImageSpec}
use Rattle.placement.specs.Layouts.{guid_spec, image_size}
use Rattle.placement_rules.specs.Frames.{backup_len, has_guid}
use Rattle.placement_rules.specs.Places.{Stood}
use Rattle.placement_rules.specs.declared.terms.Frame.{Frame}
use Rattle.placement_apart.proofs.Frames.{IsFrame}
use Rattle.placement_apart.proofs.Records.{AtPlace}
use Rattle.placement_apart.proofs.Sizes.{IsSized, full, has_both}

-- where the backup stands of a disk of so many bytes
pub record IsBack (g : GptSpec) (size : ℕ) : Type 0 where
  pub entries : back_entries_at g * g.sector + 16384 + g.sector ≡ size
  pub header : last_sector g * g.sector + g.sector ≡ size

-- where everything of a table stands, on a disk of so many bytes whose partitions end at an offset or before it
pub record IsAt (g : GptSpec) (entries_at end size : ℕ) : Type 0 where
  pub low : 512 ≤ g.sector
  pub entries : g.entries_at * g.sector ≡ entries_at
  pub front : 2 * g.sector ≤ entries_at
  pub room : entries_at + 16384 ≤ end
  pub inside : end ≤ size
  pub back : g.backup ≡ true → IsBack g size
  pub behind : g.backup ≡ true → end + (g.sector + 16384) ≤ size

-- ---- the backup, in bytes

back_entries : (size z : ℕ) → (z ≡ 512) ⊎ (z ≡ 4096) → size / z * z ≡ size → z + 16384 ≤ size → (size / z - 1 - 16384 / z) * z + 16384 + z ≡ size
back_entries size z (inl e) whole room =
    let w : size / 512 * 512 ≡ size = rw e at whole in
    let r : 512 + 16384 ≤ size = rw e at room in
    rw e (omega arith)
back_entries size z (inr e) whole room =
    let w : size / 4096 * 4096 ≡ size = rw e at whole in
    let r : 4096 + 16384 ≤ size = rw e at room in
    rw e (omega arith)

back_header : (size z : ℕ) → (z ≡ 512) ⊎ (z ≡ 4096) → size / z * z ≡ size → z + 16384 ≤ size → (size / z - 1) * z + z ≡ size
back_header size z (inl e) whole room =
    let w : size / 512 * 512 ≡ size = rw e at whole in
    let r : 512 + 16384 ≤ size = rw e at room in
    rw e (omega arith)
back_header size z (inr e) whole room =
    let w : size / 4096 * 4096 ≡ size = rw e at whole in
    let r : 4096 + 16384 ≤ size = rw e at room in
    rw e (omega arith)

sector_low : (z : ℕ) → (z ≡ 512) ⊎ (z ≡ 4096) → 512 ≤ z
sector_low z (inl e) = omega arith
sector_low z (inr e) = omega arith

with_backup : (c : Bool) (n : ℕ) → c ≡ true → (if c then n else 0) ≡ n
with_backup true n is = refl
with_backup false n is = absurd (cc)

-- the table of an image
pub guid_at : (spec : ImageSpec) (frame : Frame) (ss : List Stood) → IsFrame frame.table frame.sector frame.front frame.entries_at → IsSized frame ss → has_guid frame.table ≡ true → IsAt (guid_spec spec frame ss) frame.entries_at (full frame ss) (image_size frame ss)
guid_at spec frame ss is sized guid =
    let size : ℕ = image_size frame ss in
    let end : ℕ = full frame ss in
    let front : frame.front ≤ end = sized.front in
    let needs : end + backup_len frame ≤ size = sized.needs in
    let whole : size / frame.sector * frame.sector ≡ size = sized.whole (has_both frame.table guid) in
    let behind : frame.entries_at + 16384 ≤ frame.front = is.behind guid in
    let backed : frame.backup ≡ true → end + (frame.sector + 16384) ≤ size =
    λ b. let len : backup_len frame ≡ frame.sector + 16384 = with_backup frame.backup
    (frame.sector + 16384) b in omega arith in
    record {
      low = sector_low frame.sector is.sector;
      entries = sized.entries guid;
      front = is.two guid;
      room = omega arith;
      inside = omega arith;
      back = λ b.
          let room : end + (frame.sector + 16384) ≤ size = backed b in
          record {
            entries = back_entries size frame.sector is.sector whole (omega arith);
            header = back_header size frame.sector is.sector whole (omega arith);
          };
      behind = backed;
    }

-- ---- the parts

order_if : (c : Bool) (from : ℕ) (ps : List Part) → (c ≡ true → AreInOrder from ps) → AreInOrder from (if c then ps else [])
order_if true from ps order = order refl
order_if false from ps order = tt

all_if : (P : Part → Type 0) (c : Bool) (ps : List Part) → (c ≡ true → All P ps) → All P (if c then ps else [])
all_if P true ps all = all refl
all_if P false ps all = All-nil P

abbrev backups : GptSpec → List Part
backups g = back_entries_part g ∷ back_part g ∷ []

-- the record of 512 bytes, the header, the entries and the backup stand in order
guid_in_order : (m : MbrSpec) (g : GptSpec) (entries_at end size : ℕ) → IsAt g entries_at end size → AreInOrder 0 (mbr_parts m ++ gpt_parts g)
guid_in_order m g entries_at end size is =
    let z : ℕ = g.sector in
    let low : 512 ≤ z = is.low in
    let same : g.entries_at * z ≡ entries_at = is.entries in
    let two : 2 * z ≤ entries_at = is.front in
    let room : entries_at + 16384 ≤ end = is.room in (
      omega arith,
      (
        omega arith,
        (
          omega arith,
          order_if g.backup (g.entries_at * z + 16384) (backups g) (λ b.
              let back : IsBack g size = is.back b in
              let behind : end + (z + 16384) ≤ size = is.behind b in
              let first : back_entries_at g * z + 16384 + z ≡ size = back.entries in
              let last : last_sector g * z + z ≡ size = back.header in
              (omega arith, (omega arith, tt))),
        ),
      ),
    )

pub guid_apart : (m : MbrSpec) (g : GptSpec) (entries_at end size : ℕ) → IsAt g entries_at end size → AreApart (mbr_parts m ++ gpt_parts g)
guid_apart m g entries_at end size is =
    in_order_apart (mbr_parts m ++ gpt_parts g) 0 (guid_in_order m g entries_at end size is)

-- what holds of the place and the length of each part, by those of the five
pub guid_all : (Q : ℕ → ℕ → Type 0) (m : MbrSpec) (g : GptSpec) → Q 440 72 → Q g.sector g.sector → Q (g.entries_at * g.sector) 16384 → (g.backup ≡ true → Q (back_entries_at g * g.sector) 16384 × Q (last_sector g * g.sector) g.sector) → All (AtPlace Q) (mbr_parts m ++ gpt_parts g)
guid_all Q m g record_too header entries back =
    let P : Part → Type 0 = AtPlace Q in
    let behind : List Part = if g.backup then backups g else [] in
    All-cons P _ (gpt_parts g) record_too
    (All-cons P (front_part g) (entries_part g ∷ behind) header
    (All-cons P (entries_part g) behind entries
    (all_if P g.backup (backups g) (λ b.
    let both : Q (back_entries_at g * g.sector) 16384 × Q (last_sector g * g.sector) g.sector = back b in
    All-cons P (back_entries_part g) (back_part g ∷ []) both.0 (All-cons P (back_part g) [] both.1 (All-nil P))))))

pub guid_inside : (m : MbrSpec) (g : GptSpec) (entries_at end size : ℕ) → IsAt g entries_at end size → All (λ (p : Part). p.at + p.len ≤ size) (mbr_parts m ++ gpt_parts g)
guid_inside m g entries_at end size is =
    let z : ℕ = g.sector in
    let low : 512 ≤ z = is.low in
    let same : g.entries_at * z ≡ entries_at = is.entries in
    let two : 2 * z ≤ entries_at = is.front in
    let room : entries_at + 16384 ≤ end = is.room in
    let all : end ≤ size = is.inside in
    guid_all (λ at len. at + len ≤ size) m g (omega arith) (omega arith) (omega arith) (λ b.
    let back : IsBack g size = is.back b in
    let first : back_entries_at g * z + 16384 + z ≡ size = back.entries in
    let last : last_sector g * z + z ≡ size = back.header in
    (omega arith, omega arith))
