-- The parts of a table: they stand in order and within the disk, and an image with their bytes has those of each.
use Rattle.std.specs.Prelude.{◌≡◌, ℕ, ◌+◌, ◌*◌, ◌<◌, ◌≤◌, ◌⊎◌, List, [], ◌∷◌, All, Some, None, Bool, true, false, if◌then◌else◌}
use Rattle.std.proofs.Common.{refl, subst, arith, inl, inr}
use Rattle.std.proofs.lemmas.Bool.{cases_lt}
use Rattle.std.proofs.lemmas.List.Elements.{All-cons, All-nil}
use Rattle.base_fields.specs.Parts.{AreApart, AreInOrder, HoldsPart, HoldsParts, Part, part_byte}
use Rattle.base_fields.proofs.PartBytes.{holds_each, in_order_apart, part_byte-none}
use Rattle.gpt_table.specs.Gpt.{GptFits, HasRoom, back_entries_at, last_sector}
use Rattle.gpt_table.specs.Reading.{HoldsGpt}
use Rattle.gpt_table.specs.GptParts.{GptHolds, GptLiesWithin, IsApart, back_entries_part, back_part, entries_part, front_part, gpt_byte, gpt_parts}
use Rattle.gpt_table.specs.declared.table.GptSpec.{GptSpec}
use Rattle.gpt_table.proofs.Inside.{back_entries_inside, back_inside, behind_entries, entries_inside, front_inside}

behind_header : (entries_at z : ℕ) → (z ≡ 512) ⊎ (z ≡ 4096) → 2 ≤ entries_at → z + z ≤ entries_at * z
behind_header entries_at z (inl e) h = rw e (omega arith)
behind_header entries_at z (inr e) h = rw e (omega arith)

-- parts that are there under a condition
order_if : (b : Bool) (from : ℕ) (ps : List Part) → (b ≡ true → AreInOrder from ps) → AreInOrder from (if b then ps else [])
order_if true from ps order = order refl
order_if false from ps order = tt

all_if : (P : Part → Type 0) (b : Bool) (ps : List Part) → (b ≡ true → All P ps) → All P (if b then ps else [])
all_if P true ps all = all refl
all_if P false ps all = All-nil P

pub gpt_in_order : (spec : GptSpec) → GptFits spec → IsApart spec → AreInOrder spec.sector (gpt_parts spec)
gpt_in_order spec fits apart =
    let z : ℕ = spec.sector in
    let a : z + z ≤ spec.entries_at * z = behind_header spec.entries_at z fits.sector apart.front in (
      omega arith,
      (
        omega arith,
        order_if spec.backup _ _ (λ is.
            let b : spec.entries_at * z + 16384 ≤ back_entries_at spec * z = behind_entries spec.entries_at (back_entries_at spec) z fits.sector (apart.back is) in
            let c : back_entries_at spec * z + 16384 ≤ last_sector spec * z = back_entries_inside spec fits is in
            (omega arith, (omega arith, tt))),
      ),
    )

pub gpt_apart : (spec : GptSpec) → GptFits spec → IsApart spec → AreApart (gpt_parts spec)
gpt_apart spec fits apart = in_order_apart (gpt_parts spec) spec.sector (gpt_in_order spec fits apart)

-- an image that has the parts has the bytes of each
pub gpt_held : (spec : GptSpec) (image : ℕ → ℕ) → GptFits spec → IsApart spec → HoldsParts image (gpt_parts spec) → HoldsGpt image spec
gpt_held spec image fits apart holds =
    let backup : List Part = back_entries_part spec ∷ back_part spec ∷ [] in
    let each : All (HoldsPart image) (gpt_parts spec) = holds_each image (gpt_parts spec) (gpt_apart spec fits apart) holds in
    let four : spec.backup ≡ true → All (HoldsPart image) (front_part spec ∷ entries_part spec ∷ backup) =
    λ is. subst (λ (b : Bool). All (HoldsPart image) (front_part spec ∷ entries_part spec ∷ (if b then backup else []))) is each in
    record {
      front = each 0 (front_part spec) (omega arith);
      entries = each 1 (front_part spec) (omega arith);
      back_entries = λ is. four is 2 (front_part spec) (omega arith);
      back = λ is. four is 3 (front_part spec) (omega arith);
    }

pub gpt_holds : GptHolds
unfolding gpt_byte
gpt_holds spec image fits apart same = gpt_held spec image fits apart same

pub gpt_lies_within : GptLiesWithin
gpt_lies_within spec fits room =
    let P : Part → Type 0 = λ (p : Part). p.at + p.len ≤ spec.sectors * spec.sector in
    let backup : List Part = back_entries_part spec ∷ back_part spec ∷ [] in
    let behind : All P (if spec.backup then backup else []) =
    all_if P spec.backup backup (λ is.
    let entries : back_entries_at spec * spec.sector + 16384 ≤ last_sector spec * spec.sector = back_entries_inside spec fits is in
    let last : last_sector spec * spec.sector + spec.sector ≤ spec.sectors * spec.sector = back_inside spec fits is in
    All-cons P (back_entries_part spec) (back_part spec ∷ []) (omega arith) (All-cons P (back_part spec) [] last (All-nil P))) in
    All-cons P (front_part spec) (entries_part spec ∷ (if spec.backup then backup else [])) (front_inside spec room)
    (All-cons P (entries_part spec) (if spec.backup then backup else []) (entries_inside spec room) behind)

-- a byte of parts that end at an offset or before it stands before it
pub part_byte-before : (ps : List Part) (end o b : ℕ) → All (λ (p : Part). p.at + p.len ≤ end) ps → part_byte ps o ≡ Some b → o < end
part_byte-before ps end o b ends found = elim (cases_lt o end) [
  | inl inside ↦ inside
  | inr past ↦
      let none : part_byte ps o ≡ None = part_byte-none ps o (λ k d h within. let low = ends k d h in omega (arith, within.1)) in
      absurd (cc)
]

-- the table has no byte behind the disk's sectors
pub gpt_byte-before : (spec : GptSpec) (o b : ℕ) → GptFits spec → HasRoom spec → gpt_byte spec o ≡ Some b → o < spec.sectors * spec.sector
unfolding gpt_byte
gpt_byte-before spec o b fits room found =
    part_byte-before (gpt_parts spec) (spec.sectors * spec.sector) o b (gpt_lies_within spec fits room) found
