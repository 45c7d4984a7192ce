-- The size of an image that isn't refused: its partitions and what stands in front end below its backup, and it is
-- of whole sectors.
use Rattle.std.specs.Prelude.{◌≡◌, ℕ, ◌+◌, ◌-◌, ◌*◌, ◌/◌, ◌%◌, ◌^◌, ◌<◌, ◌≤◌, ◌⊎◌, max, List, [], ◌∷◌, All, Bool, true, false, nat_lt, Option, None, Some, map, unwrap_or, if◌then◌else◌}
use Rattle.std.specs.Option.{option_or}
use Rattle.std.proofs.Common.{refl, ◌∙◌, sym, ap, arith, inl, inr}
use Rattle.std.proofs.lemmas.Bool.{ltb-false}
use Rattle.std.proofs.lemmas.List.Elements.{All-cons, All-nil, All-weaker}
use Rattle.std.proofs.lemmas.Nat.{div-add-mod', mod_below}
use Rattle.base_fields.specs.declared.spans.TableKind.{TableKind}
use Rattle.base_fields.specs.declared.spans.TableKind.TheVariants as table
use Rattle.image_specs.specs.declared.specs.ImageSpec.{ImageSpec}
use Rattle.placement.specs.Layouts.{image_size, needs_of}
use Rattle.placement.specs.Said.{above_most, extended_overlap, image_first, image_last, image_misaligned, too_many_entries, too_small}
use Rattle.placement_rules.specs.Faults.{most_bytes, off_multiple, where_so}
use Rattle.placement_rules.specs.Frames.{backup_len, has_guid, has_table}
use Rattle.placement_rules.specs.Places.{Stood, end_of, greatest, least_multiple}
use Rattle.placement_rules.specs.declared.faults.PlaceFault.TheVariants as fault
use Rattle.placement_rules.specs.declared.terms.Frame.{Frame}
use Rattle.placement_apart.proofs.Own.{off_none, where_none}
use Rattle.placement_apart.proofs.Steps.{map_none, or_none, provided_none}

-- ---- the greatest end

-- the least multiple isn't below
above_least : (n to : ℕ) → 1 ≤ to → n ≤ least_multiple to n
above_least n to low =
    let split : (n + (to - 1)) / to * to + (n + (to - 1)) % to ≡ n + (to - 1) = div-add-mod' (n + (to - 1)) to in
    let rest : (n + (to - 1)) % to < to = mod_below (n + (to - 1)) to (omega arith) in
    omega arith

ends_below : (ss : List Stood) → All (λ s. end_of s ≤ greatest (map end_of ss)) ss
ends_below [] = All-nil (λ s. end_of s ≤ 0)
ends_below (s ∷ ss) =
    let most : ℕ = greatest (map end_of ss) in
    All-cons (λ r. end_of r ≤ max (end_of s) most) s ss (omega arith)
    (All-weaker (λ r. end_of r ≤ most) (λ r. end_of r ≤ max (end_of s) most) (λ r h. omega arith) ss (ends_below ss))

-- the bytes of which an image without a size of its own has a whole number
abbrev pub step_of : Frame → ℕ
step_of frame = if has_table frame.table then frame.sector else 1

-- what stands in front and the partitions, to a whole number of these
abbrev pub full : Frame → List Stood → ℕ
full frame ss = least_multiple (step_of frame) (greatest (frame.front ∷ map end_of ss))

step_least : (c : Bool) (z : ℕ) → (z ≡ 512) ⊎ (z ≡ 4096) → 1 ≤ (if c then z else 1)
step_least true z (inl e) = omega arith
step_least true z (inr e) = omega arith
step_least false z two = omega arith

greatest_full : (frame : Frame) (ss : List Stood) → 1 ≤ step_of frame → max frame.front (greatest (map end_of ss)) ≤ full frame ss
greatest_full frame ss low = above_least (max frame.front (greatest (map end_of ss))) (step_of frame) low

front_full : (frame : Frame) (ss : List Stood) → 1 ≤ step_of frame → frame.front ≤ full frame ss
front_full frame ss low =
    let all : max frame.front (greatest (map end_of ss)) ≤ full frame ss = greatest_full frame ss low in omega arith

ends_full : (frame : Frame) (ss : List Stood) → 1 ≤ step_of frame → All (λ s. end_of s ≤ full frame ss) ss
ends_full frame ss low =
    let all : max frame.front (greatest (map end_of ss)) ≤ full frame ss = greatest_full frame ss low in
    let below : greatest (map end_of ss) ≤ full frame ss = omega arith in
    All-weaker (λ s. end_of s ≤ greatest (map end_of ss)) (λ s. end_of s ≤ full frame ss) (λ s h. omega arith) ss
    (ends_below ss)

-- ---- whole sectors

whole_of : (n z : ℕ) → n % z ≡ 0 → n / z * z ≡ n
whole_of n z h = let split : n / z * z + n % z ≡ n = div-add-mod' n z in omega arith

step_true : (c : Bool) (z : ℕ) → c ≡ true → (if c then z else 1) ≡ z
step_true true z is = refl
step_true false z is = absurd (cc)

-- so many sectors, with a backup of the entries and the header behind them
backed_whole : (c : Bool) (q z : ℕ) → (z ≡ 512) ⊎ (z ≡ 4096) → (q * z + (if c then z + 16384 else 0)) / z * z ≡ q * z + (if c then z + 16384 else 0)
backed_whole true q z (inl e) = rw e (omega arith)
backed_whole true q z (inr e) = rw e (omega arith)
backed_whole false q z (inl e) = rw e (omega arith)
backed_whole false q z (inr e) = rw e (omega arith)

needs_whole : (frame : Frame) (ss : List Stood) → (frame.sector ≡ 512) ⊎ (frame.sector ≡ 4096) → has_table frame.table ≡ true → needs_of frame ss / frame.sector * frame.sector ≡ needs_of frame ss
needs_whole frame ss two is =
    let most : ℕ = greatest (frame.front ∷ map end_of ss) in
    let z : ℕ = frame.sector in
    let same : full frame ss ≡ (most + (z - 1)) / z * z =
    ap (λ (n : ℕ). least_multiple n most) (step_true (has_table frame.table) z is) in
    ap (λ (n : ℕ). (n + backup_len frame) / z * z) same
    ∙ backed_whole frame.backup ((most + (z - 1)) / z) z two
    ∙ ap (λ (n : ℕ). n + backup_len frame) (sym same)

size_whole : (size : Option ℕ) (needs z : ℕ) → off_multiple size z ≡ None → needs / z * z ≡ needs → unwrap_or size needs / z * z ≡ unwrap_or size needs
size_whole None needs z off whole = whole
size_whole (Some n) needs z off whole = whole_of n z (off_none n z off)

-- ---- limits

needs_inside : (size : Option ℕ) (needs : ℕ) → too_small size needs ≡ None → needs ≤ unwrap_or size needs
needs_inside None needs h = omega arith
needs_inside (Some has) needs h =
    ltb-false has needs (provided_none (nat_lt has needs) (fault.ImageTooSmall has needs) h)

size_small : (size : Option ℕ) (needs most : ℕ) → needs ≤ most → unwrap_or size 0 ≤ most → unwrap_or size needs ≤ most
size_small None needs most low high = low
size_small (Some n) needs most low high = high

not_above : (spec : ImageSpec) (n : ℕ) → above_most spec n ≡ None → n ≤ most_bytes
not_above spec n h =
    ltb-false most_bytes n (provided_none (nat_lt most_bytes n) (fault.TooFar spec.name n most_bytes) h)

pub has_both : (t : TableKind) → has_guid t ≡ true → has_table t ≡ true
has_both table.Bare is = absurd (cc)
has_both table.Mbr is = refl
has_both table.Gpt is = refl
has_both table.Hybrid is = refl

-- ---- the image

abbrev numbers_off : Frame → Option ℕ
numbers_off frame = option_or (off_multiple frame.size frame.sector) (off_multiple (Some frame.entries_at) frame.sector)

record AreMultiples (frame : Frame) : Type 0 where
  size : off_multiple frame.size frame.sector ≡ None
  entries : off_multiple (Some frame.entries_at) frame.sector ≡ None

multiples : (spec : ImageSpec) (frame : Frame) → image_first spec frame ≡ None → has_table frame.table ≡ true → AreMultiples frame
multiples spec frame h is =
    let both = or_none (too_many_entries spec frame) (image_misaligned spec frame) h in
    let off : where_so (has_table frame.table) (numbers_off frame) ≡ None =
    map_none (λ (n : ℕ). fault.Misaligned spec.name n frame.sector)
    (where_so (has_table frame.table) (numbers_off frame)) both.1 in
    let parts =
    or_none (off_multiple frame.size frame.sector) (off_multiple (Some frame.entries_at) frame.sector)
    (where_none (has_table frame.table) (numbers_off frame) is off) in
    record { size = parts.0; entries = parts.1 }

-- the size of an image of these partitions, in an image of this table
pub record IsSized (frame : Frame) (ss : List Stood) : Type 0 where
  pub small : image_size frame ss ≤ 2 ^ 43
  pub needs : full frame ss + backup_len frame ≤ image_size frame ss
  pub front : frame.front ≤ full frame ss
  pub ends : All (λ s. end_of s ≤ full frame ss) ss
  pub whole : has_table frame.table ≡ true → image_size frame ss / frame.sector * frame.sector ≡ image_size frame ss
  pub entries : has_guid frame.table ≡ true → frame.entries_at / frame.sector * frame.sector ≡ frame.entries_at

pub is_sized : (spec : ImageSpec) (frame : Frame) (ss : List Stood) → (frame.sector ≡ 512) ⊎ (frame.sector ≡ 4096) → image_first spec frame ≡ None → image_last spec frame ss ≡ None → IsSized frame ss
is_sized spec frame ss two before behind =
    let needs : ℕ = needs_of frame ss in
    let first =
    or_none (extended_overlap spec ss)
    (option_or (above_most spec needs)
    (option_or (above_most spec (unwrap_or frame.size 0)) (too_small frame.size needs))) behind in
    let second =
    or_none (above_most spec needs)
    (option_or (above_most spec (unwrap_or frame.size 0)) (too_small frame.size needs)) first.1 in
    let third = or_none (above_most spec (unwrap_or frame.size 0)) (too_small frame.size needs) second.1 in
    let low : 1 ≤ step_of frame = step_least (has_table frame.table) frame.sector two in
    record {
      small = size_small frame.size needs most_bytes (not_above spec needs second.0)
          (not_above spec (unwrap_or frame.size 0) third.0);
      needs = needs_inside frame.size needs third.1;
      front = front_full frame ss low;
      ends = ends_full frame ss low;
      whole = λ is. size_whole frame.size needs frame.sector (multiples spec frame before is).size
          (needs_whole frame ss two is);
      entries = λ is. whole_of frame.entries_at frame.sector
          (off_none frame.entries_at frame.sector (multiples spec frame before (has_both frame.table is)).entries);
    }
