-- Where a partition stands that no rule refuses by its own numbers.
use Rattle.std.specs.Prelude.{◌≡◌, ℕ, ◌+◌, ◌-◌, ◌/◌, ◌^◌, ◌<◌, ◌≤◌, Bool, true, false, ◌&&◌, ◌==◌, if◌then◌else◌, List, Option, None, Some, IfSome, unwrap_or, option_map}
use Rattle.std.proofs.Common.{refl, arith}
use Rattle.std.proofs.lemmas.Bool.{eqb-false}
use Rattle.std.proofs.lemmas.Nat.Gcd.{dvd_trans, dvd-zero, le_of_dvd}
use native.Mathlib.Nat.{dvd-add, dvd-mul_left, dvd-sub, dvd_refl}
use Prim.Native.Nat.{◌∣◌}
use Rattle.conf_values.specs.declared.values.Hole.{Hole}
use Rattle.placement_rules.specs.Faults.{above, bad_autoresize, bad_holes, below, misaligned, most_bytes, most_sectors, no_size, off_multiple, own_fault, too_far, too_large, where_so}
use Rattle.placement_rules.specs.Places.{Stood, at_from, end_of, free_from, least_multiple, room_in, room_of, size_of, stood_at}
use Rattle.placement_rules.specs.declared.terms.Frame.{Frame}
use Rattle.placement_rules.specs.declared.terms.Terms.{Terms}
use Rattle.placement_tables.proofs.Refusals.{above_none, below_none, mapped_none, multiple_none, or_none, provided_none, where_none}

-- a logical partition's record stands at least a sector before it
pub record IsLed (frame : Frame) (s : Stood) : Type 0 where
  pub head : ℕ
  pub there : s.place.head ≡ Some head
  pub even : frame.sector ∣ head
  pub ahead : head + frame.sector ≤ s.place.at

-- what a partition of the table takes is of whole sectors, and its numbers fit where the table is narrow
pub record IsStanding (frame : Frame) (s : Stood) : Type 0 where
  pub at : s.terms.tabled ≡ true → frame.sector ∣ s.place.at
  pub size : s.terms.tabled ≡ true → frame.sector ∣ s.place.size
  pub some : s.terms.tabled ≡ true → 0 < s.place.size
  pub far : end_of s ≤ 2 ^ 43
  pub end : s.terms.narrow ≡ true → end_of s / 512 ≤ 2 ^ 32
  pub count : s.terms.narrow ≡ true → s.place.size / 512 < 2 ^ 32
  pub led : s.terms.logical ≡ true → IsLed frame s
  pub unled : s.terms.logical ≡ false → s.place.head ≡ None

-- ---- aligns

record IsAligned (frame : Frame) (t : Terms) : Type 0 where
  offset : IfSome t.offset (λ n. t.align ∣ n)
  behind : t.logical ≡ true → IfSome t.offset (λ n. t.align ≤ n)
  align : t.tabled ≡ true → frame.sector ∣ t.align
  size : t.tabled ≡ true → IfSome t.size (λ n. frame.sector ∣ n)

aligned : (frame : Frame) (t : Terms) → misaligned frame t ≡ None → IsAligned frame t
aligned frame t h =
    let one = or_none (option_map _ (off_multiple t.offset t.align)) _ h in
    let two = or_none (option_map _ (where_so t.logical (below t.offset t.align))) _ one.1 in
    let three = or_none (option_map _ (where_so t.tabled (off_multiple (Some t.align) frame.sector))) _ two.1 in
    record {
      offset = multiple_none t.offset t.align (mapped_none _ _ one.0);
      behind = λ is. below_none t.offset t.align (where_none t.logical _ (mapped_none _ _ two.0) is);
      align = λ is. multiple_none (Some t.align) frame.sector (where_none t.tabled _ (mapped_none _ _ three.0) is);
      size = λ is. multiple_none t.size frame.sector (where_none t.tabled _ (mapped_none _ _ three.1) is);
    }

-- ---- places

pub chosen : (P : ℕ → Type 0) (n : Option ℕ) (other : ℕ) → IfSome n P → P other → P (unwrap_or n other)
chosen P None other h g = g
chosen P (Some n) other h g = h

added_align : (align : ℕ) (logical : Bool) → align ∣ (if logical then align else 0)
added_align align true = dvd_refl align
added_align align false = dvd-zero align

even_at : (frame : Frame) (highest : ℕ) (t : Terms) → IsAligned frame t → t.align ∣ at_from highest t
even_at frame highest t a =
    chosen (λ n. t.align ∣ n) t.offset (free_from highest t) a.offset
    (dvd-add t.align (dvd-mul_left t.align _) (added_align t.align t.logical))

behind_free : (least align : ℕ) (logical : Bool) → logical ≡ true → align ≤ least + (if logical then align else 0)
behind_free least align true is = omega arith
behind_free least align false is = absurd (cc)

behind_align :
    (frame : Frame) (highest : ℕ) (t : Terms) → IsAligned frame t → t.logical ≡ true → t.align ≤ at_from highest t
behind_align frame highest t a is =
    chosen (λ n. t.align ≤ n) t.offset (free_from highest t) (a.behind is)
    (behind_free (least_multiple t.align highest) t.align t.logical is)

-- ---- sizes

even_room : (frame : Frame) (size : Option ℕ) (t : Terms) (at : ℕ) → t.align ∣ at → t.align ∣ room_in frame size t at
even_room frame None t at h = dvd-zero t.align
even_room frame (Some size) t at h = dvd-sub t.align (dvd-mul_left t.align _) h

picked : {A : Type 0} (P : A → Type 0) (test : Bool) (x y : A) → P x → P y → P (if test then x else y)
picked P true x y h g = h
picked P false x y h g = g

even_size :
    (frame : Frame) (t : Terms) (at : ℕ) → IsAligned frame t → t.tabled ≡ true → t.align ∣ at
    → frame.sector ∣ size_of frame t at
even_size frame t at a is h =
    picked (λ n. frame.sector ∣ n) t.autoresize (room_of frame t at) (unwrap_or t.size (least_multiple t.align t.len))
    (picked (λ n. frame.sector ∣ n) t.last (room_in frame frame.size t at) 0
    (dvd_trans frame.sector (a.align is) (even_room frame frame.size t at h)) (dvd-zero frame.sector))
    (chosen (λ n. frame.sector ∣ n) t.size (least_multiple t.align t.len) (a.size is)
    (dvd_trans frame.sector (a.align is) (dvd-mul_left t.align _)))

sized : (tabled : Bool) (size : ℕ) → (tabled && size == 0) ≡ false → tabled ≡ true → 0 < size
sized true size h is = let nonzero = eqb-false size 0 h in omega arith
sized false size h is = absurd (cc)

-- ---- records

headed : (logical : Bool) (head : ℕ) → logical ≡ true → (if logical then Some head else None) ≡ Some head
headed true head is = refl
headed false head is = absurd (cc)

unheaded : (logical : Bool) (head : ℕ) → logical ≡ false → (if logical then Some head else None) ≡ None
unheaded true head is = absurd (cc)
unheaded false head is = refl

-- ---- all of them

record Faultless (frame : Frame) (s : Stood) : Type 0 where
  align : misaligned frame s.terms ≡ None
  size : no_size s.terms s.place.size ≡ None
  far : too_far s ≡ None

faultless : (frame : Frame) (s : Stood) → own_fault frame s ≡ None → Faultless frame s
faultless frame s h =
    let one = or_none (misaligned frame s.terms) _ h in
    let two = or_none (bad_holes s.holes) _ one.1 in
    let three = or_none (bad_autoresize s.terms s.place.size) _ two.1 in
    let four = or_none (too_large s.terms s.place.size) _ three.1 in
    let five = or_none (no_size s.terms s.place.size) (too_far s) four.1 in
    record { align = one.0; size = five.0; far = five.1 }

record Bounded (s : Stood) : Type 0 where
  bytes : end_of s ≤ 2 ^ 43
  narrow : s.terms.narrow ≡ true → (end_of s / 512 - 1 ≤ most_sectors) × (s.place.size / 512 ≤ most_sectors)

bounded : (s : Stood) → too_far s ≡ None → Bounded s
bounded s h =
    let one = or_none (above most_bytes s.terms.len) _ h in
    let two = or_none (above most_bytes (end_of s)) _ one.1 in
    record {
      bytes = above_none most_bytes (end_of s) two.0;
      narrow = λ is.
          let last =
          or_none (above most_sectors (end_of s / 512 - 1)) (above most_sectors (s.place.size / 512))
          (where_none s.terms.narrow _ two.1 is) in
          (above_none most_sectors (end_of s / 512 - 1) last.0, above_none most_sectors (s.place.size / 512) last.1);
    }

pub standing_at :
    (frame : Frame) (highest : ℕ) (t : Terms) (holes : List Hole) → 1 ≤ t.align → (t.logical ≡ true → t.tabled ≡ true)
    → own_fault frame (stood_at frame highest t holes) ≡ None → IsStanding frame (stood_at frame highest t holes)
standing_at frame highest t holes some within h =
    let known = faultless frame (stood_at frame highest t holes) h in
    let a = aligned frame t known.align in
    let limits = bounded (stood_at frame highest t holes) known.far in
    let at = at_from highest t in
    let even = even_at frame highest t a in
    record {
      at = λ is. dvd_trans frame.sector (a.align is) even;
      size = λ is. even_size frame t at a is even;
      some = λ is. sized t.tabled (size_of frame t at) (provided_none _ _ known.size) is;
      far = limits.bytes;
      end = λ is. let n = limits.narrow is in omega arith;
      count = λ is. let n = limits.narrow is in omega arith;
      led = λ is.
          let back = behind_align frame highest t a is in
          let whole = a.align (within is) in
          let least : frame.sector ≤ t.align = le_of_dvd (omega arith) whole in
          record {
            head = at - t.align;
            there = headed t.logical (at - t.align) is;
            even = dvd_trans frame.sector whole (dvd-sub t.align even (dvd_refl t.align));
            ahead = omega arith;
          };
      unled = λ is. unheaded t.logical (at - t.align) is;
    }
