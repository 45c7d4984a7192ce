-- What holds of the place where the rules put a partition that has no fault of its own.
use Rattle.std.specs.Prelude.{◌≡◌, ℕ, ◌+◌, ◌-◌, ◌*◌, ◌/◌, ◌%◌, ◌≤◌, Bool, true, false, IsTrue, Option, Some, None, IfSome, if◌then◌else◌, unwrap_or}
use Rattle.std.proofs.Common.{refl, ap, ◌∙◌, add-zero, arith}
use Rattle.std.proofs.Math.Nat.{add-mod_right, mul-mod_left, zero-mod}
use Rattle.placement_rules.proofs.Divides.{whole_again, whole_between}
use Rattle.placement_rules.proofs.Multiples.{least_whole}
use Rattle.placement_rules.proofs.NoFault.{AreAligned, IsWithinLimits, aligned, within_limits}
use Rattle.placement_rules.specs.Bounds.{IsStanding, place_fault}
use Rattle.placement_rules.specs.Faults.{misaligned}
use Rattle.placement_rules.specs.Frames.{backup_len}
use Rattle.placement_rules.specs.Places.{at_from, least_multiple, room_in, room_of, standing}
use Rattle.placement_rules.specs.declared.terms.Frame.{Frame}
use Rattle.placement_rules.specs.declared.terms.Terms.{Terms}

-- ---- where it stands, by whether it has an offset and whether it is logical

abbrev at_as : Option ℕ → Bool → ℕ → ℕ → ℕ
at_as offset logical align highest = unwrap_or offset (least_multiple align highest + (if logical then align else 0))

at_whole : (offset : Option ℕ) (logical : Bool) (align highest : ℕ) → IfSome offset (λ n. n % align ≡ 0) → at_as offset logical align highest % align ≡ 0
at_whole (Some n) logical align highest is = is
at_whole None true align highest is = add-mod_right (least_multiple align highest) align ∙ least_whole highest align
at_whole None false align highest is = ap (λ (n : ℕ). n % align) (add-zero (least_multiple align highest)) ∙ least_whole highest align

behind_record : (offset : Option ℕ) (align highest : ℕ) → IfSome offset (λ n. align ≤ n) → align ≤ at_as offset true align highest
behind_record (Some n) align highest is = is
behind_record None align highest is = omega arith

abbrev head_as : Bool → ℕ → ℕ → Option ℕ
head_as logical align at = if logical then Some (at - align) else None

head_before : (logical : Bool) (align at : ℕ) → (IsTrue logical → align ≤ at) → IfSome (head_as logical align at) (λ head. head + align ≡ at)
head_before true align at is = let low : align ≤ at = is refl in omega arith
head_before false align at is = tt

has_head : (logical : Bool) (align at : ℕ) → IsTrue logical → head_as logical align at ≡ Some (at - align)
has_head true align at is = refl
has_head false align at is = absurd (cc)

no_head : (logical : Bool) (align at : ℕ) → logical ≡ false → head_as logical align at ≡ None
no_head false align at is = refl
no_head true align at is = absurd (cc)

-- ---- sizes in whole sectors

room_whole : (frame : Frame) (t : Terms) (at : ℕ) (last : Bool) (size : Option ℕ) → at % frame.sector ≡ 0 → t.align % frame.sector ≡ 0 → (if last then room_in frame size t at else 0) % frame.sector ≡ 0
room_whole frame t at false size start align = zero-mod frame.sector
room_whole frame t at true None start align = zero-mod frame.sector
room_whole frame t at true (Some n) start align =
    whole_between ((n - backup_len frame) / t.align * t.align) at frame.sector
    (whole_again ((n - backup_len frame) / t.align * t.align) t.align frame.sector (mul-mod_left ((n - backup_len frame) / t.align) t.align) align) start

size_whole : (frame : Frame) (t : Terms) (at : ℕ) (grows : Bool) (given : Option ℕ) → at % frame.sector ≡ 0 → t.align % frame.sector ≡ 0 → IfSome given (λ n. n % frame.sector ≡ 0) → (if grows then room_of frame t at else unwrap_or given (least_multiple t.align t.len)) % frame.sector ≡ 0
size_whole frame t at true given start align is = room_whole frame t at t.last frame.size start align
size_whole frame t at false (Some n) start align is = is
size_whole frame t at false None start align is = whole_again (least_multiple t.align t.len) t.align frame.sector (least_whole t.len t.align) align

-- ---- the place

pub stands : (frame : Frame) (t : Terms) (highest : ℕ) → misaligned frame t ≡ None → place_fault t (standing frame t (at_from highest t)) ≡ None → IsStanding frame t (standing frame t (at_from highest t))
stands frame t highest straight free =
    let aligns : AreAligned frame t = aligned frame t straight in
    let limits : IsWithinLimits t (standing frame t (at_from highest t)) = within_limits t (standing frame t (at_from highest t)) free in
    let at : at_from highest t % t.align ≡ 0 = at_whole t.offset t.logical t.align highest aligns.offset in
    record {
      end = limits.end;
      len = limits.len;
      at = at;
      head = head_before t.logical t.align (at_from highest t) (low t.logical refl);
      logical = has_head t.logical t.align (at_from highest t);
      primary = no_head t.logical t.align (at_from highest t);
      tabled = λ is.
          let start : at_from highest t % frame.sector ≡ 0 = whole_again (at_from highest t) t.align frame.sector at (aligns.align is) in
          record {
            at = start;
            size = size_whole frame t (at_from highest t) t.autoresize t.size start (aligns.align is) (aligns.size is);
            some = limits.some is;
          };
      narrow = limits.narrow;
    }
  where
    low : (logical : Bool) → t.logical ≡ logical → IsTrue logical → t.align ≤ at_as t.offset logical t.align highest
    low true is so = behind_record t.offset t.align highest ((aligned frame t straight).logical is)
    low false is so = absurd (cc)
