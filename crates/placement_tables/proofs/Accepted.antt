-- What is known of an image whose placing nothing refuses.
use Rattle.std.specs.Prelude.{◌≡◌, ℕ, ◌^◌, ◌≤◌, [], true, Option, None, Some, IfSome, unwrap_or}
use Rattle.std.specs.Prelude.{List}
use Rattle.std.proofs.Common.{arith}
use Rattle.std.proofs.lemmas.Bool.{ltb-false}
use Rattle.placement.specs.Layouts.{image_size, needs_of}
use Rattle.placement.specs.Said.{above_most, extended_overlap, extended_start, image_first, image_last, image_misaligned, in_extended, partition_fault, refusal_in, too_many_entries, too_small}
use Rattle.image_specs.specs.declared.specs.ImageSpec.{ImageSpec}
use Rattle.placement_rules.specs.Faults.{first_fault, most_bytes, off_multiple}
use Rattle.placement_rules.specs.Frames.{has_table}
use Rattle.placement_rules.specs.Places.{Stood}
use Rattle.placement_rules.specs.declared.terms.Frame.{Frame}
use Rattle.placement_tables.proofs.Refusals.{mapped_none, multiple_none, or_none, provided_none, where_none}
use Prim.Native.Nat.{◌∣◌}

pub record IsAccepted (spec : ImageSpec) (frame : Frame) (ss : List Stood) : Type 0 where
  pub entries : too_many_entries spec frame ≡ None
  pub even_size : has_table frame.table ≡ true → IfSome frame.size (λ n. frame.sector ∣ n)
  pub even_entries : has_table frame.table ≡ true → frame.sector ∣ frame.entries_at
  pub parts : first_fault frame [] ss ≡ None
  pub extended : in_extended ss (extended_start ss) ≡ None
  pub needs : needs_of frame ss ≤ image_size frame ss
  pub size : image_size frame ss ≤ 2 ^ 43

large_enough : (size : Option ℕ) (needs : ℕ) → too_small size needs ≡ None → needs ≤ unwrap_or size needs
large_enough None needs h = omega arith
large_enough (Some n) needs h = ltb-false n needs (provided_none _ _ h)

small_enough :
    (size : Option ℕ) (needs : ℕ) → needs ≤ 2 ^ 43 → unwrap_or size 0 ≤ 2 ^ 43 → unwrap_or size needs ≤ 2 ^ 43
small_enough None needs h g = h
small_enough (Some n) needs h g = g

pub accepted :
    (spec : ImageSpec) (frame : Frame) (ss : List Stood) → refusal_in spec frame ss ≡ None → IsAccepted spec frame ss
accepted spec frame ss h =
    let one = or_none (image_first spec frame) _ h in
    let first = or_none (too_many_entries spec frame) (image_misaligned spec frame) one.0 in
    let two = or_none (partition_fault spec frame ss) (image_last spec frame ss) one.1 in
    let three = or_none (extended_overlap spec ss) _ two.1 in
    let four = or_none (above_most spec (needs_of frame ss)) _ three.1 in
    let five = or_none (above_most spec (unwrap_or frame.size 0)) (too_small frame.size (needs_of frame ss)) four.1 in
    let even = λ (is : has_table frame.table ≡ true).
    or_none (off_multiple frame.size frame.sector) (off_multiple (Some frame.entries_at) frame.sector)
    (where_none (has_table frame.table) _ (mapped_none _ _ first.1) is) in
    record {
      entries = first.0;
      even_size = λ is. multiple_none frame.size frame.sector (even is).0;
      even_entries = λ is. multiple_none (Some frame.entries_at) frame.sector (even is).1;
      parts = mapped_none _ _ two.0;
      extended = mapped_none _ _ three.0;
      needs = large_enough frame.size (needs_of frame ss) five.1;
      size =
          small_enough frame.size (needs_of frame ss)
          (ltb-false most_bytes (needs_of frame ss) (provided_none _ _ four.0))
          (ltb-false most_bytes (unwrap_or frame.size 0) (provided_none _ _ five.0));
    }
