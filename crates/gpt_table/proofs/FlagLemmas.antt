-- Marks in different bits add up.
use Rattle.std.proofs.Common.{◌≡◌, ◌+◌, Bool, true, false, bit_or, refl}
use Rattle.gpt_table.specs.Flags.{bit}

pub marks_sum : (b r h n : Bool) → bit_or (bit_or (bit_or (bit b 2) (bit r 60)) (bit h 62)) (bit n 63) ≡ bit b 2 + bit r 60 + bit h 62 + bit n 63
marks_sum true true true true = refl
marks_sum true true true false = refl
marks_sum true true false true = refl
marks_sum true true false false = refl
marks_sum true false true true = refl
marks_sum true false true false = refl
marks_sum true false false true = refl
marks_sum true false false false = refl
marks_sum false true true true = refl
marks_sum false true true false = refl
marks_sum false true false true = refl
marks_sum false true false false = refl
marks_sum false false true true = refl
marks_sum false false true false = refl
marks_sum false false false true = refl
marks_sum false false false false = refl
