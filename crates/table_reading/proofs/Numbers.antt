-- A number of a list of bytes is that of the image which has these bytes.
use Rattle.std.specs.Prelude.{◌≡◌, ℕ, List, drop, slice_index}
use Rattle.std.proofs.Common.{sym}
use Rattle.byteorder.specs.Endian.{little_number}
use Rattle.base_fields.specs.Fields.{number_at}
use Rattle.base_fields.proofs.Images.{number_of_list}

pub number_here : (xs : List ℕ) (o : ℕ) → little_number 4 (drop o xs) ≡ number_at (λ k. slice_index xs k) o 4
number_here xs o = sym (number_of_list xs o 4)

pub long_number_here : (xs : List ℕ) (o : ℕ) → little_number 8 (drop o xs) ≡ number_at (λ k. slice_index xs k) o 8
long_number_here xs o = sym (number_of_list xs o 8)
