-- What shows the sector size stands in front.
use Rattle.std.specs.Prelude.{◌≡◌, ℕ, ◌+◌, ◌<◌, ◌≤◌, min, nat_le, List, length, take, slice_index, ◌==◌, Bool, true, false, ◌&&◌}
use Rattle.std.proofs.Common.{refl, ap, arith, lit≤}
use Rattle.std.proofs.lemmas.Bool.{leb-true}
use Rattle.std.proofs.lemmas.List.{get_or-take, length-take-le}
use Rattle.std.proofs.lemmas.Bool.Decides.{nat_tests}
use Rattle.base_fields.specs.declared.spans.TableKind.{TableKind}
use Rattle.base_fields.specs.declared.spans.TableKind.TheVariants as table
use Rattle.base_fields.proofs.Images.{same_number}
use Rattle.table_reading.specs.Header.{said, signature}
use Rattle.table_reading.specs.Sector.{begins_header, sector_of, sector_of_header}

and_same : (a b c d : Bool) → a ≡ c → (c ≡ true → b ≡ d) → (a && b) ≡ (c && d)
and_same a b true d e h = rw e (h refl)
and_same a b false d e h = rw e refl

same_test : (a l n : ℕ) → a ≤ n → nat_le a (min l n) ≡ nat_le a l
same_test a l n within = grind (arith, nat_tests)

-- a number that lies in front is that of the whole
same_said : (bytes : List ℕ) (n at : ℕ) → at + 8 ≤ n → at + 8 ≤ length bytes → said (take (min (length bytes) n) bytes) at 8 ≡ said bytes at 8
same_said bytes n at within inside =
    same_number (λ k. slice_index (take (min (length bytes) n) bytes) k) (λ k. slice_index bytes k) at at 8
    (λ j h. get_or-take (min (length bytes) n) bytes (at + j) 0 (omega arith))

-- whether a header begins there is seen in so many bytes in front
begins_in_front : (bytes : List ℕ) (n at : ℕ) → at + 8 ≤ n → begins_header (take (min (length bytes) n) bytes) at ≡ begins_header bytes at
begins_in_front bytes n at within =
    let long : length (take (min (length bytes) n) bytes) ≡ min (length bytes) n = length-take-le (min (length bytes) n) bytes (omega arith) in
    let test : nat_le (at + 8) (length (take (min (length bytes) n) bytes)) ≡ nat_le (at + 8) (length bytes) = rw long (same_test (at + 8) (length bytes) n within) in
    and_same _ _ _ _ test
    (λ there. ap (λ (x : ℕ). x == signature) (same_said bytes n at within (leb-true (at + 8) (length bytes) there)))

pub sector_in_front : (bytes : List ℕ) (kind : TableKind) → sector_of kind (take (min (length bytes) 4104) bytes) ≡ sector_of kind bytes
sector_in_front bytes table.Gpt = rw (begins_in_front bytes 4104 512 (lit≤ tt), begins_in_front bytes 4104 4096 (lit≤ tt)) refl
sector_in_front bytes table.Hybrid = rw (begins_in_front bytes 4104 512 (lit≤ tt), begins_in_front bytes 4104 4096 (lit≤ tt)) refl
sector_in_front bytes table.Mbr = refl
sector_in_front bytes table.Bare = refl
