-- A `&` to the bytes of a block is made where one to a byte is. Assumes `Logic`.
use Prim.Native.Nat.{ℕ, ◌+◌, ◌^◌}
use mathlib.Core.Path.{refl}
use mathlib.Core.List.{List, [], ◌∷◌}
use lib.ListN.{length}
use seplogic.Ra.Ura.{Ura}
use base.Fraction.{full_share}
use base.Fml.{Lft, Incl, ftrue, ffalse, fsep, flt, froom}
use types.Logic.{Logic}
use types.SemTy.{cells}
use denote.Builtin.{u8}
use denote.Memory.{mem, part_at, shared_of}
use denote.Param.Laws.{Laws, of_field}
use denote.Param.Shared.{copy_shared}
use denote.RawPtr.{Ptr, block_ptr, null_ptr}
use denote.Sharing.{ShrLaws, said}
use denote.SharingLaws.{beside_shr_laws, said_shr_laws}
use denote.Shares.{Shares-less}
use denote.Slice.{elements_shared, elements_shr_laws}
use denote.Struct.Field.{u8-field}
use denote.Struct.Laws.{u8-laws, u8-copy}
use denote.Struct.Lending.{Lends, Lends-both, Lends-first, Lends-nothing, Lends-said, Lends-false}
use Rattle.region_pool.specs.Ownership.{bytes_of, bytes_own, bytes_lent}

abbrev byte_laws : Laws u8
byte_laws = of_field u8-field u8-laws refl (copy_shared u8-field u8-copy)

pub bytes_lent_laws : (p : Ptr) (xs : List ℕ) (n : ℕ) → ShrLaws (bytes_lent p xs n)
bytes_lent_laws (block_ptr b o) xs n = beside_shr_laws _ _ (said_shr_laws (flt (length xs + n) (2 ^ 63)) tt) (elements_shr_laws u8 byte_laws.shr_laws xs b o)
bytes_lent_laws null_ptr xs n = said_shr_laws ffalse tt

module _ {M : Type 1} {𝓤 : Ura M} (𝓛 : Logic 𝓤) (l : Lft) (inc : Incl l u8.lives) where
  Lends-cells : (b o : ℕ) (xs : List ℕ) → Lends 𝓛 (cells (mem u8) xs b o) (elements_shared u8 xs b o) l
  Lends-cells b o [] = Lends-nothing 𝓛 ftrue l
  Lends-cells b o (x ∷ xs) =
      Lends-both 𝓛 (part_at u8 full_share x b o) (cells (mem u8) xs b (o + 1)) (shared_of u8 x b o) (elements_shared u8 xs b (o + 1)) l
      (λ κ ts. Shares-less 𝓛 u8 u8.lives l inc (byte_laws.shares 𝓛) x κ ts b o) (Lends-cells b (o + 1) xs)

  pub Lends-bytes : (p : Ptr) (xs : List ℕ) (n : ℕ) → Lends 𝓛 (bytes_own p xs n) (bytes_lent p xs n) l
  Lends-bytes (block_ptr b o) xs n =
      Lends-both 𝓛 (flt (length xs + n) (2 ^ 63)) (fsep (cells (mem u8) xs b o) (froom (bytes_of n) b (length xs + o))) (said (flt (length xs + n) (2 ^ 63))) (elements_shared u8 xs b o) l
      (Lends-said 𝓛 (flt (length xs + n) (2 ^ 63)) tt l) (Lends-first 𝓛 (cells (mem u8) xs b o) (froom (bytes_of n) b (length xs + o)) (elements_shared u8 xs b o) l (Lends-cells b o xs))
  Lends-bytes null_ptr xs n = Lends-false 𝓛 (said ffalse) l
