-- What the owner of a block's bytes owns and lends, and what the right to free the block is.
use Rattle.std.specs.Prelude.{ℕ, ◌+◌, ◌^◌, List, length}
use base.Fml.{Lft, Fml, ffalse, fsep, flt, froom}
use mir.Syntax.{Ty, w8, ty_int, ty_array}
use types.SemTy.{cells}
use denote.Memory.{mem}
use denote.Slice.{elements_shared}
use denote.Sharing.{said, beside}
use denote.RawPtr.{Ptr, block_ptr, null_ptr}
use denote.Builtin.{u8}

-- n bytes side by side
abbrev pub bytes_of : ℕ → Ty
bytes_of n = ty_array (ty_int w8) n

-- fewer than 2 ^ 63 bytes at p: these are written, and there is room for n more behind them
abbrev pub bytes_own : Ptr → List ℕ → ℕ → Fml
bytes_own (block_ptr b o) xs n = fsep (flt (length xs + n) (2 ^ 63)) (fsep (cells (mem u8) xs b o) (froom (bytes_of n) b (length xs + o)))
bytes_own null_ptr xs n = ffalse

-- what a `&` to them reads
abbrev pub bytes_lent : Ptr → List ℕ → ℕ → Lft → Fml
bytes_lent (block_ptr b o) xs n = beside (said (flt (length xs + n) (2 ^ 63))) (elements_shared u8 xs b o)
bytes_lent null_ptr xs n = said ffalse

-- the allocator's token for a block of n bytes
abbrev pub deed_owns : (Ty → Ptr → Fml) → Ptr → ℕ → Fml
deed_owns token p n = token (bytes_of n) p
