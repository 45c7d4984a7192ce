-- The partitions of a chain, one record after another.
use Rattle.std.specs.Prelude.{◌≡◌, ℕ, zero, suc, ◌+◌, ◌-◌, ◌*◌, ◌<◌, List, [], ◌∷◌, ◌++◌, Option, None, Some, Result, Ok, Err}
use Rattle.std.proofs.Common.{refl, ap, sym, ◌∙◌, append_assoc, arith}
use Rattle.base_fields.specs.Results.{◌>>=◌}
use Rattle.base_fields.proofs.Binds.{bind-ok}
use Rattle.mbr_table.specs.declared.mbr.MbrEntry.{MbrEntry}
use Rattle.table_reading.specs.declared.record.BootRecord.{BootRecord}
use Rattle.table_reader.specs.Answers.{Refuses}
use Rattle.table_reader.specs.Chain.{boot_at, chain_of, followed, logicals_from}
use Rattle.table_reader.specs.declared.fault.TableFault.{TableFault}
use Rattle.table_reader.specs.declared.fault.TableFault.TheVariants.{NoTable, BadGpt, BadSum, BadChain, Short, Missing, FileFault, NoMemory}

-- these partitions, and behind them those of the records from the one in a sector on
abbrev pub joined : List MbrEntry → Result (List MbrEntry) TableFault → Result (List MbrEntry) TableFault
joined before found = found >>= λ rest. Ok (before ++ rest)

abbrev pub behind : List ℕ → ℕ → List MbrEntry → ℕ → ℕ → Result (List MbrEntry) TableFault
behind bytes start before left sector = joined before (logicals_from bytes start left sector)

pub chain_begins : (bytes : List ℕ) (start : ℕ) → chain_of bytes start ≡ behind bytes start [] 256 start
chain_begins bytes start = sym (bind-ok (logicals_from bytes start 256 start))

-- ---- one record

one_more : (found : Result (List MbrEntry) TableFault) (before : List MbrEntry) (e : MbrEntry) → joined before (found >>= λ rest. Ok (e ∷ rest)) ≡ joined (before ++ e ∷ []) found
one_more (Ok rest) before e = ap Ok (sym (append_assoc before (e ∷ []) rest))
one_more (Err r) before e = refl

more : (bytes : List ℕ) (start n sector : ℕ) (before : List MbrEntry) (boot : BootRecord) (next : ℕ) → boot_at bytes start sector ≡ Ok boot → boot.next ≡ Some next →
    behind bytes start before (suc n) sector ≡ behind bytes start (before ++ boot.logical ∷ []) n next
unfolding logicals_from
more bytes start n sector before boot next here link = rw (here, link) (one_more (logicals_from bytes start n next) before boot.logical)

last : (bytes : List ℕ) (start n sector : ℕ) (before : List MbrEntry) (boot : BootRecord) → boot_at bytes start sector ≡ Ok boot → boot.next ≡ None →
    behind bytes start before (suc n) sector ≡ Ok (before ++ boot.logical ∷ [])
unfolding logicals_from
last bytes start n sector before boot here link = rw (here, link) refl

refused : (bytes : List ℕ) (start n sector : ℕ) (before : List MbrEntry) (e : TableFault) → boot_at bytes start sector ≡ Err e → behind bytes start before (suc n) sector ≡ Err e
unfolding logicals_from
refused bytes start n sector before e here = rw here refl

refused_first : (bytes : List ℕ) (start n sector : ℕ) (before : List MbrEntry) (e : TableFault) → Refuses (boot_at bytes start sector) e → Refuses (behind bytes start before (suc n) sector) e
refused_first bytes start n sector before FileFault h = tt
refused_first bytes start n sector before NoMemory h = tt
refused_first bytes start n sector before Missing h = refused bytes start n sector before Missing h
refused_first bytes start n sector before NoTable h = refused bytes start n sector before NoTable h
refused_first bytes start n sector before (Short at) h = refused bytes start n sector before (Short at) h
refused_first bytes start n sector before (BadGpt at) h = refused bytes start n sector before (BadGpt at) h
refused_first bytes start n sector before (BadChain at) h = refused bytes start n sector before (BadChain at) h
refused_first bytes start n sector before (BadSum at want got) h = refused bytes start n sector before (BadSum at want got) h

-- ---- with some left

pub chain_more : (bytes : List ℕ) (start left sector : ℕ) (before : List MbrEntry) (boot : BootRecord) (next : ℕ) → 0 < left → boot_at bytes start sector ≡ Ok boot → boot.next ≡ Some next →
    behind bytes start before left sector ≡ behind bytes start (before ++ boot.logical ∷ []) (left - 1) next
chain_more bytes start left sector before boot next some here link =
    let one : left ≡ suc (left - 1) = omega arith in
    ap (λ (n : ℕ). behind bytes start before n sector) one ∙ more bytes start (left - 1) sector before boot next here link

pub chain_last : (bytes : List ℕ) (start left sector : ℕ) (before : List MbrEntry) (boot : BootRecord) → 0 < left → boot_at bytes start sector ≡ Ok boot → boot.next ≡ None →
    behind bytes start before left sector ≡ Ok (before ++ boot.logical ∷ [])
chain_last bytes start left sector before boot some here link =
    let one : left ≡ suc (left - 1) = omega arith in
    ap (λ (n : ℕ). behind bytes start before n sector) one ∙ last bytes start (left - 1) sector before boot here link

pub chain_refused : (bytes : List ℕ) (start left sector : ℕ) (before : List MbrEntry) (e : TableFault) → 0 < left → Refuses (boot_at bytes start sector) e → Refuses (behind bytes start before left sector) e
chain_refused bytes start left sector before e some h =
    let one : left ≡ suc (left - 1) = omega arith in
    rw one (refused_first bytes start (left - 1) sector before e h)

-- one record too many
pub chain_ended : (bytes : List ℕ) (start left sector : ℕ) (before : List MbrEntry) → left ≡ 0 → behind bytes start before left sector ≡ Err (BadChain (512 * sector))
unfolding logicals_from
chain_ended bytes start left sector before none = rw none refl
