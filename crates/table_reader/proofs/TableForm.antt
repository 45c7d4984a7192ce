-- A GUID partition table has as many entries as slot numbers, and at most 128.
use Rattle.std.specs.Prelude.{◌≡◌, ℕ, zero, suc, ◌+◌, ◌≤◌, List, [], ◌∷◌, ◌++◌, length, map, Bool, true, false, Result, Ok, Err, if◌then◌else◌}
use Rattle.std.proofs.Common.{refl, ap, sym, subst, ◌∙◌, arith, length-append}
use Rattle.std.proofs.lemmas.List.{length-map}
use Rattle.gpt_reading.specs.Used.{is_used, slot_in, table_of, used_below}
use Rattle.gpt_reading.specs.declared.tables.GptTable.{GptTable}
use Rattle.base_fields.specs.Results.{◌>>=◌}
use Rattle.table_reader.specs.Halves.{Half, backup_of, gpt_of, half_of}
use Rattle.table_reader.specs.Tables.{IsGpt}
use Rattle.table_reader.specs.declared.fault.TableFault.{TableFault}

one_at_most : (b : Bool) (k : ℕ) → length (if b then k ∷ [] else []) ≤ 1
one_at_most true k = omega arith
one_at_most false k = omega arith

used_few : (entries : List ℕ) (n : ℕ) → length (used_below (slot_in entries) n) ≤ n
unfolding used_below
used_few entries zero = omega arith
used_few entries (suc k) =
    let rest = used_few entries k in
    let one = one_at_most (is_used (slot_in entries k)) k in
    let both = length-append (used_below (slot_in entries) k) (if is_used (slot_in entries k) then k ∷ [] else []) in
    omega (arith, rest, one, both)

form_of : (head entries : List ℕ) → IsGpt (table_of head entries)
form_of head entries =
    let used : List ℕ = used_below (slot_in entries) 128 in
    let few = used_few entries 128 in
    let listed = length-map used (slot_in entries) in
    let numbered = length-map used (λ (k : ℕ). k + 1) in
    record { numbered = numbered ∙ sym listed; few = omega (arith, few, listed) }

pub table_form : (table : GptTable) (head entries : List ℕ) → table ≡ table_of head entries → IsGpt table
table_form table head entries e = subst IsGpt (sym e) (form_of head entries)

-- a table whose front half and backup are read
pub gpt_all : (bytes : List ℕ) (z : ℕ) (front : Half) (table : GptTable) (done : Unit {0}) → half_of bytes z 1 false ≡ Ok front → backup_of bytes z front ≡ Ok done → table ≡ table_of front.head front.entries → gpt_of bytes z ≡ Ok table
gpt_all bytes z front table done there backup e = rw (there, backup) (ap Ok (sym e))
