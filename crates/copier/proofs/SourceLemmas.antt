-- What a read of the source tells of a unit's bytes.
use Rattle.std.proofs.Common.{◌≡◌, ℕ, ◌+◌, ◌<◌, ◌≤◌, Bool, true, false, nat_le, nat_eq, List, [], length, take, drop, max, refl, subst, sym, ◌∙◌, arith, if◌then◌else◌}
use Rattle.std.proofs.lemmas.Bool.Decides.{nat_tests}
use Rattle.std.proofs.lemmas.Option.{get_or_from_slice_get}
use Rattle.std.specs.Prelude.{Err, IfSome, None, Ok, Option, Result, Some}
use Rattle.base_fields.specs.declared.spans.Span.{Span}
use Rattle.outside.specs.Reading.{run_of, span_of}
use Rattle.outside.specs.declared.reading.FillFault.{FillFault}
use Rattle.outside.specs.declared.reading.FillFault.TheVariants.{Short, Missing}
use Rattle.block_map.specs.Units.{units_of}
use Rattle.block_map.specs.declared.maps.BlockMap.{BlockMap}
use Rattle.journal_format.specs.declared.jobs.JobId.{JobId}
use Rattle.copy_narrow.specs.Written.{AreFrom}
use Rattle.copy_states.specs.Jobs.{IsUnitAt}
use Rattle.copier_course.specs.declared.jobs.CopyJob.{CopyJob}
use Rattle.copier_moves.specs.Moves.{AreSources}
use Rattle.copier.specs.Runs.{IsTold}

-- a number has one unit
pub one_span : (id : JobId) (m : BlockMap) (k : ℕ) (u v : Span) → IsUnitAt id m k u → IsUnitAt id m k v → u ≡ v
one_span id m k u v is other = sym (get_or_from_slice_get (units_of m id.unit) k u u is) ∙ get_or_from_slice_get (units_of m id.unit) k v u other

-- a run that was read is there
run_read : (b : Bool) (part got : List ℕ) (off : ℕ) → (if b then Ok part else Err (Short off)) ≡ Ok got → (b ≡ true) × (got ≡ part)
run_read true part got off is = let same : got ≡ part = cc in (refl, same)
run_read false part got off is = let never : ⊥ = cc in absurd never

-- and one that isn't there lacks a byte
run_lacks : (b : Bool) (part : List ℕ) (off at : ℕ) → (if b then Ok part else Err (Short off)) ≡ Err (Short at) → (b ≡ false) × (at ≡ off)
run_lacks true part off at is = let never : ⊥ = cc in absurd never
run_lacks false part off at is = let same : at ≡ off = cc in (refl, same)

asked : (b : Bool) (wanted answer : Result (List ℕ) FillFault) → b ≡ false → (if b then Ok [] else wanted) ≡ answer → wanted ≡ answer
asked false wanted answer isnt is = is
asked true wanted answer isnt is = let never : ⊥ = cc in absurd never

some_asked : (n : ℕ) → 0 < n → nat_eq n 0 ≡ false
some_asked n some = grind (arith, nat_tests)

within : (a b : ℕ) → nat_le a b ≡ true → a ≤ b
within a b is = grind (arith, nat_tests)

past : (a b : ℕ) → nat_le a b ≡ false → b < a
past a b is = grind (arith, nat_tests)

-- what is read of told bytes is theirs
pub read_from : (u : Span) (s got : List ℕ) → 0 < u.len → span_of (Some s) u.at u.len ≡ Ok got → AreFrom u s got
read_from u s got some is =
    let ran = run_read (nat_le (u.at + u.len) (length s)) (take u.len (drop u.at s)) got (max u.at (length s)) (asked (nat_eq u.len 0) (run_of s u.at u.len) (Ok got) (some_asked u.len some) is) in
    record { there = within (u.at + u.len) (length s) ran.0; same = ran.1 }

-- and the byte that lacks is the first of the span that they don't have
pub read_short : (u : Span) (s : List ℕ) (at : ℕ) → 0 < u.len → span_of (Some s) u.at u.len ≡ Err (Short at) → (length s < u.at + u.len) × (at ≡ max u.at (length s))
read_short u s at some is =
    let ran = run_lacks (nat_le (u.at + u.len) (length s)) (take u.len (drop u.at s)) (max u.at (length s)) at (asked (nat_eq u.len 0) (run_of s u.at u.len) (Err (Short at)) (some_asked u.len some) is) in
    (past (u.at + u.len) (length s) ran.0, ran.1)

-- a file that is there isn't missing
pub read_there : (u : Span) (s : List ℕ) → 0 < u.len → span_of (Some s) u.at u.len ≡ Err Missing → ⊥
read_there u s some is = never (nat_le (u.at + u.len) (length s)) (take u.len (drop u.at s)) (max u.at (length s)) (asked (nat_eq u.len 0) (run_of s u.at u.len) (Err Missing) (some_asked u.len some) is)
  where
    never : (b : Bool) (part : List ℕ) (off : ℕ) → (if b then Ok part else Err (Short off)) ≡ Err Missing → ⊥
    never true part off is = cc
    never false part off is = cc

-- so they are the source's bytes, as far as these are told
read_source : (told : Type 0) (file source : Option (List ℕ)) (u : Span) (got : List ℕ) → 0 < u.len →
    (told → span_of file u.at u.len ≡ Ok got) → IsTold told file source → IfSome source (λ s. AreFrom u s got)
read_source told file None u got some read is = tt
read_source told file (Some s) u got some read is =
    let here : span_of (Some s) u.at u.len ≡ Ok got = subst (λ (o : Option (List ℕ)). span_of o u.at u.len ≡ Ok got) is.1 (read is.0) in
    read_from u s got some here

-- at each span that has the unit's number
spread : (job : CopyJob) (source : Option (List ℕ)) (k : ℕ) (u : Span) (got : List ℕ) → IsUnitAt job.id job.map k u →
    IfSome source (λ s. AreFrom u s got) → AreSources job source k got
spread job None k u got at from = tt
spread job (Some s) k u got at from = λ v is. subst (λ (x : Span). AreFrom x s got) (one_span job.id job.map k u v at is) from

pub sources_read : (job : CopyJob) (told : Type 0) (file source : Option (List ℕ)) (k : ℕ) (u : Span) (got : List ℕ) → IsUnitAt job.id job.map k u → 0 < u.len →
    (told → span_of file u.at u.len ≡ Ok got) → IsTold told file source → AreSources job source k got
sources_read job told file source k u got at some read is = spread job source k u got at (read_source told file source u got some read is)
