-- The bytes of units that a copier has passed.
use Rattle.std.proofs.Common.{◌≡◌, ℕ, ◌+◌, ◌-◌, ◌*◌, ◌<◌, ◌≤◌, List, [], ◌∷◌, ◌++◌, length, get_or, take, drop, refl, sym, subst, ap, ◌∙◌, arith, length-append, length-take}
use Rattle.std.proofs.lemmas.List.{drop-append-le, get_or-take, take_all}
use Rattle.std.proofs.lemmas.List.Concat.{get_or-flat_map}
use Rattle.std.proofs.lemmas.List.Folds.{length-flat_map-take}
use Rattle.std.proofs.lemmas.Option.{get_or_from_slice_get, slice_get-get_or, slice_get_within}
use Rattle.std.proofs.Math.Seq.{drop-append_seam, take-append_seam}
use Rattle.std.specs.Prelude.{Contains, Some, slice_get}
use Rattle.base_fields.specs.Fields.{written}
use Rattle.base_fields.specs.declared.spans.Span.{Span}
use Rattle.block_map.specs.Maps.{part_of, parts_of, range_span}
use Rattle.block_map.specs.Units.{IsRangeOf, first_of, joined, units_by_range, units_of}
use Rattle.block_map.specs.declared.maps.BlockMap.{BlockMap}
use Rattle.block_map.specs.declared.maps.Range.{Range}
use Rattle.block_map.proofs.Index.{first_next, first_rises}
use Rattle.block_map.proofs.Joining.{parts_more, units_join}
use Rattle.block_map.proofs.Numbering.{row_unit, there_below}
use Rattle.journal_format.specs.declared.jobs.JobId.{JobId}
use Rattle.copy_states.specs.Jobs.{IsInRange, IsJobOf, IsUnitAt, SameIn}
use Rattle.copy_laws.proofs.Bytes.{same_parts}
use Rattle.copy_laws.proofs.UnitBytes.{other_unit}
use Rattle.copy_laws.specs.Writes.{UnitsTorn}
use Rattle.copier_course.specs.Courses.{IsCopyJob, first_in, rows_in}
use Rattle.copier_course.specs.declared.jobs.CopyJob.{CopyJob}
use Rattle.copier_moves.specs.Fitting.{bytes_before}

-- a span that was written reads so
pub written_reads : (u : Span) (old bytes : List ℕ) → length bytes ≡ u.len → u.at + u.len ≤ length old → part_of u (written old u.at bytes) ≡ bytes
written_reads u old bytes whole inside =
    let rest : List ℕ = drop (u.at + length bytes) old in
    let front : length (take u.at old) ≡ u.at = omega (arith, length-take u.at old, inside) in
    let seam : drop u.at (take u.at old ++ bytes) ≡ bytes = subst (λ (n : ℕ). drop n (take u.at old ++ bytes) ≡ bytes) front (drop-append_seam (take u.at old) bytes) in
    let low : u.at ≤ length (take u.at old ++ bytes) = omega (arith, front, length-append (take u.at old) bytes) in
    let behind : drop u.at (take u.at old ++ bytes ++ rest) ≡ bytes ++ rest = drop-append-le u.at (take u.at old ++ bytes) rest low ∙ ap (λ (l : List ℕ). l ++ rest) seam in
    ap (λ (l : List ℕ). take u.len l) behind ∙ subst (λ (n : ℕ). take n (bytes ++ rest) ≡ bytes) whole (take-append_seam bytes rest)

-- number i of a range's units is a unit
row_unit_at : (rows : List (List Span)) (r i : ℕ) (u : Span) → r < length rows → slice_get (get_or rows r []) i ≡ Some u → slice_get (joined rows) (first_of rows r + i) ≡ Some u
row_unit_at rows r i u there is =
    let row : List Span = get_or rows r [] in
    let below : i < length row = slice_get_within row i u is in
    let at : get_or (joined rows) (first_of rows r + i) u ≡ get_or row i u = get_or-flat_map (λ (l : List Span). l) rows r i [] u there below in
    let most : first_of rows r + length row ≤ length (joined rows) = length-flat_map-take (λ (l : List Span). l) rows r [] there in
    slice_get-get_or (joined rows) (first_of rows r + i) u (omega arith) ∙ ap (λ (s : Span). Some s) (at ∙ get_or_from_slice_get row i u u is)

-- what is among the first n is below n, and is in the whole
among_first : (n : ℕ) (row : List Span) (i : ℕ) (u : Span) → slice_get (take n row) i ≡ Some u → (i < n) × (slice_get row i ≡ Some u)
among_first n row i u at =
    let less : i < length (take n row) = slice_get_within (take n row) i u at in
    let below : i < n = omega (arith, length-take n row) in
    let within : i < length row = omega (arith, length-take n row) in
    (below, slice_get-get_or row i u within ∙ ap (λ (s : Span). Some s) (sym (get_or-take n row i u below) ∙ get_or_from_slice_get (take n row) i u u at))

-- the bytes before a unit stay where only units from that one on are torn
pub before_kept : (job : CopyJob) (r k : ℕ) (ks t new : List ℕ) → IsCopyJob job → r < length (rows_in job) → UnitsTorn job.id job.map ks t new →
    ((x : ℕ) → first_in job r ≤ x → x < k → ¬ Contains ks x) → bytes_before job r k new ≡ bytes_before job r k t
before_kept job r k ks t new is there torn out =
    same_parts (take (k - first_in job r) (get_or (rows_in job) r [])) t new (λ i u at.
    let it = among_first (k - first_in job r) (get_or (rows_in job) r []) i u at in
    let below : i < k - first_in job r = it.0 in
    other_unit job.id job.map ks (first_in job r + i) u t new is.of_map torn (row_unit_at (rows_in job) r i u there it.1) (out (first_in job r + i) (omega arith) (omega (arith, below))))

-- with the unit's own they are those before the next
pub before_next : (job : CopyJob) (r k : ℕ) (u : Span) (t : List ℕ) → IsInRange job.id job.map k r → IsUnitAt job.id job.map k u →
    bytes_before job r (k + 1) t ≡ bytes_before job r k t ++ part_of u t
before_next job r k u t mine is =
    let j : ℕ = k - first_in job r in
    let row : List Span = get_or (rows_in job) r [] in
    let at : slice_get row j ≡ Some u = row_unit (rows_in job) k r u mine is in
    let below : j < length row = there_below row j u at in
    let next : k + 1 - first_in job r ≡ j + 1 = omega (arith, mine.from) in
    ap (λ (n : ℕ). parts_of (take n row) t) next ∙ parts_more row j u t below
    ∙ ap (λ (x : Span). parts_of (take j row) t ++ part_of x t) (get_or_from_slice_get row j u u at)

-- before the first there are none, and before the number behind the last there are the range's
pub before_first : (job : CopyJob) (r : ℕ) (t : List ℕ) → bytes_before job r (first_in job r) t ≡ []
before_first job r t =
    let none : first_in job r - first_in job r ≡ 0 = omega arith in
    ap (λ (n : ℕ). parts_of (take n (get_or (rows_in job) r [])) t) none

pub before_end : (job : CopyJob) (r : ℕ) (range : Range) (t : List ℕ) → IsCopyJob job → slice_get job.map.ranges r ≡ Some range → r < length (rows_in job) → r < length job.map.ranges →
    bytes_before job r (first_in job (r + 1)) t ≡ part_of (range_span job.map range) t
before_end job r range t is at there below =
    let row : List Span = get_or (rows_in job) r [] in
    let all : first_in job (r + 1) - first_in job r ≡ length row = omega (arith, first_next (rows_in job) r [] there) in
    ap (λ (n : ℕ). parts_of (take n row) t) all ∙ ap (λ (l : List Span). parts_of l t) (take_all (length row) row (omega arith))
    ∙ units_join job.map job.id.unit r range t (omega (arith, is.of_map.unit.not_below)) below
    ∙ ap (λ (x : Range). part_of (range_span job.map x) t) (get_or_from_slice_get job.map.ranges r range range at)
