-- What each step of a copier adds to the numbers of its run.
use Rattle.std.proofs.Common.{◌≡◌, ℕ, ◌+◌, ◌<◌, ◌≤◌, List, [], get_or, inl, inr, refl, sym, ap, subst, ⊎_elim, ◌∙◌, arith}
use Rattle.std.proofs.lemmas.Bool.{cases_lt}
use Rattle.std.proofs.lemmas.List.{get_or-set_other}
use Rattle.std.proofs.lemmas.Option.{slice_get-get_or}
use Rattle.std.specs.Prelude.{Option, None, Some, slice_index}
use Rattle.base_fields.specs.declared.spans.Span.{Span}
use Rattle.block_map.proofs.Index.{first_rises, one_range}
use Rattle.block_map.proofs.Numbering as numbering
use Rattle.block_map.specs.Units.{first_of, units_of}
use Rattle.journal_format.specs.Journals.{IsMarked}
use Rattle.copy_laws.proofs.UnitBytes.{number_found, range_below, rows_length, some_unit}
use Rattle.copy_states.specs.Jobs.{HasFrom, IsChecked, IsInRange, IsRecorded, IsUnchecked, IsUnitAt}
use Rattle.copy_states.specs.Starts.{IsIdle, Pair}
use Rattle.copier_course.specs.Courses.{Checks, IsAtFirst, IsBehind, IsCourse, IsInside, need_of, rows_in}
use Rattle.copier_course.specs.declared.courses.Course.{Course}
use Rattle.copier_course.specs.declared.jobs.CopyJob.{CopyJob}
use Rattle.copier_course.specs.declared.jobs.Need.TheVariants as need
use Rattle.copier_moves.proofs.MarkLemmas.{range_is, unit_is}
use Rattle.copier_moves.proofs.PutLemmas.{inside_below}
use Rattle.copier_moves.specs.Moves.{IsKept, IsPut}
use Rattle.copier.proofs.NeedLemmas.{done_next, kept_next, range_next, unit_next}
use Rattle.copier.specs.declared.steps.Step.TheVariants as did
use Rattle.copy_tally.proofs.Counts.{counted_so, none_counted, none_more, one_more}
use Rattle.copy_tally.proofs.Decided.{recorded_or_not}
use Rattle.copy_tally.specs.Laws.{DoneHaveAll, OpenedHaveNone, Stands, StepsAddUp}
use Rattle.copy_tally.specs.Tallies.{IsKeptAt, IsTallied}

-- ---- where units stand
-- a unit before a range's first one is of an earlier range, and one that isn't, isn't
earlier_range : (job : CopyJob) (k r s : ℕ) → IsInRange job.id job.map k r → k < first_of (rows_in job) s → r < s
earlier_range job k r s mine less = elim (cases_lt r s) [
  | inl fine ↦ fine
  | inr upto ↦ let rise : first_of (rows_in job) s ≤ first_of (rows_in job) r = first_rises (rows_in job) s r upto in absurd (omega (arith, rise, mine.from, less))
]

later_range : (job : CopyJob) (k r s : ℕ) → IsInRange job.id job.map k r → first_of (rows_in job) s ≤ k → s ≤ r
later_range job k r s mine from = elim (cases_lt r s) [
  | inl less ↦ let rise : first_of (rows_in job) (r + 1) ≤ first_of (rows_in job) s = first_rises (rows_in job) (r + 1) s (omega (arith, less)) in absurd (omega (arith, rise, mine.to, from))
  | inr fine ↦ fine
]

-- ---- a copier that was opened
-- no idle unit is passed, as it would have its bytes of every source, also of one that has none
none_copied : (job : CopyJob) (start : Pair) (c : Course) (t j : List ℕ) → Stands job (Some []) start c t j → (k : ℕ) →
    IsIdle job.id job.map start k → k < c.unit → ⊥
none_copied job start c t j stands k idle less =
    let d : Span = record { at = 0; len = 0 } in
    let u : Span = get_or (units_of job.map job.id.unit) k d in
    let is : IsUnitAt job.id job.map k u = slice_get-get_or (units_of job.map job.id.unit) k d (omega (arith, idle.there, stands.sound.of_map.units)) in
    let filled : 0 < u.len = (numbering.unit_is job.map job.id.unit k u stands.sound.of_map.map (some_unit job.id job.map stands.sound.of_map) is).filled in
    let from : HasFrom u [] t = stands.along.copied k u idle less is in
    let room : u.at + u.len ≤ 0 = from.there in
    absurd (omega (arith, filled, room))

-- no kept one is, as each is in a range that is checked
none_kept : (job : CopyJob) (source : Option (List ℕ)) (start : Pair) (c : Course) (t j : List ℕ) → Stands job source start c t j →
    IsAtFirst job c → start.journal ≡ j → (k : ℕ) → k < job.id.units → IsUnchecked job.id job.map k start.journal → k < c.unit → ⊥
none_kept job source start c t j stands first same k below unchecked less =
    let place : (r : ℕ) × IsInRange job.id job.map k r = number_found job.id job.map k stands.sound.of_map below in
    let before : place.0 < c.range = earlier_range job k place.0 c.range place.1 (omega (arith, less, first.unit)) in
    let checked : IsChecked job.id place.0 j = stands.along.before place.0 before (range_below job.id job.map k place.0 stands.sound.of_map place.1) in
    unchecked place.0 place.1 (subst (λ (l : List ℕ). IsChecked job.id place.0 l) (sym same) checked)

pub opened_have_none : OpenedHaveNone
opened_have_none job start c t j stands first was = record {
  writes = none_counted (λ k. IsIdle job.id job.map start k × (k < c.unit)) (λ k is. none_copied job start c t j (stands (Some [])) k is.0 is.1);
  keeps = none_counted (λ k. IsKeptAt job.id job.map start k × (k < c.unit)) (λ k is. ⊎_elim
      (λ same. none_kept job None start c t j (stands None) first same k is.0.there is.0.unchecked is.1)
      (λ unheld. unheld is.0.recorded.opened.held) was);
}

-- ---- a step
module _ (job : CopyJob) (source : Option (List ℕ)) (start : Pair) (c : Course) (t j : List ℕ) (stands : Stands job source start c t j) where
  -- the present unit is in a range that isn't checked at the start
  present_unchecked : IsInside job c → IsUnchecked job.id job.map c.unit start.journal
  present_unchecked inside r other is =
      let mine : IsInRange job.id job.map c.unit c.range = record {
        there = omega (arith, rows_length job.id job.map, stands.sound.of_map.ranges, inside.there);
        from = stands.course.position.low;
        to = inside.below;
      } in
      let same : r ≡ c.range = one_range (rows_in job) c.unit r c.range other mine in
      let here : IsChecked job.id c.range j = (stands.along.behind c.range (omega arith) inside.there).1 (subst (λ (n : ℕ). IsChecked job.id n start.journal) same is) in
      stands.course.position.present.unchecked inside.there ((range_is job.id j c stands.opened stands.marks c.range inside.there).1 here)

  its_number : IsInside job c → c.unit < job.id.units
  its_number inside = inside_below job c stands.sound stands.course inside

  -- one that isn't recorded is idle, and one that is was so at the start
  is_idle : IsInside job c → (IsMarked c.units c.unit → ⊥) → IsIdle job.id job.map start c.unit
  is_idle inside unmarked = record {
    there = its_number inside;
    unrecorded = λ is. unmarked ((unit_is job.id j c stands.opened stands.marks c.unit (its_number inside)).1 (stands.along.kept c.unit (its_number inside) is));
    unchecked = present_unchecked inside;
  }

  is_kept : IsInside job c → IsMarked c.units c.unit → IsKeptAt job.id job.map start c.unit
  is_kept inside marked =
      let recorded : IsRecorded job.id c.unit j = (unit_is job.id j c stands.opened stands.marks c.unit (its_number inside)).0 marked in
      record {
        there = its_number inside;
        recorded = ⊎_elim (λ is. is)
            (λ other. absurd (stands.along.unrecorded c.unit (record { there = its_number inside; unrecorded = other; unchecked = present_unchecked inside }) (omega arith) recorded))
            (recorded_or_not job.id c.unit start.journal);
        unchecked = present_unchecked inside;
      }

  unit_adds : (d : Course) (k written kept : ℕ) → need_of job c ≡ need.Unit k → IsPut job c d → IsTallied job.id job.map start c.unit written kept →
      IsTallied job.id job.map start d.unit (written + 1) (kept + 0)
  unit_adds d k written kept next put tallied =
      let it = unit_next job c stands.course k next in
      let here : IsIdle job.id job.map start c.unit = is_idle it.inside it.unmarked in
      let now : IsTallied job.id job.map start (c.unit + 1) (written + 1) (kept + 0) = record {
        writes = one_more (IsIdle job.id job.map start) written (written + 1) c.unit here refl tallied.writes;
        keeps = none_more (IsKeptAt job.id job.map start) kept (kept + 0) c.unit (c.unit + 1) (omega arith)
            (λ n is from to. here.unrecorded (subst (λ (x : ℕ). IsRecorded job.id x start.journal) (omega (arith, from, to)) is.recorded)) (omega arith) tallied.keeps;
      } in
      subst (λ (n : ℕ). IsTallied job.id job.map start n (written + 1) (kept + 0)) (sym (ap (λ (x : Course). x.unit) put.same)) now

  kept_adds : (d : Course) (k written kept : ℕ) → need_of job c ≡ need.Kept k → IsKept c d → IsTallied job.id job.map start c.unit written kept →
      IsTallied job.id job.map start d.unit (written + 0) (kept + 1)
  kept_adds d k written kept next same tallied =
      let it = kept_next job c stands.course k next in
      let here : IsKeptAt job.id job.map start c.unit = is_kept it.inside it.marked in
      let now : IsTallied job.id job.map start (c.unit + 1) (written + 0) (kept + 1) = record {
        writes = none_more (IsIdle job.id job.map start) written (written + 0) c.unit (c.unit + 1) (omega arith)
            (λ n is from to. is.unrecorded (subst (λ (x : ℕ). IsRecorded job.id x start.journal) (omega (arith, from, to)) here.recorded)) (omega arith) tallied.writes;
        keeps = one_more (IsKeptAt job.id job.map start) kept (kept + 1) c.unit here refl tallied.keeps;
      } in
      subst (λ (n : ℕ). IsTallied job.id job.map start n (written + 0) (kept + 1)) (sym (ap (λ (x : Course). x.unit) same)) now

  -- the ranges between the one that is ended and the next one were checked at the start
  none_between : (d : Course) → IsBehind job c → IsCourse job d → Checks c d → IsAtFirst job d → (k : ℕ) → k < job.id.units →
      IsUnchecked job.id job.map k start.journal → c.unit ≤ k → k < d.unit → ⊥
  none_between d behind after checks first k below unchecked from to =
      let place : (r : ℕ) × IsInRange job.id job.map k r = number_found job.id job.map k stands.sound.of_map below in
      let r : ℕ = place.0 in
      let low : c.range + 1 ≤ r = later_range job k r (c.range + 1) place.1 (omega (arith, behind.end, from)) in
      let high : r < d.range = earlier_range job k r d.range place.1 (omega (arith, first.unit, to)) in
      let there : r < job.id.ranges = range_below job.id job.map k r stands.sound.of_map place.1 in
      let marked : IsMarked d.ranges r = after.position.present.before r high in
      let still : IsMarked c.ranges r = sym (ap (λ (l : List ℕ). slice_index l r) checks.ranges ∙ get_or-set_other c.ranges c.range r 0x44 0 (λ same. omega (arith, same, low))) ∙ marked in
      let checked : IsChecked job.id r j = (range_is job.id j c stands.opened stands.marks r there).0 still in
      unchecked r place.1 ((stands.along.behind r (omega (arith, low)) there).0 checked)

  range_adds : (d : Course) (r written kept : ℕ) → need_of job c ≡ need.Range r → IsCourse job d → Checks c d → IsAtFirst job d →
      IsTallied job.id job.map start c.unit written kept → IsTallied job.id job.map start d.unit (written + 0) (kept + 0)
  range_adds d r written kept next after checks first tallied =
      let behind : IsBehind job c = (range_next job c stands.course r next).behind in
      let rise : first_of (rows_in job) (c.range + 1) ≤ first_of (rows_in job) d.range = first_rises (rows_in job) (c.range + 1) d.range (omega (arith, checks.later)) in
      let upto : c.unit ≤ d.unit = omega (arith, rise, behind.end, first.unit) in
      record {
        writes = none_more (IsIdle job.id job.map start) written (written + 0) c.unit d.unit upto
            (λ k is from to. none_between d behind after checks first k is.there is.unchecked from to) (omega arith) tallied.writes;
        keeps = none_more (IsKeptAt job.id job.map start) kept (kept + 0) c.unit d.unit upto
            (λ k is from to. none_between d behind after checks first k is.there is.unchecked from to) (omega arith) tallied.keeps;
      }

  none_adds : (d : Course) (written kept : ℕ) → d ≡ c → IsTallied job.id job.map start c.unit written kept →
      IsTallied job.id job.map start d.unit (written + 0) (kept + 0)
  none_adds d written kept same tallied =
      let now : IsTallied job.id job.map start c.unit (written + 0) (kept + 0) = record {
        writes = none_more (IsIdle job.id job.map start) written (written + 0) c.unit c.unit (omega arith) (λ k is from to. omega (arith, from, to)) (omega arith) tallied.writes;
        keeps = none_more (IsKeptAt job.id job.map start) kept (kept + 0) c.unit c.unit (omega arith) (λ k is from to. omega (arith, from, to)) (omega arith) tallied.keeps;
      } in
      subst (λ (x : Course). IsTallied job.id job.map start x.unit (written + 0) (kept + 0)) (sym same) now

pub steps_add_up : StepsAddUp
steps_add_up job source start c d t j u i (did.Unit k) written kept stands after next passes tallied =
    unit_adds job source start c t j stands d k written kept next passes tallied
steps_add_up job source start c d t j u i (did.Kept k) written kept stands after next passes tallied =
    kept_adds job source start c t j stands d k written kept next passes tallied
steps_add_up job source start c d t j u i (did.Range r) written kept stands after next passes tallied =
    range_adds job source start c t j stands d r written kept next after.course passes.0 passes.1 tallied
steps_add_up job source start c d t j u i did.Done written kept stands after next passes tallied =
    none_adds job source start c t j stands d written kept passes tallied

-- ---- the end
pub done_have_all : DoneHaveAll
done_have_all job start c written kept sound course next tallied =
    let end : c.unit ≡ job.id.units = course.position.end (done_next job c course next) in
    record {
      writes = counted_so (λ k. IsIdle job.id job.map start k × (k < c.unit)) (IsIdle job.id job.map start) written written
          (λ k is. is.0) (λ k is. (is, omega (arith, is.there, end))) refl tallied.writes;
      keeps = counted_so (λ k. IsKeptAt job.id job.map start k × (k < c.unit)) (IsKeptAt job.id job.map start) kept kept
          (λ k is. is.0) (λ k is. (is, omega (arith, is.there, end))) refl tallied.keeps;
    }
