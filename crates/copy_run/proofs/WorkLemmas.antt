-- What the steps of a copier cost.
use Rattle.std.proofs.Common.{◌≡◌, ℕ, ◌+◌, ◌-◌, ◌*◌, ◌<◌, ◌≤◌, List, [], length, get_or, refl, ap, subst, sym, arith, ⊎_elim}
use Rattle.std.proofs.lemmas.Bool.{cases_lt}
use Rattle.std.proofs.lemmas.List.{take-take}
use Rattle.std.proofs.lemmas.List.Sums.{sum_by-take-le, sum_by_more}
use Rattle.std.proofs.lemmas.Option.{slice_get-get_or}
use Rattle.std.specs.Prelude.{Err, Ok, sum_by, take}
use Rattle.base_fields.specs.declared.spans.Span.{Span}
use Rattle.bench.proofs.MeterLemmas.{costs_so, costs_then}
use Rattle.bench.specs.Meter.{Costs, Meter}
use Rattle.block_map.proofs.Index.{first_next, first_rises}
use Rattle.block_map.specs.Units.{first_of, units_of}
use Rattle.copy_laws.proofs.UnitBytes.{rows_length}
use Rattle.copy_states.specs.Jobs.{IsUnitAt}
use Rattle.copier.proofs.NeedLemmas.{kept_next, range_next, unit_next}
use Rattle.copier.specs.Copiers.{IsSound, Progress, next_of}
use Rattle.copier.specs.Steps.{CostsFor, GoesTo, needed}
use Rattle.copier.specs.declared.faults.CopyFault.{CopyFault}
use Rattle.copier.specs.declared.steps.Step.{Step}
use Rattle.copier.specs.declared.steps.Step.TheVariants as did
use Rattle.copier_course.proofs.Positions.{first_within}
use Rattle.copier_course.specs.Courses.{IsBehind, IsCopyJob, IsCourse, IsInside, need_of, rows_in}
use Rattle.copier_course.specs.declared.courses.Course.{Course}
use Rattle.copier_course.specs.declared.jobs.CopyJob.{CopyJob}
use Rattle.copier_course.specs.declared.jobs.Need.{Need}
use Rattle.copier_course.specs.declared.jobs.Need.TheVariants as need
use Rattle.copier_moves.proofs.PutLemmas.{inside_below}
use Rattle.copier_moves.specs.Moves.{units_in_range}
use Rattle.copy_run.specs.Steps.{IsGoing, most_steps, range_in, spent, unit_in}

-- ---- sums over the first units
first_more : (us : List Span) (i j : ℕ) → i ≤ j → sum_by (λ (u : Span). u.len) (take i us) ≤ sum_by (λ (u : Span). u.len) (take j us)
first_more us i j more =
    let same : take i (take j us) ≡ take i us = take-take i j us more in
    subst (λ (l : List Span). sum_by (λ (u : Span). u.len) l ≤ sum_by (λ (u : Span). u.len) (take j us)) same (sum_by-take-le (λ (u : Span). u.len) (take j us) i)

spent_more : (job : CopyJob) (i j r s : ℕ) → i ≤ j → r ≤ s → spent job i r + 1024 * ((j + s) - (i + r)) ≤ spent job j s
spent_more job i j r s units ranges = omega (arith, first_more (units_of job.map job.id.unit) i j units, units, ranges)

pub some_span : Span
some_span = record { at = 0; len = 0 }

module _ (job : CopyJob) (c : Course) (is : IsCopyJob job) (course : IsCourse job c) where
  -- where it stands
  pub range_within : c.range ≤ job.id.ranges
  range_within = course.position.present.within

  pub unit_within : c.unit ≤ job.id.units
  unit_within = ⊎_elim
      (λ (there : c.range < job.id.ranges).
      let high : c.unit ≤ first_of (rows_in job) (c.range + 1) = course.position.high there in
      let within : first_of (rows_in job) (c.range + 1) ≤ job.id.units = first_within job.id job.map (c.range + 1) is.of_map (omega (arith, there)) in
      omega (arith, high, within))
      (λ (past : job.id.ranges ≤ c.range).
      let end : c.unit ≡ job.id.units = course.position.end (omega (arith, past, range_within)) in
      omega (arith, end))
      (cases_lt c.range job.id.ranges)

  pub spent_within : spent job c.unit c.range ≤ most_steps job
  spent_within = omega (arith, unit_within, range_within, sum_by-take-le (λ (u : Span). u.len) (units_of job.map job.id.unit) c.unit)

  -- the present unit, where there is one
  pub unit_there : IsInside job c → IsUnitAt job.id job.map c.unit (get_or (units_of job.map job.id.unit) c.unit some_span)
  unit_there inside = slice_get-get_or (units_of job.map job.id.unit) c.unit some_span (omega (arith, inside_below job c is course inside, is.of_map.units))

  unit_spent : IsInside job c → spent job c.unit c.range + (1024 + (get_or (units_of job.map job.id.unit) c.unit some_span).len) ≡ spent job (c.unit + 1) c.range
  unit_spent inside =
      omega (arith, sum_by_more (λ (u : Span). u.len) (units_of job.map job.id.unit) c.unit some_span (omega (arith, inside_below job c is course inside, is.of_map.units)))

  most_of_next : IsInside job c → spent job (c.unit + 1) c.range ≤ most_steps job
  most_of_next inside =
      omega (arith, inside_below job c is course inside, inside.there, sum_by-take-le (λ (u : Span). u.len) (units_of job.map job.id.unit) (c.unit + 1))

  -- the units of the present range, where all of them are passed
  row_few : IsBehind job c → units_in_range job c.range ≤ job.id.units
  row_few behind =
      let next : first_of (rows_in job) (c.range + 1) ≡ first_of (rows_in job) c.range + length (get_or (rows_in job) c.range []) =
      first_next (rows_in job) c.range [] (omega (arith, behind.there, rows_length job.id job.map, is.of_map.ranges)) in
      omega (arith, next, behind.end, unit_within)

  -- ---- a step
  pub step_spent : (d : Course) (step : Step) (old mid new : Meter) → IsCourse job d → need_of job c ≡ needed step → GoesTo job (Ok c) (Ok d) (Ok step) →
      CostsFor job (need_of job c) (Ok step) mid new → Costs (spent job c.unit c.range) old mid → Costs (spent job d.unit d.range) old new
  step_spent d (did.Unit k) old mid new next is_next to costs first =
      let at = unit_next job c course k is_next in
      let named : CostsFor job (need.Unit k) (Ok (did.Unit k)) mid new = subst (λ (n : Need). CostsFor job n (Ok (did.Unit k)) mid new) is_next costs in
      let u = get_or (units_of job.map job.id.unit) c.unit some_span in
      let more : Costs (1024 + u.len) mid new = named u (subst (λ (n : ℕ). IsUnitAt job.id job.map n u) at.number (unit_there at.inside)) in
      let unit : d.unit ≡ c.unit + 1 = ap (λ (x : Course). x.unit) to.same in
      let range : d.range ≡ c.range = ap (λ (x : Course). x.range) to.same in
      let most : spent job c.unit c.range + (1024 + u.len) ≡ spent job d.unit d.range = subst (λ (r : ℕ). spent job c.unit c.range + (1024 + u.len) ≡ spent job d.unit r) (sym range)
      (subst (λ (n : ℕ). spent job c.unit c.range + (1024 + u.len) ≡ spent job n c.range) (sym unit) (unit_spent at.inside)) in
      costs_so (costs_then first more) (omega (arith, most))
  step_spent d (did.Kept k) old mid new next is_next to costs first =
      let named : CostsFor job (need.Kept k) (Ok (did.Kept k)) mid new = subst (λ (n : Need). CostsFor job n (Ok (did.Kept k)) mid new) is_next costs in
      let more : Costs 1024 mid new = named in
      let unit : d.unit ≡ c.unit + 1 = ap (λ (x : Course). x.unit) to in
      let range : d.range ≡ c.range = ap (λ (x : Course). x.range) to in
      costs_so (costs_then first more) (omega (arith, spent_more job c.unit d.unit c.range d.range (omega (arith, unit)) (omega (arith, range)), unit, range))
  step_spent d (did.Range r) old mid new next is_next to costs first =
      let named : CostsFor job (need.Range r) (Ok (did.Range r)) mid new = subst (λ (n : Need). CostsFor job n (Ok (did.Range r)) mid new) is_next costs in
      let more : Costs 1024 mid new = named in
      let end : c.unit ≡ first_of (rows_in job) (c.range + 1) = (range_next job c course r is_next).behind.end in
      let low : first_of (rows_in job) d.range ≤ d.unit = next.position.low in
      let later : c.range < d.range = to.0.later in
      let rise : first_of (rows_in job) (c.range + 1) ≤ first_of (rows_in job) d.range = first_rises (rows_in job) (c.range + 1) d.range (omega (arith, later)) in
      let unit : c.unit ≤ d.unit = omega (arith, end, low, rise) in
      costs_so (costs_then first more) (omega (arith, spent_more job c.unit d.unit c.range d.range unit (omega (arith, later)), unit, later))
  step_spent d did.Done old mid new next is_next to costs first =
      let named : CostsFor job need.Done (Ok did.Done) mid new = subst (λ (n : Need). CostsFor job n (Ok did.Done) mid new) is_next costs in
      let more : Costs 0 mid new = named in
      subst (λ (x : Course). Costs (spent job x.unit x.range) old new) (sym to) (costs_so (costs_then first more) (omega arith))

  -- ---- the last step, where it refuses
  refused_spent : (n : Need) (fault : CopyFault) (old mid new : Meter) → need_of job c ≡ n → CostsFor job n (Err fault) mid new →
      Costs (spent job c.unit c.range) old mid → Costs (most_steps job) old new
  refused_spent (need.Unit k) fault old mid new is_next costs first =
      let at = unit_next job c course k is_next in
      let u = get_or (units_of job.map job.id.unit) c.unit some_span in
      let more : Costs (1024 + u.len) mid new = costs u (subst (λ (n : ℕ). IsUnitAt job.id job.map n u) at.number (unit_there at.inside)) in
      costs_so (costs_then first more) (omega (arith, unit_spent at.inside, most_of_next at.inside))
  refused_spent (need.Kept k) fault old mid new is_next costs first =
      let at = kept_next job c course k is_next in
      let more : Costs 1024 mid new = costs in
      costs_so (costs_then first more) (omega (arith, unit_spent at.inside, most_of_next at.inside))
  refused_spent (need.Range r) fault old mid new is_next costs first =
      let at = range_next job c course r is_next in
      let more : Costs (1024 + 2 * units_in_range job c.range) mid new = subst (λ (n : ℕ). Costs (1024 + 2 * units_in_range job n) mid new) (sym at.number) costs in
      costs_so (costs_then first more)
      (omega (arith, row_few at.behind, at.behind.there, unit_within, sum_by-take-le (λ (u : Span). u.len) (units_of job.map job.id.unit) c.unit))
  refused_spent need.Done fault old mid new is_next costs first =
      let more : Costs 0 mid new = costs in
      costs_so (costs_then first more) (omega (arith, spent_within))
  refused_spent need.Failed fault old mid new is_next costs first =
      let more : Costs 0 mid new = costs in
      costs_so (costs_then first more) (omega (arith, spent_within))

-- ---- of a copier
pub spent_on : (job : CopyJob) (now next : Progress) (step : Step) (old mid new : Meter) → IsSound job now → IsSound job next →
    next_of job now ≡ needed step → GoesTo job now next (Ok step) → CostsFor job (next_of job now) (Ok step) mid new →
    Costs (spent job (unit_in now) (range_in now)) old mid → Costs (spent job (unit_in next) (range_in next)) old new
spent_on job (Ok c) (Ok d) step old mid new sound sounds next to costs first = step_spent job c sound.of_job sound.course d step old mid new sounds.course next to costs first
spent_on job (Ok c) (Err kept) step old mid new sound sounds next to costs first = absurd to
spent_on job (Err kept) next step old mid new sound sounds is to costs first = absurd to

pub spent_at_last : (job : CopyJob) (now : Progress) (fault : CopyFault) (old mid new : Meter) → IsGoing now → IsSound job now →
    CostsFor job (next_of job now) (Err fault) mid new → Costs (spent job (unit_in now) (range_in now)) old mid → Costs (most_steps job) old new
spent_at_last job (Ok c) fault old mid new going sound costs first = refused_spent job c sound.of_job sound.course (need_of job c) fault old mid new refl costs first
spent_at_last job (Err kept) fault old mid new going sound costs first = absurd going

-- where all is done
pub spent_when_done : (job : CopyJob) (now : Progress) (old mid new : Meter) → IsGoing now → IsSound job now → next_of job now ≡ needed did.Done →
    CostsFor job (next_of job now) (Ok did.Done) mid new → Costs (spent job (unit_in now) (range_in now)) old mid → Costs (most_steps job) old new
spent_when_done job (Ok c) old mid new going sound next costs first =
    let named : CostsFor job need.Done (Ok did.Done) mid new = subst (λ (n : Need). CostsFor job n (Ok did.Done) mid new) next costs in
    let more : Costs 0 mid new = named in
    costs_so (costs_then first more) (omega (arith, spent_within job c sound.of_job sound.course))
spent_when_done job (Err kept) old mid new going sound next costs first = absurd going
