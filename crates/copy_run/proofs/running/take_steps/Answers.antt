-- What the steps of a copier keep, from the first on.
use Rattle.std.proofs.Common.{◌≡◌, ℕ, ◌+◌, ◌<◌, ◌≤◌, arith, refl, rules, sym, subst, ◌∙◌, ap}
use Rattle.std.specs.Prelude.{Bool, Err, IfErr, IsTrue, Ok, Result}
use Rattle.bench.proofs.MeterLemmas.{costs_so, same_names_then}
use Rattle.bench.specs.Meter.{Both, Costs}
use Rattle.bench.specs.declared.Dev.TheVariants.{Journal, Target}
use Rattle.outside.specs.Files.{Tree}
use Rattle.region_pool.specs.Buffers.{Held}
use Rattle.copy_stages.specs.Stages.{KeepsOwn}
use Rattle.copier_course.specs.declared.jobs.CopyJob.{CopyJob}
use Rattle.copier.proofs.CopyLemmas.{no_costs}
use Rattle.copier.specs.Copiers.{Fits, IsSound, next_of}
use Rattle.copier.specs.Ends.{StepEnds}
use Rattle.copier.specs.Faults.{NoneIsLeft}
use Rattle.copier.specs.Pools.{UsesSlot}
use Rattle.copier.specs.Runs.{IsDone, ShowsDone}
use Rattle.copier.specs.Steps.{CostsFor, left_of, needed}
use Rattle.copier.specs.declared.faults.CopyFault.{CopyFault}
use Rattle.copier.specs.declared.steps.Step.{Step}
use Rattle.copy_run.proofs.AnswerLemmas.{done_outcome, last_cause, last_cleared, last_outcome, none_fell_then, none_fell_yet}
use Rattle.copy_run.proofs.CountLemmas.{all_counted, counted_on, few_begins, few_counted, fewer_left, none_counted}
use Rattle.copy_run.proofs.ImageLemmas.{at_first, going_begins, going_on, near_then, own_then, since_then, under_way, way_on}
use Rattle.copy_run.proofs.PoolLemmas.{buffer_stays, no_use, uses_then}
use Rattle.copy_run.proofs.ReadLemmas.{last_read}
use Rattle.copy_run.proofs.WorkLemmas.{spent_at_last, spent_on, spent_when_done}
use Rattle.copy_run.specs.Runs.{RunKeepsSince, TellsFile}
use Rattle.copy_run.specs.Steps.{AreCounted, IsLastFault, IsUnderWay, StepsAreTallied, StepsHaveOutcome, StepsStayNear, most_steps, range_in, spent, unit_in}
use Rattle.copy_run.specs.declared.running.Tally.{Tally}
use Rattle.copy_run.proofs.running.take_steps.Goals as goal

pub returns-in_err-step-clause-since : goal.returns-in_err-step-clause-since
returns-in_err-step-clause-since g c told =
    let told_files = g.F.Files.told in
    let file = g.F.Files.file c.steps.files c.steps.copier.job.source in
    let job = c.steps.copier.job in
    let was = c.args.copier.now.progress in
    let now = c.steps.copier.progress in
    let a = g.B.Bench.disk c.args.bench.now in
    let b = g.B.Bench.disk c.steps.bench in
    let e = g.B.Bench.disk c.step.new.bench in
    let inv = c.steps.invariant in
    at_first (λ (t : Tree) (j : CopyJob). RunKeepsSince told_files (t j.source) j a e) inv.same_files inv.of_job
    (since_then told_files file job was a b e now (inv.way told) (c.step.ensures.since told))

pub returns-in_err-step-clause-own : goal.returns-in_err-step-clause-own
returns-in_err-step-clause-own g c told =
    let told_files = g.F.Files.told in
    let file = g.F.Files.file c.steps.files c.steps.copier.job.source in
    let job = c.steps.copier.job in
    let was = c.args.copier.now.progress in
    let now = c.steps.copier.progress in
    let a = g.B.Bench.disk c.args.bench.now in
    let b = g.B.Bench.disk c.steps.bench in
    let e = g.B.Bench.disk c.step.new.bench in
    let inv = c.steps.invariant in
    subst (λ (j : CopyJob). KeepsOwn j.id a e) inv.of_job (own_then told_files file job was a b e now (inv.way told) (c.step.ensures.own told))

pub returns-in_err-step-clause-near : goal.returns-in_err-step-clause-near
returns-in_err-step-clause-near g c told =
    let told_files = g.F.Files.told in
    let file = g.F.Files.file c.steps.files c.steps.copier.job.source in
    let job = c.steps.copier.job in
    let was = c.args.copier.now.progress in
    let now = c.steps.copier.progress in
    let a = g.B.Bench.disk c.args.bench.now in
    let b = g.B.Bench.disk c.steps.bench in
    let e = g.B.Bench.disk c.step.new.bench in
    let inv = c.steps.invariant in
    at_first (λ (t : Tree) (j : CopyJob). StepsStayNear told_files (t j.source) j was a e) inv.same_files inv.of_job
    (near_then told_files file job was a b e now (inv.way told) (c.step.ensures.narrow told))

pub returns-in_err-step-clause-outcome : goal.returns-in_err-step-clause-outcome
returns-in_err-step-clause-outcome g c told =
    let target = g.met.B.Bench.reads_leave told c.steps.bench Target in
    let journal = g.met.B.Bench.reads_leave told c.steps.bench Journal in
    let told_files = g.F.Files.told in
    let file = g.F.Files.file c.steps.files c.steps.copier.job.source in
    let job = c.steps.copier.job in
    let was = c.args.copier.now.progress in
    let now = c.steps.copier.progress in
    let a = g.B.Bench.disk c.args.bench.now in
    let b = g.B.Bench.disk c.steps.bench in
    let inv = c.steps.invariant in
    let fault = c.in_err-step.field-0.0 in
    let same : c.from_residual.result ≡ Err fault = search rules in
    at_first (λ (t : Tree) (j : CopyJob). StepsHaveOutcome told_files (t j.source) j was a c.from_residual.result) inv.same_files inv.of_job
    (subst (λ (r : Result Tally CopyFault). StepsHaveOutcome told_files file job was a r) (sym same)
    (last_outcome told_files file job was now a b (inv.way told) target journal fault (c.in_err-step.ensures.ends told)))

pub returns-in_err-step-clause-cleared : goal.returns-in_err-step-clause-cleared
returns-in_err-step-clause-cleared g c told =
    let job = c.steps.copier.job in
    let now = c.steps.copier.progress in
    let e = g.B.Bench.disk c.step.new.bench in
    let inv = c.steps.invariant in
    let fault = c.in_err-step.field-0.0 in
    let same : c.from_residual.result ≡ Err fault = search rules in
    subst (λ (r : Result Tally CopyFault). IfErr r (NoneIsLeft c.args.copier.now.job e)) (sym same)
    (subst (λ (j : CopyJob). NoneIsLeft j e fault) inv.of_job (last_cleared job now e fault inv.going (c.in_err-step.ensures.cleared told)))

pub returns-in_err-step-clause-cause : goal.returns-in_err-step-clause-cause
returns-in_err-step-clause-cause g c =
    let job = c.steps.copier.job in
    let now = c.steps.copier.progress in
    let b = g.B.Bench.disk c.steps.bench in
    let e = g.B.Bench.disk c.step.new.bench in
    let inv = c.steps.invariant in
    let fault = c.in_err-step.field-0.0 in
    let before = g.F.Files.counts c.args.files.now in
    let mid = g.F.Files.counts c.steps.files in
    let after = g.F.Files.counts c.step.new.files in
    let old = g.B.Bench.meter c.args.bench.now in
    let x = g.B.Bench.meter c.steps.bench in
    let new = g.B.Bench.meter c.step.new.bench in
    let same : c.from_residual.result ≡ Err fault = search rules in
    subst (λ (r : Result Tally CopyFault). IfErr r (IsLastFault g.B.Bench.told c.args.copier.now.job e before after old new)) (sym same)
    (subst (λ (j : CopyJob). IsLastFault g.B.Bench.told j e before after old new fault) inv.of_job
    (last_cause g.B.Bench.told job b e before mid after _ old x new inv.none_fell inv.bill now fault inv.going inv.sound c.in_err-step.ensures.cause c.step.ensures.same_target))

pub returns-in_err-step-clause-bill : goal.returns-in_err-step-clause-bill
returns-in_err-step-clause-bill g c =
    let job = c.steps.copier.job in
    let now = c.steps.copier.progress in
    let inv = c.steps.invariant in
    let old = g.B.Bench.meter c.args.bench.now in
    let mid = g.B.Bench.meter c.steps.bench in
    let new = g.B.Bench.meter c.step.new.bench in
    subst (λ (j : CopyJob). Costs (most_steps j) old new) inv.of_job (spent_at_last job now c.in_err-step.field-0.0 old mid new inv.going inv.sound c.in_err-step.ensures.bill inv.bill)

pub returns-in_err-step-clause-pool : goal.returns-in_err-step-clause-pool
returns-in_err-step-clause-pool g c =
    let inv = c.steps.invariant in
    uses_then _ _ c.steps.pool _ inv.pool (subst (λ (s : ℕ). UsesSlot s c.steps.pool c.step.new.pool)
    (ap (λ (l : Held). l.slot) inv.lease) c.step.ensures.pool)

pub returns-in-Done-clause-since : goal.returns-in-Done-clause-since
returns-in-Done-clause-since g c told =
    let told_files = g.F.Files.told in
    let file = g.F.Files.file c.steps.files c.steps.copier.job.source in
    let job = c.steps.copier.job in
    let was = c.args.copier.now.progress in
    let now = c.steps.copier.progress in
    let a = g.B.Bench.disk c.args.bench.now in
    let b = g.B.Bench.disk c.steps.bench in
    let e = g.B.Bench.disk c.step.new.bench in
    let inv = c.steps.invariant in
    at_first (λ (t : Tree) (j : CopyJob). RunKeepsSince told_files (t j.source) j a e) inv.same_files inv.of_job
    (since_then told_files file job was a b e now (inv.way told) (c.step.ensures.since told))

pub returns-in-Done-clause-own : goal.returns-in-Done-clause-own
returns-in-Done-clause-own g c told =
    let told_files = g.F.Files.told in
    let file = g.F.Files.file c.steps.files c.steps.copier.job.source in
    let job = c.steps.copier.job in
    let was = c.args.copier.now.progress in
    let now = c.steps.copier.progress in
    let a = g.B.Bench.disk c.args.bench.now in
    let b = g.B.Bench.disk c.steps.bench in
    let e = g.B.Bench.disk c.step.new.bench in
    let inv = c.steps.invariant in
    subst (λ (j : CopyJob). KeepsOwn j.id a e) inv.of_job (own_then told_files file job was a b e now (inv.way told) (c.step.ensures.own told))

pub returns-in-Done-clause-near : goal.returns-in-Done-clause-near
returns-in-Done-clause-near g c told =
    let told_files = g.F.Files.told in
    let file = g.F.Files.file c.steps.files c.steps.copier.job.source in
    let job = c.steps.copier.job in
    let was = c.args.copier.now.progress in
    let now = c.steps.copier.progress in
    let a = g.B.Bench.disk c.args.bench.now in
    let b = g.B.Bench.disk c.steps.bench in
    let e = g.B.Bench.disk c.step.new.bench in
    let inv = c.steps.invariant in
    at_first (λ (t : Tree) (j : CopyJob). StepsStayNear told_files (t j.source) j was a e) inv.same_files inv.of_job
    (near_then told_files file job was a b e now (inv.way told) (c.step.ensures.narrow told))

pub returns-in-Done-clause-outcome : goal.returns-in-Done-clause-outcome
returns-in-Done-clause-outcome g c told =
    let target = g.met.B.Bench.reads_leave told c.steps.bench Target in
    let journal = g.met.B.Bench.reads_leave told c.steps.bench Journal in
    let told_files = g.F.Files.told in
    let file = g.F.Files.file c.steps.files c.steps.copier.job.source in
    let job = c.steps.copier.job in
    let was = c.args.copier.now.progress in
    let now = c.steps.copier.progress in
    let a = g.B.Bench.disk c.args.bench.now in
    let b = g.B.Bench.disk c.steps.bench in
    let inv = c.steps.invariant in
    let ending = subst (λ (x : Step). StepEnds told_files file job now b (Ok x)) c.in-Done.is (c.in_ok-step.ensures.ends told) in
    at_first (λ (t : Tree) (j : CopyJob). StepsHaveOutcome told_files (t j.source) j was a (Ok c.steps.tally)) inv.same_files inv.of_job
    (done_outcome told_files file job was now a b (inv.way told) target journal c.steps.tally ending)

pub returns-in-Done-clause-tally : goal.returns-in-Done-clause-tally
returns-in-Done-clause-tally g c told =
    let job = c.steps.copier.job in
    let was = c.args.copier.now.progress in
    let now = c.steps.copier.progress in
    let a = g.B.Bench.disk c.args.bench.now in
    let inv = c.steps.invariant in
    let next = subst (λ (x : Step). next_of job now ≡ needed x) c.in-Done.is c.in_ok-step.ensures.next in
    subst (λ (j : CopyJob). StepsAreTallied j was a (Ok c.steps.tally)) inv.of_job
    (all_counted job was now a c.steps.tally c.runs_are_tallied.ensures.done inv.going inv.sound next inv.units (inv.counted told))

pub returns-in-Done-clause-done : goal.returns-in-Done-clause-done
returns-in-Done-clause-done g c told =
    let job = c.steps.copier.job in
    let e = g.B.Bench.disk c.step.new.bench in
    let inv = c.steps.invariant in
    subst (λ (j : CopyJob). IsDone j e) inv.of_job (subst (λ (x : Step). ShowsDone job e (Ok x)) c.in-Done.is (c.in_ok-step.ensures.done told))

pub returns-in-Done-clause-bill : goal.returns-in-Done-clause-bill
returns-in-Done-clause-bill g c =
    let job = c.steps.copier.job in
    let now = c.steps.copier.progress in
    let inv = c.steps.invariant in
    let old = g.B.Bench.meter c.args.bench.now in
    let mid = g.B.Bench.meter c.steps.bench in
    let new = g.B.Bench.meter c.step.new.bench in
    let next = subst (λ (x : Step). next_of job now ≡ needed x) c.in-Done.is c.in_ok-step.ensures.next in
    let costs = subst (λ (x : Step). CostsFor job (next_of job now) (Ok x) mid new) c.in-Done.is c.in_ok-step.ensures.bill in
    subst (λ (j : CopyJob). Costs (most_steps j) old new) inv.of_job (spent_when_done job now old mid new inv.going inv.sound next costs inv.bill)

pub returns-in-Done-clause-pool : goal.returns-in-Done-clause-pool
returns-in-Done-clause-pool g c =
    let inv = c.steps.invariant in
    uses_then _ _ c.steps.pool _ inv.pool (subst (λ (s : ℕ). UsesSlot s c.steps.pool c.step.new.pool)
    (ap (λ (l : Held). l.slot) inv.lease) c.step.ensures.pool)

pub steps-init : goal.steps-init
steps-init g c =
    let job = c.args.copier.now.job in
    let was = c.args.copier.now.progress in
    let a = g.B.Bench.disk c.args.bench.now in
    let file = g.F.Files.file c.args.files.now job.source in
    record {
      target = c.requires.target;
      journal = c.requires.journal;
      of_job = refl;
      lease = refl;
      going = going_begins job was c.requires.begins;
      sound = c.requires.sound;
      fits = c.requires.fits;
      buffer = c.requires.buffer;
      way = λ told. under_way g.F.Files.told file job was a c.requires.sound c.requires.begins (c.requires.fits told);
      units = c.requires.units;
      counted = λ told. none_counted job was a;
      few = few_begins job was;
      none_fell = none_fell_yet (g.F.Files.counts c.args.files.now);
      same_files = refl;
      bill = costs_so {n = spent job (unit_in was) (range_in was)} (no_costs (g.B.Bench.meter c.args.bench.now)) (omega arith);
      same_names = record { attached = refl; name = refl };
      pool = no_use c.args.copier.now.lease.slot c.args.pool.now;
    }

pub steps-preserved : goal.steps-preserved
steps-preserved g c =
    let told_files = g.F.Files.told in
    let job = c.steps.copier.job in
    let was = c.args.copier.now.progress in
    let now = c.steps.copier.progress in
    let next = c.step.new.self.progress in
    let a = g.B.Bench.disk c.args.bench.now in
    let b = g.B.Bench.disk c.steps.bench in
    let e = g.B.Bench.disk c.step.new.bench in
    let old = g.B.Bench.meter c.args.bench.now in
    let mid = g.B.Bench.meter c.steps.bench in
    let new = g.B.Bench.meter c.step.new.bench in
    let file = g.F.Files.file c.steps.files job.source in
    let inv = c.steps.invariant in
    let step = c.in_ok-step.step in
    let to = c.in_ok-step.ensures.goes in
    let is_next = c.in_ok-step.ensures.next in
    let sound : IsSound job next = subst (λ (j : CopyJob). IsSound j next) c.step.ensures.job c.step.ensures.sound in
    let way : g.B.Bench.told → IsUnderWay told_files file job was next a e =
    λ told. way_on told_files file job was a b e now next step (inv.way told) (c.step.ensures.since told) (c.step.ensures.own told)
    (c.step.ensures.narrow told) (c.in_ok-step.ensures.window told) (c.in_ok-step.ensures.along told) to in
    let fits : g.B.Bench.told → Fits job next e = λ told. subst (λ (j : CopyJob). Fits j next e) c.step.ensures.job (c.step.ensures.fits told) in
    let counted : g.B.Bench.told → AreCounted job was next a c.add.new.self.written c.add.new.self.kept =
    λ told. subst (λ (t : Tally). AreCounted job was next a t.written t.kept) (sym c.add.ensures)
    (counted_on told_files file job was now next a b e step c.steps.tally.written c.steps.tally.kept c.runs_are_tallied.ensures.steps
    (inv.way told) (way told) inv.sound sound (inv.fits told) (fits told) is_next to (inv.counted told)) in
    let few : c.add.new.self.written + c.add.new.self.kept + left_of job next ≤ job.id.units + job.id.ranges =
    subst (λ (t : Tally). t.written + t.kept + left_of job next ≤ job.id.units + job.id.ranges) (sym c.add.ensures)
    (few_counted job now next step c.steps.tally.written c.steps.tally.kept (job.id.units + job.id.ranges) c.in_default.not-Done c.in_ok-step.ensures.fewer inv.few) in
    let bill : Costs (spent job (unit_in next) (range_in next)) old new =
    spent_on job now next step old mid new inv.sound sound is_next to c.in_ok-step.ensures.bill inv.bill in
    record {
      target = subst (λ (x : Both Bool). IsTrue x.target) (sym c.step.ensures.same_names.attached) inv.target;
      journal = subst (λ (x : Both Bool). IsTrue x.journal) (sym c.step.ensures.same_names.attached) inv.journal;
      of_job = c.step.ensures.job ∙ inv.of_job;
      lease = c.step.ensures.lease ∙ inv.lease;
      going = going_on job now next step to;
      sound = c.step.ensures.sound;
      fits = c.step.ensures.fits;
      buffer = buffer_stays c.steps.copier c.step.new.self c.steps.copier.lease.slot c.steps.pool c.step.new.pool c.step.ensures.job c.step.ensures.lease c.step.ensures.pool inv.buffer;
      way = λ told. at_first (λ (t : Tree) (j : CopyJob). IsUnderWay told_files (t j.source) j was next a e) (sym c.step.ensures.same_files) (sym c.step.ensures.job) (way told);
      units = ap (λ (t : Tally). t.units) c.add.ensures ∙ inv.units ∙ ap (λ (j : CopyJob). j.id.units) (sym c.step.ensures.job);
      counted = λ told. subst (λ (j : CopyJob). AreCounted j was next a c.add.new.self.written c.add.new.self.kept) (sym c.step.ensures.job) (counted told);
      few = subst (λ (j : CopyJob). c.add.new.self.written + c.add.new.self.kept + left_of j next ≤ j.id.units + j.id.ranges) (sym c.step.ensures.job) few;
      none_fell = none_fell_then _ _ _ inv.none_fell c.step.ensures.none_fell;
      same_files = c.step.ensures.same_files ∙ inv.same_files;
      bill = subst (λ (j : CopyJob). Costs (spent j (unit_in next) (range_in next)) old new) (sym c.step.ensures.job) bill;
      same_names = same_names_then inv.same_names c.step.ensures.same_names;
      pool = uses_then _ _ c.steps.pool _ inv.pool (subst (λ (s : ℕ). UsesSlot s c.steps.pool c.step.new.pool)
          (ap (λ (l : Held). l.slot) inv.lease) c.step.ensures.pool);
    }

pub steps-smaller : goal.steps-smaller
steps-smaller g c =
    let next = c.step.new.self.progress in
    subst (λ (j : CopyJob). left_of j next < left_of c.steps.copier.job c.steps.copier.progress) (sym c.step.ensures.job)
    (fewer_left c.steps.copier.job c.steps.copier.progress next c.in_ok-step.step c.in_default.not-Done c.in_ok-step.ensures.fewer)

pub returns-in_err-step-clause-read : goal.returns-in_err-step-clause-read
returns-in_err-step-clause-read g c told =
    let fault = c.in_err-step.field-0.0 in
    let same : c.from_residual.result ≡ Err fault = search rules in
    let inv = c.steps.invariant in
    let tree = g.F.Files.file c.steps.files in
    let here = last_read g.B.Bench.told tree c.steps.copier.job (g.B.Bench.disk c.steps.bench) (g.F.Files.counts c.steps.files) (g.F.Files.counts c.step.new.files)
    (g.B.Bench.meter c.steps.bench) (g.B.Bench.meter c.step.new.bench) c.steps.copier.progress fault inv.going inv.sound
    (c.in_err-step.ensures.source told) c.in_err-step.ensures.cause in
    at_first (λ (t : Tree) (j : CopyJob). TellsFile (t j.source) c.from_residual.result) inv.same_files inv.of_job
    (subst (λ (r : Result Tally CopyFault). TellsFile (tree c.steps.copier.job.source) r) (sym same) here)
