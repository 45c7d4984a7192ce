use Rattle.std.proofs.Common.{◌≡◌, ◌+◌, ◌≤◌}
use Rattle.bench.specs.declared.Dev.TheVariants.{Journal, Target}
use Rattle.bench.specs.Meter.{Costs, IsAttached, SameNames}
use Rattle.outside.specs.Counts.{NoneFell}
use Rattle.copier.specs.Copiers.{Fits, IsSound}
use Rattle.copier.specs.Pools.{HasBuffer, UsesSlot}
use Rattle.copier.specs.Steps.{left_of}
use Rattle.copy_run.specs.Steps.{AreCounted, IsGoing, IsUnderWay, range_in, spent, unit_in}
use Rattle.copy_run.proofs.running.take_steps.Given as goal

-- the copier goes on, from where it began
abbrev pub invariant-steps : goal.invariant-steps
invariant-steps g l =
    let bench = g.B.Bench in
    let files = g.F.Files in
    let job = l.copier.job in
    let was = l.fn.copier.progress in
    let now = l.copier.progress in
    let first = bench.disk l.fn.bench in
    let disk = bench.disk l.bench in
    record {
      target : IsAttached (bench.meter l.bench) Target;
      journal : IsAttached (bench.meter l.bench) Journal;
      of_job : job ≡ l.fn.copier.job;
      lease : l.copier.lease ≡ l.fn.copier.lease;
      going : IsGoing now;
      sound : IsSound job now;
      fits : bench.told → Fits job now disk;
      buffer : HasBuffer l.copier l.pool;
      way : bench.told → IsUnderWay files.told (files.file l.files job.source) job was now first disk;
      units : l.tally.units ≡ job.id.units;
      counted : bench.told → AreCounted job was now first l.tally.written l.tally.kept;
      few : l.tally.written + l.tally.kept + left_of job now ≤ job.id.units + job.id.ranges;
      none_fell : NoneFell (files.counts l.fn.files) (files.counts l.files);
      same_files : files.file l.files ≡ files.file l.fn.files;
      bill : Costs (spent job (unit_in now) (range_in now)) (bench.meter l.fn.bench) (bench.meter l.bench);
      same_names : SameNames (bench.meter l.fn.bench) (bench.meter l.bench);
      pool : UsesSlot l.fn.copier.lease.slot l.fn.pool l.pool;
    }

abbrev pub decreases-steps : goal.decreases-steps
decreases-steps g l = left_of l.copier.job l.copier.progress
