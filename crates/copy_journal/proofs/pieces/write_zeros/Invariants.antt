use Rattle.std.proofs.Common.{◌≡◌, ◌*◌, ◌-◌, ◌≤◌, length}
use Rattle.bench.specs.declared.Dev.TheVariants.{Journal}
use Rattle.bench.specs.Disk.{Touches}
use Rattle.bench.specs.Meter.{CostsOn, IsAttached, SameNames}
use Rattle.copy_journal.specs.Events.{AreZero}
use Rattle.copy_journal.proofs.pieces.write_zeros.Given as goal

-- so many zeros are written
abbrev pub invariant-loop-done : goal.invariant-loop-done
invariant-loop-done g l =
    let bench = g.B.Bench in
    record {
      attached : IsAttached (bench.meter l.bench) Journal;
      within : l.done ≤ l.count;
      size : bench.told → length ((bench.disk l.bench).reads Journal) ≡ length ((bench.disk l.fn.bench).reads Journal);
      touches : bench.told → Touches Journal l.at l.count (bench.disk l.fn.bench) (bench.disk l.bench);
      zero : bench.told → AreZero l.at l.done ((bench.disk l.bench).reads Journal);
      bill : CostsOn Journal (2 * l.done) (bench.meter l.fn.bench) (bench.meter l.bench);
      same_names : SameNames (bench.meter l.fn.bench) (bench.meter l.bench);
    }

abbrev pub decreases-loop-done : goal.decreases-loop-done
decreases-loop-done g l = l.count - l.done
