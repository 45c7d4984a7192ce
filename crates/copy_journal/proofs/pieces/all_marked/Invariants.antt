use Rattle.std.proofs.Common.{◌≡◌, ◌*◌, ◌-◌, ◌≤◌, length}
use Rattle.bench.specs.declared.Dev.{Dev}
use Rattle.bench.specs.declared.Dev.TheVariants.{Journal}
use Rattle.bench.specs.Disk.{Looked, StillLeaves}
use Rattle.bench.specs.Meter.{CostsOn, IsAttached, SameNames}
use Rattle.copy_journal.specs.Events.{AreMarked}
use Rattle.copy_journal.proofs.pieces.all_marked.Given as goal

-- so many marks are read, all recorded
abbrev pub invariant-loop-done : goal.invariant-loop-done
invariant-loop-done g l =
    let bench = g.B.Bench in
    record {
      attached : IsAttached (bench.meter l.bench) Journal;
      within : l.done ≤ l.count;
      room : length l.piece ≡ 4096;
      marked : bench.told → AreMarked l.at l.done ((bench.disk l.fn.bench).reads Journal);
      looked : Looked (bench.disk l.fn.bench) (bench.disk l.bench);
      stays : (each : Dev) → StillLeaves each (bench.disk l.fn.bench) (bench.disk l.bench);
      bill : CostsOn Journal (2 * l.done) (bench.meter l.fn.bench) (bench.meter l.bench);
      same_names : SameNames (bench.meter l.fn.bench) (bench.meter l.bench);
    }

abbrev pub decreases-loop-done : goal.decreases-loop-done
decreases-loop-done g l = l.count - l.done
