use Rattle.std.proofs.Common.{◌-◌, ◌/◌, ◌≡◌, ◌≤◌, length, take, drop}
use Rattle.sha2.specs.Hashers.{Holds256}
use Rattle.bench.specs.declared.Dev.{Dev}
use Rattle.bench.specs.declared.Dev.TheVariants.{Target}
use Rattle.bench.specs.Disk.{Looked, StillLeaves}
use Rattle.bench.specs.Meter.{CostsOn, IsAttached, SameNames}
use Rattle.verifier.proofs.digests.digest_of.Given as goal

-- so much of the span is hashed
abbrev pub invariant-loop-done : goal.invariant-loop-done
invariant-loop-done g l =
    let bench = g.B.Bench in
    record {
      attached : IsAttached (bench.meter l.bench) Target;
      within : l.done ≤ l.span.len;
      room : l.room ≡ length l.buf;
      hashed : bench.told → Holds256 l.hasher (take l.done (drop l.span.at ((bench.disk l.fn.bench).reads Target)));
      looked : Looked (bench.disk l.fn.bench) (bench.disk l.bench);
      stays : (each : Dev) → StillLeaves each (bench.disk l.fn.bench) (bench.disk l.bench);
      bill : CostsOn Target (l.done / 512) (bench.meter l.fn.bench) (bench.meter l.bench);
      same_names : SameNames (bench.meter l.fn.bench) (bench.meter l.bench);
    }

abbrev pub decreases-loop-done : goal.decreases-loop-done
decreases-loop-done g l = l.span.len - l.done
