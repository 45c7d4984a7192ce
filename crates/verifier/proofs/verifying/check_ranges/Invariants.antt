use Rattle.std.proofs.Common.{◌≡◌, ◌≤◌, length, take}
use Rattle.bench.specs.declared.Dev.{Dev}
use Rattle.bench.specs.declared.Dev.TheVariants.{Target}
use Rattle.bench.specs.Disk.{Looked, StillLeaves}
use Rattle.bench.specs.Meter.{CostsOn, IsAttached, SameNames}
use Rattle.verifier.specs.Checks.{digests_among}
use Rattle.verifier.proofs.Checked.{HaveOwn, most_for}
use Rattle.verifier.proofs.verifying.check_ranges.Given as goal

-- so many ranges are looked at
abbrev pub invariant-loop-k : goal.invariant-loop-k
invariant-loop-k g l =
    let bench = g.B.Bench in
    record {
      attached : IsAttached (bench.meter l.bench) Target;
      room : 16384 ≤ length l.buf;
      few : l.checked ≤ l.k;
      counted : l.checked ≡ digests_among (take l.k l.map.ranges);
      each : bench.told → HaveOwn l.map ((bench.disk l.fn.bench).reads Target) l.k;
      looked : Looked (bench.disk l.fn.bench) (bench.disk l.bench);
      stays : (each : Dev) → StillLeaves each (bench.disk l.fn.bench) (bench.disk l.bench);
      bill : CostsOn Target (most_for l.map l.k) (bench.meter l.fn.bench) (bench.meter l.bench);
      same_names : SameNames (bench.meter l.fn.bench) (bench.meter l.bench);
    }
