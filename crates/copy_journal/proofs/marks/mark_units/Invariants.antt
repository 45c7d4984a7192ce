use Rattle.std.proofs.Common.{◌≡◌, ◌+◌, ◌*◌, ◌<◌, length, slice_index, ℕ}
use Rattle.bench.specs.declared.Dev.TheVariants.{Journal}
use Rattle.bench.specs.Disk.{Steps, TornAt}
use Rattle.bench.specs.Meter.{CostsOn, IsAttached, SameNames}
use Rattle.copy_journal.specs.Events.{IsMarkOf}
use Rattle.copy_journal.proofs.marks.mark_units.Given as goal

-- so many units are marked
abbrev pub invariant-loop-k : goal.invariant-loop-k
invariant-loop-k g l =
    let bench = g.B.Bench in
    record {
      attached : IsAttached (bench.meter l.bench) Journal;
      size : bench.told → length ((bench.disk l.bench).reads Journal) ≡ length ((bench.disk l.fn.bench).reads Journal);
      torn : bench.told → Steps Journal (TornAt (IsMarkOf l.ks)) (bench.disk l.fn.bench) (bench.disk l.bench);
      marked : bench.told → (i : ℕ) → i < l.k-index → slice_index ((bench.disk l.bench).reads Journal) (80 + slice_index l.ks i) ≡ 0x44;
      bill : CostsOn Journal (33 * l.k-index) (bench.meter l.fn.bench) (bench.meter l.bench);
      same_names : SameNames (bench.meter l.fn.bench) (bench.meter l.bench);
    }
