use Rattle.std.proofs.Common.{◌≡◌, ◌+◌, ◌-◌, length, rules}
use Rattle.bench.specs.declared.Dev.TheVariants.{Journal}
use Rattle.bench_devices.specs.History.{Grows, logged}
use Rattle.bench_devices.proofs.HistoryLemmas.{grows_grows}
use Rattle.bench_devices.proofs.mem_bench.MemBenchBench.grow.Goals as goal

pub returns-clause-grows : goal.returns-clause-grows
returns-clause-grows c =
    let e : c.push.new.self ≡ logged c.args.self.now.log (record { dev = Journal; effect = Grows c.args.len }) (32 + (c.args.len - length c.args.self.now.journal.items)) = search rules in
    grows_grows _ c.args.len (32 + (c.args.len - length c.args.self.now.journal.items)) c.args.self.now.log c.push.new.self e
