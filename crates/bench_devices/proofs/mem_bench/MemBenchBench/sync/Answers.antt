use Rattle.std.proofs.Common.{◌≡◌, rules}
use Rattle.bench_devices.specs.History.{Settles, logged}
use Rattle.bench_devices.proofs.HistoryLemmas.{settles_looked}
use Rattle.bench_devices.proofs.mem_bench.MemBenchBench.sync.Goals as goal

pub returns-clause-looked : goal.returns-clause-looked
returns-clause-looked c =
    let e : c.push.new.self ≡ logged c.args.self.now.log (record { dev = c.args.dev; effect = Settles }) 32 = search rules in
    settles_looked _ c.args.dev 32 c.args.self.now.log c.push.new.self e
