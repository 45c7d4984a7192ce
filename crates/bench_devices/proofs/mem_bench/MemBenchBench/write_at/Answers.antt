use Rattle.std.proofs.Common.{◌≡◌, ◌+◌, ◌≤◌, length, rules, arith, ap}
use Rattle.bench.specs.Disk.{part_of}
use Rattle.bench_devices.specs.History.{Writes, Log, logged}
use Rattle.bench_devices.proofs.HistoryLemmas.{writes_touches}
use Rattle.bench_devices.proofs.MemBenchLemmas.{part_reads, written_reads}
use Rattle.bench_devices.proofs.mem_bench.MemBenchBench.write_at.Goals as goal

pub returns-clause-touches : goal.returns-clause-touches
returns-clause-touches c =
    let e : c.push.new.self ≡ logged c.args.self.now.log (record { dev = c.args.dev; effect = Writes c.args.at c.args.bytes.now c.args.bytes.now }) (32 + length c.args.bytes.now + 0) = search rules in
    writes_touches _ c.args.dev c.args.at c.args.bytes.now c.args.bytes.now (32 + length c.args.bytes.now + 0) c.args.self.now.log c.push.new.self e

pub invariant_of-self-2 : goal.invariant_of-self-2
invariant_of-self-2 c =
    let e : c.push.new.self ≡ logged c.args.self.now.log (record { dev = c.args.dev; effect = Writes c.args.at c.args.bytes.now c.args.bytes.now }) (32 + length c.args.bytes.now + 0) = search rules in
    let used = ap (λ (l : Log). l.used) e in
    let room = ap (λ (l : Log). l.room) e in
    let reads = part_reads _ c.args.dev c.args.self.now.log.calls _ _ c.args.self.now.target_reads c.args.self.now.journal_reads in
    let inside : c.args.at + length c.args.bytes.now ≤ length (part_of c.args.dev c.args.self.now.target.items c.args.self.now.journal.items) = rw reads c.requires.inside in
    let both = written_reads _ c.args.dev c.args.at c.args.bytes.now c.args.bytes.now (32 + length c.args.bytes.now + 0) c.args.self.now.log c.push.new.self _ _ c.put.new.target.items c.put.new.journal.items c.args.self.now.target_reads c.args.self.now.journal_reads e inside c.put.ensures.here c.put.ensures.other in
    record { target_reads = both.0; journal_reads = both.1; journal_room = omega (arith, used, room, c.put.ensures.len, c.put.ensures.room, c.args.self.now.journal_room) }
