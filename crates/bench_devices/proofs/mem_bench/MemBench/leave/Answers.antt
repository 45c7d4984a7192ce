use Rattle.std.proofs.Common.{◌≡◌, rules}
use Rattle.bench.specs.declared.Dev.TheVariants.{Target, Journal}
use Rattle.bench_devices.specs.MemBenchCalls.{kept_of, story_of, untouched}
use Rattle.bench_devices.proofs.LeavingLemmas.{left_among}
use Rattle.bench_devices.proofs.ReplayLemmas.{image_first}
use Rattle.bench_devices.proofs.mem_bench.MemBench.leave.Goals as goal

pub returns-clause-among : goal.returns-clause-among
returns-clause-among c =
    let story = story_of c.args.self in
    let e : story_of c.in_ok-left.left ≡ untouched (kept_of story c.args.keep.now Target) (kept_of story c.args.keep.now Journal) story.log.room = search (rules, image_first) in
    left_among story.first c.args.keep.now story.log.calls story.log.room (story_of c.in_ok-left.left) e
