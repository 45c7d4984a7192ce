use Rattle.std.proofs.Common.{◌≡◌, ℕ, ◌+◌, ◌-◌, List, length, take, subst, arith}
use Rattle.std.proofs.lemmas.List.{length-take-le}
use Rattle.sha2.specs.Hashers.{Holds256}
use Rattle.bench.specs.declared.Dev.{Dev}
use Rattle.bench.specs.declared.Dev.TheVariants.{Target}
use Rattle.verifier.proofs.Pieces.{Adds, hashed_more, run}
use Rattle.verifier.proofs.digests.digest_of.Goals as goal

pub returns-clause-exact : goal.returns-clause-exact
returns-clause-exact g c told =
    let reads = (g.B.Bench.disk c.args.bench.now).reads in
    let at = c.args.span.at in
    let done = c.loop-done.done in
    let rest = c.args.span.len - done in
    let old = c.loop-done.hasher in
    let new = c.add_piece-2.new.hasher in
    let last = c.loop-done-test.false in
    let long : length (take rest c.loop-done.buf) ≡ rest =
    length-take-le rest c.loop-done.buf (omega (arith, c.loop-done.invariant.room, last)) in
    let whole : done + rest ≡ c.args.span.len = omega (arith, c.loop-done.invariant.within) in
    let AddsAt = λ (now : Dev → List ℕ) (n : ℕ). Adds (run (now Target) (at + done) n) old new in
    let added = subst (AddsAt (g.B.Bench.disk c.loop-done.bench).reads) long (c.in_ok-add_piece-2.ensures.added told) in
    let there = subst (λ now. AddsAt now rest) c.loop-done.invariant.looked.reads added in
    let held = hashed_more (reads Target) at done rest old new (c.loop-done.invariant.hashed told) there in
    c.finalize.ensures _ (subst (λ n. Holds256 new (run (reads Target) at n)) whole held)
