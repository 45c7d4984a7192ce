use Rattle.std.proofs.Common.{◌≡◌, ◌<◌, length, get_or, rules, arith, sym, ap, ◌∙◌, List, ℕ, Bool, false}
use Rattle.bench_devices.specs.History.{Effect, effect_on, read_after}
use Rattle.bench_devices.specs.Leaving.{image_after}
use Rattle.bench_devices.specs.Record.{call_of}
use Rattle.bench_devices.proofs.ReplayLemmas.{reads_next, image_next}
use Rattle.bench_devices.proofs.RecordLemmas.{calls_next, calls_count}
use Rattle.bench_devices.proofs.record.Record.image.Goals as goal

same_after : (k k' : Bool) (most : ℕ) (effect : Effect) (l l' i i' : List ℕ) → k ≡ k' → l ≡ l' → i ≡ i' → image_after k most effect l i ≡ image_after k' most effect l' i'
same_after k k' most effect l l' i i' p q r = ap (λ (x : Bool). image_after x most effect l i) p ∙ ap (λ (x : List ℕ). image_after k' most effect x i) q ∙ ap (λ (x : List ℕ). image_after k' most effect l' x) r

pub loop-k-preserved : goal.loop-k-preserved
loop-k-preserved c =
    let b = c.self.inside.bytes.items in
    let f = c.self.inside.found.items in
    let es = c.self.inside.entries.items in
    let e = c.index-entry.result.now in
    let inside : c.loop-k.k < length es = omega arith in
    let is : get_or es c.loop-k.k e ≡ e = search rules in
    let reads = reads_next (record { target = c.args.first.now; journal = c.args.first.now }) c.args.dev b f es c.loop-k.k e inside is in
    let image = image_next (record { target = c.args.first.now; journal = c.args.first.now }) (record { target = c.args.choice.target; journal = c.args.choice.journal }) c.args.keep.now c.args.choice.most c.args.dev b f es c.loop-k.k e inside is in
    let read : c.keep_reads.new.reads.items ≡ read_after (effect_on e.dev c.args.dev (call_of b f e).effect) c.loop-k.reads.items = search rules in
    let long : length b ≡ length f = sym c.self.invariant.found_too in
    let kept : c.keep_image.new.image.items ≡ image_after c.is_kept-kept.result c.args.choice.most (effect_on e.dev c.args.dev (call_of b f e).effect) c.loop-k.reads.items c.loop-k.image.items = search rules in
    let effect = effect_on e.dev c.args.dev (call_of b f e).effect in
    let most = c.args.choice.most in
    let before = c.loop-k.invariant in
    let number = c.is_kept-kept.ensures ∙ ap (λ (n : ℕ). get_or c.args.keep.now n false) before.number in
    record { below = search rules; number = search (rules, calls_next, calls_count); reads = read ∙ ap (λ (l : List ℕ). read_after effect l) before.reads ∙ sym reads; image = kept ∙ same_after _ _ most effect _ _ _ _ number before.reads before.image ∙ sym image }
