-- A unit is read and put, by the read and the put.
use Rattle.std.proofs.Common.{◌≡◌, ℕ, ◌+◌, List, arith, subst, sym, ◌∙◌, length, ap}
use Rattle.std.specs.Prelude.{Err, Ok}
use Rattle.std.proofs.lemmas.Result.{on_ok_weaker}
use Rattle.base_fields.specs.declared.spans.Span.{Span}
use Rattle.bench.proofs.DiskLemmas.{looked_keeps}
use Rattle.copier_moves.proofs.KeepLemmas.{looked_none, unit_at, unit_size}
use Rattle.copier.proofs.EndingLemmas.{copied_ends, refused_ends}
use Rattle.copier.proofs.CopyLemmas.{copied_along, copied_cause, copied_cleared, copied_done, copied_next, copied_since, copied_tells, copied_window, no_costs, reads_source, refused_cause, refused_cleared, refused_goes, refused_tells, unit_costs, unit_inside}
use Rattle.copier.proofs.SourceLemmas.{one_span}
use Rattle.copier.specs.Faults.{IsReadFault}
use Rattle.copier.specs.Steps.{ReadsInto}
use Rattle.copier.specs.declared.faults.CopyFault.{CopyFault}
use Rattle.outside.specs.Reading.{span_of}
use Rattle.copier.proofs.StepLemmas.{rests_near}
use Rattle.copier.proofs.stepping.copy_next.Goals as goal

pub span-span-requires : goal.span-span-requires
span-span-requires g c = unit_inside c.args.job.now c.args.progress.now c.args.k c.requires.sound c.requires.next

pub slice_bounds-part-end : goal.slice_bounds-part-end
slice_bounds-part-end g c = omega (arith, c.span-span.ensures.most, c.requires.room, unit_size c.args.job.now c.requires.sound.of_job)

pub put_next-requires-clause-whole : goal.put_next-requires-clause-whole
put_next-requires-clause-whole g c v other =
    let job = c.args.job.now in
    let was = c.args.progress.now in
    let u = c.span-span.result in
    let at = unit_at job c.args.k u c.requires.sound.of_job c.span-span.ensures.exact in
    c.read_unit.ensures.size ∙ ap (λ (x : Span). x.len) (one_span job.id job.map c.args.k u v at other)

pub returns-in-Ok-clause-since : goal.returns-in-Ok-clause-since
returns-in-Ok-clause-since g c told =
    let job = c.args.job.now in
    let was = c.args.progress.now in
    let u = c.span-span.result in
    let at = unit_at job c.args.k u c.requires.sound.of_job c.span-span.ensures.exact in
    let read = λ (t : g.F.Files.told). subst (λ (n : List ℕ). span_of (g.F.Files.file c.args.files.now n) u.at u.len ≡ Ok c.read_unit.new.part) c.text.ensures (c.in-Ok.ensures.read t) in
    let file = g.F.Files.file c.args.files.now job.source in
    let a = g.B.Bench.disk c.args.bench.now in
    let b = g.B.Bench.disk c.put_next.new.bench in
    copied_since job g.F.Files.told file was c.args.k u c.read_unit.new.part at c.span-span.ensures.filled read a b (c.put_next.ensures.since told)

pub returns-in-Ok-clause-window : goal.returns-in-Ok-clause-window
returns-in-Ok-clause-window g c told =
    let job = c.args.job.now in
    let was = c.args.progress.now in
    let u = c.span-span.result in
    let at = unit_at job c.args.k u c.requires.sound.of_job c.span-span.ensures.exact in
    let read = λ (t : g.F.Files.told). subst (λ (n : List ℕ). span_of (g.F.Files.file c.args.files.now n) u.at u.len ≡ Ok c.read_unit.new.part) c.text.ensures (c.in-Ok.ensures.read t) in
    let file = g.F.Files.file c.args.files.now job.source in
    let a = g.B.Bench.disk c.args.bench.now in
    let b = g.B.Bench.disk c.put_next.new.bench in
    on_ok_weaker c.put_next.result (copied_window job g.F.Files.told file was c.args.k u c.read_unit.new.part at c.span-span.ensures.filled read c.put_next.new.progress a b) (c.put_next.ensures.window told)

pub returns-in-Ok-clause-along : goal.returns-in-Ok-clause-along
returns-in-Ok-clause-along g c told =
    let job = c.args.job.now in
    let was = c.args.progress.now in
    let u = c.span-span.result in
    let at = unit_at job c.args.k u c.requires.sound.of_job c.span-span.ensures.exact in
    let read = λ (t : g.F.Files.told). subst (λ (n : List ℕ). span_of (g.F.Files.file c.args.files.now n) u.at u.len ≡ Ok c.read_unit.new.part) c.text.ensures (c.in-Ok.ensures.read t) in
    let file = g.F.Files.file c.args.files.now job.source in
    let a = g.B.Bench.disk c.args.bench.now in
    let b = g.B.Bench.disk c.put_next.new.bench in
    on_ok_weaker c.put_next.result (copied_along job g.F.Files.told file was c.args.k u c.read_unit.new.part at c.span-span.ensures.filled read c.put_next.new.progress a b) (c.put_next.ensures.along told)

pub returns-in-Ok-clause-source : goal.returns-in-Ok-clause-source
returns-in-Ok-clause-source g c told =
    let job = c.args.job.now in
    let was = c.args.progress.now in
    let u = c.span-span.result in
    let at = unit_at job c.args.k u c.requires.sound.of_job c.span-span.ensures.exact in
    let read = subst (λ (n : List ℕ). span_of (g.F.Files.file c.args.files.now n) u.at u.len ≡ Ok c.read_unit.new.part) c.text.ensures (c.in-Ok.ensures.read told) in
    reads_source (g.F.Files.file c.args.files.now) job was c.args.k u c.put_next.result c.requires.next at
    (copied_tells (span_of (g.F.Files.file c.args.files.now job.source) u.at u.len) c.read_unit.new.part (g.B.Bench.meter c.args.bench.now) (g.B.Bench.meter c.put_next.new.bench) c.put_next.result read c.put_next.ensures.cause)

pub returns-in-Ok-clause-bill : goal.returns-in-Ok-clause-bill
returns-in-Ok-clause-bill g c =
    let job = c.args.job.now in
    let was = c.args.progress.now in
    let u = c.span-span.result in
    let at = unit_at job c.args.k u c.requires.sound.of_job c.span-span.ensures.exact in
    unit_costs job _ c.args.k (1024 + length c.read_unit.new.part) u c.put_next.result (g.B.Bench.meter c.args.bench.now) (g.B.Bench.meter c.put_next.new.bench) c.requires.next at
    (omega (arith, c.read_unit.ensures.size)) c.put_next.ensures.bill

pub returns-in-Ok-clause-next : goal.returns-in-Ok-clause-next
returns-in-Ok-clause-next g c = copied_next c.args.job.now c.args.progress.now c.args.k c.put_next.result c.requires.next c.put_next.ensures.unit

pub returns-in-Ok-clause-done : goal.returns-in-Ok-clause-done
returns-in-Ok-clause-done g c told = copied_done c.args.job.now (g.B.Bench.disk c.put_next.new.bench) c.args.k c.put_next.result c.put_next.ensures.unit

pub returns-in-Ok-clause-cleared : goal.returns-in-Ok-clause-cleared
returns-in-Ok-clause-cleared g c told =
    copied_cleared c.args.job.now c.args.progress.now (g.B.Bench.disk c.put_next.new.bench) (g.B.Bench.meter c.args.bench.now) (g.B.Bench.meter c.put_next.new.bench) c.put_next.result c.put_next.ensures.cause

pub returns-in-Ok-clause-cause : goal.returns-in-Ok-clause-cause
returns-in-Ok-clause-cause g c =
    copied_cause g.B.Bench.told c.args.job.now c.args.progress.now (g.B.Bench.disk c.args.bench.now) (g.F.Files.counts c.args.files.now) (g.F.Files.counts c.read_unit.new.files)
    (g.B.Bench.meter c.args.bench.now) (g.B.Bench.meter c.put_next.new.bench) c.put_next.result c.put_next.ensures.cause

pub returns-in-Err-clause-since : goal.returns-in-Err-clause-since
returns-in-Err-clause-since g c told source before is reads = looked_keeps (looked_none (g.B.Bench.disk c.args.bench.now))

pub returns-in-Err-clause-own : goal.returns-in-Err-clause-own
returns-in-Err-clause-own g c told = looked_keeps (looked_none (g.B.Bench.disk c.args.bench.now))

pub returns-in-Err-clause-narrow : goal.returns-in-Err-clause-narrow
returns-in-Err-clause-narrow g c told =
    rests_near c.args.job.now c.args.progress.now (g.B.Bench.disk c.args.bench.now) c.requires.sound (c.requires.fits told)

pub returns-in-Err-clause-goes : goal.returns-in-Err-clause-goes
returns-in-Err-clause-goes g c =
    refused_goes c.args.job.now c.args.progress.now c.refuse.new.progress c.args.k c.in-Err.fault c.refuse.result c.requires.next c.refuse.ensures.kept c.refuse.ensures.given

pub returns-in-Err-clause-cause : goal.returns-in-Err-clause-cause
returns-in-Err-clause-cause g c =
    let before = g.F.Files.counts c.args.files.now in
    let after = g.F.Files.counts c.read_unit.new.files in
    let cause = subst (λ (x : CopyFault). IsReadFault before after x) (sym c.refuse.ensures.given) c.in-Err.ensures.cause in
    refused_cause g.B.Bench.told c.args.job.now c.args.progress.now (g.B.Bench.disk c.args.bench.now) before after (g.B.Bench.meter c.args.bench.now) (g.B.Bench.meter c.args.bench.now)
    c.refuse.result c.args.k c.requires.sound c.requires.next cause

pub returns-in-Err-clause-cleared : goal.returns-in-Err-clause-cleared
returns-in-Err-clause-cleared g c told =
    let before = g.F.Files.counts c.args.files.now in
    let after = g.F.Files.counts c.read_unit.new.files in
    let cause = subst (λ (x : CopyFault). IsReadFault before after x) (sym c.refuse.ensures.given) c.in-Err.ensures.cause in
    refused_cleared c.args.job.now c.args.progress.now (g.B.Bench.disk c.args.bench.now) before after c.refuse.result cause

pub returns-in-Err-clause-source : goal.returns-in-Err-clause-source
returns-in-Err-clause-source g c told =
    let job = c.args.job.now in
    let was = c.args.progress.now in
    let u = c.span-span.result in
    let at = unit_at job c.args.k u c.requires.sound.of_job c.span-span.ensures.exact in
    let wanted = span_of (g.F.Files.file c.args.files.now job.source) u.at u.len in
    let named = subst (λ (n : List ℕ). ReadsInto (span_of (g.F.Files.file c.args.files.now n) u.at u.len) c.read_unit.new.part (Err c.in-Err.fault)) c.text.ensures (c.in-Err.ensures.read told) in
    let read = subst (λ (x : CopyFault). ReadsInto wanted c.read_unit.new.part (Err x)) (sym c.refuse.ensures.given) named in
    reads_source (g.F.Files.file c.args.files.now) job was c.args.k u (Err c.refuse.result) c.requires.next at (refused_tells wanted c.read_unit.new.part c.refuse.result read)

pub returns-in-Err-clause-bill : goal.returns-in-Err-clause-bill
returns-in-Err-clause-bill g c =
    let job = c.args.job.now in
    let was = c.args.progress.now in
    let u = c.span-span.result in
    let at = unit_at job c.args.k u c.requires.sound.of_job c.span-span.ensures.exact in
    let meter = g.B.Bench.meter c.args.bench.now in
    unit_costs job _ c.args.k 0 u (Err c.refuse.result) meter meter c.requires.next at (omega arith) (no_costs meter)

pub returns-in-Ok-clause-ends : goal.returns-in-Ok-clause-ends
returns-in-Ok-clause-ends g c told =
    copied_ends g.F.Files.told (g.F.Files.file c.args.files.now c.args.job.now.source) c.args.job.now c.args.progress.now (g.B.Bench.disk c.args.bench.now) c.args.k
    (g.B.Bench.meter c.args.bench.now) (g.B.Bench.meter c.put_next.new.bench) c.put_next.result c.put_next.ensures.unit c.put_next.ensures.cause

pub returns-in-Err-clause-ends : goal.returns-in-Err-clause-ends
returns-in-Err-clause-ends g c told =
    let job = c.args.job.now in
    let was = c.args.progress.now in
    let u = c.span-span.result in
    let at = unit_at job c.args.k u c.requires.sound.of_job c.span-span.ensures.exact in
    let file = g.F.Files.file c.args.files.now job.source in
    let read = λ (t : g.F.Files.told). subst (λ (x : CopyFault). ReadsInto (span_of file u.at u.len) c.read_unit.new.part (Err x)) (sym c.refuse.ensures.given)
    (subst (λ (n : List ℕ). ReadsInto (span_of (g.F.Files.file c.args.files.now n) u.at u.len) c.read_unit.new.part (Err c.in-Err.fault)) c.text.ensures (c.in-Err.ensures.read t)) in
    refused_ends g.F.Files.told file job was (g.B.Bench.disk c.args.bench.now) c.args.k u c.read_unit.new.part c.refuse.result c.requires.sound c.requires.next at c.span-span.ensures.filled (c.requires.fits told) read
