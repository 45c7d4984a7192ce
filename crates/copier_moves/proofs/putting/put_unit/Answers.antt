-- The move of a unit, by its two calls.
use Rattle.std.proofs.Common.{◌≡◌, ◌<◌, ℕ, List, length, subst, sym, arith}
use Rattle.std.specs.List.Sorted.{IsStrictlyIncreasing}
use Rattle.base_fields.specs.Numbers.{IsBetween}
use Rattle.std.proofs.lemmas.Bool.{MatchBool-at_false, MatchBool-at_true}
use Rattle.bench.proofs.DiskLemmas.{keeps_then, runs_then}
use Rattle.copy_stages.specs.Stages.{Closes, ClosingKeepsSince}
use Rattle.bench.specs.declared.Dev.TheVariants.{Journal}
use Rattle.journal_format.specs.Journals.{IsMarked, unit_mark}
use Rattle.std.specs.Prelude.{All, Some}
use Rattle.copier_moves.proofs.PutLemmas.{close_is_near, close_keeps_since, inside_below, number_inside, pending_few, pending_inside, pending_marked, pending_rises, putting_of, recorded_along, recorded_copied, recorded_course, recorded_fits, room_for_one, taken_along, taken_copied, taken_course, taken_fits, taken_high, taken_there, taken_units, unit_small, write_is_near, write_keeps_since}
use Rattle.copier_moves.proofs.WindowLemmas.{put_closed, put_open}
use Rattle.copier_moves.proofs.putting.put_unit.Goals as goal

pub span-span-requires : goal.span-span-requires
span-span-requires g c =
    number_inside c.args.job.now c.args.course.now.unit c.requires.job (inside_below c.args.job.now c.args.course.now c.requires.job c.requires.course c.requires.inside)

pub returns-in_err-write_unit-clause-since : goal.returns-in_err-write_unit-clause-since
returns-in_err-write_unit-clause-since g c told source before copied sources =
    let job = c.args.job.now in
    let was = c.args.course.now in
    let u = c.span-span.result in
    let bytes = c.args.bytes.now in
    let putting = putting_of job was u bytes c.requires.job c.requires.course c.requires.inside c.requires.unmarked c.span-span.ensures.exact c.span-span.ensures.end c.requires.whole in
    let a = g.B.Bench.disk c.args.bench.now in
    let b = g.B.Bench.disk c.write_unit.new.bench in
    let fits = c.requires.fits told in
    let touches = c.write_unit.ensures.touches told in
    write_keeps_since job was u bytes putting a fits b touches (c.write_unit.ensures.since told) source before

pub returns-in_err-write_unit-clause-narrow : goal.returns-in_err-write_unit-clause-narrow
returns-in_err-write_unit-clause-narrow g c told s start along =
    let job = c.args.job.now in
    let was = c.args.course.now in
    let u = c.span-span.result in
    let bytes = c.args.bytes.now in
    let putting = putting_of job was u bytes c.requires.job c.requires.course c.requires.inside c.requires.unmarked c.span-span.ensures.exact c.span-span.ensures.end c.requires.whole in
    let a = g.B.Bench.disk c.args.bench.now in
    let b = g.B.Bench.disk c.write_unit.new.bench in
    let fits = c.requires.fits told in
    let touches = c.write_unit.ensures.touches told in
    write_is_near job was u bytes putting a fits b touches (Some s) start along s

pub returns-then-not-is_full-clause-since : goal.returns-then-not-is_full-clause-since
returns-then-not-is_full-clause-since g c told source before copied sources =
    let job = c.args.job.now in
    let was = c.args.course.now in
    let u = c.span-span.result in
    let bytes = c.args.bytes.now in
    let putting = putting_of job was u bytes c.requires.job c.requires.course c.requires.inside c.requires.unmarked c.span-span.ensures.exact c.span-span.ensures.end c.requires.whole in
    let a = g.B.Bench.disk c.args.bench.now in
    let b = g.B.Bench.disk c.write_unit.new.bench in
    let fits = c.requires.fits told in
    let touches = c.write_unit.ensures.touches told in
    write_keeps_since job was u bytes putting a fits b touches (c.write_unit.ensures.since told) source before

pub returns-then-not-is_full-clause-narrow : goal.returns-then-not-is_full-clause-narrow
returns-then-not-is_full-clause-narrow g c told s start along =
    let job = c.args.job.now in
    let was = c.args.course.now in
    let u = c.span-span.result in
    let bytes = c.args.bytes.now in
    let putting = putting_of job was u bytes c.requires.job c.requires.course c.requires.inside c.requires.unmarked c.span-span.ensures.exact c.span-span.ensures.end c.requires.whole in
    let a = g.B.Bench.disk c.args.bench.now in
    let b = g.B.Bench.disk c.write_unit.new.bench in
    let fits = c.requires.fits told in
    let touches = c.write_unit.ensures.touches told in
    write_is_near job was u bytes putting a fits b touches (Some s) start along s

pub returns-then-not-is_full-clause-fits : goal.returns-then-not-is_full-clause-fits
returns-then-not-is_full-clause-fits g c told =
    let job = c.args.job.now in
    let was = c.args.course.now in
    let u = c.span-span.result in
    let bytes = c.args.bytes.now in
    let putting = putting_of job was u bytes c.requires.job c.requires.course c.requires.inside c.requires.unmarked c.span-span.ensures.exact c.span-span.ensures.end c.requires.whole in
    let a = g.B.Bench.disk c.args.bench.now in
    let b = g.B.Bench.disk c.write_unit.new.bench in
    let fits = c.requires.fits told in
    let touches = c.write_unit.ensures.touches told in
    let d = c.take.new.self in
    let wrote = c.in_ok-write_unit.ensures.wrote told in
    taken_fits job was u bytes putting a fits b touches wrote d c.take.ensures

pub returns-then-not-is_full-clause-copied : goal.returns-then-not-is_full-clause-copied
returns-then-not-is_full-clause-copied g c told =
    let job = c.args.job.now in
    let was = c.args.course.now in
    let u = c.span-span.result in
    let bytes = c.args.bytes.now in
    let putting = putting_of job was u bytes c.requires.job c.requires.course c.requires.inside c.requires.unmarked c.span-span.ensures.exact c.span-span.ensures.end c.requires.whole in
    let a = g.B.Bench.disk c.args.bench.now in
    let b = g.B.Bench.disk c.write_unit.new.bench in
    let fits = c.requires.fits told in
    let touches = c.write_unit.ensures.touches told in
    let d = c.take.new.self in
    let wrote = c.in_ok-write_unit.ensures.wrote told in
    taken_copied job was u bytes putting a fits b touches wrote d c.take.ensures

pub returns-then-not-is_full-clause-along : goal.returns-then-not-is_full-clause-along
returns-then-not-is_full-clause-along g c told =
    let job = c.args.job.now in
    let was = c.args.course.now in
    let u = c.span-span.result in
    let bytes = c.args.bytes.now in
    let putting = putting_of job was u bytes c.requires.job c.requires.course c.requires.inside c.requires.unmarked c.span-span.ensures.exact c.span-span.ensures.end c.requires.whole in
    let a = g.B.Bench.disk c.args.bench.now in
    let b = g.B.Bench.disk c.write_unit.new.bench in
    let fits = c.requires.fits told in
    let touches = c.write_unit.ensures.touches told in
    let d = c.take.new.self in
    let wrote = c.in_ok-write_unit.ensures.wrote told in
    let on = MatchBool-at_false _ _ c.if-not-is_full.true c.is_full.ensures in
    taken_along job was u bytes putting a fits b touches wrote d c.take.ensures on

pub returns-then-not-is_full-clause-course : goal.returns-then-not-is_full-clause-course
returns-then-not-is_full-clause-course g c =
    let job = c.args.job.now in
    let was = c.args.course.now in
    let u = c.span-span.result in
    let bytes = c.args.bytes.now in
    let putting = putting_of job was u bytes c.requires.job c.requires.course c.requires.inside c.requires.unmarked c.span-span.ensures.exact c.span-span.ensures.end c.requires.whole in
    let d = c.take.new.self in
    let on = MatchBool-at_false _ _ c.if-not-is_full.true c.is_full.ensures in
    taken_course job was u bytes putting d c.take.ensures on

pub returns-in_err-close_window-clause-since : goal.returns-in_err-close_window-clause-since
returns-in_err-close_window-clause-since g c told source before copied sources =
    let job = c.args.job.now in
    let was = c.args.course.now in
    let u = c.span-span.result in
    let bytes = c.args.bytes.now in
    let putting = putting_of job was u bytes c.requires.job c.requires.course c.requires.inside c.requires.unmarked c.span-span.ensures.exact c.span-span.ensures.end c.requires.whole in
    let a = g.B.Bench.disk c.args.bench.now in
    let b = g.B.Bench.disk c.write_unit.new.bench in
    let fits = c.requires.fits told in
    let touches = c.write_unit.ensures.touches told in
    let d = c.take.new.self in
    let wrote = c.in_ok-write_unit.ensures.wrote told in
    let e = g.B.Bench.disk c.close_window.new.bench in
    let closes : Closes d.pending b e = subst (λ (ks : List ℕ). Closes ks b e) c.as_slice.ensures (c.close_window.ensures.closes told) in
    let since : ClosingKeepsSince job.id d.pending b e = subst (λ (ks : List ℕ). ClosingKeepsSince job.id ks b e) c.as_slice.ensures (c.close_window.ensures.since told) in
    keeps_then (write_keeps_since job was u bytes putting a fits b touches (c.write_unit.ensures.since told) source before)
    (close_keeps_since job was u bytes putting a fits b touches wrote d c.take.ensures e closes since source before copied sources)

pub returns-in_err-close_window-clause-own : goal.returns-in_err-close_window-clause-own
returns-in_err-close_window-clause-own g c told =
    keeps_then (c.write_unit.ensures.own told c.args.job.now.id) (c.close_window.ensures.own told)

pub returns-in_err-close_window-clause-narrow : goal.returns-in_err-close_window-clause-narrow
returns-in_err-close_window-clause-narrow g c told s start along =
    let job = c.args.job.now in
    let was = c.args.course.now in
    let u = c.span-span.result in
    let bytes = c.args.bytes.now in
    let putting = putting_of job was u bytes c.requires.job c.requires.course c.requires.inside c.requires.unmarked c.span-span.ensures.exact c.span-span.ensures.end c.requires.whole in
    let a = g.B.Bench.disk c.args.bench.now in
    let b = g.B.Bench.disk c.write_unit.new.bench in
    let fits = c.requires.fits told in
    let touches = c.write_unit.ensures.touches told in
    let d = c.take.new.self in
    let wrote = c.in_ok-write_unit.ensures.wrote told in
    let e = g.B.Bench.disk c.close_window.new.bench in
    let closes : Closes d.pending b e = subst (λ (ks : List ℕ). Closes ks b e) c.as_slice.ensures (c.close_window.ensures.closes told) in
    runs_then (write_is_near job was u bytes putting a fits b touches (Some s) start along s) (close_is_near job was u bytes putting a fits b touches wrote d c.take.ensures e closes (Some s) start along s)

pub returns-clause-since : goal.returns-clause-since
returns-clause-since g c told source before copied sources =
    let job = c.args.job.now in
    let was = c.args.course.now in
    let u = c.span-span.result in
    let bytes = c.args.bytes.now in
    let putting = putting_of job was u bytes c.requires.job c.requires.course c.requires.inside c.requires.unmarked c.span-span.ensures.exact c.span-span.ensures.end c.requires.whole in
    let a = g.B.Bench.disk c.args.bench.now in
    let b = g.B.Bench.disk c.write_unit.new.bench in
    let fits = c.requires.fits told in
    let touches = c.write_unit.ensures.touches told in
    let d = c.take.new.self in
    let wrote = c.in_ok-write_unit.ensures.wrote told in
    let e = g.B.Bench.disk c.close_window.new.bench in
    let closes : Closes d.pending b e = subst (λ (ks : List ℕ). Closes ks b e) c.as_slice.ensures (c.close_window.ensures.closes told) in
    let since : ClosingKeepsSince job.id d.pending b e = subst (λ (ks : List ℕ). ClosingKeepsSince job.id ks b e) c.as_slice.ensures (c.close_window.ensures.since told) in
    keeps_then (write_keeps_since job was u bytes putting a fits b touches (c.write_unit.ensures.since told) source before)
    (close_keeps_since job was u bytes putting a fits b touches wrote d c.take.ensures e closes since source before copied sources)

pub returns-clause-own : goal.returns-clause-own
returns-clause-own g c told =
    keeps_then (c.write_unit.ensures.own told c.args.job.now.id) (c.close_window.ensures.own told)

pub returns-clause-narrow : goal.returns-clause-narrow
returns-clause-narrow g c told s start along =
    let job = c.args.job.now in
    let was = c.args.course.now in
    let u = c.span-span.result in
    let bytes = c.args.bytes.now in
    let putting = putting_of job was u bytes c.requires.job c.requires.course c.requires.inside c.requires.unmarked c.span-span.ensures.exact c.span-span.ensures.end c.requires.whole in
    let a = g.B.Bench.disk c.args.bench.now in
    let b = g.B.Bench.disk c.write_unit.new.bench in
    let fits = c.requires.fits told in
    let touches = c.write_unit.ensures.touches told in
    let d = c.take.new.self in
    let wrote = c.in_ok-write_unit.ensures.wrote told in
    let e = g.B.Bench.disk c.close_window.new.bench in
    let closes : Closes d.pending b e = subst (λ (ks : List ℕ). Closes ks b e) c.as_slice.ensures (c.close_window.ensures.closes told) in
    runs_then (write_is_near job was u bytes putting a fits b touches (Some s) start along s) (close_is_near job was u bytes putting a fits b touches wrote d c.take.ensures e closes (Some s) start along s)

pub returns-clause-fits : goal.returns-clause-fits
returns-clause-fits g c told =
    let job = c.args.job.now in
    let was = c.args.course.now in
    let u = c.span-span.result in
    let bytes = c.args.bytes.now in
    let putting = putting_of job was u bytes c.requires.job c.requires.course c.requires.inside c.requires.unmarked c.span-span.ensures.exact c.span-span.ensures.end c.requires.whole in
    let a = g.B.Bench.disk c.args.bench.now in
    let b = g.B.Bench.disk c.write_unit.new.bench in
    let fits = c.requires.fits told in
    let touches = c.write_unit.ensures.touches told in
    let d = c.take.new.self in
    let wrote = c.in_ok-write_unit.ensures.wrote told in
    let e = g.B.Bench.disk c.close_window.new.bench in
    let closes : Closes d.pending b e = subst (λ (ks : List ℕ). Closes ks b e) c.as_slice.ensures (c.close_window.ensures.closes told) in
    let f = c.record_pending.new.self in
    let marked = subst (λ (ks : List ℕ). All (λ k. IsMarked (e.reads Journal) (unit_mark k)) ks) c.as_slice.ensures (c.in_ok-close_window.ensures.marked told) in
    let target = c.in_ok-close_window.ensures.settled_target told in
    let journal = c.in_ok-close_window.ensures.settled in
    let still = c.close_window.ensures.still told in
    recorded_fits job was u bytes putting a fits b touches wrote d c.take.ensures e closes f c.record_pending.ensures marked target journal still

pub returns-clause-copied : goal.returns-clause-copied
returns-clause-copied g c told =
    let job = c.args.job.now in
    let was = c.args.course.now in
    let u = c.span-span.result in
    let bytes = c.args.bytes.now in
    let putting = putting_of job was u bytes c.requires.job c.requires.course c.requires.inside c.requires.unmarked c.span-span.ensures.exact c.span-span.ensures.end c.requires.whole in
    let a = g.B.Bench.disk c.args.bench.now in
    let b = g.B.Bench.disk c.write_unit.new.bench in
    let fits = c.requires.fits told in
    let touches = c.write_unit.ensures.touches told in
    let d = c.take.new.self in
    let wrote = c.in_ok-write_unit.ensures.wrote told in
    let e = g.B.Bench.disk c.close_window.new.bench in
    let closes : Closes d.pending b e = subst (λ (ks : List ℕ). Closes ks b e) c.as_slice.ensures (c.close_window.ensures.closes told) in
    let f = c.record_pending.new.self in
    let marked = subst (λ (ks : List ℕ). All (λ k. IsMarked (e.reads Journal) (unit_mark k)) ks) c.as_slice.ensures (c.in_ok-close_window.ensures.marked told) in
    let target = c.in_ok-close_window.ensures.settled_target told in
    let journal = c.in_ok-close_window.ensures.settled in
    let still = c.close_window.ensures.still told in
    recorded_copied job was u bytes putting a fits b touches wrote d c.take.ensures e closes f c.record_pending.ensures marked target journal still

pub returns-clause-along : goal.returns-clause-along
returns-clause-along g c told =
    let job = c.args.job.now in
    let was = c.args.course.now in
    let u = c.span-span.result in
    let bytes = c.args.bytes.now in
    let putting = putting_of job was u bytes c.requires.job c.requires.course c.requires.inside c.requires.unmarked c.span-span.ensures.exact c.span-span.ensures.end c.requires.whole in
    let a = g.B.Bench.disk c.args.bench.now in
    let b = g.B.Bench.disk c.write_unit.new.bench in
    let fits = c.requires.fits told in
    let touches = c.write_unit.ensures.touches told in
    let d = c.take.new.self in
    let wrote = c.in_ok-write_unit.ensures.wrote told in
    let e = g.B.Bench.disk c.close_window.new.bench in
    let closes : Closes d.pending b e = subst (λ (ks : List ℕ). Closes ks b e) c.as_slice.ensures (c.close_window.ensures.closes told) in
    let f = c.record_pending.new.self in
    let marked = subst (λ (ks : List ℕ). All (λ k. IsMarked (e.reads Journal) (unit_mark k)) ks) c.as_slice.ensures (c.in_ok-close_window.ensures.marked told) in
    let target = c.in_ok-close_window.ensures.settled_target told in
    let journal = c.in_ok-close_window.ensures.settled in
    let still = c.close_window.ensures.still told in
    recorded_along job was u bytes putting a fits b touches wrote d c.take.ensures e closes f c.record_pending.ensures marked target journal still

pub returns-clause-course : goal.returns-clause-course
returns-clause-course g c =
    let job = c.args.job.now in
    let was = c.args.course.now in
    let u = c.span-span.result in
    let bytes = c.args.bytes.now in
    let putting = putting_of job was u bytes c.requires.job c.requires.course c.requires.inside c.requires.unmarked c.span-span.ensures.exact c.span-span.ensures.end c.requires.whole in
    recorded_course job was u bytes putting c.take.new.self c.take.ensures c.record_pending.new.self c.record_pending.ensures

pub write_unit-requires-clause-inside : goal.write_unit-requires-clause-inside
write_unit-requires-clause-inside g c told =
    let job = c.args.job.now in
    let was = c.args.course.now in
    let u = c.span-span.result in
    let bytes = c.args.bytes.now in
    let putting = putting_of job was u bytes c.requires.job c.requires.course c.requires.inside c.requires.unmarked c.span-span.ensures.exact c.span-span.ensures.end c.requires.whole in
    let fits = c.requires.fits told in
    omega (arith, putting.end, putting.whole, fits.room)

pub take-requires-clause-room : goal.take-requires-clause-room
take-requires-clause-room g c =
    let job = c.args.job.now in
    let was = c.args.course.now in
    let u = c.span-span.result in
    let bytes = c.args.bytes.now in
    let putting = putting_of job was u bytes c.requires.job c.requires.course c.requires.inside c.requires.unmarked c.span-span.ensures.exact c.span-span.ensures.end c.requires.whole in
    room_for_one job was u bytes putting

pub take-requires-clause-bounded : goal.take-requires-clause-bounded
take-requires-clause-bounded g c =
    let job = c.args.job.now in
    let was = c.args.course.now in
    let u = c.span-span.result in
    let bytes = c.args.bytes.now in
    let putting = putting_of job was u bytes c.requires.job c.requires.course c.requires.inside c.requires.unmarked c.span-span.ensures.exact c.span-span.ensures.end c.requires.whole in
    unit_small job was u bytes putting

pub is_full-requires-clause-there : goal.is_full-requires-clause-there
is_full-requires-clause-there g c =
    let job = c.args.job.now in
    let was = c.args.course.now in
    let u = c.span-span.result in
    let bytes = c.args.bytes.now in
    let putting = putting_of job was u bytes c.requires.job c.requires.course c.requires.inside c.requires.unmarked c.span-span.ensures.exact c.span-span.ensures.end c.requires.whole in
    taken_there job was u bytes putting c.take.new.self c.take.ensures

pub is_full-requires-clause-units : goal.is_full-requires-clause-units
is_full-requires-clause-units g c =
    let job = c.args.job.now in
    let was = c.args.course.now in
    let u = c.span-span.result in
    let bytes = c.args.bytes.now in
    let putting = putting_of job was u bytes c.requires.job c.requires.course c.requires.inside c.requires.unmarked c.span-span.ensures.exact c.span-span.ensures.end c.requires.whole in
    taken_units job was u bytes putting c.take.new.self c.take.ensures

pub is_full-requires-clause-high : goal.is_full-requires-clause-high
is_full-requires-clause-high g c =
    let job = c.args.job.now in
    let was = c.args.course.now in
    let u = c.span-span.result in
    let bytes = c.args.bytes.now in
    let putting = putting_of job was u bytes c.requires.job c.requires.course c.requires.inside c.requires.unmarked c.span-span.ensures.exact c.span-span.ensures.end c.requires.whole in
    taken_high job was u bytes putting c.take.new.self c.take.ensures

pub close_window-requires-clause-opened : goal.close_window-requires-clause-opened
close_window-requires-clause-opened g c told =
    let job = c.args.job.now in
    let was = c.args.course.now in
    let u = c.span-span.result in
    let bytes = c.args.bytes.now in
    let putting = putting_of job was u bytes c.requires.job c.requires.course c.requires.inside c.requires.unmarked c.span-span.ensures.exact c.span-span.ensures.end c.requires.whole in
    let a = g.B.Bench.disk c.args.bench.now in
    let b = g.B.Bench.disk c.write_unit.new.bench in
    let fits = c.requires.fits told in
    let touches = c.write_unit.ensures.touches told in
    let d = c.take.new.self in
    let wrote = c.in_ok-write_unit.ensures.wrote told in
    (taken_fits job was u bytes putting a fits b touches wrote d c.take.ensures).opened

pub close_window-requires-clause-few : goal.close_window-requires-clause-few
close_window-requires-clause-few g c =
    let job = c.args.job.now in
    let was = c.args.course.now in
    let u = c.span-span.result in
    let bytes = c.args.bytes.now in
    let putting = putting_of job was u bytes c.requires.job c.requires.course c.requires.inside c.requires.unmarked c.span-span.ensures.exact c.span-span.ensures.end c.requires.whole in
    subst (λ (ks : List ℕ). IsBetween 1 16 (length ks)) (sym c.as_slice.ensures) (pending_few job was u bytes putting c.take.new.self c.take.ensures)

pub close_window-requires-clause-ascending : goal.close_window-requires-clause-ascending
close_window-requires-clause-ascending g c =
    let job = c.args.job.now in
    let was = c.args.course.now in
    let u = c.span-span.result in
    let bytes = c.args.bytes.now in
    let putting = putting_of job was u bytes c.requires.job c.requires.course c.requires.inside c.requires.unmarked c.span-span.ensures.exact c.span-span.ensures.end c.requires.whole in
    subst IsStrictlyIncreasing (sym c.as_slice.ensures) (pending_rises job was u bytes putting c.take.new.self c.take.ensures)

pub close_window-requires-clause-inside : goal.close_window-requires-clause-inside
close_window-requires-clause-inside g c =
    let job = c.args.job.now in
    let was = c.args.course.now in
    let u = c.span-span.result in
    let bytes = c.args.bytes.now in
    let putting = putting_of job was u bytes c.requires.job c.requires.course c.requires.inside c.requires.unmarked c.span-span.ensures.exact c.span-span.ensures.end c.requires.whole in
    subst (λ (ks : List ℕ). All (λ k. k < job.id.units) ks) (sym c.as_slice.ensures) (pending_inside job was u bytes putting c.take.new.self c.take.ensures)

pub record_pending-requires : goal.record_pending-requires
record_pending-requires g c =
    let job = c.args.job.now in
    let was = c.args.course.now in
    let u = c.span-span.result in
    let bytes = c.args.bytes.now in
    let putting = putting_of job was u bytes c.requires.job c.requires.course c.requires.inside c.requires.unmarked c.span-span.ensures.exact c.span-span.ensures.end c.requires.whole in
    pending_marked job was u bytes putting c.take.new.self c.take.ensures

pub returns-then-not-is_full-clause-put : goal.returns-then-not-is_full-clause-put
returns-then-not-is_full-clause-put g c =
    let on = MatchBool-at_false _ _ c.if-not-is_full.true c.is_full.ensures in
    put_open c.args.job.now c.args.course.now c.take.new.self c.args.bytes.now c.take.ensures on

pub returns-clause-put : goal.returns-clause-put
returns-clause-put g c =
    let full = MatchBool-at_true _ _ c.if-not-is_full.false c.is_full.ensures in
    put_closed c.args.job.now c.args.course.now c.take.new.self c.record_pending.new.self c.args.bytes.now c.take.ensures full c.record_pending.ensures
