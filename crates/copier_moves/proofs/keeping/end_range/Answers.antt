-- The end of a range: it is recorded, or its units are taken back.
use Rattle.std.proofs.Common.{rules, ◌≡◌, ◌+◌, ◌<◌, ◌≤◌, ℕ, List, length, None, refl, arith}
use Rattle.bench.specs.declared.Dev.TheVariants.{Journal}
use Rattle.bench.proofs.MeterLemmas.{costs_on_costs, costs_so}
use Rattle.copier_course.proofs.CourseLemmas.{end_within}
use Rattle.copier_moves.proofs.EndLemmas.{behind_rehashed, check_is_near, check_keeps_since, checked_along, checked_fits, checks_rehashed, clear_is_near, clear_keeps_since, count_is, course_rehashed, first_is, got_is, no_difference_of, none_is_left, range_there, rows_inside}
use Rattle.copier_moves.proofs.keeping.end_range.Goals as goal

pub difference-requires : goal.difference-requires
difference-requires g c =
    omega (arith, c.requires.job.of_map.ranges, c.requires.behind.there)

pub first_of-first-requires : goal.first_of-first-requires
first_of-first-requires g c =
    rows_inside c.args.job.now c.args.course.now.range c.requires.job c.requires.behind.there

pub count_of-requires : goal.count_of-requires
count_of-requires g c =
    rows_inside c.args.job.now c.args.course.now.range c.requires.job c.requires.behind.there

pub clear_units-requires-clause-opened : goal.clear_units-requires-clause-opened
clear_units-requires-clause-opened g c told =
    (c.requires.fits told).opened

pub clear_units-requires-clause-inside : goal.clear_units-requires-clause-inside
clear_units-requires-clause-inside g c =
    end_within c.args.job.now c.args.course.now.range _ _ c.requires.job c.requires.behind.there c.first_of-first.ensures c.count_of.ensures.next

pub returns-in_err-clear_units-clause-since : goal.returns-in_err-clear_units-clause-since
returns-in_err-clear_units-clause-since g c told =
    let job = c.args.job.now in
    let was = c.args.course.now in
    let is = c.requires.job in
    let behind = c.requires.behind in
    let a = g.B.Bench.disk c.args.bench.now in
    let fits = c.requires.fits told in
    let first = c.first_of-first.result in
    let count = c.count_of.result in
    let from = first_is job was.range first is c.first_of-first.ensures in
    let many = count_is job was.range count is c.count_of.ensures.exact in
    let want = c.in-Some.both.0 in
    let got = c.in-Some.both.1 in
    let differs = c.in-Some.ensures.exact in
    let b = g.B.Bench.disk c.clear_units.new.bench in
    let touches = c.clear_units.ensures.touches told in
    clear_keeps_since job was is c.requires.course behind a fits want got differs b first count from many touches (c.clear_units.ensures.since told)

pub returns-in_err-clear_units-clause-narrow : goal.returns-in_err-clear_units-clause-narrow
returns-in_err-clear_units-clause-narrow g c told =
    let job = c.args.job.now in
    let was = c.args.course.now in
    let is = c.requires.job in
    let behind = c.requires.behind in
    let a = g.B.Bench.disk c.args.bench.now in
    let fits = c.requires.fits told in
    let first = c.first_of-first.result in
    let count = c.count_of.result in
    let from = first_is job was.range first is c.first_of-first.ensures in
    let many = count_is job was.range count is c.count_of.ensures.exact in
    let want = c.in-Some.both.0 in
    let got = c.in-Some.both.1 in
    let differs = c.in-Some.ensures.exact in
    let b = g.B.Bench.disk c.clear_units.new.bench in
    let touches = c.clear_units.ensures.touches told in
    let below : was.range < length job.map.ranges = omega (arith, is.of_map.ranges, behind.there) in
    let (range, at) = range_there job was.range below in
    clear_is_near job was is c.requires.course behind a fits want got differs b first count from many touches range at

pub returns-in_err-clear_units-clause-bill : goal.returns-in_err-clear_units-clause-bill
returns-in_err-clear_units-clause-bill g c =
    let job = c.args.job.now in
    let was = c.args.course.now in
    let is = c.requires.job in
    let behind = c.requires.behind in
    let first = c.first_of-first.result in
    let count = c.count_of.result in
    let from = first_is job was.range first is c.first_of-first.ensures in
    let many = count_is job was.range count is c.count_of.ensures.exact in
    costs_so (costs_on_costs Journal c.clear_units.ensures.bill) (omega (arith, many))

pub returns-in-Some-clause-since : goal.returns-in-Some-clause-since
returns-in-Some-clause-since g c told =
    let job = c.args.job.now in
    let was = c.args.course.now in
    let is = c.requires.job in
    let behind = c.requires.behind in
    let a = g.B.Bench.disk c.args.bench.now in
    let fits = c.requires.fits told in
    let first = c.first_of-first.result in
    let count = c.count_of.result in
    let from = first_is job was.range first is c.first_of-first.ensures in
    let many = count_is job was.range count is c.count_of.ensures.exact in
    let want = c.in-Some.both.0 in
    let got = c.in-Some.both.1 in
    let differs = c.in-Some.ensures.exact in
    let b = g.B.Bench.disk c.clear_units.new.bench in
    let touches = c.clear_units.ensures.touches told in
    clear_keeps_since job was is c.requires.course behind a fits want got differs b first count from many touches (c.clear_units.ensures.since told)

pub returns-in-Some-clause-narrow : goal.returns-in-Some-clause-narrow
returns-in-Some-clause-narrow g c told =
    let job = c.args.job.now in
    let was = c.args.course.now in
    let is = c.requires.job in
    let behind = c.requires.behind in
    let a = g.B.Bench.disk c.args.bench.now in
    let fits = c.requires.fits told in
    let first = c.first_of-first.result in
    let count = c.count_of.result in
    let from = first_is job was.range first is c.first_of-first.ensures in
    let many = count_is job was.range count is c.count_of.ensures.exact in
    let want = c.in-Some.both.0 in
    let got = c.in-Some.both.1 in
    let differs = c.in-Some.ensures.exact in
    let b = g.B.Bench.disk c.clear_units.new.bench in
    let touches = c.clear_units.ensures.touches told in
    let below : was.range < length job.map.ranges = omega (arith, is.of_map.ranges, behind.there) in
    let (range, at) = range_there job was.range below in
    clear_is_near job was is c.requires.course behind a fits want got differs b first count from many touches range at

pub returns-in-Some-clause-bill : goal.returns-in-Some-clause-bill
returns-in-Some-clause-bill g c =
    let job = c.args.job.now in
    let was = c.args.course.now in
    let is = c.requires.job in
    let behind = c.requires.behind in
    let first = c.first_of-first.result in
    let count = c.count_of.result in
    let from = first_is job was.range first is c.first_of-first.ensures in
    let many = count_is job was.range count is c.count_of.ensures.exact in
    costs_so (costs_on_costs Journal c.clear_units.ensures.bill) (omega (arith, many))

pub returns-in-Some-clause-none_left : goal.returns-in-Some-clause-none_left
returns-in-Some-clause-none_left g c told =
    let job = c.args.job.now in
    let was = c.args.course.now in
    let is = c.requires.job in
    let behind = c.requires.behind in
    let a = g.B.Bench.disk c.args.bench.now in
    let fits = c.requires.fits told in
    let first = c.first_of-first.result in
    let count = c.count_of.result in
    let from = first_is job was.range first is c.first_of-first.ensures in
    let many = count_is job was.range count is c.count_of.ensures.exact in
    let want = c.in-Some.both.0 in
    let got = c.in-Some.both.1 in
    let differs = c.in-Some.ensures.exact in
    let b = g.B.Bench.disk c.clear_units.new.bench in
    let touches = c.clear_units.ensures.touches told in
    none_is_left job was is c.requires.course behind a fits want got differs b first count from many touches (c.in_ok-clear_units.ensures.cleared told) c.in_ok-clear_units.ensures.settled

pub returns-in-Some-clause-cause : goal.returns-in-Some-clause-cause
returns-in-Some-clause-cause g c =
    let job = c.args.job.now in
    let was = c.args.course.now in
    let is = c.requires.job in
    let behind = c.requires.behind in
    let want = c.in-Some.both.0 in
    let got = c.in-Some.both.1 in
    let differs = c.in-Some.ensures.exact in
    record {
      present = refl;
      stated = differs.stated;
      computed = λ told range at. got_is job was is c.requires.course behind (g.B.Bench.disk c.args.bench.now) (c.requires.fits told) want got differs range at;
      differs = differs.differs;
    }

pub check_range-requires-clause-opened : goal.check_range-requires-clause-opened
check_range-requires-clause-opened g c told =
    (c.requires.fits told).opened

pub returns-in_err-check_range-clause-since : goal.returns-in_err-check_range-clause-since
returns-in_err-check_range-clause-since g c told =
    let job = c.args.job.now in
    let was = c.args.course.now in
    let is = c.requires.job in
    let behind = c.requires.behind in
    let a = g.B.Bench.disk c.args.bench.now in
    let fits = c.requires.fits told in
    let none : c.difference.result ≡ None = search rules in
    let right = no_difference_of job was c.difference.result none c.difference.ensures.exact in
    let b = g.B.Bench.disk c.check_range.new.bench in
    let touches = c.check_range.ensures.touches told in
    check_keeps_since job was is c.requires.course behind a fits right b touches (c.check_range.ensures.since told)

pub returns-in_err-check_range-clause-narrow : goal.returns-in_err-check_range-clause-narrow
returns-in_err-check_range-clause-narrow g c told =
    let job = c.args.job.now in
    let was = c.args.course.now in
    let is = c.requires.job in
    let behind = c.requires.behind in
    let a = g.B.Bench.disk c.args.bench.now in
    let fits = c.requires.fits told in
    let none : c.difference.result ≡ None = search rules in
    let right = no_difference_of job was c.difference.result none c.difference.ensures.exact in
    let b = g.B.Bench.disk c.check_range.new.bench in
    let touches = c.check_range.ensures.touches told in
    check_is_near job was is c.requires.course behind a fits right b touches

pub returns-clause-since : goal.returns-clause-since
returns-clause-since g c told =
    let job = c.args.job.now in
    let was = c.args.course.now in
    let is = c.requires.job in
    let behind = c.requires.behind in
    let a = g.B.Bench.disk c.args.bench.now in
    let fits = c.requires.fits told in
    let none : c.difference.result ≡ None = search rules in
    let right = no_difference_of job was c.difference.result none c.difference.ensures.exact in
    let b = g.B.Bench.disk c.check_range.new.bench in
    let touches = c.check_range.ensures.touches told in
    check_keeps_since job was is c.requires.course behind a fits right b touches (c.check_range.ensures.since told)

pub returns-clause-narrow : goal.returns-clause-narrow
returns-clause-narrow g c told =
    let job = c.args.job.now in
    let was = c.args.course.now in
    let is = c.requires.job in
    let behind = c.requires.behind in
    let a = g.B.Bench.disk c.args.bench.now in
    let fits = c.requires.fits told in
    let none : c.difference.result ≡ None = search rules in
    let right = no_difference_of job was c.difference.result none c.difference.ensures.exact in
    let b = g.B.Bench.disk c.check_range.new.bench in
    let touches = c.check_range.ensures.touches told in
    check_is_near job was is c.requires.course behind a fits right b touches

pub check-requires-clause-course : goal.check-requires-clause-course
check-requires-clause-course g c =
    course_rehashed c.args.job.now c.args.course.now c.difference.new.course c.difference.ensures.same c.requires.course

pub check-requires-clause-behind : goal.check-requires-clause-behind
check-requires-clause-behind g c =
    behind_rehashed c.args.job.now c.args.course.now c.difference.new.course c.difference.ensures.same c.requires.behind

pub returns-clause-fits : goal.returns-clause-fits
returns-clause-fits g c told =
    let job = c.args.job.now in
    let was = c.args.course.now in
    let is = c.requires.job in
    let behind = c.requires.behind in
    let a = g.B.Bench.disk c.args.bench.now in
    let fits = c.requires.fits told in
    let none : c.difference.result ≡ None = search rules in
    let right = no_difference_of job was c.difference.result none c.difference.ensures.exact in
    let b = g.B.Bench.disk c.check_range.new.bench in
    let touches = c.check_range.ensures.touches told in
    let d = c.check.new.self in
    let checks = checks_rehashed was c.difference.new.course d c.difference.ensures.same c.check.ensures.checks in
    let marked = c.in_ok-check_range.ensures.marked told in
    let journal = c.in_ok-check_range.ensures.settled in
    let still = c.check_range.ensures.still told in
    checked_fits job was is c.requires.course behind a fits right b touches d c.check.ensures.course c.check.ensures.first checks marked journal still

pub returns-clause-along : goal.returns-clause-along
returns-clause-along g c told =
    let job = c.args.job.now in
    let was = c.args.course.now in
    let is = c.requires.job in
    let behind = c.requires.behind in
    let a = g.B.Bench.disk c.args.bench.now in
    let fits = c.requires.fits told in
    let none : c.difference.result ≡ None = search rules in
    let right = no_difference_of job was c.difference.result none c.difference.ensures.exact in
    let b = g.B.Bench.disk c.check_range.new.bench in
    let touches = c.check_range.ensures.touches told in
    let d = c.check.new.self in
    let checks = checks_rehashed was c.difference.new.course d c.difference.ensures.same c.check.ensures.checks in
    let marked = c.in_ok-check_range.ensures.marked told in
    let journal = c.in_ok-check_range.ensures.settled in
    let still = c.check_range.ensures.still told in
    checked_along job was is c.requires.course behind a fits right b touches d c.check.ensures.course c.check.ensures.first checks marked journal still

pub returns-clause-checked : goal.returns-clause-checked
returns-clause-checked g c =
    checks_rehashed c.args.course.now c.difference.new.course c.check.new.self c.difference.ensures.same c.check.ensures.checks

pub returns-in_err-clear_units-clause-same_target : goal.returns-in_err-clear_units-clause-same_target
returns-in_err-clear_units-clause-same_target g c told = (c.clear_units.ensures.touches told).changes.other_reads

pub returns-in-Some-clause-same_target : goal.returns-in-Some-clause-same_target
returns-in-Some-clause-same_target g c told = (c.clear_units.ensures.touches told).changes.other_reads

pub returns-in_err-check_range-clause-same_target : goal.returns-in_err-check_range-clause-same_target
returns-in_err-check_range-clause-same_target g c told = (c.check_range.ensures.touches told).changes.other_reads

pub returns-clause-same_target : goal.returns-clause-same_target
returns-clause-same_target g c told = (c.check_range.ensures.touches told).changes.other_reads
