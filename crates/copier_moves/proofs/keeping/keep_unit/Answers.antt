-- A recorded unit is passed, read again where its range has a digest.
use Rattle.std.proofs.Common.{rules, ◌≡◌, ◌+◌, ◌≤◌, None, refl, sym, ◌∙◌, arith}
use Rattle.copier_moves.proofs.EndLemmas.{kept_along, kept_course, kept_fits, look_is_near}
use Rattle.copier_moves.proofs.KeepLemmas.{image_size, looked_none, no_some, unit_at, unit_size}
use Rattle.copier_moves.proofs.PutLemmas.{inside_below, number_inside}
use Rattle.copier_moves.proofs.keeping.keep_unit.Goals as goal

pub wanted-requires : goal.wanted-requires
wanted-requires g c = omega (arith, c.requires.job.of_map.ranges, c.requires.inside.there)

pub overflow_add-course : goal.overflow_add-course
overflow_add-course g c =
    let below = inside_below c.args.job.now c.args.course.now c.requires.job c.requires.course c.requires.inside in
    let limit = c.requires.job.limits.units in
    omega (arith, below, limit)

pub overflow_add-course-2 : goal.overflow_add-course-2
overflow_add-course-2 g c =
    let below = inside_below c.args.job.now c.args.course.now c.requires.job c.requires.course c.requires.inside in
    let limit = c.requires.job.limits.units in
    omega (arith, below, limit)

pub returns-in_default-clause-looked : goal.returns-in_default-clause-looked
returns-in_default-clause-looked g c = looked_none (g.B.Bench.disk c.args.bench.now)

pub returns-in_default-clause-fits : goal.returns-in_default-clause-fits
returns-in_default-clause-fits g c told =
    let none : c.wanted.result ≡ None = search rules in
    kept_fits c.args.job.now c.args.course.now _ c.requires.job c.requires.course c.requires.inside c.requires.marked refl (c.requires.fits told) (looked_none (g.B.Bench.disk c.args.bench.now))
    (λ range want there stated. absurd (no_some range.digest want (c.wanted.ensures range there ∙ none) stated))

pub returns-in_default-clause-narrow : goal.returns-in_default-clause-narrow
returns-in_default-clause-narrow g c told =
    look_is_near c.args.job.now c.args.course.now c.requires.job (c.requires.fits told) (looked_none (g.B.Bench.disk c.args.bench.now))

pub returns-in_default-clause-along : goal.returns-in_default-clause-along
returns-in_default-clause-along g c told =
    kept_along c.args.job.now c.args.course.now (record c.args.course.now { unit = c.args.course.now.unit + 1 }) c.requires.job c.requires.course c.requires.inside c.requires.marked refl (c.requires.fits told) (looked_none (g.B.Bench.disk c.args.bench.now))

pub returns-in_default-clause-course : goal.returns-in_default-clause-course
returns-in_default-clause-course g c =
    kept_course c.args.job.now c.args.course.now _ c.requires.job c.requires.course c.requires.inside c.requires.marked refl

pub span-span-requires : goal.span-span-requires
span-span-requires g c = number_inside c.args.job.now c.args.course.now.unit c.requires.job (inside_below c.args.job.now c.args.course.now c.requires.job c.requires.course c.requires.inside)

pub slice_bounds-hash_unit-end : goal.slice_bounds-hash_unit-end
slice_bounds-hash_unit-end g c =
    let most = c.span-span.ensures.most in
    let room = c.requires.room in
    omega (arith, most, room, unit_size c.args.job.now c.requires.job)

pub hash_unit-requires-clause-inside : goal.hash_unit-requires-clause-inside
hash_unit-requires-clause-inside g c told =
    let fits = c.requires.fits told in
    omega (arith, c.span-span.ensures.end, image_size c.args.job.now c.requires.job, fits.room)

pub returns-in_err-hash_unit-clause-narrow : goal.returns-in_err-hash_unit-clause-narrow
returns-in_err-hash_unit-clause-narrow g c told =
    look_is_near c.args.job.now c.args.course.now c.requires.job (c.requires.fits told) c.hash_unit.ensures.looked

pub returns-clause-narrow : goal.returns-clause-narrow
returns-clause-narrow g c told =
    look_is_near c.args.job.now c.args.course.now c.requires.job (c.requires.fits told) c.hash_unit.ensures.looked

pub returns-clause-fits : goal.returns-clause-fits
returns-clause-fits g c told =
    let job = c.args.job.now in
    kept_fits job c.args.course.now _ c.requires.job c.requires.course c.requires.inside c.requires.marked refl (c.requires.fits told) c.hash_unit.ensures.looked
    (λ range want there stated. (c.span-span.result, unit_at job c.args.course.now.unit c.span-span.result c.requires.job c.span-span.ensures.exact, c.in_ok-hash_unit.ensures.added told))

pub returns-clause-along : goal.returns-clause-along
returns-clause-along g c told =
    kept_along c.args.job.now c.args.course.now (record c.args.course.now { unit = c.args.course.now.unit + 1; hash = c.hash_unit.new.hasher }) c.requires.job c.requires.course c.requires.inside c.requires.marked refl (c.requires.fits told) c.hash_unit.ensures.looked

pub returns-clause-course : goal.returns-clause-course
returns-clause-course g c =
    kept_course c.args.job.now c.args.course.now _ c.requires.job c.requires.course c.requires.inside c.requires.marked refl
