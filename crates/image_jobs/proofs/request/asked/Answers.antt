use Rattle.std.proofs.Common.{arith, subst}
use Rattle.image_jobs.proofs.UnreadLemmas.{copied_sound}
use Rattle.job_words.specs.Ranges.{AreCopySizes, IsInRange, IsUnit}
use Rattle.image_jobs.proofs.request.asked.Goals as goal

pub returns-in-Map-clause-sound : goal.returns-in-Map-clause-sound
returns-in-Map-clause-sound c =
    subst IsInRange c.in-Map.is (c.jobs_are_in_range.ensures _ c.in_ok-conf.field-0 c.in_ok-conf.ensures)

pub returns-in-Copy-clause-sound : goal.returns-in-Copy-clause-sound
returns-in-Copy-clause-sound c =
    let sizes : AreCopySizes c.in-Copy.unit c.in-Copy.window = subst IsInRange c.in-Copy.is (c.jobs_are_in_range.ensures _ c.in_ok-conf.field-0 c.in_ok-conf.ensures) in
    copied_sound _ _ c.copy_unless.ensures.copies (record { units = sizes.units; windows = sizes.windows })

pub returns-in-Resume-clause-sound : goal.returns-in-Resume-clause-sound
returns-in-Resume-clause-sound c =
    let unit : IsUnit c.in-Resume.unit = subst IsInRange c.in-Resume.is (c.jobs_are_in_range.ensures _ c.in_ok-conf.field-0 c.in_ok-conf.ensures) in
    copied_sound _ _ c.copy_unless-in-Resume.ensures.copies (record { units = unit; windows = (omega arith, omega arith) })
