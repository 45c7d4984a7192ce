-- A copier that has nothing left to do.
use Rattle.std.proofs.Common.{◌≡◌, ℕ, ◌<◌, List, [], ◌∷◌, Contains, length, refl, subst, arith}
use Rattle.std.proofs.lemmas.Grind.{same_number_lists}
use Rattle.bench.specs.declared.Dev.TheVariants.{Journal, Target}
use Rattle.bench.specs.Disk.{Disk}
use Rattle.copy_laws.proofs.UnitBytes.{rows_length}
use Rattle.copy_laws.specs.Writes.{UnitsTorn}
use Rattle.copy_states.specs.Along.{IsPositionOn}
use Rattle.copier_course.specs.Courses.{IsCopyJob, IsCourse, position_of}
use Rattle.copier_course.specs.declared.courses.Course.{Course}
use Rattle.copier_course.specs.declared.jobs.CopyJob.{CopyJob}
use Rattle.copier_moves.proofs.MarkLemmas.{position_on}
use Rattle.copier_moves.specs.Fitting.{IsFitting}
use Rattle.copier.specs.Runs.{IsDone}

empty : (ks : List ℕ) → (0 < length ks → ⊥) → ks ≡ []
empty [] none = refl
empty (k ∷ ks) none = absurd (none (omega arith))

-- behind the last range no unit is in the window
pub none_pending : (job : CopyJob) (c : Course) → IsCopyJob job → IsCourse job c → c.range ≡ job.id.ranges → c.pending ≡ []
none_pending job c is course end = empty c.pending (λ some.
    let more = course.position.more some in
    omega (arith, more.1.there, rows_length job.id job.map, is.of_map.ranges, end))

none_torn : (job : CopyJob) (ks t image : List ℕ) → ks ≡ [] → UnitsTorn job.id job.map ks t image → image ≡ t
none_torn job ks t image none torn = same_number_lists image t torn.size (λ o below. torn.same o (λ byte.
    let among : Contains [] byte.0 = subst (λ (l : List ℕ). Contains l byte.0) none byte.2 in
    absurd (omega (arith, among.1))))

-- so every range is checked, and both devices are settled
pub fits_done : (job : CopyJob) (c : Course) (a : Disk) → IsCopyJob job → IsCourse job c → c.range ≡ job.id.ranges → IsFitting job c a → IsDone job a
fits_done job c a is course end fits =
    let position : IsPositionOn job.id job.map (a.reads Journal) c.window (position_of c) = position_on job c (a.reads Journal) is course fits.opened fits.marks in
    record {
      checked = λ r below. position.present.before r (omega (arith, below, end));
      target = λ image leaves. none_torn job c.pending (a.reads Target) image (none_pending job c is course end) (fits.images image leaves);
      journal = fits.settled;
    }
