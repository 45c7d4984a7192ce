-- A unit that is kept, by the units of the job.
use Rattle.std.proofs.Common.{◌≡◌, ℕ, ◌+◌, ◌<◌, ◌≤◌, List, length, inl, refl, subst, ap, arith}
use Rattle.std.specs.Prelude.{None, Option, Some, slice_get}
use Rattle.base_fields.specs.declared.spans.Span.{Span}
use Rattle.bench.specs.Disk.{Disk, Looked}
use Rattle.block_map.specs.Units.{Cut, units_in}
use Rattle.copy_states.specs.Jobs.{IsUnitAt}
use Rattle.copier_course.specs.Courses.{IsCopyJob}
use Rattle.copier_course.specs.declared.jobs.CopyJob.{CopyJob}

-- no call is a look
pub looked_none : (a : Disk) → Looked a a
looked_none a = record {
  reads = refl;
  images = λ dev image leaves. leaves;
  time = record { later = omega arith; since = λ m t j upto left. inl left; kept = λ m t j upto left. left };
}

pub no_some : (o : Option (List ℕ)) (want : List ℕ) → o ≡ None → o ≡ Some want → ⊥
no_some o want none some = cc

pub unit_size : (job : CopyJob) → IsCopyJob job → job.units.unit ≡ job.id.unit
unit_size job is = ap (λ (x : Cut). x.unit) is.cut

pub image_size : (job : CopyJob) → IsCopyJob job → job.units.size ≡ job.map.size
image_size job is = ap (λ (x : Cut). x.size) is.cut

pub unit_at : (job : CopyJob) (k : ℕ) (u : Span) → IsCopyJob job → slice_get (units_in job.units) k ≡ Some u → IsUnitAt job.id job.map k u
unit_at job k u is at = subst (λ (x : Cut). slice_get (units_in x) k ≡ Some u) is.cut at
