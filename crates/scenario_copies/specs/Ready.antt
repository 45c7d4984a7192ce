-- A copier between two of its calls.
use Rattle.std.specs.Prelude.{◌≡◌}
use Rattle.bench.specs.Disk.{Disk}
use Rattle.bench.specs.Meter.{IsAttached, Meter}
use Rattle.bench.specs.declared.Dev.TheVariants.{Journal, Target}
use Rattle.region_pool.specs.Buffers.{Buffers}
use Rattle.copier_course.specs.declared.jobs.CopyJob.{CopyJob}
use Rattle.copier.specs.Copiers.{Copying, Fits}
use Rattle.copier.specs.Pools.{HasBuffer}

-- it is the copier of this job, both devices are attached, it fits them where they are told, and its buffer is out
pub record IsReady (told : Type 0) (meter : Meter) (disk : Disk) (job : CopyJob) (c : Copying) (p : Buffers) : Type 0 where
  pub own : c.job ≡ job
  pub target : IsAttached meter Target
  pub journal : IsAttached meter Journal
  pub fits : told → Fits c.job c.progress disk
  pub buffer : HasBuffer c p
