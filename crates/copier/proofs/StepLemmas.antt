-- What a call of a copier keeps, by the one move that it makes.
use Rattle.std.proofs.Common.{◌≡◌, ℕ, ◌+◌, ◌<◌, ◌≤◌, List, [], Contains, sym, subst, ap, arith}
use Rattle.std.specs.Prelude.{Err, None, Ok, Option, Some}
use Rattle.bench.specs.Disk.{Disk}
use Rattle.block_map.specs.declared.maps.BlockMap.{BlockMap}
use Rattle.block_map.specs.Units.{first_of}
use Rattle.block_map.proofs.Index.{first_rises}
use Rattle.journal_format.specs.declared.jobs.JobId.{JobId}
use Rattle.copy_laws.specs.Marks.{AreCopied}
use Rattle.copier_course.specs.Courses.{Checks, IsAtFirst, IsBehind, IsCourse, IsInside, need_of, rows_in}
use Rattle.copier_course.specs.declared.courses.Course.{Course}
use Rattle.copier_course.specs.declared.jobs.CopyJob.{CopyJob}
use Rattle.copier_course.specs.declared.jobs.Need.{Need}
use Rattle.copier_course.specs.declared.jobs.Need.TheVariants as need
use Rattle.copier_moves.proofs.EndLemmas.{look_is_near}
use Rattle.copier_moves.proofs.KeepLemmas.{looked_none}
use Rattle.copier_moves.specs.Moves as moves
use Rattle.copier_moves.specs.Moves.{AreSources, IsPut, MovingIsNear, PuttingIsAlong, PuttingKeepsSince}
use Rattle.copier_moves.specs.declared.faults.EndFault.{EndFault}
use Rattle.copier_moves.specs.declared.faults.EndFault.TheVariants.{DeviceFault, RangeDiffers}
use Rattle.copier.proofs.EndLemmas.{fits_done}
use Rattle.copier.proofs.NeedLemmas.{done_next, range_fewer, range_next, unit_fewer, unit_next}
use Rattle.copier.specs.Copiers.{CameAlong, Fits, IsSound, Progress, WindowReads, next_of}
use Rattle.copier.specs.Faults.{NoneIsLeft, of_ending}
use Rattle.copier.specs.Runs.{ClearsTheRange, IsDone, KeepsWindow, PutGoesAlong, PutKeepsSince, StaysNear}
use Rattle.copier.specs.Steps.{left_of}
use Rattle.copier.specs.declared.faults.CopyFault.{CopyFault}

-- ---- of a copier that hasn't refused
pub course_of : (job : CopyJob) (was : Progress) (c : Course) → was ≡ Ok c → IsSound job was → IsCourse job c
course_of job was c is sound = (subst (λ (p : Progress). IsSound job p) is sound).course

need_at : (job : CopyJob) (was : Progress) (c : Course) (n : Need) → was ≡ Ok c → next_of job was ≡ n → need_of job c ≡ n
need_at job was c n is next = subst (λ (p : Progress). next_of job p ≡ n) is next

-- each pair since is near by the move
pub near_of : (job : CopyJob) (was : Progress) (c : Course) {a b : Disk} → was ≡ Ok c → MovingIsNear job c a b → StaysNear job was a b
near_of job was c {a} {b} is near = subst (λ (p : Progress). StaysNear job p a b) (sym is) near

-- ---- a unit is put
pub number_next : (job : CopyJob) (was : Progress) (c : Course) (k : ℕ) → was ≡ Ok c → IsSound job was → next_of job was ≡ need.Unit k → c.unit ≡ k
number_next job was c k is sound next = (unit_next job c (course_of job was c is sound) k (need_at job was c (need.Unit k) is next)).number

pub put_since : (job : CopyJob) (was : Progress) (c : Course) (k : ℕ) (bytes : List ℕ) (a b : Disk) → was ≡ Ok c → c.unit ≡ k →
    PuttingKeepsSince job c bytes a b → PutKeepsSince job was k bytes a b
put_since job was c k bytes a b is number keeps source before reads sources =
    keeps source before (subst (λ (p : Progress). WindowReads job p source a) is reads) (subst (λ (n : ℕ). AreSources job source n bytes) (sym number) sources)

pub put_along : (job : CopyJob) (was : Progress) (c d : Course) (k : ℕ) (bytes : List ℕ) (a b : Disk) → was ≡ Ok c → c.unit ≡ k →
    PuttingIsAlong job bytes c d a b → PutGoesAlong job was (Ok d) k bytes a b
put_along job was c d k bytes a b is number goes source start along sources =
    goes source start (subst (λ (p : Progress). CameAlong job p source start a) is along) (subst (λ (n : ℕ). AreSources job source n bytes) (sym number) sources)

pub put_fewer : (job : CopyJob) (was : Progress) (c d : Course) (k : ℕ) → was ≡ Ok c → IsSound job was → next_of job was ≡ need.Unit k → IsPut job c d →
    left_of job (Ok d) < left_of job was
put_fewer job was c d k is sound next put =
    let course = course_of job was c is sound in
    let inside : IsInside job c = (unit_next job c course k (need_at job was c (need.Unit k) is next)).inside in
    subst (λ (p : Progress). left_of job (Ok d) < left_of job p) (sym is)
    (unit_fewer job c course d sound.of_job inside (ap (λ (x : Course). x.unit) put.same) (ap (λ (x : Course). x.range) put.same))

-- ---- a range is ended
none_reads : (id : JobId) (m : BlockMap) (source : Option (List ℕ)) (ks t : List ℕ) → ks ≡ [] → AreCopied id m source ks t
none_reads id m None ks t none = tt
none_reads id m (Some s) ks t none = λ k u among at.
    let never : Contains [] k = subst (λ (l : List ℕ). Contains l k) none among in
    absurd (omega (arith, never.1))

pub first_keeps_window : (job : CopyJob) (was : Progress) (d : Course) (a b : Disk) → IsAtFirst job d → KeepsWindow job was (Ok d) a b
first_keeps_window job was d a b first source reads = none_reads job.id job.map source d.pending _ first.pending

pub ended_fewer : (job : CopyJob) (was : Progress) (c d : Course) (r : ℕ) → was ≡ Ok c → IsSound job was → next_of job was ≡ need.Range r →
    IsCourse job d → Checks c d → IsAtFirst job d → left_of job (Ok d) < left_of job was
ended_fewer job was c d r is sound next course checks first =
    let behind : IsBehind job c = (range_next job c (course_of job was c is sound) r (need_at job was c (need.Range r) is next)).behind in
    let rise : first_of (rows_in job) (c.range + 1) ≤ first_of (rows_in job) d.range = first_rises (rows_in job) (c.range + 1) d.range (omega (arith, checks.later)) in
    subst (λ (p : Progress). left_of job (Ok d) < left_of job p) (sym is)
    (range_fewer job c (course_of job was c is sound) d behind course checks (omega (arith, rise, behind.end, first.unit)))

-- its units were taken back where it differs
none_left : (job : CopyJob) (disk : Disk) (fault : EndFault) → moves.NoneIsLeft job disk fault → NoneIsLeft job disk (of_ending fault)
none_left job disk (DeviceFault dev) none = tt
none_left job disk (RangeDiffers range want got) none = none

pub ended_cleared : (job : CopyJob) (was : Progress) (c : Course) (disk : Disk) (fault : EndFault) (given : CopyFault) → was ≡ Ok c → given ≡ of_ending fault →
    moves.NoneIsLeft job disk fault → ClearsTheRange job was disk (Err given)
ended_cleared job was c disk fault given is same none =
    subst (λ (p : Progress). ClearsTheRange job p disk (Err given)) (sym is) (subst (λ (x : CopyFault). NoneIsLeft job disk x) (sym same) (none_left job disk fault none))

-- ---- nothing is called
pub rests_near : (job : CopyJob) (was : Progress) (a : Disk) → IsSound job was → Fits job was a → StaysNear job was a a
rests_near job (Ok c) a sound fits = look_is_near job c sound.of_job fits (looked_none a)
rests_near job (Err fault) a sound fits = tt

pub rests_done : (job : CopyJob) (was : Progress) (a : Disk) → IsSound job was → next_of job was ≡ need.Done → Fits job was a → IsDone job a
rests_done job (Ok c) a sound next fits = fits_done job c a sound.of_job sound.course (done_next job c sound.course next) fits
rests_done job (Err fault) a sound next fits = let never : ⊥ = cc in absurd never
