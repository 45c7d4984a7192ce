-- A unit that is read and put: what its step keeps and tells, by the answer of the put or by the refusal of the read.
use Rattle.std.proofs.Common.{◌≡◌, ℕ, ◌+◌, ◌<◌, ◌≤◌, List, length, refl, subst, sym, ◌∙◌, arith}
use Rattle.std.specs.Prelude.{Err, IfErr, IsOk, Ok, Option, Result}
use Rattle.base_fields.specs.declared.spans.Span.{Span}
use Rattle.bench.specs.declared.Dev.{Dev}
use Rattle.bench.specs.Disk.{Disk}
use Rattle.bench.specs.Meter.{Costs, Meter}
use Rattle.outside.specs.Counts.{Counts}
use Rattle.outside.specs.Files.{Tree}
use Rattle.outside.specs.Reading.{span_of}
use Rattle.outside.specs.declared.reading.FillFault.{FillFault}
use Rattle.block_map.specs.Units.{units_in}
use Rattle.copy_states.specs.Jobs.{IsUnitAt}
use Rattle.copier_course.specs.Courses.{need_of}
use Rattle.copier_course.specs.declared.courses.Course.{Course}
use Rattle.copier_course.specs.declared.jobs.CopyJob.{CopyJob}
use Rattle.copier_course.specs.declared.jobs.Need.{Need}
use Rattle.copier_course.specs.declared.jobs.Need.TheVariants as need
use Rattle.copier_moves.proofs.PutLemmas.{inside_below, number_inside}
use Rattle.copier.proofs.NeedLemmas.{unit_next}
use Rattle.copier.proofs.SourceLemmas.{one_span, sources_read}
use Rattle.copier.specs.Copiers.{IsSound, Progress, next_of}
use Rattle.copier.specs.Faults.{IsPutFault, IsReadFault}
use Rattle.copier.specs.Runs.{ClearsTheRange, HasKeepCause, HasStepCause, PutGoesAlong, PutKeepsSince, PutKeepsWindow, ShowsDone, StepGoesAlong, StepKeepsSince, StepKeepsWindow}
use Rattle.copier.specs.Steps.{CostsFor, GoesTo, IsForNext, IsForUnit, IsUnitNeed, ReadsInto, ReadsSource, TellsSource}
use Rattle.copier.specs.declared.faults.CopyFault.{CopyFault}
use Rattle.copier.specs.declared.faults.CopyFault.TheVariants.{TargetTooSmall, JournalHeld, NoJournal, JournalForeign, SourceShort, Missing, FileFault, DeviceFault, RangeDiffers, NoMemory}
use Rattle.copier.specs.declared.steps.Step.{Step}
use Rattle.copier.specs.declared.steps.Step.TheVariants as did

-- ---- the unit that is next
pub unit_inside : (job : CopyJob) (was : Progress) (k : ℕ) → IsSound job was → next_of job was ≡ need.Unit k → k < length (units_in job.units)
unit_inside job (Ok c) k sound next =
    let it = unit_next job c sound.course k next in
    subst (λ (n : ℕ). n < length (units_in job.units)) it.number (number_inside job c.unit sound.of_job (inside_below job c sound.of_job sound.course it.inside))
unit_inside job (Err fault) k sound next = let never : ⊥ = cc in absurd never

its_need : (job : CopyJob) (c : Course) (k : ℕ) → IsSound job (Ok c) → need_of job c ≡ need.Unit k → need_of job c ≡ need.Unit c.unit
its_need job c k sound next = let it = unit_next job c sound.course k next in subst (λ (n : ℕ). need_of job c ≡ need.Unit n) (sym it.number) next

-- ---- the put, by its own clauses
module _ (job : CopyJob) (told : Type 0) (file : Option (List ℕ)) (was : Progress) (k : ℕ) (u : Span) (got : List ℕ) (at : IsUnitAt job.id job.map k u) (some : 0 < u.len) (read : told → span_of file u.at u.len ≡ Ok got) where
  pub copied_since : (a b : Disk) → PutKeepsSince job was k got a b → StepKeepsSince told file job was a b
  copied_since a b keeps source before is reads = keeps source before reads (sources_read job told file source k u got at some read is)

  pub copied_window : (now : Progress) (a b : Disk) → PutKeepsWindow job was now k got a b → StepKeepsWindow told file job was now a b
  copied_window now a b keeps source is reads = keeps source reads (sources_read job told file source k u got at some read is)

  pub copied_along : (now : Progress) (a b : Disk) → PutGoesAlong job was now k got a b → StepGoesAlong told file job was now a b
  copied_along now a b goes source start is along = goes source start along (sources_read job told file source k u got at some read is)

pub copied_next : (job : CopyJob) (was : Progress) (k : ℕ) (answer : Result Step CopyFault) → next_of job was ≡ need.Unit k → IsForUnit k answer → IsForNext job was answer
copied_next job was k (Ok (did.Unit x)) next is = let same : k ≡ x = cc in subst (λ (n : ℕ). next_of job was ≡ need.Unit n) same next
copied_next job was k (Ok (did.Kept x)) next is = let never : ⊥ = cc in absurd never
copied_next job was k (Ok (did.Range x)) next is = let never : ⊥ = cc in absurd never
copied_next job was k (Ok did.Done) next is = let never : ⊥ = cc in absurd never
copied_next job was k (Err fault) next is = tt

pub copied_done : (job : CopyJob) (disk : Disk) (k : ℕ) (answer : Result Step CopyFault) → IsForUnit k answer → ShowsDone job disk answer
copied_done job disk k (Ok (did.Unit x)) is = tt
copied_done job disk k (Ok (did.Kept x)) is = tt
copied_done job disk k (Ok (did.Range x)) is = tt
copied_done job disk k (Ok did.Done) is = let never : ⊥ = cc in absurd never
copied_done job disk k (Err fault) is = tt

-- a put is refused by a device alone
put_refusal : (old new : Meter) (P : CopyFault → Type 0) (fault : CopyFault) → ((dev : Dev) → P (DeviceFault dev)) → IsPutFault old new fault → P fault
put_refusal old new P (TargetTooSmall has needs) each cause = absurd cause
put_refusal old new P (JournalHeld kept finished) each cause = absurd cause
put_refusal old new P NoJournal each cause = absurd cause
put_refusal old new P (JournalForeign kept given len) each cause = absurd cause
put_refusal old new P (SourceShort at) each cause = absurd cause
put_refusal old new P Missing each cause = absurd cause
put_refusal old new P FileFault each cause = absurd cause
put_refusal old new P (DeviceFault dev) each cause = each dev
put_refusal old new P (RangeDiffers range want got) each cause = absurd cause
put_refusal old new P NoMemory each cause = absurd cause

pub copied_cleared : (job : CopyJob) (was : Progress) (disk : Disk) (old new : Meter) (answer : Result Step CopyFault) → IfErr answer (IsPutFault old new) → ClearsTheRange job was disk answer
copied_cleared job (Ok c) disk old new (Ok step) cause = tt
copied_cleared job (Err kept) disk old new (Ok step) cause = tt
copied_cleared job (Ok c) disk old new (Err fault) cause = put_refusal old new (λ (x : CopyFault). ClearsTheRange job (Ok c) disk (Err x)) fault (λ dev. tt) cause
copied_cleared job (Err kept) disk old new (Err fault) cause = tt

pub copied_tells : (wanted : Result (List ℕ) FillFault) (got : List ℕ) (old new : Meter) (answer : Result Step CopyFault) → wanted ≡ Ok got → IfErr answer (IsPutFault old new) → TellsSource wanted answer
copied_tells wanted got old new (Ok step) is cause = subst (λ (r : Result (List ℕ) FillFault). IsOk r) (sym is) refl
copied_tells wanted got old new (Err fault) is cause = put_refusal old new (λ (x : CopyFault). TellsSource wanted (Err x)) fault (λ dev. subst (λ (r : Result (List ℕ) FillFault). IsOk r) (sym is) refl) cause

device_cause : (told : Type 0) (job : CopyJob) (c : Course) (disk : Disk) (before after : Counts) (old new : Meter) (fault : CopyFault) → IsPutFault old new fault → HasStepCause told job (Ok c) disk before after old new (Err fault)
device_cause told job c disk before after old new (TargetTooSmall has needs) cause = absurd cause
device_cause told job c disk before after old new (JournalHeld kept finished) cause = absurd cause
device_cause told job c disk before after old new NoJournal cause = absurd cause
device_cause told job c disk before after old new (JournalForeign kept given len) cause = absurd cause
device_cause told job c disk before after old new (SourceShort at) cause = absurd cause
device_cause told job c disk before after old new Missing cause = absurd cause
device_cause told job c disk before after old new FileFault cause = absurd cause
device_cause told job c disk before after old new (DeviceFault dev) cause = cause
device_cause told job c disk before after old new (RangeDiffers range want got) cause = absurd cause
device_cause told job c disk before after old new NoMemory cause = absurd cause

pub copied_cause : (told : Type 0) (job : CopyJob) (was : Progress) (disk : Disk) (before after : Counts) (old new : Meter) (answer : Result Step CopyFault) → IfErr answer (IsPutFault old new) → HasStepCause told job was disk before after old new answer
copied_cause told job (Ok c) disk before after old new (Ok step) cause = tt
copied_cause told job (Err kept) disk before after old new (Ok step) cause = tt
copied_cause told job (Ok c) disk before after old new (Err fault) cause = device_cause told job c disk before after old new fault cause
copied_cause told job (Err kept) disk before after old new (Err fault) cause = tt

pub unit_costs : (job : CopyJob) (n : Need) (k most : ℕ) (u : Span) (answer : Result Step CopyFault) (old new : Meter) → n ≡ need.Unit k → IsUnitAt job.id job.map k u → most ≤ 1024 + u.len →
    Costs most old new → CostsFor job n answer old new
unit_costs job n k most u answer old new is at within costs =
    subst (λ (x : Need). CostsFor job x answer old new) (sym is) (λ v other.
    let one : u ≡ v = one_span job.id job.map k u v at other in
    subst (λ (x : Span). Costs (1024 + x.len) old new) one (record {
      target = costs.target;
      journal = costs.journal;
      no_less = costs.no_less;
      work = omega (arith, costs.work, within);
      room = costs.room;
      sure = costs.sure;
    }))

pub no_costs : (meter : Meter) → Costs 0 meter meter
no_costs meter = record { target = omega arith; journal = omega arith; no_less = omega arith; work = omega arith; room = refl; sure = refl }

-- what is told of the unit's span is told of each that has its number
pub reads_source : (file : Tree) (job : CopyJob) (was : Progress) (k : ℕ) (u : Span) (answer : Result Step CopyFault) → next_of job was ≡ need.Unit k → IsUnitAt job.id job.map k u →
    TellsSource (span_of (file job.source) u.at u.len) answer → ReadsSource file job was answer
reads_source file job was k u answer next at tells x v next_too at_too =
    let same : x ≡ k = one_number (sym next_too ∙ next) in
    let one : u ≡ v = one_span job.id job.map k u v at (subst (λ (n : ℕ). IsUnitAt job.id job.map n v) same at_too) in
    subst (λ (y : Span). TellsSource (span_of (file job.source) y.at y.len) answer) one tells
  where
    one_number : need.Unit x ≡ need.Unit k → x ≡ k
    one_number is = cc

-- ---- the read, by its refusal
read_cause : (told : Type 0) (job : CopyJob) (c : Course) (disk : Disk) (before after : Counts) (old new : Meter) (fault : CopyFault) → need_of job c ≡ need.Unit c.unit → IsReadFault before after fault →
    HasStepCause told job (Ok c) disk before after old new (Err fault)
read_cause told job c disk before after old new (TargetTooSmall has needs) is cause = absurd cause
read_cause told job c disk before after old new (JournalHeld kept finished) is cause = absurd cause
read_cause told job c disk before after old new NoJournal is cause = absurd cause
read_cause told job c disk before after old new (JournalForeign kept given len) is cause = absurd cause
read_cause told job c disk before after old new (SourceShort at) is cause = (is, cause)
read_cause told job c disk before after old new Missing is cause = (is, cause)
read_cause told job c disk before after old new FileFault is cause = (is, cause)
read_cause told job c disk before after old new (DeviceFault dev) is cause = absurd cause
read_cause told job c disk before after old new (RangeDiffers range want got) is cause = absurd cause
read_cause told job c disk before after old new NoMemory is cause = absurd cause

pub refused_cause : (told : Type 0) (job : CopyJob) (was : Progress) (disk : Disk) (before after : Counts) (old new : Meter) (fault : CopyFault) (k : ℕ) → IsSound job was → next_of job was ≡ need.Unit k →
    IsReadFault before after fault → HasStepCause told job was disk before after old new (Err fault)
refused_cause told job (Ok c) disk before after old new fault k sound next cause = read_cause told job c disk before after old new fault (its_need job c k sound next) cause
refused_cause told job (Err kept) disk before after old new fault k sound next cause = tt

read_clears : (job : CopyJob) (c : Course) (disk : Disk) (before after : Counts) (fault : CopyFault) → IsReadFault before after fault → ClearsTheRange job (Ok c) disk (Err fault)
read_clears job c disk before after (TargetTooSmall has needs) cause = absurd cause
read_clears job c disk before after (JournalHeld kept finished) cause = absurd cause
read_clears job c disk before after NoJournal cause = absurd cause
read_clears job c disk before after (JournalForeign kept given len) cause = absurd cause
read_clears job c disk before after (SourceShort at) cause = tt
read_clears job c disk before after Missing cause = tt
read_clears job c disk before after FileFault cause = tt
read_clears job c disk before after (DeviceFault dev) cause = absurd cause
read_clears job c disk before after (RangeDiffers range want got) cause = absurd cause
read_clears job c disk before after NoMemory cause = absurd cause

pub refused_cleared : (job : CopyJob) (was : Progress) (disk : Disk) (before after : Counts) (fault : CopyFault) → IsReadFault before after fault → ClearsTheRange job was disk (Err fault)
refused_cleared job (Ok c) disk before after fault cause = read_clears job c disk before after fault cause
refused_cleared job (Err kept) disk before after fault cause = tt

pub refused_tells : (wanted : Result (List ℕ) FillFault) (got : List ℕ) (fault : CopyFault) → ReadsInto wanted got (Err fault) → TellsSource wanted (Err fault)
refused_tells wanted got (TargetTooSmall has needs) read = read
refused_tells wanted got (JournalHeld kept finished) read = read
refused_tells wanted got NoJournal read = read
refused_tells wanted got (JournalForeign kept given len) read = read
refused_tells wanted got (SourceShort at) read = read
refused_tells wanted got Missing read = read
refused_tells wanted got FileFault read = read
refused_tells wanted got (DeviceFault dev) read = absurd read
refused_tells wanted got (RangeDiffers range want other) read = read
refused_tells wanted got NoMemory read = read

its_refusal : (job : CopyJob) (was : Progress) (k : ℕ) (fault : CopyFault) → next_of job was ≡ need.Unit k → GoesTo job was (Err fault) (Err fault)
its_refusal job (Ok c) k fault next = refl
its_refusal job (Err kept) k fault next = let never : ⊥ = cc in absurd never

pub refused_goes : (job : CopyJob) (was now : Progress) (k : ℕ) (fault given : CopyFault) → next_of job was ≡ need.Unit k → now ≡ Err fault → given ≡ fault → GoesTo job was now (Err given)
refused_goes job was now k fault given next kept same =
    subst (λ (p : Progress). GoesTo job was p (Err given)) (sym kept) (subst (λ (x : CopyFault). GoesTo job was (Err fault) (Err x)) (sym same) (its_refusal job was k fault next))

-- ---- a step that reads nothing, by the clauses of `keep_next`
pub no_unit : (n : Need) → ((k : ℕ) → n ≡ need.Unit k → ⊥) → IsUnitNeed n → ⊥
no_unit (need.Unit k) other is = other k refl
no_unit (need.Kept k) other is = is
no_unit (need.Range r) other is = is
no_unit need.Done other is = is
no_unit need.Failed other is = is

pub kept_cause : (told : Type 0) (job : CopyJob) (was : Progress) (disk : Disk) (before after : Counts) (old new : Meter) (answer : Result Step CopyFault) → HasKeepCause told job was disk old new answer →
    HasStepCause told job was disk before after old new answer
kept_cause told job (Ok c) disk before after old new (Ok step) cause = tt
kept_cause told job (Err kept) disk before after old new (Ok step) cause = tt
kept_cause told job (Err kept) disk before after old new (Err fault) cause = tt
kept_cause told job (Ok c) disk before after old new (Err fault) cause = keep_cause told job c disk before after old new fault cause
  where
    keep_cause : (told : Type 0) (job : CopyJob) (c : Course) (disk : Disk) (before after : Counts) (old new : Meter) (fault : CopyFault) → HasKeepCause told job (Ok c) disk old new (Err fault) →
        HasStepCause told job (Ok c) disk before after old new (Err fault)
    keep_cause told job c disk before after old new (TargetTooSmall has needs) cause = cause
    keep_cause told job c disk before after old new (JournalHeld kept finished) cause = cause
    keep_cause told job c disk before after old new NoJournal cause = cause
    keep_cause told job c disk before after old new (JournalForeign kept given len) cause = cause
    keep_cause told job c disk before after old new (SourceShort at) cause = absurd cause
    keep_cause told job c disk before after old new Missing cause = absurd cause
    keep_cause told job c disk before after old new FileFault cause = absurd cause
    keep_cause told job c disk before after old new (DeviceFault dev) cause = cause
    keep_cause told job c disk before after old new (RangeDiffers range want got) cause = cause
    keep_cause told job c disk before after old new NoMemory cause = cause
