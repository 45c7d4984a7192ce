-- A unit that is put: its write, and the closing of its window.
use Rattle.std.proofs.Common.{◌≡◌, ℕ, ◌+◌, ◌^◌, ◌<◌, ◌≤◌, List, [], ◌∷◌, ◌++◌, Contains, length, get_or, inl, inr, refl, sym, subst, ap, ⊎_elim, ◌∙◌, arith, length-append}
use Rattle.std.proofs.lemmas.Option.{get_or_from_slice_get}
use Rattle.std.proofs.lemmas.List.Elements.{All-contains, Contains-append_left, Contains-append_right, Contains-get_or, Contains-push, Contains-push_cases}
use Rattle.std.specs.List.Sorted.{IsStrictlyIncreasing}
use Rattle.std.specs.Prelude.{All, IfSome, None, Option, Some, slice_get, slice_index}
use Rattle.base_fields.specs.Fields.{written}
use Rattle.base_fields.specs.Numbers.{IsBetween}
use Rattle.base_fields.specs.declared.spans.Span.{Span}
use Rattle.bench.specs.declared.Dev.TheVariants.{Journal, Target}
use Rattle.bench.specs.Disk.{Disk, EachPair, IsPair, IsSettled, Keeps, TornAt, Touches}
use Rattle.bench.proofs.DiskLemmas.{keeps_then, runs_then, torn_at_none, torn_at_so, torn_at_then, torn_within}
use Rattle.block_map.specs.Maps.{part_of}
use Rattle.block_map.specs.Units.{Cut, units_in, units_of}
use Rattle.block_map.specs.declared.maps.BlockMap.{BlockMap}
use Rattle.block_map.specs.declared.maps.Range.{Range}
use Rattle.block_map.proofs.Index.{one_range}
use Rattle.journal_format.specs.Journals.{IsMarked, IsOpenedFor, IsWindow, unit_mark}
use Rattle.journal_format.specs.declared.jobs.JobId.{JobId}
use Rattle.sha2.specs.Hashers.{Holds256}
use Rattle.sha2.specs.declared.Sha256.{Sha256}
use Rattle.copy_states.specs.Along.{Along, IsPosition, IsPositionOn, Position}
use Rattle.copy_states.specs.Jobs.{HasFrom, IsChecked, IsInRange, IsRangeAt, IsRecorded, IsUnitAt, SameIn}
use Rattle.copy_states.specs.Standing.{Since}
use Rattle.copy_states.specs.Starts.{IsIdle, Pair}
use Rattle.copy_laws.specs.Marks.{AreCopied, MarksTorn}
use Rattle.copy_laws.specs.Narrowing.{AreOpen}
use Rattle.copy_laws.specs.Steps.{IsWritten, closed, joined_window, taken}
use Rattle.copy_laws.specs.Writes.{IsByteIn, NoneIsChecked, NoneIsRecorded, UnitsTorn}
use Rattle.copy_laws.proofs.Marks.{contains_or_not}
use Rattle.copy_laws.proofs.Steps.{closed_is_along, taken_is_along}
use Rattle.copy_laws.proofs.UnitBytes.{in_range_below, other_unit, rows_length}
use Rattle.copy_laws.proofs.Writes.{one_unit_torn, source_kept}
use Rattle.copy_stages.specs.Stages.{AreBytesOf, Closes, ClosingKeepsSince, MayWrite, WritingKeepsSince}
use Rattle.copy_narrow.specs.Nearness.{IsOpenAlong, IsWindowAlong, StaysNear}
use Rattle.copy_narrow.specs.Written.{AreFrom, IsToWrite}
use Rattle.copy_narrow.proofs.NearLemmas.{closing_is_near, window_takes_unit, writing_is_near, writing_stays_open}
use Rattle.copy_narrow.proofs.WrittenLemmas.{writes_are_written}
use Rattle.copier_course.proofs.Positions.{closed_position, joined_ascends, joined_open, taken_position}
use Rattle.copier_course.specs.Courses.{AreMarkedIn, GoesOn, IsCopyJob, IsCourse, IsInside, Records, Takes, first_in, position_of, rows_in}
use Rattle.copier_course.specs.declared.courses.Course.{Course}
use Rattle.copier_course.specs.declared.jobs.CopyJob.{CopyJob}
use Rattle.copier_moves.specs.Fitting.{IsFitting, IsHashed, KeepsMarks, bytes_before}
use Rattle.copier_moves.specs.Moves.{AreSources, IsAlong, MovingIsNear, PuttingIsAlong, PuttingKeepsCopied, PuttingKeepsSince, WindowIsCopied}
use Rattle.copier_moves.proofs.MarkLemmas.{marks_recorded, position_on, range_is, unit_is}
use Rattle.copier_moves.proofs.UnitLemmas.{before_kept, before_next, written_reads}

-- a unit is to be put: the present one, which isn't recorded, and these are its bytes
pub record IsPutting (job : CopyJob) (c : Course) (u : Span) (bytes : List ℕ) : Type 0 where
  pub of_job : IsCopyJob job
  pub course : IsCourse job c
  pub inside : IsInside job c
  pub unmarked : ¬ IsMarked c.units c.unit
  pub is : IsUnitAt job.id job.map c.unit u
  pub whole : length bytes ≡ u.len
  pub end : u.at + u.len ≤ job.map.size

-- by the units of the job
pub number_inside : (job : CopyJob) (k : ℕ) → IsCopyJob job → k < job.id.units → k < length (units_in job.units)
number_inside job k is below =
    let same : length (units_in job.units) ≡ length (units_of job.map job.id.unit) = ap (λ (x : Cut). length (units_in x)) is.cut in
    omega (arith, same, is.of_map.units)

pub putting_of : (job : CopyJob) (c : Course) (u : Span) (bytes : List ℕ) → IsCopyJob job → IsCourse job c → IsInside job c → (¬ IsMarked c.units c.unit) →
    slice_get (units_in job.units) c.unit ≡ Some u → u.at + u.len ≤ job.units.size →
    ((v : Span) → IsUnitAt job.id job.map c.unit v → length bytes ≡ v.len) → IsPutting job c u bytes
putting_of job c u bytes is course inside unmarked at end whole =
    let unit : IsUnitAt job.id job.map c.unit u = subst (λ (x : Cut). slice_get (units_in x) c.unit ≡ Some u) is.cut at in
    record {
      of_job = is;
      course = course;
      inside = inside;
      unmarked = unmarked;
      is = unit;
      whole = whole u unit;
      end = subst (λ (x : Cut). u.at + u.len ≤ x.size) is.cut end;
    }

-- a unit inside a range is one of the job's
pub inside_below : (job : CopyJob) (c : Course) → IsCopyJob job → IsCourse job c → IsInside job c → c.unit < job.id.units
inside_below job c is course inside = in_range_below job.id job.map c.unit c.range is.of_map (record {
  there = omega (arith, rows_length job.id job.map, is.of_map.ranges, inside.there);
  from = course.position.low;
  to = inside.below;
})

-- the list of one number has that one alone
pub only : (n k : ℕ) → Contains (n ∷ []) k → n ≡ k
only n k among = ⊎_elim (λ none. absurd (omega (arith, none.1))) (λ same. same) (Contains-push_cases [] n k among)

-- two images that are torn from one are torn from each other
torn_each : {places : ℕ → Type 0} {t a b : List ℕ} → TornAt places t a → TornAt places t b → TornAt places a b
torn_each {places} {t} {a} {b} first second = record {
  size = second.size ∙ sym first.size;
  same = λ k none. second.same k none ∙ sym (first.same k none);
}

-- the units of one list are among those of another
wider : (id : JobId) (m : BlockMap) (units more t new : List ℕ) → UnitsTorn id m units t new → ((k : ℕ) → Contains units k → Contains more k) → UnitsTorn id m more t new
wider id m units more t new torn each = torn_at_so torn (λ o byte. (byte.0, byte.1, each byte.0 byte.2, byte.3, byte.4))

-- a number has one unit
one_span : (id : JobId) (m : BlockMap) (k : ℕ) (u v : Span) → IsUnitAt id m k u → IsUnitAt id m k v → u ≡ v
one_span id m k u v is other = sym (get_or_from_slice_get (units_of m id.unit) k u u is) ∙ get_or_from_slice_get (units_of m id.unit) k v u other

-- the hash by the range and the unit
pub hashed_as : (job : CopyJob) (d : Course) (t : List ℕ) (r k : ℕ) → d.range ≡ r → d.unit ≡ k →
    ((range : Range) (want : List ℕ) → IsRangeAt job.map r range → range.digest ≡ Some want → Holds256 d.hash (bytes_before job r k t)) → IsHashed job d t
hashed_as job d t r k same_range same_unit holds range want at stated =
    let here : Holds256 d.hash (bytes_before job r k t) = holds range want (subst (λ (n : ℕ). IsRangeAt job.map n range) same_range at) stated in
    let by_unit : Holds256 d.hash (bytes_before job r d.unit t) = subst (λ (n : ℕ). Holds256 d.hash (bytes_before job r n t)) (sym same_unit) here in
    subst (λ (n : ℕ). Holds256 d.hash (bytes_before job n d.unit t)) (sym same_range) by_unit

module _ (job : CopyJob) (c : Course) (u : Span) (bytes : List ℕ) (putting : IsPutting job c u bytes) where
  pub mine : IsInRange job.id job.map c.unit c.range
  mine = record {
    there = omega (arith, rows_length job.id job.map, putting.of_job.of_map.ranges, putting.inside.there);
    from = putting.course.position.low;
    to = putting.inside.below;
  }

  its_number : c.unit < job.id.units
  its_number = in_range_below job.id job.map c.unit c.range putting.of_job.of_map mine

  -- the window with the unit: its numbers are of the range, and none is marked
  pub joined : All (λ k. IsInRange job.id job.map k c.range × (k < c.unit + 1) × (¬ IsMarked c.units k)) (joined_window (position_of c))
  joined = joined_open job.id job.map (IsMarked c.units) (IsMarked c.ranges) c.window (position_of c) putting.course.position putting.inside.there mine putting.unmarked

  pub joined_at : (k : ℕ) → Contains (joined_window (position_of c)) k → IsInRange job.id job.map k c.range × (k < c.unit + 1) × (¬ IsMarked c.units k)
  joined_at k among = All-contains (λ x. IsInRange job.id job.map x c.range × (x < c.unit + 1) × (¬ IsMarked c.units x)) (joined_window (position_of c)) k joined among

  pub joined_below : All (λ k. k < job.id.units) (joined_window (position_of c))
  joined_below i d below = in_range_below job.id job.map _ c.range putting.of_job.of_map (joined i d below).0

  -- a unit of the window stands before the present one
  is_pending : (k : ℕ) → Contains c.pending k → IsInRange job.id job.map k c.range × (k < c.unit) × (¬ IsMarked c.units k)
  is_pending k among = All-contains (λ x. IsInRange job.id job.map x c.range × (x < c.unit) × (¬ IsMarked c.units x)) c.pending k putting.course.position.window among

  pub joined_few : IsBetween 1 16 (length (joined_window (position_of c)))
  joined_few = (omega (arith, length-append c.pending (c.unit ∷ [])), omega (arith, length-append c.pending (c.unit ∷ []), putting.course.position.few, putting.course.window.1))

  pub joined_rises : IsStrictlyIncreasing (joined_window (position_of c))
  joined_rises k below = joined_ascends job.id job.map (IsMarked c.units) (IsMarked c.ranges) c.window (position_of c) putting.course.position putting.inside.there k (k + 1) 0 (omega arith) below

  -- ---- once the unit has joined the window
  pub room_for_one : length c.pending < 16
  room_for_one = omega (arith, putting.course.position.few, putting.course.window.1)

  pub unit_small : c.unit < 2 ^ 32
  unit_small = omega (arith, its_number, putting.of_job.limits.units)

  module _ (d : Course) (takes : Takes bytes c d) where
    pub taken_there : d.range < job.id.ranges
    taken_there = subst (λ (r : ℕ). r < job.id.ranges) (sym (ap (λ (x : Course). x.range) takes.same)) putting.inside.there

    pub taken_units : length d.units ≡ job.id.units
    taken_units = ap (λ (x : Course). length x.units) takes.same ∙ putting.course.units

    pub taken_high : d.unit ≤ first_in job (d.range + 1)
    taken_high = subst (λ (r : ℕ). d.unit ≤ first_in job (r + 1)) (sym (ap (λ (x : Course). x.range) takes.same)) (omega (arith, ap (λ (x : Course). x.unit) takes.same, putting.inside.below))

    pub pending_is : d.pending ≡ joined_window (position_of c)
    pending_is = ap (λ (x : Course). x.pending) takes.same

    pub pending_few : IsBetween 1 16 (length d.pending)
    pending_few = subst (λ (ks : List ℕ). IsBetween 1 16 (length ks)) (sym pending_is) joined_few

    pub pending_rises : IsStrictlyIncreasing d.pending
    pending_rises = subst IsStrictlyIncreasing (sym pending_is) joined_rises

    pub pending_inside : All (λ k. k < job.id.units) d.pending
    pending_inside = subst (λ (ks : List ℕ). All (λ k. k < job.id.units) ks) (sym pending_is) joined_below

    pub pending_marked : All (λ k. k < length d.units) d.pending
    pending_marked i e below = subst (λ (n : ℕ). get_or d.pending i e < n) (sym taken_units) (pending_inside i e below)

    at_taken : position_of d ≡ taken (position_of c)
    at_taken = ap (λ (x : Course). position_of x) takes.same

    units_before : d.units ≡ c.units
    units_before = ap (λ (x : Course). x.units) takes.same

    -- the window stays open
    module _ (on : GoesOn job d) where
      room_left : length c.pending + 1 < c.window
      room_left = omega (arith, on.few, ap (λ (x : Course). length x.pending) takes.same, ap (λ (x : Course). x.window) takes.same, length-append c.pending (c.unit ∷ []))

      next_mine : IsInRange job.id job.map on.next c.range
      next_mine = record {
        there = mine.there;
        from = omega (arith, mine.from, on.behind, ap (λ (x : Course). x.unit) takes.same);
        to = subst (λ (r : ℕ). on.next < first_in job (r + 1)) (ap (λ (x : Course). x.range) takes.same) on.within;
      }

      next_unmarked : ¬ IsMarked c.units on.next
      next_unmarked = subst (λ (l : List ℕ). ¬ IsMarked l on.next) (ap (λ (x : Course). x.units) takes.same) on.unmarked

      taken_at : IsPosition job.id job.map (IsMarked c.units) (IsMarked c.ranges) c.window (taken (position_of c))
      taken_at = taken_position job.id job.map (IsMarked c.units) (IsMarked c.ranges) c.window (position_of c) putting.course.position putting.inside.there mine putting.unmarked room_left on.next next_mine (omega (arith, on.behind, ap (λ (x : Course). x.unit) takes.same)) next_unmarked

      pub taken_course : IsCourse job d
      taken_course = subst (λ (x : Course). IsCourse job x) (sym takes.same) (record {
        units = putting.course.units;
        ranges = putting.course.ranges;
        window = putting.course.window;
        position = taken_at;
      })

    -- the window is recorded
    module _ (f : Course) (records : Records d f) where
      at_closed : position_of f ≡ closed (position_of c)
      at_closed =
          ap (λ (x : Course). position_of x) records.same
          ∙ ap (λ (x : Course). position_of (record x { pending = [] })) takes.same

      still_marked : (k : ℕ) → IsMarked c.units k → IsMarked f.units k
      still_marked k is = elim (contains_or_not d.pending k) [
        | inl among ↦ records.units.marked k among
        | inr out ↦ records.units.others k out ∙ ap (λ (l : List ℕ). slice_index l k) units_before ∙ is
      ]

      closed_at : IsPosition job.id job.map (IsMarked f.units) (IsMarked c.ranges) c.window (closed (position_of c))
      closed_at = closed_position job.id job.map (IsMarked c.units) (IsMarked c.ranges) c.window (position_of c) putting.course.position putting.inside.there mine (IsMarked f.units) still_marked (λ k among. records.units.marked k (subst (λ (ks : List ℕ). Contains ks k) (sym pending_is) among))

      same_ranges : f.ranges ≡ c.ranges
      same_ranges = ap (λ (x : Course). x.ranges) records.same ∙ ap (λ (x : Course). x.ranges) takes.same

      same_window : f.window ≡ c.window
      same_window = ap (λ (x : Course). x.window) records.same ∙ ap (λ (x : Course). x.window) takes.same

      pub recorded_course : IsCourse job f
      recorded_course = record {
        units = records.units.size ∙ ap (λ (l : List ℕ). length l) units_before ∙ putting.course.units;
        ranges = ap (λ (l : List ℕ). length l) same_ranges ∙ putting.course.ranges;
        window = subst IsWindow (sym same_window) putting.course.window;
        position =
            subst (λ (p : Position). IsPosition job.id job.map (IsMarked f.units) (IsMarked f.ranges) f.window p) (sym at_closed)
            (subst (λ (w : ℕ). IsPosition job.id job.map (IsMarked f.units) (IsMarked f.ranges) w (closed (position_of c))) (sym same_window)
            (subst (λ (l : List ℕ). IsPosition job.id job.map (IsMarked f.units) (IsMarked l) c.window (closed (position_of c))) (sym same_ranges) closed_at));
      }

      none_pending : f.pending ≡ []
      none_pending = ap (λ (x : Course). x.pending) records.same

  module _ (a : Disk) (fits : IsFitting job c a) where
    -- no image has it recorded, or its range checked
    pub unchecked : (k : ℕ) → IsInRange job.id job.map k c.range → (j : List ℕ) → a.leaves Journal j → (r : ℕ) → IsInRange job.id job.map k r → ¬ IsChecked job.id r j
    unchecked k its j leaves r other checked =
        let same : r ≡ c.range = one_range (rows_in job) k r c.range other its in
        let here : IsChecked job.id c.range (a.reads Journal) = subst (λ (n : ℕ). IsChecked job.id n (a.reads Journal)) same (subst (λ (x : List ℕ). IsChecked job.id r x) (fits.settled j leaves) checked) in
        putting.course.position.present.unchecked putting.inside.there ((range_is job.id (a.reads Journal) c fits.opened fits.marks c.range putting.inside.there).1 here)

    pub unrecorded : (k : ℕ) → k < job.id.units → (¬ IsMarked c.units k) → (j : List ℕ) → a.leaves Journal j → ¬ IsRecorded job.id k j
    unrecorded k below unmarked j leaves recorded =
        unmarked ((unit_is job.id (a.reads Journal) c fits.opened fits.marks k below).1 (subst (λ (x : List ℕ). IsRecorded job.id k x) (fits.settled j leaves) recorded))

    may_write : EachPair a (MayWrite job.id job.map c.unit)
    may_write t j pair = record {
      unrecorded = λ k among. let same : c.unit ≡ k = only c.unit k among in subst (λ (n : ℕ). ¬ IsRecorded job.id n j) same (unrecorded c.unit (in_range_below job.id job.map c.unit c.range putting.of_job.of_map mine) putting.unmarked j pair.1);
      unchecked = λ k among. let same : c.unit ≡ k = only c.unit k among in subst (λ (n : ℕ). (r : ℕ) → IsInRange job.id job.map n r → ¬ IsChecked job.id r j) same (unchecked c.unit mine j pair.1);
    }

    its_bytes : AreBytesOf job.id job.map c.unit u.at (length bytes)
    its_bytes = record { span = u; is = putting.is; from = omega arith; to = omega (arith, putting.whole) }

    -- ---- after the write
    module _ (b : Disk) (touches : Touches Target u.at (length bytes) a b) where
      pub write_keeps_since : WritingKeepsSince u.at (length bytes) a b → (source : Option (List ℕ)) (before : List ℕ) → Keeps (Since job.id job.map source before) a b
      write_keeps_since keeps source before = keeps job.id job.map source before c.unit putting.of_job.of_map its_bytes may_write

      pub unit_torn : UnitsTorn job.id job.map (c.unit ∷ []) (a.reads Target) (b.reads Target)
      unit_torn = one_unit_torn job.id job.map (c.unit ∷ []) c.unit _ _ (0, omega arith, refl) (record {
        span = u;
        is = putting.is;
        torn = torn_within u.at u.len touches.reads (omega arith) (omega (arith, putting.whole));
      })

      same_journal : b.reads Journal ≡ a.reads Journal
      same_journal = touches.changes.other_reads

      -- ---- near to the start
      module _ (source : Option (List ℕ)) (start : Pair) (along : IsAlong job source start c a) where
        idle : IsIdle job.id job.map start c.unit
        idle = record {
          there = its_number;
          unrecorded = λ is. putting.unmarked ((unit_is job.id (a.reads Journal) c fits.opened fits.marks c.unit its_number).1 (along.kept c.unit its_number is));
          unchecked = λ r other is.
              let same : r ≡ c.range = one_range (rows_in job) c.unit r c.range other mine in
              let here : IsChecked job.id c.range (a.reads Journal) = (along.behind c.range (omega arith) putting.inside.there).1 (subst (λ (n : ℕ). IsChecked job.id n start.journal) same is) in
              putting.course.position.present.unchecked putting.inside.there ((range_is job.id (a.reads Journal) c fits.opened fits.marks c.range putting.inside.there).1 here);
        }

        open_before : IsOpenAlong job.id job.map source start c.window (position_of c) (joined_window (position_of c)) (a.reads Target) a
        open_before = window_takes_unit a job.id job.map source start c.window (position_of c) (record { along = along; images = fits.images; journal = fits.settled }) idle

        pub write_is_near : (s : List ℕ) → StaysNear job.id job.map s start c.window a b
        write_is_near s = writing_is_near touches job.id job.map source s start c.window (position_of c) (joined_window (position_of c)) (a.reads Target) c.unit putting.of_job.of_map open_before (Contains-push c.pending c.unit) its_bytes

        pub open_after : IsOpenAlong job.id job.map source start c.window (position_of c) (joined_window (position_of c)) (a.reads Target) b
        open_after = writing_stays_open touches job.id job.map source start c.window (position_of c) (joined_window (position_of c)) (a.reads Target) c.unit putting.of_job.of_map open_before (Contains-push c.pending c.unit) its_bytes

        pub all_open : AreOpen job.id job.map start (position_of c) (joined_window (position_of c))
        all_open k among = ⊎_elim (λ there. inl there) (λ same. inr (sym same, subst (λ (n : ℕ). IsIdle job.id job.map start n) same idle)) (Contains-push_cases c.pending c.unit k among)

      module _ (wrote : b.reads Target ≡ written (a.reads Target) u.at bytes) (d : Course) (takes : Takes bytes c d) where
        reads_bytes : part_of u (b.reads Target) ≡ bytes
        reads_bytes = ap (λ (l : List ℕ). part_of u l) wrote ∙ written_reads u (a.reads Target) bytes putting.whole (omega (arith, putting.end, fits.room))

        -- ---- it fits again
        images_torn : (image : List ℕ) → b.leaves Target image → UnitsTorn job.id job.map (joined_window (position_of c)) (b.reads Target) image
        images_torn image leaves =
            let (old, (was, torn)) = touches.changes.images image leaves in
            let unit : UnitsTorn job.id job.map (joined_window (position_of c)) old image = one_unit_torn job.id job.map (joined_window (position_of c)) c.unit old image (Contains-push c.pending c.unit) (record { span = u; is = putting.is; torn = torn_within u.at u.len torn (omega arith) (omega (arith, putting.whole)) }) in
            torn_each (wider job.id job.map (c.unit ∷ []) (joined_window (position_of c)) (a.reads Target) (b.reads Target) unit_torn (λ k among. Contains-append_right c.pending (c.unit ∷ []) k among))
            (torn_at_then (wider job.id job.map c.pending (joined_window (position_of c)) (a.reads Target) old (fits.images old was) (λ k among. Contains-append_left c.pending (c.unit ∷ []) k among)) unit)

        same_marks : KeepsMarks job.id (a.reads Journal) d
        same_marks = record {
          units = ap (λ (x : Course). x.units) takes.same ∙ fits.marks.units;
          ranges = ap (λ (x : Course). x.ranges) takes.same ∙ fits.marks.ranges;
          window = ap (λ (x : Course). x.window) takes.same ∙ fits.marks.window;
        }

        before_same : bytes_before job c.range c.unit (b.reads Target) ≡ bytes_before job c.range c.unit (a.reads Target)
        before_same = before_kept job c.range c.unit (c.unit ∷ []) (a.reads Target) (b.reads Target) putting.of_job mine.there unit_torn (λ x low high among. let same : c.unit ≡ x = only c.unit x among in omega (arith, same, high))

        before_more : bytes_before job c.range (c.unit + 1) (b.reads Target) ≡ bytes_before job c.range c.unit (a.reads Target) ++ bytes
        before_more = before_next job c.range c.unit u (b.reads Target) mine putting.is ∙ ap (λ (l : List ℕ). l ++ part_of u (b.reads Target)) before_same ∙ ap (λ (l : List ℕ). bytes_before job c.range c.unit (a.reads Target) ++ l) reads_bytes

        pub taken_fits : IsFitting job d b
        taken_fits = record {
          room = omega (arith, fits.room, touches.reads.size);
          images = λ image leaves. subst (λ (ks : List ℕ). UnitsTorn job.id job.map ks (b.reads Target) image) (sym (ap (λ (x : Course). x.pending) takes.same)) (images_torn image leaves);
          settled = λ j leaves. fits.settled j (touches.changes.other_images j leaves) ∙ sym same_journal;
          opened = subst (λ (j : List ℕ). IsOpenedFor job.id j) (sym same_journal) fits.opened;
          marks = subst (λ (j : List ℕ). KeepsMarks job.id j d) (sym same_journal) same_marks;
          hashed = hashed_as job d (b.reads Target) c.range (c.unit + 1) (ap (λ (x : Course). x.range) takes.same) (ap (λ (x : Course). x.unit) takes.same) (λ range want at stated.
              subst (λ (l : List ℕ). Holds256 d.hash l) (sym before_more) (takes.hash (bytes_before job c.range c.unit (a.reads Target)) (fits.hashed range want at stated)));
        }

        -- ---- the window reads as the source's bytes
        joined_copied : (source : Option (List ℕ)) → WindowIsCopied job source c a → AreSources job source c.unit bytes → AreCopied job.id job.map source (joined_window (position_of c)) (b.reads Target)
        joined_copied None copied sources = tt
        joined_copied (Some s) copied sources = λ k v among at. elim (Contains-push_cases c.pending c.unit k among) [
          | inl there ↦
              let from : HasFrom v s (a.reads Target) = copied k v there at in
              let less : k < c.unit = (is_pending k there).1 in
              record { there = from.there; same = other_unit job.id job.map (c.unit ∷ []) k v (a.reads Target) (b.reads Target) putting.of_job.of_map unit_torn at (λ its. let same : c.unit ≡ k = only c.unit k its in omega (arith, same, less)) ∙ from.same }
          | inr same ↦
              let its : IsUnitAt job.id job.map c.unit v = subst (λ (n : ℕ). IsUnitAt job.id job.map n v) (sym same) at in
              let from : AreFrom u s bytes = sources u putting.is in
              let reads : HasFrom u s (b.reads Target) = record { there = from.there; same = reads_bytes ∙ from.same } in
              subst (λ (x : Span). HasFrom x s (b.reads Target)) (one_span job.id job.map c.unit u v putting.is its) reads
        ]

        pub taken_copied : PuttingKeepsCopied job bytes c d a b
        taken_copied source copied sources =
            subst (λ (ks : List ℕ). AreCopied job.id job.map source ks (b.reads Target)) (sym (ap (λ (x : Course). x.pending) takes.same)) (joined_copied source copied sources)

        pub is_written : (source : Option (List ℕ)) (start : Pair) → IsAlong job source start c a → AreSources job source c.unit bytes → IsWritten job.id job.map source start (position_of c) (a.reads Target) (b.reads Target)
        is_written source start along sources = writes_are_written a b job.id job.map source start (position_of c) u bytes (record {
          idle = idle source start along;
          mine = mine;
          is = putting.is;
          whole = putting.whole;
          inside = omega (arith, putting.end, fits.room);
          copied = source_kept source (λ s. (v : Span) → IsUnitAt job.id job.map c.unit v → AreFrom v s bytes) (λ s. AreFrom u s bytes) (λ s from. from u putting.is) sources;
        }) touches wrote

        -- ---- the window stays open
        module _ (on : GoesOn job d) where
          pub taken_along : PuttingIsAlong job bytes c d a b
          taken_along source start along sources =
              let at_c : Along job.id job.map source start c.window (taken (position_of c)) (b.reads Target) (a.reads Journal) =
              taken_is_along job.id job.map source start c.window (position_of c) (a.reads Target) (b.reads Target) (a.reads Journal) putting.of_job.of_map along (room_left d takes on) (is_written source start along sources) in
              let at_w : Along job.id job.map source start d.window (taken (position_of c)) (b.reads Target) (a.reads Journal) =
              subst (λ (w : ℕ). Along job.id job.map source start w (taken (position_of c)) (b.reads Target) (a.reads Journal)) (sym (ap (λ (x : Course). x.window) takes.same)) at_c in
              let at_d : Along job.id job.map source start d.window (position_of d) (b.reads Target) (a.reads Journal) =
              subst (λ (p : Position). Along job.id job.map source start d.window p (b.reads Target) (a.reads Journal)) (sym (at_taken d takes)) at_w in
              subst (λ (j : List ℕ). Along job.id job.map source start d.window (position_of d) (b.reads Target) j) (sym same_journal) at_d

        -- ---- the window is closed
        module _ (e : Disk) (closes : Closes d.pending b e) where
          joined_is : d.pending ≡ joined_window (position_of c)
          joined_is = ap (λ (x : Course). x.pending) takes.same

          none_checked : (j : List ℕ) → b.leaves Journal j → NoneIsChecked job.id job.map d.pending j
          none_checked j leaves k among = unchecked k (joined_at k (subst (λ (ks : List ℕ). Contains ks k) joined_is among)).0 j (touches.changes.other_images j leaves)

          pub close_keeps_since : ClosingKeepsSince job.id d.pending b e → (source : Option (List ℕ)) (before : List ℕ) → WindowIsCopied job source c a → AreSources job source c.unit bytes → Keeps (Since job.id job.map source before) b e
          close_keeps_since keeps source before copied sources =
              keeps job.map source before putting.of_job.of_map (taken_copied source copied sources) none_checked

          pub close_is_near : (source : Option (List ℕ)) (start : Pair) → IsAlong job source start c a → (s : List ℕ) → StaysNear job.id job.map s start c.window b e
          close_is_near source start along s =
              let all : AreOpen job.id job.map start (position_of c) d.pending = subst (λ (ks : List ℕ). AreOpen job.id job.map start (position_of c) ks) (sym joined_is) (all_open source start along) in
              closing_is_near closes job.map source s start c.window (position_of c) (joined_window (position_of c)) (a.reads Target) putting.of_job.of_map (open_after source start along) all

          module _ (f : Course) (records : Records d f) (marked : All (λ k. IsMarked (e.reads Journal) (unit_mark k)) d.pending) (target : IsSettled e Target) (journal : IsSettled e Journal) (still : IsOpenedFor job.id (e.reads Journal)) where
            marked_at : (k : ℕ) → Contains d.pending k → IsMarked (e.reads Journal) (unit_mark k)
            marked_at k among = All-contains (λ x. IsMarked (e.reads Journal) (unit_mark x)) d.pending k marked among

            pending_below : (k : ℕ) → Contains d.pending k → k < job.id.units
            pending_below k among = in_range_below job.id job.map k c.range putting.of_job.of_map (joined_at k (subst (λ (ks : List ℕ). Contains ks k) joined_is among)).0

            pub recorded_fits : IsFitting job f e
            recorded_fits = record {
              room = subst (λ (l : List ℕ). job.map.size ≤ length l) (sym closes.target) taken_fits.room;
              images = λ image leaves. subst (λ (x : List ℕ). UnitsTorn job.id job.map f.pending (e.reads Target) x) (sym (target image leaves)) (torn_at_none _ (e.reads Target));
              settled = journal;
              opened = still;
              marks = marks_recorded job.id (b.reads Journal) (e.reads Journal) d.pending d f still taken_fits.marks (ap (λ (l : List ℕ). length l) (units_before d takes) ∙ putting.course.units) closes.journal marked_at pending_below
                  records.units (ap (λ (x : Course). x.ranges) records.same) (ap (λ (x : Course). x.window) records.same) taken_fits.opened.held;
              hashed = hashed_as job f (e.reads Target) d.range d.unit (ap (λ (x : Course). x.range) records.same) (ap (λ (x : Course). x.unit) records.same) (λ range want at stated.
                  let held : Holds256 d.hash (bytes_before job d.range d.unit (b.reads Target)) = taken_fits.hashed range want at stated in
                  let same : Holds256 f.hash (bytes_before job d.range d.unit (b.reads Target)) = subst (λ (h : Sha256). Holds256 h (bytes_before job d.range d.unit (b.reads Target))) (sym (ap (λ (x : Course). x.hash) records.same)) held in
                  subst (λ (l : List ℕ). Holds256 f.hash (bytes_before job d.range d.unit l)) (sym closes.target) same);
            }

            pub recorded_copied : PuttingKeepsCopied job bytes c f a e
            recorded_copied source copied sources =
                subst (λ (ks : List ℕ). AreCopied job.id job.map source ks (e.reads Target)) (sym (none_pending d takes f records)) (none_copied source)
              where
                none_copied : (source : Option (List ℕ)) → AreCopied job.id job.map source [] (e.reads Target)
                none_copied None = tt
                none_copied (Some s) = λ k v among at. absurd (omega (arith, among.1))

            pub recorded_along : PuttingIsAlong job bytes c f a e
            recorded_along source start along sources =
                let torn : MarksTorn (joined_window (position_of c)) (a.reads Journal) (e.reads Journal) =
                subst (λ (ks : List ℕ). MarksTorn ks (a.reads Journal) (e.reads Journal)) joined_is (subst (λ (j : List ℕ). MarksTorn d.pending j (e.reads Journal)) same_journal closes.journal) in
                let at_b : Along job.id job.map source start c.window (closed (position_of c)) (b.reads Target) (e.reads Journal) =
                closed_is_along job.id job.map source start c.window (position_of c) (a.reads Target) (b.reads Target) (a.reads Journal) (e.reads Journal) putting.of_job.of_map along (is_written source start along sources) torn
                (λ k among. record { opened = still; mark = marked_at k (subst (λ (ks : List ℕ). Contains ks k) (sym joined_is) among) }) in
                let at_e : Along job.id job.map source start c.window (closed (position_of c)) (e.reads Target) (e.reads Journal) =
                subst (λ (t : List ℕ). Along job.id job.map source start c.window (closed (position_of c)) t (e.reads Journal)) (sym closes.target) at_b in
                let at_w : Along job.id job.map source start f.window (closed (position_of c)) (e.reads Target) (e.reads Journal) =
                subst (λ (w : ℕ). Along job.id job.map source start w (closed (position_of c)) (e.reads Target) (e.reads Journal)) (sym (same_window d takes f records)) at_e in
                subst (λ (p : Position). Along job.id job.map source start f.window p (e.reads Target) (e.reads Journal)) (sym (at_closed d takes f records)) at_w
