-- A unit that is kept, and a range that is ended.
use Rattle.std.proofs.Common.{◌≡◌, ℕ, ◌+◌, ◌-◌, ◌<◌, ◌≤◌, min, List, [], ◌∷◌, ◌++◌, Contains, length, get_or, drop, inl, inr, refl, sym, subst, ap, ⊎_elim, ◌∙◌, arith, length-drop, length-take}
use Rattle.std.proofs.lemmas.Grind.{same_number_lists}
use Rattle.std.proofs.lemmas.Option.{slice_get-get_or, slice_get_within}
use Rattle.std.specs.Prelude.{IfSome, None, Option, Some, slice_index, slice_set}
use Rattle.base_fields.specs.declared.spans.Span.{Span}
use Rattle.bench.specs.declared.Dev.{Dev}
use Rattle.bench.specs.declared.Dev.TheVariants.{Journal, Target}
use Rattle.bench.specs.Disk.{Disk, EachPair, IsSettled, Keeps, Looked, Touches}
use Rattle.bench.proofs.DiskLemmas.{torn_at_none}
use Rattle.block_map.specs.Maps.{digest_in, part_of, range_span}
use Rattle.block_map.specs.Units.{Cut, first_of, units_by_range}
use Rattle.block_map.specs.declared.maps.BlockMap.{BlockMap}
use Rattle.block_map.specs.declared.maps.Range.{Range}
use Rattle.block_map.proofs.Index.{first_next, one_range}
use Rattle.block_map.proofs.Numbering.{unit_is as unit_of}
use Rattle.journal_format.specs.Journals.{IsMarked, IsOpenedFor, range_mark, unit_mark}
use Rattle.journal_format.specs.declared.jobs.JobId.{JobId}
use Rattle.sha2.specs.Hashers.{Holds256}
use Rattle.sha2.specs.Sha256.{sha256}
use Rattle.copy_journal.specs.Events.{AreZero}
use Rattle.copy_states.specs.Along.{Along, IsPosition, IsPositionOn, IsPresent, Position}
use Rattle.copy_states.specs.Jobs.{AreRecorded, HasFrom, IsChecked, IsInRange, IsJobOf, IsRangeAt, IsRecorded, IsUnchecked, IsUnitAt, SameIn}
use Rattle.copy_states.specs.Standing.{HasItsDigest, Since}
use Rattle.copy_states.specs.Starts.{HasMixed, IsIdle, MixedGives, Pair}
use Rattle.copy_laws.specs.Opening.{IsAtOpening}
use Rattle.copy_laws.specs.Ranges.{IsAtEnd}
use Rattle.copy_laws.specs.Steps.{passed}
use Rattle.copy_laws.specs.Writes.{UnitsTorn}
use Rattle.copy_laws.proofs.Ranges.{checked_is_along}
use Rattle.copy_laws.proofs.Steps.{kept_is_along}
use Rattle.copy_laws.proofs.UnitBytes.{in_range_below, rows_length, some_unit}
use Rattle.copy_stages.specs.Stages.{AreUnitsOf, CheckingKeepsSince, ClearingKeepsSince, MayCheck, MayClear}
use Rattle.copy_narrow.specs.Nearness.{IsSettledAlong, StaysNear}
use Rattle.copy_narrow.proofs.NearLemmas.{checking_is_near, clearing_is_near, looking_is_near, window_is_open}
use Rattle.copier_course.proofs.Positions.{all_at_end, first_within, kept_position, none_at_end}
use Rattle.copier_course.specs.Courses.{Adds, Checks, IsAtFirst, IsBehind, IsCopyJob, IsCourse, IsInside, first_in, position_of, rows_in}
use Rattle.copier_course.specs.declared.courses.Course.{Course}
use Rattle.copier_course.specs.declared.jobs.CopyJob.{CopyJob}
use Rattle.copier_moves.specs.Fitting.{IsFitting, IsHashed, KeepsMarks, bytes_before}
use Rattle.copier_moves.specs.Moves.{Differs, IsAlong, IsDifference, IsKept, IsNoDifference, MovingIsAlong, MovingIsNear, MovingKeepsSince, NoneRecorded}
use Rattle.copier_moves.proofs.MarkLemmas.{marks_checked, position_on, range_is, unit_is}
use Rattle.copier_moves.proofs.PutLemmas.{hashed_as}
use Rattle.copier_moves.proofs.UnitLemmas.{before_end, before_first, before_next}

-- ---- nothing is written
-- from each start a copier that fits stays near to it
pub look_is_near : (job : CopyJob) (c : Course) {a b : Disk} → IsCopyJob job → IsFitting job c a → Looked a b → MovingIsNear job c a b
look_is_near job c {a} {b} is fits looked s start along =
    looking_is_near looked job.id job.map (Some s) s start c.window (position_of c) c.pending (a.reads Target) is.of_map
    (window_is_open a job.id job.map (Some s) start c.window (position_of c) (record { along = along; images = fits.images; journal = fits.settled }))

-- ---- a unit is kept
module _ (job : CopyJob) (c d : Course) (is : IsCopyJob job) (course : IsCourse job c) (inside : IsInside job c) (marked : IsMarked c.units c.unit) (kept : IsKept c d) where
  its : IsInRange job.id job.map c.unit c.range
  its = record {
    there = omega (arith, rows_length job.id job.map, is.of_map.ranges, inside.there);
    from = course.position.low;
    to = inside.below;
  }

  pub kept_course : IsCourse job d
  kept_course = subst (λ (x : Course). IsCourse job x) (sym kept) (record {
    units = course.units;
    ranges = course.ranges;
    window = course.window;
    position = kept_position job.id job.map (IsMarked c.units) (IsMarked c.ranges) c.window (position_of c) course.position inside.there its marked;
  })

  module _ {a b : Disk} (fits : IsFitting job c a) (looked : Looked a b) where
    same_reads : (dev : Dev) → b.reads dev ≡ a.reads dev
    same_reads dev = ap (λ (f : Dev → List ℕ). f dev) looked.reads

    pub kept_fits : ((range : Range) (want : List ℕ) → IsRangeAt job.map c.range range → range.digest ≡ Some want →
        (u : Span) × IsUnitAt job.id job.map c.unit u × Adds (part_of u (a.reads Target)) c.hash d.hash) → IsFitting job d b
    kept_fits adds = record {
      room = omega (arith, fits.room, ap (λ (l : List ℕ). length l) (same_reads Target));
      images = λ image leaves.
          subst (λ (ks : List ℕ). UnitsTorn job.id job.map ks (b.reads Target) image) (sym (ap (λ (x : Course). x.pending) kept))
          (subst (λ (t : List ℕ). UnitsTorn job.id job.map c.pending t image) (sym (same_reads Target)) (fits.images image (looked.images Target image leaves)));
      settled = λ j leaves. fits.settled j (looked.images Journal j leaves) ∙ sym (same_reads Journal);
      opened = subst (λ (j : List ℕ). IsOpenedFor job.id j) (sym (same_reads Journal)) fits.opened;
      marks = subst (λ (j : List ℕ). KeepsMarks job.id j d) (sym (same_reads Journal)) (record {
        units = ap (λ (x : Course). x.units) kept ∙ fits.marks.units;
        ranges = ap (λ (x : Course). x.ranges) kept ∙ fits.marks.ranges;
        window = ap (λ (x : Course). x.window) kept ∙ fits.marks.window;
      });
      hashed = hashed_as job d (b.reads Target) c.range (c.unit + 1) (ap (λ (x : Course). x.range) kept) (ap (λ (x : Course). x.unit) kept) (λ range want there stated.
          let (u, at, added) = adds range want there stated in
          let next : bytes_before job c.range (c.unit + 1) (a.reads Target) ≡ bytes_before job c.range c.unit (a.reads Target) ++ part_of u (a.reads Target) = before_next job c.range c.unit u (a.reads Target) its at in
          let held : Holds256 d.hash (bytes_before job c.range c.unit (a.reads Target) ++ part_of u (a.reads Target)) = added _ (fits.hashed range want there stated) in
          let now : Holds256 d.hash (bytes_before job c.range (c.unit + 1) (a.reads Target)) = subst (λ (l : List ℕ). Holds256 d.hash l) (sym next) held in
          subst (λ (t : List ℕ). Holds256 d.hash (bytes_before job c.range (c.unit + 1) t)) (sym (same_reads Target)) now);
    }

    pub kept_along : MovingIsAlong job c d a b
    kept_along source start along =
        let recorded : IsRecorded job.id c.unit (a.reads Journal) = (unit_is job.id (a.reads Journal) c fits.opened fits.marks c.unit (in_range_below job.id job.map c.unit c.range is.of_map its)).0 marked in
        let busy : ¬ IsIdle job.id job.map start c.unit = λ idle. along.unrecorded c.unit idle (omega arith) recorded in
        let on : Along job.id job.map source start c.window (passed (position_of c)) (a.reads Target) (a.reads Journal) = kept_is_along job.id job.map source start c.window (position_of c) (a.reads Target) (a.reads Journal) along busy in
        let at_t : Along job.id job.map source start c.window (passed (position_of c)) (b.reads Target) (a.reads Journal) = subst (λ (t : List ℕ). Along job.id job.map source start c.window (passed (position_of c)) t (a.reads Journal)) (sym (same_reads Target)) on in
        let at_j : Along job.id job.map source start c.window (passed (position_of c)) (b.reads Target) (b.reads Journal) = subst (λ (j : List ℕ). Along job.id job.map source start c.window (passed (position_of c)) (b.reads Target) j) (sym (same_reads Journal)) at_t in
        let at_w : Along job.id job.map source start d.window (passed (position_of c)) (b.reads Target) (b.reads Journal) = subst (λ (w : ℕ). Along job.id job.map source start w (passed (position_of c)) (b.reads Target) (b.reads Journal)) (sym (ap (λ (x : Course). x.window) kept)) at_j in
        subst (λ (p : Position). Along job.id job.map source start d.window p (b.reads Target) (b.reads Journal)) (sym (ap (λ (x : Course). position_of x) kept)) at_w

-- ---- a range is ended
-- what reads as a part of an image that has it all is all there
all_there : (u : Span) (from image : List ℕ) → u.at + u.len ≤ length image → 0 < u.len → SameIn u from image → u.at + u.len ≤ length from
all_there u from image inside filled same =
    let one : length (part_of u image) ≡ min u.len (length image - u.at) = length-take u.len (drop u.at image) ∙ ap (λ (n : ℕ). min u.len n) (length-drop u.at image) in
    let other : length (part_of u from) ≡ min u.len (length from - u.at) = length-take u.len (drop u.at from) ∙ ap (λ (n : ℕ). min u.len n) (length-drop u.at from) in
    let size : length (part_of u image) ≡ length (part_of u from) = ap (λ (l : List ℕ). length l) same in
    omega (arith, one, other, size, inside, filled)

module _ (job : CopyJob) (c : Course) (is : IsCopyJob job) (course : IsCourse job c) (behind : IsBehind job c) (a : Disk) (fits : IsFitting job c a) where
  row_there : c.range < length (rows_in job)
  row_there = omega (arith, rows_length job.id job.map, is.of_map.ranges, behind.there)

  pub none_pending : c.pending ≡ []
  none_pending = empty c.pending (none_at_end job.id job.map (IsMarked c.units) (IsMarked c.ranges) c.window (position_of c) course.position behind.there behind.end)
    where
      empty : (ks : List ℕ) → length ks ≡ 0 → ks ≡ []
      empty [] none = refl
      empty (k ∷ ks) none = absurd (omega (arith, none))

  pub target_settled : IsSettled a Target
  target_settled image leaves = none_torn c.pending none_pending (fits.images image leaves)
    where
      none_torn : (ks : List ℕ) → ks ≡ [] → UnitsTorn job.id job.map ks (a.reads Target) image → image ≡ a.reads Target
      none_torn ks none torn = same_number_lists image (a.reads Target) torn.size (λ o below. torn.same o (λ byte. let among : Contains [] byte.0 = subst (λ (l : List ℕ). Contains l byte.0) none byte.2 in absurd (omega (arith, among.1))))

  all_recorded : (j : List ℕ) → a.leaves Journal j → AreRecorded job.id job.map c.range j
  all_recorded j leaves k mine =
      subst (λ (x : List ℕ). IsRecorded job.id k x) (sym (fits.settled j leaves))
      ((unit_is job.id (a.reads Journal) c fits.opened fits.marks k (in_range_below job.id job.map k c.range is.of_map mine)).0
      (all_at_end job.id job.map (IsMarked c.units) (IsMarked c.ranges) c.window (position_of c) course.position behind.there behind.end k mine))

  not_checked : (j : List ℕ) → a.leaves Journal j → ¬ IsChecked job.id c.range j
  not_checked j leaves checked =
      course.position.present.unchecked behind.there ((range_is job.id (a.reads Journal) c fits.opened fits.marks c.range behind.there).1 (subst (λ (x : List ℕ). IsChecked job.id c.range x) (fits.settled j leaves) checked))

  -- the range's bytes are hashed
  pub all_hashed : (range : Range) (want : List ℕ) → IsRangeAt job.map c.range range → range.digest ≡ Some want → Holds256 c.hash (part_of (range_span job.map range) (a.reads Target))
  all_hashed range want at stated =
      let below : c.range < length job.map.ranges = slice_get_within job.map.ranges c.range range at in
      let whole : bytes_before job c.range (first_in job (c.range + 1)) (a.reads Target) ≡ part_of (range_span job.map range) (a.reads Target) = before_end job c.range range (a.reads Target) is at row_there below in
      subst (λ (l : List ℕ). Holds256 c.hash l) (ap (λ (k : ℕ). bytes_before job c.range k (a.reads Target)) behind.end ∙ whole) (fits.hashed range want at stated)

  at_end : IsAtEnd job.id job.map (position_of c)
  at_end = record { there = behind.there; end = behind.end }

  on_journal : IsPositionOn job.id job.map (a.reads Journal) c.window (position_of c)
  on_journal = position_on job c (a.reads Journal) is course fits.opened fits.marks

  settled_along : (source : Option (List ℕ)) (start : Pair) → IsAlong job source start c a → IsSettledAlong job.id job.map source start c.window (position_of c) a
  settled_along source start along = record { along = along; position = on_journal; target = target_settled; journal = fits.settled }

  -- ---- it has its digest, or none
  module _ (right : IsNoDifference job c) where
    has_digest : (range : Range) → IsRangeAt job.map c.range range → HasItsDigest job.map (a.reads Target) range
    has_digest range at = by_digest range.digest refl
      where
        by_digest : (digest : Option (List ℕ)) → range.digest ≡ digest → HasItsDigest job.map (a.reads Target) range
        by_digest None none = subst (λ (x : Option (List ℕ)). IfSome x (λ d. d ≡ digest_in job.map (a.reads Target) range)) (sym none) tt
        by_digest (Some want) stated = subst (λ (x : Option (List ℕ)). IfSome x (λ d. d ≡ digest_in job.map (a.reads Target) range)) (sym stated) (right range want (part_of (range_span job.map range) (a.reads Target)) at stated (all_hashed range want at stated))

    may_check : EachPair a (MayCheck job.id job.map c.range)
    may_check t j pair = record {
      digest = λ range at. subst (λ (x : List ℕ). HasItsDigest job.map x range) (sym (target_settled t pair.0)) (has_digest range at);
      recorded = all_recorded j pair.1;
    }

    module _ (b : Disk) (touches : Touches Journal (range_mark job.id c.range) 1 a b) where
      pub check_keeps_since : CheckingKeepsSince job.id c.range a b → MovingKeepsSince job a b
      check_keeps_since keeps source before = keeps job.map source before is.of_map may_check

      pub check_is_near : MovingIsNear job c a b
      check_is_near s start along = checking_is_near touches job.map (Some s) s start c.window (position_of c) is.of_map (settled_along (Some s) start along) refl behind.there

      module _ (d : Course) (now : IsCourse job d) (first : IsAtFirst job d) (checks : Checks c d) (marked : IsMarked (b.reads Journal) (range_mark job.id c.range)) (journal : IsSettled b Journal) (still : IsOpenedFor job.id (b.reads Journal)) where
        same_target : b.reads Target ≡ a.reads Target
        same_target = touches.changes.other_reads

        pub checked_fits : IsFitting job d b
        checked_fits = record {
          room = omega (arith, fits.room, ap (λ (l : List ℕ). length l) same_target);
          images = λ image leaves. subst (λ (x : List ℕ). UnitsTorn job.id job.map d.pending (b.reads Target) x) (sym (target_settled image (touches.changes.other_images image leaves) ∙ sym same_target)) (torn_at_none _ (b.reads Target));
          settled = journal;
          opened = still;
          marks = marks_checked job.id (a.reads Journal) (b.reads Journal) c.range c d fits.opened still fits.marks course.ranges behind.there touches.reads marked checks.units checks.ranges checks.window;
          hashed = hashed_as job d (b.reads Target) d.range (first_in job d.range) refl first.unit (λ range want at stated. subst (λ (l : List ℕ). Holds256 d.hash l) (sym (before_first job d.range (b.reads Target))) first.hash);
        }

        present_now : IsPresent (λ r. IsChecked job.id r (b.reads Journal)) job.id.ranges d.range
        present_now = (position_on job d (b.reads Journal) is now still checked_fits.marks).present

        pub checked_along : MovingIsAlong job c d a b
        checked_along source start along =
            let at_a : Along job.id job.map source start c.window (position_of d) (a.reads Target) (b.reads Journal) =
            checked_is_along job.id job.map source start c.window (position_of c) (position_of d) (a.reads Target) (a.reads Journal) (b.reads Journal) is.of_map along on_journal at_end none_pending touches.reads (record { opened = still; mark = marked }) (record { present = present_now; unit = first.unit; window = first.pending }) in
            let at_t : Along job.id job.map source start c.window (position_of d) (b.reads Target) (b.reads Journal) =
            subst (λ (t : List ℕ). Along job.id job.map source start c.window (position_of d) t (b.reads Journal)) (sym same_target) at_a in
            subst (λ (w : ℕ). Along job.id job.map source start w (position_of d) (b.reads Target) (b.reads Journal)) (sym checks.window) at_t

  -- ---- it has another
  module _ (want got : List ℕ) (differs : IsDifference job c want got) where
    its_units : (first count : ℕ) → first ≡ first_in job c.range → count ≡ length (get_or (rows_in job) c.range []) → AreUnitsOf job.id job.map c.range first count
    its_units first count from many = record { there = behind.there; from = omega (arith, from); to = omega (arith, from, many) }

    may_clear : EachPair a (MayClear job.id job.map c.range)
    may_clear t j pair = record { recorded = all_recorded j pair.1; unchecked = not_checked j pair.1 }

    pub got_is : (range : Range) → IsRangeAt job.map c.range range → got ≡ digest_in job.map (a.reads Target) range
    got_is range at = differs.computed (part_of (range_span job.map range) (a.reads Target)) (all_hashed range want at (differs.stated range at))

    -- what the target reads there is Mixed
    mixed : (s : List ℕ) (start : Pair) → IsAlong job (Some s) start c a → HasMixed job.id job.map s start c.range (a.reads Target)
    mixed s start along = record {
      kept = λ k u mine at recorded.
          let unit = unit_of job.map job.id.unit k u is.of_map.map (some_unit job.id job.map is.of_map) at in
          let same : SameIn u start.target (a.reads Target) = along.others k (in_range_below job.id job.map k c.range is.of_map mine) (λ idle. idle.unrecorded recorded) u at in
          record { there = all_there u start.target (a.reads Target) (omega (arith, fits.room, unit.end)) unit.filled same; same = same };
      written = λ k u mine at unrecorded.
          let unchecked : IsUnchecked job.id job.map k start.journal = λ r other checked.
          let same : r ≡ c.range = one_range (rows_in job) k r c.range other mine in
          let at_start : IsChecked job.id c.range start.journal = subst (λ (n : ℕ). IsChecked job.id n start.journal) same checked in
          on_journal.present.unchecked behind.there ((along.behind c.range (omega arith) behind.there).1 at_start) in
          let idle : IsIdle job.id job.map start k = record { there = in_range_below job.id job.map k c.range is.of_map mine; unrecorded = unrecorded; unchecked = unchecked } in
          along.copied k u idle (omega (arith, mine.to, behind.end)) at;
    }

    module _ (b : Disk) (first count : ℕ) (from : first ≡ first_in job c.range) (many : count ≡ length (get_or (rows_in job) c.range [])) (touches : Touches Journal (unit_mark first) count a b) where
      pub clear_keeps_since : ClearingKeepsSince job.id first count a b → MovingKeepsSince job a b
      clear_keeps_since keeps source before = keeps job.map source before c.range is.of_map (its_units first count from many) may_clear

      pub clear_is_near : (range : Range) → IsRangeAt job.map c.range range → MovingIsNear job c a b
      clear_is_near range at s start along =
          let gives : MixedGives job.id job.map s start c.range want got = record {
            range = range;
            image = a.reads Target;
            is = at;
            stated = differs.stated range at;
            mixed = mixed s start along;
            computed = got_is range at;
          } in
          clearing_is_near touches job.map (Some s) s start c.window (position_of c) want got is.of_map (settled_along (Some s) start along) (its_units first count from many) gives differs.differs

      pub none_is_left : AreZero (unit_mark first) count (b.reads Journal) → IsSettled b Journal → (j : List ℕ) → b.leaves Journal j → NoneRecorded job c.range j
      none_is_left zero settled j leaves = record {
        units = λ k mine recorded.
            let low : first ≤ k = omega (arith, from, mine.from) in
            let next : first_in job (c.range + 1) ≡ first_in job c.range + length (get_or (rows_in job) c.range []) = first_next (rows_in job) c.range [] row_there in
            let none : slice_index (b.reads Journal) (unit_mark k) ≡ 0 = zero (unit_mark k) (omega (arith, low)) (omega (arith, from, many, next, mine.to)) in
            let here : slice_index (b.reads Journal) (unit_mark k) ≡ 0x44 = subst (λ (x : List ℕ). slice_index x (unit_mark k) ≡ 0x44) (settled j leaves) recorded.mark in
            absurd (omega (arith, none, here));
        range = λ checked.
            let here : IsChecked job.id c.range (b.reads Journal) = subst (λ (x : List ℕ). IsChecked job.id c.range x) (settled j leaves) checked in
            let next : first_in job (c.range + 1) ≡ first_in job c.range + length (get_or (rows_in job) c.range []) = first_next (rows_in job) c.range [] row_there in
            let within : first_in job (c.range + 1) ≤ job.id.units = first_within job.id job.map (c.range + 1) is.of_map (omega (arith, behind.there)) in
            let same : slice_index (b.reads Journal) (range_mark job.id c.range) ≡ slice_index (a.reads Journal) (range_mark job.id c.range) = touches.reads.above (range_mark job.id c.range) (omega (arith, from, many, next, within)) in
            course.position.present.unchecked behind.there ((range_is job.id (a.reads Journal) c fits.opened fits.marks c.range behind.there).1 (record { opened = fits.opened; mark = sym same ∙ here.mark }));
      }

-- ---- by the units of the job
pub rows_inside : (job : CopyJob) (r : ℕ) → IsCopyJob job → r < job.id.ranges → r < length job.units.rows
rows_inside job r is there =
    let same : length job.units.rows ≡ length (rows_in job) = ap (λ (x : Cut). length x.rows) is.cut in
    omega (arith, same, rows_length job.id job.map, is.of_map.ranges, there)

pub first_is : (job : CopyJob) (r first : ℕ) → IsCopyJob job → first ≡ first_of job.units.rows r → first ≡ first_in job r
first_is job r first is from = from ∙ ap (λ (x : Cut). first_of x.rows r) is.cut

pub count_is : (job : CopyJob) (r count : ℕ) → IsCopyJob job → count ≡ length (get_or job.units.rows r []) → count ≡ length (get_or (rows_in job) r [])
count_is job r count is many = many ∙ ap (λ (x : Cut). length (get_or x.rows r [])) is.cut

pub range_there : (job : CopyJob) (r : ℕ) → r < length job.map.ranges → (range : Range) × IsRangeAt job.map r range
range_there job r below =
    let none : Range = record { first = 0; last = 0; digest = None } in
    (get_or job.map.ranges r none, slice_get-get_or job.map.ranges r none below)

-- ---- a hash that is taken out
pub course_rehashed : (job : CopyJob) (c d : Course) → d ≡ record c { hash = d.hash } → IsCourse job c → IsCourse job d
course_rehashed job c d same course = subst (λ (x : Course). IsCourse job x) (sym same) (record { units = course.units; ranges = course.ranges; window = course.window; position = course.position })

pub behind_rehashed : (job : CopyJob) (c d : Course) → d ≡ record c { hash = d.hash } → IsBehind job c → IsBehind job d
behind_rehashed job c d same behind = subst (λ (x : Course). IsBehind job x) (sym same) (record { there = behind.there; end = behind.end })

pub checks_rehashed : (c d e : Course) → d ≡ record c { hash = d.hash } → Checks d e → Checks c e
checks_rehashed c d e same checks = record {
  later = subst (λ (n : ℕ). n < e.range) (ap (λ (x : Course). x.range) same) checks.later;
  units = checks.units ∙ ap (λ (x : Course). x.units) same;
  ranges = checks.ranges ∙ ap (λ (x : Course). slice_set x.ranges x.range 0x44) same;
  window = checks.window ∙ ap (λ (x : Course). x.window) same;
}

pub no_difference_of : (job : CopyJob) (c : Course) (answer : Option (List ℕ × List ℕ)) → answer ≡ None → Differs job c answer → IsNoDifference job c
no_difference_of job c answer none differs = subst (λ (x : Option (List ℕ × List ℕ)). Differs job c x) none differs
