-- A copier that was opened, by what its opening gave.
use Rattle.std.proofs.Common.{◌≡◌, ℕ, ◌+◌, ◌≤◌, List, [], length, drop, sym, subst, ap, ◌∙◌, arith, length-drop}
use Rattle.std.proofs.lemmas.List.{length-take-le}
use Rattle.bench.proofs.DiskLemmas.{torn_at_none}
use Rattle.bench.specs.declared.Dev.TheVariants.{Journal, Target}
use Rattle.bench.specs.Disk.{Disk, IsSettled}
use Rattle.journal_format.specs.Journals.{IsOpenedFor, IsWindow}
use Rattle.sha2.specs.Hashers.{Holds256}
use Rattle.copy_journal.specs.Events.{AreMarks}
use Rattle.copy_journal.specs.declared.marks.Marks.{Marks}
use Rattle.copy_laws.proofs.Opening.{opening_is_along}
use Rattle.copy_laws.specs.Opening.{IsAtOpening, SameMarks}
use Rattle.copy_laws.specs.Writes.{UnitsTorn}
use Rattle.copy_opening.specs.Openings.{Opens, start_of}
use Rattle.copy_states.specs.Along.{Along, IsPositionOn}
use Rattle.copier_course.specs.Courses.{HasMarks, IsAtFirst, IsCopyJob, IsCourse, position_of}
use Rattle.copier_course.specs.declared.courses.Course.{Course}
use Rattle.copier_course.specs.declared.jobs.CopyJob.{CopyJob}
use Rattle.copier_moves.proofs.MarkLemmas.{position_on, window_is}
use Rattle.copier_moves.proofs.UnitLemmas.{before_first}
use Rattle.copier_moves.specs.Fitting.{IsFitting, KeepsMarks, bytes_before}
use Rattle.copier.specs.Beginnings.{StartsAlong}

-- the marks of a journal that is opened for a job are as many as its units and ranges
pub units_long : (job : CopyJob) (j : List ℕ) (marks : Marks) → IsOpenedFor job.id j → AreMarks job.id j marks → length marks.units ≡ job.id.units
units_long job j marks opened are =
    ap (λ (l : List ℕ). length l) are.units ∙ length-take-le job.id.units (drop 80 j) (omega (arith, length-drop 80 j, opened.long))

pub ranges_long : (job : CopyJob) (j : List ℕ) (marks : Marks) → IsOpenedFor job.id j → AreMarks job.id j marks → length marks.ranges ≡ job.id.ranges
ranges_long job j marks opened are =
    ap (λ (l : List ℕ). length l) are.ranges ∙ length-take-le job.id.ranges (drop (80 + job.id.units) j) (omega (arith, length-drop (80 + job.id.units) j, opened.long))

-- so the copier's are those of the journal
pub keeps_marks : (job : CopyJob) (j units ranges : List ℕ) (w : ℕ) (marks : Marks) (c : Course) → IsOpenedFor job.id j → AreMarks job.id j marks →
    HasMarks units ranges w c → (length marks.units ≡ job.id.units → units ≡ marks.units) →
    (length marks.ranges ≡ job.id.ranges → ranges ≡ marks.ranges) → (IsWindow marks.window → w ≡ marks.window) → KeepsMarks job.id j c
keeps_marks job j units ranges w marks c opened are has same_units same_ranges same_window =
    let window : IsWindow marks.window = subst IsWindow (sym are.window) (window_is j opened.held) in
    record {
      units = has.units ∙ same_units (units_long job j marks opened are) ∙ are.units;
      ranges = has.ranges ∙ same_ranges (ranges_long job j marks opened are) ∙ are.ranges;
      window = has.window ∙ same_window window ∙ are.window;
    }

-- it fits its devices
pub opened_fits : (job : CopyJob) (c : Course) (a b : Disk) → IsAtFirst job c → Opens job.id a b → job.map.size ≤ length (a.reads Target) →
    IsSettled b Target → IsSettled b Journal → IsOpenedFor job.id (b.reads Journal) → KeepsMarks job.id (b.reads Journal) c → IsFitting job c b
opened_fits job c a b first opens room target journal opened keeps = record {
  room = omega (arith, room, ap (λ (l : List ℕ). length l) opens.target);
  images = λ image leaves. subst (λ (t : List ℕ). UnitsTorn job.id job.map c.pending (b.reads Target) t) (sym (target image leaves)) (torn_at_none _ (b.reads Target));
  settled = journal;
  opened = opened;
  marks = keeps;
  hashed = λ range want there stated.
      let none : bytes_before job c.range c.unit (b.reads Target) ≡ [] = ap (λ (k : ℕ). bytes_before job c.range k (b.reads Target)) first.unit ∙ before_first job c.range (b.reads Target) in
      subst (λ (l : List ℕ). Holds256 c.hash l) (sym none) first.hash;
}

-- and is along for the pair that they read at the opening
pub opened_along : (job : CopyJob) (c : Course) (a b : Disk) → IsCopyJob job → IsCourse job c → IsAtFirst job c → Opens job.id a b →
    SameMarks job.id (a.reads Journal) (b.reads Journal) → IsOpenedFor job.id (b.reads Journal) → KeepsMarks job.id (b.reads Journal) c → StartsAlong job c a b
opened_along job c a b is course first opens same opened keeps source =
    let position : IsPositionOn job.id job.map (b.reads Journal) c.window (position_of c) = position_on job c (b.reads Journal) is course opened keeps in
    let at : IsAtOpening job.id job.map (position_of c) (b.reads Journal) = record { present = position.present; unit = first.unit; window = first.pending } in
    let along = opening_is_along job.id job.map source (start_of a) c.window (position_of c) (b.reads Journal) is.of_map (omega (arith, course.window.0)) same at in
    subst (λ (t : List ℕ). Along job.id job.map source (start_of a) c.window (position_of c) t (b.reads Journal)) (sym opens.target) along
