-- A window behind a unit that was put.
use Rattle.std.proofs.Common.{◌≡◌, ℕ, ◌+◌, List, [], inl, inr, subst, sym, ap, ◌∙◌}
use Rattle.copier_course.specs.Courses.{AreMarkedIn, GoesOn, IsFull, Records, Takes}
use Rattle.sha2.specs.declared.Sha256.{Sha256}
use Rattle.copier_course.specs.declared.courses.Course.{Course}
use Rattle.copier_course.specs.declared.jobs.CopyJob.{CopyJob}
use Rattle.copier_moves.specs.Moves.{ClosesFull, IsPut, LeavesOpen, joined}

-- what is said of the window doesn't speak of the hash
goes_on_joined : (job : CopyJob) (c d : Course) (bytes : List ℕ) → Takes bytes c d → GoesOn job d → GoesOn job (joined c)
goes_on_joined job c d bytes takes on =
    let here = subst (λ (x : Course). GoesOn job x) takes.same on in
    record { few = here.few; next = here.next; behind = here.behind; within = here.within; unmarked = here.unmarked }

full_joined : (job : CopyJob) (c d : Course) (bytes : List ℕ) → Takes bytes c d → IsFull job d → IsFull job (joined c)
full_joined job c d bytes takes full = subst (λ (x : Course). IsFull job x) takes.same full

pub put_open : (job : CopyJob) (c d : Course) (bytes : List ℕ) → Takes bytes c d → GoesOn job d → IsPut job c d
put_open job c d bytes takes on = record {
  same = takes.same ∙ sym (ap (λ (x : Course). record c { units = x.units; unit = c.unit + 1; pending = x.pending; hash = d.hash }) takes.same);
  window = inl (record {
    open_on = goes_on_joined job c d bytes takes on;
    units = ap (λ (x : Course). x.units) takes.same;
    pending = ap (λ (x : Course). x.pending) takes.same;
  });
}

pub put_closed : (job : CopyJob) (c d new : Course) (bytes : List ℕ) → Takes bytes c d → IsFull job d → Records d new → IsPut job c new
put_closed job c d new bytes takes full records =
    let empty : new.pending ≡ [] = ap (λ (x : Course). x.pending) records.same in
    let hashed : new.hash ≡ d.hash = ap (λ (x : Course). x.hash) records.same in
    record {
      same = records.same
          ∙ ap (λ (x : Course). record x { units = new.units; pending = [] }) takes.same
          ∙ ap (λ (ks : List ℕ). record c { units = new.units; unit = c.unit + 1; pending = ks; hash = d.hash }) (sym empty)
          ∙ ap (λ (h : Sha256). record c { units = new.units; unit = c.unit + 1; pending = new.pending; hash = h }) (sym hashed);
      window = inr (record {
        full = full_joined job c d bytes takes full;
        units = subst (λ (x : Course). AreMarkedIn x.pending x.units new.units) takes.same records.units;
        pending = empty;
      });
    }
