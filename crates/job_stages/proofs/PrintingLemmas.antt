-- Lines behind lines.
use Rattle.std.proofs.Common.{◌≡◌, ◌∙◌, ◌+◌, ℕ, List, [], ◌∷◌, ◌++◌, Option, Result, Ok, Err, OnOk, OnErr, length, take, refl, subst, sym, ap}
use Rattle.std.proofs.Math.Seq.{take-append-add}
use Rattle.outside.specs.Counts.{Rose}
use Rattle.outside.specs.Printer.{added}
use Rattle.job_stages.specs.Printing.{FrontsJoin, LinesJoin, Prints, PrintsFront, all_added}

pub lines_join : LinesJoin
lines_join lines [] b = refl
lines_join lines (line ∷ a) b = lines_join (added lines line) a b

pub fronts_join : FrontsJoin
fronts_join a b before between now all front = record {
  printed = length a + front.printed;
  same =
      front.same ∙ ap (λ (lines : Option (List (List ℕ))). all_added lines (take front.printed b)) all
      ∙ sym (lines_join before a (take front.printed b))
      ∙ ap (all_added before) (sym (take-append-add a b front.printed));
}

-- one call of a printer prints its one line, or none of it
pub one_printed : {E : Type 0} (line : List ℕ) (before now : Option (List (List ℕ))) (faults_before faults_now : ℕ) (r : Result Unit E)
    → OnOk r (now ≡ added before line) → OnErr r (now ≡ before) → OnErr r (Rose faults_before faults_now)
    → Prints (line ∷ []) before now faults_before faults_now
one_printed line before now faults_before faults_now (Ok done) printed stays rose = record {
  front = record { printed = 1; same = printed };
  whole = λ steady. printed;
}
one_printed line before now faults_before faults_now (Err failed) printed stays rose = record {
  front = record { printed = 0; same = stays };
  whole = λ steady. absurd (steady rose);
}

-- the same of a text that is the line
pub text_printed : {E : Type 0} (text line : List ℕ) (before now : Option (List (List ℕ))) (faults_before faults_now : ℕ) (r : Result Unit E)
    → OnOk r (now ≡ added before text) → OnErr r (now ≡ before) → OnErr r (Rose faults_before faults_now) → text ≡ line
    → Prints (line ∷ []) before now faults_before faults_now
text_printed text line before now faults_before faults_now r printed stays rose same =
    one_printed line before now faults_before faults_now r (subst (λ (t : List ℕ). OnOk r (now ≡ added before t)) same printed) stays rose
