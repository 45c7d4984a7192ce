-- The line of an answer.
use Rattle.std.proofs.Common.{◌≡◌, ℕ, List, [], ◌∷◌, Option, Result, Ok, Err, refl, subst, sym}
use Rattle.std.specs.Prelude.{OnErr, OnOk}
use Rattle.outside.specs.Counts.{Rose}
use Rattle.outside.specs.Printer.{added}
use Rattle.outside.specs.declared.printer.PrintErr.{PrintErr}
use Rattle.answer_lines.specs.Answer.{error_text}
use Rattle.answer_lines.specs.Kind.{Kind, Finished, LineFailed, Counted, Refused, kind_of}
use Rattle.answer_lines.specs.declared.answer.Answer.{Answer}
use Rattle.answer_lines.specs.declared.answer.Report.{Report}
use Rattle.job_stages.specs.Printing.{Prints, all_added}
use Rattle.job_answers.specs.Printed.{HasError, IsRefusal, line_by, line_of, report_line, reported_of}

refused_line : (answer : Answer) (k : Kind) → HasError k → line_by answer k ≡ error_text answer ∷ []
refused_line answer (Finished said) error = absurd error
refused_line answer LineFailed error = absurd error
refused_line answer Counted error = refl
refused_line answer Refused error = refl

pub answer_line : (answer : Answer) → IsRefusal answer → line_of answer ≡ error_text answer ∷ []
answer_line answer error = refused_line answer (kind_of answer) error

-- ---- the line of work that is done

-- where its one call printed it, it is the answer's line; where it didn't, the answer has none
pub report_printed : (said : Report) (line : List ℕ) (before now : Option (List (List ℕ))) (faults_before faults_now : ℕ) (r : Result Unit PrintErr)
    (answer : Answer) → report_line said ≡ line ∷ [] → answer ≡ reported_of r said → OnOk r (now ≡ added before line)
    → OnErr r (now ≡ before) → OnErr r (Rose faults_before faults_now) → Prints (line_of answer) before now faults_before faults_now
report_printed said line before now faults_before faults_now (Ok done) answer has is printed stays rose =
    subst (λ (a : Answer). Prints (line_of a) before now faults_before faults_now) (sym is)
    (subst (λ (lines : List (List ℕ)). Prints lines before now faults_before faults_now) (sym has) (record {
      front = record { printed = 1; same = printed };
      whole = λ steady. printed;
    }))
report_printed said line before now faults_before faults_now (Err failed) answer has is printed stays rose =
    subst (λ (a : Answer). Prints (line_of a) before now faults_before faults_now) (sym is) (record {
      front = record { printed = 0; same = stays };
      whole = λ steady. stays;
    })
