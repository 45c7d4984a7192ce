-- What is wanted and what is answered, one stage behind another.
use Rattle.std.proofs.Common.{◌≡◌, ◌∙◌, ℕ, Bool, true, false, List, [], ◌∷◌, Result, Ok, Err, refl, ap, subst, sym, inl, inr}
use Rattle.std.specs.Prelude.{IsOk, IsOkAnd, MatchBool}
use Rattle.base_fields.specs.Results.{◌>>=◌, refused_by}
use Rattle.answer_lines.specs.Answer.{error_text}
use Rattle.answer_lines.specs.Kind.{Kind, Finished, LineFailed, Counted, Refused, kind_of}
use Rattle.answer_lines.specs.declared.answer.Answer.{Answer}
use Rattle.answer_lines.specs.declared.answer.Answer.TheVariants.{NoMemory}
use Rattle.answer_lines.specs.declared.answer.Report.{Report}
use Rattle.job_stages.specs.Stages.{Gives, Refuses}
use Rattle.job_answers.specs.Printed.{IsCopied, is_counted, is_fault}
use Rattle.job_answers.specs.Printed.{HasError, IsRefusal, Reports, reported_by}
use Rattle.job_answers.specs.Said.{IsCausedBy, IsExpected, Says, caused_by, expected_by, said_lines, said_lines_by, says_by}
use Rattle.job_answers.specs.Said.{wanted_lines}
use Rattle.outside.specs.Counts.{Rose}

-- ---- stages

-- a fault by its answer: a counted fault has a counted answer, and memory may be refused for a name in it
pub refuses_as : {A E : Type 0} (wanted : Result A E) (counted : E → Bool) (f : E → Answer) (fault : E) (got : Answer)
    → (counted fault ≡ true → is_counted (f fault) ≡ true) → Refuses counted wanted fault → IsCopied (f fault) got
    → Refuses is_counted (refused_by f wanted) got
refuses_as {A} {E} wanted counted f fault got stays h (inr memory) =
    subst (λ (a : Answer). Refuses is_counted (refused_by f wanted) a) (sym memory) tt
refuses_as {A} {E} wanted counted f fault got stays h (inl same) =
    subst (λ (a : Answer). Refuses is_counted (refused_by f wanted) a) (sym same) (at (counted fault) refl h)
  where
    either : (b : Bool) (P : Type 0) → P → MatchBool b (Unit {0}) P
    either true P p = tt
    either false P p = p

    at : (b : Bool) → counted fault ≡ b → MatchBool b (Unit {0}) (wanted ≡ Err fault)
        → MatchBool (is_counted (f fault)) (Unit {0}) (refused_by f wanted ≡ Err (f fault))
    at true is h = subst (λ (c : Bool). MatchBool c (Unit {0}) (refused_by f wanted ≡ Err (f fault))) (sym (stays is)) tt
    at false is h = either (is_counted (f fault)) (refused_by f wanted ≡ Err (f fault)) (ap (refused_by f) h)

-- what holds of what is there holds of it with another refusal
pub ok_and : {A D E : Type 0} (f : D → E) (r : Result A D) (P : A → Type 0) → IsOkAnd r P → IsOkAnd (refused_by f r) P
ok_and f (Ok x) P h = h
ok_and f (Err e) P h = absurd h

-- ---- after a refusal

refused_says : {A : Type 0} (wanted : Result A Answer) (reports : A → Report → Type 0) (answer : Answer) (k : Kind)
    → HasError k → MatchBool (is_fault k) (Unit {0}) (wanted ≡ Err answer) → says_by wanted reports answer k
refused_says wanted reports answer (Finished said) error h = absurd error
refused_says wanted reports answer LineFailed error h = absurd error
refused_says wanted reports answer Counted error h = tt
refused_says wanted reports answer Refused error h = h

pub refusal_says : {A : Type 0} (wanted : Result A Answer) (reports : A → Report → Type 0) (answer : Answer) → IsRefusal answer
    → Refuses is_counted wanted answer → Says wanted reports answer
refusal_says wanted reports answer error h = refused_says wanted reports answer (kind_of answer) error h

refused_expected : {A : Type 0} (wanted : Result A Answer) (answer : Answer) (k : Kind) → HasError k
    → MatchBool (is_fault k) (Unit {0}) (wanted ≡ Err answer) → (k ≡ Counted → answer ≡ NoMemory) → expected_by wanted answer k
refused_expected wanted answer (Finished said) error h memory = absurd error
refused_expected wanted answer LineFailed error h memory = absurd error
refused_expected wanted answer Counted error h memory = memory refl
refused_expected wanted answer Refused error h memory = h

pub refusal_expected : {A : Type 0} (wanted : Result A Answer) (answer : Answer) → IsRefusal answer
    → Refuses is_counted wanted answer → (kind_of answer ≡ Counted → answer ≡ NoMemory) → IsExpected wanted answer
refusal_expected wanted answer error h memory = refused_expected wanted answer (kind_of answer) error h memory

-- ---- the lines

error_line_by : {A : Type 0} (wanted : Result A Answer) (lines : A → List (List ℕ)) (answer : Answer) (k : Kind) → HasError k
    → said_lines_by wanted lines answer k ≡ error_text answer ∷ []
error_line_by wanted lines answer (Finished said) h = absurd h
error_line_by wanted lines answer LineFailed h = absurd h
error_line_by wanted lines answer Counted h = refl
error_line_by wanted lines answer Refused h = refl

-- a refusal has its one line, whatever was wanted
pub error_line : {A : Type 0} (wanted : Result A Answer) (lines : A → List (List ℕ)) (answer : Answer) → IsRefusal answer
    → said_lines wanted lines answer ≡ error_text answer ∷ []
error_line wanted lines answer h = error_line_by wanted lines answer (kind_of answer) h
