-- The words by the command that the first names.
use Rattle.std.proofs.Common.{◌≡◌, ◌∙◌, true, ap, map, refl, subst, sym, String, string_bytes, List, [], ◌∷◌, Option, Some, None, Result, Err}
use Rattle.std.specs.Prelude.{option_and_then, slice_get}
use Rattle.clap.specs.Faults.{is_simple_and_free}
use Rattle.clap.specs.Walk.{Row, Rule, Text}
use Rattle.job_words.specs.Arguments.{flag_rule, option_rule, place_rule, repeated_rule, simple, taken}
use Rattle.job_words.specs.Jobs.{Reads, arguments_of, job_by, job_from, job_of}
use Rattle.job_words.specs.Verbs.{verb_named}
use Rattle.job_words.specs.declared.jobs.WordFault.{WordFault}
use Rattle.job_words.specs.declared.jobs.WordFault.TheVariants.{Usage, NoMemory}
use Rattle.job_words.specs.declared.verbs.Verb.{Verb}
use Rattle.job_words.specs.declared.verbs.Verb.TheVariants as verb

-- each command's arguments make a simple command, where none has a rule on another
pub is_simple_command : (v : Verb) → is_simple_and_free (simple (arguments_of v)) ≡ true
unfolding flag_rule option_rule place_rule repeated_rule
is_simple_command verb.Build = refl
is_simple_command verb.Map = refl
is_simple_command verb.Copy = refl
is_simple_command verb.Resume = refl
is_simple_command verb.Forget = refl
is_simple_command verb.Verify = refl
is_simple_command verb.List = refl
is_simple_command verb.Demo = refl
is_simple_command verb.Gang = refl
is_simple_command verb.GangResume = refl
is_simple_command verb.Cut = refl
is_simple_command verb.Expand = refl
is_simple_command verb.Nand = refl

pub reads_at : {T : Type 0} (a b : Option T) (r : Result T WordFault) → a ≡ b → Reads b r → Reads a r
reads_at {T} a b r e h = subst (λ (o : Option T). Reads o r) (sym e) h

-- what is refused is refused with what would follow it
refused : {T U : Type 0} (f : T → Option U) (o : Option T) (fault : WordFault) → Reads o (Err fault) → Reads (option_and_then f o) (Err fault)
refused f o Usage none = ap (option_and_then f) none
refused f o NoMemory memory = tt

-- the answer where the words give the arguments nothing, and where they do
pub not_given : (v : Verb) (words : List Text) (arguments : List Rule) (fault : WordFault) → arguments ≡ arguments_of v
    → Reads (taken (simple arguments) words) (Err fault) → Reads (job_by v words) (Err fault)
unfolding job_by
not_given v words arguments fault are h =
    refused (job_from v) (taken (simple (arguments_of v)) words) fault
    (reads_at _ (taken (simple arguments) words) (Err fault) (ap (λ (a : List Rule). taken (simple a) words) (sym are)) h)

pub is_given : (v : Verb) (words : List Text) (arguments : List Rule) (rows : List Row) → arguments ≡ arguments_of v
    → taken (simple arguments) words ≡ Some rows → job_by v words ≡ job_from v rows
unfolding job_by
is_given v words arguments rows are is =
    ap (option_and_then (job_from v)) (ap (λ (a : List Rule). taken (simple a) words) (sym are) ∙ is)

-- the words by their first
pub no_first : {Z : Type 0} (words : List (String Z)) → slice_get words 0 ≡ None → job_of (map string_bytes words) ≡ None
unfolding job_of
no_first [] none = refl
no_first (x ∷ xs) none = absurd (bad none)
  where
    bad : Some x ≡ None → ⊥
    bad e = cc

pub unknown : {Z : Type 0} (words : List (String Z)) (first : String Z) → slice_get words 0 ≡ Some first
    → verb_named (string_bytes first) ≡ None → job_of (map string_bytes words) ≡ None
unfolding job_of
unknown [] first is none = absurd (bad is)
  where
    bad : None ≡ Some first → ⊥
    bad e = cc
unknown (x ∷ xs) first is none =
    let same : x ≡ first = cc in
    ap (option_and_then (λ v. job_by v (map string_bytes (x ∷ xs)))) (ap (λ y. verb_named (string_bytes y)) same ∙ none)

pub named : {Z : Type 0} (words : List (String Z)) (first : String Z) (v : Verb) → slice_get words 0 ≡ Some first
    → verb_named (string_bytes first) ≡ Some v → job_of (map string_bytes words) ≡ job_by v (map string_bytes words)
unfolding job_of
named [] first v is verb = absurd (bad is)
  where
    bad : None ≡ Some first → ⊥
    bad e = cc
named (x ∷ xs) first v is verb =
    let same : x ≡ first = cc in
    ap (option_and_then (λ w. job_by w (map string_bytes (x ∷ xs)))) (ap (λ y. verb_named (string_bytes y)) same ∙ verb)
