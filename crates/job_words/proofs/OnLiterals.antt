-- What a proof unfolds to compute the job of words that are written out, and that it computes.
use Rattle.std.proofs.Common.{◌≡◌, refl, true, [], ◌∷◌, Some, None, codes}
use Rattle.std.specs.Prelude.{⊤}
use Rattle.clap.proofs.OnLiterals.{clap_on_literals}
use Rattle.job_words.specs.Arguments.{flag_rule, option_rule, place_rule, repeated_rule, taken}
use Rattle.job_words.specs.Jobs.{job_by, job_of}
use Rattle.job_words.specs.declared.jobs.Job.TheVariants as job

unfoldable pub words_on_literals : ⊤
unfolding job_of job_by taken place_rule repeated_rule option_rule flag_rule clap_on_literals lib.Count.ones
words_on_literals = tt

demo_seven : job_of (codes "demo" ∷ codes "7" ∷ []) ≡ Some (job.Demo 7)
unfolding words_on_literals
demo_seven = refl

copy_with_options : job_of (codes "copy" ∷ codes "--unit=65536" ∷ codes "s" ∷ codes "m" ∷ codes "--sparse" ∷ codes "t" ∷ codes "j" ∷ [])
    ≡ Some (job.Copy (codes "s") (codes "m") (codes "t") (codes "j") 65536 1 true)
unfolding words_on_literals
copy_with_options = refl

unit_twice : job_of (codes "resume" ∷ codes "s" ∷ codes "m" ∷ codes "t" ∷ codes "j" ∷ codes "--unit" ∷ codes "65536" ∷ codes "--unit" ∷ codes "65536" ∷ []) ≡ None
unfolding words_on_literals
unit_twice = refl
