-- What a fault of a stage says of the whole.
use Rattle.std.specs.Prelude.{◌≡◌, ℕ, ◌<◌, Result, Ok, IsOk}
use Rattle.std.proofs.Common.{ap, refl, subst, sym, ◌∙◌}
use Rattle.job_stages.specs.Stages.{Refuses}
use Rattle.map_job.specs.Faults.{IsBehind, IsOf, IsOfImages, is_counted}
use Rattle.map_job.specs.declared.faults.MappingFault.{MappingFault}
use Rattle.map_job.specs.declared.faults.MappingFault.TheVariants.{NoImage, NameClash, Plan, Measure, ImageStale, Digest}
use Rattle.map_job.specs.declared.faults.MappingFault.TheVariants.{FileFault, NoMemory}

pub refuses_along : {A : Type 0} (wanted other : Result A MappingFault) (fault : MappingFault) → wanted ≡ other
    → Refuses is_counted other fault → Refuses is_counted wanted fault
refuses_along wanted other fault same h = subst (λ w. Refuses is_counted w fault) (sym same) h

-- ---- once an image is chosen

is_chosen : (chosen : Result ℕ MappingFault) (number : ℕ) → Ok number ≡ chosen → IsOk chosen
is_chosen chosen number is = subst (λ (r : Result ℕ MappingFault). IsOk r) is refl

pub comes_behind : (chosen : Result ℕ MappingFault) (number : ℕ) (fault : MappingFault) → Ok number ≡ chosen
    → IsOf number fault → IsBehind chosen fault
comes_behind chosen number NoImage is of = absurd of
comes_behind chosen number NameClash is of = absurd of
comes_behind chosen number (Plan image fault) is of = sym (ap Ok of ∙ is)
comes_behind chosen number (Measure image fault) is of = sym (ap Ok of ∙ is)
comes_behind chosen number (ImageStale has needs) is of = is_chosen chosen number is
comes_behind chosen number (Digest image fault) is of = sym (ap Ok of ∙ is)
comes_behind chosen number FileFault is of = is_chosen chosen number is
comes_behind chosen number NoMemory is of = is_chosen chosen number is

pub of_images : (n number : ℕ) (fault : MappingFault) → number < n → IsOf number fault → IsOfImages n fault
of_images n number NoImage below of = tt
of_images n number NameClash below of = tt
of_images n number (Plan image fault) below of = subst (λ (k : ℕ). k < n) (sym of) below
of_images n number (Measure image fault) below of = subst (λ (k : ℕ). k < n) (sym of) below
of_images n number (ImageStale has needs) below of = tt
of_images n number (Digest image fault) below of = subst (λ (k : ℕ). k < n) (sym of) below
of_images n number FileFault below of = tt
of_images n number NoMemory below of = tt
