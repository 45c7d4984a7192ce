-- What of an image counts.
use Rattle.std.specs.Prelude.{◌≡◌, ℕ, Bool, true, List, Option, Some, None, Result, Ok, IsOkAnd}
use Rattle.std.specs.Prelude.{length, nat_eq}
use Rattle.std.proofs.Common.{ap, arith, refl, subst, sym, ◌∙◌}
use Rattle.std.proofs.lemmas.Bool.Decides.{nat_tests}
use Rattle.base_fields.specs.Results.{◌>>=◌, or_else, refused_by, when}
use Rattle.build_laws.specs.Builds.{IsCoverOf}
use Rattle.image_layout.specs.Layout.{is_covered}
use Rattle.image_layout.specs.declared.layout.Layout.{Layout}
use Rattle.image_plan.specs.Plans.{plan_said}
use Rattle.image_plan.specs.declared.faults.PlanFault.{PlanFault}
use Rattle.image_specs.specs.declared.specs.ImageSpec.{ImageSpec}
use Rattle.outside.specs.Files.{Tree}
use Rattle.outside.specs.declared.files.FileErr.TheVariants.{Missing}
use Rattle.map_job.specs.Mapped.{IsMeasured}
use Rattle.map_job.specs.Said.{Image, bytes_said, covered_said, laid_said}
use Rattle.map_job.specs.declared.faults.MappingFault.{MappingFault}
use Rattle.map_job.specs.declared.faults.MappingFault.TheVariants.{Plan, Measure, ImageStale}
use Rattle.map_job.specs.declared.measuring.Measured.{Measured}

-- ---- numbers

eq_yes : (m n : ℕ) → m ≡ n → nat_eq m n ≡ true
eq_yes m n h = grind (arith, nat_tests, h)

-- ---- behind a plan

behind : {A : Type 0} (number : ℕ) (said : Result A PlanFault) (x : A) (rest : A → Result Image MappingFault)
    → said ≡ Ok x → (refused_by (Plan number) said >>= rest) ≡ rest x
behind number said x rest h = ap (λ s. refused_by (Plan number) s >>= rest) h

-- its file is measured, and then what counts of it
by_bytes : (o : Option (List ℕ)) (refusal : MappingFault) (rest : List ℕ → Result Image MappingFault)
    (measured : Measured) (len : ℕ) → IsOkAnd (or_else o refusal) (λ bytes. length bytes ≡ len)
    → ((bytes : List ℕ) → length bytes ≡ len → IsOkAnd (rest bytes) (IsMeasured (Some bytes) measured))
    → IsOkAnd (or_else o refusal >>= rest) (IsMeasured o measured)
by_bytes None refusal rest measured len exact each = absurd exact
by_bytes (Some bytes) refusal rest measured len exact each = each bytes exact

-- ---- an image that has a layout

-- as many bytes as the layout has, and those that it covers
covered_is : (layout : Layout) (measured : Measured) (bytes : List ℕ) → length bytes ≡ layout.size
    → measured.size ≡ layout.size → IsCoverOf measured.cover layout
    → IsOkAnd (covered_said layout bytes) (IsMeasured (Some bytes) measured)
covered_is layout measured bytes long size cover =
    subst (λ (b : Bool). IsOkAnd (when b (record { counts = is_covered layout; bytes = bytes })
    (ImageStale (length bytes) layout.size)) (IsMeasured (Some bytes) measured))
    (sym (eq_yes (length bytes) layout.size long))
    (record { there = refl; long = long ∙ sym size; cover = cover })

pub laid_measured : (before middle : Tree) (number : ℕ) (spec : ImageSpec) (layout : Layout) (measured : Measured)
    (len : ℕ) → plan_said before spec ≡ Ok layout → middle ≡ before
    → IsOkAnd (bytes_said middle number spec) (λ bytes. length bytes ≡ len) → len ≡ layout.size
    → measured.size ≡ len → IsCoverOf measured.cover layout
    → IsOkAnd (laid_said before number spec) (IsMeasured (before spec.full) measured)
laid_measured before middle number spec layout measured len planned same exact long size cover =
    subst (λ (r : Result Image MappingFault). IsOkAnd r (IsMeasured (before spec.full) measured))
    (sym (behind number (plan_said before spec) layout (λ l. bytes_said before number spec >>= covered_said l) planned))
    (by_bytes (before spec.full) (Measure number Missing) (covered_said layout) measured len
    (subst (λ (t : Tree). IsOkAnd (bytes_said t number spec) (λ bytes. length bytes ≡ len)) same exact)
    (λ bytes is. covered_is layout measured bytes (is ∙ long) (size ∙ long) cover))
