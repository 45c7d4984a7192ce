-- One refusal behind another.
use Rattle.std.specs.Prelude.{◌≡◌, Bool, true, false, Option, Some, None, option_map}
use Rattle.std.specs.Option.{option_or}
use Rattle.std.proofs.Common.{refl, ap, ◌∙◌}
use Rattle.base_fields.specs.Results.{provided}
use Rattle.placement_rules.specs.declared.faults.PlaceFault.{PlaceFault}
use Rattle.flash_geometry.specs.Faults.{Refuses}

-- ---- none at all

pub or_none : (a b : Option PlaceFault) → a ≡ None → b ≡ None → option_or a b ≡ None
or_none a b first second = ap (λ o. option_or o b) first ∙ second

pub or_parts : (a b : Option PlaceFault) → option_or a b ≡ None → (a ≡ None) × (b ≡ None)
or_parts None b h = (refl, h)
or_parts (Some f) b h = cc

pub provided_not : {A : Type 0} (b : Bool) (x : A) → provided b x ≡ None → b ≡ false
provided_not true x h = cc
provided_not false x h = refl

pub mapped_none : {A B : Type 0} (f : A → B) (o : Option A) → option_map f o ≡ None → o ≡ None
mapped_none f None h = refl
mapped_none f (Some x) h = cc

-- ---- the first

pub or_first : (a b : Option PlaceFault) (f : PlaceFault) → Refuses a f → Refuses (option_or a b) f
or_first a b f h = λ other. ap (λ o. option_or o b) (h other)

pub or_later : (a b : Option PlaceFault) (f : PlaceFault) → a ≡ None → Refuses b f → Refuses (option_or a b) f
or_later a b f none h = λ other. ap (λ o. option_or o b) none ∙ h other
