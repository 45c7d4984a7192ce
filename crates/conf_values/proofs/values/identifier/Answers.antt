use Rattle.std.proofs.Common.{◌≡◌, true, false, Option, Some, None, refl}
use Rattle.conf_values.proofs.values.identifier.Goals as goal

differ : false ≡ true → ⊥
differ e = cc

none : {A : Type 0} (o : Option A) → ((u : A) → o ≡ Some u → ⊥) → None ≡ o
none None h = refl
none (Some x) h = absurd (h x refl)

pub returns-in-Err : goal.returns-in-Err
returns-in-Err c = none _ (λ u is. differ (c.in-Err.ensures.ok.1 (u, is)))
