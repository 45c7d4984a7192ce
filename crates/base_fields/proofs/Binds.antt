-- Steps one after another.
use Rattle.std.specs.Prelude.{◌≡◌, Bool, true, false, Option, None, Some, Result, Ok, Err}
use Rattle.std.proofs.Common.{refl, ap}
use Rattle.base_fields.specs.Results.{◌>>=◌, or_else, refused_by, when}

pub bind-ok : {A E : Type 0} (x : Result A E) → (x >>= λ a. Ok a) ≡ x
bind-ok (Ok a) = refl
bind-ok (Err e) = refl

pub bind-assoc : {A B D E : Type 0} (x : Result A E) (f : A → Result B E) (g : B → Result D E) → ((x >>= f) >>= g) ≡ (x >>= λ a. f a >>= g)
bind-assoc (Ok a) f g = refl
bind-assoc (Err e) f g = refl

pub bind-same : {A B E : Type 0} (x : Result A E) (f g : A → Result B E) → ((a : A) → f a ≡ g a) → (x >>= f) ≡ (x >>= g)
bind-same (Ok a) f g same = same a
bind-same (Err e) f g same = refl

-- ---- what has passed, where no step refuses

pub bind_ok : {A B E : Type 0} (x : Result A E) (f : A → Result B E) (b : B) → (x >>= f) ≡ Ok b → (a : A) × (x ≡ Ok a) × (f a ≡ Ok b)
bind_ok (Ok a) f b e = (a, refl, e)
bind_ok (Err r) f b e = absurd (cc)

pub when_ok : {A E : Type 0} (passes : Bool) (x y : A) (r : E) → when passes x r ≡ Ok y → (passes ≡ true) × (x ≡ y)
when_ok true x y r e = (refl, cc)
when_ok false x y r e = absurd (cc)

pub or_else_ok : {A E : Type 0} (x : Option A) (y : A) (r : E) → or_else x r ≡ Ok y → x ≡ Some y
or_else_ok None y r e = absurd (cc)
or_else_ok (Some x) y r e = let same : x ≡ y = cc in ap (λ z. Some z) same

pub refused_ok : {A D E : Type 0} (f : D → E) (x : Result A D) (y : A) → refused_by f x ≡ Ok y → x ≡ Ok y
refused_ok f (Ok x) y e = let same : x ≡ y = cc in ap (λ z. Ok z) same
refused_ok f (Err r) y e = absurd (cc)
