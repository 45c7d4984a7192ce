-- A refusal ends what would follow.
use Rattle.std.proofs.Common.{◌≡◌, Bool, true, false, Option, Some, None, Result, Ok, Err, ap, refl, subst, sym, ◌∙◌}
use Rattle.base_fields.specs.Results.{◌>>=◌, or_else, when}
use Rattle.bmap_grammar.specs.Document.{Answers, Refuses}
use Rattle.bmap_grammar.specs.declared.faults.MapFault.{MapFault}
use Rattle.bmap_grammar.specs.declared.faults.MapFault.TheVariants.{BadMap, OtherVersion, OtherDigest, BadCounts, SumDiffers, NoMemory}

pub refuses_bind : {A B : Type 0} (wanted : Result A MapFault) (f : A → Result B MapFault) (fault : MapFault) →
    Refuses wanted fault → Refuses (wanted >>= f) fault
refuses_bind wanted f (BadMap place) h = ap (λ w. w >>= f) h
refuses_bind wanted f (OtherVersion place) h = ap (λ w. w >>= f) h
refuses_bind wanted f (OtherDigest place) h = ap (λ w. w >>= f) h
refuses_bind wanted f (BadCounts want got) h = ap (λ w. w >>= f) h
refuses_bind wanted f (SumDiffers want got) h = ap (λ w. w >>= f) h
refuses_bind wanted f NoMemory h = tt

-- what is refused in no other way than for memory
pub refuses_this : {A : Type 0} (wanted : Result A MapFault) (fault : MapFault) → wanted ≡ Err fault → Refuses wanted fault
refuses_this wanted (BadMap place) h = h
refuses_this wanted (OtherVersion place) h = h
refuses_this wanted (OtherDigest place) h = h
refuses_this wanted (BadCounts want got) h = h
refuses_this wanted (SumDiffers want got) h = h
refuses_this wanted NoMemory h = tt

pub refuses_along : {A : Type 0} (wanted other : Result A MapFault) (fault : MapFault) → wanted ≡ other →
    Refuses other fault → Refuses wanted fault
refuses_along wanted other fault e h = subst (λ w. Refuses w fault) (sym e) h

-- what was wanted along another way
pub answers_along : {A : Type 0} (wanted other got : Result A MapFault) → wanted ≡ other → Answers other got →
    Answers wanted got
answers_along wanted other got e h = subst (λ w. Answers w got) (sym e) h

-- an answer that memory has no part in
pub answers_same : {A : Type 0} (wanted got : Result A MapFault) → wanted ≡ got → Answers wanted got
answers_same wanted (Ok x) e = e
answers_same wanted (Err fault) e = refuses_this wanted fault e
