-- A refusal ends what would follow.
use Rattle.std.proofs.Common.{◌≡◌, Result, ap, subst, sym}
use Rattle.outside.specs.Counts.{Counts}
use Rattle.conf_texts.specs.Answers.{HasCause, Refuses}
use Rattle.conf_texts.specs.Answers.{IsNoFileFault}
use Rattle.base_fields.specs.Results.{◌>>=◌}
use Rattle.conf_texts.specs.declared.fault.WalkFault.{WalkFault}
use Rattle.conf_texts.specs.declared.fault.WalkFault.TheVariants.{BadText, Unset, DeepInclude, TooLong, Missing, SourceShort, FileFault, NoMemory}

pub refuses-bind : {A B : Type 0} (wanted : Result A WalkFault) (f : A → Result B WalkFault) (fault : WalkFault) → Refuses wanted fault → Refuses (wanted >>= f) fault
refuses-bind wanted f (BadText name place) h = ap (λ w. w >>= f) h
refuses-bind wanted f (Unset var) h = ap (λ w. w >>= f) h
refuses-bind wanted f (DeepInclude name) h = ap (λ w. w >>= f) h
refuses-bind wanted f (TooLong total) h = ap (λ w. w >>= f) h
refuses-bind wanted f (Missing name) h = ap (λ w. w >>= f) h
refuses-bind wanted f (SourceShort name at) h = ap (λ w. w >>= f) h
refuses-bind wanted f FileFault h = tt
refuses-bind wanted f NoMemory h = tt

pub refuses-along : {A : Type 0} (wanted other : Result A WalkFault) (fault : WalkFault) → wanted ≡ other → Refuses other fault → Refuses wanted fault
refuses-along wanted other fault e h = subst (λ w. Refuses w fault) (sym e) h

-- what has no cause in the files needs none
pub needs-none : (before now : Counts) (fault : WalkFault) → IsNoFileFault fault → HasCause before now fault
needs-none before now (BadText name place) h = tt
needs-none before now (Unset var) h = tt
needs-none before now (DeepInclude name) h = tt
needs-none before now (TooLong total) h = tt
needs-none before now (Missing name) h = absurd h
needs-none before now (SourceShort name at) h = absurd h
needs-none before now FileFault h = absurd h
needs-none before now NoMemory h = tt
