-- What a simple command makes of words, from what a parse by it says.
use Rattle.std.proofs.Common.{◌≡◌, ◌&&◌, ap₂, refl, sym, Bool, true, false, List, [], ◌∷◌, Some, None, inl, inr}
use Rattle.clap.specs.Walk.{Row, Text}
use Rattle.clap.specs.Simple.{App, built, is_simple, matches_of}
use Rattle.clap.specs.Faults.{fault_of, is_free_app, is_simple_and_free}
use Rattle.clap.specs.Kinds.{HasKind, Kinds}
use Rattle.clap.specs.Values.{kind_of}
use Rattle.clap.specs.declared.error.Error.{Error}
use Rattle.clap.specs.declared.error.kind.ErrorKind.TheVariants.{OutOfMemory}
use Rattle.job_words.specs.Arguments.{taken, without_fault}

left : (a b : Bool) → (a && b) ≡ true → a ≡ true
left true b e = refl
left false b e = e

pub simple_of_free : (a : App) → is_simple_and_free a ≡ true → is_simple a ≡ true
simple_of_free a e = left (is_simple a) (is_free_app (built a)) e

pub taken_ok : (a : App) (words : List Text) (rows : List Row) → fault_of a words ≡ [] → rows ≡ matches_of a words
    → taken a words ≡ Some rows
unfolding taken
taken_ok a words rows none same = ap₂ without_fault none (sym same)

none_by : (kinds : Kinds) (rows : List Row) (e : Error) → HasKind kinds e → (kind_of e ≡ OutOfMemory → ⊥) → without_fault kinds rows ≡ None
none_by [] rows e (inl memory) other = absurd (other memory)
none_by [] rows e (inr none) other = absurd none
none_by (k ∷ ks) rows e h other = refl

pub taken_err : (a : App) (words : List Text) (e : Error) → HasKind (fault_of a words) e → (kind_of e ≡ OutOfMemory → ⊥)
    → taken a words ≡ None
unfolding taken
taken_err a words e has other = none_by (fault_of a words) (matches_of a words) e has other
