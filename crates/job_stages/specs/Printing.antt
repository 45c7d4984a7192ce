-- Lines that are printed one behind the other.
use Rattle.std.specs.Prelude.{◌≡◌, ℕ, ◌++◌, List, [], ◌∷◌, Option, take}
use Rattle.outside.specs.Counts.{Rose}
use Rattle.outside.specs.Printer.{added}

-- the lines with these at the end
abbrev pub all_added : Option (List (List ℕ)) → List (List ℕ) → Option (List (List ℕ))
all_added lines [] = lines
all_added lines (line ∷ more) = all_added (added lines line) more

-- a front of the wanted lines is printed, and nothing else
pub record PrintsFront (wanted : List (List ℕ)) (before now : Option (List (List ℕ))) : Type 0 where
  pub printed : ℕ
  pub same : now ≡ all_added before (take printed wanted)

-- so it is, and they are all printed where the count of lines that failed didn't rise
pub record Prints (wanted : List (List ℕ)) (before now : Option (List (List ℕ))) (faults_before faults_now : ℕ) : Type 0 where
  pub front : PrintsFront wanted before now
  pub whole : ¬ (Rose faults_before faults_now) → now ≡ all_added before wanted

-- one list behind another is the two joined
abbrev pub LinesJoin : Type 0
LinesJoin =
    (lines : Option (List (List ℕ))) (a b : List (List ℕ)) → all_added lines (a ++ b) ≡ all_added (all_added lines a) b

-- behind lines that are all printed, a front of others makes a front of the two joined
abbrev pub FrontsJoin : Type 0
FrontsJoin =
    (a b : List (List ℕ)) (before between now : Option (List (List ℕ)))
    → between ≡ all_added before a → PrintsFront b between now → PrintsFront (a ++ b) before now
