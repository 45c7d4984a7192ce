use Rattle.std.proofs.Common.{◌≡◌, ℕ, ◌-◌, ◌≤◌, List, Result}
use Rattle.conf_walk.specs.Stack.{IsOpen, Spent, left_of, rest_walked}
use Rattle.conf_texts.specs.declared.fault.WalkFault.{WalkFault}
use Rattle.conf_texts.specs.declared.texts.Reading.{Reading}
use Rattle.conf_walk.proofs.running.run_text.Given as goal

-- what is left of the text says what the whole of it did
abbrev pub invariant-loop-token : goal.invariant-loop-token
invariant-loop-token l = record {
  holds : IsOpen l.text;
  less : left_of l.text ≤ left_of l.fn.text;
  spent : Spent (left_of l.fn.text - left_of l.text) l.fn.reading l.reading;
  same : (included : List ℕ → Reading → Result Reading WalkFault) → rest_walked included l.vars l.fn.text l.fn.reading ≡ rest_walked included l.vars l.text l.reading;
}

abbrev pub decreases-loop-token : goal.decreases-loop-token
decreases-loop-token l = left_of l.text
