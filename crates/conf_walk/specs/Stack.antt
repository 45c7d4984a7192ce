-- The texts that are open: what is left of each, and what the walk of the whole still says.
use Rattle.std.specs.Prelude.{◌≡◌, ℕ, ◌+◌, ◌-◌, ◌*◌, ◌<◌, ◌≤◌, Result, Ok, Err, List, [], ◌∷◌, All, drop, length}
use Rattle.std.specs.List.{sum_by}
use Rattle.base_fields.specs.declared.names.Pair.{Pair}
use Rattle.conf_items.specs.Grammar.{start}
use Rattle.conf_items.specs.Outline.{deeper_of}
use Rattle.conf_lexer.specs.Standing.{StandsIn}
use Rattle.outside.specs.Files.{Tree}
use Rattle.conf_texts.specs.Answers.{Refuses}
use Rattle.base_fields.specs.Results.{◌>>=◌}
use Rattle.conf_texts.specs.Steps.{met, reading_of}
use Rattle.conf_texts.specs.Texts.{most_bytes}
use Rattle.conf_walk.specs.Walk.{nestings, text_walked, tokens_walked}
use Rattle.conf_texts.specs.declared.fault.WalkFault.{WalkFault}
use Rattle.conf_walk.specs.declared.running.OpenText.{OpenText}
use Rattle.conf_walk.specs.declared.running.Stop.{Stop}
use Rattle.conf_walk.specs.declared.running.Stop.TheVariants as stop
use Rattle.conf_walk.specs.declared.running.Turn.{Turn}
use Rattle.conf_texts.specs.declared.texts.Reading.{Reading}
use Rattle.conf_texts.specs.declared.texts.Text.{Text}

-- ---- one text

-- what the tokens that are left of a text say; `included` is the walk of a text at the next nesting
abbrev pub rest_walked : (List ℕ → Reading → Result Reading WalkFault) → List Pair → OpenText → Reading → Result Reading WalkFault
rest_walked included vars text reading = tokens_walked included vars text.source (drop text.at text.source.tokens) text.parser reading

-- how many tokens are left
abbrev pub left_of : OpenText → ℕ
left_of text = length text.source.tokens - text.at

-- a text of which nothing was walked
abbrev pub begun : Text → OpenText
begun source = record { source = source; at = 0; parser = start }

-- what always holds of a text that is walked: each section that is open was begun by a token
pub record IsOpen (text : OpenText) : Type 0 where
  pub stands : All (StandsIn text.source.bytes) text.source.tokens
  pub within : text.at ≤ length text.source.tokens
  pub count : length text.source.tokens ≤ most_bytes
  pub depth : text.parser.depth ≤ text.at

-- what was walked leads to where an answer goes on, or to its refusal
abbrev pub Leads : {A : Type 0} → Result Reading WalkFault → (A → Result Reading WalkFault) → Result A WalkFault → Type 0
Leads wanted rest (Ok got) = wanted ≡ rest got
Leads wanted rest (Err fault) = Refuses wanted fault

-- what is still to walk behind a token
abbrev pub goes_on : (List ℕ → Reading → Result Reading WalkFault) → List Pair → Turn → Result Reading WalkFault
goes_on included vars turn = met included turn.taken >>= rest_walked included vars turn.text

-- a token was walked, and at most one section begun
pub record Goes (text : OpenText) (reading : Reading) (turn : Turn) : Type 0 where
  pub left : left_of turn.text + 1 ≡ left_of text
  pub deeper : deeper_of (reading_of turn.taken).outline ≤ deeper_of reading.outline + 1
  pub total : (reading_of turn.taken).total ≡ reading.total

-- what is still to walk of a text, and of the one that it includes
abbrev pub left_then : (List ℕ → Reading → Result Reading WalkFault) → List Pair → Stop → Result Reading WalkFault
left_then included vars (stop.Ended reading) = Ok reading
left_then included vars (stop.Includes text name reading) = included name.text reading >>= rest_walked included vars text

-- so many sections may have been begun, and the total is the same
pub record Spent (tokens : ℕ) (before after : Reading) : Type 0 where
  pub deeper : deeper_of after.outline ≤ deeper_of before.outline + tokens
  pub total : after.total ≡ before.total

-- what is left of a text is less than before
abbrev pub Stops : OpenText → Reading → Stop → Type 0
Stops text reading (stop.Ended after) = Spent (left_of text) reading after
Stops text reading (stop.Includes next name after) = IsOpen next × (left_of next < left_of text) × Spent (left_of text - left_of next) reading after

-- ---- the stack of texts

-- what is still to walk of a stack of texts, the innermost last, with so many nestings left for those that the outermost includes
abbrev pub resumed : List Pair → Tree → ℕ → List OpenText → Reading → Result Reading WalkFault
resumed vars file left [] reading = Ok reading
resumed vars file left (text ∷ above) reading = resumed vars file (left - 1) above reading >>= rest_walked (text_walked vars file left) vars text

-- the same of all texts that are open: one nesting less is left for what the main text includes
abbrev pub stack_walked : List Pair → Tree → List OpenText → Reading → Result Reading WalkFault
stack_walked vars file texts reading = resumed vars file (nestings - 1) texts reading

-- a text that stands here is walked, and then what is left of the stack
abbrev pub then_walked : List Pair → Tree → List OpenText → List ℕ → Reading → Result Reading WalkFault
then_walked vars file texts name reading = text_walked vars file (nestings - length texts) name reading >>= stack_walked vars file texts

-- what always holds of a stack: no more sections are begun than tokens walked, and no more of these than bytes
pub record IsStack (texts : List OpenText) (reading : Reading) : Type 0 where
  pub each : All IsOpen texts
  pub few : length texts ≤ nestings
  pub deeper : deeper_of reading.outline + sum_by left_of texts ≤ reading.total
  pub total : reading.total ≤ most_bytes

-- what is left to do: each turn ends a text, or takes a token to begin another
abbrev pub work_left : List OpenText → Reading → ℕ
work_left texts reading = 2 * sum_by left_of texts + 2 * (most_bytes - reading.total) + length texts
