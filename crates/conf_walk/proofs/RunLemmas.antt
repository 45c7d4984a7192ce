-- The tokens of one text, one after another.
use Rattle.std.proofs.Common.{◌≡◌, ℕ, ◌≤◌, true, false, List, [], length, drop, slice_get, None, Result, Ok, Err, ap, ◌∙◌, ◌⊎◌, arith, inl, inr}
use Rattle.std.proofs.Math.Seq.{drop-length}
use Rattle.std.proofs.lemmas.Option.{slice_get_cases}
use Rattle.base_fields.specs.declared.names.Pair.{Pair}
use Rattle.conf_items.specs.Grammar.{may_end}
use Rattle.conf_walk.specs.Stack.{rest_walked}
use Rattle.conf_texts.specs.Answers.{Refuses}
use Rattle.base_fields.specs.Results.{when}
use Rattle.conf_walk.specs.Walk.{tokens_walked}
use Rattle.conf_texts.specs.declared.fault.WalkFault.{WalkFault}
use Rattle.conf_texts.specs.declared.fault.WalkFault.TheVariants.{BadText, NoMemory}
use Rattle.conf_walk.specs.declared.running.OpenText.{OpenText}
use Rattle.conf_texts.specs.declared.texts.Reading.{Reading}

past-end : {X : Type 0} (xs : List X) (i : ℕ) → slice_get xs i ≡ None → length xs ≤ i
past-end xs i e = elim (slice_get_cases xs i).1 [ inl h ↦ (let some = h.2 in absurd (cc)) | inr h ↦ h.0 ]

drop-past : {X : Type 0} (xs : List X) (i : ℕ) → slice_get xs i ≡ None → i ≤ length xs → drop i xs ≡ []
drop-past xs i e within =
    let past : length xs ≤ i = past-end xs i e in
    let same : i ≡ length xs = omega arith in
    rw same (drop-length xs)

-- behind its last token a text may end or not
walked-end : (included : List ℕ → Reading → Result Reading WalkFault) (vars : List Pair) (text : OpenText) (reading : Reading) → slice_get text.source.tokens text.at ≡ None → text.at ≤ length text.source.tokens →
    rest_walked included vars text reading ≡ when (may_end text.parser) reading (BadText text.source.name (length text.source.bytes))
walked-end included vars text reading e within = ap (λ tokens. tokens_walked included vars text.source tokens text.parser reading) (drop-past text.source.tokens text.at e within)

pub ends : (included : List ℕ → Reading → Result Reading WalkFault) (vars : List Pair) (text : OpenText) (reading : Reading) → slice_get text.source.tokens text.at ≡ None → text.at ≤ length text.source.tokens → may_end text.parser ≡ true →
    rest_walked included vars text reading ≡ Ok reading
ends included vars text reading e within may = walked-end included vars text reading e within ∙ ap (λ b. when b reading (BadText text.source.name (length text.source.bytes))) may

pub ends-early : (included : List ℕ → Reading → Result Reading WalkFault) (vars : List Pair) (text : OpenText) (reading : Reading) → slice_get text.source.tokens text.at ≡ None → text.at ≤ length text.source.tokens → may_end text.parser ≡ false →
    rest_walked included vars text reading ≡ Err (BadText text.source.name (length text.source.bytes))
ends-early included vars text reading e within may = walked-end included vars text reading e within ∙ ap (λ b. when b reading (BadText text.source.name (length text.source.bytes))) may

-- so of an end that is refused
pub end-refused : (included : List ℕ → Reading → Result Reading WalkFault) (vars : List Pair) (text : OpenText) (reading : Reading) (fault : WalkFault) → slice_get text.source.tokens text.at ≡ None → text.at ≤ length text.source.tokens → may_end text.parser ≡ false →
    (fault ≡ BadText text.source.name (length text.source.bytes)) ⊎ (fault ≡ NoMemory) → Refuses (rest_walked included vars text reading) fault
end-refused included vars text reading fault e within may why =
    elim why [ inl is ↦ rw is (ends-early included vars text reading e within may) | inr is ↦ rw is tt ]
