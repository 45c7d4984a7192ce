-- One token of a text.
use Rattle.std.proofs.Common.{◌≡◌, ℕ, ◌+◌, ◌<◌, suc, All, List, ◌∷◌, length, get_or, drop, slice_get, Some, Result, Ok, ap, subst, ◌∙◌, arith}
use Rattle.std.proofs.Math.Seq.{drop-cons}
use Rattle.std.proofs.lemmas.Option.{slice_get_within, get_or_from_slice_get}
use Rattle.base_fields.specs.declared.names.Pair.{Pair}
use Rattle.conf_items.specs.declared.grammar.Move.{Move}
use Rattle.conf_items.specs.declared.grammar.Parser.{Parser}
use Rattle.conf_lexer.specs.declared.tokens.Token.{Token}
use Rattle.conf_texts.specs.Answers.{Refuses}
use Rattle.conf_texts.specs.Steps.{met}
use Rattle.conf_walk.specs.Stack.{rest_walked}
use Rattle.base_fields.specs.Results.{◌>>=◌}
use Rattle.conf_texts.specs.Steps.{stepped, taken}
use Rattle.conf_walk.specs.Walk.{tokens_walked}
use Rattle.conf_texts.specs.declared.fault.WalkFault.{WalkFault}
use Rattle.conf_walk.specs.declared.running.OpenText.{OpenText}
use Rattle.conf_texts.specs.declared.steps.Taken.{Taken}
use Rattle.conf_texts.specs.declared.texts.Reading.{Reading}
use Rattle.conf_walk.proofs.Refusals.{refuses-bind, refuses-along}

pub drop-at : {X : Type 0} (xs : List X) (i : ℕ) (x : X) → slice_get xs i ≡ Some x → drop i xs ≡ x ∷ drop (i + 1) xs
drop-at xs i x e =
    let within : i < length xs = slice_get_within xs i x e in
    let here : get_or xs i x ≡ x = get_or_from_slice_get xs i x x e in
    let split : drop i xs ≡ get_or xs i x ∷ drop (suc i) xs = drop-cons xs i x within in
    let next : i + 1 ≡ suc i = omega arith in
    rw next (split ∙ ap (λ y. y ∷ drop (suc i) xs) here)

pub All-at : {X : Type 0} (P : X → Type 0) (xs : List X) (i : ℕ) (x : X) → slice_get xs i ≡ Some x → All P xs → P x
All-at P xs i x e all = subst P (get_or_from_slice_get xs i x x e) (all i x (slice_get_within xs i x e))

-- the walk of the tokens from one on
walked-at : (included : List ℕ → Reading → Result Reading WalkFault) (vars : List Pair) (text : OpenText) (reading : Reading) (token : Token) → slice_get text.source.tokens text.at ≡ Some token →
    rest_walked included vars text reading ≡ (stepped vars text.source text.parser token >>= λ made. taken included made.output reading >>= λ after. tokens_walked included vars text.source (drop (text.at + 1) text.source.tokens) made.parser after)
walked-at included vars text reading token e = ap (λ tokens. tokens_walked included vars text.source tokens text.parser reading) (drop-at text.source.tokens text.at token e)

pub token-refused : (included : List ℕ → Reading → Result Reading WalkFault) (vars : List Pair) (text : OpenText) (reading : Reading) (token : Token) (fault : WalkFault) → slice_get text.source.tokens text.at ≡ Some token →
    Refuses (stepped vars text.source text.parser token) fault → Refuses (rest_walked included vars text reading) fault
token-refused included vars text reading token fault e h =
    refuses-along _ _ fault (walked-at included vars text reading token e) (refuses-bind (stepped vars text.source text.parser token) _ fault h)

pub token-walked : (included : List ℕ → Reading → Result Reading WalkFault) (vars : List Pair) (text : OpenText) (reading : Reading) (token : Token) (made : Move) (got : Taken) → slice_get text.source.tokens text.at ≡ Some token →
    stepped vars text.source text.parser token ≡ Ok made → taken included made.output reading ≡ met included got →
    rest_walked included vars text reading ≡ (met included got >>= rest_walked included vars (record { source = text.source; at = text.at + 1; parser = made.parser }))
token-walked included vars text reading token made got e s t =
    let later : Parser → Reading → Result Reading WalkFault = λ parser after. tokens_walked included vars text.source (drop (text.at + 1) text.source.tokens) parser after in
    walked-at included vars text reading token e
    ∙ ap (λ w. w >>= λ move. taken included move.output reading >>= later move.parser) s
    ∙ ap (λ w. w >>= later made.parser) t
