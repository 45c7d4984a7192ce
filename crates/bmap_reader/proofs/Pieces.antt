-- The items of a text, one behind another.
use Rattle.std.proofs.Common.{◌≡◌, ℕ, zero, suc, ◌+◌, ◌-◌, ◌<◌, ◌≤◌, Option, Some, None, Result, Ok, Err, List, [], ◌∷◌, length, drop, arith, refl, ap, subst, sym, ◌∙◌}
use Rattle.base_fields.specs.Results.{◌>>=◌}
use Rattle.bmap_grammar.specs.Document.{Answers, Refuses, one_then, stood_behind, stood_from}
use Rattle.bmap_grammar.specs.Items.{AreItems, piece_of}
use Rattle.bmap_grammar.specs.Stood.{nothing, stands}
use Rattle.bmap_grammar.specs.declared.faults.MapFault.{MapFault}
use Rattle.bmap_grammar.specs.declared.faults.MapFault.TheVariants.{BadMap}
use Rattle.bmap_grammar.specs.declared.items.Piece.{Piece}
use Rattle.bmap_grammar.specs.declared.stood.Stood.{Stood}
use Rattle.bmap_reader.specs.Holds.{HasItems}
use Rattle.bmap_reader.proofs.Refusals.{refuses_along, refuses_bind}

place_same : (at to : ℕ) (s : Stood) (n : ℕ) (rest : List ℕ) → at ≡ to → stood_from at s n rest ≡ stood_from to s n rest
place_same at to s n rest e = ap (λ k. stood_from k s n rest) e

-- so many bytes that are still of an item
skipped : (at n : ℕ) (s : Stood) (rest : List ℕ) → n ≤ length rest →
    stood_from at s n rest ≡ stood_from (at + n) s 0 (drop n rest)
skipped at zero s [] h = refl
skipped at zero s (b ∷ rest) h = place_same at (at + 0) s 0 (b ∷ rest) (omega arith)
skipped at (suc n) s [] h = absurd (omega arith)
skipped at (suc n) s (b ∷ rest) h =
    skipped (at + 1) n s rest (omega arith) ∙ place_same (at + 1 + n) (at + suc n) s 0 (drop n rest) (omega arith)

behind_first : (at n : ℕ) (s : Stood) (b : ℕ) (rest : List ℕ) → 0 < n → n ≤ length (b ∷ rest) →
    stood_from (at + 1) s (n - 1) rest ≡ stood_from (at + n) s 0 (drop n (b ∷ rest))
behind_first at zero s b rest low high = absurd (omega arith)
behind_first at (suc n) s b rest low high =
    let one : suc n - 1 ≡ n = omega arith in
    ap (λ k. stood_from (at + 1) s k rest) one
    ∙ (skipped (at + 1) n s rest (omega arith) ∙ place_same (at + 1 + n) (at + suc n) s 0 (drop n rest) (omega arith))

-- steps that go on alike
on_result : (r : Result Stood MapFault) (f g : Stood → Result Stood MapFault) → ((s : Stood) → f s ≡ g s) →
    (r >>= f) ≡ (r >>= g)
on_result (Ok s) f g h = h s
on_result (Err e) f g h = refl

-- an item, and then the rest
pub item_then : (at : ℕ) (s : Stood) (rest : List ℕ) (p : Piece) → 0 < p.len → p.len ≤ length rest →
    piece_of rest ≡ Some p →
    stood_from at s 0 rest ≡ (stands at s p.item >>= λ after. stood_from (at + p.len) after 0 (drop p.len rest))
item_then at s [] p low high e = absurd (omega arith)
item_then at s (b ∷ rest) p low high e =
    ap (λ o. one_then at s o (λ after n. stood_from (at + 1) after n rest)) e
    ∙ on_result (stands at s p.item) (λ after. stood_from (at + 1) after (p.len - 1) rest)
    (λ after. stood_from (at + p.len) after 0 (drop p.len (b ∷ rest))) (λ after. behind_first at p.len after b rest low high)

-- an item that stands
pub item_stands : (at : ℕ) (s after : Stood) (text rest : List ℕ) (p : Piece) → 0 < p.len → p.len ≤ length rest →
    piece_of rest ≡ Some p → stands at s p.item ≡ Ok after → stood_from 0 nothing 0 text ≡ stood_from at s 0 rest →
    stood_from 0 nothing 0 text ≡ stood_from (at + p.len) after 0 (drop p.len rest)
item_stands at s after text rest p low high e ok so =
    so ∙ (item_then at s rest p low high e ∙ ap (λ r. r >>= λ a. stood_from (at + p.len) a 0 (drop p.len rest)) ok)

-- one that can't
pub item_refused : (at : ℕ) (s : Stood) (text rest : List ℕ) (p : Piece) (fault : MapFault) → 0 < p.len →
    p.len ≤ length rest → piece_of rest ≡ Some p → Refuses (stands at s p.item) fault →
    stood_from 0 nothing 0 text ≡ stood_from at s 0 rest → Refuses (stood_from 0 nothing 0 text) fault
item_refused at s text rest p fault low high e h so =
    refuses_along (stood_from 0 nothing 0 text)
    (stands at s p.item >>= λ a. stood_from (at + p.len) a 0 (drop p.len rest)) fault
    (so ∙ item_then at s rest p low high e)
    (refuses_bind (stands at s p.item) (λ a. stood_from (at + p.len) a 0 (drop p.len rest)) fault h)

-- where there is none
none_at : (at : ℕ) (s : Stood) (rest : List ℕ) → 0 < length rest → piece_of rest ≡ None →
    stood_from at s 0 rest ≡ Err (BadMap at)
none_at at s [] some e = absurd (omega arith)
none_at at s (b ∷ rest) some e = ap (λ o. one_then at s o (λ after n. stood_from (at + 1) after n rest)) e

pub no_item : (at : ℕ) (s : Stood) (text rest : List ℕ) → 0 < length rest → piece_of rest ≡ None →
    stood_from 0 nothing 0 text ≡ stood_from at s 0 rest → stood_from 0 nothing 0 text ≡ Err (BadMap at)
no_item at s text rest some e so = so ∙ none_at at s rest some e

-- ---- the list of the items

-- it is, where the rest is items that stand behind what has stood
abbrev pub Continues : List ℕ → ℕ → Stood → List ℕ → Type 0
Continues text at s rest =
    (ps : List Piece) (end : Stood) → AreItems rest ps → stood_behind at s ps ≡ Ok end → HasItems text end

continues : (text : List ℕ) → Continues text 0 nothing text
continues text ps end are stood = (ps, are, stood)

-- before the first one
pub begun_same : (text : List ℕ) (s : Stood) → s ≡ nothing → stood_from 0 nothing 0 text ≡ stood_from 0 s 0 text
begun_same text s e = ap (λ t. stood_from 0 t 0 text) (sym e)

pub begun_on : (text : List ℕ) (s : Stood) → s ≡ nothing → Continues text 0 s text
begun_on text s e = subst (λ t. Continues text 0 t text) (sym e) (continues text)

pub continues_on : (text : List ℕ) (at : ℕ) (s after : Stood) (rest : List ℕ) (p : Piece) → 0 < p.len →
    p.len ≤ length rest → piece_of rest ≡ Some p → stands at s p.item ≡ Ok after → Continues text at s rest →
    Continues text (at + p.len) after (drop p.len rest)
continues_on text at s after rest p low high e ok so ps end are stood =
    so (p ∷ ps) end ((e, low, high), are) (ap (λ r. r >>= λ a. stood_behind (at + p.len) a ps) ok ∙ stood)

pub continued : (text : List ℕ) (at : ℕ) (s : Stood) (rest : List ℕ) → length rest ≡ 0 → Continues text at s rest →
    HasItems text s
continued text at s [] none so = so [] s refl refl
continued text at s (b ∷ rest) none so = absurd (omega arith)

-- the items of a text are what its bytes say
items_say : (at : ℕ) (s : Stood) (text : List ℕ) (ps : List Piece) → AreItems text ps →
    stood_from at s 0 text ≡ stood_behind at s ps
items_say at s text [] none = ap (stood_from at s 0) none
items_say at s text (p ∷ ps) are =
    let front = are.0 in
    item_then at s text p front.1 front.2 front.0
    ∙ on_result (stands at s p.item) (λ a. stood_from (at + p.len) a 0 (drop p.len text)) (λ a. stood_behind (at + p.len) a ps)
    (λ a. items_say (at + p.len) a (drop p.len text) ps are.1)

pub said_by_items : (text : List ℕ) (ps : List Piece) → AreItems text ps →
    stood_from 0 nothing 0 text ≡ stood_behind 0 nothing ps
said_by_items text ps are = items_say 0 nothing text ps are
