-- Texts that are read item by item, and line by line.
use Rattle.std.proofs.Common.{◌≡◌, ℕ, ◌+◌, ◌<◌, List, [], ◌∷◌, ◌++◌, length, drop, Result, Ok, Some, ap, refl, subst, sym, ◌∙◌}
use Rattle.std.proofs.Common.{append_assoc, arith, length-append}
use Rattle.std.proofs.Math.Seq.{drop-append_seam}
use Rattle.base_fields.specs.Results.{◌>>=◌}
use Rattle.bmap_grammar.specs.Document.{stood_behind}
use Rattle.bmap_grammar.specs.Items.{AreItems, piece_of, sized}
use Rattle.bmap_grammar.specs.Stood.{blank_behind, stands}
use Rattle.bmap_grammar.specs.Text.{is_space}
use Rattle.bmap_grammar.specs.declared.faults.MapFault.{MapFault}
use Rattle.bmap_grammar.specs.declared.items.Item.{Item}
use Rattle.bmap_grammar.specs.declared.items.Item.TheVariants as item
use Rattle.bmap_grammar.specs.declared.items.Piece.{Piece}
use Rattle.bmap_grammar.specs.declared.stood.Stood.{Stood}
use Rattle.bmap_writer.specs.Written.{ended}
use Rattle.bmap_laws.proofs.Bytes.{Pass}
use Rattle.bmap_laws.proofs.Fronts.{blank_piece, end_blank}

-- a text at a place is items behind which this has stood
abbrev pub Reads : ℕ → Stood → List ℕ → Stood → Type 0
Reads at s text end = (items : List Piece) × AreItems text items × (stood_behind at s items ≡ Ok end)

pub nothing_more : (at : ℕ) (s : Stood) → Reads at s [] s
nothing_more at s = ([], refl, refl)

-- an item, and the rest
pub one_more : (at : ℕ) (s next end : Stood) (i : Item) (front rest : List ℕ) → 0 < length front →
    piece_of (front ++ rest) ≡ Some (sized i (length front)) → stands at s i ≡ Ok next →
    Reads (at + length front) next rest end → Reads at s (front ++ rest) end
one_more at s next end i front rest some is stand more =
    let both = length-append front rest in
    let behind : AreItems (drop (length front) (front ++ rest)) more.0 =
    subst (λ (xs : List ℕ). AreItems xs more.0) (sym (drop-append_seam front rest)) more.1 in (
      sized i (length front) ∷ more.0,
      ((is, some, omega (arith, both)), behind),
      ap (λ (r : Result Stood MapFault). r >>= λ after. stood_behind (at + length front) after more.0) stand ∙ more.2,
    )

-- what has stood behind white space
abbrev pub spaced_out : Stood → Stood
spaced_out s = record s { stage = blank_behind s.stage }

line_apart : (blank tag rest : List ℕ) → 10 ∷ (ended (blank ++ tag) ++ rest) ≡ (10 ∷ blank) ++ (tag ++ 10 ∷ rest)
line_apart blank tag rest =
    ap (λ (xs : List ℕ). 10 ∷ xs)
    (append_assoc (blank ++ tag) (10 ∷ []) rest ∙ append_assoc blank tag (10 ∷ rest))

line_long : (at : ℕ) (blank tag : List ℕ) →
    at + length (10 ∷ blank) + length tag ≡ at + length (ended (blank ++ tag))
line_long at blank tag =
    let whole = length-append (blank ++ tag) (10 ∷ []) in
    let both = length-append blank tag in
    omega (arith, whole, both)

-- a line: the LF in front of it, its white space and its tag
pub line_read : (at : ℕ) (s next end : Stood) (i : Item) (blank tag rest : List ℕ) → Pass is_space blank →
    piece_of ((60 ∷ tag) ++ 10 ∷ rest) ≡ Some (sized i (length (60 ∷ tag))) →
    stands (at + length (10 ∷ blank)) (spaced_out s) i ≡ Ok next →
    Reads (at + length (ended (blank ++ 60 ∷ tag))) next (10 ∷ rest) end →
    Reads at s (10 ∷ (ended (blank ++ 60 ∷ tag) ++ rest)) end
line_read at s next end i blank tag rest white is stand more =
    let behind : Reads (at + length (10 ∷ blank) + length (60 ∷ tag)) next (10 ∷ rest) end =
    subst (λ (n : ℕ). Reads n next (10 ∷ rest) end) (sym (line_long at blank (60 ∷ tag))) more in
    let here : Reads (at + length (10 ∷ blank)) (spaced_out s) ((60 ∷ tag) ++ 10 ∷ rest) end =
    one_more (at + length (10 ∷ blank)) (spaced_out s) next end i (60 ∷ tag) (10 ∷ rest) (omega arith) is stand
    behind in
    subst (λ (xs : List ℕ). Reads at s xs end) (sym (line_apart blank (60 ∷ tag) rest))
    (one_more at s (spaced_out s) end item.Blank (10 ∷ blank) ((60 ∷ tag) ++ 10 ∷ rest) (omega arith)
    (blank_piece blank (tag ++ 10 ∷ rest) white) refl here)

-- the LF behind the last line
pub end_read : (at : ℕ) (s : Stood) → Reads at s (10 ∷ []) (spaced_out s)
end_read at s =
    one_more at s (spaced_out s) (spaced_out s) item.Blank (10 ∷ []) [] (omega arith) end_blank refl
    (nothing_more (at + 1) (spaced_out s))
