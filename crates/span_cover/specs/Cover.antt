-- Sets of offsets as lists of spans, and the blocks that such a set touches.
use Rattle.std.specs.Prelude.{◌≡◌, ℕ, ◌+◌, ◌/◌, ◌^◌, ◌<◌, ◌≤◌, ◌↔◌, List, Bool, ◌||◌, ◌&&◌, not, nat_le, nat_lt, IsTrue, All, AllPairs}
use Rattle.std.specs.List.{list_any}
use Rattle.base_fields.specs.declared.spans.Span.{Span}

-- whether a span has an offset
abbrev pub has : Span → ℕ → Bool
has span o = nat_le span.at o && nat_lt o (span.at + span.len)

-- whether one of the spans has it
abbrev pub covers : List Span → ℕ → Bool
covers spans o = list_any (λ span. has span o) spans

-- the one list that a set of offsets has: no span is empty, and each ends before the next ones begin, with a gap between
pub record AreApart (spans : List Span) : Type 0 where
  pub filled : All (λ span. 0 < span.len) spans
  pub apart : AllPairs (λ span later. span.at + span.len < later.at) spans

-- what a cover keeps of its list
pub record IsCover (spans : List Span) : Type 0 where
  pub apart : AreApart spans
  pub bounded : All (λ span. span.at + span.len ≤ 2 ^ 44) spans

-- the offsets with those of a span
abbrev pub HasMore : List Span → Span → List Span → Type 0
HasMore old span new = (o : ℕ) → covers new o ≡ (covers old o || has span o)

-- the offsets without those of a span
abbrev pub HasLess : List Span → Span → List Span → Type 0
HasLess old span new = (o : ℕ) → covers new o ≡ (covers old o && not (has span o))

-- an offset is in both
abbrev pub Meets : List Span → Span → Type 0
Meets spans span = (o : ℕ) × IsTrue (covers spans o) × IsTrue (has span o)

-- a block has a covered offset below the size
abbrev pub IsTouched : List Span → ℕ → ℕ → ℕ → Type 0
IsTouched spans size block b = (o : ℕ) × IsTrue (covers spans o) × (o < size) × (o / block ≡ b)

-- the maximal runs of the blocks that are touched, each as its first block and how many they are
pub record AreTouchedRuns (spans : List Span) (size block : ℕ) (runs : List Span) : Type 0 where
  pub maximal : AreApart runs
  pub exact : (b : ℕ) → IsTrue (covers runs b) ↔ IsTouched spans size block b
