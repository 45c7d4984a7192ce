-- Two images that have the same bytes from two offsets on read the same there, and the other way round.
use Rattle.std.specs.Prelude.{◌≡◌, ℕ, zero, suc, ◌+◌, ◌-◌, ◌*◌, ◌<◌, ◌≤◌, ◌==◌, List, [], ◌∷◌, length, get_or}
use Rattle.std.proofs.Common.{refl, ap, sym, ◌∙◌, arith, inl, inr}
use Rattle.std.proofs.lemmas.Bool.{cases_lt}
use Rattle.base_fields.specs.Fields.{number_at}
use Rattle.base_fields.specs.Numbers.{guid_order}
use Rattle.base_fields.proofs.Images.{same_number}
use Rattle.mbr_table.specs.Reading.{slot_at as mbr_slot_at}
use Rattle.mbr_table.proofs.SlotReads.{same_entry as same_mbr_entry}
use Rattle.gpt_table.specs.Reading.{guid_at, slot_at, units_at}
use Rattle.gpt_table.specs.Span.{bytes_at}
use Rattle.gpt_table.specs.declared.entry.GptEntry.{GptEntry}
use Rattle.gpt_table.proofs.Spans.{get_or-bytes_at, length-bytes_at, same_bytes_at}

-- so many bytes are the same
abbrev pub Same : (ℕ → ℕ) → (ℕ → ℕ) → ℕ → ℕ → ℕ → Type 0
Same image other o p n = (j : ℕ) → j < n → image (o + j) ≡ other (p + j)

pub shifted : (image other : ℕ → ℕ) (o p n a w : ℕ) → a + w ≤ n → Same image other o p n →
    Same image other (o + a) (p + a) w
shifted image other o p n a w within same j inside =
    let here : o + a + j ≡ o + (a + j) = omega arith in
    let there : p + (a + j) ≡ p + a + j = omega arith in
    ap image here ∙ same (a + j) (omega arith) ∙ ap other there

pub fewer : (image other : ℕ → ℕ) (o p n w : ℕ) → w ≤ n → Same image other o p n → Same image other o p w
fewer image other o p n w within same j inside = same j (omega arith)

same_first : (image other : ℕ → ℕ) (o p n : ℕ) → 0 < n → Same image other o p n → image o ≡ other p
same_first image other o p n some same =
    let here : o ≡ o + 0 = omega arith in
    let there : p + 0 ≡ p = omega arith in
    ap image here ∙ same 0 some ∙ ap other there

-- ---- the same bytes read the same

pub same_mbr_slot : (image other : ℕ → ℕ) (o p : ℕ) → Same image other o p 16 →
    mbr_slot_at image o ≡ mbr_slot_at other p
same_mbr_slot image other o p same =
    same_mbr_entry (mbr_slot_at image o) (mbr_slot_at other p)
    (ap (λ (n : ℕ). n == 0x80) (same_first image other o p 16 (omega arith) same))
    (same 4 (omega arith))
    (same_number image other (o + 8) (p + 8) 4 (shifted image other o p 16 8 4 (omega arith) same))
    (same_number image other (o + 12) (p + 12) 4 (shifted image other o p 16 12 4 (omega arith) same))

pub same_guid : (image other : ℕ → ℕ) (o p : ℕ) → Same image other o p 16 → guid_at image o ≡ guid_at other p
same_guid image other o p same = ap guid_order (same_bytes_at image other o p 16 same)

same_units : (image other : ℕ → ℕ) (o p n : ℕ) → Same image other o p (2 * n) → units_at image o n ≡ units_at other p n
unfolding units_at
same_units image other o p zero same = refl
same_units image other o p (suc n) same =
    let first = same_number image other o p 2 (fewer image other o p (2 * suc n) 2 (omega arith) same) in
    let rest = same_units image other (o + 2) (p + 2) n
    (shifted image other o p (2 * suc n) 2 (2 * n) (omega arith) same) in
    rw (first, rest) refl

-- entries with the same fields are one
abbrev entry : List ℕ → List ℕ → ℕ → ℕ → ℕ → List ℕ → GptEntry
entry kind own first last attrs name = record {
  kind = kind;
  own = own;
  first = first;
  last = last;
  attrs =
      attrs;
  name = name;
}

same_entry : (a b : GptEntry) → a.kind ≡ b.kind → a.own ≡ b.own → a.first ≡ b.first → a.last ≡ b.last →
    a.attrs ≡ b.attrs → a.name ≡ b.name → a ≡ b
same_entry a b kind own first last attrs name =
    ap (λ (x : List ℕ). entry x a.own a.first a.last a.attrs a.name) kind
    ∙ ap (λ (x : List ℕ). entry b.kind x a.first a.last a.attrs a.name) own
    ∙ ap (λ (x : ℕ). entry b.kind b.own x a.last a.attrs a.name) first
    ∙ ap (λ (x : ℕ). entry b.kind b.own b.first x a.attrs a.name) last
    ∙ ap (λ (x : ℕ). entry b.kind b.own b.first b.last x a.name) attrs
    ∙ ap (λ (x : List ℕ). entry b.kind b.own b.first b.last b.attrs x) name

pub same_slot : (image other : ℕ → ℕ) (o p : ℕ) → Same image other o p 128 → slot_at image o ≡ slot_at other p
same_slot image other o p same =
    let number : (a : ℕ) → a + 8 ≤ 128 → number_at image (o + a) 8 ≡ number_at other (p + a) 8 =
    λ a h. same_number image other (o + a) (p + a) 8 (shifted image other o p 128 a 8 h same) in
    same_entry (slot_at image o) (slot_at other p)
    (same_guid image other o p (fewer image other o p 128 16 (omega arith) same))
    (same_guid image other (o + 16) (p + 16) (shifted image other o p 128 16 16 (omega arith) same))
    (number 32 (omega arith)) (number 40 (omega arith)) (number 48 (omega arith))
    (same_units image other (o + 56) (p + 56) 36 (shifted image other o p 128 56 72 (omega arith) same))

-- ---- bytes that read the same are the same

-- an image of bytes
abbrev pub HasBytes : (ℕ → ℕ) → Type 0
HasBytes image = (o : ℕ) → image o < 256

pub number_bytes : (image other : ℕ → ℕ) (o p n : ℕ) → HasBytes image → HasBytes other →
    number_at image o n ≡ number_at other p n → Same image other o p n
number_bytes image other o p zero small fits h j inside = absurd (omega arith)
number_bytes image other o p (suc n) small fits h j inside =
    let below = small o in
    let under = fits p in
    let first : image o ≡ other p = omega (arith, below, under, h) in
    let rest : number_at image (o + 1) n ≡ number_at other (p + 1) n = omega (arith, below, under, h) in
    elim (cases_lt 0 j) [
      | inl later ↦
          let here : o + j ≡ o + 1 + (j - 1) = omega arith in
          let there : p + 1 + (j - 1) ≡ p + j = omega arith in
          ap image here ∙ number_bytes image other (o + 1) (p + 1) n small fits rest (j - 1) (omega arith)
          ∙ ap other there
      | inr none ↦
          let here : o + j ≡ o = omega arith in
          let there : p ≡ p + j = omega arith in
          ap image here ∙ first ∙ ap other there
    ]

units_bytes : (image other : ℕ → ℕ) (o p n : ℕ) → HasBytes image → HasBytes other →
    units_at image o n ≡ units_at other p n → Same image other o p (2 * n)
unfolding units_at
units_bytes image other o p zero small fits h j inside = absurd (omega arith)
units_bytes image other o p (suc n) small fits h j inside =
    let first : number_at image o 2 ≡ number_at other p 2 = cc in
    let rest : units_at image (o + 2) n ≡ units_at other (p + 2) n = cc in
    elim (cases_lt j 2) [
      | inl early ↦ number_bytes image other o p 2 small fits first j early
      | inr later ↦
          let here : o + j ≡ o + 2 + (j - 2) = omega arith in
          let there : p + 2 + (j - 2) ≡ p + j = omega arith in
          ap image here ∙ units_bytes image other (o + 2) (p + 2) n small fits rest (j - 2) (omega arith)
          ∙ ap other there
    ]

-- turned twice, an identifier is itself
guid_twice : (id : List ℕ) → length id ≡ 16 → guid_order (guid_order id) ≡ id
guid_twice (a ∷ b ∷ c ∷ d ∷ e ∷ f ∷ g ∷ h ∷ i ∷ j ∷ k ∷ l ∷ m ∷ n ∷ o ∷ p ∷ []) sixteen = refl
guid_twice _ sixteen = absurd (omega arith)

pub guid_bytes : (image other : ℕ → ℕ) (o p : ℕ) → guid_at image o ≡ guid_at other p → Same image other o p 16
guid_bytes image other o p h j inside =
    let these : List ℕ = bytes_at image o 16 in
    let those : List ℕ = bytes_at other p 16 in
    let turned : guid_order (guid_order these) ≡ guid_order (guid_order those) = ap guid_order h in
    let same : these ≡ those =
    sym (guid_twice these (length-bytes_at image o 16)) ∙ turned ∙ guid_twice those (length-bytes_at other p 16) in
    sym (get_or-bytes_at image o 16 j inside) ∙ ap (λ (xs : List ℕ). get_or xs j 0) same
    ∙ get_or-bytes_at other p 16 j inside

-- a part of a slot
at_part : (image other : ℕ → ℕ) (o p a w j : ℕ) → a ≤ j → j < a + w → Same image other (o + a) (p + a) w →
    image (o + j) ≡ other (p + j)
at_part image other o p a w j behind inside same =
    let here : o + j ≡ o + a + (j - a) = omega arith in
    let there : p + a + (j - a) ≡ p + j = omega arith in
    ap image here ∙ same (j - a) (omega arith) ∙ ap other there

pub slot_bytes : (image other : ℕ → ℕ) (o p : ℕ) → HasBytes image → HasBytes other → slot_at image o ≡ slot_at other p →
    Same image other o p 128
slot_bytes image other o p small fits h j inside =
    let number : (a : ℕ) → number_at image (o + a) 8 ≡ number_at other (p + a) 8 → Same image other (o + a) (p + a) 8 =
    λ a same. number_bytes image other (o + a) (p + a) 8 small fits same in
    elim (cases_lt j 16) [
      | inl here ↦ guid_bytes image other o p (ap (λ (e : GptEntry). e.kind) h) j here
      | inr past ↦ elim (cases_lt j 32) [
        | inl here ↦ at_part image other o p 16 16 j past here
            (guid_bytes image other (o + 16) (p + 16) (ap (λ (e : GptEntry). e.own) h))
        | inr past_own ↦ elim (cases_lt j 40) [
          | inl here ↦ at_part image other o p 32 8 j past_own here (number 32 (ap (λ (e : GptEntry). e.first) h))
          | inr past_first ↦ elim (cases_lt j 48) [
            | inl here ↦ at_part image other o p 40 8 j past_first here (number 40 (ap (λ (e : GptEntry). e.last) h))
            | inr past_last ↦ elim (cases_lt j 56) [
              | inl here ↦ at_part image other o p 48 8 j past_last here (number 48 (ap (λ (e : GptEntry). e.attrs) h))
              | inr past_attrs ↦
                  at_part image other o p 56 72 j past_attrs inside
                  (units_bytes image other (o + 56) (p + 56) 36 small fits (ap (λ (e : GptEntry). e.name) h))
            ]
          ]
        ]
      ]
    ]
