-- What a cover gains by one thing after another.
use Rattle.std.specs.Prelude.{◌≡◌, ℕ, ◌+◌, ◌-◌, ◌*◌, ◌<◌, ◌≤◌, List, [], ◌∷◌, ◌++◌, take, length, Option, Some, Bool, true, false, ◌&&◌, ◌||◌, not, nat_le, nat_lt, is_some, if◌then◌else◌}
use Rattle.std.specs.List.{list_any}
use Rattle.std.proofs.Common.{refl, ◌∙◌, sym, ap, arith, get_or}
use Rattle.std.proofs.Math.Bool.{or_assoc}
use Rattle.std.proofs.lemmas.Bool.{lt-ltb, ltb-true}
use Rattle.std.proofs.lemmas.List.{take_all}
use Rattle.std.proofs.lemmas.List.Folds.{list_any_more, list_any-append}
use Rattle.base_fields.specs.Parts.{Part, part_byte}
use Rattle.base_fields.specs.Parts.{covers as part_has}
use Rattle.base_fields.specs.declared.spans.Span.{Span}
use Rattle.span_cover.specs.Cover.{HasMore, covers, has}
use Rattle.extended_chain.specs.Chain.{chain_parts, record_parts, start_of}
use Rattle.extended_chain.specs.declared.chain.LogicalSpec.{LogicalSpec}
use Rattle.image_layout.specs.Covering.{Gains, is_in, is_left, is_shown, reach_of}
use Rattle.image_layout.specs.Layout.{guid_parts_of, is_covered, record_parts_of, table_byte, table_parts}
use Rattle.image_layout.specs.declared.layout.Layout.{Layout}
use Rattle.image_layout.specs.declared.layout.Placed.{Placed}

pub or_false : (a : Bool) → (a || false) ≡ a
or_false true = refl
or_false false = refl

-- ---- one after another

pub gains_both : (old mid new : List Span) (first second both : ℕ → Bool) → Gains old first mid → Gains mid second new → ((o : ℕ) → (first o || second o) ≡ both o) → Gains old both new
gains_both old mid new first second both one two same o =
    two o ∙ ap (λ (b : Bool). b || second o) (one o) ∙ or_assoc (covers old o) (first o) (second o) ∙ ap (λ (b : Bool). covers old o || b) (same o)

pub gains_one : (old new : List Span) (s : Span) → HasMore old s new → (o : ℕ) → covers new o ≡ (covers old o || (has s o || false))
gains_one old new s more o = more o ∙ ap (λ (b : Bool). covers old o || b) (sym (or_false (has s o)))

pub gains_two : (old mid new : List Span) (s t : Span) → HasMore old s mid → HasMore mid t new → (o : ℕ) → covers new o ≡ (covers old o || (has s o || (has t o || false)))
gains_two old mid new s t one two o =
    two o ∙ ap (λ (b : Bool). b || has t o) (one o) ∙ or_assoc (covers old o) (has s o) (has t o)
    ∙ ap (λ (b : Bool). covers old o || (has s o || b)) (sym (or_false (has t o)))

pub gains_none : (old : List Span) → Gains old (λ o. false) old
gains_none old o = sym (or_false (covers old o))

-- one more of a list, and all of it
pub gains_more : {X : Type 0} (test : X → ℕ → Bool) (xs : List X) (k : ℕ) (d : X) (old mid new : List Span) → k < length xs → Gains old (λ o. list_any (λ x. test x o) (take k xs)) mid → Gains mid (test (get_or xs k d)) new → Gains old (λ o. list_any (λ x. test x o) (take (k + 1) xs)) new
gains_more test xs k d old mid new inside before after o =
    after o ∙ ap (λ (b : Bool). b || test (get_or xs k d) o) (before o)
    ∙ or_assoc (covers old o) (list_any (λ x. test x o) (take k xs)) (test (get_or xs k d) o)
    ∙ ap (λ (b : Bool). covers old o || b) (sym (list_any_more (λ x. test x o) xs k d inside))

pub gains_all : {X : Type 0} (test : X → ℕ → Bool) (xs : List X) (k : ℕ) (old new : List Span) → length xs ≤ k → Gains old (λ o. list_any (λ x. test x o) (take k xs)) new → Gains old (λ o. list_any (λ x. test x o) xs) new
gains_all {X} test xs k old new all gained o = gained o ∙ ap (λ (l : List X). covers old o || list_any (λ x. test x o) l) (take_all k xs all)

-- ---- partitions

narrow : (l s n t : Bool) → (t ≡ true → s ≡ true) → (l && s && n && t || false) ≡ (l && t && n)
narrow false s n t within = refl
narrow true false n false within = refl
narrow true false n true within = absurd (let off : false ≡ true = within refl in cc)
narrow true true false false within = refl
narrow true true false true within = refl
narrow true true true false within = refl
narrow true true true true within = refl

absorbed : (x t : Bool) → (x && t || x) ≡ x
absorbed true true = refl
absorbed true false = refl
absorbed false t = refl

by_whole : (w : Bool) (at size len o : ℕ) (n : Bool) → len ≤ size → (nat_le at o && nat_lt o (at + size) && n && nat_lt o (at + len) || (w && (nat_le at o && nat_lt o (at + size) && n))) ≡ (nat_le at o && nat_lt o (at + (if w then size else len)) && n)
by_whole true at size len o n short = absorbed (nat_le at o && nat_lt o (at + size) && n) (nat_lt o (at + len))
by_whole false at size len o n short =
    narrow (nat_le at o) (nat_lt o (at + size)) n (nat_lt o (at + len))
    (λ h. lt-ltb o (at + size) (let below : o < at + len = ltb-true o (at + len) h in omega arith))

-- what a partition covers is what its holes leave of its file, or of all of it
shown_left : (p : Placed) (o : ℕ) → p.len ≤ p.size → is_left p.at (reach_of p) p.holes o ≡ is_shown p o
shown_left p o short = sym (by_whole p.whole p.at p.size p.len o (not (covers p.holes (o - p.at))) short)

pub gains_part : (p : Placed) (old new : List Span) → p.len ≤ p.size → Gains old (is_left p.at (reach_of p) p.holes) new → Gains old (is_shown p) new
gains_part p old new short gained o = gained o ∙ ap (λ (b : Bool). covers old o || b) (shown_left p o short)

-- ---- tables

some_by_test : (c : Bool) (x : ℕ) (rest : Option ℕ) (b : Bool) → is_some rest ≡ b → is_some (if c then Some x else rest) ≡ (c || b)
some_by_test true x rest b same = refl
some_by_test false x rest b same = same

-- parts have a byte at an offset exactly where one of them has the offset
pub some_in : (ps : List Part) (o : ℕ) → is_some (part_byte ps o) ≡ is_in ps o
some_in [] o = refl
some_in (p ∷ ps) o = some_by_test (part_has p o) (p.byte (o - p.at)) (part_byte ps o) (is_in ps o) (some_in ps o)

-- the sector of a boot record
abbrev pub record_span : LogicalSpec → Span
record_span s = record { at = 512 * s.head; len = 512 }

records_in : (start : ℕ) (specs : List LogicalSpec) (o : ℕ) → is_in (record_parts start specs) o ≡ list_any (λ s. has (record_span s) o) specs
records_in start [] o = refl
records_in start (s ∷ specs) o = ap (λ (b : Bool). has (record_span s) o || b) (records_in start specs o)

pub gains_chain : (specs : List LogicalSpec) (old new : List Span) → Gains old (λ o. list_any (λ s. has (record_span s) o) specs) new → Gains old (is_in (chain_parts specs)) new
gains_chain specs old new gained o = gained o ∙ ap (λ (b : Bool). covers old o || b) (sym (records_in (start_of specs) specs o))

tables_in : (l : Layout) (o : ℕ) → is_some (table_byte l o) ≡ (is_in (record_parts_of l.mbr) o || is_in (chain_parts l.logical) o || is_in (guid_parts_of l.gpt) o)
tables_in l o =
    let front : List Part = record_parts_of l.mbr ++ chain_parts l.logical in
    some_in (table_parts l) o
    ∙ list_any-append (λ p. part_has p o) front (guid_parts_of l.gpt)
    ∙ ap (λ (b : Bool). b || is_in (guid_parts_of l.gpt) o) (list_any-append (λ p. part_has p o) (record_parts_of l.mbr) (chain_parts l.logical))

-- ---- all of a layout

grouped : (w r c g : Bool) → (w || r || c || g) ≡ (w || (r || c || g))
grouped true r c g = refl
grouped false r c g = refl

-- a cover that begins with nothing and gains one after another
pub covers_layout : (l : Layout) (none whole record_too chain_too guid_too all : List Span) → none ≡ [] → Gains none (λ o. l.whole && nat_lt o l.size) whole → Gains whole (is_in (record_parts_of l.mbr)) record_too → Gains record_too (is_in (chain_parts l.logical)) chain_too → Gains chain_too (is_in (guid_parts_of l.gpt)) guid_too → Gains guid_too (λ o. list_any (λ p. is_shown p o) l.parts) all → (o : ℕ) → covers all o ≡ is_covered l o
covers_layout l none whole record_too chain_too guid_too all start a b c d e o =
    let w : Bool = l.whole && nat_lt o l.size in
    let r : Bool = is_in (record_parts_of l.mbr) o in
    let k : Bool = is_in (chain_parts l.logical) o in
    let g : Bool = is_in (guid_parts_of l.gpt) o in
    let p : Bool = list_any (λ q. is_shown q o) l.parts in
    e o ∙ ap (λ (x : Bool). x || p) (d o ∙ ap (λ (x : Bool). x || g) (c o ∙ ap (λ (x : Bool). x || k) (b o ∙ ap (λ (x : Bool). x || r) (a o ∙ ap (λ (s : List Span). covers s o || w) start)))
    ∙ grouped w r k g ∙ ap (λ (x : Bool). w || x) (sym (tables_in l o)))
