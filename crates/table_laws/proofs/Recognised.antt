-- What is recognised of an image whose tables read back as those of a layout.
use Rattle.std.specs.Prelude.{◌≡◌, ◌≢◌, ℕ, zero, suc, ◌+◌, ◌*◌, ◌/◌, ◌<◌, ◌≤◌, ◌⊎◌, ◌==◌, ◌&&◌, not, nat_le, List, [], ◌∷◌, codes, length, slice_index_or, Bool, true, false, Option, None, Some, IsSomeAnd, if◌then◌else◌}
use Rattle.std.specs.List.{list_all}
use Rattle.std.proofs.Common.{refl, ap, sym, subst, ◌∙◌, arith, inl, inr, lit<}
use Rattle.std.proofs.lemmas.Bool.{and_from, cases_eq, eq-eqb, le-leb, ne_eqb, or_from, or_right}
use Rattle.base_fields.specs.declared.spans.TableKind.{TableKind}
use Rattle.base_fields.specs.declared.spans.TableKind.TheVariants as table
use Rattle.mbr_table.specs.Mbr.{entry_of, is_empty, no_entry, protective}
use Rattle.mbr_table.specs.Reading.{MbrFits, ReadsMbr, spec_at}
use Rattle.mbr_table.specs.declared.mbr.MbrEntry.{MbrEntry}
use Rattle.mbr_table.specs.declared.mbr.MbrSpec.{MbrSpec}
use Rattle.mbr_table.proofs.Held.{mbr_is_read}
use Rattle.extended_chain.specs.declared.chain.LogicalSpec.{LogicalSpec}
use Rattle.gpt_table.specs.Gpt.{back_header, front_end, front_header, slot_of}
use Rattle.gpt_table.specs.Reading.{ReadsGpt}
use Rattle.gpt_table.specs.declared.table.GptSpec.{GptSpec}
use Rattle.hybrid_table.specs.Hybrid.{hybrid_spec}
use Rattle.table_reading.specs.Header.{said, signature}
use Rattle.table_reading.specs.Recognised.{extended_slot as slot_recognised, image_of, is_extended, kind_of}
use Rattle.table_reading.specs.Sector.{begins_header, sector_of, sector_of_header}
use Rattle.image_layout.specs.IsLayout.{IsChain, IsHybrid, IsMbr, IsProtected, IsTabled, extended_slot}
use Rattle.image_layout.specs.ReadsBack.{ReadsAs}
use Rattle.image_layout.specs.declared.layout.Layout.{Layout}
use Rattle.image_layout.proofs.Tables.{beside_hybrid, beside_protected}
use Rattle.table_laws.specs.Laws.{HasPlainSlots, IsDistinct, IsPlain, IsRecognised, LayoutsAreRecognised, ShowsSector, kind_for, slot_for}
use Rattle.table_laws.specs.ReadAs.{kind_in}
use Rattle.table_laws.proofs.Headers.{text_said}

-- ---- the slot of the extended partition

plain_not : (e : MbrEntry) → IsPlain e → is_extended e ≡ false
plain_not e plain = or_from _ _ (ne_eqb _ _ plain.0) (ne_eqb _ _ plain.1)

-- the first of four that passes
abbrev first_of_four : (ℕ → Bool) → ℕ
first_of_four f = if f 0 then 1 else if f 1 then 2 else if f 2 then 3 else if f 3 then 4 else 0

no_slot : (f : ℕ → Bool) → ((j : ℕ) → j < 4 → f j ≡ false) → first_of_four f ≡ 0
no_slot f none =
    let a = none 0 (lit< tt) in
    let b = none 1 (lit< tt) in
    let c = none 2 (lit< tt) in
    let d = none 3 (lit< tt) in
    rw (a, b, c, d) refl

one_slot : (f : ℕ → Bool) (k : ℕ) → k < 4 → f k ≡ true → ((j : ℕ) → j < 4 → j ≢ k → f j ≡ false) →
    first_of_four f ≡ suc k
one_slot f zero few is others = rw is refl
one_slot f (suc zero) few is others =
    let a = others 0 (lit< tt) (λ same. absurd (omega (arith, same))) in
    rw (a, is) refl
one_slot f (suc (suc zero)) few is others =
    let a = others 0 (lit< tt) (λ same. absurd (omega (arith, same))) in
    let b = others 1 (lit< tt) (λ same. absurd (omega (arith, same))) in
    rw (a, b, is) refl
one_slot f (suc (suc (suc zero))) few is others =
    let a = others 0 (lit< tt) (λ same. absurd (omega (arith, same))) in
    let b = others 1 (lit< tt) (λ same. absurd (omega (arith, same))) in
    let c = others 2 (lit< tt) (λ same. absurd (omega (arith, same))) in
    rw (a, b, c, is) refl
one_slot f (suc (suc (suc (suc k)))) few is others = absurd (omega arith)

-- a first slot of another type
not_guid : (spec : MbrSpec) → (entry_of spec 0).kind ≢ 0xEE → kind_of spec ≡ table.Mbr
not_guid spec other =
    let test : ((entry_of spec 0).kind == 0xEE) ≡ false = ne_eqb _ _ other in
    ap (λ (b : Bool). if b then (if is_empty (entry_of spec 1) && is_empty (entry_of spec 2) && is_empty
    (entry_of spec 3) then table.Gpt else table.Hybrid) else table.Mbr) test

-- what a record is recognised as
record RecordShown (l : Layout) (spec : MbrSpec) : Type 0 where
  kind : kind_of spec ≡ table.Mbr
  slot : slot_recognised spec ≡ slot_for l.logical spec

shown_alone : (l : Layout) (spec : MbrSpec) → HasPlainSlots l spec → l.logical ≡ [] → RecordShown l spec
shown_alone l spec plain none =
    let all : (j : ℕ) → j < 4 → IsPlain (entry_of spec j) = λ j h. plain j h (inl none) in
    let no : slot_recognised spec ≡ 0 = no_slot (λ j. is_extended (entry_of spec j))
    (λ j h. plain_not (entry_of spec j) (all j h)) in
    record {
      kind = not_guid spec (all 0 (lit< tt)).2;
      slot = no ∙ sym (ap (λ (xs : List LogicalSpec). slot_for xs spec) none);
    }

extended_kind : (l : Layout) (spec : MbrSpec) → IsChain spec l.logical (extended_slot spec l.logical) →
    (entry_of spec (extended_slot spec l.logical)).kind ≡ 0x0F
extended_kind l spec chain = ap (λ (e : MbrEntry). e.kind) chain.entry

first_kind : (l : Layout) (spec : MbrSpec) → IsChain spec l.logical (extended_slot spec l.logical) →
    HasPlainSlots l spec → (entry_of spec 0).kind ≢ 0xEE
first_kind l spec chain plain = elim (cases_eq 0 (extended_slot spec l.logical)) [
  | inl same ↦ λ guid. let is : 0x0F ≡ 0xEE = sym (extended_kind l spec chain)
      ∙ ap (λ (k : ℕ). (entry_of spec k).kind) (sym same) ∙ guid in absurd (omega (arith, is))
  | inr other ↦ (plain 0 (lit< tt) (inr other)).2
]

some_slot : (specs : List LogicalSpec) (spec : MbrSpec) → specs ≢ [] →
    slot_for specs spec ≡ suc (extended_slot spec specs)
some_slot [] spec some = absurd (some refl)
some_slot (s ∷ specs) spec some = refl

shown_chain : (l : Layout) (spec : MbrSpec) → IsChain spec l.logical (extended_slot spec l.logical) →
    HasPlainSlots l spec → l.logical ≢ [] → RecordShown l spec
shown_chain l spec chain plain some =
    let k : ℕ = extended_slot spec l.logical in
    let here : is_extended (entry_of spec k) ≡ true = or_right _ _ (eq-eqb _ _ (extended_kind l spec chain)) in
    let one : slot_recognised spec ≡ suc k =
    one_slot (λ j. is_extended (entry_of spec j)) k chain.slot here
    (λ j h other. plain_not (entry_of spec j) (plain j h (inr other))) in
    record {
      kind = not_guid spec (first_kind l spec chain plain);
      slot = one ∙ sym (some_slot l.logical spec some);
    }

pub nothing_or : (xs : List LogicalSpec) → (xs ≡ []) ⊎ (xs ≢ [])
nothing_or [] = inl refl
nothing_or (x ∷ xs) = inr (λ none. absurd cc)

record_shown : (l : Layout) (spec : MbrSpec) → IsMbr l spec → HasPlainSlots l spec → RecordShown l spec
record_shown l spec is plain = elim (nothing_or l.logical) [
  | inl none ↦ shown_alone l spec plain none
  | inr some ↦ shown_chain l spec (is.chain some) plain some
]

-- ---- a master boot record

mbr_shown : (l : Layout) (bytes : List ℕ) (spec : MbrSpec) → IsMbr l spec → ReadsMbr (image_of bytes) spec →
    HasPlainSlots l spec → IsRecognised table.Mbr l bytes spec
mbr_shown l bytes spec is reads plain =
    let same : spec_at (image_of bytes) ≡ spec = mbr_is_read spec (image_of bytes) is.fits reads in
    let shown = record_shown l spec is plain in
    let kind : kind_in bytes ≡ table.Mbr = ap kind_of same ∙ shown.kind in
    record {
      kind_is = kind;
      slot_is = λ same_kind. ap slot_recognised same ∙ shown.slot;
      sector_is = ap (λ (k : TableKind). sector_of k bytes) kind ∙ sym is.sector;
    }

-- ---- the sector size

-- a header at LBA 1 shows where it stands
begins_there : (bytes : List ℕ) (z : ℕ) (g : GptSpec) →
    ReadsGpt (image_of bytes) (length bytes) z (front_header g) (back_header g) (slot_of g.entries) →
    begins_header bytes (1 * z) ≡ true
begins_there bytes z g reads =
    let within = reads.header.inside in
    let long : nat_le (1 * z + 8) (length bytes) ≡ true = le-leb _ _ (omega (arith, within)) in
    let is : (said bytes (1 * z) 8 == signature) ≡ true =
    eq-eqb _ _ (text_said (image_of bytes) (1 * z) 8 (codes "EFI PART") reads.header.signature) in
    and_from _ _ long is

shows_small : (bytes : List ℕ) → begins_header bytes 512 ≡ true → sector_of_header bytes ≡ 512
shows_small bytes first = ap (λ (b : Bool). if not b && begins_header bytes 4096 then 4096 else 512) first

shows_large : (bytes : List ℕ) → begins_header bytes 512 ≡ false → begins_header bytes 4096 ≡ true →
    sector_of_header bytes ≡ 4096
shows_large bytes none there =
    ap (λ (b : Bool). if not b && begins_header bytes 4096 then 4096 else 512) none
    ∙ ap (λ (b : Bool). if b then 4096 else 512) there

sector_shown : (bytes : List ℕ) (z : ℕ) → (z ≡ 512) ⊎ (z ≡ 4096) → (z ≡ 4096 → begins_header bytes 512 ≡ false) →
    begins_header bytes (1 * z) ≡ true → sector_of_header bytes ≡ z
sector_shown bytes z (inl small) none there =
    let first : begins_header bytes 512 ≡ true = subst (λ (n : ℕ). begins_header bytes (1 * n) ≡ true) small there in
    shows_small bytes first ∙ sym small
sector_shown bytes z (inr large) none there =
    let first : begins_header bytes 4096 ≡ true = subst (λ (n : ℕ). begins_header bytes (1 * n) ≡ true) large there in
    shows_large bytes (none large) first ∙ sym large

-- ---- a GUID partition table

-- the headers of a layout, in an image of its size
abbrev pub HasHeaders : Layout → List ℕ → GptSpec → Type 0
HasHeaders l bytes g = ReadsGpt (image_of bytes) (length bytes) l.sector (front_header g) (back_header g)
    (slot_of g.entries)

-- either kind, by which the sector size is looked for
guid_shown : (kind : TableKind) (l : Layout) (bytes : List ℕ) (spec : MbrSpec) → (kind ≢ table.Mbr) → MbrFits spec →
    ReadsMbr (image_of bytes) spec → kind_of spec ≡ kind_for kind l →
    sector_of (kind_for kind l) bytes ≡ l.sector → IsRecognised kind l bytes spec
guid_shown kind l bytes spec other fits reads shown sector =
    let same : spec_at (image_of bytes) ≡ spec = mbr_is_read spec (image_of bytes) fits reads in
    let is : kind_in bytes ≡ kind_for kind l = ap kind_of same ∙ shown in
    record {
      kind_is = is;
      slot_is = λ mbr. absurd (other mbr);
      sector_is = ap (λ (k : TableKind). sector_of k bytes) is ∙ sector;
    }

-- a protective entry shows a GUID partition table
protected_kind : (spec : MbrSpec) (sectors : ℕ) →
    spec.entries ≡ protective sectors ∷ no_entry ∷ no_entry ∷ no_entry ∷ [] → kind_of spec ≡ table.Gpt
protected_kind spec sectors is = ap (λ (es : List MbrEntry). kind_of
    (record { signature = spec.signature; entries = es })) is

protected_shown : (l : Layout) (bytes : List ℕ) (spec : MbrSpec) (g : GptSpec) → IsProtected l g spec →
    (l.sector ≡ 512) ⊎ (l.sector ≡ 4096) → ShowsSector l bytes →
    ReadsMbr (image_of bytes) spec → HasHeaders l bytes g → IsRecognised table.Gpt l bytes spec
protected_shown l bytes spec g is sized alone mbr reads =
    guid_shown table.Gpt l bytes spec (λ same. absurd cc) (beside_protected l g spec is).mbr.fits mbr
    (protected_kind spec g.sectors is.entries)
    (sector_shown bytes l.sector sized alone (begins_there bytes l.sector g reads))

-- the slots behind the protective entry are the hybrid's own
all_three : (x y z : Bool) → (x && y && z) ≡ (x && (y && (z && true)))
all_three true true true = refl
all_three true true false = refl
all_three true false true = refl
all_three true false false = refl
all_three false true true = refl
all_three false true false = refl
all_three false false true = refl
all_three false false false = refl

three_empty : (given : List MbrEntry) → length given ≤ 3 →
    (is_empty (slice_index_or given 0 no_entry) && is_empty (slice_index_or given 1 no_entry) && is_empty
    (slice_index_or given 2 no_entry)) ≡ list_all is_empty given
three_empty [] few = refl
three_empty (a ∷ []) few = all_three (is_empty a) true true
three_empty (a ∷ b ∷ []) few = all_three (is_empty a) (is_empty b) true
three_empty (a ∷ b ∷ c ∷ []) few = all_three (is_empty a) (is_empty b) (is_empty c)
three_empty (a ∷ b ∷ c ∷ d ∷ rest) few = absurd (omega (arith, few))

hybrid_kind : (id front : ℕ) (given : List MbrEntry) → length given ≤ 3 →
    kind_of (hybrid_spec id front given) ≡ (if list_all is_empty given then table.Gpt else table.Hybrid)
hybrid_kind id front given few = ap (λ (b : Bool). if b then table.Gpt else table.Hybrid) (three_empty given few)

-- the sector size is looked for in both
by_header : (b : Bool) (bytes : List ℕ) →
    sector_of (if b then table.Gpt else table.Hybrid) bytes ≡ sector_of_header bytes
by_header true bytes = refl
by_header false bytes = refl

hybrid_shown : (l : Layout) (bytes : List ℕ) (spec : MbrSpec) (g : GptSpec) → IsHybrid l g spec →
    ReadsMbr (image_of bytes) spec → HasHeaders l bytes g → IsRecognised table.Hybrid l bytes spec
hybrid_shown l bytes spec g is mbr reads =
    let sector : l.sector ≡ 512 = sym is.guid.sector ∙ is.sector in
    let first : begins_header bytes 512 ≡ true =
    subst (λ (n : ℕ). begins_header bytes (1 * n) ≡ true) sector (begins_there bytes l.sector g reads) in
    guid_shown table.Hybrid l bytes spec (λ same. absurd cc) (beside_hybrid l g spec is).mbr.fits mbr
    (ap kind_of is.entries ∙ hybrid_kind spec.signature (front_end g / 512) l.hybrid is.fits.few)
    (by_header (list_all is_empty l.hybrid) bytes ∙ shows_small bytes first ∙ sym sector)

-- ---- by the kind of table

-- what holds of both tables of a layout in an image of its size
pub with_both : (l : Layout) (bytes : List ℕ) (P : GptSpec → MbrSpec → Type 0) (Q : Option GptSpec → MbrSpec → Type 0)
    (gpt : Option GptSpec) (mbr : Option MbrSpec) → length bytes ≡ l.size →
    IsSomeAnd gpt (λ g. IsSomeAnd mbr (P g)) →
    IsSomeAnd mbr (λ spec. ReadsMbr (image_of bytes) spec)
    × IsSomeAnd gpt (λ g. ReadsGpt (image_of bytes) l.size l.sector (front_header g) (back_header g)
    (slot_of g.entries)) →
    ((spec : MbrSpec) (g : GptSpec) → P g spec → ReadsMbr (image_of bytes) spec → HasHeaders l bytes g →
    Q (Some g) spec) →
    IsSomeAnd mbr (Q gpt)
with_both l bytes P Q None mbr size is reads give = absurd is
with_both l bytes P Q (Some g) None size is reads give = absurd is
with_both l bytes P Q (Some g) (Some spec) size is reads give =
    give spec g is reads.0
    (subst (λ (len : ℕ). ReadsGpt (image_of bytes) len l.sector (front_header g) (back_header g) (slot_of g.entries))
    (sym size) reads.1)

record_with : (l : Layout) (bytes : List ℕ) (mbr : Option MbrSpec) (R : MbrSpec → Type 0) → IsSomeAnd mbr (IsMbr l) →
    IsSomeAnd mbr (λ spec. ReadsMbr (image_of bytes) spec × R spec) → IsSomeAnd mbr (HasPlainSlots l) →
    IsSomeAnd mbr (IsRecognised table.Mbr l bytes)
record_with l bytes None R is reads plain = absurd is
record_with l bytes (Some spec) R is reads plain = mbr_shown l bytes spec is reads.0 plain

shown_by : (kind : TableKind) (l : Layout) (bytes : List ℕ) → length bytes ≡ l.size →
    (l.sector ≡ 512) ⊎ (l.sector ≡ 4096) → IsTabled kind l → ReadsAs kind (image_of bytes) l → IsDistinct kind l bytes →
    IsSomeAnd l.mbr (λ spec. IsRecognised kind l bytes spec)
shown_by table.Bare l bytes size sized is reads distinct = absurd distinct
shown_by table.Mbr l bytes size sized is reads plain = record_with l bytes l.mbr _ is reads plain
shown_by table.Gpt l bytes size sized is reads alone =
    with_both l bytes (IsProtected l) (λ gpt spec. IsRecognised table.Gpt l bytes spec) l.gpt l.mbr size is reads
    (λ spec g beside mbr headers. protected_shown l bytes spec g beside sized alone mbr headers)
shown_by table.Hybrid l bytes size sized is reads distinct =
    with_both l bytes (IsHybrid l) (λ gpt spec. IsRecognised table.Hybrid l bytes spec) l.gpt l.mbr size is reads
    (λ spec g beside mbr headers. hybrid_shown l bytes spec g beside mbr headers)

pub layouts_are_recognised : LayoutsAreRecognised
layouts_are_recognised l bytes is size reads distinct = shown_by l.table l bytes size is.sector is.tabled reads distinct
