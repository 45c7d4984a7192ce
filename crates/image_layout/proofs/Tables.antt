-- What the tables of a layout have, whichever kind they are: each can be written.
use Rattle.std.specs.Prelude.{◌≡◌, ◌≢◌, ℕ, ◌/◌, ◌≤◌, List, [], ◌∷◌, All, Option, Some, None, IfSome, IsSomeAnd, length, slice_index_or}
use Rattle.std.proofs.Common.{refl, sym, ap, subst, arith, inl, inr}
use Rattle.std.proofs.lemmas.Bool.{cases_lt}
use Rattle.std.proofs.lemmas.List.{get_or_past}
use Rattle.std.proofs.lemmas.List.Elements.{All-cons, All-nil}
use Rattle.base_fields.specs.declared.spans.TableKind.{TableKind}
use Rattle.base_fields.specs.declared.spans.TableKind.TheVariants as table
use Rattle.mbr_table.specs.Mbr.{HasLast, no_entry, protective}
use Rattle.mbr_table.specs.Reading.{MbrFits}
use Rattle.mbr_table.specs.declared.mbr.MbrEntry.{MbrEntry}
use Rattle.mbr_table.specs.declared.mbr.MbrSpec.{MbrSpec}
use Rattle.extended_chain.specs.Chain.{Ascends}
use Rattle.extended_chain.specs.declared.chain.LogicalSpec.{LogicalSpec}
use Rattle.gpt_table.specs.Gpt.{front_end}
use Rattle.gpt_table.specs.declared.table.GptSpec.{GptSpec}
use Rattle.hybrid_table.specs.Hybrid.{HybridFits, hybrid_spec}
use Rattle.hybrid_table.proofs.ReadsBack.{hybrid_fits}
use Rattle.image_layout.specs.IsLayout.{IsChain, IsGuid, IsHybrid, IsLayout, IsMbr, IsProtected, IsTabled, extended_slot}
use Rattle.image_layout.specs.declared.layout.Layout.{Layout}

-- a master boot record whose numbers fit, each of whose entries has a last sector
pub record CanBeWritten (spec : MbrSpec) : Type 0 where
  pub fits : MbrFits spec
  pub last : All (HasLast 0) spec.entries

pub record HasTables (l : Layout) : Type 0 where
  pub mbr : IfSome l.mbr CanBeWritten
  pub few : length l.logical ≤ 256
  pub ascends : Ascends l.logical
  pub gpt : IfSome l.gpt (IsGuid l)

-- ---- the chain

none_ascend : Ascends []
none_ascend = record { ahead = λ k h. absurd (omega arith); rises = λ k h. absurd (omega arith); fits = λ k h. absurd (omega arith) }

-- few that ascend
abbrev IsShortChain : List LogicalSpec → Type 0
IsShortChain specs = (length specs ≤ 256) × Ascends specs

no_chain : (specs : List LogicalSpec) → specs ≡ [] → IsShortChain specs
no_chain specs none = subst IsShortChain (sym none) (omega arith, none_ascend)

short_chain : (specs : List LogicalSpec) → (specs ≢ [] → IsShortChain specs) → IsShortChain specs
short_chain [] some = (omega arith, none_ascend)
short_chain (x ∷ xs) some = some (λ none. absurd (cc))

chain_of : (l : Layout) (spec : MbrSpec) → IsMbr l spec → IsShortChain l.logical
chain_of l spec is = short_chain l.logical (λ some. let chain : IsChain spec l.logical (extended_slot spec l.logical) = is.chain some in (chain.few, chain.ascends))

-- ---- the record beside a GUID partition table

abbrev spec_of : ℕ → List MbrEntry → MbrSpec
spec_of signature entries = record { signature = signature; entries = entries }

none_last : HasLast 0 no_entry
none_last used = absurd (cc)

protective_last : (sectors : ℕ) → HasLast 0 (protective sectors)
protective_last sectors used = omega arith

given_last : (given : List MbrEntry) (k : ℕ) → All (HasLast 0) given → HasLast 0 (slice_index_or given k no_entry)
given_last given k last = elim (cases_lt k (length given)) [
  | inl inside ↦ last k no_entry inside
  | inr past ↦ rw (get_or_past given k no_entry past) none_last
]

four_last : (a b c d : MbrEntry) → HasLast 0 a → HasLast 0 b → HasLast 0 c → HasLast 0 d → All (HasLast 0) (a ∷ b ∷ c ∷ d ∷ [])
four_last a b c d p q r s =
    All-cons (HasLast 0) a (b ∷ c ∷ d ∷ []) p
    (All-cons (HasLast 0) b (c ∷ d ∷ []) q (All-cons (HasLast 0) c (d ∷ []) r (All-cons (HasLast 0) d [] s (All-nil (HasLast 0)))))

hybrid_last : (signature front : ℕ) (given : List MbrEntry) → All (HasLast 0) given → All (HasLast 0) (hybrid_spec signature front given).entries
hybrid_last signature front given last =
    four_last _ _ _ _ (protective_last front) (given_last given 0 last) (given_last given 1 last) (given_last given 2 last)

-- a protective record is a hybrid one with no entries, of the whole disk
protected_written : (l : Layout) (g : GptSpec) (spec : MbrSpec) → IsProtected l g spec → CanBeWritten spec
protected_written l g spec is =
    let given : HybridFits spec.signature [] = record { few = omega arith; signature_fits = is.signature; entries = λ k h. absurd (omega arith) } in
    let same : spec ≡ hybrid_spec spec.signature g.sectors [] = ap (spec_of spec.signature) is.entries in
    subst CanBeWritten (sym same) (record { fits = hybrid_fits spec.signature g.sectors [] given; last = hybrid_last spec.signature g.sectors [] (All-nil (HasLast 0)) })

hybrid_written : (l : Layout) (g : GptSpec) (spec : MbrSpec) → IsHybrid l g spec → CanBeWritten spec
hybrid_written l g spec is =
    subst CanBeWritten (sym is.entries) (record {
      fits = hybrid_fits spec.signature (front_end g / 512) l.hybrid is.fits;
      last = hybrid_last spec.signature (front_end g / 512) l.hybrid is.last;
    })

-- ---- by the kind of table

-- what a GUID partition table and the record beside it have
pub record IsBeside (l : Layout) (g : GptSpec) (spec : MbrSpec) : Type 0 where
  pub guid : IsGuid l g
  pub mbr : CanBeWritten spec

pub beside_protected : (l : Layout) (g : GptSpec) (spec : MbrSpec) → IsProtected l g spec → IsBeside l g spec
beside_protected l g spec is = record { guid = is.guid; mbr = protected_written l g spec is }

pub beside_hybrid : (l : Layout) (g : GptSpec) (spec : MbrSpec) → IsHybrid l g spec → IsBeside l g spec
beside_hybrid l g spec is = record { guid = is.guid; mbr = hybrid_written l g spec is }

-- both are there
pub both_there : (P Q : GptSpec → MbrSpec → Type 0) (gpt : Option GptSpec) (mbr : Option MbrSpec) → ((g : GptSpec) (spec : MbrSpec) → P g spec → Q g spec) → IsSomeAnd gpt (λ g. IsSomeAnd mbr (P g)) → IsSomeAnd gpt (λ g. IsSomeAnd mbr (Q g))
both_there P Q None mbr f is = absurd is
both_there P Q (Some g) None f is = absurd is
both_there P Q (Some g) (Some spec) f is = f g spec is

-- the same of tables that are held apart from their layout
record HasEach (l : Layout) (mbr : Option MbrSpec) (gpt : Option GptSpec) : Type 0 where
  record_fits : IfSome mbr CanBeWritten
  chain : IsShortChain l.logical
  guid_fits : IfSome gpt (IsGuid l)

by_record : (l : Layout) (mbr : Option MbrSpec) (gpt : Option GptSpec) → IsSomeAnd mbr (IsMbr l) → gpt ≡ l.gpt → HasEach l mbr gpt
by_record l None gpt is same = absurd is
by_record l (Some spec) None is same = record { record_fits = record { fits = is.fits; last = is.last }; chain = chain_of l spec is; guid_fits = tt }
by_record l (Some spec) (Some g) is same = let none : l.gpt ≡ None = is.gpt in absurd (cc)

by_both : (l : Layout) (mbr : Option MbrSpec) (gpt : Option GptSpec) → IsSomeAnd gpt (λ g. IsSomeAnd mbr (IsBeside l g)) → HasEach l mbr gpt
by_both l mbr None is = absurd is
by_both l None (Some g) is = absurd is
by_both l (Some spec) (Some g) is = record { record_fits = is.mbr; chain = no_chain l.logical is.guid.logical; guid_fits = is.guid }

by_kind : (t : TableKind) (l : Layout) → IsTabled t l → HasEach l l.mbr l.gpt
by_kind table.Bare l is = record {
  record_fits = subst (λ (m : Option MbrSpec). IfSome m CanBeWritten) (sym is.mbr) tt;
  chain = no_chain l.logical is.logical;
  guid_fits = subst (λ (g : Option GptSpec). IfSome g (IsGuid l)) (sym is.gpt) tt;
}
by_kind table.Mbr l is = by_record l l.mbr l.gpt is refl
by_kind table.Gpt l is = by_both l l.mbr l.gpt (both_there (IsProtected l) (IsBeside l) l.gpt l.mbr (beside_protected l) is)
by_kind table.Hybrid l is = by_both l l.mbr l.gpt (both_there (IsHybrid l) (IsBeside l) l.gpt l.mbr (beside_hybrid l) is)

pub has_tables : (t : TableKind) (l : Layout) → IsTabled t l → HasTables l
has_tables t l is =
    let each : HasEach l l.mbr l.gpt = by_kind t l is in
    record { mbr = each.record_fits; few = each.chain.0; ascends = each.chain.1; gpt = each.guid_fits }

pub tables_of : (l : Layout) → IsLayout l → HasTables l
tables_of l is = has_tables l.table l is.tabled
