-- An image whose tables read back as those of a layout is read as these.
use Rattle.std.specs.Prelude.{◌≡◌, ◌≢◌, ℕ, List, [], ◌∷◌, length, map, slice_index_or, Bool, true, false, Option, None, Some, option_map, IsSomeAnd, Ok, if◌then◌else◌}
use Rattle.std.specs.List.{list_all}
use Rattle.std.proofs.Common.{refl, ap, sym, subst, ◌∙◌, arith}
use Rattle.base_fields.specs.declared.spans.TableKind.{TableKind}
use Rattle.base_fields.specs.declared.spans.TableKind.TheVariants as table
use Rattle.mbr_table.specs.Mbr.{is_empty, no_entry}
use Rattle.mbr_table.specs.Reading.{MbrFits, ReadsMbr}
use Rattle.mbr_table.specs.declared.mbr.MbrEntry.{MbrEntry}
use Rattle.mbr_table.specs.declared.mbr.MbrSpec.{MbrSpec}
use Rattle.extended_chain.specs.ChainReading.{logical_entry}
use Rattle.extended_chain.specs.Extended.{ReadsExtended}
use Rattle.extended_chain.specs.declared.chain.LogicalSpec.{LogicalSpec}
use Rattle.gpt_table.specs.Gpt.{back_header, front_header, slot_of}
use Rattle.gpt_table.specs.Reading.{ReadsGpt}
use Rattle.gpt_table.specs.declared.entry.GptEntry.{GptEntry}
use Rattle.gpt_table.specs.declared.header.GptHeader.{GptHeader}
use Rattle.gpt_table.specs.declared.table.GptSpec.{GptSpec}
use Rattle.gpt_reading.specs.declared.tables.GptTable.{GptTable}
use Rattle.table_reading.specs.Recognised.{image_of}
use Rattle.table_reading.specs.Sector.{sector_of}
use Rattle.table_reader.specs.Tables.{tables_in}
use Rattle.table_reader.specs.declared.tables.Tables.{Tables}
use Rattle.image_layout.specs.IsLayout.{IsHybrid, IsMbr, IsProtected, IsTabled, extended_slot}
use Rattle.image_layout.specs.ReadsBack.{ReadsAs}
use Rattle.image_layout.specs.declared.layout.Layout.{Layout}
use Rattle.image_layout.proofs.Tables.{IsBeside, beside_hybrid, beside_protected, both_there}
use Rattle.table_laws.specs.Laws.{IsDistinct, IsRecognised, LayoutsAreRead, LayoutsReadAs, kind_for, slot_for, whole_for}
use Rattle.table_laws.specs.ReadAs.{AreBytes, AreLogical, Guid, ReadAs, ReadsGuid, Slots, Whole, extended_in, four_slots, used_of}
use Rattle.table_laws.proofs.Recognised.{HasHeaders, layouts_are_recognised, with_both}
use Rattle.table_laws.proofs.Tables.{read_so, tables_with}

-- ---- with what the layout has

-- the chain from the slot of the extended partition
abbrev ReadsChain : (ℕ → ℕ) → Layout → MbrSpec → Type 0
ReadsChain image l spec = l.logical ≢ [] →
    ReadsExtended image spec (extended_slot spec l.logical) (map logical_entry l.logical)

logical_by : (image : ℕ → ℕ) (spec : MbrSpec) (specs : List LogicalSpec) →
    (specs ≢ [] → ReadsExtended image spec (extended_slot spec specs) (map logical_entry specs)) →
    AreLogical image (slot_for specs spec) (map logical_entry specs)
logical_by image spec [] reads = refl
logical_by image spec (s ∷ specs) reads = (reads (λ none. absurd cc)).chain

-- a layout has no GUID partition table beside a master boot record alone
record_by : (l : Layout) (bytes : List ℕ) (mbr : Option MbrSpec) → IsSomeAnd mbr (IsMbr l) →
    IsSomeAnd mbr (λ spec. ReadsMbr (image_of bytes) spec × ReadsChain (image_of bytes) l spec) →
    IsSomeAnd mbr (λ spec. ReadAs table.Mbr bytes (slot_for l.logical spec) l.sector (whole_for l spec l.gpt))
record_by l bytes None is reads = absurd is
record_by l bytes (Some spec) is reads =
    subst (λ (gpt : Option GptSpec). ReadAs table.Mbr bytes (slot_for l.logical spec) l.sector (whole_for l spec gpt))
    (sym is.gpt)
    (reads.0, logical_by (image_of bytes) spec l.logical reads.1)

as_by : (kind : TableKind) (l : Layout) (bytes : List ℕ) → length bytes ≡ l.size → kind ≢ table.Bare → IsTabled kind l →
    ReadsAs kind (image_of bytes) l →
    IsSomeAnd l.mbr (λ spec. ReadAs kind bytes (slot_for l.logical spec) l.sector (whole_for l spec l.gpt))
as_by table.Bare l bytes size some is reads = absurd (some refl)
as_by table.Mbr l bytes size some is reads = record_by l bytes l.mbr is reads
as_by table.Gpt l bytes size some is reads =
    with_both l bytes (IsProtected l) (λ gpt spec. ReadAs table.Gpt bytes (slot_for l.logical spec) l.sector
    (whole_for l spec gpt)) l.gpt l.mbr size is reads
    (λ spec g beside mbr headers. (mbr, headers))
as_by table.Hybrid l bytes size some is reads =
    with_both l bytes (IsHybrid l) (λ gpt spec. ReadAs table.Hybrid bytes (slot_for l.logical spec) l.sector
    (whole_for l spec gpt)) l.gpt l.mbr size is reads
    (λ spec g beside mbr headers. (mbr, headers))

pub layouts_read_as : LayoutsReadAs
layouts_read_as l bytes is some size reads = as_by l.table l bytes size some is.tabled reads

-- ---- the tables that are listed

four_entries : (xs : List MbrEntry) → length xs ≡ 4 →
    slice_index_or xs 0 no_entry ∷ slice_index_or xs 1 no_entry ∷ slice_index_or xs 2 no_entry ∷ slice_index_or xs 3
    no_entry ∷ [] ≡ xs
four_entries (a ∷ b ∷ c ∷ d ∷ []) four = refl
four_entries _ four = absurd (omega arith)

same_tables : (kind other_kind : TableKind) (id : ℕ) (slots other_slots : List MbrEntry)
    (logical other_logical : List MbrEntry) (gpt other_gpt : Option GptTable) (z other_z : ℕ) →
    kind ≡ other_kind → slots ≡ other_slots → logical ≡ other_logical → gpt ≡ other_gpt → z ≡ other_z →
    tables_with kind id slots logical gpt z ≡ tables_with other_kind id other_slots other_logical other_gpt other_z
same_tables kind other_kind id slots other_slots logical other_logical gpt other_gpt z other_z a b c d e =
    ap (λ (x : TableKind). tables_with x id slots logical gpt z) a
    ∙ ap (λ (x : List MbrEntry). tables_with other_kind id x logical gpt z) b
    ∙ ap (λ (x : List MbrEntry). tables_with other_kind id other_slots x gpt z) c
    ∙ ap (λ (x : Option GptTable). tables_with other_kind id other_slots other_logical x z) d
    ∙ ap (λ (x : ℕ). tables_with other_kind id other_slots other_logical other_gpt x) e

-- the table of a layout
abbrev table_for : Option GptSpec → Option GptTable
table_for gpt = option_map (λ g. used_of (front_header g) (slot_of g.entries)) gpt

-- the same with a kind and a table that stand for the layout's
abbrev tables_by : TableKind → Layout → Option GptSpec → MbrSpec → Tables
tables_by kind l gpt spec = tables_with kind spec.signature spec.entries (map logical_entry l.logical)
    (table_for gpt) l.sector

mbr_listed : (l : Layout) (bytes : List ℕ) (spec : MbrSpec) → AreBytes bytes → IsMbr l spec →
    ReadsMbr (image_of bytes) spec → ReadsChain (image_of bytes) l spec → IsRecognised table.Mbr l bytes spec →
    tables_in bytes ≡ Ok (tables_by table.Mbr l l.gpt spec)
mbr_listed l bytes spec small is mbr chain shown =
    let logical = map logical_entry l.logical in
    let read = read_so bytes table.Mbr (slot_for l.logical spec) 512 (Slots spec logical) small shown.kind_is
    (shown.slot_is refl) refl
    (mbr, logical_by (image_of bytes) spec l.logical chain) in
    let there : tables_with table.Mbr spec.signature (four_slots spec) logical None 512
    ≡ tables_by table.Mbr l l.gpt spec =
    same_tables table.Mbr table.Mbr spec.signature (four_slots spec) spec.entries logical logical None
    (table_for l.gpt) 512 l.sector
    refl (four_entries spec.entries is.fits.four) refl (sym (ap table_for is.gpt)) (sym is.sector) in
    read ∙ ap Ok there

records_listed : (l : Layout) (bytes : List ℕ) (mbr : Option MbrSpec) → AreBytes bytes → IsSomeAnd mbr (IsMbr l) →
    IsSomeAnd mbr (λ spec. ReadsMbr (image_of bytes) spec × ReadsChain (image_of bytes) l spec) →
    IsSomeAnd mbr (λ spec. IsRecognised table.Mbr l bytes spec) →
    IsSomeAnd mbr (λ spec. tables_in bytes ≡ Ok (tables_by table.Mbr l l.gpt spec))
records_listed l bytes None small is reads shown = absurd is
records_listed l bytes (Some spec) small is reads shown = mbr_listed l bytes spec small is reads.0 reads.1 shown

-- a GUID partition table, with what is recognised beside it
guid_listed : (kind : TableKind) (l : Layout) (bytes : List ℕ) (spec : MbrSpec) (g : GptSpec) → AreBytes bytes →
    IsBeside l g spec → IsRecognised kind l bytes spec →
    ReadAs (kind_for kind l) bytes (extended_in bytes) l.sector
    (Guid spec (front_header g) (back_header g) (slot_of g.entries)) →
    tables_in bytes ≡ Ok (tables_by (kind_for kind l) l (Some g) spec)
guid_listed kind l bytes spec g small is shown reads =
    let whole : Whole = Guid spec (front_header g) (back_header g) (slot_of g.entries) in
    let gpt : Option GptTable = Some (used_of (front_header g) (slot_of g.entries)) in
    let fits : MbrFits spec = is.mbr.fits in
    let sector : sector_of (kind_for kind l) bytes ≡ l.sector =
    subst (λ (k : TableKind). sector_of k bytes ≡ l.sector) shown.kind_is shown.sector_is in
    let read = read_so bytes (kind_for kind l)
    (extended_in bytes) l.sector whole small shown.kind_is refl sector reads in
    let there : tables_with (kind_for kind l) spec.signature (four_slots spec) [] gpt l.sector
    ≡ tables_by (kind_for kind l) l (Some g) spec =
    same_tables (kind_for kind l) (kind_for kind l) spec.signature (four_slots spec) spec.entries []
    (map logical_entry l.logical) gpt gpt l.sector l.sector
    refl (four_entries spec.entries fits.four) (sym (ap (map logical_entry) is.guid.logical)) refl refl in
    read ∙ ap Ok there

-- what reads as one kind of these reads as the other
either_kind : (b : Bool) (bytes : List ℕ) (slot z : ℕ) (spec : MbrSpec) (front back : GptHeader)
    (entries : ℕ → GptEntry) → ReadsGuid bytes z spec front back entries →
    ReadAs (if b then table.Gpt else table.Hybrid) bytes slot z (Guid spec front back entries)
either_kind true bytes slot z spec front back entries reads = reads
either_kind false bytes slot z spec front back entries reads = reads

-- what is recognised of the record goes with it
guids_listed : (kind : TableKind) (l : Layout) (bytes : List ℕ) (gpt : Option GptSpec) (mbr : Option MbrSpec) →
    AreBytes bytes → length bytes ≡ l.size → IsSomeAnd gpt (λ g. IsSomeAnd mbr (IsBeside l g)) →
    IsSomeAnd mbr (λ spec. ReadsMbr (image_of bytes) spec)
    × IsSomeAnd gpt (λ g. ReadsGpt (image_of bytes) l.size l.sector (front_header g) (back_header g)
    (slot_of g.entries)) →
    ((spec : MbrSpec) (g : GptSpec) → ReadsMbr (image_of bytes) spec × HasHeaders l bytes g →
    ReadAs (kind_for kind l) bytes (extended_in bytes) l.sector
    (Guid spec (front_header g) (back_header g) (slot_of g.entries))) →
    IsSomeAnd mbr (λ spec. IsRecognised kind l bytes spec) →
    IsSomeAnd mbr (λ spec. tables_in bytes ≡ Ok (tables_by (kind_for kind l) l gpt spec))
guids_listed kind l bytes None mbr small size is reads as_kind shown = absurd is
guids_listed kind l bytes (Some g) None small size is reads as_kind shown = absurd is
guids_listed kind l bytes (Some g) (Some spec) small size is reads as_kind shown =
    let headers : HasHeaders l bytes g = subst
    (λ (len : ℕ). ReadsGpt (image_of bytes) len l.sector (front_header g) (back_header g) (slot_of g.entries))
    (sym size) reads.1 in
    guid_listed kind l bytes spec g small is shown (as_kind spec g (reads.0, headers))

listed_by : (kind : TableKind) (l : Layout) (bytes : List ℕ) → AreBytes bytes → length bytes ≡ l.size →
    IsTabled kind l → ReadsAs kind (image_of bytes) l → kind ≢ table.Bare →
    IsSomeAnd l.mbr (λ spec. IsRecognised kind l bytes spec) →
    IsSomeAnd l.mbr (λ spec. tables_in bytes ≡ Ok (tables_by (kind_for kind l) l l.gpt spec))
listed_by table.Bare l bytes small size is reads some shown = absurd (some refl)
listed_by table.Mbr l bytes small size is reads some shown = records_listed l bytes l.mbr small is reads shown
listed_by table.Gpt l bytes small size is reads some shown =
    guids_listed table.Gpt l bytes l.gpt l.mbr small size
    (both_there (IsProtected l) (IsBeside l) l.gpt l.mbr (beside_protected l) is) reads (λ spec g both. both) shown
listed_by table.Hybrid l bytes small size is reads some shown =
    guids_listed table.Hybrid l bytes l.gpt l.mbr small size
    (both_there (IsHybrid l) (IsBeside l) l.gpt l.mbr (beside_hybrid l) is) reads
    (λ spec g both. either_kind (list_all is_empty l.hybrid) bytes (extended_in bytes) l.sector spec (front_header g)
    (back_header g) (slot_of g.entries) both) shown

not_bare : (kind : TableKind) (l : Layout) (bytes : List ℕ) → IsDistinct kind l bytes → kind ≢ table.Bare
not_bare table.Bare l bytes distinct = absurd distinct
not_bare table.Mbr l bytes distinct = λ bare. absurd cc
not_bare table.Gpt l bytes distinct = λ bare. absurd cc
not_bare table.Hybrid l bytes distinct = λ bare. absurd cc

pub layouts_are_read : LayoutsAreRead
layouts_are_read l bytes small is size reads distinct =
    listed_by l.table l bytes small size is.tabled reads (not_bare l.table l bytes distinct)
    (layouts_are_recognised l bytes is size reads distinct)
