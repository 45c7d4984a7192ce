-- The byte of a layout at an offset, by cases: that of a table, that of a partition's file, or the fill.
use Rattle.std.specs.Prelude.{◌≡◌, ℕ, zero, suc, ◌+◌, ◌-◌, ◌<◌, ◌≤◌, List, [], ◌∷◌, All, AllPairs, Contains, Option, Some, None, Bool, true, false, ◌&&◌, not, nat_lt, nat_le, IsTrue, if◌then◌else◌, length, slice_index, slice_index_or, unwrap_or}
use Rattle.std.specs.Option.{option_or}
use Rattle.std.proofs.Common.{refl, ◌∙◌, ap, arith}
use Rattle.std.proofs.lemmas.Bool.{false_from_ne_true, ltb-true}
use Rattle.std.proofs.lemmas.List.Elements.{All-tail}
use Rattle.base_fields.specs.Parts.{HoldsParts, Part}
use Rattle.base_fields.proofs.PartBytes.{part_byte-in, part_byte-none}
use Rattle.gpt_table.proofs.Parts.{part_byte-before}
use Rattle.span_cover.specs.Cover.{covers}
use Rattle.image_layout.specs.IsLayout.{ClaimApart, IsLayout}
use Rattle.image_layout.specs.Layout.{byte_at, end_of, file_byte, has_file_byte, is_claimed, source_bytes, table_byte, table_parts}
use Rattle.image_layout.specs.ReadsBack.{ReadsBack}
use Rattle.image_layout.specs.declared.layout.Layout.{Layout}
use Rattle.image_layout.specs.declared.layout.Placed.{Placed}
use Rattle.image_layout.proofs.ReadsBack.{layout_reads_back}

-- ---- tests

left_of : (a b : Bool) → IsTrue (a && b) → IsTrue a
left_of true b h = refl
left_of false b h = h

right_of : (a b : Bool) → IsTrue (a && b) → IsTrue b
right_of true b h = h
right_of false b h = absurd (cc)

-- an offset whose byte is that of a partition's file is one that the partition claims
pub file_in_claim : (p : Placed) (o : ℕ) → IsTrue (has_file_byte p o) → IsTrue (is_claimed p o)
file_in_claim p o h = left_of (is_claimed p o) (nat_lt o (p.at + p.len)) h

-- ---- in a table

-- the byte of a table, where one has the offset
pub byte_of_table : (l : Layout) (bytes : List ℕ → List ℕ) (o b : ℕ) → table_byte l o ≡ Some b → byte_at l bytes o ≡ b
byte_of_table l bytes o b has = ap (λ (found : Option ℕ). unwrap_or (option_or found (file_byte bytes l.parts o)) l.fill) has

-- each part of the tables has its own bytes
pub byte_of_part : (l : Layout) (bytes : List ℕ → List ℕ) (p : Part) (o : ℕ) → IsLayout l → Contains (table_parts l) p → o < p.len → byte_at l bytes (p.at + o) ≡ p.byte o
byte_of_part l bytes p o is found inside =
    byte_of_table l bytes (p.at + o) (p.byte o) (part_byte-in (table_parts l) p o is.apart.tables found inside)

-- no table has a byte at or behind the end
pub table_byte_past : (l : Layout) (o : ℕ) → IsLayout l → l.size ≤ o → table_byte l o ≡ None
table_byte_past l o is past =
    part_byte-none (table_parts l) o (λ k d h within. let low = is.inside k d h in omega (arith, within.1))

pub table_byte_before : (l : Layout) (o b : ℕ) → IsLayout l → table_byte l o ≡ Some b → o < l.size
table_byte_before l o b is has = part_byte-before (table_parts l) l.size o b is.inside has

-- ---- behind the tables

abbrev behind_tables : Layout → Option ℕ → Option ℕ → ℕ
behind_tables l in_table in_file = unwrap_or (option_or in_table in_file) l.fill

-- where no table has a byte it is that of a file, or the fill
pub byte_beside_tables : (l : Layout) (bytes : List ℕ → List ℕ) (o : ℕ) → table_byte l o ≡ None → byte_at l bytes o ≡ unwrap_or (file_byte bytes l.parts o) l.fill
byte_beside_tables l bytes o none = ap (λ (found : Option ℕ). behind_tables l found (file_byte bytes l.parts o)) none

-- ---- in a file

first_file : (bytes : List ℕ → List ℕ) (p : Placed) (ps : List Placed) (o : ℕ) (c : Bool) → has_file_byte p o ≡ c → file_byte bytes (p ∷ ps) o ≡ (if c then Some (slice_index (source_bytes bytes p.source) (o - p.at)) else file_byte bytes ps o)
first_file bytes p ps o c is = ap (λ (found : Bool). if found then Some (slice_index (source_bytes bytes p.source) (o - p.at)) else file_byte bytes ps o) is

-- the byte of the one partition with a byte of its file there, whichever others are in the list
pub file_byte_of : (bytes : List ℕ → List ℕ) (ps : List Placed) (k : ℕ) (d : Placed) (o : ℕ) → AllPairs ClaimApart ps → k < length ps → IsTrue (has_file_byte (slice_index_or ps k d) o) → file_byte bytes ps o ≡ Some (slice_index (source_bytes bytes (slice_index_or ps k d).source) (o - (slice_index_or ps k d).at))
file_byte_of bytes [] k d o apart inside has = absurd (omega arith)
file_byte_of bytes (p ∷ ps) zero d o apart inside has = first_file bytes p ps o true has
file_byte_of bytes (p ∷ ps) (suc k) d o apart inside has =
    let q : Placed = slice_index_or ps k d in
    let other : has_file_byte p o ≡ false =
    false_from_ne_true (has_file_byte p o) (λ own. apart 0 (suc k) d (omega arith) inside o (file_in_claim p o own) (file_in_claim q o has)) in
    first_file bytes p ps o false other
    ∙ file_byte_of bytes ps k d o (λ i j e before below. apart (suc i) (suc j) e (omega arith) (omega arith)) (omega arith) has

-- no partition has a byte of its file there
pub file_byte_none : (bytes : List ℕ → List ℕ) (ps : List Placed) (o : ℕ) → All (λ p. has_file_byte p o ≡ false) ps → file_byte bytes ps o ≡ None
file_byte_none bytes [] o none = refl
file_byte_none bytes (p ∷ ps) o none =
    first_file bytes p ps o false (none 0 p (omega arith)) ∙ file_byte_none bytes ps o (All-tail (λ q. has_file_byte q o ≡ false) p ps none)

-- the byte of partition number k's file
pub byte_of_file : (l : Layout) (bytes : List ℕ → List ℕ) (k : ℕ) (d : Placed) (o : ℕ) → IsLayout l → k < length l.parts → IsTrue (has_file_byte (slice_index_or l.parts k d) o) → byte_at l bytes o ≡ slice_index (source_bytes bytes (slice_index_or l.parts k d).source) (o - (slice_index_or l.parts k d).at)
byte_of_file l bytes k d o is inside has =
    let p : Placed = slice_index_or l.parts k d in
    byte_beside_tables l bytes o (is.apart.across k d inside o (file_in_claim p o has))
    ∙ ap (λ (found : Option ℕ). unwrap_or found l.fill) (file_byte_of bytes l.parts k d o is.apart.claims inside has)

-- ---- the fill

pub byte_of_fill : (l : Layout) (bytes : List ℕ → List ℕ) (o : ℕ) → table_byte l o ≡ None → All (λ p. has_file_byte p o ≡ false) l.parts → byte_at l bytes o ≡ l.fill
byte_of_fill l bytes o no_table no_file =
    byte_beside_tables l bytes o no_table ∙ ap (λ (found : Option ℕ). unwrap_or found l.fill) (file_byte_none bytes l.parts o no_file)

-- ---- within the size

-- an offset that partition number k claims is below the size
pub claim_before : (l : Layout) (k : ℕ) (d : Placed) (o : ℕ) → IsLayout l → k < length l.parts → IsTrue (is_claimed (slice_index_or l.parts k d) o) → o < l.size
claim_before l k d o is inside claimed =
    let p : Placed = slice_index_or l.parts k d in
    let below : o < end_of p = ltb-true o (end_of p) (right_of (nat_le p.at o) (nat_lt o (end_of p)) (left_of (nat_le p.at o && nat_lt o (end_of p)) (not (covers p.holes (o - p.at))) claimed)) in
    let within : end_of p ≤ l.size = (is.parts k d inside).inside in
    omega arith

-- ---- a whole image

-- an image with the byte of each offset below the size has those of the tables
pub tables_in_image : (l : Layout) (bytes : List ℕ → List ℕ) (image : ℕ → ℕ) → IsLayout l → ((o : ℕ) → o < l.size → image o ≡ byte_at l bytes o) → HoldsParts image (table_parts l)
tables_in_image l bytes image is same o b has = same o (table_byte_before l o b is has) ∙ byte_of_table l bytes o b has

-- and reads back
pub image_reads_back : (l : Layout) (bytes : List ℕ → List ℕ) (image : ℕ → ℕ) → IsLayout l → ((o : ℕ) → o < l.size → image o ≡ byte_at l bytes o) → ReadsBack image l
image_reads_back l bytes image is same = layout_reads_back l image is (tables_in_image l bytes image is same)
