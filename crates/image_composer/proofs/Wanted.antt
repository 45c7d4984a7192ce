-- The byte of a layout at each offset, by the bytes of the files that its partitions name.
use Rattle.std.specs.Prelude.{◌≡◌, ℕ, suc, ◌+◌, ◌-◌, ◌<◌, ◌≤◌, ◌⊎◌, List, [], ◌∷◌, All, Option, Some, None, Bool, true, false, ◌&&◌, not, nat_le, nat_lt, if◌then◌else◌, length, slice_index, unwrap_or, get_or}
use Rattle.std.specs.Option.{option_or}
use Rattle.std.proofs.Common.{refl, ◌∙◌, ap, arith, inl, inr}
use Rattle.std.proofs.lemmas.Bool.{le-leb, leb-true, lt-ltb, ltb-true}
use Rattle.std.proofs.lemmas.List.Elements.{All-cons, All-nil, Contains-get_or}
use Rattle.base_fields.specs.Parts.{HoldsPart, Part, covers, part_byte}
use Rattle.base_fields.proofs.PartBytes.{is_in}
use Rattle.span_cover.specs.Cover.{covers as in_holes}
use Rattle.outside.specs.Files.{Tree, bytes_of}
use Rattle.image_layout.specs.IsLayout.{IsLayout}
use Rattle.image_layout.specs.Layout.{byte_at, end_of, file_byte, has_file_byte, is_claimed, source_bytes, table_byte, table_parts}
use Rattle.image_layout.specs.declared.layout.Layout.{Layout}
use Rattle.image_layout.specs.declared.layout.Placed.{Placed}
use Rattle.image_layout.proofs.Bytes.{byte_of_file, byte_of_part}
use Rattle.image_parts.specs.Files.{HasFiles, IsNeeded, IsOwn, no_part, part_of, source_in}
use Rattle.image_tables.specs.Tables.{Each, IsInOne}
use Rattle.image_tables.proofs.Serving.{all_each}

-- ---- tests

and_true : (a b : Bool) → a ≡ true → b ≡ true → (a && b) ≡ true
and_true true b first second = second
and_true false b first second = absurd (cc)

and_left : (a b : Bool) → (a && b) ≡ true → a ≡ true
and_left true b h = refl
and_left false b h = absurd (cc)

and_right : (a b : Bool) → (a && b) ≡ true → b ≡ true
and_right true b h = h
and_right false b h = absurd (cc)

not_true : (c : Bool) → not c ≡ true → c ≡ false
not_true true h = absurd (cc)
not_true false h = refl

-- ---- a partition's bytes

-- a byte that is needed is one of its file in the image
pub own_has : (p : Placed) (i : ℕ) → p.len ≤ p.size → IsNeeded p i → has_file_byte p (p.at + i) ≡ true
own_has p i short needed =
    let below : i < p.len = needed.below in
    let there : p.at + i - p.at ≡ i = omega arith in
    let free : not (in_holes p.holes (p.at + i - p.at)) ≡ true = ap (λ (k : ℕ). not (in_holes p.holes k)) there ∙ ap not needed.free in
    and_true (is_claimed p (p.at + i)) (nat_lt (p.at + i) (p.at + p.len))
    (and_true (nat_le p.at (p.at + i) && nat_lt (p.at + i) (end_of p)) (not (in_holes p.holes (p.at + i - p.at)))
    (and_true (nat_le p.at (p.at + i)) (nat_lt (p.at + i) (end_of p)) (le-leb p.at (p.at + i) (omega arith)) (lt-ltb (p.at + i) (end_of p) (omega arith))) free)
    (lt-ltb (p.at + i) (p.at + p.len) (omega arith))

pub has_own : (p : Placed) (o : ℕ) → has_file_byte p o ≡ true → IsOwn p o
has_own p o h =
    let claimed : is_claimed p o ≡ true = and_left (is_claimed p o) (nat_lt o (p.at + p.len)) h in
    let below : o < p.at + p.len = ltb-true o (p.at + p.len) (and_right (is_claimed p o) (nat_lt o (p.at + p.len)) h) in
    let span : (nat_le p.at o && nat_lt o (end_of p)) ≡ true = and_left (nat_le p.at o && nat_lt o (end_of p)) (not (in_holes p.holes (o - p.at))) claimed in
    let low : p.at ≤ o = leb-true p.at o (and_left (nat_le p.at o) (nat_lt o (end_of p)) span) in (
      low,
      record {
        below = omega arith;
        free = not_true (in_holes p.holes (o - p.at)) (and_right (nat_le p.at o && nat_lt o (end_of p)) (not (in_holes p.holes (o - p.at))) claimed);
      },
    )

-- the bytes that stand under the name of a partition's file
pub source_is : (file : Tree) (source : Option (List ℕ)) → source_bytes (bytes_of file) source ≡ unwrap_or (source_in file source) []
source_is file None = refl
source_is file (Some name) = refl

-- the layout wants what each partition needs of its file
pub wants_files : (l : Layout) (file : Tree) → IsLayout l → HasFiles (byte_at l (bytes_of file)) file l.parts (length l.parts)
wants_files l file is k inside i needed =
    let p : Placed = part_of l.parts k in
    let short : p.len ≤ p.size = (is.parts k no_part inside).file in
    let there : p.at + i - p.at ≡ i = omega arith in
    byte_of_file l (bytes_of file) k no_part (p.at + i) is inside (own_has p i short needed)
    ∙ ap (λ (j : ℕ). slice_index (source_bytes (bytes_of file) p.source) j) there
    ∙ ap (λ (bytes : List ℕ). slice_index bytes i) (source_is file p.source)

-- ---- the tables' bytes

-- the layout wants what its tables hold
pub wants_tables : (l : Layout) (bytes : List ℕ → List ℕ) → IsLayout l → Each (HoldsPart (byte_at l bytes)) (table_parts l)
wants_tables l bytes is =
    all_each (HoldsPart (byte_at l bytes)) (table_parts l)
    (λ k d inside o h. byte_of_part l bytes (get_or (table_parts l) k d) o is (Contains-get_or (table_parts l) k d inside) h)

in_by_test : (p : Part) (ps : List Part) (o b : ℕ) → (part_byte ps o ≡ Some b → IsInOne ps o) → (c : Bool) → covers p o ≡ c → (if c then Some (p.byte (o - p.at)) else part_byte ps o) ≡ Some b → IsInOne (p ∷ ps) o
in_by_test p ps o b rest true is h = inl (is_in p o is)
in_by_test p ps o b rest false is h = inr (rest h)

-- where a table has a byte, one of its parts has the offset
pub in_one : (ps : List Part) (o b : ℕ) → part_byte ps o ≡ Some b → IsInOne ps o
in_one [] o b h = absurd (cc)
in_one (p ∷ ps) o b h = in_by_test p ps o b (in_one ps o b) (covers p o) refl h

-- ---- whose byte

-- a partition with a byte of its file there
pub record Holder (ps : List Placed) (o : ℕ) : Type 0 where
  pub number : ℕ
  pub inside : number < length ps
  pub own : has_file_byte (part_of ps number) o ≡ true

next_holder : (p : Placed) (ps : List Placed) (o : ℕ) → Holder ps o → Holder (p ∷ ps) o
next_holder p ps o h = let inside : h.number < length ps = h.inside in record { number = suc h.number; inside = omega arith; own = h.own }

by_first : (p : Placed) (ps : List Placed) (o : ℕ) → Holder ps o ⊎ All (λ q. has_file_byte q o ≡ false) ps → (c : Bool) → has_file_byte p o ≡ c → Holder (p ∷ ps) o ⊎ All (λ q. has_file_byte q o ≡ false) (p ∷ ps)
by_first p ps o rest true is = inl (record { number = 0; inside = omega arith; own = is })
by_first p ps o (inl found) false is = inl (next_holder p ps o found)
by_first p ps o (inr none) false is = inr (All-cons (λ q. has_file_byte q o ≡ false) p ps is none)

pub holder_or_none : (ps : List Placed) (o : ℕ) → Holder ps o ⊎ All (λ p. has_file_byte p o ≡ false) ps
holder_or_none [] o = inr (All-nil (λ p. has_file_byte p o ≡ false))
holder_or_none (p ∷ ps) o = by_first p ps o (holder_or_none ps o) (has_file_byte p o) refl

-- ---- the same by other files

same_by_test : (c : Bool) (x y : ℕ) (r s : Option ℕ) → x ≡ y → r ≡ s → (if c then Some x else r) ≡ (if c then Some y else s)
same_by_test true x y r s first rest = ap (λ (b : ℕ). Some b) first
same_by_test false x y r s first rest = rest

file_byte_same : (before now : List ℕ → List ℕ) (ps : List Placed) (o : ℕ) → ((k : ℕ) → k < length ps → source_bytes before (part_of ps k).source ≡ source_bytes now (part_of ps k).source) → file_byte before ps o ≡ file_byte now ps o
file_byte_same before now [] o same = refl
file_byte_same before now (p ∷ ps) o same =
    same_by_test (has_file_byte p o) (slice_index (source_bytes before p.source) (o - p.at)) (slice_index (source_bytes now p.source) (o - p.at)) (file_byte before ps o) (file_byte now ps o)
    (ap (λ (bytes : List ℕ). slice_index bytes (o - p.at)) (same 0 (omega arith)))
    (file_byte_same before now ps o (λ k inside. same (suc k) (omega arith)))

-- the byte at an offset is the same by any files that have the same bytes under the names of the partitions' files
pub byte_at_same : (l : Layout) (before now : List ℕ → List ℕ) (o : ℕ) → ((k : ℕ) → k < length l.parts → source_bytes before (part_of l.parts k).source ≡ source_bytes now (part_of l.parts k).source) → byte_at l before o ≡ byte_at l now o
byte_at_same l before now o same =
    ap (λ (found : Option ℕ). unwrap_or (option_or (table_byte l o) found) l.fill) (file_byte_same before now l.parts o same)
