-- What is wrong with a text that says two values has two that differ.
use Rattle.std.proofs.Common.{◌≡◌, ◌≢◌, ℕ, zero, suc, ◌+◌, ◌-◌, ◌<◌, Bool, true, false, ◌&&◌, not, nat_eq, nat_le}
use Rattle.std.proofs.Common.{if◌then◌else◌, Option, Some, None, is_some, Result, Ok, Err, List, [], ◌∷◌, length}
use Rattle.std.proofs.Common.{ap, arith, refl, subst}
use Rattle.std.specs.Int.{div_ceil}
use Rattle.std.specs.Str.{bytes_eq}
use Rattle.std.proofs.lemmas.Bool.{eqb-false, leb-false}
use Rattle.std.proofs.lemmas.Slice.Eq.{bytes_eq-Decides}
use Rattle.base_fields.specs.Results.{◌>>=◌, or_else, when}
use Rattle.block_map.specs.Maps.{blocks_in}
use Rattle.block_map.specs.declared.maps.Range.{Range}
use Rattle.bmap_grammar.specs.Document.{Refuses, counted, enough_blocks, map_of, map_told, one_then, said, same_count}
use Rattle.bmap_grammar.specs.Document.{same_sum, stood_from, sum_of}
use Rattle.bmap_grammar.specs.Items.{piece_of}
use Rattle.bmap_grammar.specs.Stood.{is_first, is_front, is_inside, is_map, may_block, may_end, may_follow, may_size}
use Rattle.bmap_grammar.specs.Stood.{may_type, next_of, nothing, number_stands, said_by, stands}
use Rattle.bmap_grammar.specs.declared.faults.MapFault.{MapFault}
use Rattle.bmap_grammar.specs.declared.faults.MapFault.TheVariants.{BadMap, OtherVersion, OtherDigest}
use Rattle.bmap_grammar.specs.declared.faults.MapFault.TheVariants.{BadCounts, SumDiffers, NoMemory}
use Rattle.bmap_grammar.specs.declared.items.Field.{Field}
use Rattle.bmap_grammar.specs.declared.items.Field.TheVariants as field
use Rattle.bmap_grammar.specs.declared.items.Item.{Item}
use Rattle.bmap_grammar.specs.declared.items.Item.TheVariants as item
use Rattle.bmap_grammar.specs.declared.items.Piece.{Piece}
use Rattle.bmap_grammar.specs.declared.stood.Stood.{Stood}
use Rattle.bmap_grammar.specs.declared.stood.Told.{Told}
use Rattle.outside.specs.Counts.{Counts}
use Rattle.map_source.specs.Faults.{IsShown, fault_of}

-- ---- two values

-- the two values of a fault, where it has two, differ
abbrev pub Differs : MapFault → Type 0
Differs (BadMap place) = Unit {0}
Differs (OtherVersion place) = Unit {0}
Differs (OtherDigest place) = Unit {0}
Differs (BadCounts want got) = want ≢ got
Differs (SumDiffers want got) = want ≢ got
Differs NoMemory = Unit {0}

-- ---- steps

alike : (e f : MapFault) → Differs e → e ≡ f → Differs f
alike e f h same = subst Differs same h

tested : {A : Type 0} (test : Bool) (x : A) (e f : MapFault) → (test ≡ false → Differs e) →
    when test x e ≡ Err f → Differs f
tested true x e f h is = absurd (cc)
tested false x e f h is = let same : e ≡ f = cc in alike e f (h refl) same

placed : {A : Type 0} (test : Bool) (x : A) (at : ℕ) (f : MapFault) → when test x (BadMap at) ≡ Err f → Differs f
placed test x at f is = tested test x (BadMap at) f (λ fails. tt) is

bound : {A B : Type 0} (r : Result A MapFault) (k : A → Result B MapFault) (f : MapFault) →
    (r ≡ Err f → Differs f) → ((x : A) → k x ≡ Err f → Differs f) → (r >>= k) ≡ Err f → Differs f
bound (Ok x) k f first next is = next x is
bound (Err e) k f first next is = let same : e ≡ f = cc in first (ap (λ g. Err g) same)

-- ---- the items

number_differs : (at : ℕ) (s : Stood) (kind : Field) (n : ℕ) (f : MapFault) →
    number_stands at s kind n ≡ Err f → Differs f
number_differs at s field.ImageSize n f is = placed (may_size s n) _ at f is
number_differs at s field.BlockSize n f is = placed (may_block s n) _ at f is
number_differs at s field.BlocksCount n f is = placed (is_inside s.stage && not (is_some s.blocks)) _ at f is
number_differs at s field.MappedBlocksCount n f is = placed (is_inside s.stage && not (is_some s.mapped)) _ at f is

either : (test : Bool) (d e f : MapFault) → Differs d → Differs e → (if test then d else e) ≡ f → Differs f
either true d e f one two is = alike d f one is
either false d e f one two is = alike e f two is

stands_differs : (at : ℕ) (s : Stood) (i : Item) (f : MapFault) → stands at s i ≡ Err f → Differs f
stands_differs at s item.Blank f is = absurd (cc)
stands_differs at s item.Declaration f is = placed (is_first s.stage) _ at f is
stands_differs at s item.Start f is = placed (is_front s.stage) _ at f is
stands_differs at s item.OtherStart f is =
    let same : (if is_front s.stage then OtherVersion at else BadMap at) ≡ f = cc in
    either (is_front s.stage) (OtherVersion at) (BadMap at) f tt tt same
stands_differs at s (item.Number kind n) f is = number_differs at s kind n f is
stands_differs at s item.ChecksumType f is = placed (may_type s) _ at f is
stands_differs at s item.OtherType f is =
    let same : (if may_type s then OtherDigest at else BadMap at) ≡ f = cc in
    either (may_type s) (OtherDigest at) (BadMap at) f tt tt same
stands_differs at s (item.Checksum place digest) f is = placed (is_inside s.stage && not (is_some s.sum)) _ at f is
stands_differs at s item.MapStart f is = placed (is_inside s.stage && not s.begun) _ at f is
stands_differs at s (item.Range r) f is = placed (is_map s.stage && may_follow s.ranges r) _ at f is
stands_differs at s item.MapEnd f is = placed (is_map s.stage) _ at f is
stands_differs at s item.End f is = placed (may_end s) _ at f is

one_differs : (at : ℕ) (s : Stood) (p : Option Piece) (rest : Stood → ℕ → Result Stood MapFault) (f : MapFault) →
    ((after : Stood) (n : ℕ) → rest after n ≡ Err f → Differs f) → one_then at s p rest ≡ Err f → Differs f
one_differs at s None rest f next is = let same : BadMap at ≡ f = cc in alike (BadMap at) f tt same
one_differs at s (Some p) rest f next is =
    bound (stands at s p.item) (λ after. rest after (p.len - 1)) f (stands_differs at s p.item f)
    (λ after. next after (p.len - 1)) is

items_differ : (at : ℕ) (s : Stood) (n : ℕ) (text : List ℕ) (f : MapFault) → stood_from at s n text ≡ Err f → Differs f
items_differ at s n [] f is = absurd (cc)
items_differ at s (suc n) (b ∷ rest) f is = items_differ (at + 1) s n rest f is
items_differ at s zero (b ∷ rest) f is =
    one_differs at s (piece_of (b ∷ rest)) (λ after n. stood_from (at + 1) after n rest) f
    (λ after n. items_differ (at + 1) after n rest f) is

-- ---- the counts and the sum

unequal : (want got : ℕ) → nat_eq want got ≡ false → want ≢ got
unequal want got fails = eqb-false want got fails

less : (want got : ℕ) → nat_le got want ≡ false → want ≢ got
less want got fails = λ same. let above : want < got = leb-false got want fails in absurd (omega arith)

unlike : (want got : List ℕ) → bytes_eq want got ≡ false → want ≢ got
unlike want got fails = λ same. let passes = (bytes_eq-Decides want got).1 same in absurd (cc)

same_differs : (want got : ℕ) (f : MapFault) → same_count want got ≡ Err f → Differs f
same_differs want got f is = tested (nat_eq want got) tt (BadCounts want got) f (unequal want got) is

enough_differs : (want got : ℕ) (f : MapFault) → enough_blocks want got ≡ Err f → Differs f
enough_differs want got f is = tested (nat_le got want) tt (BadCounts want got) f (less want got) is

sums_differ : (want got : List ℕ) (f : MapFault) → same_sum want got ≡ Err f → Differs f
sums_differ want got f is = tested (bytes_eq want got) tt (SumDiffers want got) f (unlike want got) is

counts_differ : (t : Told) (ranges : List Range) (f : MapFault) → counted t ranges ≡ Err f → Differs f
counts_differ t ranges f is =
    bound (same_count t.blocks (div_ceil t.size t.block)) _ f (same_differs t.blocks (div_ceil t.size t.block) f)
    (λ all. bound (same_count t.mapped (blocks_in ranges)) _ f (same_differs t.mapped (blocks_in ranges) f)
    (λ some. enough_differs t.blocks (next_of ranges) f))
    is

told_differs : (text : List ℕ) (ranges : List Range) (t : Told) (f : MapFault) → map_told text ranges t ≡ Err f →
    Differs f
told_differs text ranges t f is =
    let sum = sum_of text t.sum.at in
    bound (counted t ranges) _ f (counts_differ t ranges f)
    (λ right. bound (same_sum t.sum.digest sum) _ f (sums_differ t.sum.digest sum f) (λ same made. absurd (cc)))
    is

lacking : (o : Option Told) (place : ℕ) (f : MapFault) → or_else o (BadMap place) ≡ Err f → Differs f
lacking (Some t) place f is = absurd (cc)
lacking None place f is = let same : BadMap place ≡ f = cc in alike (BadMap place) f tt same

map_differs : (text : List ℕ) (s : Stood) (f : MapFault) → map_of text s ≡ Err f → Differs f
map_differs text s f is =
    bound (or_else (said_by s) (BadMap (length text))) _ f (lacking (said_by s) (length text) f)
    (λ t. told_differs text s.ranges t f) is

said_differs : (text : List ℕ) (f : MapFault) → said text ≡ Err f → Differs f
said_differs text f is =
    bound (stood_from 0 nothing 0 text) (map_of text) f (items_differ 0 nothing 0 text f) (λ s. map_differs text s f) is

-- as a fault of the file
pub text_shown : (text : List ℕ) (fault : MapFault) → Refuses (said text) fault → (before now : Counts) →
    IsShown before now (fault_of fault)
text_shown text (BadMap place) h before now = tt
text_shown text (OtherVersion place) h before now = tt
text_shown text (OtherDigest place) h before now = tt
text_shown text (BadCounts want got) h before now = said_differs text (BadCounts want got) h
text_shown text (SumDiffers want got) h before now = said_differs text (SumDiffers want got) h
text_shown text NoMemory h before now = tt
