-- The opening tag of a range, and the range behind it.
use Rattle.std.proofs.Common.{◌≡◌, ℕ, ◌+◌, ◌^◌, ◌<◌, List, ◌∷◌, ◌++◌, length, take, drop, codes, Option, Some, None, option_map}
use Rattle.std.proofs.Common.{ap, arith, position, refl, sym, ◌∙◌, take_at}
use Rattle.std.proofs.Math.Seq.{drop-append-add, take-append_seam}
use Rattle.hex.specs.Hex.{encode_lower}
use Rattle.block_map.specs.declared.maps.Range.{Range}
use Rattle.bmap_grammar.specs.Items.{bare_head, blocks_in, digest_head, digest_in, range_at, range_behind, range_with, sized}
use Rattle.bmap_grammar.specs.Text.{◌>>=◌, attribute_of, between_quotes, blocks_of, closed, digest_of, end_len, ended}
use Rattle.bmap_grammar.specs.Text.{moved, or_next, tag_with}
use Rattle.bmap_grammar.specs.declared.items.Head.{Head}
use Rattle.bmap_grammar.specs.declared.items.Held.{Held}
use Rattle.bmap_grammar.specs.declared.items.Item.TheVariants as item
use Rattle.bmap_grammar.specs.declared.items.Piece.{Piece}
use Rattle.bmap_writer.specs.Written.{range_blocks}
use Rattle.bmap_laws.specs.Digests.{IsDigest}
use Rattle.bmap_laws.proofs.Bytes.{Pass, found, other}
use Rattle.bmap_laws.proofs.Digests.{digest_long, digest_read, digest_unquoted, is_double}
use Rattle.bmap_laws.proofs.Values.{blocks_plain, blocks_read, valued_spaced}

-- ---- the attribute

held : ℕ → ℕ → ℕ → Held
held at count len = record { at = at; count = count; len = len }

-- what stands behind the quote in front of the digits
abbrev quoted_digits : List ℕ → List ℕ → List ℕ
quoted_digits digits rest = digits ++ 34 ∷ 62 ∷ rest

abbrev attribute_text : List ℕ → List ℕ → List ℕ
attribute_text digits rest = codes "chksum=\"" ++ quoted_digits digits rest

digits_closed : (digits rest : List ℕ) → length digits ≡ 64 → Pass (other is_double) digits →
    closed 34 (quoted_digits digits rest) ≡ Some (record { at = 1; count = 64; len = 66 })
digits_closed digits rest long h =
    let place : position is_double (quoted_digits digits rest) ≡ Some 64 =
    found is_double digits 34 (62 ∷ rest) h refl ∙ ap Some long in
    ap (option_map between_quotes) place

attribute_read : (digits rest : List ℕ) → length digits ≡ 64 → Pass (other is_double) digits →
    attribute_of (codes "chksum") (attribute_text digits rest) ≡ Some (record { at = 8; count = 64; len = 73 })
attribute_read digits rest long h =
    ap (λ (o : Option Held). moved 6 (moved 0 (moved 1 (moved 0 o)))) (digits_closed digits rest long h)

behind_quote : (digits rest : List ℕ) → length digits ≡ 64 → drop 73 (attribute_text digits rest) ≡ 62 ∷ rest
behind_quote digits rest long =
    let over : length digits + 1 ≡ 65 = omega (arith, long) in
    ap (λ (k : ℕ). drop k (quoted_digits digits rest)) (sym over) ∙ drop-append-add digits (34 ∷ 62 ∷ rest) 1

attribute_ends : (digits rest : List ℕ) → length digits ≡ 64 →
    ended (attribute_text digits rest) (record { at = 8; count = 64; len = 73 })
    ≡ Some (record { at = 8; count = 64; len = 74 })
attribute_ends digits rest long =
    let made : Option ℕ → Option Held = λ o. option_map (λ n. record { at = 8; count = 64; len = 73 + n }) o in
    ap (λ (xs : List ℕ). made (end_len xs)) (behind_quote digits rest long)

tag_read : (digits rest : List ℕ) → length digits ≡ 64 → Pass (other is_double) digits →
    tag_with (codes "chksum") (attribute_text digits rest) ≡ Some (record { at = 8; count = 64; len = 74 })
tag_read digits rest long h =
    ap (λ (o : Option Held). o >>= ended (attribute_text digits rest)) (attribute_read digits rest long h)
    ∙ attribute_ends digits rest long

-- ---- the opening tag

abbrev pub head_text : List ℕ → List ℕ → List ℕ
head_text digits rest = codes "<Range chksum=\"" ++ quoted_digits digits rest

digits_there : (digits rest : List ℕ) → length digits ≡ 64 → take 64 (drop 15 (head_text digits rest)) ≡ digits
digits_there digits rest long = take_at digits (34 ∷ 62 ∷ rest) 64 long

head_with : (text digits digest : List ℕ) → take 64 (drop 15 text) ≡ digits → digest_of digits ≡ Some digest →
    digest_in text (record { at = 15; count = 64; len = 81 }) ≡ Some (record { digest = Some digest; len = 81 })
head_with text digits digest there is =
    let made : Option (List ℕ) → Option Head = λ o. option_map (λ d. record { digest = Some d; len = 81 }) o in
    ap (λ (xs : List ℕ). made (digest_of xs)) there ∙ ap made is

digest_head_read : (digest rest : List ℕ) → IsDigest digest →
    digest_head (head_text (encode_lower digest) rest) ≡ Some (record { digest = Some digest; len = 81 })
unfolding digest_head
digest_head_read digest rest h =
    let digits = encode_lower digest in
    let long = digest_long digest h in
    ap (λ (o : Option Held). moved 6 (moved 1 o) >>= digest_in (head_text digits rest))
    (tag_read digits rest long (digest_unquoted digest h))
    ∙ head_with (head_text digits rest) digits digest (digits_there digits rest long) (digest_read digest h)

no_bare_head : (digits rest : List ℕ) → bare_head (head_text digits rest) ≡ None
unfolding bare_head
no_bare_head digits rest = refl

pub digest_head_found : (digest rest : List ℕ) → IsDigest digest →
    or_next (bare_head (head_text (encode_lower digest) rest)) (digest_head (head_text (encode_lower digest) rest))
    ≡ Some (record { digest = Some digest; len = 81 })
digest_head_found digest rest h =
    ap (λ (o : Option Head). or_next o (digest_head (head_text (encode_lower digest) rest)))
    (no_bare_head (encode_lower digest) rest)
    ∙ digest_head_read digest rest h

pub bare_head_found : (rest : List ℕ) →
    or_next (bare_head (codes "<Range>" ++ rest)) (digest_head (codes "<Range>" ++ rest))
    ≡ Some (record { digest = None; len = 7 })
unfolding bare_head
bare_head_found rest = refl

-- ---- the blocks behind it

abbrev pub range_tail : Range → List ℕ → List ℕ
range_tail r rest = 32 ∷ (range_blocks r ++ 32 ∷ 60 ∷ (codes "/Range>" ++ rest))

-- a range's blocks with this for a digest, in so many bytes
abbrev pub sized_range : Range → Option (List ℕ) → ℕ → Piece
sized_range r digest len = sized (item.Range (record { first = r.first; last = r.last; digest = digest })) len

abbrev pub piece_with : Range → Head → Piece
piece_with r head = sized_range r head.digest (head.len + (length (range_blocks r) + 10))

held_blocks : (r : Range) (head : Head) (rest : List ℕ) (len : ℕ) → r.first < 2 ^ 64 → r.last < 2 ^ 64 →
    blocks_in (range_tail r rest) head (record { at = 1; count = length (range_blocks r); len = len })
    ≡ Some (sized_range r head.digest (head.len + len))
held_blocks r head rest len f l =
    let made : Option (ℕ × ℕ) → Option Piece =
    λ o. option_map (range_with head (record { at = 1; count = length (range_blocks r); len = len })) o in
    ap (λ (xs : List ℕ). made (blocks_of xs)) (take-append_seam (range_blocks r) (32 ∷ 60 ∷ (codes "/Range>" ++ rest)))
    ∙ ap made (blocks_read r f l)

pub range_behind_read : (r : Range) (head : Head) (rest : List ℕ) → r.first < 2 ^ 64 → r.last < 2 ^ 64 →
    range_behind (range_tail r rest) head ≡ Some (piece_with r head)
unfolding range_behind
range_behind_read r head rest f l =
    let plain = blocks_plain r f l in
    let long : length (range_blocks r) + 2 + 8 ≡ length (range_blocks r) + 10 = omega arith in
    ap (λ (o : Option Held). o >>= blocks_in (range_tail r rest) head)
    (valued_spaced (codes "</Range") (codes "/Range>" ++ rest) (range_blocks r) 8 plain.1 plain.0 refl)
    ∙ (held_blocks r head rest (length (range_blocks r) + 2 + 8) f l
    ∙ ap (λ (n : ℕ). Some (sized_range r head.digest (head.len + n))) long)

-- ---- the whole

-- a text whose opening tag is found, and which goes on so behind it
pub range_found : (text : List ℕ) (r : Range) (head : Head) (rest : List ℕ) →
    or_next (bare_head text) (digest_head text) ≡ Some head → drop head.len text ≡ range_tail r rest →
    r.first < 2 ^ 64 → r.last < 2 ^ 64 → range_at text ≡ Some (piece_with r head)
range_found text r head rest found behind f l =
    ap (λ (o : Option Head). o >>= λ h. range_behind (drop h.len text) h) found
    ∙ (ap (λ (xs : List ℕ). range_behind xs head) behind ∙ range_behind_read r head rest f l)
