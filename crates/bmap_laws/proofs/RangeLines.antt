-- The lines of the ranges.
use Rattle.std.proofs.Common.{◌≡◌, ℕ, ◌+◌, ◌-◌, ◌^◌, ◌<◌, ◌≤◌, List, [], ◌∷◌, ◌++◌, length, drop, map, codes, Option, Some, None, IfSome}
use Rattle.std.proofs.Common.{ap, append-nil, append_assoc, arith, length-append, refl, rules, subst, sym, ◌∙◌}
use Rattle.std.proofs.Math.Seq.{drop-append-add}
use Rattle.std.specs.List.{AllByRecursion}
use Rattle.hex.specs.Hex.{encode_lower}
use Rattle.block_map.specs.Maps.{max_ranges}
use Rattle.block_map.specs.declared.maps.BlockMap.{BlockMap}
use Rattle.block_map.specs.declared.maps.Range.{Range}
use Rattle.bmap_grammar.specs.Items.{piece_of, range_at, sized}
use Rattle.bmap_grammar.specs.Stood.{next_of}
use Rattle.bmap_grammar.specs.Text.{is_space}
use Rattle.bmap_grammar.specs.declared.items.Item.TheVariants as item
use Rattle.bmap_grammar.specs.declared.stood.Stood.{Stood}
use Rattle.bmap_writer.specs.Written.{attribute, ended, range_blocks, range_line, text_of}
use Rattle.bmap_laws.specs.Digests.{IsDigest}
use Rattle.bmap_laws.proofs.Bytes.{Pass}
use Rattle.bmap_laws.proofs.Digests.{digest_long}
use Rattle.bmap_laws.proofs.Fronts.{range_first}
use Rattle.bmap_laws.proofs.Heads.{bare_head_found, digest_head_found, head_text, range_found, range_tail, sized_range}
use Rattle.bmap_laws.proofs.Reading.{Reads, line_read}
use Rattle.bmap_laws.proofs.Rising.{Rise, next_behind}
use Rattle.bmap_laws.proofs.States.{in_map, range_stands}

-- what stands behind the `<` of a range's line
abbrev pub bare_tag : List ℕ → List ℕ
bare_tag blocks = codes "Range> " ++ (blocks ++ codes " </Range>")

abbrev pub digest_tag : List ℕ → List ℕ → List ℕ
digest_tag digits blocks =
    codes "Range chksum=\"" ++ ((((digits ++ 34 ∷ []) ++ 62 ∷ 32 ∷ []) ++ blocks) ++ codes " </Range>")

-- ---- a range without a digest

bare_apart : (r : Range) (rest : List ℕ) →
    (60 ∷ bare_tag (range_blocks r)) ++ rest ≡ codes "<Range>" ++ range_tail r rest
bare_apart r rest =
    ap (λ (xs : List ℕ). codes "<Range> " ++ xs) (append_assoc (range_blocks r) (codes " </Range>") rest)

bare_found : (r : Range) (rest : List ℕ) → r.digest ≡ None → r.first < 2 ^ 64 → r.last < 2 ^ 64 →
    range_at (codes "<Range>" ++ range_tail r rest) ≡ Some (sized (item.Range r) (7 + (length (range_blocks r) + 10)))
bare_found r rest none f l =
    range_found (codes "<Range>" ++ range_tail r rest) r (record { digest = None; len = 7 }) rest
    (bare_head_found (range_tail r rest)) refl f l
    ∙ ap (λ (d : Option (List ℕ)). Some (sized_range r d (7 + (length (range_blocks r) + 10)))) (sym none)

bare_piece : (r : Range) (rest : List ℕ) → r.digest ≡ None → r.first < 2 ^ 64 → r.last < 2 ^ 64 →
    piece_of ((60 ∷ bare_tag (range_blocks r)) ++ rest)
    ≡ Some (sized (item.Range r) (length (60 ∷ bare_tag (range_blocks r))))
bare_piece r rest none f l =
    let both = length-append (range_blocks r) (codes " </Range>") in
    ap piece_of (bare_apart r rest)
    ∙ (range_first (codes ">" ++ range_tail r rest) (sized (item.Range r) (7 + (length (range_blocks r) + 10)))
    (bare_found r rest none f l)
    ∙ ap (λ (k : ℕ). Some (sized (item.Range r) k)) (omega (arith, both)))

-- ---- a range with one

joined_parts : (digits blocks closing rest : List ℕ) →
    ((((digits ++ 34 ∷ []) ++ 62 ∷ 32 ∷ []) ++ blocks) ++ closing) ++ rest
    ≡ digits ++ 34 ∷ 62 ∷ 32 ∷ (blocks ++ (closing ++ rest))
joined_parts digits blocks closing rest = search (rules, append_assoc)

digest_apart : (r : Range) (digits rest : List ℕ) →
    (60 ∷ digest_tag digits (range_blocks r)) ++ rest ≡ head_text digits (range_tail r rest)
digest_apart r digits rest =
    ap (λ (xs : List ℕ). codes "<Range chksum=\"" ++ xs) (joined_parts digits (range_blocks r) (codes " </Range>") rest)

behind_head : (digits rest : List ℕ) → length digits ≡ 64 → drop 81 (head_text digits rest) ≡ rest
behind_head digits rest long =
    let over : length digits + 2 ≡ 66 = omega (arith, long) in
    ap (λ (k : ℕ). drop k (digits ++ 34 ∷ 62 ∷ rest)) (sym over) ∙ drop-append-add digits (34 ∷ 62 ∷ rest) 2

digest_found : (r : Range) (digest rest : List ℕ) → r.digest ≡ Some digest → IsDigest digest → r.first < 2 ^ 64 →
    r.last < 2 ^ 64 →
    range_at (head_text (encode_lower digest) (range_tail r rest))
    ≡ Some (sized (item.Range r) (81 + (length (range_blocks r) + 10)))
digest_found r digest rest some h f l =
    let digits = encode_lower digest in
    range_found (head_text digits (range_tail r rest)) r (record { digest = Some digest; len = 81 }) rest
    (digest_head_found digest (range_tail r rest) h) (behind_head digits (range_tail r rest) (digest_long digest h)) f l
    ∙ ap (λ (d : Option (List ℕ)). Some (sized_range r d (81 + (length (range_blocks r) + 10)))) (sym some)

digest_tag_long : (digits blocks : List ℕ) → length digits ≡ 64 →
    81 + (length blocks + 10) ≡ length (60 ∷ digest_tag digits blocks)
digest_tag_long digits blocks long =
    let a = length-append (((digits ++ 34 ∷ []) ++ 62 ∷ 32 ∷ []) ++ blocks) (codes " </Range>") in
    let b = length-append ((digits ++ 34 ∷ []) ++ 62 ∷ 32 ∷ []) blocks in
    let c = length-append (digits ++ 34 ∷ []) (62 ∷ 32 ∷ []) in
    let d = length-append digits (34 ∷ []) in
    omega (arith, a, b, c, d, long)

digest_piece : (r : Range) (digest rest : List ℕ) → r.digest ≡ Some digest → IsDigest digest → r.first < 2 ^ 64 →
    r.last < 2 ^ 64 →
    piece_of ((60 ∷ digest_tag (encode_lower digest) (range_blocks r)) ++ rest)
    ≡ Some (sized (item.Range r) (length (60 ∷ digest_tag (encode_lower digest) (range_blocks r))))
digest_piece r digest rest some h f l =
    let digits = encode_lower digest in
    ap piece_of (digest_apart r digits rest)
    ∙ (range_first (codes " chksum=\"" ++ (digits ++ 34 ∷ 62 ∷ range_tail r rest))
    (sized (item.Range r) (81 + (length (range_blocks r) + 10))) (digest_found r digest rest some h f l)
    ∙ ap (λ (k : ℕ). Some (sized (item.Range r) k)) (digest_tag_long digits (range_blocks r) (digest_long digest h)))

-- ---- a line, with either

eight : Pass is_space (codes "        ")
eight = (refl, (refl, (refl, (refl, (refl, (refl, (refl, (refl, tt))))))))

-- a range's tag, whose blocks stand in its line
abbrev tag_by : Option (List ℕ) → List ℕ → List ℕ
tag_by None blocks = bare_tag blocks
tag_by (Some digest) blocks = digest_tag (encode_lower digest) blocks

line_by : (digest : Option (List ℕ)) (blocks : List ℕ) →
    codes "        <Range" ++ attribute digest ++ codes "> " ++ blocks ++ codes " </Range>"
    ≡ codes "        " ++ 60 ∷ tag_by digest blocks
line_by None blocks = refl
line_by (Some digest) blocks = refl

piece_by : (r : Range) (digest : Option (List ℕ)) (rest : List ℕ) → r.digest ≡ digest → IfSome digest IsDigest →
    r.first < 2 ^ 64 → r.last < 2 ^ 64 →
    piece_of ((60 ∷ tag_by digest (range_blocks r)) ++ rest)
    ≡ Some (sized (item.Range r) (length (60 ∷ tag_by digest (range_blocks r))))
piece_by r None rest is h f l = bare_piece r rest is f l
piece_by r (Some digest) rest is h f l = digest_piece r digest rest is h f l

-- what holds of the next range
pub record MayFollow (done : List Range) (r : Range) : Type 0 where
  pub from : next_of done ≤ r.first
  pub filled : r.first ≤ r.last
  pub below : r.last < 2 ^ 64 - 1
  pub room : length done < max_ranges
  pub digest : IfSome r.digest IsDigest

pub range_read : (at : ℕ) (m : BlockMap) (place : ℕ) (digest : List ℕ) (done : List Range) (r : Range)
    (rest : List ℕ) (end : Stood) → MayFollow done r →
    ((at : ℕ) → Reads at (in_map m place digest (done ++ r ∷ [])) (10 ∷ rest) end) →
    Reads at (in_map m place digest done) (10 ∷ (ended (range_line r) ++ rest)) end
range_read at m place digest done r rest end h more =
    let below = h.below in
    let filled = h.filled in
    let tag = tag_by r.digest (range_blocks r) in
    subst (λ (line : List ℕ). Reads at (in_map m place digest done) (10 ∷ (ended line ++ rest)) end)
    (sym (line_by r.digest (range_blocks r)))
    (line_read at (in_map m place digest done) (in_map m place digest (done ++ r ∷ [])) end (item.Range r)
    (codes "        ") tag rest eight
    (piece_by r r.digest (10 ∷ rest) refl h.digest (omega (arith, below, filled)) (omega (arith, below)))
    (range_stands (at + 9) m place digest done r h.from h.filled h.below h.room)
    (more (at + length (ended (codes "        " ++ 60 ∷ tag)))))

-- ---- all of them

pub ranges_read : (m : BlockMap) (place : ℕ) (digest : List ℕ) (back : List (List ℕ)) (end : Stood) (last : ℕ) →
    last < 2 ^ 64 - 1 → (done rs : List Range) (at : ℕ) → Rise (next_of done) last rs →
    AllByRecursion (λ r. IfSome r.digest IsDigest) rs → length done + length rs ≤ max_ranges →
    ((at : ℕ) → Reads at (in_map m place digest (done ++ rs)) (10 ∷ text_of back) end) →
    Reads at (in_map m place digest done) (10 ∷ text_of (map range_line rs ++ back)) end
ranges_read m place digest back end last small done [] at rise digests few more =
    subst (λ (rs : List Range). Reads at (in_map m place digest rs) (10 ∷ text_of back) end) (append-nil done) (more at)
ranges_read m place digest back end last small done (r ∷ rs) at rise digests few more =
    let below = rise.2 in
    let long = length-append done (r ∷ []) in
    let together : (done ++ r ∷ []) ++ rs ≡ done ++ r ∷ rs = append_assoc done (r ∷ []) rs in
    let on : Rise (next_of (done ++ r ∷ [])) last rs =
    subst (λ (n : ℕ). Rise n last rs) (sym (next_behind done r)) rise.3 in
    let next : MayFollow done r = record {
      from = rise.0;
      filled = rise.1;
      below = omega (arith, below, small);
      room = omega (arith, few);
      digest = digests.0;
    } in
    range_read at m place digest done r (text_of (map range_line rs ++ back)) end next
    (λ at'. ranges_read m place digest back end last small (done ++ r ∷ []) rs at' on digests.1
    (omega (arith, few, long))
    (λ at''. subst (λ (all : List Range). Reads at'' (in_map m place digest all) (10 ∷ text_of back) end) (sym together)
    (more at'')))
