-- The digests of a map, set one after another.
use Rattle.std.proofs.Common.{◌≡◌, ℕ, ◌+◌, ◌-◌, ◌*◌, ◌<◌, ◌≤◌, min, List, [], ◌∷◌, length, get_or, set, take, map, Option, Some, inl, inr, refl, sym, ap, subst, ◌∙◌, arith}
use Rattle.std.proofs.lemmas.Bool.{cases_lt}
use Rattle.std.proofs.lemmas.List.{get_or-set_other, get_or-set_same, get_or-take, length-take, take_all}
use Rattle.std.proofs.lemmas.List.Elements.{All-head, All-tail}
use Rattle.std.specs.Prelude.{All}
use Rattle.sha2.specs.Sha256.{sha256}
use Rattle.base_fields.specs.declared.spans.Span.{Span}
use Rattle.span_cover.specs.Cover.{AreTouchedRuns, covers}
use Rattle.span_cover.proofs.Spans.{same_bool}
use Rattle.span_cover.proofs.Unique.{one_list}
use Rattle.block_map.specs.declared.maps.BlockMap.{BlockMap}
use Rattle.block_map.specs.declared.maps.Range.{Range}
use Rattle.block_map.specs.Maps.{HasDigest, HasDigestSet, IsMapOf, IsMapTo, part_of, range_span, run_of, runs_of}
use Rattle.block_map.proofs.Runs.{runs_filled, runs_kept}

-- a span of a range, by a map's size and block
span_in : Range → ℕ → ℕ → Span
span_in r size block = record { at = r.first * block; len = min size ((r.last + 1) * block) - r.first * block }

same_span : (m n : BlockMap) (r : Range) → n.size ≡ m.size → n.block ≡ m.block → range_span n r ≡ range_span m r
unfolding span_in
same_span m n r size block = ap (λ (s : ℕ). span_in r s n.block) size ∙ ap (λ (b : ℕ). span_in r m.size b) block

same_digest : (m n : BlockMap) (bytes : List ℕ) (r : Range) → n.size ≡ m.size → n.block ≡ m.block → sha256 (part_of (range_span m r) bytes) ≡ sha256 (part_of (range_span n r) bytes)
same_digest m n bytes r size block = ap (λ (s : Span). sha256 (part_of s bytes)) (sym (same_span m n r size block))

pub digests_go_on : (spans : List Span) (bytes : List ℕ) (block k : ℕ) (old new : BlockMap) (d : Range) → IsMapTo spans bytes block k old → k < length old.ranges → HasDigestSet old k (sha256 (part_of (range_span old (get_or old.ranges k d)) bytes)) new → IsMapTo spans bytes block (k + 1) new
digests_go_on spans bytes block k old new d h below is =
    let digest : List ℕ = sha256 (part_of (range_span old (get_or old.ranges k d)) bytes) in
    let r : Range = record (get_or old.ranges k d) { digest = Some digest } in
    record {
      runs = record {
        same_size = is.size ∙ h.runs.same_size;
        same_block = is.block ∙ h.runs.same_block;
        runs = subst (λ (l : List Span). AreTouchedRuns spans (length bytes) block l) (sym (runs_kept old new k d digest is)) h.runs.runs;
      };
      digests = λ j e j<.
          let near : j < k + 1 = omega (arith, length-take (k + 1) new.ranges) in
          let at : get_or (take (k + 1) new.ranges) j e ≡ get_or (set old.ranges k r) j e =
          get_or-take (k + 1) new.ranges j e near ∙ ap (λ (l : List Range). get_or l j e) (is.ranges d) in
          subst (λ (x : Range). HasDigest new bytes x) (sym at)
          (elim (cases_lt j k) [
            | inl before ↦
                let old_at : get_or (set old.ranges k r) j e ≡ get_or (take k old.ranges) j e =
                get_or-set_other old.ranges k j r e (λ same. omega arith) ∙ sym (get_or-take k old.ranges j e before) in
                let has : HasDigest old bytes (get_or (take k old.ranges) j e) = h.digests j e (omega (arith, length-take k old.ranges)) in
                subst (λ (x : Range). HasDigest new bytes x) (sym old_at)
                (has ∙ ap (λ (bs : List ℕ). Some bs) (same_digest old new bytes (get_or (take k old.ranges) j e) is.size is.block))
            | inr last ↦
                let same : j ≡ k = omega arith in
                let new_at : get_or (set old.ranges k r) j e ≡ r = rw same (get_or-set_same old.ranges k r e below) in
                subst (λ (x : Range). HasDigest new bytes x) (sym new_at) (ap (λ (bs : List ℕ). Some bs) (same_digest old new bytes r is.size is.block))
          ]);
    }

pub digests_end : (spans : List Span) (bytes : List ℕ) (block : ℕ) (m : BlockMap) → IsMapTo spans bytes block (length m.ranges) m → IsMapOf spans bytes block m
digests_end spans bytes block m h = record { runs = h.runs; digests = subst (λ (l : List Range). All (HasDigest m bytes) l) (take_all (length m.ranges) m.ranges (omega arith)) h.digests }

-- ---- one map
same_range : (r s : Range) → r.first ≡ s.first → r.last ≡ s.last → r.digest ≡ s.digest → r ≡ s
same_range r s first last digest =
    let made : ℕ → ℕ → Option (List ℕ) → Range = λ a b c. record { first = a; last = b; digest = c } in
    ap (λ (a : ℕ). made a r.last r.digest) first ∙ ap (λ (b : ℕ). made s.first b r.digest) last ∙ ap (made s.first s.last) digest

same_ranges : (m : BlockMap) (bytes : List ℕ) (rs ss : List Range) → map run_of rs ≡ map run_of ss → All (λ r. r.first ≤ r.last) rs → All (λ r. r.first ≤ r.last) ss → All (HasDigest m bytes) rs → All (HasDigest m bytes) ss → rs ≡ ss
same_ranges m bytes [] [] same f g h k = refl
same_ranges m bytes [] (s ∷ ss) same f g h k = cc
same_ranges m bytes (r ∷ rs) [] same f g h k = cc
same_ranges m bytes (r ∷ rs) (s ∷ ss) same f g h k =
    let head : run_of r ≡ run_of s = cc in
    let tail : map run_of rs ≡ map run_of ss = cc in
    let first : r.first ≡ s.first = ap (λ (x : Span). x.at) head in
    let len : r.last + 1 - r.first ≡ s.last + 1 - s.first = ap (λ (x : Span). x.len) head in
    let order : r.first ≤ r.last = All-head (λ (x : Range). x.first ≤ x.last) r rs f in
    let order' : s.first ≤ s.last = All-head (λ (x : Range). x.first ≤ x.last) s ss g in
    let last : r.last ≡ s.last = omega arith in
    let made : ℕ → ℕ → Option (List ℕ) = λ a b. Some (sha256 (part_of (record { at = a * m.block; len = min m.size ((b + 1) * m.block) - a * m.block }) bytes)) in
    let digest : r.digest ≡ s.digest = All-head (HasDigest m bytes) r rs h ∙ ap (λ (a : ℕ). made a r.last) first ∙ ap (made s.first) last ∙ sym (All-head (HasDigest m bytes) s ss k) in
    let rest : rs ≡ ss = same_ranges m bytes rs ss tail
    (All-tail (λ (x : Range). x.first ≤ x.last) r rs f) (All-tail (λ (x : Range). x.first ≤ x.last) s ss g)
    (All-tail (HasDigest m bytes) r rs h) (All-tail (HasDigest m bytes) s ss k) in
    ap (λ (x : Range). x ∷ rs) (same_range r s first last digest) ∙ ap (λ (l : List Range). s ∷ l) rest

same_map : (m n : BlockMap) → m.size ≡ n.size → m.block ≡ n.block → m.ranges ≡ n.ranges → m ≡ n
same_map m n size block ranges =
    let made : ℕ → ℕ → List Range → BlockMap = λ a b l. record { size = a; block = b; ranges = l } in
    ap (λ (a : ℕ). made a m.block m.ranges) size ∙ ap (λ (b : ℕ). made n.size b m.ranges) block ∙ ap (made n.size n.block) ranges

pub one_map : (spans : List Span) (bytes : List ℕ) (block : ℕ) (m n : BlockMap) → IsMapOf spans bytes block m → IsMapOf spans bytes block n → m ≡ n
one_map spans bytes block m n h k =
    let size : m.size ≡ n.size = h.runs.same_size ∙ sym k.runs.same_size in
    let blocks : m.block ≡ n.block = h.runs.same_block ∙ sym k.runs.same_block in
    let runs : runs_of m ≡ runs_of n = one_list (runs_of m) (runs_of n) h.runs.runs.maximal k.runs.runs.maximal
    (λ b. same_bool (covers (runs_of m) b) (covers (runs_of n) b)
    (λ t. (k.runs.runs.exact b).1 ((h.runs.runs.exact b).0 t))
    (λ t. (h.runs.runs.exact b).1 ((k.runs.runs.exact b).0 t))) in
    let digests : All (HasDigest m bytes) n.ranges = λ i d below.
    k.digests i d below ∙ ap (λ (bs : List ℕ). Some bs) (same_digest n m bytes (get_or n.ranges i d) size blocks) in
    same_map m n size blocks (same_ranges m bytes m.ranges n.ranges runs (runs_filled spans (length bytes) block m h.runs) (runs_filled spans (length bytes) block n k.runs) h.digests digests)
