-- Blocks of a window of an image.
use Rattle.std.proofs.Common.{◌≡◌, ℕ, ◌+◌, ◌-◌, ◌*◌, ◌<◌, ◌≤◌, List, length, take, drop, ap, subst, sym, ◌∙◌, arith}
use Rattle.std.proofs.Math.Nat.{add-mul, mul-le-mul_right}
use Rattle.std.proofs.lemmas.Grind.{common_steps}
use Rattle.std.proofs.lemmas.List.{drop-drop, drop-take}
use Rattle.base_fields.specs.declared.spans.Span.{Span}
use Rattle.sparse_chunks.specs.Progress.{AreAlike}
use Rattle.sparse_cover.specs.Stretches.{AreMet}
use Rattle.sparse_text.specs.Blocks.{HasForm, IsContent, block_at, block_span, padded}
use Rattle.span_cover.specs.Cover.{Meets}
use Rattle.sparse_text.specs.declared.runs.Content.{Content}
use Rattle.sparse_text.specs.declared.runs.Content.TheVariants.{Skip, Fill, Raw}
use Rattle.sparse_text.specs.declared.runs.Run.{Run}

-- how many bytes the blocks have that are left, and those of fewer
pub left_long : (window : List ℕ) (count skipped block : ℕ) → length window ≡ count * block → skipped ≤ count → length (drop (skipped * block) window) ≡ (count - skipped) * block
left_long window count skipped block long within =
    let rest = count - skipped in
    let all : count ≡ skipped + rest = omega (arith, within) in
    let parts : count * block ≡ skipped * block + rest * block = ap (λ (n : ℕ). n * block) all ∙ add-mul skipped rest block in
    let cut : length (drop (skipped * block) window) ≡ length window - skipped * block = search (arith, common_steps) in
    omega (arith, cut, long, parts)

pub fewer : (a b block : ℕ) → a ≤ b → a * block ≤ b * block
fewer a b block h = mul-le-mul_right block h

-- a front of a longer front
front : (n m : ℕ) (xs : List ℕ) → n ≤ m → take n (take m xs) ≡ take n xs
front n m xs within = search (arith, common_steps)

-- a front of a longer front, behind some bytes
inner : (c d n : ℕ) (xs : List ℕ) → d + n ≤ c → take n (drop d (take c xs)) ≡ take n (drop d xs)
inner c d n xs within =
    let split : c ≡ d + (c - d) = omega (arith, within) in
    let rest : n ≤ c - d = omega (arith, within) in
    ap (λ (m : ℕ). take n (drop d (take m xs))) split ∙ ap (take n) (drop-take d (c - d) xs) ∙ front n (c - d) (drop d xs) rest

-- a part of a part of a list
part_of_part : (xs : List ℕ) (a c d n : ℕ) → d + n ≤ c → take n (drop d (take c (drop a xs))) ≡ take n (drop (a + d) xs)
part_of_part xs a c d n within =
    let there : drop d (drop a xs) ≡ drop (a + d) xs = drop-drop d a xs in
    let cut : take n (drop d (take c (drop a xs))) ≡ take n (drop d (drop a xs)) = inner c d n (drop a xs) within in
    cut ∙ ap (take n) there

-- so many blocks of a window are those of the image
pub blocks_in : (image window : List ℕ) (block first count skipped n : ℕ) → skipped + n ≤ count →
    window ≡ take (count * block) (drop (first * block) (padded image block)) →
    take (n * block) (drop (skipped * block) window) ≡ take (n * block) (drop ((first + skipped) * block) (padded image block))
blocks_in image window block first count skipped n within is =
    let place = add-mul first skipped block in
    let wide = add-mul skipped n block in
    let fits = mul-le-mul_right block within in
    let part = part_of_part (padded image block) (first * block) (count * block) (skipped * block) (n * block) (omega (arith, wide, fits)) in
    ap (λ (xs : List ℕ). take (n * block) (drop (skipped * block) xs)) is ∙ part ∙ ap (λ (o : ℕ). take (n * block) (drop o (padded image block))) (sym place)

-- a block of a window
pub block_in : (image window : List ℕ) (block first count skipped i : ℕ) → skipped + i < count →
    window ≡ take (count * block) (drop (first * block) (padded image block)) →
    take block (drop (i * block) (drop (skipped * block) window)) ≡ block_at image block (first + skipped + i)
block_in image window block first count skipped i within is =
    let one : 1 * block ≡ block = omega arith in
    let both = add-mul skipped i block in
    let there : drop (i * block) (drop (skipped * block) window) ≡ drop (skipped * block + i * block) window = drop-drop (i * block) (skipped * block) window in
    let part = blocks_in image window block first count (skipped + i) 1 (omega (arith, within)) is in
    let assoc : first + (skipped + i) ≡ first + skipped + i = omega arith in
    ap (take block) (there ∙ ap (λ (o : ℕ). drop o window) (sym both))
    ∙ subst (λ (n : ℕ). take n (drop ((skipped + i) * block) window) ≡ take n (drop ((first + (skipped + i)) * block) (padded image block))) one part
    ∙ ap (block_at image block) assoc

-- a block that is met, with the form of a content
is_content : (image : List ℕ) (cover : List Span) (block b : ℕ) (c : Content) → Meets cover (block_span block b) → HasForm (block_at image block b) c → IsContent image cover block b c
is_content image cover block b Skip met form = absurd form
is_content image cover block b (Fill word) met form = (met, form)
is_content image cover block b Raw met form = (met, form)

-- blocks of a window that are alike
pub run_alike : (image window : List ℕ) (cover : List Span) (block first count skipped : ℕ) (r : Run) → r.first ≡ first + skipped → skipped + r.count ≤ count →
    AreMet cover block first count → window ≡ take (count * block) (drop (first * block) (padded image block)) →
    ((i : ℕ) → i < r.count → HasForm (take block (drop (i * block) (drop (skipped * block) window))) r.content) → AreAlike image cover block r
run_alike image window cover block first count skipped r begins within met is forms b not_before before =
    let i = b - r.first in
    let at : first + skipped + i ≡ b = omega (arith, begins, not_before) in
    let below : i < r.count = omega (arith, not_before, before) in
    let same = block_in image window block first count skipped i (omega (arith, below, within)) is in
    let form = subst (λ (xs : List ℕ). HasForm xs r.content) (same ∙ ap (block_at image block) at) (forms i below) in
    is_content image cover block b r.content (met b (omega (arith, begins, not_before)) (omega (arith, begins, before, within))) form
