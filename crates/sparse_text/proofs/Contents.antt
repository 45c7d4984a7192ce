-- A block is one content.
use Rattle.std.proofs.Common.{◌≡◌, ℕ, ◌*◌, ◌≤◌, List, length, refl, ap, sym, ◌∙◌, arith}
use Rattle.std.proofs.lemmas.Grind.{common_steps}
use Rattle.base_fields.specs.declared.spans.Span.{Span}
use Rattle.sparse_text.specs.Blocks.{AreWords, HasForm, IsContent, block_at}
use Rattle.sparse_text.specs.declared.runs.Content.{Content}
use Rattle.sparse_text.specs.declared.runs.Content.TheVariants.{Skip, Fill, Raw}

-- a block of the padded image is whole
pub block_long : (image : List ℕ) (block b : ℕ) → b * block ≤ length image → length (block_at image block b) ≡ block
block_long image block b within = search (arith, common_steps)

-- a block that has a word has one
one_word : (bytes : List ℕ) (word other : ℕ) → 4 ≤ length bytes → AreWords bytes word → AreWords bytes other → word ≡ other
one_word bytes word other long h k = sym (h 0 long) ∙ k 0 long

one_form : (bytes : List ℕ) (c d : Content) → 4 ≤ length bytes → HasForm bytes c → HasForm bytes d → c ≡ d
one_form bytes Skip d long h k = absurd h
one_form bytes (Fill word) Skip long h k = absurd k
one_form bytes (Fill word) (Fill other) long h k = ap Fill (one_word bytes word other long h k)
one_form bytes (Fill word) Raw long h k = absurd (k word h)
one_form bytes Raw Skip long h k = absurd k
one_form bytes Raw (Fill word) long h k = absurd (h word k)
one_form bytes Raw Raw long h k = refl

pub one_content : (image : List ℕ) (cover : List Span) (block b : ℕ) (c d : Content) →
    4 ≤ block → b * block ≤ length image → IsContent image cover block b c → IsContent image cover block b d → c ≡ d
one_content image cover block b Skip Skip some within h k = refl
one_content image cover block b Skip (Fill word) some within h k = absurd (h k.0)
one_content image cover block b Skip Raw some within h k = absurd (h k.0)
one_content image cover block b (Fill word) Skip some within h k = absurd (k h.0)
one_content image cover block b Raw Skip some within h k = absurd (k h.0)
one_content image cover block b (Fill word) (Fill other) some within h k =
    let long = block_long image block b within in
    one_form (block_at image block b) (Fill word) (Fill other) (omega (arith, long)) h.1 k.1
one_content image cover block b (Fill word) Raw some within h k = absurd (k.1 word h.1)
one_content image cover block b Raw (Fill word) some within h k = absurd (h.1 word k.1)
one_content image cover block b Raw Raw some within h k = refl
