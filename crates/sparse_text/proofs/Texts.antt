-- There is one sparse file of an image.
use Rattle.std.proofs.Common.{◌≡◌, ℕ, ◌+◌, ◌*◌, ◌<◌, ◌≤◌, List, length, ap, sym, ◌∙◌, arith}
use Rattle.std.proofs.lemmas.Grind.{common_steps, div_ceil_times}
use Rattle.std.proofs.Math.Nat.{mul-le-mul_right}
use Rattle.std.specs.Int.{div_ceil}
use Rattle.sparse_text.proofs.Contents.{one_content}
use Rattle.sparse_text.proofs.RunLemmas.{all_counted, all_shown, one_list}
use Rattle.sparse_text.specs.Blocks.{IsContent}
use Rattle.sparse_text.specs.Laws.{OneListOfRuns, OneSparseText, RunsExpand}
use Rattle.sparse_text.specs.Text.{most_raw, text_of}
use Rattle.sparse_text.specs.declared.runs.Run.{Run}

-- each block below the end begins within the image
begins_within : (b block blocks size : ℕ) → b < blocks → blocks * block ≤ size + block → b * block ≤ size
begins_within b block blocks size below within =
    let whole : (b + 1) * block ≤ blocks * block = mul-le-mul_right block (omega arith) in
    let more : (b + 1) * block ≡ b * block + block = search (arith, common_steps) in
    omega (arith, whole, more, within)

pub one_list_of_runs : OneListOfRuns
one_list_of_runs image cover block blocks runs others some within h k =
    one_list (IsContent image cover block) (most_raw block) blocks
    (λ b below c d here there. one_content image cover block b c d some (begins_within b block blocks (length image) below within) here there) 0 runs others h k

pub one_sparse_text : OneSparseText
one_sparse_text image cover block text other some h k =
    let blocks = div_ceil (length image) block in
    let near = div_ceil_times (length image) block (omega arith) in
    let within : blocks * block ≤ length image + block = let below = near.1 in omega (arith, below) in
    let same = one_list_of_runs image cover block blocks h.0 k.0 some within h.1 k.1 in
    h.2 ∙ ap (λ (runs : List Run). text_of image block blocks runs) same ∙ sym k.2

pub runs_expand : RunsExpand
runs_expand image cover block runs h =
    let has = IsContent image cover block in
    let end = div_ceil (length image) block in
    let counted = all_counted has (most_raw block) 0 end runs h in
    record {
      blocks = omega (arith, counted);
      shown = λ b below. all_shown has (most_raw block) 0 end runs b h (omega arith) below;
    }
