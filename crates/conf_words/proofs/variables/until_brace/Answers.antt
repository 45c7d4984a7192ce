use Rattle.std.proofs.Common.{◌==◌, not}
use Rattle.conf_words.proofs.Cuts.{brace_low, cut_before}
use Rattle.conf_words.proofs.variables.until_brace.Goals as goal

pub split_at-requires : goal.split_at-requires
split_at-requires c = rw (c.brace_place.ensures.count, c.as_bytes.ensures.value) (cut_before (λ b. not (b == 125)) c.args.text.now brace_low)
