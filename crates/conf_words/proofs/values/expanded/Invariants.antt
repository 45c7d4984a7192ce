use Rattle.std.proofs.Common.{◌≡◌, Ok, length, string_bytes}
use denote.Shadow.{shadow}
use denote.Text.{Utf8}
use Rattle.conf_words.specs.Values.{expansion, followed, parts_value}
use Rattle.conf_words.proofs.values.expanded.Given as goal

abbrev pub invariant-loop-rest : goal.invariant-loop-rest
invariant-loop-rest l = record {
  so_far : expansion l.vars l.escapes l.text ≡ followed (Ok (string_bytes l.value)) (parts_value l.vars l.escapes 0 l.rest);
  utf8 : shadow (Utf8 l.rest);
}

abbrev pub decreases-loop-rest : goal.decreases-loop-rest
decreases-loop-rest l = length l.rest
