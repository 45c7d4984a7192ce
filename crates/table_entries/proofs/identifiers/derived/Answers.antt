use Rattle.std.proofs.Common.{ap, ◌∙◌}
use Rattle.table_entries.specs.Entries.{derived_id}
use Rattle.table_entries.proofs.identifiers.derived.Goals as goal

pub returns : goal.returns
unfolding derived_id
returns c = c.into_bytes.ensures ∙ c.new_v5.ensures.value ∙ ap derived_id c.as_bytes.ensures.value
