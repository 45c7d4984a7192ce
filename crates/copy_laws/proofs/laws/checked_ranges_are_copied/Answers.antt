use Rattle.copy_laws.proofs.Events.{done_is_copied}
use Rattle.copy_laws.proofs.laws.checked_ranges_are_copied.Goals as goal

pub returns : goal.returns
returns c = done_is_copied
