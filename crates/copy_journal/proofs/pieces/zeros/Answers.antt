use Rattle.std.proofs.lemmas.List.{get_or-replicate}
use Rattle.copy_journal.proofs.pieces.zeros.Goals as goal

pub returns : goal.returns
returns c k d h = get_or-replicate 4096 k 0 d h
