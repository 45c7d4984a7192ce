use Rattle.command_laws.proofs.CopyLemmas.{complete}
use Rattle.command_laws.proofs.laws.copies_complete.Goals as goal

pub returns : goal.returns
returns g c told = complete g.F.Files.told g.B.Bench.disk told
