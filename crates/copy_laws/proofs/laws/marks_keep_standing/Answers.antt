use Rattle.copy_laws.proofs.Events.{recording_keeps_standing, checking_keeps_standing, clearing_keeps_standing}
use Rattle.copy_laws.proofs.laws.marks_keep_standing.Goals as goal

pub returns-clause-recording : goal.returns-clause-recording
returns-clause-recording c = recording_keeps_standing

pub returns-clause-checking : goal.returns-clause-checking
returns-clause-checking c = checking_keeps_standing

pub returns-clause-clearing : goal.returns-clause-clearing
returns-clause-clearing c = clearing_keeps_standing
