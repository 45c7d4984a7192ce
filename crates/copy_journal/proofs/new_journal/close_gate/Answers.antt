use Rattle.bench.proofs.DiskLemmas.{changes_looked}
use Rattle.bench.specs.declared.Dev.TheVariants.{Target}
use Rattle.copy_journal.proofs.GateLemmas.{gate_closing}
use Rattle.copy_journal.proofs.new_journal.close_gate.Goals as goal

pub returns-in_err-write_at-clause-moves : goal.returns-in_err-write_at-clause-moves
returns-in_err-write_at-clause-moves g c told =
    gate_closing c.requires.settled (c.requires.closed told) c.length.ensures.looked (c.length.ensures.stays Target) c.read_at.ensures.looked (c.read_at.ensures.stays Target) (c.in_ok-read_at.ensures.there told) c.if-gate-ne-GATE_OPEN.false c.write_at.ensures.touches

pub returns-in_err-sync-clause-moves : goal.returns-in_err-sync-clause-moves
returns-in_err-sync-clause-moves g c told =
    changes_looked (gate_closing c.requires.settled (c.requires.closed told) c.length.ensures.looked (c.length.ensures.stays Target) c.read_at.ensures.looked (c.read_at.ensures.stays Target) (c.in_ok-read_at.ensures.there told) c.if-gate-ne-GATE_OPEN.false c.write_at.ensures.touches) c.sync.ensures.looked c.sync.ensures.other_stays

pub returns-clause-moves : goal.returns-clause-moves
returns-clause-moves g c told =
    changes_looked (gate_closing c.requires.settled (c.requires.closed told) c.length.ensures.looked (c.length.ensures.stays Target) c.read_at.ensures.looked (c.read_at.ensures.stays Target) (c.in_ok-read_at.ensures.there told) c.if-gate-ne-GATE_OPEN.false c.write_at.ensures.touches) c.sync.ensures.looked c.sync.ensures.other_stays
