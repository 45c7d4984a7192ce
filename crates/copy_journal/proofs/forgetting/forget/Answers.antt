use Rattle.std.proofs.Common.{List, ℕ, subst}
use Rattle.bench.specs.declared.Dev.{Dev}
use Rattle.bench.specs.declared.Dev.TheVariants.{Target, Journal}
use Rattle.bench.proofs.DiskLemmas.{changes_looked, looked_then}
use Rattle.journal_format.specs.Journals.{IsHeld}
use Rattle.copy_journal.proofs.GateLemmas.{gate_forgotten, settled_looked, some_held}
use Rattle.copy_journal.proofs.forgetting.forget.Goals as goal

pub returns-in_err-write_at-clause-moves : goal.returns-in_err-write_at-clause-moves
returns-in_err-write_at-clause-moves g c told =
    let looked = looked_then c.sync.ensures.looked c.look.ensures.looked in
    let settled = settled_looked {dev = Journal} c.in_ok-sync.ensures.settled c.look.ensures.looked in
    let found : IsHeld ((g.B.Bench.disk c.sync.new.self).reads Journal) = some_held _ c.in_ok-look.field-0 c.in-Some.field-0 c.in-Some.is (c.in_ok-look.ensures.exact told) in
    let held : IsHeld ((g.B.Bench.disk c.args.bench.now).reads Journal) = subst (λ (f : Dev → List ℕ). IsHeld (f Journal)) c.sync.ensures.looked.reads found in
    gate_forgotten looked (λ image was. c.look.ensures.stays Target image (c.sync.ensures.other_stays image was)) settled held c.write_at.ensures.touches

pub returns-in_err-sync-2-clause-moves : goal.returns-in_err-sync-2-clause-moves
returns-in_err-sync-2-clause-moves g c told =
    let looked = looked_then c.sync.ensures.looked c.look.ensures.looked in
    let settled = settled_looked {dev = Journal} c.in_ok-sync.ensures.settled c.look.ensures.looked in
    let found : IsHeld ((g.B.Bench.disk c.sync.new.self).reads Journal) = some_held _ c.in_ok-look.field-0 c.in-Some.field-0 c.in-Some.is (c.in_ok-look.ensures.exact told) in
    let held : IsHeld ((g.B.Bench.disk c.args.bench.now).reads Journal) = subst (λ (f : Dev → List ℕ). IsHeld (f Journal)) c.sync.ensures.looked.reads found in
    changes_looked (gate_forgotten looked (λ image was. c.look.ensures.stays Target image (c.sync.ensures.other_stays image was)) settled held c.write_at.ensures.touches) c.sync-2.ensures.looked c.sync-2.ensures.other_stays

pub returns-clause-moves : goal.returns-clause-moves
returns-clause-moves g c told =
    let looked = looked_then c.sync.ensures.looked c.look.ensures.looked in
    let settled = settled_looked {dev = Journal} c.in_ok-sync.ensures.settled c.look.ensures.looked in
    let found : IsHeld ((g.B.Bench.disk c.sync.new.self).reads Journal) = some_held _ c.in_ok-look.field-0 c.in-Some.field-0 c.in-Some.is (c.in_ok-look.ensures.exact told) in
    let held : IsHeld ((g.B.Bench.disk c.args.bench.now).reads Journal) = subst (λ (f : Dev → List ℕ). IsHeld (f Journal)) c.sync.ensures.looked.reads found in
    changes_looked (gate_forgotten looked (λ image was. c.look.ensures.stays Target image (c.sync.ensures.other_stays image was)) settled held c.write_at.ensures.touches) c.sync-2.ensures.looked c.sync-2.ensures.other_stays
