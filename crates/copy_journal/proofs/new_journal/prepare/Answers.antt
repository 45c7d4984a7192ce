use Rattle.std.proofs.Common.{◌+◌, ◌≤◌, ℕ, List, length, ap, refl, ◌∙◌, subst, sym, arith}
use Rattle.base_fields.specs.Fields.{written}
use Rattle.bench.specs.declared.Dev.{Dev}
use Rattle.bench.specs.declared.Dev.TheVariants.{Journal}
use Rattle.bench.specs.Disk.{Torn}
use Rattle.journal_format.specs.Journals.{magic_2}
use Rattle.copy_journal.proofs.GateLemmas.{above_same_gate, below_same_gate, grows_same_gate, prepared, same_gate_then}
use Rattle.copy_journal.specs.Events.{IsReady}
use Rattle.copy_journal.proofs.new_journal.prepare.Goals as goal

pub returns-in_err-write_at-clause-moves : goal.returns-in_err-write_at-clause-moves
returns-in_err-write_at-clause-moves g c told =
    same_gate_then (grows_same_gate (c.lengthen.ensures.grows told)) (below_same_gate c.write_at.ensures.touches (omega arith))

pub returns-in_err-write_at-2-clause-moves : goal.returns-in_err-write_at-2-clause-moves
returns-in_err-write_at-2-clause-moves g c told =
    same_gate_then (same_gate_then (grows_same_gate (c.lengthen.ensures.grows told)) (below_same_gate c.write_at.ensures.touches (omega arith)))
    (above_same_gate c.write_at-2.ensures.touches (omega arith))

pub returns-clause-ready : goal.returns-clause-ready
unfolding magic_2
returns-clause-ready g c told =
    let id = c.args.id.now in
    let old = (g.B.Bench.disk c.lengthen.new.bench).reads Journal in
    let new = (g.B.Bench.disk c.write_zeros.new.bench).reads Journal in
    let body = c.body_of.result in
    let two = c.in_ok-write_at-2.ensures.wrote told ∙ ap (λ (j : List ℕ). written j 9 body) (c.in_ok-write_at.ensures.wrote told) in
    let torn : Torn 80 (id.units + id.ranges) (written (written old 0 magic_2) 9 body) new = subst (λ (j : List ℕ). Torn 80 (id.units + id.ranges) j new) two (c.write_zeros.ensures.touches told).reads in
    let long : 80 + id.units + id.ranges ≤ length old = c.in_ok-lengthen.ensures.long told in
    let ready : IsReady id c.args.window new = prepared id c.args.window old new magic_2 body long refl refl c.body_of.ensures (omega arith) torn (c.in_ok-write_zeros.ensures.zero told) in
    subst (λ (f : Dev → List ℕ). IsReady id c.args.window (f Journal)) (sym c.sync.ensures.looked.reads) ready
