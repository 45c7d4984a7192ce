use Rattle.std.proofs.Common.{rules, ◌≡◌, ◌∷◌, ◌++◌, [], Err, refl}
use Rattle.image_specs.specs.declared.specs.Source.{Source}
use Rattle.image_plan.proofs.Lengths.{IsAt, lengths_more, own_is_length, read_all, read_more, read_none, read_refuses}
use Rattle.image_plan.proofs.measuring.lengths.Goals as goal

pub loop-k-init : goal.loop-k-init
loop-k-init g c = record {
  none_fell = search rules;
  same_files = refl;
  lengths = rw c.new-lens.ensures tt;
  read = λ told. rw c.new-lens.ensures (read_none (g.F.Files.file c.args.files.now) c.args.sources.now);
}

pub returns-in_err-length_of-clause-said : goal.returns-in_err-length_of-clause-said
returns-in_err-length_of-clause-said g c = λ told.
    let fault = c.in_err-length_of.field-0.0 in
    let same : c.from_residual.result ≡ Err c.in_err-length_of.field-0.0 = search rules in
    let source : Source = c.index-sources-k.result in
    let here : IsAt c.args.sources.now c.loop-k.k source =
    record { inside = c.loop-k-test.true; is = c.index-sources-k.is } in
    let said = rw c.loop-k.invariant.same_files at c.in_err-length_of.ensures.said told in
    rw same (read_refuses (g.F.Files.file c.args.files.now) c.args.sources.now c.loop-k.lens c.loop-k.k source fault
    (c.loop-k.invariant.read told) here said)

pub returns-in_err-length_of-clause-fault : goal.returns-in_err-length_of-clause-fault
returns-in_err-length_of-clause-fault g c =
    let fault = c.in_err-length_of.field-0.0 in
    let same : c.from_residual.result ≡ Err c.in_err-length_of.field-0.0 = search rules in
    let source : Source = c.index-sources-k.result in
    let here : IsAt c.args.sources.now c.loop-k.k source =
    record { inside = c.loop-k-test.true; is = c.index-sources-k.is } in
    rw same (own_is_length c.args.sources.now c.loop-k.k source fault here c.in_err-length_of.ensures.fault)

pub loop-k-preserved : goal.loop-k-preserved
loop-k-preserved g c =
    let lens = c.loop-k.lens in
    let new = c.push.new.self in
    let len = c.in_ok-length_of.field-0 in
    let grown : c.push.new.self ≡ c.loop-k.lens ++ c.in_ok-length_of.field-0 ∷ [] = c.in_ok-push.ensures.ok in
    let source : Source = c.index-sources-k.result in
    let here : IsAt c.args.sources.now c.loop-k.k source =
    record { inside = c.loop-k-test.true; is = c.index-sources-k.is } in
    record {
      none_fell = search rules;
      same_files = search rules;
      lengths = lengths_more c.args.sources.now c.loop-k.k source lens new len here c.loop-k.invariant.lengths
          c.in_ok-length_of.ensures.none grown;
      read = λ told.
          let said = rw c.loop-k.invariant.same_files at c.in_ok-length_of.ensures.said told in
          read_more (g.F.Files.file c.args.files.now) c.args.sources.now lens new c.loop-k.k len source
          (c.loop-k.invariant.read told) here said grown;
    }

pub returns-clause-said : goal.returns-clause-said
returns-clause-said g c = λ told.
    read_all (g.F.Files.file c.args.files.now) c.args.sources.now c.loop-k.lens c.loop-k.k
    (c.loop-k.invariant.read told) c.loop-k-test.false
