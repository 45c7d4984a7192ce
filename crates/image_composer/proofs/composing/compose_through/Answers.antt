use Rattle.std.proofs.Common.{◌≡◌, Err, length, arith, rules}
use Rattle.image_composer.proofs.Made.{is_made, still_there}
use Rattle.image_composer.proofs.Sources.{had_before}
use Rattle.image_composer.proofs.composing.compose_through.Goals as goal

pub returns-in_err-put_parts-clause-needed : goal.returns-in_err-put_parts-clause-needed
returns-in_err-put_parts-clause-needed g c part at is =
    let same : c.from_residual-in_err-put_parts.result ≡ Err c.in_err-put_parts.field-0.0 = search rules in
    rw c.as_slice.ensures at (c.in_err-put_parts.ensures.needed part at (rw same at is))

pub finish-requires-clause-there : goal.finish-requires-clause-there
finish-requires-clause-there g c = λ told.
    let file = g.F.Files.file in
    let puts = rw (c.text-name.ensures, c.as_slice.ensures) at (c.in_ok-put_parts.ensures.answers told) in
    still_there c.args.layout.now (file c.make.new.files) (file c.put_parts.new.files) c.requires.layout (c.in_ok-make.ensures.answers told) puts

pub returns-clause-answers : goal.returns-clause-answers
returns-clause-answers g c = λ told.
    let file = g.F.Files.file in
    let l = c.args.layout.now in
    let puts = rw (c.text-name.ensures, c.as_slice.ensures) at (c.in_ok-put_parts.ensures.answers told) in (
      had_before l (file c.args.files.now) (file c.make.new.files) c.requires.own c.in_ok-make.ensures.others (length l.parts) (omega arith) puts.had,
      is_made l (file c.args.files.now) (file c.make.new.files) (file c.put_parts.new.files) (file c.finish.new.files)
          c.requires.layout c.requires.own c.in_ok-make.ensures.others (c.in_ok-make.ensures.answers told) puts (c.in_ok-finish.ensures.answers told),
    )
