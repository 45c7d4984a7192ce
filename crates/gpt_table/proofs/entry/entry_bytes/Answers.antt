use Rattle.std.proofs.Common.{◌≡◌, ℕ, List, replicate, ◌∙◌, sym, arith}
use Rattle.gpt_table.specs.Gpt.{HasLengths, entry_fields}
use Rattle.gpt_table.proofs.Filled.{filled, filled_first, filled_none, filled_whole}
use Rattle.gpt_table.proofs.Slots.{entry_run, length-entry}
use Rattle.gpt_table.proofs.entry.entry_bytes.Goals as goal

pub returns-clause-bytes : goal.returns-clause-bytes
returns-clause-bytes c =
    let e = c.args.entry.now in
    let has : HasLengths e = record { kind = omega arith; own = omega arith; name = omega arith } in
    let zeros : List ℕ = replicate 128 0 in
    let all : filled (entry_fields e) zeros ≡ c.put_name.new.room =
    filled_first _ _ _ _ _ c.put_guid.ensures
    (filled_first _ _ _ _ _ c.put_guid-2.ensures
    (filled_first _ _ _ _ _ c.put_number.ensures.written
    (filled_first _ _ _ _ _ c.put_number-2.ensures.written
    (filled_first _ _ _ _ _ c.put_number-3.ensures.written
    (filled_first _ _ _ _ _ c.put_name.ensures.written
    (filled_none _)))))) in
    sym all ∙ filled_whole (entry_fields e) zeros (entry_run e has) (length-entry e has)

pub returns-clause-fits : goal.returns-clause-fits
returns-clause-fits c = record {
  lengths = record { kind = omega arith; own = omega arith; name = omega arith };
  first = c.put_number.ensures.fits;
  last = c.put_number-2.ensures.fits;
  attrs = c.put_number-3.ensures.fits;
  units = c.put_name.ensures.units;
}
