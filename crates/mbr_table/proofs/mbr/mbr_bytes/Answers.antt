use Rattle.std.proofs.Common.{refl, sym, ◌∙◌, ap, ◌≡◌, get_or, List, ℕ}
use borrow.Rule.Slice.PartMut.{put_mid}
use Rattle.mbr_table.specs.Mbr.{mbr_fields}
use Rattle.base_fields.proofs.FieldRuns.{byte_of-run, run_passes}
use Rattle.mbr_table.proofs.mbr.mbr_bytes.Goals as goal
use Rattle.base_fields.specs.Fields.{joined}

pub returns : goal.returns
returns c o h =
    let fields = mbr_fields c.args.spec.now in
    let whole : put_mid 70 2 c.put_entry-4.new.room c.copy_from_slice.new.self ≡ joined fields =
    rw (c.copy_from_slice.ensures.after, c.put_entry-4.ensures, c.put_entry-3.ensures, c.put_entry-2.ensures, c.put_entry.ensures, c.put_u32.ensures) (refl {a = joined fields}) in
    ap (λ (xs : List ℕ). get_or xs o 0) whole ∙ sym (byte_of-run fields 440 o (run_passes fields 440 refl))
