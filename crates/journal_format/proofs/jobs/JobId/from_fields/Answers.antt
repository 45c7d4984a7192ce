use Rattle.std.proofs.Common.{arith}
use Rattle.journal_format.proofs.FieldBytes.{read_back, read_only}
use Rattle.journal_format.proofs.jobs.JobId.from_fields.Goals as goal

pub returns-clause-told : goal.returns-clause-told
returns-clause-told c =
    read_back _ c.args.fields.now (omega arith) c.fits-fields c.copy_from_slice.ensures.after c.get_u64.ensures c.get_u32.ensures c.get_u32-2.ensures c.get_u64-2.ensures c.get_u64-3.ensures

pub returns-clause-only : goal.returns-clause-only
returns-clause-only c id fits long same =
    read_only id _ c.args.fields.now fits long same c.copy_from_slice.ensures.after c.get_u64.ensures c.get_u32.ensures c.get_u32-2.ensures c.get_u64-2.ensures c.get_u64-3.ensures
