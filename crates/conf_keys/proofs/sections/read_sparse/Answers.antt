use Rattle.std.specs.Prelude.{IsSome}
use Rattle.conf_keys.specs.declared.conf.SparseKeys.{SparseKeys}
use Rattle.conf_keys.specs.Sections.{sparse_values}
use Rattle.conf_keys.specs.Within.{IsSparseWithin}
use Rattle.conf_keys.specs.Items.{inner_keys}
use Rattle.conf_keys.proofs.Within.{kept_within, sparse_image, sparse_within}
use Rattle.conf_keys.proofs.sections.read_sparse.Goals as goal

pub returns-in-None-clause-within : goal.returns-in-None-clause-within
returns-in-None-clause-within c =
    kept_within IsSparseWithin (sparse_values (inner_keys c.args.items.now)) c.sparse_values.result c.kept.result
    (sparse_within (inner_keys c.args.items.now)) c.sparse_values.ensures c.kept.ensures

pub returns-in-None-clause-image : goal.returns-in-None-clause-image
returns-in-None-clause-image c =
    kept_within (λ (keys : SparseKeys). IsSome keys.image) (sparse_values (inner_keys c.args.items.now)) c.sparse_values.result c.kept.result
    (sparse_image c.args.head.now c.args.items.now c.sparse_head_fault.result c.sparse_head_fault.ensures c.in-None.ensures) c.sparse_values.ensures c.kept.ensures
