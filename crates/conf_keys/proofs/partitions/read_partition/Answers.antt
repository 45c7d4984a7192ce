use Rattle.conf_keys.specs.Partitions.{partition_values}
use Rattle.conf_keys.specs.Within.{IsPartitionWithin}
use Rattle.conf_keys.specs.Items.{inner_keys}
use Rattle.conf_keys.proofs.Within.{kept_within, partition_within}
use Rattle.conf_keys.proofs.partitions.read_partition.Goals as goal

pub returns-in-None-clause-within : goal.returns-in-None-clause-within
returns-in-None-clause-within c =
    kept_within IsPartitionWithin (partition_values c.args.head.now (inner_keys c.args.items.now)) c.partition_values.result c.kept.result
    (partition_within c.args.head.now c.args.items.now c.partition_head_fault.result c.partition_head_fault.ensures c.in-None.ensures) c.partition_values.ensures c.kept.ensures
