use Rattle.conf_laws.proofs.Inner.{hd_stands, partition_stands, sparse_stands}
use Rattle.conf_laws.proofs.laws.accepted_keys.Goals as goal

pub returns-clause-hdimage : goal.returns-clause-hdimage
returns-clause-hdimage c = hd_stands

pub returns-clause-android_sparse : goal.returns-clause-android_sparse
returns-clause-android_sparse c = sparse_stands

pub returns-clause-partition : goal.returns-clause-partition
returns-clause-partition c = partition_stands
