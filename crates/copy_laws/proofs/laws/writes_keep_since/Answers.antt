use Rattle.copy_laws.proofs.Writes.{one_unit_torn, writes_keep_digests, writes_keep_bytes, writes_keep_the_rest, writes_keep_standing, writes_keep_since}
use Rattle.copy_laws.proofs.laws.writes_keep_since.Goals as goal

pub returns-clause-one : goal.returns-clause-one
returns-clause-one c = one_unit_torn

pub returns-clause-digests : goal.returns-clause-digests
returns-clause-digests c = writes_keep_digests

pub returns-clause-bytes : goal.returns-clause-bytes
returns-clause-bytes c = writes_keep_bytes

pub returns-clause-rest : goal.returns-clause-rest
returns-clause-rest c = writes_keep_the_rest

pub returns-clause-standing : goal.returns-clause-standing
returns-clause-standing c = writes_keep_standing

pub returns-clause-since : goal.returns-clause-since
returns-clause-since c = writes_keep_since
