use Rattle.copy_narrow.proofs.NearLemmas.{writing_is_near, writing_stays_open}
use Rattle.copy_narrow.proofs.WrittenLemmas.{writes_are_written}
use Rattle.copy_narrow.proofs.laws.writes_are_near.Goals as goal

pub returns-clause-write : goal.returns-clause-write
returns-clause-write g c at n touches = writing_is_near touches

pub returns-clause-goes_on : goal.returns-clause-goes_on
returns-clause-goes_on g c at n touches = writing_stays_open touches

pub returns-clause-written : goal.returns-clause-written
returns-clause-written g c = writes_are_written _ _
