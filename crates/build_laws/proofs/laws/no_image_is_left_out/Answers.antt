use Rattle.build_laws.proofs.Graphs.{none_left_out}
use Rattle.build_laws.proofs.laws.no_image_is_left_out.Goals as goal

pub returns : goal.returns
returns c = none_left_out
