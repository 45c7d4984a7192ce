use Rattle.image_layout.proofs.ReadsBack.{layout_reads_back}
use Rattle.image_layout.proofs.laws.layout_reads_back.Goals as goal

pub returns : goal.returns
returns c = layout_reads_back
