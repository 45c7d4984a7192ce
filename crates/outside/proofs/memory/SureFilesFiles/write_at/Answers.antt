use Rattle.std.proofs.Common.{arith}
use Rattle.std.proofs.lemmas.Map.Text.{text_keys}
use Rattle.outside.proofs.memory.SureFilesFiles.write_at.Goals as goal

pub returns-in_err-overwrite-in-Some-clause-others : goal.returns-in_err-overwrite-in-Some-clause-others
returns-in_err-overwrite-in-Some-clause-others c = λ other differs. grind (arith, text_keys)

pub returns-clause-others : goal.returns-clause-others
returns-clause-others c = λ other differs. grind (arith, text_keys)
