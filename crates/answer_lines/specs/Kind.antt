-- How an answer stands to what was wanted. Words and lemmas on answers go by the kind.
use Rattle.answer_lines.specs.declared.answer.Answer.{Answer}
use Rattle.answer_lines.specs.declared.answer.Answer.TheVariants.{Done, FileFault, DeviceFault, NandFault}
use Rattle.answer_lines.specs.declared.answer.Answer.TheVariants.{NoMemory, PrintFault}
use Rattle.answer_lines.specs.declared.answer.Report.{Report}

-- the work was done and its lines printed; it was done, and a line of it was not printed; a call failed or memory was
-- refused, which is no matter of what was wanted; or what was wanted is refused
pub data Kind : Type 0 where
  Finished : Report → Kind
  LineFailed : Kind
  Counted : Kind
  Refused : Kind

-- an answer that isn't named here is a refusal, which has the strictest words
abbrev pub kind_of : Answer → Kind
kind_of (Done report) = Finished report
kind_of PrintFault = LineFailed
kind_of FileFault = Counted
kind_of (DeviceFault dev) = Counted
kind_of NandFault = Counted
kind_of NoMemory = Counted
kind_of answer = Refused
