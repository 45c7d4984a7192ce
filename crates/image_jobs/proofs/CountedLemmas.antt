-- A counted answer of `map` by its cause: where no call on the files failed, memory was refused.
use Rattle.std.proofs.Common.{◌≡◌, refl, inl, inr}
use Rattle.outside.specs.Counts.{Counts, Rose}
use Rattle.answer_lines.specs.Kind.{Counted, kind_of}
use Rattle.answer_lines.specs.declared.answer.Answer.{Answer}
use Rattle.answer_lines.specs.declared.answer.Answer.TheVariants.{Done, Usage, BadText, UnknownKey, BadValue, Unset}
use Rattle.answer_lines.specs.declared.answer.Answer.TheVariants.{DeepInclude, TooLong, TooMany, NoKind, NoFlash}
use Rattle.answer_lines.specs.declared.answer.Answer.TheVariants.{NameClash, Cycle, NoImage, Misaligned, BadHoles}
use Rattle.answer_lines.specs.declared.answer.Answer.TheVariants.{BadAutoresize, FileTooLarge, NoSize, TooFar, Overlap}
use Rattle.answer_lines.specs.declared.answer.Answer.TheVariants.{ImageTooSmall, TooManyEntries, NotOnBlock, PastFlash}
use Rattle.answer_lines.specs.declared.answer.Answer.TheVariants.{PieceTooSmall, TooManyPieces, Missing, BadMap}
use Rattle.answer_lines.specs.declared.answer.Answer.TheVariants.{OtherVersion, OtherDigest, BadCounts, SumDiffers}
use Rattle.answer_lines.specs.declared.answer.Answer.TheVariants.{NoTable, BadGpt, BadSum, BadChain, BadChunk, Counts as counts}
use Rattle.answer_lines.specs.declared.answer.Answer.TheVariants.{Short, BadMagic, Compressed, TargetTooSmall}
use Rattle.answer_lines.specs.declared.answer.Answer.TheVariants.{JournalHeld, NoJournal, JournalForeign, TooManyUnits}
use Rattle.answer_lines.specs.declared.answer.Answer.TheVariants.{ImageStale, SizeDiffers, NoRoom, RangeDiffers}
use Rattle.answer_lines.specs.declared.answer.Answer.TheVariants.{TargetDiffers, SourceShort, FileFault, DeviceFault}
use Rattle.answer_lines.specs.declared.answer.Answer.TheVariants.{NandFault, NoMemory, PrintFault}
use Rattle.image_jobs.specs.MapArm.{IsMapShown}

pub counted_alone : (before now : Counts) (a : Answer) → IsMapShown before now a → ¬ (Rose before.faults now.faults)
    → kind_of a ≡ Counted → a ≡ NoMemory
counted_alone before now (Done report) h steady kind = cc
counted_alone before now Usage h steady kind = cc
counted_alone before now (BadText name place) h steady kind = cc
counted_alone before now (UnknownKey name place) h steady kind = cc
counted_alone before now (BadValue name place) h steady kind = cc
counted_alone before now (Unset var) h steady kind = cc
counted_alone before now (DeepInclude name) h steady kind = cc
counted_alone before now (TooLong total) h steady kind = cc
counted_alone before now (TooMany count limit) h steady kind = cc
counted_alone before now (NoKind image count) h steady kind = cc
counted_alone before now (NoFlash image) h steady kind = cc
counted_alone before now (NameClash name) h steady kind = cc
counted_alone before now (Cycle name) h steady kind = cc
counted_alone before now (NoImage name) h steady kind = cc
counted_alone before now (Misaligned part value align) h steady kind = cc
counted_alone before now (BadHoles part index) h steady kind = cc
counted_alone before now (BadAutoresize part room least) h steady kind = cc
counted_alone before now (FileTooLarge part has limit) h steady kind = cc
counted_alone before now (NoSize part) h steady kind = cc
counted_alone before now (TooFar part number limit) h steady kind = cc
counted_alone before now (Overlap a b) h steady kind = cc
counted_alone before now (ImageTooSmall has needs) h steady kind = cc
counted_alone before now (TooManyEntries count) h steady kind = cc
counted_alone before now (NotOnBlock part value pebsize) h steady kind = cc
counted_alone before now (PastFlash part end limit) h steady kind = cc
counted_alone before now (PieceTooSmall needs limit) h steady kind = cc
counted_alone before now (TooManyPieces count limit) h steady kind = cc
counted_alone before now (Missing name) h steady kind = cc
counted_alone before now (BadMap place) h steady kind = cc
counted_alone before now (OtherVersion place) h steady kind = cc
counted_alone before now (OtherDigest place) h steady kind = cc
counted_alone before now (BadCounts want got) h steady kind = cc
counted_alone before now (SumDiffers want got) h steady kind = cc
counted_alone before now NoTable h steady kind = cc
counted_alone before now (BadGpt at) h steady kind = cc
counted_alone before now (BadSum at want got) h steady kind = cc
counted_alone before now (BadChain at) h steady kind = cc
counted_alone before now (BadChunk k) h steady kind = cc
counted_alone before now (counts want got) h steady kind = cc
counted_alone before now (Short at) h steady kind = cc
counted_alone before now (BadMagic at) h steady kind = cc
counted_alone before now (Compressed name) h steady kind = cc
counted_alone before now (TargetTooSmall has needs) h steady kind = cc
counted_alone before now (JournalHeld kept finished) h steady kind = cc
counted_alone before now NoJournal h steady kind = cc
counted_alone before now (JournalForeign kept given length) h steady kind = cc
counted_alone before now (TooManyUnits count limit) h steady kind = cc
counted_alone before now (ImageStale has needs) h steady kind = cc
counted_alone before now (SizeDiffers name has needs) h steady kind = cc
counted_alone before now (NoRoom good needs) h steady kind = cc
counted_alone before now (RangeDiffers range want got) h steady kind = cc
counted_alone before now (TargetDiffers range want got) h steady kind = cc
counted_alone before now (SourceShort name at) h steady kind = cc
counted_alone before now FileFault (inl h) steady kind = absurd (steady h)
counted_alone before now FileFault (inr h) steady kind = absurd h
counted_alone before now (DeviceFault dev) (inl h) steady kind = absurd h
counted_alone before now (DeviceFault dev) (inr h) steady kind = absurd h
counted_alone before now NandFault (inl h) steady kind = absurd h
counted_alone before now NandFault (inr h) steady kind = absurd h
counted_alone before now NoMemory h steady kind = refl
counted_alone before now PrintFault h steady kind = cc
