-- The status and the error line of each answer, from its row in the table of answers.
use Rattle.std.specs.Prelude.{ℕ, List, [], ◌∷◌, ◌++◌, codes, decimal}
use Rattle.hex.specs.Hex.{encode_lower}
use Rattle.line_parts.specs.Line.{shown_flag, shown_name}
use Rattle.line_parts.specs.Row.{AnswerRow, device_name, error_of, job_fields}
use Rattle.answer_lines.specs.declared.answer.Answer.{Answer}
use Rattle.answer_lines.specs.declared.answer.Answer.TheVariants.{Done, Usage, BadText, UnknownKey}
use Rattle.answer_lines.specs.declared.answer.Answer.TheVariants.{BadValue, Unset, DeepInclude}
use Rattle.answer_lines.specs.declared.answer.Answer.TheVariants.{TooLong, TooMany, NoKind}
use Rattle.answer_lines.specs.declared.answer.Answer.TheVariants.{NoFlash, NameClash, Cycle}
use Rattle.answer_lines.specs.declared.answer.Answer.TheVariants.{NoImage, Misaligned, BadHoles}
use Rattle.answer_lines.specs.declared.answer.Answer.TheVariants.{BadAutoresize, FileTooLarge}
use Rattle.answer_lines.specs.declared.answer.Answer.TheVariants.{NoSize, TooFar}
use Rattle.answer_lines.specs.declared.answer.Answer.TheVariants.{Overlap, ImageTooSmall}
use Rattle.answer_lines.specs.declared.answer.Answer.TheVariants.{TooManyEntries, NotOnBlock}
use Rattle.answer_lines.specs.declared.answer.Answer.TheVariants.{PastFlash, PieceTooSmall}
use Rattle.answer_lines.specs.declared.answer.Answer.TheVariants.{TooManyPieces, Missing, BadMap}
use Rattle.answer_lines.specs.declared.answer.Answer.TheVariants.{OtherVersion}
use Rattle.answer_lines.specs.declared.answer.Answer.TheVariants.{OtherDigest, BadCounts}
use Rattle.answer_lines.specs.declared.answer.Answer.TheVariants.{SumDiffers, NoTable, BadGpt}
use Rattle.answer_lines.specs.declared.answer.Answer.TheVariants.{BadSum, BadChain, BadChunk}
use Rattle.answer_lines.specs.declared.answer.Answer.TheVariants.{Counts, Short}
use Rattle.answer_lines.specs.declared.answer.Answer.TheVariants.{BadMagic, Compressed}
use Rattle.answer_lines.specs.declared.answer.Answer.TheVariants.{TargetTooSmall, JournalHeld, NoJournal}
use Rattle.answer_lines.specs.declared.answer.Answer.TheVariants.{JournalForeign, TooManyUnits, ImageStale}
use Rattle.answer_lines.specs.declared.answer.Answer.TheVariants.{SizeDiffers, NoRoom, RangeDiffers}
use Rattle.answer_lines.specs.declared.answer.Answer.TheVariants.{TargetDiffers}
use Rattle.answer_lines.specs.declared.answer.Answer.TheVariants.{SourceShort, FileFault, DeviceFault, NandFault}
use Rattle.answer_lines.specs.declared.answer.Answer.TheVariants.{NoMemory, PrintFault}

-- a field: its key and the bytes of its value
abbrev named : List ℕ → List ℕ → List ℕ × List ℕ
named key name = (key, shown_name name)

abbrev counted : List ℕ → ℕ → List ℕ × List ℕ
counted key n = (key, decimal n)

abbrev digested : List ℕ → List ℕ → List ℕ × List ℕ
digested key bytes = (key, encode_lower bytes)

abbrev row : ℕ → List ℕ → List (List ℕ × List ℕ) → AnswerRow
row status label fields = record { status = status; label = label; fields = fields }

-- each answer's status, what it is called in its line, and its fields in their order; what has no
-- error line isn't called
abbrev pub row_of : Answer → AnswerRow
row_of (Done report) = row 0 [] []
row_of Usage = row 1 (codes "Usage") []
row_of (BadText name place) = row 2 (codes "BadText")
    (named (codes "name") name ∷ counted (codes "place") place ∷ [])
row_of (UnknownKey name place) = row 2 (codes "UnknownKey")
    (named (codes "name") name ∷ counted (codes "place") place ∷ [])
row_of (BadValue name place) = row 2 (codes "BadValue")
    (named (codes "name") name ∷ counted (codes "place") place ∷ [])
row_of (Unset var) = row 2 (codes "Unset") (named (codes "var") var ∷ [])
row_of (DeepInclude name) = row 2 (codes "DeepInclude") (named (codes "name") name ∷ [])
row_of (TooLong total) = row 2 (codes "TooLong") (counted (codes "total") total ∷ [])
row_of (TooMany count limit) = row 2 (codes "TooMany")
    (counted (codes "count") count ∷ counted (codes "limit") limit ∷ [])
row_of (NoKind image count) = row 2 (codes "NoKind")
    (named (codes "image") image ∷ counted (codes "count") count ∷ [])
row_of (NoFlash image) = row 2 (codes "NoFlash") (named (codes "image") image ∷ [])
row_of (NameClash name) = row 2 (codes "NameClash") (named (codes "name") name ∷ [])
row_of (Cycle name) = row 2 (codes "Cycle") (named (codes "name") name ∷ [])
row_of (NoImage name) = row 2 (codes "NoImage") (named (codes "name") name ∷ [])
row_of (Misaligned part value align) = row 3 (codes "Misaligned")
    (named (codes "part") part ∷ counted (codes "value") value ∷ counted (codes "align") align
    ∷ [])
row_of (BadHoles part index) = row 3 (codes "BadHoles")
    (named (codes "part") part ∷ counted (codes "index") index ∷ [])
row_of (BadAutoresize part room least) = row 3 (codes "BadAutoresize")
    (named (codes "part") part ∷ counted (codes "room") room ∷ counted (codes "least") least ∷ [])
row_of (FileTooLarge part has limit) = row 3 (codes "FileTooLarge")
    (named (codes "part") part ∷ counted (codes "has") has ∷ counted (codes "limit") limit ∷ [])
row_of (NoSize part) = row 3 (codes "NoSize") (named (codes "part") part ∷ [])
row_of (TooFar part number limit) = row 3 (codes "TooFar")
    (named (codes "part") part ∷ counted (codes "number") number ∷ counted (codes "limit") limit
    ∷ [])
row_of (Overlap a b) = row 3 (codes "Overlap") (named (codes "a") a ∷ named (codes "b") b ∷ [])
row_of (ImageTooSmall has needs) = row 3 (codes "ImageTooSmall")
    (counted (codes "has") has ∷ counted (codes "needs") needs ∷ [])
row_of (TooManyEntries count) = row 3 (codes "TooManyEntries") (counted (codes "count") count ∷ [])
row_of (NotOnBlock part value pebsize) = row 3 (codes "NotOnBlock")
    (named (codes "part") part ∷ counted (codes "value") value ∷ counted (codes "pebsize") pebsize
    ∷ [])
row_of (PastFlash part end limit) = row 3 (codes "PastFlash")
    (named (codes "part") part ∷ counted (codes "end") end ∷ counted (codes "limit") limit ∷ [])
row_of (PieceTooSmall needs limit) = row 3 (codes "PieceTooSmall")
    (counted (codes "needs") needs ∷ counted (codes "limit") limit ∷ [])
row_of (TooManyPieces count limit) = row 3 (codes "TooManyPieces")
    (counted (codes "count") count ∷ counted (codes "limit") limit ∷ [])
row_of (Missing name) = row 4 (codes "Missing") (named (codes "name") name ∷ [])
row_of (BadMap place) = row 5 (codes "BadMap") (counted (codes "place") place ∷ [])
row_of (OtherVersion place) = row 5 (codes "OtherVersion") (counted (codes "place") place ∷ [])
row_of (OtherDigest place) = row 5 (codes "OtherDigest") (counted (codes "place") place ∷ [])
row_of (BadCounts want got) = row 5 (codes "BadCounts")
    (counted (codes "want") want ∷ counted (codes "got") got ∷ [])
row_of (SumDiffers want got) = row 5 (codes "SumDiffers")
    (digested (codes "want") want ∷ digested (codes "got") got ∷ [])
row_of NoTable = row 5 (codes "NoTable") []
row_of (BadGpt at) = row 5 (codes "BadGpt") (counted (codes "at") at ∷ [])
row_of (BadSum at want got) = row 5 (codes "BadSum")
    (counted (codes "at") at ∷ counted (codes "want") want ∷ counted (codes "got") got ∷ [])
row_of (BadChain at) = row 5 (codes "BadChain") (counted (codes "at") at ∷ [])
row_of (BadChunk k) = row 5 (codes "BadChunk") (counted (codes "k") k ∷ [])
row_of (Counts want got) = row 5 (codes "Counts")
    (counted (codes "want") want ∷ counted (codes "got") got ∷ [])
row_of (Short at) = row 5 (codes "Short") (counted (codes "at") at ∷ [])
row_of (BadMagic at) = row 5 (codes "BadMagic") (counted (codes "at") at ∷ [])
row_of (Compressed name) = row 6 (codes "Compressed") (named (codes "name") name ∷ [])
row_of (TargetTooSmall has needs) = row 6 (codes "TargetTooSmall")
    (counted (codes "has") has ∷ counted (codes "needs") needs ∷ [])
row_of (JournalHeld kept finished) = row 6 (codes "JournalHeld")
    (job_fields (codes "kept") kept ++ (codes "finished", shown_flag finished) ∷ [])
row_of NoJournal = row 6 (codes "NoJournal") []
row_of (JournalForeign kept given size) = row 6 (codes "JournalForeign")
    (job_fields (codes "kept") kept ++ job_fields (codes "given") given ++ counted (codes "length") size ∷ [])
row_of (TooManyUnits count limit) = row 6 (codes "TooManyUnits")
    (counted (codes "count") count ∷ counted (codes "limit") limit ∷ [])
row_of (ImageStale has needs) = row 6 (codes "ImageStale")
    (counted (codes "has") has ∷ counted (codes "needs") needs ∷ [])
row_of (SizeDiffers name has needs) = row 6 (codes "SizeDiffers")
    (named (codes "name") name ∷ counted (codes "has") has ∷ counted (codes "needs") needs ∷ [])
row_of (NoRoom good needs) = row 6 (codes "NoRoom")
    (counted (codes "good") good ∷ counted (codes "needs") needs ∷ [])
row_of (RangeDiffers range want got) = row 7 (codes "RangeDiffers")
    (counted (codes "range") range ∷ digested (codes "want") want ∷ digested (codes "got") got
    ∷ [])
row_of (TargetDiffers range want got) = row 7 (codes "TargetDiffers")
    (counted (codes "range") range ∷ digested (codes "want") want ∷ digested (codes "got") got
    ∷ [])
row_of (SourceShort name at) = row 8 (codes "SourceShort")
    (named (codes "name") name ∷ counted (codes "at") at ∷ [])
row_of FileFault = row 9 (codes "FileFault") []
row_of (DeviceFault dev) = row 10 (codes "DeviceFault") ((codes "dev", device_name dev) ∷ [])
row_of NandFault = row 10 (codes "NandFault") []
row_of NoMemory = row 11 (codes "NoMemory") []
row_of PrintFault = row 12 [] []

-- the status with which the program ends
abbrev pub status_of : Answer → ℕ
status_of answer = (row_of answer).status

-- the one line of an answer, and none of an answer whose work was done
abbrev pub error_text : Answer → List ℕ
error_text answer = error_of (row_of answer)
