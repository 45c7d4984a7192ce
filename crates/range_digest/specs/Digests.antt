-- What it means to give the digest of a run of bytes of a file.
use Rattle.std.specs.Prelude.{◌≡◌, ℕ, ◌++◌, List, Result, Ok, Err, IsOkAnd}
use Rattle.sha2.specs.declared.Sha256.{Sha256}
use Rattle.sha2.specs.Hashers.{Holds256}
use Rattle.sha2.specs.Sha256.{sha256}
use Rattle.outside.specs.declared.reading.FillFault.{FillFault}
use Rattle.outside.specs.declared.reading.FillFault.TheVariants as fill
use Rattle.range_digest.specs.declared.digests.DigestFault.{DigestFault}
use Rattle.range_digest.specs.declared.digests.DigestFault.TheVariants.{Missing, SourceShort, FileFault}

-- an answer is the digest of the wanted bytes or the wanted refusal, or a call failed
abbrev pub Digests : Result (List ℕ) FillFault → Result (List ℕ) DigestFault → Type 0
Digests wanted (Ok digest) = IsOkAnd wanted (λ bytes. digest ≡ sha256 bytes)
Digests wanted (Err Missing) = wanted ≡ Err fill.Missing
Digests wanted (Err (SourceShort at)) = wanted ≡ Err (fill.Short at)
Digests wanted (Err FileFault) = Unit {0}

-- the wanted bytes are added to what is hashed; or the answer is the wanted refusal, or a call failed
abbrev pub Adds : Result (List ℕ) FillFault → Sha256 → Sha256 → Result Unit DigestFault → Type 0
Adds wanted old new (Ok done) = IsOkAnd wanted (λ bytes. (m : List ℕ) → Holds256 old m → Holds256 new (m ++ bytes))
Adds wanted old new (Err Missing) = wanted ≡ Err fill.Missing
Adds wanted old new (Err (SourceShort at)) = wanted ≡ Err (fill.Short at)
Adds wanted old new (Err FileFault) = Unit {0}
