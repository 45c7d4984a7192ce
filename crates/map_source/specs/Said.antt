-- The map that a file is said to have.
use Rattle.std.specs.Prelude.{◌≡◌, ℕ, nat_le, List, length, Option, Result, Ok, Err}
use Rattle.sha2.specs.Sha256.{sha256}
use Rattle.base_fields.specs.Results.{◌>>=◌, or_else, refused_by, when}
use Rattle.bmap_grammar.specs.Document.{said}
use Rattle.outside.specs.Files.{Tree, IsThere, bytes_of}
use Rattle.job_stages.specs.Stages.{Refuses}
use Rattle.map_source.specs.Faults.{fault_of, is_counted}
use Rattle.map_source.specs.declared.faults.SourceFault.{SourceFault}
use Rattle.map_source.specs.declared.faults.SourceFault.TheVariants.{Missing, BadMap}
use Rattle.map_source.specs.declared.sources.MapSource.{MapSource}

-- how many bytes a text may have
abbrev pub most_bytes : ℕ
most_bytes = 33554432

-- a text that isn't too long
abbrev pub fitting : List ℕ → Result (List ℕ) SourceFault
fitting text = when (nat_le (length text) most_bytes) text (BadMap most_bytes)

-- the text that stands under a name
abbrev pub text_said : Option (List ℕ) → Result (List ℕ) SourceFault
text_said file = or_else file Missing >>= fitting

-- the map of a text, with the digest of all its bytes
abbrev pub source_in : List ℕ → Result MapSource SourceFault
source_in text = refused_by fault_of (said text) >>= λ map. Ok (record { map = map; digest = sha256 text })

-- that of what stands under a name, or the first reason why it has none
abbrev pub map_said : Option (List ℕ) → Result MapSource SourceFault
map_said file = text_said file >>= source_in

-- the answer to a question about the length
abbrev pub HasLength : Tree → List ℕ → Result ℕ SourceFault → Type 0
HasLength file name (Ok len) = IsThere file name (len ≡ length (bytes_of file name))
HasLength file name (Err refusal) = Refuses is_counted (or_else (file name) Missing) refusal
