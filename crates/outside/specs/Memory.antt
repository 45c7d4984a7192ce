-- What contracts see of files in memory.
use Rattle.outside.specs.Calls.{Calls}
use Rattle.outside.specs.declared.memory.MemFiles.{MemFiles}

-- which calls fail
abbrev pub calls_of : MemFiles → Calls
calls_of files = files.failures
