use Rattle.std.proofs.Common.{◌≡◌, ◌+◌, ◌^◌, ◌<◌, length}
use Rattle.outside.specs.Counts.{NoneFell}
use Rattle.outside.specs.Files.{bytes_of}
use Rattle.table_reader.specs.Chain.{chain_of}
use Rattle.table_reader.proofs.ChainSteps.{behind}
use Rattle.table_reader.proofs.chain.read_chain.Given as goal

-- the records before this one are read, and what the chain gives is said by those that are left
abbrev pub invariant-loop-left : goal.invariant-loop-left
invariant-loop-left g l =
    let files = g.F.Files in
    let bytes = bytes_of (files.file l.fn.files) l.name in
    record {
      none_fell : NoneFell (files.counts l.fn.files) (files.counts l.files);
      same_files : files.file l.files ≡ files.file l.fn.files;
      near : l.sector < 2 ^ 33;
      count : length l.logical + l.left ≡ 256;
      left : files.told → chain_of bytes l.start ≡ behind bytes l.start l.logical l.left l.sector;
    }

abbrev pub decreases-loop-left : goal.decreases-loop-left
decreases-loop-left g l = l.left
