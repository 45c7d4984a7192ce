use Rattle.std.proofs.Common.{take}
use Rattle.outside.specs.Counts.{NoneFell}
use Rattle.outside.specs.Files.{OthersStay}
use Rattle.extended_chain.specs.Chain.{chain_parts}
use Rattle.image_tables.specs.Tables.{PutsParts}
use Rattle.image_tables.proofs.putting.put_chain.Given as goal

-- so many records are put
abbrev pub invariant-loop-k : goal.invariant-loop-k
invariant-loop-k g l =
    let files = g.F.Files in
    record {
      none_fell : NoneFell (files.counts l.fn.files) (files.counts l.files);
      others : OthersStay l.name (files.file l.fn.files) (files.file l.files);
      puts : files.told → PutsParts (take l.k (chain_parts l.logical)) l.name (files.file l.fn.files) (files.file l.files);
    }
