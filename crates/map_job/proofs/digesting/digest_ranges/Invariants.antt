use Rattle.std.proofs.Common.{◌≡◌, ℕ, List, length}
use Rattle.base_fields.specs.declared.spans.Span.{Span}
use Rattle.block_map.specs.Maps.{IsMap, IsMapTo}
use Rattle.outside.specs.Counts.{NoneFell}
use Rattle.outside.specs.Files.{bytes_of}
use Rattle.region_pool.specs.Uses.{IsGivenBack}
use Rattle.map_job.proofs.digesting.digest_ranges.Given as goal

-- so many ranges have their digests
abbrev pub invariant-loop-k : goal.invariant-loop-k
invariant-loop-k g l =
    let files = g.F.Files in
    record {
      given_back : IsGivenBack l.fn.pool l.pool;
      none_fell : NoneFell (files.counts l.fn.files) (files.counts l.files);
      same_files : files.file l.files ≡ files.file l.fn.files;
      map : IsMap l.map;
      size : l.map.size ≡ l.fn.map.size;
      many : length l.map.ranges ≡ length l.fn.map.ranges;
      so_far : files.told → (spans : List Span) (block : ℕ)
          → IsMapTo spans (bytes_of (files.file l.fn.files) l.name) block 0 l.fn.map
          → IsMapTo spans (bytes_of (files.file l.fn.files) l.name) block l.k l.map;
    }
