use Rattle.std.proofs.Common.{◌≡◌, length, take}
use Rattle.std.specs.Prelude.{map, slice_get}
use Rattle.std.specs.List.{filter_map}
use Rattle.outside.specs.Counts.{NoneFell}
use Rattle.build_job.proofs.Sized.{size_in}
use Rattle.build_job.proofs.sizes.lengths.Given as goal

-- so many lengths are given
abbrev pub invariant-loop-image : goal.invariant-loop-image
invariant-loop-image g l =
    let files = g.F.Files in
    record {
      none_fell : NoneFell (files.counts l.fn.files) (files.counts l.files);
      same_files : files.file l.files ≡ files.file l.fn.files;
      many : length l.sizes ≡ l.image-index;
      sizes : files.told
          → l.sizes ≡ map (size_in (files.file l.fn.files))
          (filter_map (slice_get l.graph.specs) (take l.image-index l.graph.order));
    }
