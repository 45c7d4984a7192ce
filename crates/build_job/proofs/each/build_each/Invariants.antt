use Rattle.std.proofs.Common.{take}
use Rattle.std.specs.Prelude.{slice_get}
use Rattle.std.specs.List.{filter_map}
use Rattle.build_laws.specs.Builds.{BuildsTo}
use Rattle.image_specs.specs.Specs.{full_names}
use Rattle.outside.specs.Counts.{NoneFell}
use Rattle.region_pool.specs.Uses.{IsGivenBack}
use Rattle.build_job.specs.Files.{StayOutside}
use Rattle.build_job.proofs.each.build_each.Given as goal

-- so many images are built
abbrev pub invariant-loop-image : goal.invariant-loop-image
invariant-loop-image g l =
    let files = g.F.Files in
    record {
      given_back : IsGivenBack l.fn.pool l.pool;
      none_fell : NoneFell (files.counts l.fn.files) (files.counts l.files);
      others : StayOutside (full_names l.graph.specs) (files.file l.fn.files) (files.file l.files);
      built : files.told
          → BuildsTo l.graph.specs (filter_map (slice_get l.graph.specs) (take l.image-index l.graph.order))
          (files.file l.fn.files) (files.file l.files);
    }
