use Rattle.std.proofs.Common.{ℕ, subst, sym}
use Rattle.block_map.specs.Maps.{IsBareMapOf}
use Rattle.outside.specs.Files.{bytes_of}
use Rattle.map_job.proofs.digesting.map_measured.Goals as goal

pub returns-clause-made : goal.returns-clause-made
returns-clause-made g c = λ told.
    let bytes = bytes_of (g.F.Files.file c.args.files.now) c.args.name.now in
    let cover = c.args.measured.now.cover in
    let block = c.args.block in
    let bare =
    subst (λ (n : ℕ). IsBareMapOf cover n block c.in_ok-map.map) (sym (c.requires.there told).1) c.in_ok-map.ensures.exact in
    c.digests_make_the_map.ensures.end cover bytes block c.digest_ranges.new.map
    (c.in_ok-digest_ranges.ensures.all told cover block
    (c.digests_make_the_map.ensures.begin cover bytes block c.in_ok-map.map bare))
