use Rattle.std.proofs.Common.{◌≡◌, ℕ, arith, length, rules, subst, ◌∙◌}
use Rattle.block_map.specs.Maps.{IsMapTo}
use Rattle.outside.specs.Files.{bytes_of}
use Rattle.region_pool.proofs.Uses.{used_again}
use Rattle.map_job.proofs.Digests.{range_more}
use Rattle.map_job.proofs.digesting.digest_ranges.Goals as goal

pub loop-k-preserved : goal.loop-k-preserved
loop-k-preserved g c =
    let file = g.F.Files.file in
    record {
      given_back = used_again _ _ _ c.loop-k.invariant.given_back c.digest_range.ensures.given_back;
      none_fell = search rules;
      same_files = c.digest_range.ensures.same_files ∙ c.loop-k.invariant.same_files;
      map = c.digest_range.ensures.map;
      size = c.digest_range.ensures.size ∙ c.loop-k.invariant.size;
      many = c.digest_range.ensures.many ∙ c.loop-k.invariant.many;
      so_far = λ told spans block start.
          range_more (file c.args.files.now) (file c.loop-k.files) c.args.name.now spans block c.loop-k.k c.loop-k.map
          c.digest_range.new.map c.loop-k.invariant.same_files
          (c.in_ok-digest_range.ensures.more told spans block) (c.loop-k.invariant.so_far told spans block start);
    }

pub returns-clause-all : goal.returns-clause-all
returns-clause-all g c = λ told spans block start.
    let bytes = bytes_of (g.F.Files.file c.args.files.now) c.args.name.now in
    let end : c.loop-k.k ≡ length c.loop-k.map.ranges =
    omega (arith, c.loop-k-test.false, c.loop-k.auto.k-end, c.len-k-end.ensures, c.loop-k.invariant.many) in
    subst (λ (n : ℕ). IsMapTo spans bytes block n c.loop-k.map) end (c.loop-k.invariant.so_far told spans block start)
