-- What is bounded where nothing is done.
use Rattle.std.proofs.Common.{ℕ, [], arith, refl}
use Rattle.std.proofs.lemmas.List.Elements.{All-nil}
use Rattle.bench.specs.Meter.{CostsOn, Meter}
use Rattle.bench.specs.declared.Dev.{Dev}
use Rattle.bench.specs.declared.Dev.TheVariants.{Target}
use Rattle.block_map.specs.Maps.{IsMap}
use Rattle.block_map.specs.declared.maps.BlockMap.{BlockMap}
use Rattle.verify_job.specs.Devices.{IsBounded, most_work}

pub no_cost : (device : Dev) (n : ℕ) (a : Meter) → CostsOn device n a a
no_cost device n a = record {
  none_fell = omega arith;
  other = refl;
  no_less = omega arith;
  work = omega arith;
  room = refl;
  sure = refl;
}

-- the map of an image of no byte
abbrev bare : BlockMap
bare = record { size = 0; block = 512; ranges = [] }

bare_is_map : IsMap bare
unfolding lib.Count.ones
bare_is_map = record {
  size = omega arith;
  block = record { power = refl; not_below = omega arith; not_above = omega arith };
  few = omega arith;
  filled = All-nil _;
  ascend = λ i j d before below. absurd (omega arith);
  below = All-nil _;
}

pub nothing_done : (n : ℕ) (a : Meter) → IsBounded n a a
nothing_done n a = record { map = bare; holds = bare_is_map; costs = no_cost Target (most_work n bare) a }
