-- Ranges that are looked at one after another.
use Rattle.std.proofs.Common.{◌≡◌, ℕ, ◌+◌, ◌*◌, ◌/◌, ◌<◌, List, length, get_or, take, Option, Some, None, ap}
use Rattle.std.proofs.Common.{◌∙◌, sym, subst, arith}
use Rattle.std.specs.Prelude.{All, IfSome, is_some}
use Rattle.std.proofs.lemmas.List.Elements.{All-more}
use Rattle.std.proofs.lemmas.List.Sums.{count_by_more_no, count_by_more_yes, sum_by_more, sum_by_more_le}
use Rattle.bench.specs.declared.Dev.{Dev}
use Rattle.bench.specs.Meter.{CostsOn, Meter}
use Rattle.bench.proofs.MeterLemmas.{costs_on_so, costs_on_then}
use Rattle.block_map.specs.declared.maps.BlockMap.{BlockMap}
use Rattle.block_map.specs.declared.maps.Range.{Range}
use Rattle.block_map.specs.Maps.{digest_in, range_span}
use Rattle.verifier.specs.Checks.{HasOwnDigest, bytes_among, digests_among, mapped_bytes}
use Rattle.verifier.proofs.Pieces.{part_costs, parts_cost}

-- ---- the digests

-- the first k ranges that have a digest have it
abbrev pub HaveOwn : BlockMap → List ℕ → ℕ → Type 0
HaveOwn m bytes k = All (HasOwnDigest m bytes) (take k m.ranges)

-- a range more, of which the digest is this one, or none
own_more :
    (m : BlockMap) (bytes : List ℕ) (k : ℕ) (d : Range) (stated : Option (List ℕ)) → k < length m.ranges
    → (get_or m.ranges k d).digest ≡ stated → IfSome stated (λ s. s ≡ digest_in m bytes (get_or m.ranges k d))
    → HaveOwn m bytes k → HaveOwn m bytes (k + 1)
own_more m bytes k d stated there is own before =
    let Own = λ (o : Option (List ℕ)). IfSome o (λ s. s ≡ digest_in m bytes (get_or m.ranges k d)) in
    All-more (HasOwnDigest m bytes) m.ranges k d there before (subst Own (sym is) own)

-- one that has no digest
pub own_none :
    (m : BlockMap) (bytes : List ℕ) (k : ℕ) (d : Range) → k < length m.ranges → (get_or m.ranges k d).digest ≡ None
    → HaveOwn m bytes k → HaveOwn m bytes (k + 1)
own_none m bytes k d there none before = own_more m bytes k d None there none tt before

pub counted_none :
    (rs : List Range) (k : ℕ) (d : Range) → k < length rs → (get_or rs k d).digest ≡ None
    → digests_among (take (k + 1) rs) ≡ digests_among (take k rs)
counted_none rs k d there none =
    count_by_more_no (λ (r : Range). is_some r.digest) rs k d there (ap (λ (o : Option (List ℕ)). is_some o) none)

-- one that has one
pub own_some :
    (m : BlockMap) (bytes now : List ℕ) (k : ℕ) (d : Range) (want : List ℕ) → k < length m.ranges
    → (get_or m.ranges k d).digest ≡ Some want → now ≡ bytes → want ≡ digest_in m now (get_or m.ranges k d)
    → HaveOwn m bytes k → HaveOwn m bytes (k + 1)
own_some m bytes now k d want there some same own before =
    let own_before = own ∙ ap (λ (b : List ℕ). digest_in m b (get_or m.ranges k d)) same in
    own_more m bytes k d (Some want) there some own_before before

pub counted_some :
    (rs : List Range) (k : ℕ) (d : Range) (want : List ℕ) → k < length rs → (get_or rs k d).digest ≡ Some want
    → digests_among (take (k + 1) rs) ≡ digests_among (take k rs) + 1
counted_some rs k d want there some =
    count_by_more_yes (λ (r : Range). is_some r.digest) rs k d there (ap (λ (o : Option (List ℕ)). is_some o) some)

-- ---- what it costs

-- the first k ranges, and one range
abbrev pub most_for : BlockMap → ℕ → ℕ
most_for m k = 32 * k + bytes_among m (take k m.ranges) / 512

abbrev pub most_for_one : BlockMap → Range → ℕ
most_for_one m r = 32 + (range_span m r).len / 512

-- a range that isn't read
pub cost_none :
    {dev : Dev} {a b : Meter} (m : BlockMap) (k : ℕ) (d : Range) → k < length m.ranges
    → CostsOn dev (most_for m k) a b → CostsOn dev (most_for m (k + 1)) a b
cost_none {dev} {a} {b} m k d there cost =
    let sum = sum_by_more (λ (r : Range). (range_span m r).len) m.ranges k d there in
    let parts = parts_cost (bytes_among m (take k m.ranges)) (range_span m (get_or m.ranges k d)).len in
    costs_on_so cost (rw sum (omega arith))

-- one that is read
pub cost_some :
    {dev : Dev} {a b c : Meter} (m : BlockMap) (k : ℕ) (d : Range) → k < length m.ranges
    → CostsOn dev (most_for m k) a b → CostsOn dev (most_for_one m (get_or m.ranges k d)) b c
    → CostsOn dev (most_for m (k + 1)) a c
cost_some {dev} {a} {b} {c} m k d there first second =
    let sum = sum_by_more (λ (r : Range). (range_span m r).len) m.ranges k d there in
    let parts = parts_cost (bytes_among m (take k m.ranges)) (range_span m (get_or m.ranges k d)).len in
    costs_on_so (costs_on_then first second) (rw sum (omega arith))

-- one that is the last to be read costs no more than all
pub cost_stop :
    {dev : Dev} {a b c : Meter} (m : BlockMap) (k : ℕ) (d : Range) → k < length m.ranges
    → CostsOn dev (most_for m k) a b → CostsOn dev (most_for_one m (get_or m.ranges k d)) b c
    → CostsOn dev (32 * length m.ranges + mapped_bytes m / 512) a c
cost_stop {dev} {a} {b} {c} m k d there first second =
    let before = bytes_among m (take k m.ranges) in
    let own = (range_span m (get_or m.ranges k d)).len in
    let sum = sum_by_more_le (λ (r : Range). (range_span m r).len) m.ranges k d there in
    let parts = parts_cost before own in
    let less = part_costs (before + own) (mapped_bytes m) sum in
    costs_on_so (costs_on_then first second) (omega arith)
