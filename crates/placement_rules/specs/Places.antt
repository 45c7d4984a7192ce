-- Where each partition stands.
use Rattle.std.specs.Prelude.{ℕ, ◌+◌, ◌-◌, ◌*◌, ◌/◌, max, if◌then◌else◌, List, [], ◌∷◌, ◌++◌, Option, Some, None, map, unwrap_or}
use Rattle.conf_values.specs.declared.values.Hole.{Hole}
use Rattle.image_specs.specs.declared.specs.ImageSpec.{ImageSpec}
use Rattle.placement_rules.specs.Frames.{backup_len, frame_of}
use Rattle.placement_rules.specs.Terms.{holes_of, terms}
use Rattle.placement_rules.specs.declared.terms.Frame.{Frame}
use Rattle.placement_rules.specs.declared.terms.Place.{Place}
use Rattle.placement_rules.specs.declared.terms.Terms.{Terms}

-- a partition in its place
pub record Stood : Type 0 where
  pub terms : Terms
  pub holes : List Hole
  pub place : Place

abbrev pub end_of : Stood → ℕ
end_of s = s.place.at + s.place.size

-- the least multiple that isn't below n
abbrev pub least_multiple : ℕ → ℕ → ℕ
least_multiple to n = (n + (to - 1)) / to * to

abbrev pub greatest : List ℕ → ℕ
greatest [] = 0
greatest (n ∷ ns) = max n (greatest ns)

-- the front end and the end of every partition listed before
abbrev pub highest : Frame → List Stood → ℕ
highest frame before = greatest (frame.front ∷ map end_of before)

-- where a partition without an offset stands, by the greatest of these: at the least multiple of its align that isn't below;
-- a logical partition's record stands there, and the partition one align later
abbrev pub free_from : ℕ → Terms → ℕ
free_from highest t = least_multiple t.align highest + (if t.logical then t.align else 0)

abbrev pub at_from : ℕ → Terms → ℕ
at_from highest t = unwrap_or t.offset (free_from highest t)

-- the room of a partition that grows, from its place to the last multiple of its align that isn't above the start of the
-- backup, or above the image's size
abbrev pub room_in : Frame → Option ℕ → Terms → ℕ → ℕ
room_in frame None t at = 0
room_in frame (Some size) t at = (size - backup_len frame) / t.align * t.align - at

abbrev pub room_of : Frame → Terms → ℕ → ℕ
room_of frame t at = if t.last then room_in frame frame.size t at else 0

abbrev pub size_of : Frame → Terms → ℕ → ℕ
size_of frame t at = if t.autoresize then room_of frame t at else unwrap_or t.size (least_multiple t.align t.len)

abbrev pub standing : Frame → Terms → ℕ → Place
standing frame t at = record {
  at = at;
  size = size_of frame t at;
  head = if t.logical then Some (at - t.align) else None;
}

abbrev pub stood_at : Frame → ℕ → Terms → List Hole → Stood
stood_at frame highest t holes = record { terms = t; holes = holes; place = standing frame t (at_from highest t) }

abbrev pub stood_of : Frame → List Stood → Terms → List Hole → Stood
stood_of frame before t holes = stood_at frame (highest frame before) t holes

-- each by those that are listed before it
abbrev pub stood_from : Frame → List Stood → List Terms → List (List Hole) → List Stood
stood_from frame before (t ∷ ts) (holes ∷ more) =
    stood_of frame before t holes ∷ stood_from frame (before ++ stood_of frame before t holes ∷ []) ts more
stood_from frame before _ _ = []

abbrev pub stood : ImageSpec → List ℕ → List Stood
stood spec lens = stood_from (frame_of spec) [] (terms spec lens) (holes_of spec)
