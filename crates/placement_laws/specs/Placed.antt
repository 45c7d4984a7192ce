-- Where partitions stand, each by itself: by what is listed before it.
use Rattle.std.specs.Prelude.{◌≡◌, ℕ, ◌+◌, ◌-◌, ◌%◌, ◌<◌, ◌≤◌, ◌⊎◌, Bool, true, false, if◌then◌else◌, All, List, Option, Some, None, length, map, slice_index_or, take}
use Rattle.base_fields.specs.Numbers.{IsLeastMultiple}
use Rattle.conf_keys.specs.declared.conf.Kind.TheVariants.{Hd, Plain}
use Rattle.conf_values.specs.declared.values.Hole.{Hole}
use Rattle.image_specs.specs.IsSpec.{IsSpec}
use Rattle.image_specs.specs.declared.specs.ImageSpec.{ImageSpec}
use Rattle.placement_rules.specs.Frames.{backup_len, frame_of}
use Rattle.placement_rules.specs.Places.{Stood, end_of}
use Rattle.placement_rules.specs.Terms.{holes_of, terms}
use Rattle.placement_rules.specs.declared.terms.Frame.{Frame}
use Rattle.placement_rules.specs.declared.terms.Place.{Place}
use Rattle.placement_rules.specs.declared.terms.Terms.{Terms}

-- ---- places

-- a multiple of the align that isn't below the front end nor below the end of any of these
pub record IsSpot (frame : Frame) (before : List Stood) (align m : ℕ) : Type 0 where
  pub multiple : m % align ≡ 0
  pub front : frame.front ≤ m
  pub behind : All (λ earlier. end_of earlier ≤ m) before

pub record IsLeastSpot (frame : Frame) (before : List Stood) (align m : ℕ) : Type 0 where
  pub spot : IsSpot frame before align m
  pub least : (n : ℕ) → IsSpot frame before align n → m ≤ n

-- a logical partition stands one align behind its spot, where its record stands
abbrev pub from_spot : Terms → ℕ → ℕ
from_spot t m = if t.logical then m + t.align else m

-- with an offset it stands there
abbrev pub StandsAt : Frame → List Stood → Terms → Option ℕ → ℕ → Type 0
StandsAt frame before t (Some offset) at = at ≡ offset
StandsAt frame before t None at = (m : ℕ) × IsLeastSpot frame before t.align m × (at ≡ from_spot t m)

-- the record of a logical partition stands one align before it
abbrev pub HasRecord : Terms → Bool → Place → Type 0
HasRecord t true place = place.head ≡ Some (place.at - t.align)
HasRecord t false place = place.head ≡ None

-- ---- sizes

-- the greatest multiple of a number that isn't above n
pub record IsGreatestMultiple (n to r : ℕ) : Type 0 where
  pub multiple : r % to ≡ 0
  pub not_above : r ≤ n
  pub greatest : (m : ℕ) → m % to ≡ 0 → m ≤ n → m ≤ r

-- the room from a place to the last multiple of the align that isn't above the start of the backup, or above the
-- image's size where it has none; no room where the image has no size
abbrev pub HasRoomIn : Frame → Terms → Option ℕ → ℕ → ℕ → Type 0
HasRoomIn frame t None at room = room ≡ 0
HasRoomIn frame t (Some size) at room =
    (end : ℕ) × IsGreatestMultiple (size - backup_len frame) t.align end × (room ≡ end - at)

-- one that isn't the last listed has no room
abbrev pub HasRoom : Frame → Terms → Bool → ℕ → ℕ → Type 0
HasRoom frame t true at room = HasRoomIn frame t frame.size at room
HasRoom frame t false at room = room ≡ 0

-- its key, else its file's length rounded up to the align
abbrev pub HasEnd : Terms → Option ℕ → ℕ → Type 0
HasEnd t (Some given) size = size ≡ given
HasEnd t None size = IsLeastMultiple t.len t.align size

-- one that grows has all of its room
abbrev pub HasSize : Frame → Terms → Bool → ℕ → ℕ → Type 0
HasSize frame t true at size = HasRoom frame t t.last at size
HasSize frame t false at size = HasEnd t t.size size

-- ---- partitions

-- a partition behind these
pub record IsPlaced (frame : Frame) (before : List Stood) (s : Stood) : Type 0 where
  pub stands : StandsAt frame before s.terms s.terms.offset s.place.at
  pub sized : HasSize frame s.terms s.terms.autoresize s.place.at s.place.size
  pub headed : HasRecord s.terms s.terms.logical s.place

-- partitions with these terms and these holes, each placed by all that are listed before it
pub record ArePlacedBy (frame : Frame) (ts : List Terms) (hs : List (List Hole)) (ss : List Stood) : Type 0 where
  pub terms : map (λ s. s.terms) ss ≡ ts
  pub holes : map (λ s. s.holes) ss ≡ hs
  pub each : (k : ℕ) (d : Stood) → k < length ss → IsPlaced frame (take k ss) (slice_index_or ss k d)

-- those of an image
abbrev pub ArePlaced : ImageSpec → List ℕ → List Stood → Type 0
ArePlaced spec lens ss = ArePlacedBy (frame_of spec) (terms spec lens) (holes_of spec) ss

-- what is asked of an image: it is a disk image or one file, with a length for each source
pub record IsPlaceable (spec : ImageSpec) (lens : List ℕ) : Type 0 where
  pub built : IsSpec spec
  pub kind : (spec.kind ≡ Hd) ⊎ (spec.kind ≡ Plain)
  pub count : length lens ≡ length spec.sources
