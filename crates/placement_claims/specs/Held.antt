-- Partitions in their places as code has them, and what those that are listed before one occupy together.
use Rattle.std.specs.Prelude.{◌≡◌, ℕ, ◌-◌, ◌^◌, ◌≤◌, Bool, false, not, ◌&&◌, nat_lt, List, [], ◌∷◌, Option, Some, None, IfSome, IsTrue, map}
use Rattle.std.specs.List.{list_any}
use Rattle.base_fields.specs.Results.{provided}
use Rattle.base_fields.specs.declared.spans.Span.{Span}
use Rattle.conf_values.specs.declared.values.Hole.{Hole}
use Rattle.placement_rules.specs.Claims.{in_hole, in_run, meets, occupies}
use Rattle.placement_rules.specs.Faults.{◌or◌, begins_below}
use Rattle.placement_rules.specs.Frames.{entries_len, has_guid, has_table}
use Rattle.placement_rules.specs.Places.{Stood, end_of, greatest}
use Rattle.placement_rules.specs.declared.faults.Meeting.{Meeting}
use Rattle.placement_rules.specs.declared.faults.Meeting.TheVariants as meeting
use Rattle.placement_rules.specs.declared.terms.Frame.{Frame}
use Rattle.placement_rules.specs.declared.terms.Place.{Place}
use Rattle.placement_rules.specs.declared.terms.Terms.{Terms}
use Rattle.span_cover.specs.Cover.{covers}

-- ---- one partition

abbrev pub in_place : Terms → List Hole → Place → Stood
in_place terms holes place = record { terms = terms; holes = holes; place = place }

-- it ends within 2^43 bytes, and its record stands in front of it
pub record IsHeld (s : Stood) : Type 0 where
  pub end : end_of s ≤ 2 ^ 43
  pub head : IfSome s.place.head (λ head. head ≤ s.place.at)

-- from a place to its end, without holes
abbrev pub is_left : Place → List Hole → ℕ → Bool
is_left place holes o = in_run place.at place.size o && not (list_any (in_hole (o - place.at)) holes)

-- a set of what a partition occupies
pub record IsClaim (s : Stood) (cover : List Span) : Type 0 where
  pub held : IsHeld s
  pub exact : (o : ℕ) → covers cover o ≡ occupies s o

-- an offset is in both
abbrev pub Shares : List Span → List Span → Type 0
Shares one other = (o : ℕ) × IsTrue (covers one o) × IsTrue (covers other o)

-- ---- those listed before

-- the end of the last logical one
abbrev pub last_end : List Stood → Option ℕ
last_end [] = None
last_end (s ∷ ss) = last_end ss or provided s.terms.logical (end_of s)

-- a logical one whose record begins below the end of the last logical one
abbrev pub is_late : Stood → Option ℕ → Bool
is_late s None = false
is_late s (Some end) = s.terms.logical && begins_below s.place.head end

abbrev pub is_occupied : List Stood → ℕ → Bool
is_occupied ss o = list_any (λ s. occupies s o) ss

-- what is kept of them: a set of all that they occupy, the end of the last logical one, and the greatest of the ends
pub record AreTaken (ss : List Stood) (cover : List Span) (last : Option ℕ) (most : ℕ) : Type 0 where
  pub exact : (o : ℕ) → covers cover o ≡ is_occupied ss o
  pub logical : last ≡ last_end ss
  pub end : most ≡ greatest (map end_of ss)
  pub bounded : most ≤ 2 ^ 43

-- ---- tables

-- the entries stand within 2^43 bytes
pub record IsFramed (frame : Frame) : Type 0 where
  pub entries : frame.entries_at ≤ 2 ^ 43
  pub sector : frame.sector ≤ 4096

-- what a partition meets in front
abbrev pub met_front : Frame → Stood → Option Meeting
met_front frame s =
    provided (has_table frame.table && meets s (in_run 440 72)) meeting.Mbr
    or provided (has_guid frame.table && meets s (in_run frame.sector frame.sector)) meeting.Header
    or provided (has_guid frame.table && meets s (in_run frame.entries_at entries_len)) meeting.Entries
    or provided (has_guid frame.table && s.terms.tabled && nat_lt s.place.at frame.front) meeting.Front
