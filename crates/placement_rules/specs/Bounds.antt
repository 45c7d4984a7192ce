-- Between which numbers all that the rules look at lies, and what holds of a partition that stands.
use Rattle.std.specs.Prelude.{◌≡◌, ℕ, ◌+◌, ◌-◌, ◌/◌, ◌%◌, ◌^◌, ◌<◌, ◌≤◌, Bool, true, false, IsTrue, IfSome, List, [], All, Option, Result, MatchResult, Some, None, is_some, not, ◌&&◌}
use Rattle.conf_keys.specs.Within.{IsSectorSize, IsSizeFrom}
use Rattle.conf_keys.specs.declared.conf.Kind.{Kind}
use Rattle.conf_keys.specs.declared.conf.Kind.TheVariants as kind
use Rattle.placement_rules.specs.Faults.{◌or◌, bad_autoresize, most_bytes, most_sectors, no_size, too_far, too_large}
use Rattle.placement_rules.specs.declared.faults.PartFault.{PartFault}
use Rattle.placement_rules.specs.declared.faults.PartFault.TheVariants.{TooFar}
use Rattle.placement_rules.specs.declared.terms.Frame.{Frame}
use Rattle.placement_rules.specs.declared.terms.Place.{Place}
use Rattle.placement_rules.specs.declared.terms.Terms.{Terms}

-- the kinds of image that the rules place
abbrev pub is_placed : Kind → Bool
is_placed kind.Hd = true
is_placed kind.Plain = true
is_placed _ = false

pub record IsFrame (frame : Frame) : Type 0 where
  pub sector : IsSectorSize frame.table frame.sector
  pub least : 512 ≤ frame.sector
  pub most : frame.sector ≤ 4096
  pub front : frame.front ≤ 2 ^ 44
  pub entries_at : frame.entries_at ≤ 2 ^ 43
  pub size : IfSome frame.size (IsSizeFrom 0)

pub record IsTerms (t : Terms) : Type 0 where
  pub offset : IfSome t.offset (IsSizeFrom 0)
  pub size : IfSome t.size (IsSizeFrom 0)
  pub align : IsSizeFrom 1 t.align

abbrev pub AreTerms : List Terms → Type 0
AreTerms ts = All IsTerms ts

-- its size comes from its file's length
abbrev pub is_filled : Terms → Bool
is_filled t = not t.autoresize && not (is_some t.size)

-- a length that is rounded up to a size is within the limit
abbrev pub IsRoundable : Terms → Type 0
IsRoundable t = IsTrue (is_filled t) → t.len ≤ most_bytes

-- what a partition of the table has beside: whole sectors, at least one
pub record IsTabledPlace (sector : ℕ) (p : Place) : Type 0 where
  pub at : p.at % sector ≡ 0
  pub size : p.size % sector ≡ 0
  pub some : 0 < p.size

-- its numbers of sectors are of 32 bits
pub record IsNarrowPlace (p : Place) : Type 0 where
  pub last : (p.at + p.size) / 512 - 1 ≤ most_sectors
  pub count : p.size / 512 ≤ most_sectors

-- a place that no fault of a partition's own refuses
pub record IsStanding (frame : Frame) (t : Terms) (p : Place) : Type 0 where
  pub end : p.at + p.size ≤ most_bytes
  pub len : t.len ≤ p.size
  pub at : p.at % t.align ≡ 0
  pub head : IfSome p.head (λ head. head + t.align ≡ p.at)
  pub logical : IsTrue t.logical → p.head ≡ Some (p.at - t.align)
  pub primary : t.logical ≡ false → p.head ≡ None
  pub tabled : IsTrue t.tabled → IsTabledPlace frame.sector p
  pub narrow : IsTrue t.narrow → IsNarrowPlace p

-- a check passes where it has no refusal, else refuses with it
abbrev pub Passes : Option PartFault → Result (Unit {0}) PartFault → Type 0
Passes wanted got = MatchResult got (λ done. wanted ≡ None) (λ fault. wanted ≡ Some fault)

-- ---- faults in parts

-- what refuses it once its place and its size are known
abbrev pub place_fault : Terms → Place → Option PartFault
place_fault t p =
    bad_autoresize t p.size
    or too_large t p.size
    or no_size t p.size
    or too_far (record { terms = t; holes = []; place = p })

-- a length that isn't rounded up, since it is above the limit
pub record IsTooLong (t : Terms) (fault : PartFault) : Type 0 where
  pub filled : IsTrue (is_filled t)
  pub long : most_bytes < t.len
  pub said : fault ≡ TooFar t.len most_bytes
