-- Files that a build leaves as they are, and files that it makes.
use Rattle.std.specs.Prelude.{◌≡◌, ℕ, List, Contains, Some}
use Rattle.image_specs.specs.declared.specs.ImageSpec.{ImageSpec}
use Rattle.outside.specs.Files.{Tree, bytes_of}

-- every name but these is as before
abbrev pub StayOutside : List (List ℕ) → Tree → Tree → Type 0
StayOutside names old new = (name : List ℕ) → (Contains names name → ⊥) → new name ≡ old name

-- an image's file is there
abbrev pub HasFile : Tree → ImageSpec → Type 0
HasFile file spec = file spec.full ≡ Some (bytes_of file spec.full)
