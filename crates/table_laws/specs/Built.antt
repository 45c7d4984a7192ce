-- The law of images that are built and then read.
use Rattle.std.specs.Prelude.{◌≡◌, ℕ, List, Ok, IsSomeAnd}
use Rattle.outside.specs.Files.{Tree, bytes_of}
use Rattle.image_layout.specs.declared.layout.Layout.{Layout}
use Rattle.image_specs.specs.declared.specs.ImageSpec.{ImageSpec}
use Rattle.build_laws.specs.Builds.{IsLaid}
use Rattle.table_reader.specs.Tables.{tables_of}
use Rattle.table_laws.specs.Laws.{IsDistinct, tables_for}
use Rattle.table_laws.specs.ReadAs.{AreBytes}

-- these bytes are taken for no other tables than the layout's
abbrev pub ShowsLayout : Layout → List ℕ → Type 0
ShowsLayout l bytes = AreBytes bytes × IsDistinct l.table l bytes

-- the file of an image that is made by its layout is read as the layout's tables
abbrev pub BuiltImagesAreRead : Type 0
BuiltImagesAreRead = (sources file : Tree) (spec : ImageSpec) (laid : IsLaid sources spec file) →
    ShowsLayout laid.layout (bytes_of file spec.full) →
    IsSomeAnd laid.layout.mbr (λ mbr. tables_of (file spec.full) ≡ Ok (tables_for laid.layout mbr))
