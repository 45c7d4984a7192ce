-- The file of an image that is made by its layout is read as the layout's tables.
use Rattle.std.specs.Prelude.{◌≡◌, ℕ, List, Option, Ok, IsSomeAnd}
use Rattle.std.proofs.Common.{sym, subst}
use Rattle.outside.specs.Files.{bytes_of}
use Rattle.mbr_table.specs.declared.mbr.MbrSpec.{MbrSpec}
use Rattle.table_reader.specs.Tables.{tables_of}
use Rattle.table_laws.specs.Built.{BuiltImagesAreRead}
use Rattle.table_laws.specs.Laws.{tables_for}
use Rattle.table_laws.proofs.Layouts.{layouts_are_read}

pub built_images_are_read : BuiltImagesAreRead
built_images_are_read sources file spec laid shows =
    let bytes : List ℕ = bytes_of file spec.full in
    let read = layouts_are_read laid.layout bytes shows.0 laid.apart laid.has.size laid.back shows.1 in
    subst (λ (found : Option (List ℕ)). IsSomeAnd laid.layout.mbr
    (λ (mbr : MbrSpec). tables_of found ≡ Ok (tables_for laid.layout mbr)))
    (sym laid.has.there) read
