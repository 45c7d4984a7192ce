-- What is listed of an image: an Android sparse image by its header and chunks, and any other by its partition table.
use Rattle.std.specs.Prelude.{◌≡◌, ℕ, ◌==◌, ◌&&◌, nat_le, Bool, List, length, Option, Some, Result, Ok, Err, if◌then◌else◌}
use Rattle.base_fields.specs.Results.{◌>>=◌, or_else, refused_by}
use Rattle.sparse_reader.specs.Answers.{IsView}
use Rattle.sparse_reader.specs.Header.{number_in}
use Rattle.sparse_reader.specs.Sparse.{sparse_of}
use Rattle.table_reader.specs.Tables.{AreTables, tables_of}
use Rattle.job_stages.specs.Stages.{Refuses}
use Rattle.outside.specs.Files.{IsThere, Tree, bytes_of}
use Rattle.list_job.specs.Faults.{is_counted, of_sparse, of_table}
use Rattle.list_job.specs.declared.fault.ListFault.{ListFault}
use Rattle.list_job.specs.declared.fault.ListFault.TheVariants.{Missing}
use Rattle.list_job.specs.declared.listing.Listing.{Listing}
use Rattle.list_job.specs.declared.listing.Listing.TheVariants as listing

-- the first four bytes are the magic of a sparse image
abbrev pub has_magic : List ℕ → Bool
has_magic bytes = nat_le 4 (length bytes) && (number_in bytes 0 4 == 0xED26FF3A)

-- what is listed of a sparse image, and of an image with tables
abbrev pub sparse_listing : Option (List ℕ) → Result Listing ListFault
sparse_listing file = refused_by of_sparse (sparse_of file) >>= λ view. Ok (listing.Sparse view)

abbrev pub table_listing : Option (List ℕ) → Result Listing ListFault
table_listing file = refused_by of_table (tables_of file) >>= λ tables. Ok (listing.Tables tables)

-- what is listed of a file's bytes, or the first thing that is wrong with them
abbrev pub listing_in : List ℕ → Result Listing ListFault
listing_in bytes = if has_magic bytes then sparse_listing (Some bytes) else table_listing (Some bytes)

-- the same of what stands under a name
abbrev pub listing_of : Option (List ℕ) → Result Listing ListFault
listing_of file = or_else file Missing >>= listing_in

-- what always holds of it
abbrev pub IsListing : Listing → Type 0
IsListing (listing.Sparse view) = IsView view
IsListing (listing.Tables tables) = AreTables tables

-- ---- how it is read

-- whether a file has the magic
abbrev pub magic_of : Option (List ℕ) → Result Bool ListFault
magic_of file = or_else file Missing >>= λ bytes. Ok (has_magic bytes)

-- the answer to a question about the length
abbrev pub HasLength : Tree → List ℕ → Result ℕ ListFault → Type 0
HasLength file name (Ok len) = IsThere file name (len ≡ length (bytes_of file name))
HasLength file name (Err refusal) = Refuses is_counted (or_else (file name) Missing) refusal
