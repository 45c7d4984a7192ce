-- What a build does to files, image by image, and what stands when it is done.
use Rattle.std.specs.Prelude.{◌≡◌, ℕ, ◌<◌, ◌≤◌, ◌^◌, List, [], ◌∷◌, Bool, true, false, All, Contains, Option, None}
use Rattle.std.specs.Prelude.{Some, Ok, IsOkAnd, length, nat_lt, option_and_then, slice_get, slice_index}
use Rattle.base_fields.specs.declared.spans.Span.{Span}
use Rattle.conf_keys.specs.declared.conf.Kind.{Kind}
use Rattle.conf_keys.specs.declared.conf.Kind.TheVariants as kind
use Rattle.image_layout.specs.IsLayout.{IsLayout}
use Rattle.image_layout.specs.Layout.{byte_at, is_covered}
use Rattle.image_layout.specs.ReadsBack.{ReadsBack}
use Rattle.image_layout.specs.declared.layout.Layout.{Layout}
use Rattle.image_plan.specs.Plans.{is_planned, plan_said}
use Rattle.image_specs.specs.declared.specs.ImageSpec.{ImageSpec}
use Rattle.image_specs.specs.declared.specs.Source.{Source}
use Rattle.image_specs.specs.Specs.{full_names}
use Rattle.outside.specs.Files.{IsThere, OthersStay, Tree, bytes_of}
use Rattle.span_cover.specs.Cover.{covers}
use Rattle.sparse_text.specs.Text.{IsSparseText}

-- ---- an image with a layout

-- the file of that name has the layout's size, and at each offset the layout's byte by the bytes of other files
pub record HasLayout (layout : Layout) (sources : Tree) (name : List ℕ) (file : Tree) : Type 0 where
  pub there : file name ≡ Some (bytes_of file name)
  pub size : length (bytes_of file name) ≡ layout.size
  pub each : (o : ℕ) → o < layout.size → slice_index (bytes_of file name) o ≡ byte_at layout (bytes_of sources) o

-- it is placed by the lengths of its sources' files, its parts and tables lie apart, its file has the layout's bytes,
-- and the tables in it read back as the layout has them
pub record IsLaid (sources : Tree) (spec : ImageSpec) (file : Tree) : Type 0 where
  pub layout : Layout
  pub plan : plan_said sources spec ≡ Ok layout
  pub apart : IsLayout layout
  pub has : HasLayout layout sources spec.full file
  pub back : ReadsBack (λ o. slice_index (bytes_of file spec.full) o) layout

-- ---- a sparse image (Android sparse image format, version 1.0)

-- the image that is built for a source
abbrev pub child_in : List ImageSpec → Source → Option ImageSpec
child_in all source = option_and_then (slice_get all) source.child

-- all of so many bytes count
abbrev pub IsWhole : ℕ → List Span → Type 0
IsWhole size cover = (o : ℕ) → covers cover o ≡ nat_lt o size

-- those count that a layout covers
abbrev pub IsCoverOf : List Span → Layout → Type 0
IsCoverOf cover layout = (o : ℕ) → covers cover o ≡ is_covered layout o

-- whether a built image is planned: those that its layout covers, and all of another one
abbrev pub IsCoverBy : Bool → Tree → ℕ → List Span → ImageSpec → Type 0
IsCoverBy true sources size cover child = IsOkAnd (plan_said sources child) (IsCoverOf cover)
IsCoverBy false sources size cover child = IsWhole size cover

-- of a built image that has a layout those that the layout covers, and all of another file
abbrev pub IsCoverFor : Tree → ℕ → List Span → Option ImageSpec → Type 0
IsCoverFor sources size cover None = IsWhole size cover
IsCoverFor sources size cover (Some child) = IsCoverBy (is_planned child.kind) sources size cover child

-- its file is the sparse file of its one source's, with the offsets of that which count
pub record IsSparse (all : List ImageSpec) (sources : Tree) (spec : ImageSpec) (file : Tree) : Type 0 where
  pub source : Source
  pub one : spec.sources ≡ source ∷ []
  pub name : List ℕ
  pub named : source.file ≡ Some name
  pub found : sources name ≡ Some (bytes_of sources name)
  pub small : length (bytes_of sources name) ≤ 2 ^ 43
  pub cover : List Span
  pub counts : IsCoverFor sources (length (bytes_of sources name)) cover (child_in all source)
  pub has : IsThere file spec.full
      (IsSparseText (bytes_of sources name) cover spec.keys.sparse.block_size (bytes_of file spec.full))

-- ---- an image of any kind

abbrev pub IsOfKind : Kind → List ImageSpec → Tree → ImageSpec → Tree → Type 0
IsOfKind kind.Hd all sources spec file = IsLaid sources spec file
IsOfKind kind.Plain all sources spec file = IsLaid sources spec file
IsOfKind kind.Flash all sources spec file = IsLaid sources spec file
IsOfKind kind.Sparse all sources spec file = IsSparse all sources spec file
IsOfKind kind.Ready all sources spec file = ⊥

-- the image's file is made from these sources
abbrev pub IsMadeFrom : List ImageSpec → Tree → ImageSpec → Tree → Type 0
IsMadeFrom all sources spec file = IsOfKind spec.kind all sources spec file

-- ---- one image after another

-- an image is made from the files as they are, and its file is put in place of what stood there
pub record Builds (all : List ImageSpec) (spec : ImageSpec) (before after : Tree) : Type 0 where
  pub made : IsMadeFrom all before spec after
  pub others : OthersStay spec.full before after

-- each image is built from the files that those before it left
abbrev pub BuildsTo : List ImageSpec → List ImageSpec → Tree → Tree → Type 0
BuildsTo all [] before after = after ≡ before
BuildsTo all (spec ∷ rest) before after =
    (middle : Tree) × Builds all spec before middle × BuildsTo all rest middle after

-- ---- all images

-- its file is made from the files as they are now, of which it is one
abbrev pub IsBuilt : List ImageSpec → Tree → ImageSpec → Type 0
IsBuilt all file spec = IsMadeFrom all file spec file

-- each of the images is built, and every other name is as before
pub record Built (all : List ImageSpec) (before : Tree) (specs : List ImageSpec) (after : Tree) : Type 0 where
  pub each : All (IsBuilt all after) specs
  pub others : (name : List ℕ) → (Contains (full_names specs) name → ⊥) → after name ≡ before name
