-- Which images are built, which of their partitions count, and their names.
use Rattle.std.specs.Prelude.{ℕ, Bool, true, false, List, [], ◌∷◌, Option, Some, None, filter, map}
use Rattle.std.specs.Option.{option_map_or}
use Rattle.conf_keys.specs.declared.conf.Conf.{Conf}
use Rattle.conf_keys.specs.declared.conf.ImageSection.{ImageSection}
use Rattle.conf_keys.specs.declared.conf.Kind.{Kind}
use Rattle.conf_keys.specs.declared.conf.Kind.TheVariants as kind
use Rattle.conf_keys.specs.declared.conf.PartitionSection.{PartitionSection}

-- the kind of an image that has exactly one section other than `partition`
abbrev pub only_kind : List Kind → Option Kind
only_kind (kind ∷ []) = Some kind
only_kind _ = None

-- the file of an image of one of the other four kinds isn't made elsewhere
abbrev pub is_made : Kind → Bool
is_made kind.Ready = false
is_made _ = true

-- it has one of these four
abbrev pub is_built : ImageSection → Bool
is_built image = option_map_or is_made (only_kind image.kinds) false

-- in the order of the text
abbrev pub built_images : Conf → List ImageSection
built_images conf = filter is_built conf.images

-- no rule looks at the partitions of an image of kind file or android-sparse
abbrev pub counted_of : Option Kind → List PartitionSection → List PartitionSection
counted_of (Some kind.Sparse) parts = []
counted_of (Some kind.Plain) parts = []
counted_of other parts = parts

abbrev pub counted_parts : ImageSection → List PartitionSection
counted_parts image = counted_of (only_kind image.kinds) image.parts

-- ---- names

abbrev pub all_names : List ImageSection → List (List ℕ)
all_names images = map (λ image. image.name) images

-- of those images that are built
abbrev pub names_built : List ImageSection → List (List ℕ)
names_built images = map (λ image. image.name) (filter is_built images)

abbrev pub built_names : Conf → List (List ℕ)
built_names conf = names_built conf.images

-- of the partitions of an image that count
abbrev pub part_names : ImageSection → List (List ℕ)
part_names image = map (λ part. part.name) (counted_parts image)
