-- Laws of names: where two are the same, and where no two are.
use Rattle.std.specs.Prelude.{◌≡◌, ℕ, ◌⊎◌, true, List, [], ◌∷◌, ◌++◌, Some, None, Contains}
use Rattle.conf_keys.specs.declared.conf.ImageSection.{ImageSection}
use Rattle.image_names.specs.declared.fault.GraphFault.{GraphFault}
use Rattle.image_names.specs.declared.fault.GraphFault.TheVariants.{NameClash}
use Rattle.image_names.specs.Clashes.{again, built_fulls, full_of, image_clash}
use Rattle.image_names.specs.Images.{all_names, is_built}
use Rattle.image_names.specs.Names.{AreApart}

-- ---- names

-- the refused name stands behind one that is the same, and no two in front of it are the same
pub record IsFirstTwice (names : List (List ℕ)) (fault : GraphFault) : Type 0 where
  pub front : List (List ℕ)
  pub name : List ℕ
  pub rest : List (List ℕ)
  pub is : names ≡ front ++ name ∷ rest
  pub twice : Contains front name
  pub apart : AreApart front
  pub fault_is : fault ≡ NameClash name

pub record TwiceExactly : Type 0 where
  pub some : (names : List (List ℕ)) (fault : GraphFault) → again [] names ≡ Some fault → IsFirstTwice names fault
  pub none : (names : List (List ℕ)) → again [] names ≡ None → AreApart names

-- ---- images

-- the name of an image is that of an earlier one
pub record HasName (front : List ImageSection) (image : ImageSection) (fault : GraphFault) : Type 0 where
  pub twice : Contains (all_names front) image.name
  pub fault_is : fault ≡ NameClash image.name

-- else it is built, and its full name is that of an earlier one that is built
pub record HasFull (output : List ℕ) (front : List ImageSection) (image : ImageSection) (fault : GraphFault) : Type 0 where
  pub new : Contains (all_names front) image.name → ⊥
  pub built : is_built image ≡ true
  pub twice : Contains (built_fulls output front) (full_of output image)
  pub fault_is : fault ≡ NameClash (full_of output image)

-- no two images in front of the refused one have one name
pub record IsFirstImage (output : List ℕ) (images : List ImageSection) (fault : GraphFault) : Type 0 where
  pub front : List ImageSection
  pub image : ImageSection
  pub rest : List ImageSection
  pub is : images ≡ front ++ image ∷ rest
  pub apart : AreApart (all_names front)
  pub fulls_apart : AreApart (built_fulls output front)
  pub twice : HasName front image fault ⊎ HasFull output front image fault

pub record ImagesExactly : Type 0 where
  pub some : (output : List ℕ) (images : List ImageSection) (fault : GraphFault) → image_clash output images ≡ Some fault → IsFirstImage output images fault
  pub names : (output : List ℕ) (images : List ImageSection) → image_clash output images ≡ None → AreApart (all_names images)
  pub fulls : (output : List ℕ) (images : List ImageSection) → image_clash output images ≡ None → AreApart (built_fulls output images)
