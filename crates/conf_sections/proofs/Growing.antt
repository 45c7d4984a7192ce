-- An image, and what a configuration says, stay within the limits as they grow.
use Rattle.std.proofs.Common.{◌≡◌, ℕ, zero, suc, ◌<◌, List, ◌∷◌, ◌++◌, [], inl, inr, slice_index_or, arith}
use Rattle.std.specs.Prelude.{IsSome, Contains, All}
use Rattle.std.proofs.lemmas.List.Elements.{All-append, All-cons, All-nil, Contains-append_cases}
use Rattle.conf_keys.specs.declared.conf.Conf.{Conf}
use Rattle.conf_keys.specs.declared.conf.FlashSection.{FlashSection}
use Rattle.conf_keys.specs.declared.conf.ImageSection.{ImageSection}
use Rattle.conf_keys.specs.declared.conf.Kind.{Kind}
use Rattle.conf_keys.specs.declared.conf.Kind.TheVariants.{Sparse}
use Rattle.conf_keys.specs.declared.conf.PartitionSection.{PartitionSection}
use Rattle.conf_keys.specs.Within.{IsFlashWithin, IsImageWithin, IsPartitionWithin, IsWithin}

-- one kind alone
only : (kind : Kind) → Contains (kind ∷ []) Sparse → kind ≡ Sparse
only kind h = at h.0 h.1 h.2
  where
    at : (k : ℕ) → k < 1 → slice_index_or (kind ∷ []) k Sparse ≡ Sparse → kind ≡ Sparse
    at zero below is = is
    at (suc k) below is = absurd (omega arith)

pub kind_within : (kind : Kind) (image : ImageSection) (kinds : List Kind) → kinds ≡ image.kinds ++ kind ∷ [] → IsImageWithin image → (kind ≡ Sparse → IsSome image.sparse.image) → IsImageWithin (record image { kinds = kinds })
kind_within kind image kinds is within there = record {
  name = within.name;
  size = within.size;
  hd = within.hd;
  sparse = within.sparse;
  sparse_image = λ has. elim (Contains-append_cases image.kinds (kind ∷ []) Sparse (rw is at has)) [ inl before ↦ within.sparse_image before | inr last ↦ there (only kind last) ];
  parts = within.parts;
}

-- one more at the end
more : {A : Type 0} (P : A → Type 0) (xs : _) (x : A) → All P xs → P x → All P (xs ++ x ∷ [])
more P xs x all one = All-append P xs (x ∷ []) all (All-cons P x [] one (All-nil P))

pub part_within : (image : ImageSection) (part : PartitionSection) (parts : List PartitionSection) → parts ≡ image.parts ++ part ∷ [] → IsImageWithin image → IsPartitionWithin part → IsImageWithin (record image { parts = parts })
part_within image part parts is within one = record {
  name = within.name;
  size = within.size;
  hd = within.hd;
  sparse = within.sparse;
  sparse_image = within.sparse_image;
  parts = rw is (more IsPartitionWithin image.parts part within.parts one);
}

pub flash_within : (conf : Conf) (flash : FlashSection) (flashes : List FlashSection) → flashes ≡ conf.flashes ++ flash ∷ [] → IsWithin conf → IsFlashWithin flash → IsWithin (record conf { flashes = flashes })
flash_within conf flash flashes is within one = record { flashes = rw is (more IsFlashWithin conf.flashes flash within.flashes one); images = within.images }

pub image_within : (conf : Conf) (image : ImageSection) (images : List ImageSection) → images ≡ conf.images ++ image ∷ [] → IsWithin conf → IsImageWithin image → IsWithin (record conf { images = images })
image_within conf image images is within one = record { flashes = within.flashes; images = rw is (more IsImageWithin conf.images image within.images one) }
