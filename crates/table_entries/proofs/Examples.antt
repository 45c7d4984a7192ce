-- The identifiers of two names by another implementation of RFC 9562, and the type L in the order of a table.
use Rattle.std.specs.Prelude.{◌≡◌, [], ◌∷◌, codes}
use Rattle.std.proofs.Common.{refl}
use Rattle.sha1.specs.Sha1.{compress, digest_bytes, first_words, hash_after, rounds, schedule, sha1}
use Rattle.base_fields.specs.Numbers.{guid_order}
use Rattle.conf_keys.specs.Values.{linux_data}
use Rattle.table_entries.specs.Entries.{derived_id}

pub id_of_disk : derived_id (codes "genflash:disk") ≡ 0x0F ∷ 0xE4 ∷ 0x67 ∷ 0xBA ∷ 0xFF ∷ 0x18 ∷ 0x5B ∷ 0xB0 ∷ 0x90 ∷ 0xEA ∷ 0x71 ∷ 0x04 ∷ 0xB1 ∷ 0x15 ∷ 0x26 ∷ 0x13 ∷ []
unfolding derived_id first_words schedule rounds compress hash_after digest_bytes sha1
id_of_disk = refl

pub id_of_root : derived_id (codes "genflash:disk#root") ≡ 0xBA ∷ 0xB5 ∷ 0xD4 ∷ 0x28 ∷ 0x1D ∷ 0x6A ∷ 0x5E ∷ 0x06 ∷ 0x8E ∷ 0x1A ∷ 0x59 ∷ 0xCC ∷ 0xED ∷ 0x66 ∷ 0xEA ∷ 0xFA ∷ []
unfolding derived_id first_words schedule rounds compress hash_after digest_bytes sha1
id_of_root = refl

pub type_in_order : guid_order linux_data ≡ 0xAF ∷ 0x3D ∷ 0xC6 ∷ 0x0F ∷ 0x83 ∷ 0x84 ∷ 0x72 ∷ 0x47 ∷ 0x8E ∷ 0x79 ∷ 0x3D ∷ 0x69 ∷ 0xD8 ∷ 0x47 ∷ 0x7D ∷ 0xE4 ∷ []
type_in_order = refl
