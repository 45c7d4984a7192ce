-- The values of keys are within the limits.
use Rattle.std.proofs.Common.{◌≡◌, ℕ, ◌-◌, ◌*◌, ◌^◌, ◌<◌, ◌≤◌, ◌&&◌, ◌⊎◌, Bool, cond, true, false, List, length, take, Option, Some, None, inl, inr, refl, arith, leb-true, eqb-true}
use Rattle.std.specs.Prelude.{IfSome, codes, slice_index, nat_le, nat_eq, option_and_then, unwrap_or, ◌||◌}
use Rattle.base_fields.specs.declared.spans.TableKind.{TableKind}
use Rattle.base_fields.specs.declared.spans.TableKind.TheVariants as table
use Rattle.conf_keys.specs.declared.conf.HdKeys.{HdKeys}
use Rattle.conf_items.specs.declared.items.Setting.{Setting}
use Rattle.conf_keys.specs.Sections.{goes_with_wide, hd_values, number_at, sector_size_of, size_at, table_at}
use Rattle.conf_keys.specs.Settings.{last_text}
use Rattle.conf_values.specs.Values.{is_sector, number_between, number_of, sector_of, size_from, size_of}
use Rattle.base_fields.proofs.Between.{between_gives}
use Rattle.base_fields.specs.Numbers.{IsBetween, is_between}
use Rattle.base_fields.specs.Results.{passing}
use Rattle.conf_values.proofs.Sizes.{passing_gives, size_small, then_gives}
use Rattle.conf_keys.specs.Within.{IsHdWithin, IsSectorSize, IsSizeFrom}

from_within : (least : ℕ) (o : Option ℕ) → IfSome o (λ n. n ≤ 2 ^ 43) → IfSome (option_and_then (passing (nat_le least)) o) (IsSizeFrom least)
from_within least None h = tt
from_within least (Some n) h = passing_here (nat_le least n) refl
  where
    passing_here : (b : Bool) → nat_le least n ≡ b → IfSome (cond b (Some n) None) (IsSizeFrom least)
    passing_here true e = (leb-true least n e, h)
    passing_here false e = tt

pub size_at_within : (least : ℕ) (key : List ℕ) (settings : List Setting) → IfSome (size_at least key settings) (IsSizeFrom least)
size_at_within least key settings = then_gives (size_from least) (IsSizeFrom least) (λ text. from_within least (size_of text) (size_small text)) (last_text key settings)

pub number_at_within : (least most : ℕ) (key : List ℕ) (settings : List Setting) → IfSome (number_at least most key settings) (IsBetween least most)
number_at_within least most key settings =
    then_gives (number_between least most) (IsBetween least most)
    (λ text. then_gives (passing (is_between least most)) (IsBetween least most)
    (passing_gives (is_between least most) (IsBetween least most) (between_gives least most))
    (number_of text))
    (last_text key settings)

-- a default that is within, too
pub or_within : (P : ℕ → Type 0) (o : Option ℕ) (default : ℕ) → P default → IfSome o P → P (unwrap_or o default)
or_within P None default d h = d
or_within P (Some n) default d h = h

either : (a b : Bool) → (a || b) ≡ true → (a ≡ true) ⊎ (b ≡ true)
either true b e = inl refl
either false b e = inr e

abbrev IsSector : Bool → ℕ → Type 0
IsSector true n = (n ≡ 512) ⊎ (n ≡ 4096)
IsSector false n = n ≡ 512

is_sector_gives : (wide : Bool) (n : ℕ) → is_sector wide n ≡ true → IsSector wide n
is_sector_gives true n e = elim (either (nat_eq n 512) (nat_eq n 4096) e) [ inl h ↦ inl (eqb-true n 512 h) | inr h ↦ inr (eqb-true n 4096 h) ]
is_sector_gives false n e = elim (either (nat_eq n 512) false e) [ inl h ↦ eqb-true n 512 h | inr h ↦ absurd (differ h) ]
  where
    differ : false ≡ true → ⊥
    differ h = cc

sector_default : (wide : Bool) → IsSector wide 512
sector_default true = inl refl
sector_default false = refl

sector_within : (wide : Bool) (o : Option (List ℕ)) → IsSector wide (unwrap_or (option_and_then (sector_of wide) o) 512)
sector_within wide o =
    or_within (IsSector wide) (option_and_then (sector_of wide) o) 512 (sector_default wide)
    (then_gives (sector_of wide) (IsSector wide)
    (λ text. then_gives (passing (is_sector wide)) (IsSector wide) (passing_gives (is_sector wide) (IsSector wide) (is_sector_gives wide)) (size_of text))
    o)

sector_of_table : (found : Option TableKind) (n : ℕ) → IsSector (goes_with_wide found) n → IsSectorSize (unwrap_or found table.Mbr) n
sector_of_table None n h = h
sector_of_table (Some table.Bare) n h = h
sector_of_table (Some table.Mbr) n h = h
sector_of_table (Some table.Gpt) n h = h
sector_of_table (Some table.Hybrid) n h = h

-- a sector size is at most 4096
sector_small : (wide : Bool) (n : ℕ) → IsSector wide n → n ≤ 4096
sector_small true n h = elim h [ inl e ↦ omega arith | inr e ↦ omega arith ]
sector_small false n h = omega arith

pub hd_within : (settings : List Setting) (keys : HdKeys) → keys ≡ hd_values settings → IsHdWithin keys
hd_within settings keys is = rw is values
  where
    sector : IsSector (goes_with_wide (table_at settings)) (sector_size_of settings)
    sector = sector_within (goes_with_wide (table_at settings)) (last_text (codes "sector-size") settings)

    small : sector_size_of settings ≤ 4096
    small = sector_small (goes_with_wide (table_at settings)) (sector_size_of settings) sector

    extended : IsBetween 0 4 (unwrap_or (number_at 0 4 (codes "extended-partition") settings) 0)
    extended = or_within (IsBetween 0 4) (number_at 0 4 (codes "extended-partition") settings) 0 (omega arith, omega arith) (number_at_within 0 4 (codes "extended-partition") settings)

    least_signature : IsBetween 0 (2 ^ 32 - 1) (unwrap_or (number_at 0 (2 ^ 32 - 1) (codes "disk-signature") settings) 0)
    least_signature = or_within (IsBetween 0 (2 ^ 32 - 1)) (number_at 0 (2 ^ 32 - 1) (codes "disk-signature") settings) 0 (omega arith, omega arith) (number_at_within 0 (2 ^ 32 - 1) (codes "disk-signature") settings)

    signature : unwrap_or (number_at 0 (2 ^ 32 - 1) (codes "disk-signature") settings) 0 < 2 ^ 32
    signature = omega (arith, least_signature.1)

    values : IsHdWithin (hd_values settings)
    values = record {
      align = size_at_within 1 (codes "align") settings;
      extended_partition = extended.1;
      disk_signature = signature;
      sector_size = sector_of_table (table_at settings) (sector_size_of settings) sector;
      gpt_location = or_within (IsSizeFrom (2 * sector_size_of settings)) (size_at (2 * sector_size_of settings) (codes "gpt-location") settings) (2 * sector_size_of settings) (omega arith, omega (arith, small)) (size_at_within (2 * sector_size_of settings) (codes "gpt-location") settings);
    }
