-- The keys of a section without a fault are within the limits.
use Rattle.std.proofs.Common.{◌≡◌, ℕ, zero, suc, ◌-◌, ◌*◌, ◌^◌, ◌≤◌, ◌&&◌, ◌||◌, Bool, cond, true, false, List, length, Option, Some, None, Result, Ok, Err, refl, ◌∙◌, arith, ltb-false}
use Rattle.std.specs.Prelude.{IfOk, IfSome, IsSome, IsSomeAnd, IsTrue, MatchResult, codes, is_some, option_and_then, unwrap_or, ◌==◌}
use lib.Count.{ones}
use Rattle.std.specs.Int.{is_power_of_two}
use Rattle.base_fields.specs.declared.memory.NoMemory.{NoMemory}
use Rattle.conf_items.specs.declared.items.Head.{Head}
use Rattle.conf_items.specs.declared.items.Place.{Place}
use Rattle.conf_items.specs.declared.items.Setting.{Setting}
use Rattle.conf_items.specs.declared.outline.InnerItem.{InnerItem}
use Rattle.conf_items.specs.declared.outline.SectionItem.{SectionItem}
use Rattle.conf_items.specs.declared.items.Word.{Word}
use Rattle.conf_keys.specs.declared.checking.SectionFault.{SectionFault}
use Rattle.conf_keys.specs.declared.checking.SectionFault.TheVariants as fault
use Rattle.conf_keys.specs.declared.settings.Section.TheVariants as section
use Rattle.conf_keys.specs.declared.settings.Shape.TheVariants as shape
use Rattle.conf_keys.specs.Partitions.{name_unfit, partition_head_fault, partition_values}
use Rattle.conf_keys.specs.Sections.{block_size_at, flash_head_fault, flash_values, is_lacking, is_product_past, is_too_large, lacks_key, name_lacks, named_fault, numpebs_at, pebsize_at, section_fault, sparse_head_fault, sparse_values, top_section_fault, unnamed_fault, word_text}
use Rattle.conf_keys.specs.Items.{inner_keys, top_keys}
use Rattle.conf_keys.specs.Settings.{last_text}
use Rattle.conf_values.specs.Values.{is_partition_name, power_between, size_from, size_of, number_between}
use Rattle.conf_keys.specs.Within.{IsFlashWithin, IsPartitionWithin, IsSizeFrom, IsSparseWithin}
use Rattle.conf_keys.proofs.Holes.{few_holes, holes_within}
use Rattle.base_fields.proofs.Between.{power_between_gives}
use Rattle.base_fields.specs.Numbers.{IsBetween, IsPowerBetween, is_power_between}
use Rattle.base_fields.specs.Results.{passing}
use Rattle.conf_values.proofs.Sizes.{passing_gives, then_gives}
use Rattle.conf_keys.proofs.Limits.{number_at_within, or_within, size_at_within}
use Rattle.conf_keys.proofs.Settled.{IsFitting, faultless, keys_pass, last_fits, top_faultless, top_keys_pass}

-- what a section's values have, its answer has
pub kept_within : {Keys : Type 0} (P : Keys → Type 0) (wanted : Keys) (values : Result Keys NoMemory) (result : Result Keys SectionFault) → P wanted
    → IfOk values (λ keys. keys ≡ wanted) → MatchResult values (λ keys. result ≡ Ok keys) (λ _. result ≡ Err fault.NoMemory) → IfOk result P
kept_within P wanted (Ok keys) result h is kept = rw (kept, is) h
kept_within P wanted (Err refused) result h is kept = rw kept tt

-- ---- faults of heads

first_none : (test : Bool) (fault : SectionFault) (next : Option SectionFault) → None ≡ cond test (Some fault) next → (test ≡ false) × (None ≡ next)
first_none true fault next e = absurd (cc)
first_none false fault next e = (refl, e)

neither_test : (a b : Bool) → (a || b) ≡ false → (a ≡ false) × (b ≡ false)
neither_test true b e = absurd (cc)
neither_test false b e = (refl, e)

named_length : (place : Place) (name : Option Word) → None ≡ name_lacks place name → 1 ≤ length (word_text name)
named_length place None e = absurd (cc)
named_length place (Some word) e = at (length word.text) e
  where
    at : (n : ℕ) → None ≡ cond (n == 0) (Some (fault.BadValue word.place)) None → 1 ≤ n
    at zero e = absurd (cc)
    at (suc n) e = omega arith

-- ---- flash

pub is_there : {A : Type 0} (read : List ℕ → Option A) (found : Option (List ℕ)) → IsSomeAnd found (λ text. is_some (read text) ≡ true) → is_some (option_and_then read found) ≡ true
is_there read None h = absurd h
is_there read (Some text) h = h

there_within : (P : ℕ → Type 0) (found : Option ℕ) (default : ℕ) → is_some found ≡ true → IfSome found P → P (unwrap_or found default)
there_within P None default some h = absurd (cc)
there_within P (Some n) default some h = h

product_small : (size count : Option ℕ) → is_some size ≡ true → is_some count ≡ true → is_product_past size count ≡ false → unwrap_or size 0 * unwrap_or count 0 ≤ 2 ^ 43
product_small (Some size) (Some count) some there e = ltb-false (2 ^ 43) (size * count) e
product_small None count some there e = absurd (cc)
product_small (Some size) None some there e = absurd (cc)

pub flash_within : (head : Head) (items : List SectionItem) (found : Option SectionFault) → found ≡ flash_head_fault head (top_keys items) → None ≡ top_section_fault found section.Flash items
    → IsFlashWithin (flash_values head (top_keys items))
flash_within head items found is e =
    let settings = top_keys items in
    let none = top_faultless found section.Flash items e in
    let pass = top_keys_pass section.Flash items none.1 in
    let heads = first_none (lacks_key settings || is_too_large settings) (fault.BadValue head.word.place) (named_fault head) (none.0 ∙ is) in
    let tests = neither_test (lacks_key settings) (is_too_large settings) heads.0 in
    let lacks = neither_test (is_lacking (codes "pebsize") settings) (is_lacking (codes "numpebs") settings) tests.0 in
    let size : is_some (pebsize_at settings) ≡ true
    = is_there (size_from 1) (last_text (codes "pebsize") settings)
    (last_fits section.Flash (shape.Size 1) (codes "pebsize") settings refl (λ before what. refl) pass lacks.0) in
    let count : is_some (numpebs_at settings) ≡ true
    = is_there (number_between 1 (2 ^ 64 - 1)) (last_text (codes "numpebs") settings)
    (last_fits section.Flash (shape.Number 1 (2 ^ 64 - 1)) (codes "numpebs") settings refl (λ before what. refl) pass lacks.1) in
    record {
      name = named_length head.word.place head.name heads.1;
      pebsize = (there_within (IsSizeFrom 1) (pebsize_at settings) 0 size (size_at_within 1 (codes "pebsize") settings)).0;
      numpebs = (there_within (IsBetween 1 (2 ^ 64 - 1)) (numpebs_at settings) 0 count (number_at_within 1 (2 ^ 64 - 1) (codes "numpebs") settings)).0;
      product = product_small (pebsize_at settings) (numpebs_at settings) size count tests.1;
    }

-- ---- android-sparse

block_within : (settings : List Setting) → IfSome (block_size_at settings) (IsPowerBetween 4096 1048576)
block_within settings =
    then_gives (power_between 4096 1048576) (IsPowerBetween 4096 1048576)
    (λ text. then_gives (passing (is_power_between 4096 1048576)) (IsPowerBetween 4096 1048576)
    (passing_gives (is_power_between 4096 1048576) (IsPowerBetween 4096 1048576) (power_between_gives 4096 1048576))
    (size_of text))
    (last_text (codes "block-size") settings)

-- what an image without the section has
usual_block : IsPowerBetween 4096 1048576 4096
unfolding ones
usual_block = record { power = refl; not_below = omega arith; not_above = omega arith }

pub sparse_within : (settings : List Setting) → IsSparseWithin (sparse_values settings)
sparse_within settings =
    let block = or_within (IsPowerBetween 4096 1048576) (block_size_at settings) 4096 usual_block (block_within settings) in
    record { power = block.power; block_size = (block.not_below, block.not_above) }

some_text : (found : Option (List ℕ)) → IsFitting shape.Text found → IsSome found
some_text None h = absurd h
some_text (Some text) h = refl

pub sparse_image : (head : Head) (items : List InnerItem) (found : Option SectionFault) → found ≡ sparse_head_fault head (inner_keys items) → None ≡ section_fault found section.Sparse items
    → IsSome (last_text (codes "image") (inner_keys items))
sparse_image head items found is e =
    let settings = inner_keys items in
    let none = faultless found section.Sparse items e in
    let there = first_none (is_lacking (codes "image") settings) (fault.BadValue head.word.place) (unnamed_fault head) (none.0 ∙ is) in
    some_text (last_text (codes "image") settings)
    (last_fits section.Sparse shape.Text (codes "image") settings refl (λ before what. refl) (keys_pass section.Sparse items none.1) there.0)

-- ---- partition

named_fit : (place : Place) (name : Option Word) → None ≡ name_unfit place name → IsTrue (is_partition_name (word_text name))
named_fit place None e = absurd (cc)
named_fit place (Some word) e = at (is_partition_name word.text) e
  where
    at : (b : Bool) → None ≡ cond b None (Some (fault.BadValue word.place)) → b ≡ true
    at true e = refl
    at false e = absurd (cc)

pub partition_within : (head : Head) (items : List InnerItem) (found : Option SectionFault) → found ≡ partition_head_fault head → None ≡ section_fault found section.Partition items
    → IsPartitionWithin (partition_values head (inner_keys items))
partition_within head items found is e =
    let settings = inner_keys items in
    let none = faultless found section.Partition items e in
    record {
      name = named_fit head.word.place head.name (none.0 ∙ is);
      offset = size_at_within 0 (codes "offset") settings;
      size = size_at_within 0 (codes "size") settings;
      align = size_at_within 1 (codes "align") settings;
      partition_type = number_at_within 1 255 (codes "partition-type") settings;
      holes = holes_within settings;
      few_holes = few_holes items none.1;
    }
