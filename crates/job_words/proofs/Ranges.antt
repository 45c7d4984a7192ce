-- The blocks, pages, units and windows of a job are in their ranges.
use lib.Count.{ones}
use Rattle.std.proofs.Common.{◌≡◌, ℕ, Bool, cond, true, false, List, [], ◌∷◌, Option, Some, None, refl, subst, arith, leb-true, ap, ◌∙◌, ◌==◌, ◌+◌, ◌*◌, ◌^◌}
use Rattle.std.specs.Prelude.{option_and_then, option_map, codes}
use Rattle.std.proofs.lemmas.Nat.{ones_cat}
use Rattle.base_fields.proofs.Between.{between_gives, power_between_gives}
use Rattle.base_fields.specs.Numbers.{IsPowerBetween}
use Rattle.clap.specs.Walk.{Row, Text, all_of, first_of}
use Rattle.job_words.specs.Arguments.{is_between, is_power_between, number_or, numeral_of, passing, simple, taken, text_at}
use Rattle.job_words.specs.Jobs.{are_pieces, arguments_of, block_of, copy_with, ends_differ, erase_block_of, expand_with, job_by, job_from, job_of}
use Rattle.job_words.specs.Jobs.{nand_places_differ, nand_with, page_of, pairs_from, unit_of, window_of}
use Rattle.job_words.specs.Ranges.{IsInRange, IsUnit, IsWindow}
use Rattle.job_words.specs.Verbs.{verb_named}
use Rattle.job_words.specs.declared.jobs.Job.{Job}
use Rattle.job_words.specs.declared.jobs.Job.TheVariants as job
use Rattle.job_words.specs.declared.verbs.Verb.{Verb}
use Rattle.job_words.specs.declared.verbs.Verb.TheVariants as verb

-- ---- tests that a number passed

passes : (test : ℕ → Bool) (m n : ℕ) → passing test m ≡ Some n → test n ≡ true
passes test m n same = at (test m) refl same
  where
    at : (b : Bool) → test m ≡ b → cond b (Some m) None ≡ Some n → test n ≡ true
    at true is got =
        let same : m ≡ n = cc in
        subst (λ k. test k ≡ true) same is
    at false is got = absurd (none got)
      where
        none : None ≡ Some n → ⊥
        none e = cc

-- what the default has and a number that passed the test has, the number of an option has
numbered : (default : ℕ) (test : ℕ → Bool) (P : ℕ → Type 0) (given : Option Text) (n : ℕ) → P default
    → ((m : ℕ) → test m ≡ true → P m) → number_or default test given ≡ Some n → P n
numbered default test P None n usual gives got =
    let same : default ≡ n = cc in
    subst P same usual
numbered default test P (Some text) n usual gives got = at (numeral_of text) got
  where
    at : (o : Option ℕ) → option_and_then (passing test) o ≡ Some n → P n
    at None e = absurd (none e)
      where
        none : None ≡ Some n → ⊥
        none e = cc
    at (Some m) e = gives n (passes test m n e)

-- ---- the options

usual_block : IsPowerBetween 512 65536 4096
unfolding ones
usual_block = record { power = refl; not_below = omega arith; not_above = omega arith }

usual_erase_block : IsPowerBetween 1 4194304 131072
unfolding ones
usual_erase_block = record { power = refl; not_below = omega arith; not_above = omega arith }

usual_page : IsPowerBetween 512 16384 2048
unfolding ones
usual_page = record { power = refl; not_below = omega arith; not_above = omega arith }

-- 1048576 is too large to be unfolded: its one digit is that of 16, with 16 digits of zeros behind it
one_digit : ones 16 + ones 0 ≡ 1
unfolding ones
one_digit = refl

one_in_unit : ones (16 * 2 ^ 16 + 0) ≡ 1
one_in_unit = ones_cat 16 16 0 (omega arith) ∙ one_digit

usual_unit : IsUnit 1048576
usual_unit = record { power = ap (λ n. n == 1) one_in_unit; not_below = omega arith; not_above = omega arith }

block_in : (rows : List Row) (n : ℕ) → block_of rows ≡ Some n → IsPowerBetween 512 65536 n
block_in rows n is =
    numbered 4096 (is_power_between 512 65536) (IsPowerBetween 512 65536) (first_of (codes "block") rows) n usual_block
    (power_between_gives 512 65536) is

window_in : (rows : List Row) (n : ℕ) → window_of rows ≡ Some n → IsWindow n
window_in rows n is =
    numbered 1 (is_between 1 16) IsWindow (first_of (codes "window") rows) n (omega arith, omega arith) (between_gives 1 16) is

unit_in : (rows : List Row) (n : ℕ) → unit_of rows ≡ Some n → IsUnit n
unit_in rows n is =
    numbered 1048576 (is_power_between 65536 4194304) IsUnit (first_of (codes "unit") rows) n usual_unit
    (power_between_gives 65536 4194304) is

erase_block_in : (rows : List Row) (n : ℕ) → erase_block_of rows ≡ Some n → IsPowerBetween 1 4194304 n
erase_block_in rows n is =
    numbered 131072 (is_power_between 1 4194304) (IsPowerBetween 1 4194304) (first_of (codes "block") rows) n usual_erase_block
    (power_between_gives 1 4194304) is

page_in : (rows : List Row) (n : ℕ) → page_of rows ≡ Some n → IsPowerBetween 512 16384 n
page_in rows n is =
    numbered 2048 (is_power_between 512 16384) (IsPowerBetween 512 16384) (first_of (codes "page") rows) n usual_page
    (power_between_gives 512 16384) is

-- ---- jobs that may not be there

plain : (x j : Job) → IsInRange x → Some x ≡ Some j → IsInRange j
plain x j fine e =
    let same : x ≡ j = cc in
    subst IsInRange same fine

nothing : (j : Job) → None ≡ Some j → IsInRange j
nothing j e = absurd (none e)
  where
    none : None ≡ Some j → ⊥
    none e = cc

mapped : {A : Type 0} (f : A → Job) (o : Option A) (j : Job) → ((x : A) → o ≡ Some x → IsInRange (f x))
    → option_map f o ≡ Some j → IsInRange j
mapped f None j fine e = nothing j e
mapped f (Some x) j fine e = plain (f x) j (fine x refl) e

followed : {A : Type 0} (f : A → Option Job) (o : Option A) (j : Job)
    → ((x : A) → o ≡ Some x → f x ≡ Some j → IsInRange j) → option_and_then f o ≡ Some j → IsInRange j
followed f None j fine e = nothing j e
followed f (Some x) j fine e = fine x refl e

where_it_holds : (b : Bool) (o : Option Job) (j : Job) → (b ≡ true → o ≡ Some j → IsInRange j)
    → cond b o None ≡ Some j → IsInRange j
where_it_holds true o j fine e = fine refl e
where_it_holds false o j fine e = nothing j e

-- ---- each command

nand_in : (rows : List Row) (block page : ℕ) (j : Job) → IsPowerBetween 1 4194304 block
    → IsPowerBetween 512 16384 page → nand_with rows block page ≡ Some j → IsInRange j
nand_in rows block page j blocks pages e =
    where_it_holds _ _ j (λ within is. plain _ j (record {
      blocks = blocks;
      pages = pages;
      within = leb-true page block within;
    }) is) e

from : (v : Verb) (rows : List Row) (j : Job) → job_from v rows ≡ Some j → IsInRange j
from verb.Build rows j e = plain _ j tt e
from verb.Map rows j e = mapped _ (block_of rows) j (block_in rows) e
from verb.Copy rows j e =
    where_it_holds (ends_differ rows) _ j (λ differ is. followed _ (unit_of rows) j (λ unit found rest.
    mapped (copy_with rows unit) (window_of rows) j (λ window given. record {
      units = unit_in rows unit found;
      windows = window_in rows window given;
    }) rest) is) e
from verb.Resume rows j e =
    where_it_holds (ends_differ rows) _ j (λ differ is. mapped _ (unit_of rows) j (unit_in rows) is) e
from verb.Forget rows j e = plain _ j tt e
from verb.Verify rows j e = where_it_holds _ _ j (λ differ is. plain _ j tt is) e
from verb.List rows j e = plain _ j tt e
from verb.Demo rows j e = mapped _ (numeral_of (text_at (codes "SEED") rows)) j (λ seed is. tt) e
from verb.Gang rows j e =
    followed _ (unit_of rows) j (λ unit found rest. mapped _ (pairs_from rows) j (λ pairs is. unit_in rows unit found) rest) e
from verb.GangResume rows j e =
    followed _ (unit_of rows) j (λ unit found rest. mapped _ (pairs_from rows) j (λ pairs is. unit_in rows unit found) rest) e
from verb.Cut rows j e = mapped _ (numeral_of (text_at (codes "SIZE") rows)) j (λ size is. tt) e
from verb.Expand rows j e =
    let out : Text = text_at (codes "OUT") rows in
    followed (expand_with out) (all_of (codes "PIECES") rows) j (λ pieces all is.
    where_it_holds (are_pieces out pieces) (Some (job.Expand out pieces)) j (λ are rest. plain (job.Expand out pieces) j tt rest) is) e
from verb.Nand rows j e =
    where_it_holds (nand_places_differ rows) _ j (λ differ is. followed _ (erase_block_of rows) j (λ block found rest.
    followed (nand_with rows block) (page_of rows) j (λ page sized last.
    nand_in rows block page j (erase_block_in rows block found) (page_in rows page sized) last) rest) is) e

by_verb : (v : Verb) (words : List Text) (j : Job) → job_by v words ≡ Some j → IsInRange j
unfolding job_by
by_verb v words j e = followed (job_from v) (taken (simple (arguments_of v)) words) j (λ rows given is. from v rows j is) e

pub in_range : (words : List Text) (j : Job) → job_of words ≡ Some j → IsInRange j
unfolding job_of
in_range [] j e = nothing j e
in_range (first ∷ rest) j e =
    followed (λ v. job_by v (first ∷ rest)) (verb_named first) j (λ v named is. by_verb v (first ∷ rest) j is) e
