-- What holds of each entry that the partitions of a list give.
use Rattle.std.specs.Prelude.{◌≡◌, ℕ, suc, ◌≤◌, Bool, true, false, if◌then◌else◌, List, [], ◌∷◌, filter, length}
use Rattle.std.specs.List.{AllByRecursion, AllZip}
use Rattle.std.proofs.Common.{refl, ap, arith}
use Rattle.base_fields.specs.declared.spans.TableKind.{TableKind}
use Rattle.conf_keys.specs.declared.conf.PartitionSection.{PartitionSection}
use Rattle.image_specs.specs.declared.specs.ImageSpec.{ImageSpec}
use Rattle.placement.specs.Layouts.{entries_for}
use Rattle.placement_rules.specs.Places.{Stood}
use Rattle.placement_rules.specs.Terms.{in_table}
use Rattle.placement_tables.proofs.Sound.{IsFitting}

kept :
    {A : Type 0} (Q : A → Type 0) (test : Bool) (x : A) (xs : List A) → (test ≡ true → Q x) → AllByRecursion Q xs
    → AllByRecursion Q (if test then x ∷ xs else xs)
kept Q true x xs h all = (h refl, all)
kept Q false x xs h all = all

pub entries_all :
    {A : Type 0} (Q : A → Type 0) (R : PartitionSection → Stood → Type 0) (test : Stood → Bool)
    (entry : PartitionSection → Stood → A) (parts : List PartitionSection) (ss : List Stood) → AllZip R parts ss
    → ((part : PartitionSection) (s : Stood) → R part s → test s ≡ true → Q (entry part s))
    → AllByRecursion Q (entries_for test entry parts ss)
entries_all Q R test entry [] ss h gives = tt
entries_all Q R test entry (part ∷ parts) [] h gives = tt
entries_all Q R test entry (part ∷ parts) (s ∷ ss) h gives =
    kept Q (test s) (entry part s) (entries_for test entry parts ss) (λ is. gives part s h.0 is)
    (entries_all Q R test entry parts ss h.1 gives)

one_more :
    {A : Type 0} (test : Bool) (x : A) (xs : List A) (n : ℕ) → length xs ≤ n
    → length (if test then x ∷ xs else xs) ≤ suc n
one_more true x xs n h = omega arith
one_more false x xs n h = omega arith

-- no more of them than partitions
pub entries_few :
    {A : Type 0}
    (test : Stood → Bool) (entry : PartitionSection → Stood → A) (parts : List PartitionSection) (ss : List Stood)
    → length (entries_for test entry parts ss) ≤ length parts
entries_few test entry [] ss = omega arith
entries_few test entry (part ∷ parts) [] = omega arith
entries_few test entry (part ∷ parts) (s ∷ ss) =
    one_more (test s) (entry part s) (entries_for test entry parts ss) (length parts) (entries_few test entry parts ss)

as_many :
    {A B : Type 0} (a b : Bool) (x : A) (y : B) (xs : List A) (ys : List B) → a ≡ b → length xs ≡ length ys
    → length (if a then x ∷ xs else xs) ≡ length (if b then y ∷ ys else ys)
as_many true true x y xs ys same h = ap suc h
as_many true false x y xs ys same h = absurd (cc)
as_many false true x y xs ys same h = absurd (cc)
as_many false false x y xs ys same h = h

-- as many as the table has
pub tabled_count :
    {A : Type 0}
    (entry : PartitionSection → Stood → A) (spec : ImageSpec) (t : TableKind) (parts : List PartitionSection)
    (ss : List Stood) → AllZip (IsFitting spec t) parts ss
    → length (entries_for (λ s. s.terms.tabled) entry parts ss) ≡ length (filter (in_table t) parts)
tabled_count entry spec t [] [] h = refl
tabled_count entry spec t [] (s ∷ ss) h = absurd h
tabled_count entry spec t (part ∷ parts) [] h = absurd h
tabled_count entry spec t (part ∷ parts) (s ∷ ss) h =
    as_many s.terms.tabled (in_table t part) (entry part s) part (entries_for (λ s. s.terms.tabled) entry parts ss)
    (filter (in_table t) parts)
    h.0.tabled (tabled_count entry spec t parts ss h.1)

-- what is known of each pair and what of each partition in its place
pub zip_both :
    (R : PartitionSection → Stood → Type 0) (P : Stood → Type 0) (parts : List PartitionSection) (ss : List Stood)
    → AllZip R parts ss → AllByRecursion P ss → AllZip (λ part s. R part s × P s) parts ss
zip_both R P [] [] h g = tt
zip_both R P [] (s ∷ ss) h g = absurd h
zip_both R P (part ∷ parts) [] h g = absurd h
zip_both R P (part ∷ parts) (s ∷ ss) h g = ((h.0, g.0), zip_both R P parts ss h.1 g.1)
