-- The partitions of a layout: each lies within the image, its file within it, and no offset is claimed by two.
use Rattle.std.specs.Prelude.{◌≡◌, ℕ, ◌≤◌, List, [], ◌∷◌, All, AllPairs, IsTrue, Bool, true, Option, None, length}
use Rattle.std.proofs.Common.{◌∙◌, sym, arith}
use Rattle.std.proofs.lemmas.List.Elements.{All-cons, All-head, All-nil, All-tail, All-weaker}
use Rattle.std.proofs.lemmas.List.Kept.{AllPairs-cons}
use Rattle.base_fields.specs.declared.spans.TableKind.{TableKind}
use Rattle.image_layout.specs.IsLayout.{ClaimApart, IsPart}
use Rattle.image_layout.specs.Layout.{is_claimed}
use Rattle.image_layout.specs.declared.layout.Placed.{Placed}
use Rattle.image_specs.specs.declared.specs.Source.{Source}
use Rattle.placement.specs.Layouts.{parts_from, placed_of}
use Rattle.placement_rules.specs.Claims.{claims, occupies}
use Rattle.placement_rules.specs.Places.{Stood, end_of}
use Rattle.placement_apart.proofs.Claims.{claim_is, claim_misses, claim_occupied, pairs_first, pairs_rest}
use Rattle.placement_apart.proofs.Clear.{Passes}
use Rattle.placement_apart.proofs.Own.{IsSound}
use Rattle.placement_apart.proofs.Terms.{AreSourced}

-- what holds of each placed partition, whatever its name, its source and its filling
pub parts_all : (P : Placed → Type 0) (names : List (List ℕ)) (sources : List Source) (wholes : List Bool) (ss : List Stood) → All (λ s. (name : List ℕ) (source : Option (List ℕ)) (whole : Bool) → P (placed_of name source whole s)) ss → All P (parts_from names sources wholes ss)
parts_all P [] sources wholes ss all = All-nil P
parts_all P (name ∷ names) [] wholes ss all = All-nil P
parts_all P (name ∷ names) (source ∷ sources) [] ss all = All-nil P
parts_all P (name ∷ names) (source ∷ sources) (whole ∷ wholes) [] all = All-nil P
parts_all P (name ∷ names) (source ∷ sources) (whole ∷ wholes) (s ∷ ss) all =
    let Q : Stood → Type 0 =
    λ s. (name : List ℕ) (source : Option (List ℕ)) (whole : Bool) → P (placed_of name source whole s) in
    All-cons P (placed_of name source.file whole s) (parts_from names sources wholes ss)
    (All-head Q s ss all name source.file whole)
    (parts_all P names sources wholes ss (All-tail Q s ss all))

-- ---- each by itself

part_is : (t : TableKind) (z entries_at size : ℕ) (name : List ℕ) (source : Option (List ℕ)) (whole : Bool) (s : Stood) → IsSound t z entries_at s → end_of s ≤ size → (source ≡ None → s.terms.len ≡ 0) → IsPart size (placed_of name source whole s)
part_is t z entries_at size name source whole s is inside sourced = record {
  inside = inside;
  file = is.fits;
  source = sourced;
  holes = is.holes;
}

pub parts_are : (t : TableKind) (z entries_at size : ℕ) (names : List (List ℕ)) (sources : List Source) (wholes : List Bool) (ss : List Stood) → All (IsSound t z entries_at) ss → All (λ s. end_of s ≤ size) ss → AreSourced sources ss → All (IsPart size) (parts_from names sources wholes ss)
parts_are t z entries_at size [] sources wholes ss are ends sourced = All-nil (IsPart size)
parts_are t z entries_at size (name ∷ names) [] wholes ss are ends sourced = All-nil (IsPart size)
parts_are t z entries_at size (name ∷ names) (source ∷ sources) [] ss are ends sourced = All-nil (IsPart size)
parts_are t z entries_at size (name ∷ names) (source ∷ sources) (whole ∷ wholes) [] are ends sourced =
    All-nil (IsPart size)
parts_are t z entries_at size (name ∷ names) (source ∷ sources) (whole ∷ wholes) (s ∷ ss) are ends sourced =
    let P : Stood → Type 0 = IsSound t z entries_at in
    let E : Stood → Type 0 = λ s. end_of s ≤ size in
    All-cons (IsPart size) (placed_of name source.file whole s) (parts_from names sources wholes ss)
    (part_is t z entries_at size name source.file whole s (All-head P s ss are) (All-head E s ss ends) sourced.0)
    (parts_are t z entries_at size names sources wholes ss (All-tail P s ss are) (All-tail E s ss ends) sourced.1)

-- ---- each against the others

-- a claimed offset of a placed partition, by the rules
pub claimed_by : (name : List ℕ) (source : Option (List ℕ)) (whole : Bool) (s : Stood) (o : ℕ) → IsTrue (is_claimed (placed_of name source whole s) o) → claims s o ≡ true
claimed_by name source whole s o h = sym (claim_is name source whole s o) ∙ h

claim_apart : (name other : List ℕ) (source file : Option (List ℕ)) (whole all : Bool) (s r : Stood) → Passes s r → ClaimApart (placed_of name source whole s) (placed_of other file all r)
claim_apart name other source file whole all s r passes o first second =
    claim_misses r (occupies s) o passes (claimed_by other file all r o second)
    (claim_occupied s o (claimed_by name source whole s o first))

pub claims_apart : (names : List (List ℕ)) (sources : List Source) (wholes : List Bool) (ss : List Stood) → AllPairs Passes ss → AllPairs ClaimApart (parts_from names sources wholes ss)
claims_apart [] sources wholes ss pairs = λ i j d order inside. absurd (omega arith)
claims_apart (name ∷ names) [] wholes ss pairs = λ i j d order inside. absurd (omega arith)
claims_apart (name ∷ names) (source ∷ sources) [] ss pairs = λ i j d order inside. absurd (omega arith)
claims_apart (name ∷ names) (source ∷ sources) (whole ∷ wholes) [] pairs = λ i j d order inside. absurd (omega arith)
claims_apart (name ∷ names) (source ∷ sources) (whole ∷ wholes) (s ∷ ss) pairs =
    let first : Placed = placed_of name source.file whole s in
    AllPairs-cons ClaimApart first (parts_from names sources wholes ss)
    (parts_all (ClaimApart first) names sources wholes ss
    (All-weaker (Passes s)
    (λ r. (other : List ℕ) (file : Option (List ℕ)) (all : Bool) → ClaimApart first (placed_of other file all r))
    (λ r passes other file all. claim_apart name other source.file file whole all s r passes) ss
    (pairs_first Passes s ss pairs)))
    (claims_apart names sources wholes ss (pairs_rest Passes s ss pairs))

-- ---- how many

pub no_more : (names : List (List ℕ)) (sources : List Source) (wholes : List Bool) (ss : List Stood) → length (parts_from names sources wholes ss) ≤ length ss
no_more [] sources wholes ss = omega arith
no_more (name ∷ names) [] wholes ss = omega arith
no_more (name ∷ names) (source ∷ sources) [] ss = omega arith
no_more (name ∷ names) (source ∷ sources) (whole ∷ wholes) [] = omega arith
no_more (name ∷ names) (source ∷ sources) (whole ∷ wholes) (s ∷ ss) =
    let rest : length (parts_from names sources wholes ss) ≤ length ss = no_more names sources wholes ss in omega arith
