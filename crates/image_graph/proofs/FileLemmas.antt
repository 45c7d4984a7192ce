-- Files that are read, and those of images.
use Rattle.std.proofs.Common.{◌≡◌, ℕ, zero, suc, ◌<◌, List, [], ◌∷◌, true, false, cond, Some, None, refl, ap, sym, ◌∙◌, length, slice_index_or, arith}
use Rattle.std.specs.List.{AllByRecursion}
use Rattle.image_names.specs.declared.fault.GraphFault.TheVariants.{NameClash}
use Rattle.image_names.specs.Counts.{first_fault}
use Rattle.image_names.specs.Names.{AreDisjoint, HoldSame, holds}
use Rattle.image_names.proofs.CheckLemmas.{none_of}
use Rattle.image_names.proofs.ClashLemmas.{first_same, not_held}
use Rattle.image_names.proofs.LawLemmas.{there_held}
use Rattle.image_specs.specs.declared.specs.ImageSpec.{ImageSpec}
use Rattle.image_specs.specs.Specs.{full_names}
use Rattle.image_graph.specs.Clashes.{file_fault}

-- lists that hold the same names give the same refusals
pub file_same : (names others : List (List ℕ)) → HoldSame names others → (specs : List ImageSpec) → first_fault (file_fault names) specs ≡ first_fault (file_fault others) specs
file_same names others same = first_same (file_fault names) (file_fault others) (λ spec. ap (λ b. cond b (Some (NameClash spec.full)) None) (same spec.full))

-- ---- where there is no refusal

-- the file at a place is none of the names
free_at : (names : List (List ℕ)) (specs : List ImageSpec) → AllByRecursion (λ spec. file_fault names spec ≡ None) specs → (name : List ℕ) (k : ℕ) → k < length (full_names specs) → slice_index_or (full_names specs) k name ≡ name → holds names name ≡ false
free_at names [] none name k below is = absurd (omega arith)
free_at names (spec ∷ specs) none name zero below is = ap (holds names) (sym is) ∙ not_held names spec.full (holds names spec.full) refl none.0
free_at names (spec ∷ specs) none name (suc k) below is = free_at names specs none.1 name k (omega arith) is

pub disjoint_from : (names : List (List ℕ)) (specs : List ImageSpec) → first_fault (file_fault names) specs ≡ None → AreDisjoint (full_names specs) names
disjoint_from names specs none name there among =
    let free : holds names name ≡ false = free_at names specs (none_of (file_fault names) specs none) name there.0 there.1 there.2 in
    let known : holds names name ≡ true = there_held names name among in
    cc
