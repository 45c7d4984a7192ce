-- The places of an image's partitions are the one list in which each is placed by those before it.
use Rattle.std.specs.Prelude.{◌≡◌, ℕ, ◌≤◌, All, List, [], length, map}
use Rattle.std.proofs.Common.{ap, sym, subst, ◌∙◌, arith, get_or}
use Rattle.std.proofs.lemmas.List.{get_or-map, length-map}
use Rattle.image_specs.specs.declared.specs.ImageSpec.{ImageSpec}
use Rattle.placement_rules.specs.Frames.{frame_of}
use Rattle.placement_rules.specs.Places.{Stood, stood, stood_from}
use Rattle.placement_rules.specs.Terms.{holes_of, terms}
use Rattle.placement_rules.specs.declared.terms.Terms.{Terms}
use Rattle.placement_laws.specs.Laws.{NoneEarlier, PlacedExactly}
use Rattle.placement_laws.specs.Placed.{ArePlaced, IsPlaceable}
use Rattle.placement_laws.proofs.Images.{aligns_are, counts_are}
use Rattle.placement_laws.proofs.Lists.{Listed, listed, stood_listed}
use Rattle.placement_laws.proofs.Spots.{earliest}

stood_is : (spec : ImageSpec) (lens : List ℕ) → IsPlaceable spec lens → Listed (frame_of spec) [] (terms spec lens) (holes_of spec) (stood spec lens)
stood_is spec lens is =
    stood_listed (frame_of spec) [] (terms spec lens) (holes_of spec) (counts_are spec lens is) (aligns_are spec lens is)

-- the aligns of partitions are those of their terms
own_aligns : (ss : List Stood) → All (λ t. 1 ≤ t.align) (map (λ s. s.terms) ss) → All (λ s. 1 ≤ s.terms.align) ss
own_aligns ss all = λ k d below.
    let same : get_or (map (λ (s : Stood). s.terms) ss) k d.terms ≡ (get_or ss k d).terms = get_or-map (λ (s : Stood). s.terms) ss k d d.terms below in
    let long : length (map (λ (s : Stood). s.terms) ss) ≡ length ss = length-map ss (λ (s : Stood). s.terms) in
    subst (λ (t : Terms). 1 ≤ t.align) same (all k d.terms (omega arith))

pub placed_exactly : PlacedExactly
placed_exactly spec lens ss is = (
  λ placed.
      let aligns = own_aligns ss (subst (λ (ts : List Terms). All (λ (t : Terms). 1 ≤ t.align) ts) (sym placed.terms) (aligns_are spec lens is)) in
      listed (frame_of spec) [] ss aligns placed.each
      ∙ ap (λ ts. stood_from (frame_of spec) [] ts (map (λ (s : Stood). s.holes) ss)) placed.terms
      ∙ ap (λ hs. stood_from (frame_of spec) [] (terms spec lens) hs) placed.holes,
  λ same.
      let all = stood_is spec lens is in
      subst (λ (xs : List Stood). ArePlaced spec lens xs) (sym same) (record { terms = all.terms; holes = all.holes; each = all.each }),
)

pub none_earlier : NoneEarlier
none_earlier spec lens is k d below = earliest (frame_of spec) _ _ ((stood_is spec lens is).each k d below)
