-- Lengths one behind another.
use Rattle.std.specs.Prelude.{◌≡◌, ℕ, ◌+◌, ◌<◌, List, [], ◌∷◌, ◌++◌, None, length, take, slice_index_or}
use Rattle.std.proofs.Common.{subst, sym}
use Rattle.std.proofs.lemmas.List.{take_more}
use Rattle.image_specs.specs.declared.specs.Source.{Source}
use Rattle.placement_apart.specs.Apart.{AreLengths}

lengths_next : (sources : List Source) (lens : List ℕ) (source : Source) (len : ℕ) → AreLengths sources lens → (source.file ≡ None → len ≡ 0) → AreLengths (sources ++ source ∷ []) (lens ++ len ∷ [])
lengths_next [] [] source len all one = (one, tt)
lengths_next [] (n ∷ lens) source len all one = absurd all
lengths_next (s ∷ sources) [] source len all one = absurd all
lengths_next (s ∷ sources) (n ∷ lens) source len all one = (all.0, lengths_next sources lens source len all.1 one)

-- the first k, and the next one
pub lengths_more : (sources : List Source) (k : ℕ) (d : Source) (lens new : List ℕ) (len : ℕ) → k < length sources → AreLengths (take k sources) lens → ((slice_index_or sources k d).file ≡ None → len ≡ 0) → new ≡ lens ++ len ∷ [] → AreLengths (take (k + 1) sources) new
lengths_more sources k d lens new len h all one is =
    subst (AreLengths (take (k + 1) sources)) (sym is)
    (subst (λ (front : List Source). AreLengths front (lens ++ len ∷ [])) (sym (take_more sources k d h))
    (lengths_next (take k sources) lens (slice_index_or sources k d) len all one))
