-- Lists of places.
use Rattle.std.proofs.Common.{◌≡◌, ◌<◌, Bool, List, [], ◌∷◌, map, length, refl, arith}
use Rattle.std.specs.Borrow.{Bor}
use Rattle.std.specs.List.{list_any}
use Rattle.std.specs.Str.{bytes_eq}
use Rattle.clap.proofs.WalkLemmas.{list_any-map}
use Rattle.clap.specs.Walk.{Text}
use Rattle.job_words.specs.Arguments.{is_among, paired}

pub paired_short : (places : List Text) → length places < 2 → paired places ≡ []
paired_short [] h = refl
paired_short (x ∷ []) h = refl
paired_short (x ∷ y ∷ rest) h = absurd (omega arith)

-- the text behind a reference
abbrev pub text_of : Bor Text → Text
text_of place = place.now

abbrev pub stands_in : Text → List (Bor Text) → Bool
stands_in text places = list_any (λ place. bytes_eq place.now text) places

pub stands_in_map : (text : Text) (places : List (Bor Text)) → stands_in text places ≡ is_among text (map text_of places)
stands_in_map text places = list_any-map (λ (place : Text). bytes_eq place text) text_of places
