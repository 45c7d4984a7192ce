use Rattle.std.proofs.Common.{◌≡◌, drop, map}
use Rattle.job_words.specs.Arguments.{is_among}
use Rattle.job_words.proofs.places.has_place.Given as goal

abbrev pub invariant-loop-place : goal.invariant-loop-place
invariant-loop-place l =
    is_among l.text (map (λ place. place.now) (drop l.place-index l.places)) ≡ is_among l.text (map (λ place. place.now) l.places)
