-- The lines of a build.
use Rattle.std.specs.Prelude.{ℕ, List, [], ◌∷◌, ◌++◌, length, map}
use Rattle.std.specs.List.{zip}
use Rattle.answer_lines.specs.Lines.{built_text, image_text}
use Rattle.image_graph.specs.declared.images.Graph.{Graph}
use Rattle.image_jobs.specs.Answering.{full_at}

-- those of the images of these numbers, whose files have so many bytes
abbrev pub image_lines : Graph → List ℕ → List ℕ → List (List ℕ)
image_lines graph images sizes = map (λ (image, size). image_text (full_at graph image) size) (zip images sizes)

-- those of all images in the order, and then that of their number
abbrev pub report_lines : Graph → List ℕ → List (List ℕ)
report_lines graph sizes = image_lines graph graph.order sizes ++ built_text (length sizes) ∷ []
