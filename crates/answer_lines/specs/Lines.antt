-- The lines of what is done.
use Rattle.std.specs.Prelude.{ℕ, Bool, List, [], ◌∷◌, ◌++◌, codes, decimal}
use Rattle.sparse_reader.specs.declared.view.SparseView.{SparseView}
use Rattle.line_parts.specs.Line.{shown_flag, shown_name, spelled, with_fields}

-- a word with numbers behind it, each with its key
abbrev pub numbers : List ℕ → List (List ℕ × ℕ) → List ℕ
numbers line [] = line
numbers line ((key, n) ∷ more) = numbers (line ++ spelled (key, decimal n)) more

-- a build: a line for each image, and then their number
abbrev pub image_text : List ℕ → ℕ → List ℕ
image_text name size = numbers (codes "image " ++ shown_name name) ((codes "size", size) ∷ [])

abbrev pub built_text : ℕ → List ℕ
built_text images = numbers (codes "built") ((codes "images", images) ∷ [])

abbrev pub mapped_text : ℕ → ℕ → List ℕ
mapped_text ranges blocks = numbers (codes "mapped") ((codes "ranges", ranges) ∷ (codes "blocks", blocks) ∷ [])

-- a copy: units in all, those that this run wrote, and those that it kept
abbrev pub copied_text : ℕ → ℕ → ℕ → List ℕ
copied_text units written kept =
    numbers (codes "copied") ((codes "units", units) ∷ (codes "written", written) ∷ (codes "kept", kept) ∷ [])

abbrev pub forgotten_text : Bool → List ℕ
forgotten_text held = codes "forgotten" ++ spelled (codes "held", shown_flag held)

abbrev pub verified_text : ℕ → List ℕ
verified_text ranges = numbers (codes "verified") ((codes "ranges", ranges) ∷ [])

abbrev pub sparse_text : SparseView → List ℕ
sparse_text view =
    numbers (codes "sparse") ((codes "block", view.block) ∷ (codes "blocks", view.blocks) ∷ (codes "chunks", view.chunks)
    ∷ (codes "raw", view.raw) ∷ (codes "fill", view.fill) ∷ (codes "skip", view.skip) ∷ (codes "crc", view.crc) ∷ [])

abbrev pub demo_text : ℕ → ℕ → ℕ → ℕ → ℕ → List ℕ
demo_text seed size parts ranges units =
    numbers (codes "demo") ((codes "seed", seed) ∷ (codes "size", size) ∷ (codes "parts", parts)
    ∷ (codes "ranges", ranges) ∷ (codes "units", units) ∷ [])

abbrev pub gang_text : ℕ → ℕ → List ℕ
gang_text targets done = numbers (codes "gang") ((codes "targets", targets) ∷ (codes "done", done) ∷ [])

abbrev pub cut_text : ℕ → List ℕ
cut_text pieces = numbers (codes "cut") ((codes "pieces", pieces) ∷ [])

abbrev pub expanded_text : ℕ → List ℕ
expanded_text size = numbers (codes "expanded") ((codes "size", size) ∷ [])

abbrev pub nand_text : ℕ → ℕ → List ℕ
nand_text blocks bad = numbers (codes "nand") ((codes "blocks", blocks) ∷ (codes "bad", bad) ∷ [])
