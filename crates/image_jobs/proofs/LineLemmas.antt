-- The lines of images, one behind another.
use Rattle.std.proofs.Common.{◌≡◌, ◌∙◌, ◌+◌, ◌<◌, ◌≤◌, ℕ, zero, suc, List, [], ◌∷◌, ◌++◌, Option, Some, None, All, get_or, length, map, min, refl, subst, sym, take, ap, arith, inl, inr, Ok}
use Rattle.std.proofs.Math.Seq.{take-append_seam}
use Rattle.std.proofs.lemmas.List.{length-map, take_all, take_min, take_more, take-append-le}
use Rattle.std.proofs.lemmas.Option.{slice_get_cases}
use Rattle.std.specs.Prelude.{slice_get}
use Rattle.std.specs.List.{cons_option, filter_map}
use Rattle.outside.specs.Files.{Tree, bytes_of}
use Rattle.outside.specs.Printer.{added}
use Rattle.answer_lines.specs.Lines.{built_text, image_text}
use Rattle.build_job.specs.Said.{sizes_of}
use Rattle.build_laws.specs.Order.{ordered}
use Rattle.image_graph.specs.declared.images.Graph.{Graph}
use Rattle.image_graph.specs.Children.{children_of}
use Rattle.image_graph.specs.IsGraph.{IsGraph}
use Rattle.image_specs.specs.declared.specs.ImageSpec.{ImageSpec}
use Rattle.job_stages.proofs.PrintingLemmas.{lines_join}
use Rattle.job_stages.specs.Printing.{Prints, PrintsFront, all_added}
use Rattle.image_jobs.specs.Answering.{full_at}
use Rattle.image_jobs.specs.BuildArm.{done_lines, image_line}
use Rattle.image_jobs.specs.Printed.{image_lines, report_lines}

-- ---- lines at their places

lines_length : (graph : Graph) (images sizes : List ℕ) → length sizes ≡ length images
    → length (image_lines graph images sizes) ≡ length images
lines_length graph [] sizes same = refl
lines_length graph (image ∷ images) [] same = absurd (omega arith)
lines_length graph (image ∷ images) (size ∷ sizes) same = ap suc (lines_length graph images sizes (omega arith))

line_at : (graph : Graph) (images sizes : List ℕ) (k : ℕ) → k < length images → length sizes ≡ length images
    → get_or (image_lines graph images sizes) k [] ≡ image_text (full_at graph (get_or images k 0)) (get_or sizes k 0)
line_at graph [] sizes k below same = absurd (omega arith)
line_at graph (image ∷ images) [] k below same = absurd (omega arith)
line_at graph (image ∷ images) (size ∷ sizes) zero below same = refl
line_at graph (image ∷ images) (size ∷ sizes) (suc k) below same = line_at graph images sizes k (omega arith) (omega arith)

-- one line more
line_more : (lines : List (List ℕ)) (k : ℕ) (before between now : Option (List (List ℕ))) → k < length lines
    → between ≡ all_added before (take k lines) → now ≡ added between (get_or lines k [])
    → now ≡ all_added before (take (k + 1) lines)
line_more lines k before between now below front line =
    line ∙ ap (λ (upto : Option (List (List ℕ))). added upto (get_or lines k [])) front
    ∙ sym (lines_join before (take k lines) (get_or lines k [] ∷ []))
    ∙ ap (all_added before) (sym (take_more lines k [] below))

-- a front is one of more lines, too
front_more : (a b : List (List ℕ)) (before now : Option (List (List ℕ))) → PrintsFront a before now → PrintsFront (a ++ b) before now
front_more a b before now front =
    let n : ℕ = min front.printed (length a) in
    let below : n ≤ length a = omega arith in
    record {
      printed = n;
      same = front.same ∙ ap (all_added before) (sym (take-append-le n a b below ∙ take_min front.printed a));
    }

-- all of them are a front of more
whole_more : (a b : List (List ℕ)) (before now : Option (List (List ℕ))) → now ≡ all_added before a → PrintsFront (a ++ b) before now
whole_more a b before now same = record {
  printed = length a;
  same = same ∙ ap (all_added before) (sym (take-append_seam a b));
}

-- ---- what is printed

-- the line of one image more
pub image_more : (graph : Graph) (images sizes : List ℕ) (k : ℕ) (name : List ℕ) (before between now : Option (List (List ℕ)))
    → k < length images → length sizes ≡ length images → name ≡ full_at graph (get_or images k 0)
    → between ≡ all_added before (take k (image_lines graph images sizes))
    → now ≡ added between (image_text name (get_or sizes k 0))
    → now ≡ all_added before (take (k + 1) (image_lines graph images sizes))
image_more graph images sizes k name before between now below same named front line =
    let many : length (image_lines graph images sizes) ≡ length images = lines_length graph images sizes same in
    let text : image_text name (get_or sizes k 0) ≡ get_or (image_lines graph images sizes) k [] =
    ap (λ (n : List ℕ). image_text n (get_or sizes k 0)) named ∙ sym (line_at graph images sizes k below same) in
    line_more (image_lines graph images sizes) k before between now (omega arith) front (line ∙ ap (added between) text)

pub all_printed : (graph : Graph) (images sizes : List ℕ) (k : ℕ) (before now : Option (List (List ℕ)))
    → length images ≤ k → length sizes ≡ length images
    → now ≡ all_added before (take k (image_lines graph images sizes)) → now ≡ all_added before (image_lines graph images sizes)
all_printed graph images sizes k before now past same front =
    let many : length (image_lines graph images sizes) ≡ length images = lines_length graph images sizes same in
    let all : length (image_lines graph images sizes) ≤ k = omega arith in
    front ∙ ap (all_added before) (take_all k (image_lines graph images sizes) all)

-- a front of the images' lines, and all of them, are a front of those of the build
pub images_front : (graph : Graph) (images sizes : List ℕ) (before now : Option (List (List ℕ))) → images ≡ graph.order
    → PrintsFront (image_lines graph images sizes) before now → PrintsFront (report_lines graph sizes) before now
images_front graph images sizes before now same front =
    front_more (image_lines graph graph.order sizes) (built_text (length sizes) ∷ []) before now
    (subst (λ (numbers : List ℕ). PrintsFront (image_lines graph numbers sizes) before now) same front)

pub images_printed : (graph : Graph) (images sizes : List ℕ) (before between now : Option (List (List ℕ))) → images ≡ graph.order
    → between ≡ all_added before (image_lines graph images sizes) → now ≡ between → PrintsFront (report_lines graph sizes) before now
images_printed graph images sizes before between now same all stays =
    whole_more (image_lines graph graph.order sizes) (built_text (length sizes) ∷ []) before now
    (stays ∙ all ∙ ap (λ (numbers : List ℕ). all_added before (image_lines graph numbers sizes)) same)

-- so they are with the line of their number
pub report_printed : (graph : Graph) (images sizes : List ℕ) (many : ℕ) (before between now : Option (List (List ℕ))) (faults_before faults_now : ℕ)
    → images ≡ graph.order → many ≡ length sizes → between ≡ all_added before (image_lines graph images sizes)
    → now ≡ added between (built_text many) → Prints (report_lines graph sizes) before now faults_before faults_now
report_printed graph images sizes many before between now faults_before faults_now same number all last =
    let lines : now ≡ all_added before (report_lines graph sizes) =
    last ∙ ap (λ (n : ℕ). added between (built_text n)) number
    ∙ ap (λ (upto : Option (List (List ℕ))). added upto (built_text (length sizes))) all
    ∙ ap (λ (numbers : List ℕ). added (all_added before (image_lines graph numbers sizes)) (built_text (length sizes))) same
    ∙ sym (lines_join before (image_lines graph graph.order sizes) (built_text (length sizes) ∷ [])) in
    let front : PrintsFront (report_lines graph sizes) before now = record {
      printed = length (report_lines graph sizes);
      same = lines ∙ ap (all_added before) (sym (take_all (length (report_lines graph sizes)) (report_lines graph sizes) (omega arith)));
    } in
    record { front = front; whole = λ steady. lines }

-- ---- those of a graph

not_past : {A : Type 0} (xs : List A) (k : ℕ) → k < length xs → slice_get xs k ≡ None → ⊥
not_past xs k below none =
    elim (slice_get_cases xs k).1 [
      | inl here ↦ let some : slice_get xs k ≡ Some here.0 = here.2 in let no : Some here.0 ≡ None = sym some ∙ none in cc
      | inr past ↦ absurd (omega (arith, past.0))
    ]

line_of_found : (graph : Graph) (after : Tree) (image : ℕ) (images : List ℕ) (rest : List ImageSpec) (found : Option ImageSpec)
    → slice_get graph.specs image ≡ found → (found ≡ None → ⊥)
    → image_lines graph images (map (λ spec. length (bytes_of after spec.full)) rest) ≡ map (image_line after) rest
    → image_lines graph (image ∷ images) (map (λ spec. length (bytes_of after spec.full)) (cons_option found rest))
    ≡ map (image_line after) (cons_option found rest)
line_of_found graph after image images rest None is known same = absurd (known refl)
line_of_found graph after image images rest (Some spec) is known same = rw (is, same) refl

lines_of_found : (graph : Graph) (after : Tree) (images : List ℕ) → All (λ image. image < length graph.specs) images
    → image_lines graph images (map (λ spec. length (bytes_of after spec.full)) (filter_map (slice_get graph.specs) images))
    ≡ map (image_line after) (filter_map (slice_get graph.specs) images)
lines_of_found graph after [] all = refl
lines_of_found graph after (image ∷ images) all =
    let here : image < length graph.specs = all zero image (omega arith) in
    let rest : All (λ image. image < length graph.specs) images = λ k d below. all (suc k) d (omega arith) in
    line_of_found graph after image images (filter_map (slice_get graph.specs) images) (slice_get graph.specs image) refl
    (not_past graph.specs image here) (lines_of_found graph after images rest)

-- the lines that are printed are those of the plan
pub report_is_done : (graph : Graph) (after : Tree) (sizes : List ℕ) → IsGraph graph → sizes ≡ sizes_of graph after
    → report_lines graph sizes ≡ done_lines (Ok graph) after
report_is_done graph after sizes sound same =
    let size : ImageSpec → ℕ = λ spec. length (bytes_of after spec.full) in
    let known : All (λ image. image < length graph.specs) graph.order =
    subst (λ (n : ℕ). All (λ image. image < n) graph.order) (length-map graph.specs children_of) sound.in_order.only in
    let lines : image_lines graph graph.order sizes ≡ map (image_line after) (ordered graph) =
    ap (image_lines graph graph.order) same ∙ lines_of_found graph after graph.order known in
    let many : length sizes ≡ length (ordered graph) = ap length same ∙ length-map (ordered graph) size in
    rw (lines, many) refl
