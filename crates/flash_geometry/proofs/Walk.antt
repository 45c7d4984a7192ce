-- The walk over the partitions of an image: what has its place, and what is left.
use Rattle.std.specs.Prelude.{◌≡◌, ℕ, ◌+◌, ◌<◌, ◌≤◌, List, [], ◌∷◌, ◌++◌, Option, None, drop, length}
use Rattle.std.specs.Option.{option_or}
use Rattle.std.proofs.Common.{refl, ap, sym, ◌∙◌, append_assoc, get_or}
use Rattle.std.proofs.lemmas.List.{append-nil, at_drop_more, drop_all, length_push}
use Rattle.base_fields.specs.declared.spans.Span.{Span}
use Rattle.conf_keys.specs.declared.conf.PartitionSection.{PartitionSection}
use Rattle.image_layout.specs.declared.layout.Placed.{Placed}
use Rattle.image_specs.specs.declared.specs.Source.{Source}
use Rattle.placement_rules.specs.declared.faults.PlaceFault.{PlaceFault}
use Rattle.flash_geometry.specs.Faults.{Refuses, first_fault, part_fault, partition_fault}
use Rattle.flash_geometry.specs.Layouts.{parts_from, placed_of}
use Rattle.flash_geometry.specs.Places.{place_of, places, places_from}
use Rattle.flash_geometry.specs.declared.geometry.Geometry.{Geometry}
use Rattle.flash_geometry.proofs.Refusals.{or_first}

-- a list from an item on that is read from it
drop_read : {X : Type 0} (xs : List X) (i : ℕ) (x : X) → i < length xs → x ≡ get_or xs i x → drop i xs ≡ x ∷ drop (i + 1) xs
drop_read xs i x below is = at_drop_more (λ ys. ys) xs i x below ∙ ap (λ y. y ∷ drop (i + 1) xs) (sym is)

-- ---- places

-- the first k partitions have their places, and none of them is refused
pub record Standing (g : Geometry) (parts : List PartitionSection) (lens : List ℕ) (taken : List Span) (k : ℕ) : Type 0 where
  pub count : length taken ≡ k
  pub placed : taken ++ places_from g taken (drop k parts) (drop k lens) ≡ places g parts lens
  pub refused : first_fault g parts taken (drop k parts) (drop k lens) ≡ partition_fault g parts lens

pub standing_none : (g : Geometry) (parts : List PartitionSection) (lens : List ℕ) → Standing g parts lens [] 0
standing_none g parts lens = record { count = refl; placed = refl; refused = refl }

-- what is still looked at, from a partition on
looked_at : (g : Geometry) (parts : List PartitionSection) (lens : List ℕ) (taken : List Span) (k : ℕ) (part : PartitionSection) (len : ℕ) → Standing g parts lens taken k → k < length parts → k < length lens → part ≡ get_or parts k part → len ≡ get_or lens k len → first_fault g parts taken (part ∷ drop (k + 1) parts) (len ∷ drop (k + 1) lens) ≡ partition_fault g parts lens
looked_at g parts lens taken k part len standing in_parts in_lens is_part is_len =
    ap (λ ps. first_fault g parts taken ps (len ∷ drop (k + 1) lens)) (sym (drop_read parts k part in_parts is_part))
    ∙ ap (λ ls. first_fault g parts taken (drop k parts) ls) (sym (drop_read lens k len in_lens is_len))
    ∙ standing.refused

pub standing_more : (g : Geometry) (parts : List PartitionSection) (lens : List ℕ) (taken : List Span) (k : ℕ) (part : PartitionSection) (len : ℕ) → Standing g parts lens taken k → k < length parts → k < length lens → part ≡ get_or parts k part → len ≡ get_or lens k len → part_fault g parts taken part len ≡ None → Standing g parts lens (taken ++ place_of g taken part len ∷ []) (k + 1)
standing_more g parts lens taken k part len standing in_parts in_lens is_part is_len none =
    let s : Span = place_of g taken part len in
    let rest : List Span = places_from g (taken ++ place_of g taken part len ∷ []) (drop (k + 1) parts) (drop (k + 1) lens) in
    let left : Option PlaceFault = first_fault g parts (taken ++ place_of g taken part len ∷ []) (drop (k + 1) parts) (drop (k + 1) lens) in
    record {
      count = length_push taken s ∙ ap (λ n. n + 1) standing.count;
      placed =
          append_assoc taken (s ∷ []) rest
          ∙ ap (λ ps. taken ++ places_from g taken ps (len ∷ drop (k + 1) lens)) (sym (drop_read parts k part in_parts is_part))
          ∙ ap (λ ls. taken ++ places_from g taken (drop k parts) ls) (sym (drop_read lens k len in_lens is_len))
          ∙ standing.placed;
      refused = sym (ap (λ o. option_or o left) none) ∙ looked_at g parts lens taken k part len standing in_parts in_lens is_part is_len;
    }

pub standing_refuses : (g : Geometry) (parts : List PartitionSection) (lens : List ℕ) (taken : List Span) (k : ℕ) (part : PartitionSection) (len : ℕ) (f : PlaceFault) → Standing g parts lens taken k → k < length parts → k < length lens → part ≡ get_or parts k part → len ≡ get_or lens k len → Refuses (part_fault g parts taken part len) f → Refuses (partition_fault g parts lens) f
standing_refuses g parts lens taken k part len f standing in_parts in_lens is_part is_len h = λ other.
    sym (looked_at g parts lens taken k part len standing in_parts in_lens is_part is_len)
    ∙ or_first (part_fault g parts taken part len) (first_fault g parts (taken ++ place_of g taken part len ∷ []) (drop (k + 1) parts) (drop (k + 1) lens)) f h other

pub standing_all : (g : Geometry) (parts : List PartitionSection) (lens : List ℕ) (taken : List Span) (k : ℕ) → Standing g parts lens taken k → length parts ≤ k → (partition_fault g parts lens ≡ None) × (taken ≡ places g parts lens)
standing_all g parts lens taken k standing all =
    let nil : drop k parts ≡ [] = drop_all k parts all in (
      sym standing.refused ∙ ap (λ ps. first_fault g parts taken ps (drop k lens)) nil,
      sym (append-nil taken) ∙ sym (ap (λ ps. taken ++ places_from g taken ps (drop k lens)) nil) ∙ standing.placed,
    )

-- ---- parts

-- the parts so far, and what is left of four lists
abbrev pub Made : List PartitionSection → List Source → List ℕ → List Span → List Placed → ℕ → Type 0
Made parts sources lens ss placed k =
    placed ++ parts_from (drop k parts) (drop k sources) (drop k lens) (drop k ss) ≡ parts_from parts sources lens ss

pub made_more : (parts : List PartitionSection) (sources : List Source) (lens : List ℕ) (ss : List Span) (placed new : List Placed) (k : ℕ) (part : PartitionSection) (source : Source) (len : ℕ) (s : Span) (p : Placed) → Made parts sources lens ss placed k → k < length parts → k < length sources → k < length lens → k < length ss → part ≡ get_or parts k part → source ≡ get_or sources k source → len ≡ get_or lens k len → s ≡ get_or ss k s → p ≡ placed_of part source len s → new ≡ placed ++ p ∷ [] → Made parts sources lens ss new (k + 1)
made_more parts sources lens ss placed new k part source len s p made in_parts in_sources in_lens in_spans is_part is_source is_len is_span is more =
    let rest : List Placed = parts_from (drop (k + 1) parts) (drop (k + 1) sources) (drop (k + 1) lens) (drop (k + 1) ss) in
    ap (λ ps. ps ++ rest) more
    ∙ append_assoc placed (p ∷ []) rest
    ∙ ap (λ q. placed ++ (q ∷ rest)) is
    ∙ ap (λ xs. placed ++ parts_from xs (source ∷ drop (k + 1) sources) (len ∷ drop (k + 1) lens) (s ∷ drop (k + 1) ss)) (sym (drop_read parts k part in_parts is_part))
    ∙ ap (λ xs. placed ++ parts_from (drop k parts) xs (len ∷ drop (k + 1) lens) (s ∷ drop (k + 1) ss)) (sym (drop_read sources k source in_sources is_source))
    ∙ ap (λ xs. placed ++ parts_from (drop k parts) (drop k sources) xs (s ∷ drop (k + 1) ss)) (sym (drop_read lens k len in_lens is_len))
    ∙ ap (λ xs. placed ++ parts_from (drop k parts) (drop k sources) (drop k lens) xs) (sym (drop_read ss k s in_spans is_span))
    ∙ made

pub made_all : (parts : List PartitionSection) (sources : List Source) (lens : List ℕ) (ss : List Span) (placed : List Placed) (k : ℕ) → Made parts sources lens ss placed k → length parts ≤ k → placed ≡ parts_from parts sources lens ss
made_all parts sources lens ss placed k made all =
    sym (append-nil placed) ∙ sym (ap (λ xs. placed ++ parts_from xs (drop k sources) (drop k lens) (drop k ss)) (drop_all k parts all)) ∙ made
