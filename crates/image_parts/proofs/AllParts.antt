-- The bytes of all partitions' files, which are put one partition after another.
use Rattle.std.specs.Prelude.{◌≡◌, ◌≢◌, ℕ, ◌+◌, ◌<◌, List, [], length, Option, Some, None, Err, get_or, unwrap_or}
use Rattle.std.proofs.Common.{refl, ◌∙◌, sym, ap, subst, arith, inl, inr}
use Rattle.std.proofs.lemmas.Bool.{cases_lt}
use Rattle.std.proofs.lemmas.List.{get_or_default}
use Rattle.outside.specs.Files.{IsThere, OthersStay, Tree, bytes_of}
use Rattle.outside.specs.declared.files.ComposeFault.{ComposeFault}
use Rattle.outside.specs.declared.files.ComposeFault.TheVariants.{Missing, FileFault, SourceShort, NoMemory}
use Rattle.image_layout.specs.declared.layout.Placed.{Placed}
use Rattle.image_writes.proofs.Serving.{serves_none, serves_then}
use Rattle.image_parts.specs.Files.{HasNeeded, IsInFile, IsNeeded, IsOwn, PartAnswers, PartsAnswer, PutsPart, PutsParts, no_part, part_of, source_in}
use Rattle.image_parts.proofs.Holes.{wanted, wants}

-- a partition's file is as before, where another one changed
pub same_source : (source : Option (List ℕ)) (name : List ℕ) (old new : Tree) → source ≢ Some name → OthersStay name old new → source_in new source ≡ source_in old source
same_source None name old new apart others = refl
same_source (Some own) name old new apart others = others own (λ same. apart (ap (λ n. Some n) same))

pub parts_first : (parts : List Placed) (name : List ℕ) (file : Tree) → file name ≡ Some (bytes_of file name) → PutsParts parts 0 name file file
parts_first parts name file there = record {
  had = λ k before. absurd (omega arith);
  serves = λ want has. serves_none want (IsInFile parts 0) name file there (λ o own. let none : own.0 < 0 = own.1 in absurd (omega arith));
}

-- one more partition
pub parts_more : (parts : List Placed) (k : ℕ) (name : List ℕ) (old mid new : Tree) → PutsParts parts k name old mid → PutsPart (source_in old (part_of parts k).source) (part_of parts k) name mid new → PutsParts parts (k + 1) name old new
parts_more parts k name old mid new so_far one = record {
  had = λ j before. elim (cases_lt j k) [
    | inl earlier ↦ so_far.had j earlier
    | inr this ↦
        let same : j ≡ k = omega arith in
        subst (λ (n : ℕ). HasNeeded (unwrap_or (source_in old (part_of parts n).source) []) (part_of parts n)) (sym same) one.had
  ];
  serves = λ want has.
      serves_then want (IsInFile parts k) (IsOwn (part_of parts k)) (IsInFile parts (k + 1)) name old mid new
      (so_far.serves want (λ j before. has j (omega arith))) (one.serves want (has k (omega arith)))
      (λ o own.
      let j : ℕ = own.0 in
      let before : j < k + 1 = own.1 in
      elim (cases_lt j k) [
        | inl earlier ↦ inl (j, earlier, own.2)
        | inr this ↦
            let same : j ≡ k = omega arith in
            inr (subst (λ (n : ℕ). IsOwn (part_of parts n) o) same own.2)
      ]);
}

-- a partition that isn't put is the first one
pub parts_fail : (parts : List Placed) (k : ℕ) (name : List ℕ) (old mid new : Tree) (fault : ComposeFault) → k < length parts → PutsParts parts k name old mid → PartAnswers k (source_in old (part_of parts k).source) (part_of parts k) name mid new (Err fault) → PartsAnswer parts name old new (Err fault)
parts_fail parts k name old mid new (Missing part) inside so_far h =
    rw h.0 (record { known = inside; before = so_far.had; lacks = h.1 })
parts_fail parts k name old mid new (SourceShort part at) inside so_far h =
    rw h.0 (record { known = inside; before = so_far.had; lacks = h.1 })
parts_fail parts k name old mid new FileFault inside so_far h = tt
parts_fail parts k name old mid new NoMemory inside so_far h = tt

-- ---- the partition of a number

is_part : (parts : List Placed) (k : ℕ) (p : Placed) → k < length parts → p ≡ get_or parts k p → p ≡ part_of parts k
is_part parts k p inside is = is ∙ get_or_default parts k p no_part inside

pub parts_more_at : (parts : List Placed) (k : ℕ) (p : Placed) (name : List ℕ) (old mid new : Tree) → k < length parts → p ≡ get_or parts k p → p.source ≢ Some name → OthersStay name old mid → PutsParts parts k name old mid → PutsPart (source_in mid p.source) p name mid new → PutsParts parts (k + 1) name old new
parts_more_at parts k p name old mid new inside is apart others so_far one =
    parts_more parts k name old mid new so_far
    (subst (λ (q : Placed). PutsPart (source_in old q.source) q name mid new) (is_part parts k p inside is)
    (subst (λ (s : Option (List ℕ)). PutsPart s p name mid new) (same_source p.source name old mid apart others) one))

pub parts_fail_at : (parts : List Placed) (k : ℕ) (p : Placed) (name : List ℕ) (old mid new : Tree) (fault : ComposeFault) → k < length parts → p ≡ get_or parts k p → p.source ≢ Some name → OthersStay name old mid → PutsParts parts k name old mid → PartAnswers k (source_in mid p.source) p name mid new (Err fault) → PartsAnswer parts name old new (Err fault)
parts_fail_at parts k p name old mid new fault inside is apart others so_far one =
    parts_fail parts k name old mid new fault inside so_far
    (subst (λ (q : Placed). PartAnswers k (source_in old q.source) q name mid new (Err fault)) (is_part parts k p inside is)
    (subst (λ (s : Option (List ℕ)). PartAnswers k s p name mid new (Err fault)) (same_source p.source name old mid apart others) one))

pub needed_at : (parts : List Placed) (k n : ℕ) (p : Placed) (at : ℕ) → k < length parts → p ≡ get_or parts k p → n ≡ k → IsNeeded p at → IsNeeded (part_of parts n) at
needed_at parts k n p at inside is same needed =
    subst (λ (q : Placed). IsNeeded q at) (is_part parts k p inside is ∙ ap (part_of parts) (sym same)) needed

-- the image's file is as long as before
pub still_sized : (source : Option (List ℕ)) (p : Placed) (name : List ℕ) (old mid new : Tree) → length (bytes_of mid name) ≡ length (bytes_of old name) → PutsPart source p name mid new → IsThere new name (length (bytes_of new name) ≡ length (bytes_of old name))
still_sized source p name old mid new so_far one =
    let served = one.serves (wanted source p) (wants source p) in
    (served.there, served.size ∙ so_far)
