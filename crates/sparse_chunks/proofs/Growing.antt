-- The chunks of a file with one more run.
use Rattle.std.proofs.Common.{◌≡◌, ℕ, ◌+◌, ◌-◌, ◌*◌, ◌<◌, ◌≤◌, List, [], ◌∷◌, ◌++◌, length, take, drop, Option, None, Some, refl, ap, subst, sym, ◌∙◌, append_assoc, append-nil, arith, inl, inr}
use Rattle.std.proofs.Math.Nat.{add-mul}
use Rattle.std.proofs.Math.Seq.{take-add, take-append_seam, drop-append-add}
use Rattle.std.proofs.lemmas.Bool.{cases_lt}
use Rattle.std.proofs.lemmas.Grind.{common_steps}
use Rattle.std.proofs.lemmas.List.{drop-drop, flat_map_more, length-take-le}
use Rattle.base_fields.specs.declared.spans.Span.{Span}
use Rattle.base_fields.specs.Fields.{written}
use Rattle.sparse_text.specs.Blocks.{IsContent, padded}
use Rattle.sparse_text.specs.Runs.{AreRuns, IsRun}
use Rattle.sparse_text.specs.Text.{AreRunsOf, chunk_text, data_of, kind_in, most_raw, tag_text}
use Rattle.sparse_reader.specs.Chunks.{data_len}
use Rattle.sparse_text.proofs.RunLemmas.{run_longer, run_more}
use Rattle.sparse_text.specs.declared.runs.Content.{Content}
use Rattle.sparse_text.specs.declared.runs.Content.TheVariants.{Skip, Fill, Raw}
use Rattle.sparse_text.specs.declared.runs.Run.{Run}
use Rattle.sparse_chunks.specs.declared.progress.Placed.{Placed}
use Rattle.sparse_chunks.specs.declared.progress.Progress.{Progress}
use Rattle.sparse_chunks.specs.Progress.{AreAlike, HasBytes, IsLast, IsWritten, Takes, TakesSome, chunks_text, data_with, done_after, more_with, placed_with, size_of}

-- ---- bytes

-- bytes over as many others
put_over : (a old new b : List ℕ) → length new ≡ length old → written (a ++ (old ++ b)) (length a) new ≡ a ++ (new ++ b)
put_over a old new b same =
    let front = take-append_seam a (old ++ b) in
    let back = drop-append-add a (old ++ b) (length new) in
    let gone : drop (length new) (old ++ b) ≡ b = search (arith, common_steps) in
    rw (front, back, gone) (append_assoc a new b)

tag_long : (block count : ℕ) (content : Content) → length (tag_text block content count) ≡ 12
tag_long block count content = refl

-- ---- a chunk behind the last one

-- the data of a new chunk
new_data : (image : List ℕ) (block first count : ℕ) (content : Content) (bytes : List ℕ) →
    (content ≡ Raw → take (count * block) bytes ≡ take (count * block) (drop (first * block) (padded image block))) →
    data_with content (take (count * block) bytes) ≡ data_of image block first count content
new_data image block first count Skip bytes h = refl
new_data image block first count (Fill word) bytes h = refl
new_data image block first count Raw bytes h = h refl

-- the runs with one more
new_runs : (image : List ℕ) (cover : List Span) (block : ℕ) (last : Option Placed) (runs : List Run) (r : Run) →
    AreRunsOf image cover block (done_after last) runs → IsLast image block last runs → Takes block last r None →
    IsRun (IsContent image cover block) (most_raw block) (done_after last) r → AreRunsOf image cover block (done_after last + r.count) (runs ++ r ∷ [])
new_runs image cover block None runs r h last apart is =
    subst (λ (xs : List Run). AreRunsOf image cover block (0 + r.count) (xs ++ r ∷ [])) (sym last) (is, tt, refl)
new_runs image cover block (Some l) runs r h last apart is =
    let front = last.0 in
    let has = IsContent image cover block in
    let end = l.run.first + l.run.count in
    let before = subst (AreRunsOf image cover block end) last.1 h in
    let all = run_more has (most_raw block) 0 end front l.run r before apart is in
    let same : front ++ (l.run ∷ r ∷ []) ≡ runs ++ r ∷ [] = sym (append_assoc front (l.run ∷ []) (r ∷ [])) ∙ ap (λ (xs : List Run). xs ++ r ∷ []) (sym last.1) in
    subst (AreRunsOf image cover block (end + r.count)) same all

-- the file with a chunk more
pub appended : (image : List ℕ) (cover : List Span) (block end : ℕ) (p : Progress) (bytes given : List ℕ) (r : Run) →
    end ≡ length bytes → Takes block p.last r None → r.first ≡ done_after p.last → 0 < r.count → (r.content ≡ Raw → r.count ≤ most_raw block) →
    AreAlike image cover block r → HasBytes image block r given → IsWritten image cover block p bytes →
    IsWritten image cover block (record { chunks = p.chunks + 1; last = Some (record { run = r; at = end }) }) (bytes ++ tag_text block r.content r.count ++ data_with r.content (take (r.count * block) given))
appended image cover block end p bytes given r long apart first some short alike raw (head, runs, h) =
    let is : IsRun (IsContent image cover block) (most_raw block) (done_after p.last) r = record {
      begins = first;
      some = some;
      alike = λ b not_before before. alike b (omega (arith, first, not_before)) (omega (arith, first, before));
      short = short;
    } in
    let more = new_runs image cover block p.last runs r h.are_runs h.last apart is in
    let stored = new_data image block r.first r.count r.content given raw in
    let header = h.header in
    let bytes_are = h.are_bytes in
    let count = h.count in
    let sized : length (head ++ chunks_text image block runs) ≡ length head + length (chunks_text image block runs) = search (arith, common_steps) in (
      head,
      runs ++ r ∷ [],
      record {
        header = header;
        are_runs = subst (λ (n : ℕ). AreRunsOf image cover block (n + r.count) (runs ++ r ∷ [])) (sym first) more;
        are_bytes =
            ap (λ (xs : List ℕ). xs ++ tag_text block r.content r.count ++ data_with r.content (take (r.count * block) given)) bytes_are
            ∙ ap (λ (xs : List ℕ). (head ++ chunks_text image block runs) ++ tag_text block r.content r.count ++ xs) stored
            ∙ append_assoc (head ++ chunks_text image block runs) (tag_text block r.content r.count) (data_of image block r.first r.count r.content)
            ∙ flat_map_more (λ (x : Run). chunk_text image block x) head runs r;
        count = search (arith, common_steps, count);
        last = (runs, refl, let at = ap (λ (xs : List ℕ). length xs) bytes_are in omega (arith, at, sized, header, long));
      },
    )

-- ---- the last chunk with more blocks

-- so many blocks and then so many
by_parts : (block n a b : ℕ) → n ≡ a + b → n * block ≡ a * block + b * block
by_parts block n a b h = rw h (add-mul a b block)

-- the fronts of the same bytes
front_same : (a b : ℕ) (xs ys : List ℕ) → take (a + b) xs ≡ take (a + b) ys → take a xs ≡ take a ys
front_same a b xs ys h =
    let x : take a (take (a + b) xs) ≡ take a xs = search (arith, common_steps) in
    let y : take a (take (a + b) ys) ≡ take a ys = search (arith, common_steps) in
    sym x ∙ ap (take a) h ∙ y

-- a part of the blocks that follow
more_data : (image : List ℕ) (block first count all taken : ℕ) (bytes : List ℕ) → count < taken → taken ≤ count + all →
    take (all * block) bytes ≡ take (all * block) (drop ((first + count) * block) (padded image block)) →
    take (count * block) (drop (first * block) (padded image block)) ++ take ((taken - count) * block) bytes ≡ take (taken * block) (drop (first * block) (padded image block))
more_data image block first count all taken bytes less within same =
    let more = taken - count in
    let rest = all - more in
    let xs = padded image block in
    let cut : all * block ≡ more * block + rest * block = by_parts block all more rest (omega (arith, less, within)) in
    let whole : taken * block ≡ count * block + more * block = by_parts block taken count more (omega (arith, less)) in
    let place : (first + count) * block ≡ first * block + count * block = by_parts block (first + count) first count refl in
    let front : take (more * block) bytes ≡ take (more * block) (drop ((first + count) * block) xs) = front_same (more * block) (rest * block) bytes (drop ((first + count) * block) xs) (subst (λ (n : ℕ). take n bytes ≡ take n (drop ((first + count) * block) xs)) cut same) in
    let behind : drop (count * block) (drop (first * block) xs) ≡ drop (first * block + count * block) xs = drop-drop (count * block) (first * block) xs in
    let joined = take-add (count * block) (more * block) (drop (first * block) xs) in
    cc

-- the data of the last chunk, and what the blocks that it takes add to it
longer_data : (image : List ℕ) (block first count all taken : ℕ) (content : Content) (bytes : List ℕ) → count < taken → taken ≤ count + all →
    (content ≡ Raw → take (all * block) bytes ≡ take (all * block) (drop ((first + count) * block) (padded image block))) →
    data_of image block first count content ++ more_with content (take ((taken - count) * block) bytes) ≡ data_of image block first taken content
longer_data image block first count all taken Skip bytes less within h = refl
longer_data image block first count all taken (Fill word) bytes less within h = append-nil _
longer_data image block first count all taken Raw bytes less within h = more_data image block first count all taken bytes less within (h refl)

-- the last of runs is one
last_run : (has : ℕ → Content → Type 0) (most first end : ℕ) (front : List Run) (last : Run) → AreRuns has most first end (front ++ last ∷ []) → IsRun has most last.first last
last_run has most first end [] last h = subst (λ (n : ℕ). IsRun has most n last) (sym h.0.begins) h.0
last_run has most first end (x ∷ front) last h = last_run has most (first + x.count) end front last h.2

-- a longer run of the same content
longer_run : (image : List ℕ) (cover : List Span) (block count : ℕ) (l r : Run) → IsRun (IsContent image cover block) (most_raw block) l.first l →
    l.content ≡ r.content → r.first ≡ l.first + l.count → l.count < count → count ≤ l.count + r.count → (r.content ≡ Raw → count ≤ most_raw block) →
    AreAlike image cover block r → IsRun (IsContent image cover block) (most_raw block) l.first (record { first = l.first; count = count; content = l.content })
longer_run image cover block count l r is same first more within short alike = record {
  begins = refl;
  some = omega (arith, more);
  alike = λ b not_before before. elim (cases_lt b (l.first + l.count)) [
    | inl old ↦ is.alike b not_before old
    | inr new ↦ subst (IsContent image cover block b) (sym same) (alike b (omega (arith, first, new)) (omega (arith, first, before, within)))
  ];
  short = λ raw. short (sym same ∙ raw);
}

-- the bytes of the file: what stands before the last chunk, its header, its data and what is added to it
longer_bytes : (before tag stored more new : List ℕ) (at : ℕ) → at ≡ length before → length new ≡ length tag →
    written ((before ++ (tag ++ stored)) ++ more) at new ≡ before ++ (new ++ (stored ++ more))
longer_bytes before tag stored more new at place same =
    let over = put_over before tag new (stored ++ more) same in
    let joined : (before ++ (tag ++ stored)) ++ more ≡ before ++ (tag ++ (stored ++ more)) = append_assoc before (tag ++ stored) more ∙ ap (λ (xs : List ℕ). before ++ xs) (append_assoc tag stored more) in
    ap (λ (xs : List ℕ). written xs at new) joined ∙ ap (λ (n : ℕ). written (before ++ (tag ++ (stored ++ more))) n new) place ∙ over

-- the file with more blocks in the last chunk
pub grown : (image : List ℕ) (cover : List Span) (block count : ℕ) (p : Progress) (l : Placed) (bytes given : List ℕ) (r : Run) →
    p.last ≡ Some l → TakesSome block l r count → r.first ≡ l.run.first + l.run.count →
    AreAlike image cover block r → HasBytes image block r given → IsWritten image cover block p bytes →
    IsWritten image cover block (record { chunks = p.chunks; last = Some (placed_with l count) })
    (written (bytes ++ more_with l.run.content (take ((count - l.run.count) * block) given)) l.at (tag_text block l.run.content count))
grown image cover block count p l bytes given r is_last takes first alike raw (head, runs, h) =
    let has = IsContent image cover block in
    let end = l.run.first + l.run.count in
    let last = subst (λ (o : Option Placed). IsLast image block o runs) is_last h.last in
    let front = last.0 in
    let at = last.2 in
    let header = h.header in
    let counted = h.count in
    let old = l.run in
    let new : Run = record { first = old.first; count = count; content = old.content } in
    let whole = subst (λ (o : Option Placed). AreRunsOf image cover block (done_after o) runs) is_last h.are_runs in
    let before_them = subst (AreRunsOf image cover block end) last.1 whole in
    let longer = longer_run image cover block count old r (last_run has (most_raw block) 0 end front old before_them) takes.same first takes.more takes.within takes.short alike in
    let text = λ (x : Run). chunk_text image block x in
    let before = head ++ chunks_text image block front in
    let tag = tag_text block old.content old.count in
    let stored = data_of image block old.first old.count old.content in
    let more = more_with old.content (take ((count - old.count) * block) given) in
    let sized : length before ≡ length head + length (chunks_text image block front) = search (arith, common_steps) in
    let bytes_are : bytes ≡ before ++ (tag ++ stored) =
    h.are_bytes ∙ ap (λ (xs : List Run). head ++ chunks_text image block xs) last.1 ∙ sym (flat_map_more text head front old) in
    let adds = longer_data image block old.first old.count r.count count old.content given takes.more takes.within
    (λ is_raw. subst (λ (n : ℕ). take (r.count * block) given ≡ take (r.count * block) (drop (n * block) (padded image block))) first (raw (sym takes.same ∙ is_raw))) in (
      head,
      front ++ new ∷ [],
      record {
        header = header;
        are_runs = run_longer has (most_raw block) 0 end front old new before_them refl longer;
        are_bytes =
            ap (λ (xs : List ℕ). written (xs ++ more) l.at (tag_text block old.content count)) bytes_are
            ∙ longer_bytes before tag stored more (tag_text block old.content count) l.at (omega (arith, at, sized, header)) refl
            ∙ ap (λ (xs : List ℕ). before ++ (tag_text block old.content count ++ xs)) adds
            ∙ flat_map_more text head front new;
        count =
            let same = ap (λ (xs : List Run). length xs) last.1 in
            let a : length (front ++ old ∷ []) ≡ length front + 1 = search (arith, common_steps) in
            let b : length (front ++ new ∷ []) ≡ length front + 1 = search (arith, common_steps) in
            omega (arith, same, a, b, counted);
        last = (front, refl, at);
      },
    )

-- its length
same_long : (xs ys : List ℕ) (at : ℕ) → at + length ys ≤ length xs → length (written xs at ys) ≡ length xs
same_long xs ys at within = search (arith, common_steps)

more_long : (block more : ℕ) (content : Content) (given : List ℕ) (old count : ℕ) → count ≡ old + more → (content ≡ Raw → more * block ≤ length given) →
    data_len (kind_in content) block old + length (more_with content (take (more * block) given)) ≡ data_len (kind_in content) block count
more_long block more Skip given old count is h = refl
more_long block more (Fill word) given old count is h = refl
more_long block more Raw given old count is h =
    let long = length-take-le (more * block) given (h refl) in
    let parts = by_parts block count old more is in
    omega (arith, long, parts)

pub grown_long : (block count : ℕ) (l : Placed) (bytes given : List ℕ) → l.at + size_of block l.run ≡ length bytes → l.run.count < count →
    (l.run.content ≡ Raw → (count - l.run.count) * block ≤ length given) →
    l.at + size_of block (placed_with l count).run ≡ length (written (bytes ++ more_with l.run.content (take ((count - l.run.count) * block) given)) l.at (tag_text block l.run.content count))
grown_long block count l bytes given end more room =
    let added = more_with l.run.content (take ((count - l.run.count) * block) given) in
    let joined : length (bytes ++ added) ≡ length bytes + length added = search (arith, common_steps) in
    let long = more_long block (count - l.run.count) l.run.content given l.run.count count (omega (arith, more)) room in
    let same = same_long (bytes ++ added) (tag_text block l.run.content count) l.at (omega (arith, joined, end)) in
    omega (arith, same, joined, long, end)
