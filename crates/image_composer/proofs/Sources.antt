-- The partitions' files, which stay as they are where the layout's own file changes.
use Rattle.std.specs.Prelude.{◌≡◌, ℕ, ◌+◌, ◌^◌, ◌<◌, ◌≤◌, List, [], All, Option, Err, length, unwrap_or}
use Rattle.std.proofs.Common.{◌∙◌, sym, ap, subst, arith}
use Rattle.outside.specs.Files.{OthersStay, Tree, bytes_of}
use Rattle.outside.specs.declared.files.ComposeFault.{ComposeFault}
use Rattle.outside.specs.declared.files.ComposeFault.TheVariants.{Missing, FileFault, SourceShort, NoMemory}
use Rattle.image_layout.specs.IsLayout.{IsLayout, IsPart}
use Rattle.image_layout.specs.Layout.{source_bytes}
use Rattle.image_layout.specs.declared.layout.Layout.{Layout}
use Rattle.image_parts.specs.Files.{HasNeeded, HaveNeeded, IsMissing, IsShortAt, PartsAnswer, no_part, part_of, source_in}
use Rattle.image_parts.proofs.AllParts.{same_source}
use Rattle.image_composer.specs.Images.{ComposeAnswers, IsOwnFile, StageAnswers}
use Rattle.image_composer.proofs.Wanted.{source_is}

module _ (l : Layout) (old made : Tree) (own : IsOwnFile l) (others : OthersStay l.file old made) where
  pub source_stays : (k : ℕ) → k < length l.parts → source_in made (part_of l.parts k).source ≡ source_in old (part_of l.parts k).source
  source_stays k inside = same_source (part_of l.parts k).source l.file old made (own k no_part inside) others

  pub bytes_stay : (k : ℕ) → k < length l.parts → source_bytes (bytes_of made) (part_of l.parts k).source ≡ source_bytes (bytes_of old) (part_of l.parts k).source
  bytes_stay k inside =
      source_is made (part_of l.parts k).source
      ∙ ap (λ (s : Option (List ℕ)). unwrap_or s []) (source_stays k inside)
      ∙ sym (source_is old (part_of l.parts k).source)

  pub had_before : (n : ℕ) → n ≤ length l.parts → HaveNeeded made l.parts n → HaveNeeded old l.parts n
  had_before n within had k before =
      subst (λ (s : Option (List ℕ)). HasNeeded (unwrap_or s []) (part_of l.parts k)) (source_stays k (omega arith)) (had k before)

  -- a partition that isn't put is one that lacks its file, or a byte of it, from the start
  pub parts_lack : (new : Tree) (fault : ComposeFault) → PartsAnswer l.parts l.file made new (Err fault) → ComposeAnswers l old new (Err fault)
  parts_lack new (Missing part) h =
      let inside : part < length l.parts = h.known in
      record {
        known = inside;
        before = had_before part (omega arith) h.before;
        lacks = subst (λ (s : Option (List ℕ)). IsMissing s (part_of l.parts part)) (source_stays part inside) h.lacks;
      }
  parts_lack new (SourceShort part at) h =
      let inside : part < length l.parts = h.known in
      record {
        known = inside;
        before = had_before part (omega arith) h.before;
        lacks = subst (λ (s : Option (List ℕ)). IsShortAt s (part_of l.parts part) at) (source_stays part inside) h.lacks;
      }
  parts_lack new FileFault h = tt
  parts_lack new NoMemory h = tt

-- a stage that names no partition
pub stage_fails : (fact : Type 0) (l : Layout) (old new : Tree) (fault : ComposeFault) → StageAnswers fact (Err fault) → ComposeAnswers l old new (Err fault)
stage_fails fact l old new (Missing part) h = absurd h
stage_fails fact l old new (SourceShort part at) h = absurd h
stage_fails fact l old new FileFault h = tt
stage_fails fact l old new NoMemory h = tt

-- ---- what the stages ask for

-- the partitions of an image lie within the greatest size of one
pub all_placed : (l : Layout) → IsLayout l → All (IsPart (2 ^ 43)) l.parts
all_placed l is k d inside =
    let p : IsPart l.size _ = is.parts k d inside in
    record { inside = let within = p.inside in let small = is.size in omega arith; file = p.file; source = p.source; holes = p.holes }

-- and their files within the image's
pub all_inside : (l : Layout) (n : ℕ) → IsLayout l → n ≡ l.size → All (λ p. p.at + p.len ≤ n) l.parts
all_inside l n is long k d inside =
    let p : IsPart l.size _ = is.parts k d inside in
    let within = p.inside in
    let short = p.file in
    rw long (omega arith)
