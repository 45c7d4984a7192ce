-- An image that is filled, then given the bytes of the partitions' files, and then the tables.
use Rattle.std.specs.Prelude.{◌≡◌, ℕ, ◌<◌, ◌⊎◌, List, [], All, Option, Some, None, false, Result, Ok, Err, OnOk, length, slice_index, unwrap_or}
use Rattle.std.proofs.Common.{refl, ◌∙◌, sym, arith, inl, inr}
use Rattle.outside.specs.Files.{IsThere, OthersStay, Tree, bytes_of}
use Rattle.outside.specs.declared.files.ComposeFault.{ComposeFault}
use Rattle.outside.specs.declared.files.ComposeFault.TheVariants.{Missing, FileFault, SourceShort, NoMemory}
use Rattle.image_layout.specs.IsLayout.{IsLayout}
use Rattle.image_layout.specs.Layout.{byte_at, has_file_byte, table_byte, table_parts}
use Rattle.image_layout.specs.declared.layout.Layout.{Layout}
use Rattle.image_layout.specs.declared.layout.Placed.{Placed}
use Rattle.image_layout.proofs.Bytes.{byte_of_fill, image_reads_back}
use Rattle.image_writes.specs.Images.{IsFilled, Serves}
use Rattle.image_parts.specs.Files.{HasNeeded, HaveNeeded, IsInFile, IsMissing, PutsParts, part_of, source_in}
use Rattle.image_tables.specs.Tables.{IsInOne}
use Rattle.image_tables.specs.Tables.{PutsParts as PutsTables}
use Rattle.image_composer.specs.Images.{ComposeAnswers, IsMade, IsOwnFile, IsReadBack, StageAnswers}
use Rattle.image_composer.proofs.Sources.{bytes_stay}
use Rattle.image_composer.proofs.Wanted.{Holder, byte_at_same, has_own, holder_or_none, in_one, wants_files, wants_tables}

-- what the partitions' files put
pub parts_served : (l : Layout) (made put : Tree) → IsLayout l → PutsParts l.parts (length l.parts) l.file made put → Serves (byte_at l (bytes_of made)) (IsInFile l.parts (length l.parts)) l.file made put
parts_served l made put is puts = puts.serves (byte_at l (bytes_of made)) (wants_files l made is)

-- the image's file keeps its size
pub still_there : (l : Layout) (made put : Tree) → IsLayout l → IsFilled l.size l.fill l.file made → PutsParts l.parts (length l.parts) l.file made put → IsThere put l.file (length (bytes_of put l.file) ≡ l.size)
still_there l made put is filled puts =
    let served = parts_served l made put is puts in
    (served.there, served.size ∙ filled.size)

module _ (l : Layout) (made put new : Tree) (is : IsLayout l) (filled : IsFilled l.size l.fill l.file made) (puts : PutsParts l.parts (length l.parts) l.file made put) (tables : PutsTables (table_parts l) l.file put new) where
  abbrev want : ℕ → ℕ
  want = byte_at l (bytes_of made)

  by_parts : Serves want (IsInFile l.parts (length l.parts)) l.file made put
  by_parts = parts_served l made put is puts

  by_tables : Serves want (IsInOne (table_parts l)) l.file put new
  by_tables = tables.serves want (wants_tables l (bytes_of made) is)

  beside_tables : (o : ℕ) → o < l.size → table_byte l o ≡ None → Holder l.parts o ⊎ All (λ p. has_file_byte p o ≡ false) l.parts → slice_index (bytes_of new l.file) o ≡ want o
  beside_tables o inside none (inl held) =
      by_tables.kept o (by_parts.put o (held.number, held.inside, has_own (part_of l.parts held.number) o held.own))
  beside_tables o inside none (inr free) =
      by_tables.kept o (by_parts.kept o (filled.each o inside ∙ sym (byte_of_fill l (bytes_of made) o none free)))

  by_cases : (o : ℕ) → o < l.size → (found : Option ℕ) → table_byte l o ≡ found → slice_index (bytes_of new l.file) o ≡ want o
  by_cases o inside (Some b) has = by_tables.put o (in_one (table_parts l) o b has)
  by_cases o inside None none = beside_tables o inside none (holder_or_none l.parts o)

  -- each byte is the one of the layout
  pub each_byte : (o : ℕ) → o < l.size → slice_index (bytes_of new l.file) o ≡ byte_at l (bytes_of made) o
  each_byte o inside = by_cases o inside (table_byte l o) refl

pub is_made : (l : Layout) (old made put new : Tree) → IsLayout l → IsOwnFile l → OthersStay l.file old made → IsFilled l.size l.fill l.file made → PutsParts l.parts (length l.parts) l.file made put → PutsTables (table_parts l) l.file put new → IsMade l old new
is_made l old made put new is own others filled puts tables =
    let there = still_there l made put is filled puts in
    record {
      there = tables.there;
      size = tables.size ∙ there.1;
      each = λ o inside.
          each_byte l made put new is filled puts tables o inside
          ∙ byte_at_same l (bytes_of made) (bytes_of old) o (bytes_stay l old made own others);
    }

none_lacks : (source : Option (List ℕ)) (p : Placed) → IsMissing source p → HasNeeded (unwrap_or source []) p → ⊥
none_lacks None p lacks has = let none = has lacks.some.0 lacks.some.1 in absurd (omega arith)
none_lacks (Some bytes) p lacks has = let some = lacks.none in absurd (cc)

-- such an image reads back
pub reads_back : (l : Layout) (old new : Tree) (r : Result Unit ComposeFault) → IsLayout l → ComposeAnswers l old new r → OnOk r (IsReadBack l new)
reads_back l old new (Ok done) is h = image_reads_back l (bytes_of old) (λ o. slice_index (bytes_of new l.file) o) is h.1.each
reads_back l old new (Err fault) is h = tt

-- where each file has the bytes that are needed, no partition lacks one
pub complete : (l : Layout) (old new : Tree) (r : Result Unit ComposeFault) → HaveNeeded old l.parts (length l.parts) → ComposeAnswers l old new r → StageAnswers (Unit {0}) r
complete l old new (Ok done) have h = tt
complete l old new (Err (Missing part)) have h = none_lacks (source_in old (part_of l.parts part).source) (part_of l.parts part) h.lacks (have part h.known)
complete l old new (Err (SourceShort part at)) have h =
    let past = h.lacks.past in
    let inside = have part h.known at h.lacks.needed in
    absurd (omega arith)
complete l old new (Err FileFault) have h = tt
complete l old new (Err NoMemory) have h = tt

-- the bytes are those of the files afterwards, too
pub by_files_after : (l : Layout) (old new : Tree) → IsOwnFile l → OthersStay l.file old new → IsMade l old new → (o : ℕ) → o < l.size → slice_index (bytes_of new l.file) o ≡ byte_at l (bytes_of new) o
by_files_after l old new own others made o inside =
    made.each o inside ∙ sym (byte_at_same l (bytes_of new) (bytes_of old) o (bytes_stay l old new own others))
