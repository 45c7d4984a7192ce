-- An image that has the bytes of a header reads there as it.
use Rattle.std.specs.Prelude.{◌≡◌, ◌≢◌, ℕ, ◌+◌, ◌*◌, ◌^◌, ◌<◌, ◌≤◌, List, [], ◌∷◌, ◌++◌, codes, length, replicate, take, drop}
use Rattle.std.proofs.Common.{refl, ◌∙◌, sym, ap, arith}
use Rattle.std.proofs.lemmas.Grind.{common_steps}
use Rattle.base_fields.specs.Crc.{crc32_of}
use Rattle.base_fields.specs.Fields.{byte_of, joined}
use Rattle.gpt_table.specs.Span.{bytes_at}
use Rattle.gpt_table.specs.Gpt.{EntryFits, entries_byte, header_byte, header_fields, header_sum, slot_of, sum_of_entries}
use Rattle.gpt_table.specs.Reading.{ReadsHeader, header_at}
use Rattle.gpt_table.specs.declared.entry.GptEntry.{GptEntry}
use Rattle.gpt_table.specs.declared.header.GptHeader.{GptHeader}
use Rattle.gpt_table.proofs.Headers.{header_byte_of, header_run, header_sum_is, length-header}
use Rattle.gpt_table.proofs.Held.{Held, bytes_read, held_run}
use Rattle.base_fields.proofs.Images.{Has, front_of, number_reads, rest_of}
use Rattle.gpt_table.proofs.SlotReads.{from_zero, guid_reads, slots_read}
use Rattle.gpt_table.proofs.Spans.{same_bytes_at}
use Rattle.gpt_table.proofs.Sums.{crc32_of-fits}

-- the numbers of a header fit their fields
pub record HeaderFits (h : GptHeader) : Type 0 where
  pub own : h.own < 2 ^ 64
  pub other : h.other < 2 ^ 64
  pub first_usable : h.first_usable < 2 ^ 64
  pub last_usable : h.last_usable < 2 ^ 64
  pub disk : length h.disk ≡ 16
  pub entries_at : h.entries_at < 2 ^ 64
  pub entries_sum : h.entries_sum < 2 ^ 32

-- headers with the same fields are one
abbrev header : ℕ → ℕ → ℕ → ℕ → List ℕ → ℕ → ℕ → GptHeader
header own other first_usable last_usable disk entries_at entries_sum =
    record { own = own; other = other; first_usable = first_usable; last_usable = last_usable; disk = disk; entries_at = entries_at; entries_sum = entries_sum }

same_header : (a b : GptHeader) → a.own ≡ b.own → a.other ≡ b.other → a.first_usable ≡ b.first_usable → a.last_usable ≡ b.last_usable → a.disk ≡ b.disk → a.entries_at ≡ b.entries_at → a.entries_sum ≡ b.entries_sum → a ≡ b
same_header a b own other first_usable last_usable disk entries_at entries_sum =
    ap (λ (x : ℕ). header x a.other a.first_usable a.last_usable a.disk a.entries_at a.entries_sum) own
    ∙ ap (λ (x : ℕ). header b.own x a.first_usable a.last_usable a.disk a.entries_at a.entries_sum) other
    ∙ ap (λ (x : ℕ). header b.own b.other x a.last_usable a.disk a.entries_at a.entries_sum) first_usable
    ∙ ap (λ (x : ℕ). header b.own b.other b.first_usable x a.disk a.entries_at a.entries_sum) last_usable
    ∙ ap (λ (x : List ℕ). header b.own b.other b.first_usable b.last_usable x a.entries_at a.entries_sum) disk
    ∙ ap (λ (x : ℕ). header b.own b.other b.first_usable b.last_usable b.disk x a.entries_sum) entries_at
    ∙ ap (λ (x : ℕ). header b.own b.other b.first_usable b.last_usable b.disk b.entries_at x) entries_sum

-- an image that has the bytes of a header from an offset on has its 92 bytes
pub header_has : (image : ℕ → ℕ) (o n : ℕ) (h : GptHeader) → length h.disk ≡ 16 → 92 ≤ n → ((i : ℕ) → i < n → image (o + i) ≡ header_byte h i) → Has image o (joined (header_fields h (header_sum h)))
unfolding header_byte
header_has image o n h sixteen room same i inside =
    let long = length-header h (header_sum h) sixteen in
    same i (omega arith) ∙ header_byte_of h (header_sum h) i sixteen

-- the 92 bytes with the sum's own field zero
sum_reads : (image : ℕ → ℕ) (o sum : ℕ) (h : GptHeader) → length h.disk ≡ 16 → Has image o (joined (header_fields h sum)) → crc32_of (bytes_at image o 16 ++ (replicate 4 0 ++ bytes_at image (o + 20) 72)) ≡ header_sum h
sum_reads image o sum h sixteen has =
    let whole : List ℕ = joined (header_fields h sum) in
    let ahead : List ℕ = take 16 whole in
    let behind : List ℕ = drop 20 whole in
    let long : length whole ≡ 92 = length-header h sum sixteen in
    let rest : length behind ≡ 72 = grind (arith, common_steps) in
    let first : bytes_at image o 16 ≡ ahead = bytes_read image o 16 ahead refl (front_of image o ahead (drop 16 whole) has) in
    let last : bytes_at image (o + 20) 72 ≡ behind = bytes_read image (o + 20) 72 behind rest (rest_of image o 20 (take 20 whole) behind refl has) in
    ap (λ (xs : List ℕ). crc32_of (xs ++ (replicate 4 0 ++ bytes_at image (o + 20) 72))) first
    ∙ (ap (λ (xs : List ℕ). crc32_of (ahead ++ (replicate 4 0 ++ xs))) last
    ∙ header_sum_is h sixteen)

says_reads : (image : ℕ → ℕ) (o sum : ℕ) (h : GptHeader) → HeaderFits h → Held image o (header_fields h sum) → header_at image o ≡ h
says_reads image o sum h fits held =
    let from_own = held.1.1.1.1.1 in
    let from_disk = from_own.1.1.1.1 in
    same_header (header_at image o) h
    (number_reads image (o + 24) 8 h.own fits.own from_own.0)
    (number_reads image (o + 32) 8 h.other fits.other from_own.1.0)
    (number_reads image (o + 40) 8 h.first_usable fits.first_usable from_own.1.1.0)
    (number_reads image (o + 48) 8 h.last_usable fits.last_usable from_own.1.1.1.0)
    (guid_reads image (o + 56) h.disk fits.disk from_disk.0)
    (number_reads image (o + 72) 8 h.entries_at fits.entries_at from_disk.1.0)
    (number_reads image (o + 88) 4 h.entries_sum fits.entries_sum from_disk.1.1.1.1.0)

zero_first : (i : ℕ) → 0 + i ≡ i
zero_first i = omega arith

entries_read : (image : ℕ → ℕ) (o : ℕ) (entries : List GptEntry) → ((i : ℕ) → i < 16384 → image (o + i) ≡ entries_byte entries i) → sum_of_entries entries ≡ crc32_of (bytes_at image o 16384)
unfolding sum_of_entries
entries_read image o entries same =
    ap crc32_of (sym (same_bytes_at image (entries_byte entries) o 0 16384 (λ i h. same i h ∙ ap (entries_byte entries) (sym (zero_first i)))))

at_zero : (image : ℕ → ℕ) (o : ℕ) (xs : List ℕ) → Has image o xs → Has image (o + 0) xs
at_zero image o xs has i h = ap image (omega arith) ∙ has i h

header_sum-fits : (h : GptHeader) → header_sum h < 2 ^ 32
unfolding header_sum
header_sum-fits h = crc32_of-fits (bytes_at (byte_of (header_fields h 0)) 0 92)

-- an image that has the bytes of a header in its place, and those of its entries in theirs, both inside its length
pub header_reads : (image : ℕ → ℕ) (len z : ℕ) (h : GptHeader) (entries : List GptEntry) → h.own * z + 92 ≤ len → h.entries_at * z + 16384 ≤ len → HeaderFits h → h.entries_at ≢ 0 → h.entries_sum ≡ sum_of_entries entries → ((k : ℕ) → k < length entries → EntryFits (slot_of entries k)) → Has image (h.own * z) (joined (header_fields h (header_sum h))) → ((i : ℕ) → i < 16384 → image (h.entries_at * z + i) ≡ entries_byte entries i) → ReadsHeader image len z h (slot_of entries)
header_reads image len z h entries inside entries_inside fits nonzero sum each has same =
    let o : ℕ = h.own * z in
    let held : Held image o (header_fields h (header_sum h)) = held_run image o 0 (header_fields h (header_sum h)) (header_run h (header_sum h) fits.disk) (at_zero image o (joined (header_fields h (header_sum h))) has) in
    let from_count = held.1.1.1.1.1.1.1.1.1.1.1 in
    record {
      inside = inside;
      signature = bytes_read image o 8 (codes "EFI PART") refl (from_zero image o (codes "EFI PART") held.0);
      revision = bytes_read image (o + 8) 4 (0 ∷ 0 ∷ 1 ∷ 0 ∷ []) refl held.1.0;
      size = number_reads image (o + 12) 4 92 (omega arith) held.1.1.0;
      sum = number_reads image (o + 16) 4 (header_sum h) (header_sum-fits h) held.1.1.1.0 ∙ sym (sum_reads image o (header_sum h) h fits.disk has);
      reserved = number_reads image (o + 20) 4 0 (omega arith) held.1.1.1.1.0;
      says = says_reads image o (header_sum h) h fits held;
      has_entries = nonzero;
      slot_count = number_reads image (o + 80) 4 128 (omega arith) from_count.0;
      slot_size = number_reads image (o + 84) 4 128 (omega arith) from_count.1.0;
      entries_inside = entries_inside;
      entries_sum = sum ∙ entries_read image (h.entries_at * z) entries same;
      slots = slots_read image (h.entries_at * z) entries each same;
    }

pub sum-fits : (entries : List GptEntry) → sum_of_entries entries < 2 ^ 32
unfolding sum_of_entries
sum-fits entries = crc32_of-fits (bytes_at (entries_byte entries) 0 16384)
