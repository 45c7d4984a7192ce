-- The bytes of a header.
use Rattle.std.specs.Prelude.{◌≡◌, ℕ, ◌-◌, ◌≤◌, List, ◌++◌, Bool, true, false, if◌then◌else◌, length, get_or, replicate}
use Rattle.std.proofs.Common.{refl, ◌∙◌, sym, ap, arith}
use Rattle.std.proofs.lemmas.Grind.{common_steps}
use Rattle.std.proofs.Common.{inl, inr}
use Rattle.std.proofs.lemmas.Bool.{cases_lt}
use Rattle.std.proofs.lemmas.List.{get_or_append_left, get_or-append_right, get_or_past}
use Rattle.base_fields.specs.Crc.{crc32_of}
use Rattle.base_fields.specs.Fields.{byte_of, joined}
use Rattle.gpt_table.specs.Span.{bytes_at}
use Rattle.gpt_table.specs.Gpt.{back_byte, back_header, front_byte, front_header, header_byte, header_fields, header_sum}
use Rattle.gpt_table.specs.declared.table.GptSpec.{GptSpec}
use Rattle.gpt_table.specs.declared.header.GptHeader.{GptHeader}
use Rattle.base_fields.proofs.FieldRuns.{IsRun, byte_of-run, byte_of-start}
use Rattle.gpt_table.proofs.Slots.{length-guid, zeros_are_zero}
use Rattle.gpt_table.proofs.Spans.{bytes_at-is}

none_either : {n : ℕ} (b : Bool) → n ≡ 0 → (if b then n else 0) ≡ 0
none_either true none = none
none_either false none = refl

pub header_run : (h : GptHeader) (sum : ℕ) → length h.disk ≡ 16 → IsRun 0 (header_fields h sum)
header_run h sum sixteen =
    let disk = length-guid h.disk sixteen in
    (refl, (refl, (refl, (refl, (refl, (refl, (refl, (refl, (refl, (refl, (omega arith, (omega arith, (omega arith, (omega arith, tt))))))))))))))

pub length-header : (h : GptHeader) (sum : ℕ) → length h.disk ≡ 16 → length (joined (header_fields h sum)) ≡ 92
length-header h sum sixteen =
    let disk = length-guid h.disk sixteen in
    grind (arith, common_steps)

-- the byte at each offset of a header, also past its end
pub header_byte_of : (h : GptHeader) (sum o : ℕ) → length h.disk ≡ 16 → byte_of (header_fields h sum) o ≡ get_or (joined (header_fields h sum)) o 0
header_byte_of h sum o sixteen =
    byte_of-start (header_fields h sum) o (header_run h sum sixteen)

-- behind its 92 bytes a header's sector is zeros
pub header_byte-past : (h : GptHeader) (o : ℕ) → length h.disk ≡ 16 → 92 ≤ o → header_byte h o ≡ 0
unfolding header_byte
header_byte-past h o sixteen past =
    let long = length-header h (header_sum h) sixteen in
    header_byte_of h (header_sum h) o sixteen ∙ get_or_past (joined (header_fields h (header_sum h))) o 0 (omega arith)

pub front_byte-past : (spec : GptSpec) (o : ℕ) → length spec.disk ≡ 16 → 92 ≤ o → front_byte spec o ≡ 0
front_byte-past spec o sixteen past = header_byte-past (front_header spec) o sixteen past

pub back_byte-past : (spec : GptSpec) (o : ℕ) → length spec.disk ≡ 16 → 92 ≤ o → back_byte spec o ≡ 0
back_byte-past spec o sixteen past = none_either spec.backup (header_byte-past (back_header spec) o sixteen past)

-- the 92 bytes that the sum is over
pub header_bytes_at : (h : GptHeader) (sum : ℕ) → length h.disk ≡ 16 → bytes_at (byte_of (header_fields h sum)) 0 92 ≡ joined (header_fields h sum)
header_bytes_at h sum sixteen =
    bytes_at-is (byte_of (header_fields h sum)) 0 92 (joined (header_fields h sum)) (length-header h sum sixteen)
    (λ i inside. byte_of-run (header_fields h sum) 0 i (header_run h sum sixteen))

pub header_sum_is : (h : GptHeader) → length h.disk ≡ 16 → crc32_of (joined (header_fields h 0)) ≡ header_sum h
unfolding header_sum
header_sum_is h sixteen = ap crc32_of (sym (header_bytes_at h 0 sixteen))

-- zeros behind a list are what is read past its end
pub zeros_behind : (xs : List ℕ) (n o : ℕ) → get_or (xs ++ replicate n 0) o 0 ≡ get_or xs o 0
zeros_behind xs n o = elim (cases_lt o (length xs)) [
  | inl inside ↦ get_or_append_left xs (replicate n 0) 0 o inside
  | inr past ↦ get_or-append_right xs (replicate n 0) (length xs) o 0 refl past ∙ (zeros_are_zero n (o - length xs) ∙ sym (get_or_past xs o 0 past))
]

-- a header with its sum and zeros behind it has the bytes that are named
pub head_byte : (h : GptHeader) (sum n o : ℕ) (head : List ℕ) → length h.disk ≡ 16 → sum ≡ header_sum h → head ≡ joined (header_fields h sum) ++ replicate n 0 → get_or head o 0 ≡ header_byte h o
unfolding header_byte
head_byte h sum n o head sixteen right is =
    ap (λ (xs : List ℕ). get_or xs o 0) is
    ∙ zeros_behind (joined (header_fields h sum)) n o
    ∙ sym (header_byte_of h sum o sixteen)
    ∙ ap (λ (s : ℕ). byte_of (header_fields h s) o) right
