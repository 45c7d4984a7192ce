-- Digests as hexadecimal digits, and the digest of a text.
use Rattle.std.proofs.Common.{◌≡◌, ℕ, zero, suc, ◌*◌, ◌<◌, ◌≢◌, ◌==◌, Bool, true, false, List, [], ◌∷◌, ◌++◌}
use Rattle.std.proofs.Common.{length, slice_index, Some, IsOk, refl, ap, sym, ◌∙◌, arith, true≢false, ne_eqb, w32}
use Rattle.std.specs.Int.{bytes_high_first, byte_at, to_be_bytes}
use Rattle.std.specs.List.{AllByRecursion, AllPass}
use Rattle.std.specs.Result.{result_ok}
use Rattle.hex.proofs.HexLemmas.{IsOk-decode_sized, decode_sized-encode_lower}
use Rattle.hex.specs.Hex.{IsBytes, decode_sized, encode_lower, is_hex_digit}
use Rattle.sha2.proofs.Facts256.{length-sha256}
use Rattle.sha2.specs.Sha256.{digest_bytes, final_hash, initial_hash_256, sha256}
use Rattle.bmap_grammar.specs.Text.{digest_of}
use Rattle.bmap_laws.specs.Digests.{IsDigest}
use Rattle.bmap_laws.proofs.Bytes.{Pass, is_plain, other, pass_from_all}

-- ---- a digest's digits are read as it

pub digest_read : (digest : List ℕ) → IsDigest digest → digest_of (encode_lower digest) ≡ Some digest
digest_read digest h = ap result_ok (decode_sized-encode_lower digest 32 h.0 h.1)

-- a byte that is no digit is none of them
hex_not : (b other : ℕ) → is_hex_digit other ≡ false → is_hex_digit b ≡ true → b ≢ other
hex_not b other none h e = true≢false (sym h ∙ (ap is_hex_digit e ∙ none))

hex_plain : (b : ℕ) → is_hex_digit b ≡ true → is_plain b ≡ true
hex_plain b h =
    rw (
      ne_eqb b 32 (hex_not b 32 refl h),
      ne_eqb b 9 (hex_not b 9 refl h),
      ne_eqb b 10 (hex_not b 10 refl h),
      ne_eqb b 13 (hex_not b 13 refl h),
      ne_eqb b 60 (hex_not b 60 refl h),
    ) refl

abbrev pub is_double : ℕ → Bool
is_double b = b == 34

hex_unquoted : (b : ℕ) → is_hex_digit b ≡ true → other is_double b ≡ true
hex_unquoted b h = rw (ne_eqb b 34 (hex_not b 34 refl h)) refl

all_digits : (digest : List ℕ) → IsDigest digest →
    (length (encode_lower digest) ≡ 2 * 32) × AllPass is_hex_digit (encode_lower digest)
all_digits digest h =
    let read = decode_sized-encode_lower digest 32 h.0 h.1 in
    let is : IsOk (decode_sized (encode_lower digest) 32) = rw read refl in
    (IsOk-decode_sized (encode_lower digest) 32).0 is

pub digest_long : (digest : List ℕ) → IsDigest digest → length (encode_lower digest) ≡ 64
digest_long digest h = (all_digits digest h).0

pub digest_plain : (digest : List ℕ) → IsDigest digest → Pass is_plain (encode_lower digest)
digest_plain digest h = pass_from_all is_plain is_hex_digit (encode_lower digest) hex_plain (all_digits digest h).1

pub digest_unquoted : (digest : List ℕ) → IsDigest digest → Pass (other is_double) (encode_lower digest)
digest_unquoted digest h =
    pass_from_all (other is_double) is_hex_digit (encode_lower digest) hex_unquoted (all_digits digest h).1

-- ---- SHA-256 gives one

abbrev Small : List ℕ → Type 0
Small bytes = AllByRecursion (λ b. b < 256) bytes

small_both : (front back : List ℕ) → Small front → Small back → Small (front ++ back)
small_both [] back f b = b
small_both (x ∷ front) back f b = (f.0, small_both front back f.1 b)

byte_small : (k n : ℕ) → byte_at k n < 256
byte_small zero n = omega arith
byte_small (suc k) n = omega arith

high_small : (k n : ℕ) → Small (bytes_high_first k n)
high_small zero n = tt
high_small (suc k) n = (byte_small k n, high_small k n)

words_small : (words : List ℕ) (n : ℕ) → Small (digest_bytes words n)
unfolding digest_bytes
words_small words zero = tt
words_small words (suc n) =
    small_both (digest_bytes words n) (to_be_bytes w32 (slice_index words n)) (words_small words n) (high_small 4 _)

small_bytes : (bytes : List ℕ) → Small bytes → IsBytes bytes
small_bytes [] h i = omega arith
small_bytes (b ∷ bytes) h zero = h.0
small_bytes (b ∷ bytes) h (suc i) = small_bytes bytes h.1 i

sum_small : (text : List ℕ) → Small (sha256 text)
unfolding sha256
sum_small text = words_small (final_hash initial_hash_256 text) 8

pub sum_is_digest : (text : List ℕ) → IsDigest (sha256 text)
sum_is_digest text = (length-sha256 text, small_bytes (sha256 text) (sum_small text))
