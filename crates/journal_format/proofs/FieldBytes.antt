-- The fields that tell a job, written and read.
use Rattle.std.specs.Prelude.{◌≡◌, ℕ, zero, suc, ◌+◌, ◌*◌, ◌/◌, ◌%◌, ◌^◌, ◌<◌, ◌≤◌, List, [], ◌∷◌, ◌++◌, length, take, drop, slice_index}
use Rattle.std.proofs.Common.{refl, ◌∙◌, sym, ap, arith, append_assoc, append-nil}
use Rattle.std.proofs.Math.Nat.{div-div-eq-div-mul, div-one, pow-succ'}
use Rattle.std.proofs.Math.Seq.{drop-cons}
use Rattle.std.proofs.lemmas.Grind.{common_steps}
use Rattle.std.proofs.lemmas.List.{drop-drop, drop_at, get_or-drop, length-append, length-drop, take-append-drop, take_all, take_at}
use Rattle.std.specs.Int.{byte_at, bytes_low_first}
use Rattle.byteorder.specs.Endian.{little_bytes, little_from, little_number}
use Rattle.byteorder.specs.Numbers.{little_number-reads_back}
use Rattle.base_fields.specs.Fields.{written}
use Rattle.journal_format.specs.JobFields.{FitFields, fields_of}
use Rattle.journal_format.specs.declared.jobs.JobId.{JobId}

-- ---- the bytes of a number that was read

byte_at-pow : (k x : ℕ) → byte_at k x ≡ x / 256 ^ k % 256
byte_at-pow zero x = ap (λ (y : ℕ). y % 256) (sym (div-one x))
byte_at-pow (suc k) x = refl

-- a byte above the lowest is one of what is left without that
byte_above : (k a y : ℕ) → a < 256 → byte_at (suc k) (a + 256 * y) ≡ byte_at k y
byte_above k a y small =
    let rest : (a + 256 * y) / 256 ≡ y = omega arith in
    let moved : (a + 256 * y) / 256 ^ suc k ≡ y / 256 ^ k =
    ap (λ (p : ℕ). (a + 256 * y) / p) (pow-succ' 256 k) ∙ sym (div-div-eq-div-mul (a + 256 * y) 256 (256 ^ k)) ∙ ap (λ (x : ℕ). x / 256 ^ k) rest in
    ap (λ (x : ℕ). x % 256) moved ∙ sym (byte_at-pow k y)

bytes_above : (i n a y : ℕ) → a < 256 → bytes_low_first (suc i) n (a + 256 * y) ≡ bytes_low_first i n y
bytes_above i zero a y small = refl
bytes_above i (suc n) a y small = rw (byte_above i a y small, bytes_above (suc i) n a y small) refl

bytes_back_from : (i n : ℕ) (xs : List ℕ) → ((k : ℕ) → slice_index xs k < 256) → i + n ≤ length xs → bytes_low_first 0 n (little_from i n xs) ≡ take n (drop i xs)
bytes_back_from i zero xs small within = refl
bytes_back_from i (suc n) xs small within =
    let a = slice_index xs i in
    let y = little_from (suc i) n xs in
    let lowest : (a + 256 * y) % 256 ≡ a = let low = small i in omega arith in
    let above : bytes_low_first 1 n (a + 256 * y) ≡ take n (drop (suc i) xs) = bytes_above 0 n a y (small i) ∙ bytes_back_from (suc i) n xs small (omega arith) in
    let joined : (a + 256 * y) % 256 ∷ bytes_low_first 1 n (a + 256 * y) ≡ a ∷ take n (drop (suc i) xs) = rw (lowest, above) refl in
    joined ∙ sym (ap (take (suc n)) (drop-cons xs i 0 (omega arith)))

-- the bytes of the number that stands at a place are those there
bytes_back : (n at : ℕ) (xs : List ℕ) → ((k : ℕ) → slice_index xs k < 256) → at + n ≤ length xs → little_bytes n (little_number n (drop at xs)) ≡ take n (drop at xs)
bytes_back n at xs small within =
    bytes_back_from 0 n (drop at xs) (λ k. rw (get_or-drop at xs k 0) (small (at + k))) (omega (arith, length-drop at xs))

-- a piece, and what stands behind it
piece_then : (n at : ℕ) (xs : List ℕ) → take n (drop at xs) ++ drop (at + n) xs ≡ drop at xs
piece_then n at xs = ap (λ (ys : List ℕ). take n (drop at xs) ++ ys) (sym (drop-drop n at xs)) ∙ take-append-drop n (drop at xs)

-- six pieces, one behind the other, are the whole
six_pieces : (xs digest size block unit units ranges : List ℕ) → length xs ≡ 64 → digest ≡ take 32 xs → size ≡ take 8 (drop 32 xs) → block ≡ take 4 (drop 40 xs) → unit ≡ take 4 (drop 44 xs) → units ≡ take 8 (drop 48 xs) → ranges ≡ take 8 (drop 56 xs) → digest ++ (size ++ (block ++ (unit ++ (units ++ ranges)))) ≡ xs
six_pieces xs digest size block unit units ranges long is_digest is_size is_block is_unit is_units is_ranges =
    let last : take 8 (drop 56 xs) ≡ drop 56 xs = take_all 8 (drop 56 xs) (omega (arith, length-drop 56 xs)) in
    rw (is_digest, is_size, is_block, is_unit, is_units, is_ranges, last, piece_then 8 48 xs, piece_then 4 44 xs, piece_then 4 40 xs, piece_then 8 32 xs) (piece_then 32 0 xs)

-- the job that was read tells these bytes
pub read_back : (id : JobId) (xs : List ℕ) → length xs ≡ 64 → ((k : ℕ) → slice_index xs k < 256) → id.digest ≡ take 32 xs → id.size ≡ little_number 8 (drop 32 xs) → id.block ≡ little_number 4 (drop 40 xs) → id.unit ≡ little_number 4 (drop 44 xs) → id.units ≡ little_number 8 (drop 48 xs) → id.ranges ≡ little_number 8 (drop 56 xs) → fields_of id ≡ xs
unfolding fields_of
read_back id xs long small digest size block unit units ranges =
    six_pieces xs id.digest (little_bytes 8 id.size) (little_bytes 4 id.block) (little_bytes 4 id.unit) (little_bytes 8 id.units) (little_bytes 8 id.ranges) long digest
    (ap (little_bytes 8) size ∙ bytes_back 8 32 xs small (omega arith))
    (ap (little_bytes 4) block ∙ bytes_back 4 40 xs small (omega arith))
    (ap (little_bytes 4) unit ∙ bytes_back 4 44 xs small (omega arith))
    (ap (little_bytes 8) units ∙ bytes_back 8 48 xs small (omega arith))
    (ap (little_bytes 8) ranges ∙ bytes_back 8 56 xs small (omega arith))

-- ---- fields written one after another

-- the first bytes of a room of 64 are written
pub record Front (n : ℕ) (room xs : List ℕ) : Type 0 where
  pub front : take n room ≡ xs
  pub so_far : length xs ≡ n
  pub long : length room ≡ 64

same_length : (room ys : List ℕ) (at : ℕ) → at + length ys ≤ length room → length (written room at ys) ≡ length room
same_length room ys at within = grind (arith, common_steps)

pub front_more : (at n : ℕ) (room new xs ys : List ℕ) → Front at room xs → new ≡ written room at ys → length ys ≡ n → at + n ≤ 64 → Front (at + n) new (xs ++ ys)
front_more at n room new xs ys front wrote len within =
    let so_far = front.so_far in
    let joint : length (take at room ++ ys) ≡ at + n = rw front.front (rw length-append (omega arith)) in
    let behind : new ≡ (take at room ++ ys) ++ drop (at + length ys) room = wrote in
    record {
      front = ap (take (at + n)) behind ∙ take_at (take at room ++ ys) (drop (at + length ys) room) (at + n) joint ∙ ap (λ (zs : List ℕ). zs ++ ys) front.front;
      so_far = rw length-append (omega arith);
      long =
          let long = front.long in
          let same : length (written room at ys) ≡ length room = same_length room ys at (omega arith) in
          let wide : length new ≡ length (written room at ys) = ap length wrote in
          wide ∙ same ∙ long;
    }

pub front_whole : (room xs : List ℕ) → Front 64 room xs → room ≡ xs
front_whole room xs front = sym (take_all 64 room (let long = front.long in omega arith)) ∙ front.front

-- nothing is written yet
pub front_none : (room : List ℕ) → length room ≡ 64 → Front 0 room []
front_none room long = record { front = refl; so_far = refl; long = long }

-- all fields are written
pub fields_joined : (id : JobId) → ((((([] ++ id.digest) ++ little_bytes 8 id.size) ++ little_bytes 4 id.block) ++ little_bytes 4 id.unit) ++ little_bytes 8 id.units) ++ little_bytes 8 id.ranges ≡ fields_of id
unfolding fields_of
fields_joined id = simp append_assoc

-- ---- the fields tell one job alone

-- what stands behind a piece
behind : (xs ys rest : List ℕ) (at n : ℕ) → drop at xs ≡ ys ++ rest → length ys ≡ n → drop (at + n) xs ≡ rest
behind xs ys rest at n here len = sym (drop-drop n at xs) ∙ ap (drop n) here ∙ drop_at ys rest n len

number_there : (xs rest : List ℕ) (at n x : ℕ) → x < 256 ^ n → drop at xs ≡ little_bytes n x ++ rest → little_number n (drop at xs) ≡ x
number_there xs rest at n x fits here = ap (little_number n) here ∙ little_number-reads_back n x rest fits

-- two jobs with the same fields are one
same_job : (a b : JobId) → a.digest ≡ b.digest → a.size ≡ b.size → a.block ≡ b.block → a.unit ≡ b.unit → a.units ≡ b.units → a.ranges ≡ b.ranges → a ≡ b
same_job a b digest size block unit units ranges =
    let fields : (digest' : List ℕ) (size' block' unit' units' ranges' : ℕ) → JobId = λ digest' size' block' unit' units' ranges'. record { digest = digest'; size = size'; block = block'; unit = unit'; units = units'; ranges = ranges' } in
    let e : fields a.digest a.size a.block a.unit a.units a.ranges ≡ fields b.digest b.size b.block b.unit b.units b.ranges = rw (digest, size, block, unit, units, ranges) refl in
    e

pub read_only : (id got : JobId) (xs : List ℕ) → FitFields id → length id.digest ≡ 32 → fields_of id ≡ xs → got.digest ≡ take 32 xs → got.size ≡ little_number 8 (drop 32 xs) → got.block ≡ little_number 4 (drop 40 xs) → got.unit ≡ little_number 4 (drop 44 xs) → got.units ≡ little_number 8 (drop 48 xs) → got.ranges ≡ little_number 8 (drop 56 xs) → got ≡ id
unfolding fields_of
read_only id got xs fits long same digest size block unit units ranges =
    let last : List ℕ = little_bytes 8 id.ranges ++ [] in
    let from_units = little_bytes 8 id.units ++ last in
    let from_unit = little_bytes 4 id.unit ++ from_units in
    let from_block = little_bytes 4 id.block ++ from_unit in
    let from_size = little_bytes 8 id.size ++ from_block in
    let whole : drop 0 xs ≡ id.digest ++ from_size = sym same ∙ simp append-nil in
    let at_size : drop 32 xs ≡ from_size = behind xs id.digest from_size 0 32 whole long in
    let at_block : drop 40 xs ≡ from_block = behind xs (little_bytes 8 id.size) from_block 32 8 at_size refl in
    let at_unit : drop 44 xs ≡ from_unit = behind xs (little_bytes 4 id.block) from_unit 40 4 at_block refl in
    let at_units : drop 48 xs ≡ from_units = behind xs (little_bytes 4 id.unit) from_units 44 4 at_unit refl in
    let at_ranges : drop 56 xs ≡ last = behind xs (little_bytes 8 id.units) last 48 8 at_units refl in
    let the_digest : got.digest ≡ id.digest = digest ∙ ap (take 32) whole ∙ take_at id.digest from_size 32 long in
    let the_size : got.size ≡ id.size = size ∙ number_there xs from_block 32 8 id.size (let f = fits.size in omega arith) at_size in
    let the_block : got.block ≡ id.block = block ∙ number_there xs from_unit 40 4 id.block (let f = fits.block in omega arith) at_block in
    let the_unit : got.unit ≡ id.unit = unit ∙ number_there xs from_units 44 4 id.unit (let f = fits.unit in omega arith) at_unit in
    let the_units : got.units ≡ id.units = units ∙ number_there xs last 48 8 id.units (let f = fits.units in omega arith) at_units in
    let the_ranges : got.ranges ≡ id.ranges = ranges ∙ number_there xs [] 56 8 id.ranges (let f = fits.ranges in omega arith) at_ranges in
    same_job got id the_digest the_size the_block the_unit the_units the_ranges
