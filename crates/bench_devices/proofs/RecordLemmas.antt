-- Calls that are recorded one behind the other.
use Rattle.std.proofs.Common.{◌≡◌, ℕ, zero, suc, ◌+◌, ◌<◌, ◌≤◌, List, [], ◌∷◌, ◌++◌, All, AllPairs, length, map, reverse, take, drop, get_or, refl, ap, sym, ◌∙◌, arith}
use Rattle.std.proofs.lemmas.Grind.{common_steps}
use Rattle.std.proofs.lemmas.List.{take-append-le, drop-append-le, drop_at, take_all, take_more, map-append, reverse-append}
use Rattle.std.proofs.lemmas.List.Elements.{All-get_or, All-head, All-tail}
use Rattle.std.proofs.lemmas.List.Quantifiers.{all_pairs_push}
use Rattle.bench_devices.specs.declared.record.Entry.{Entry}
use Rattle.base_fields.specs.Fields.{written}
use Rattle.bench_devices.specs.History.{over}
use Rattle.bench_devices.proofs.HistoryLemmas.{over_written}
use Rattle.bench_devices.specs.Record.{effect_of, call_of, calls_of, IsWithin, StandsBefore}

-- bytes within a text, of which more stand behind
slice_same : (text more : List ℕ) (from len : ℕ) → from + len ≤ length text → take len (drop from (text ++ more)) ≡ take len (drop from text)
slice_same text more from len within =
    let front : from ≤ length text = omega arith in
    let rest = drop-append-le from text more front in
    let left : len ≤ length (drop from text) = search (arith, common_steps) in
    let same = take-append-le len (drop from text) more left in
    cc

-- so a call that was recorded is the same
call_same : (bytes found more : List ℕ) (entry : Entry) → length found ≡ length bytes → IsWithin (length bytes) entry → call_of (bytes ++ more) (found ++ more) entry ≡ call_of bytes found entry
call_same bytes found more entry long within =
    let one = slice_same bytes more entry.from entry.len within in
    let two = slice_same found more entry.from entry.len (omega (arith, within, long)) in
    cc

calls_same : (bytes found more : List ℕ) (entries : List Entry) → length found ≡ length bytes → All (IsWithin (length bytes)) entries → map (call_of (bytes ++ more) (found ++ more)) entries ≡ map (call_of bytes found) entries
calls_same bytes found more [] long within = refl
calls_same bytes found more (entry ∷ entries) long within =
    let one = call_same bytes found more entry long (All-head (IsWithin (length bytes)) entry entries within) in
    let rest = calls_same bytes found more entries long (All-tail (IsWithin (length bytes)) entry entries within) in
    cc

-- the bytes behind a text
behind : (text more : List ℕ) → take (length more) (drop (length text) (text ++ more)) ≡ more
behind text more = let rest = drop_at text more (length text) refl in let whole = take_all (length more) more (omega arith) in cc

-- one more entry, whose bytes stand behind
pub calls_more : (bytes found more : List ℕ) (entries : List Entry) (entry : Entry) → length found ≡ length bytes → All (IsWithin (length bytes)) entries → entry.from ≡ length bytes → entry.len ≡ length more → calls_of (bytes ++ more) (found ++ more) (entries ++ entry ∷ []) ≡ record { dev = entry.dev; effect = effect_of entry.kind entry.at more more } ∷ calls_of bytes found entries
calls_more bytes found more entries entry long within from len =
    let f = call_of (bytes ++ more) (found ++ more) in
    let cut : map f (entries ++ entry ∷ []) ≡ map f entries ++ f entry ∷ [] = map-append f entries (entry ∷ []) in
    let turned : reverse (map f entries ++ f entry ∷ []) ≡ f entry ∷ reverse (map f entries) = reverse-append (map f entries) (f entry ∷ []) in
    let same = calls_same bytes found more entries long within in
    let one : take entry.len (drop entry.from (bytes ++ more)) ≡ more = rw (from, len) (behind bytes more) in
    let two : take entry.len (drop entry.from (found ++ more)) ≡ more = rw (from, len, ← long) (behind found more) in
    cc

-- the calls up to a number, and the next
pub calls_next : (bytes found : List ℕ) (entries : List Entry) (k : ℕ) (entry : Entry) → k < length entries → calls_of bytes found (take (k + 1) entries) ≡ call_of bytes found (get_or entries k entry) ∷ calls_of bytes found (take k entries)
calls_next bytes found entries k entry inside =
    let f = call_of bytes found in
    let cut = take_more entries k entry inside in
    let one : map f (take k entries ++ get_or entries k entry ∷ []) ≡ map f (take k entries) ++ f (get_or entries k entry) ∷ [] = map-append f (take k entries) (get_or entries k entry ∷ []) in
    let turned : reverse (map f (take k entries) ++ f (get_or entries k entry) ∷ []) ≡ f (get_or entries k entry) ∷ reverse (map f (take k entries)) = reverse-append (map f (take k entries)) (f (get_or entries k entry) ∷ []) in
    cc

-- all of them
pub calls_all : (bytes found : List ℕ) (entries : List Entry) (k : ℕ) → length entries ≤ k → calls_of bytes found (take k entries) ≡ calls_of bytes found entries
calls_all bytes found entries k past = ap (λ (es : List Entry). calls_of bytes found es) (take_all k entries past)

-- how many they are
pub calls_count : (bytes found : List ℕ) (entries : List Entry) (k : ℕ) → k ≤ length entries → length (calls_of bytes found (take k entries)) ≡ k
calls_count bytes found entries k within = search (arith, common_steps)

-- bytes that reach the end, and all bytes
pub over_take : (old : List ℕ) (at : ℕ) (bytes : List ℕ) (n : ℕ) → length old ≤ at + n → over old at (take n bytes) ≡ over old at bytes
over_take [] at bytes n past = refl
over_take (x ∷ old) (suc at) bytes n past = ap (λ (l : List ℕ). x ∷ l) (over_take old at bytes n (omega arith))
over_take (x ∷ old) zero [] zero past = refl
over_take (x ∷ old) zero [] (suc n) past = refl
over_take (x ∷ old) zero (b ∷ bytes) zero past = absurd (omega arith)
over_take (x ∷ old) zero (b ∷ bytes) (suc n) past = ap (λ (l : List ℕ). b ∷ l) (over_take old zero bytes n (omega arith))

-- bytes past the end
pub over_past : (old : List ℕ) (at : ℕ) (bytes : List ℕ) → length old ≤ at → over old at bytes ≡ old
over_past [] at bytes past = refl
over_past (x ∷ old) (suc at) bytes past = ap (λ (l : List ℕ). x ∷ l) (over_past old at bytes (omega arith))
over_past (x ∷ old) zero bytes past = absurd (omega arith)

-- bytes over others, of which those past the end are left out
pub over_cut : (old : List ℕ) (at n : ℕ) (bytes : List ℕ) → at + n ≡ length old → n ≤ length bytes → written old at (take n bytes) ≡ over old at bytes
over_cut old at n bytes whole few =
    let size : length (take n bytes) ≡ n = search (arith, common_steps) in
    let inside = over_written old at (take n bytes) (omega (arith, size, whole)) in
    let same = over_take old at bytes n (omega (arith, whole)) in
    sym inside ∙ same

-- bytes over others, all of them inside
pub over_inside : (old : List ℕ) (at : ℕ) (bytes : List ℕ) → at + length bytes ≤ length old → written old at bytes ≡ over old at bytes
over_inside old at bytes inside = sym (over_written old at bytes inside)

-- an entry behind those whose bytes all stand before its own
pub apart_more : (entries : List Entry) (entry : Entry) (size : ℕ) → AllPairs StandsBefore entries → All (IsWithin size) entries → entry.from ≡ size → AllPairs StandsBefore (entries ++ entry ∷ [])
apart_more entries entry size apart within from = all_pairs_push StandsBefore entries entry apart (λ k d below. let e = All-get_or (IsWithin size) entries k d below within in omega (arith, e, from))
