-- Where the byte stands that a stop is to find in the last pending write that covers a place.
use Rattle.std.proofs.Common.{◌≡◌, ℕ, zero, suc, ◌+◌, ◌-◌, ◌<◌, ◌≤◌, List, [], ◌∷◌, All, AllPairs, IfSome, Option, None, Some, true, false, ◌&&◌, nat_le, length, take, drop, set, get_or, refl, ap, sym, ◌∙◌, arith}
use Rattle.std.proofs.lemmas.List.{get_or_default, drop-set-add, drop-set-lt, drop-take, take-set-le}
use Rattle.std.proofs.lemmas.List.Elements.{All-get_or}
use Rattle.std.proofs.lemmas.Option.{IfSome_then}
use Rattle.bench.specs.declared.Dev.{Dev}
use Rattle.bench_devices.specs.declared.record.Entry.{Entry}
use Rattle.bench_devices.specs.declared.record.Kind.{Kind}
use Rattle.bench_devices.specs.declared.record.Kind.TheVariants.{Wrote, Grew, Synced, Attached, Rested}
use Rattle.bench_devices.specs.History.{Call, Effect, effect_on}
use Rattle.bench_devices.specs.Leaving.{changes, torn_calls, torn_effect, wrote_at}
use Rattle.bench.specs.Meter.{Both, of_device}
use Rattle.bench_devices.specs.Record.{IsWithin, StandsBefore, call_of, calls_of, effect_of, put_at}
use Rattle.bench_devices.proofs.RecordLemmas.{calls_count, calls_next}

take_set : (n : ℕ) (l : List ℕ) (i a : ℕ) → take n (set l i a) ≡ set (take n l) i a
take_set zero [] i a = refl
take_set zero (x ∷ l) zero a = refl
take_set zero (x ∷ l) (suc i) a = refl
take_set (suc n) [] i a = refl
take_set (suc n) (x ∷ l) zero a = refl
take_set (suc n) (x ∷ l) (suc i) a = ap (λ (r : List ℕ). x ∷ r) (take_set n l i a)

-- other bytes that a stop finds of an entry
found_as : (bytes found other : List ℕ) (entry : Entry) → take entry.len (drop entry.from other) ≡ take entry.len (drop entry.from found) → call_of bytes other entry ≡ call_of bytes found entry
found_as bytes found other entry e = ap (λ (t : List ℕ). let call : Call = record { dev = entry.dev; effect = effect_of entry.kind entry.at (take entry.len (drop entry.from bytes)) t } in call) e

-- a byte that stands behind an entry's
call_before : (bytes found : List ℕ) (i byte : ℕ) (entry : Entry) → entry.from + entry.len ≤ i → call_of bytes (set found i byte) entry ≡ call_of bytes found entry
call_before bytes found i byte entry behind = found_as bytes found (set found i byte) entry (sym (drop-take entry.from entry.len (set found i byte)) ∙ ap (λ (l : List ℕ). drop entry.from l) (take-set-le (entry.from + entry.len) found i byte behind) ∙ drop-take entry.from entry.len found)

-- one that stands before them
call_behind : (bytes found : List ℕ) (i byte : ℕ) (entry : Entry) → i < entry.from → call_of bytes (set found i byte) entry ≡ call_of bytes found entry
call_behind bytes found i byte entry before = found_as bytes found (set found i byte) entry (ap (λ (l : List ℕ). take entry.len l) (drop-set-lt entry.from found i byte before))

effect_torn : (kind : Kind) (from at byte : ℕ) (bytes found : List ℕ) → effect_of kind from bytes (set found (at - from) byte) ≡ torn_effect (effect_of kind from bytes found) at byte
effect_torn Wrote from at byte bytes found = refl
effect_torn Grew from at byte bytes found = refl
effect_torn Synced from at byte bytes found = refl
effect_torn Attached from at byte bytes found = refl
effect_torn Rested from at byte bytes found = refl

abbrev torn_call : Call → ℕ → ℕ → Call
torn_call call at byte = record { dev = call.dev; effect = torn_effect call.effect at byte }

-- one among them
call_torn : (bytes found : List ℕ) (at byte : ℕ) (entry : Entry) → call_of bytes (set found (entry.from + (at - entry.at)) byte) entry ≡ record { dev = entry.dev; effect = torn_effect (call_of bytes found entry).effect at byte }
call_torn bytes found at byte entry =
    let p = at - entry.at in
    let there : take entry.len (drop entry.from (set found (entry.from + p) byte)) ≡ set (take entry.len (drop entry.from found)) p byte = ap (λ (l : List ℕ). take entry.len l) (drop-set-add entry.from found p byte) ∙ take_set entry.len (drop entry.from found) p byte in
    let f = λ (effect : Effect). let call : Call = record { dev = entry.dev; effect = effect } in call in
    ap (λ (t : List ℕ). f (effect_of entry.kind entry.at (take entry.len (drop entry.from bytes)) t)) there ∙ ap f (effect_torn entry.kind entry.at at byte (take entry.len (drop entry.from bytes)) (take entry.len (drop entry.from found)))

-- entries whose bytes stand before a place
calls_before : (bytes found : List ℕ) (i byte : ℕ) (entries : List Entry) (d : Entry) (k : ℕ) → k ≤ length entries → ((j : ℕ) → j < k → (get_or entries j d).from + (get_or entries j d).len ≤ i) → calls_of bytes (set found i byte) (take k entries) ≡ calls_of bytes found (take k entries)
calls_before bytes found i byte [] d zero le ends = refl
calls_before bytes found i byte (e ∷ entries) d zero le ends = refl
calls_before bytes found i byte entries d (suc k) le ends =
    let rest = calls_before bytes found i byte entries d k (omega (arith, le)) (λ j below. ends j (omega (arith, below))) in
    let one = call_before bytes found i byte (get_or entries k d) (ends k (omega arith)) in
    let new = calls_next bytes (set found i byte) entries k d (omega (arith, le)) in
    let old = calls_next bytes found entries k d (omega (arith, le)) in
    let e : suc k ≡ k + 1 = omega arith in
    rw e (new ∙ ap (λ (c : Call). c ∷ calls_of bytes (set found i byte) (take k entries)) one ∙ ap (λ (cs : List Call). call_of bytes found (get_or entries k d) ∷ cs) rest ∙ sym old)

-- a call that is, or isn't, the last pending write that covers the place
torn_here : (settled : Both ℕ) (dev : Dev) (at byte k : ℕ) (call : Call) (calls : List Call) → length calls ≡ k → (changes call.effect && nat_le (of_device call.dev settled) k) && wrote_at (effect_on call.dev dev call.effect) at ≡ true → torn_calls settled dev at byte (call ∷ calls) ≡ record { dev = call.dev; effect = torn_effect call.effect at byte } ∷ calls
torn_here settled dev at byte k call calls count is = simp (count, is) refl

torn_before : (settled : Both ℕ) (dev : Dev) (at byte k : ℕ) (call : Call) (calls : List Call) → length calls ≡ k → (changes call.effect && nat_le (of_device call.dev settled) k) && wrote_at (effect_on call.dev dev call.effect) at ≡ false → torn_calls settled dev at byte (call ∷ calls) ≡ call ∷ torn_calls settled dev at byte calls
torn_before settled dev at byte k call calls count is = simp (count, is) refl

-- where the byte is to stand after the first k entries
pub record IsPlace (settled : Both ℕ) (dev : Dev) (at : ℕ) (bytes : List ℕ) (entries : List Entry) (k : ℕ) (place : Option ℕ) : Type 0 where
  pub inside : IfSome place (λ i. i < length bytes)
  pub before : IfSome place (λ i. (j : ℕ) (d : Entry) → k ≤ j → j < length entries → i < (get_or entries j d).from)
  pub torn : (found : List ℕ) (byte : ℕ) → length found ≡ length bytes → calls_of bytes (put_at place byte found) (take k entries) ≡ torn_calls settled dev at byte (calls_of bytes found (take k entries))

-- the entry of that number is such a write
pub place_here : (settled : Both ℕ) (dev : Dev) (at : ℕ) (bytes : List ℕ) (entries : List Entry) (k : ℕ) (d : Entry) → All (IsWithin (length bytes)) entries → AllPairs StandsBefore entries → k < length entries → (get_or entries k d).at ≤ at → at < (get_or entries k d).at + (get_or entries k d).len → ((found : List ℕ) → (changes (call_of bytes found (get_or entries k d)).effect && nat_le (of_device (get_or entries k d).dev settled) k) && wrote_at (effect_on (get_or entries k d).dev dev (call_of bytes found (get_or entries k d)).effect) at ≡ true) → IsPlace settled dev at bytes entries (k + 1) (Some ((get_or entries k d).from + (at - (get_or entries k d).at)))
place_here settled dev at bytes entries k d within apart below from_on up_to is =
    let e = get_or entries k d in
    let i = e.from + (at - e.at) in
    let fits : e.from + e.len ≤ length bytes = All-get_or (IsWithin (length bytes)) entries k d below within in
    let short : i < e.from + e.len = omega (arith, from_on, up_to) in
    record {
      inside = omega (arith, fits, short);
      before = λ j d' later there. let after = apart k j d' (omega (arith, later)) there in let same : get_or entries k d' ≡ e = get_or_default entries k d' d below in omega (arith, short, after, ap (λ (x : Entry). x.from) same, ap (λ (x : Entry). x.len) same);
      torn = λ found byte long.
          let rest = calls_before bytes found i byte entries d k (omega (arith, below)) (λ j less. let ends = apart j k d less below in omega (arith, ends)) in
          let next = calls_next bytes (set found i byte) entries k d below in
          let old = calls_next bytes found entries k d below in
          let count = calls_count bytes found entries k (omega (arith, below)) in
          let torn = torn_here settled dev at byte k (call_of bytes found e) (calls_of bytes found (take k entries)) count (is found) in
          next ∙ ap (λ (c : Call). c ∷ calls_of bytes (set found i byte) (take k entries)) (call_torn bytes found at byte e) ∙ ap (λ (cs : List Call). torn_call (call_of bytes found e) at byte ∷ cs) rest ∙ sym torn ∙ ap (λ (cs : List Call). torn_calls settled dev at byte cs) (sym old);
    }

call_put : (bytes found : List ℕ) (place : Option ℕ) (byte : ℕ) (entry : Entry) → IfSome place (λ i. i < entry.from) → call_of bytes (put_at place byte found) entry ≡ call_of bytes found entry
call_put bytes found None byte entry before = refl
call_put bytes found (Some i) byte entry before = call_behind bytes found i byte entry before

-- it isn't
pub place_not_here : (settled : Both ℕ) (dev : Dev) (at : ℕ) (bytes : List ℕ) (entries : List Entry) (k : ℕ) (d : Entry) (place : Option ℕ) → k < length entries → IsPlace settled dev at bytes entries k place → ((found : List ℕ) → (changes (call_of bytes found (get_or entries k d)).effect && nat_le (of_device (get_or entries k d).dev settled) k) && wrote_at (effect_on (get_or entries k d).dev dev (call_of bytes found (get_or entries k d)).effect) at ≡ false) → IsPlace settled dev at bytes entries (k + 1) place
place_not_here settled dev at bytes entries k d place below was is =
    let e = get_or entries k d in
    record {
      inside = was.inside;
      before = IfSome_then place was.before (λ i before j d' later there. before j d' (omega (arith, later)) there);
      torn = λ found byte long.
          let next = calls_next bytes (put_at place byte found) entries k d below in
          let old = calls_next bytes found entries k d below in
          let one = call_put bytes found place byte e (IfSome_then place was.before (λ i before. before k d (omega arith) below)) in
          let count = calls_count bytes found entries k (omega (arith, below)) in
          let not_torn = torn_before settled dev at byte k (call_of bytes found e) (calls_of bytes found (take k entries)) count (is found) in
          next ∙ ap (λ (c : Call). c ∷ calls_of bytes (put_at place byte found) (take k entries)) one ∙ ap (λ (cs : List Call). call_of bytes found e ∷ cs) (was.torn found byte long) ∙ sym not_torn ∙ ap (λ (cs : List Call). torn_calls settled dev at byte cs) (sym old);
    }
