-- What a lease that is out stays through the calls on its pool, for a caller that holds several.
use Rattle.std.proofs.Common.{◌≡◌, ◌≢◌, ◌<◌, ℕ, zero, suc, Bool, true, false, List, [], ◌∷◌, length, get_or, set, ◌∙◌, sym, subst, length-set, get_or-set_other, get_or-set_same, take_at, drop, arith}
use Rattle.region_pool.specs.Buffers.{Buffers, Held, IsFree, IsLeaseOf, taken, given, with_bytes, bytes_at}

still_out : (xs : List Bool) (i k : ℕ) → get_or xs i false ≡ true → get_or (set xs k true) i false ≡ true
still_out [] i k h = cc
still_out (x ∷ xs) zero zero h = cc
still_out (x ∷ xs) zero (suc k) h = h
still_out (x ∷ xs) (suc i) zero h = h
still_out (x ∷ xs) (suc i) (suc k) h = still_out xs i k h

differ : (xs : List Bool) (i k : ℕ) → get_or xs i false ≡ true → get_or xs k true ≡ false → i ≢ k
differ [] i k h f e = cc
differ (x ∷ xs) zero zero h f e = cc
differ (x ∷ xs) zero (suc k) h f e = absurd (omega arith)
differ (x ∷ xs) (suc i) zero h f e = absurd (omega arith)
differ (x ∷ xs) (suc i) (suc k) h f e = differ xs i k h f (omega arith)

-- another buffer is taken: the lease stays one of the pool, and the two have different slots
pub still_leased : (l : Held) (p : Buffers) (slot : ℕ) → IsLeaseOf l p → IsLeaseOf l (taken p slot)
still_leased l p slot h = record { tag = h.tag; there = h.there; out = still_out p.out l.slot slot h.out }

pub apart : (l : Held) (p : Buffers) (slot : ℕ) → IsLeaseOf l p → IsFree p slot → l.slot ≢ slot
apart l p slot h f = differ p.out l.slot slot h.out f.free

pub apart_from : (l : Held) (p : Buffers) (slot : ℕ) → IsLeaseOf l p → IsFree p slot → slot ≢ l.slot
apart_from l p slot h f e = apart l p slot h f (sym e)

-- another buffer is given back
pub still_leased_on : (l : Held) (p : Buffers) (slot : ℕ) → IsLeaseOf l p → l.slot ≢ slot → IsLeaseOf l (given p slot)
still_leased_on l p slot h d = record { tag = h.tag; there = h.there; out = get_or-set_other p.out slot l.slot false false d ∙ h.out }

-- any buffer is written: a lease stays one, and the bytes of the other slots stay
pub leased_after : (l : Held) (p : Buffers) (slot : ℕ) (bytes : List ℕ) → IsLeaseOf l p → IsLeaseOf l (with_bytes p slot bytes)
leased_after l p slot bytes h = record { tag = h.tag; there = subst (λ (n : ℕ). l.slot < n) (sym (length-set p.slots slot _)) h.there; out = h.out }

pub other_bytes : (l : Held) (p : Buffers) (slot : ℕ) (bytes : List ℕ) → l.slot ≢ slot → bytes_at (with_bytes p slot bytes) l.slot ≡ bytes_at p l.slot
other_bytes l p slot bytes d = get_or-set_other p.slots slot l.slot _ [] d

-- a buffer that is written in full holds what was written
pub own_bytes : (l : Held) (p : Buffers) (bytes : List ℕ) → IsLeaseOf l p → length bytes ≡ p.size → bytes_at (with_bytes p l.slot bytes) l.slot ≡ bytes
own_bytes l p bytes h long =
    get_or-set_same p.slots l.slot _ [] h.there ∙ take_at bytes (drop (length bytes) (bytes_at p l.slot)) p.size long

-- for the goals of a caller that holds several leases
pub ruleset leases = (still_leased, still_leased_on, leased_after, apart, apart_from, own_bytes, other_bytes)
