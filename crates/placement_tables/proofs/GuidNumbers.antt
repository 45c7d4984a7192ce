-- The numbers of a GUID partition table, of an image of n bytes in sectors of z whose entries begin at a byte.
use Rattle.std.specs.Prelude.{◌≡◌, ◌≢◌, ℕ, ◌+◌, ◌-◌, ◌*◌, ◌/◌, ◌%◌, ◌^◌, ◌<◌, ◌≤◌, ◌⊎◌, max, Bool, true, false, if◌then◌else◌}
use Rattle.std.proofs.Common.{arith, inl, inr, refl, subst, sym}

pub record HasRoomFor (z at n : ℕ) (backup : Bool) : Type 0 where
  pub even_at : at % z ≡ 0
  pub even : n % z ≡ 0
  pub behind : 2 * z ≤ at
  pub most : n ≤ 2 ^ 43
  pub front : max (2 * z) (at + 16384) ≤ n
  pub back : backup ≡ true → max (2 * z) (at + 16384) + (z + 16384) ≤ n

pub record AreNumbers (z at n : ℕ) (backup : Bool) : Type 0 where
  pub least : (if backup then 2 + 16384 / z else 1) ≤ n / z
  pub last : n / z - 1 < 2 ^ 64
  pub entries_at : at / z < 2 ^ 64
  pub has_entries : at / z ≢ 0
  pub usable : max (2 * z) (at / z * z + 16384) / z < 2 ^ 64
  pub front : 2 ≤ at / z
  pub back : backup ≡ true → at / z + 16384 / z ≤ n / z - 1 - 16384 / z
  pub room : max (2 * z) (at / z * z + 16384) ≤ n / z * z
  pub size : n / z * z ≡ n
  pub front_end : max (2 * z) (at / z * z + 16384) ≡ max (2 * z) (at + 16384)

either : (test : Bool) (x y n : ℕ) → (test ≡ true → x ≤ n) → y ≤ n → (if test then x else y) ≤ n
either true x y n h g = h refl
either false x y n h g = g

small : (at n : ℕ) (backup : Bool) → HasRoomFor 512 at n backup → AreNumbers 512 at n backup
small at n backup h =
    let front = h.front in
    record {
      least = either backup (2 + 16384 / 512) 1 (n / 512) (λ is. let back = h.back is in omega arith) (omega arith);
      last = omega arith;
      entries_at = omega arith;
      has_entries = omega arith;
      usable = omega arith;
      front = omega arith;
      back = λ is. let back = h.back is in omega arith;
      room = omega arith;
      size = omega arith;
      front_end = omega arith;
    }

large : (at n : ℕ) (backup : Bool) → HasRoomFor 4096 at n backup → AreNumbers 4096 at n backup
large at n backup h =
    let front = h.front in
    record {
      least = either backup (2 + 16384 / 4096) 1 (n / 4096) (λ is. let back = h.back is in omega arith) (omega arith);
      last = omega arith;
      entries_at = omega arith;
      has_entries = omega arith;
      usable = omega arith;
      front = omega arith;
      back = λ is. let back = h.back is in omega arith;
      room = omega arith;
      size = omega arith;
      front_end = omega arith;
    }

pub guid_numbers :
    (z at n : ℕ) (backup : Bool) → (z ≡ 512) ⊎ (z ≡ 4096) → HasRoomFor z at n backup → AreNumbers z at n backup
guid_numbers z at n backup (inl e) h =
    subst (λ (s : ℕ). HasRoomFor s at n backup → AreNumbers s at n backup) (sym e) (small at n backup) h
guid_numbers z at n backup (inr e) h =
    subst (λ (s : ℕ). HasRoomFor s at n backup → AreNumbers s at n backup) (sym e) (large at n backup) h
