-- What holds of a partition that has none of its faults.
use Rattle.std.specs.Prelude.{◌≡◌, ℕ, ◌+◌, ◌-◌, ◌/◌, ◌%◌, ◌<◌, ◌≤◌, Bool, true, false, ◌&&◌, ◌==◌, not, nat_lt, IsTrue, Option, Some, None, IfSome, option_map}
use Rattle.std.proofs.Common.{refl, arith}
use Rattle.std.proofs.lemmas.Bool.{eqb-false, eqb-true, ltb-false, not-false}
use Rattle.base_fields.specs.Results.{provided}
use Rattle.placement_rules.specs.Bounds.{IsNarrowPlace, place_fault}
use Rattle.placement_rules.specs.Faults.{◌or◌, above, below, misaligned, most_bytes, off_multiple, where_so}
use Rattle.placement_rules.specs.declared.faults.PartFault.{PartFault}
use Rattle.placement_rules.specs.declared.faults.PartFault.TheVariants.{Misaligned}
use Rattle.placement_rules.specs.declared.terms.Frame.{Frame}
use Rattle.placement_rules.specs.declared.terms.Place.{Place}
use Rattle.placement_rules.specs.declared.terms.Terms.{Terms}

-- ---- options

pub neither : {X : Type 0} (a b : Option X) → (a or b) ≡ None → (a ≡ None) × (b ≡ None)
neither None b h = (refl, h)
neither (Some x) b h = (h, absurd (cc))

passed : {X : Type 0} (b : Bool) (x : X) → provided b x ≡ None → b ≡ false
passed false x h = refl
passed true x h = absurd (cc)

unmapped : {X Y : Type 0} (f : X → Y) (o : Option X) → option_map f o ≡ None → o ≡ None
unmapped f None h = refl
unmapped f (Some x) h = absurd (cc)

where_none : {X : Type 0} (b : Bool) (o : Option X) → where_so b o ≡ None → IsTrue b → o ≡ None
where_none true o h is = h
where_none false o h is = absurd (cc)

not_above : (limit n : ℕ) → above limit n ≡ None → n ≤ limit
not_above limit n h = ltb-false limit n (passed (nat_lt limit n) _ h)

-- ---- aligns

whole : (o : Option ℕ) (to : ℕ) → off_multiple o to ≡ None → IfSome o (λ n. n % to ≡ 0)
whole None to h = tt
whole (Some n) to h = eqb-true (n % to) 0 (not-false (n % to == 0) (passed (not (n % to == 0)) n h))

not_below : (o : Option ℕ) (least : ℕ) → below o least ≡ None → IfSome o (λ n. least ≤ n)
not_below None least h = tt
not_below (Some n) least h = ltb-false n least (passed (nat_lt n least) n h)

pub record AreAligned (frame : Frame) (t : Terms) : Type 0 where
  pub offset : IfSome t.offset (λ n. n % t.align ≡ 0)
  pub logical : IsTrue t.logical → IfSome t.offset (λ n. t.align ≤ n)
  pub align : IsTrue t.tabled → t.align % frame.sector ≡ 0
  pub size : IsTrue t.tabled → IfSome t.size (λ n. n % frame.sector ≡ 0)

abbrev refused : ℕ → Option ℕ → Option PartFault
refused align o = option_map (λ n. Misaligned n align) o

pub aligned : (frame : Frame) (t : Terms) → misaligned frame t ≡ None → AreAligned frame t
aligned frame t none =
    let offset = off_multiple t.offset t.align in
    let low = where_so t.logical (below t.offset t.align) in
    let align = where_so t.tabled (off_multiple (Some t.align) frame.sector) in
    let size = where_so t.tabled (off_multiple t.size frame.sector) in
    let last = refused frame.sector align or refused frame.sector size in
    let one = neither (refused t.align offset) (refused t.align low or last) none in
    let two = neither (refused t.align low) last one.1 in
    let three = neither (refused frame.sector align) (refused frame.sector size) two.1 in
    record {
      offset = whole t.offset t.align (unmapped (λ n. Misaligned n t.align) offset one.0);
      logical = λ is. not_below t.offset t.align (where_none t.logical (below t.offset t.align) (unmapped (λ n. Misaligned n t.align) low two.0) is);
      align = λ is. whole (Some t.align) frame.sector (where_none t.tabled (off_multiple (Some t.align) frame.sector) (unmapped (λ n. Misaligned n frame.sector) align three.0) is);
      size = λ is. whole t.size frame.sector (where_none t.tabled (off_multiple t.size frame.sector) (unmapped (λ n. Misaligned n frame.sector) size three.1) is);
    }

-- ---- sizes and limits

some_size : (tabled : Bool) (size : ℕ) → (tabled && size == 0) ≡ false → IsTrue tabled → 0 < size
some_size true size h is =
    let nonzero : size ≡ 0 → ⊥ = eqb-false size 0 h in
    omega arith
some_size false size h is = absurd (cc)

pub record IsWithinLimits (t : Terms) (p : Place) : Type 0 where
  pub end : p.at + p.size ≤ most_bytes
  pub len : t.len ≤ p.size
  pub some : IsTrue t.tabled → 0 < p.size
  pub narrow : IsTrue t.narrow → IsNarrowPlace p

pub within_limits : (t : Terms) (p : Place) → place_fault t p ≡ None → IsWithinLimits t p
within_limits t p none =
    let one = neither _ _ none in
    let two = neither _ _ one.1 in
    let three = neither _ _ two.1 in
    let four = neither _ _ three.1 in
    let five = neither _ _ four.1 in
    record {
      end = not_above most_bytes (p.at + p.size) five.0;
      len = ltb-false p.size t.len (passed _ _ two.0);
      some = some_size t.tabled p.size (passed _ _ three.0);
      narrow = λ is.
          let both = neither _ _ (where_none t.narrow _ five.1 is) in
          record {
            last = not_above _ ((p.at + p.size) / 512 - 1) both.0;
            count = not_above _ (p.size / 512) both.1;
          };
    }
