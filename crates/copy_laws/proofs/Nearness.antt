-- From Along to Narrow and Keeps.
use Rattle.std.proofs.Common.{◌≡◌, ◌⊎◌, ℕ, ◌+◌, ◌<◌, ◌≤◌, List, [], ◌∷◌, length, get_or, zero, suc, inl, inr, refl, sym, subst, ⊎_elim, ◌∙◌, arith}
use Rattle.std.proofs.lemmas.Bool.{cases_eq, cases_lt}
use Rattle.std.proofs.lemmas.List.Elements.{All-contains}
use Rattle.std.specs.Prelude.{Contains, Option}
use Rattle.base_fields.specs.declared.spans.Span.{Span}
use Rattle.block_map.specs.Units.{first_of, units_by_range}
use Rattle.block_map.specs.declared.maps.BlockMap.{BlockMap}
use Rattle.block_map.proofs.Index.{first_rises, one_range}
use Rattle.journal_format.specs.declared.jobs.JobId.{JobId}
use Rattle.copy_states.specs.Along.{Along, Position}
use Rattle.copy_states.specs.Jobs.{IsChecked, IsInRange, IsRecorded}
use Rattle.copy_states.specs.Narrow.{IsInRangeThatDiffers, IsInStep, Narrow, ReadsAsAtStart}
use Rattle.copy_states.specs.Starts.{IsIdle, Pair}
use Rattle.copy_laws.specs.Narrowing.{AreOpen, CheckIsNear, ClearIsNear, UnitsAreNear}
use Rattle.copy_laws.proofs.Events.{checking_changes, clearing_changes, in_range_or_not, recording_changes}
use Rattle.copy_laws.proofs.Marks.{MarkChange, checked_after, recorded_after}
use Rattle.copy_laws.proofs.UnitBytes.{other_unit, rows_length}

-- the least of a list and a number
record IsLeast (ks : List ℕ) (p n : ℕ) : Type 0 where
  most : n ≤ p
  least : (k : ℕ) → Contains ks k → n ≤ k
  is : (n ≡ p) ⊎ Contains ks n

contains_tail : (y : ℕ) (ks : List ℕ) (k : ℕ) → Contains ks k → Contains (y ∷ ks) k
contains_tail y ks k c = (suc c.0, omega (arith, c.1), c.2)

contains_cases : (y : ℕ) (ks : List ℕ) (k : ℕ) → Contains (y ∷ ks) k → (y ≡ k) ⊎ Contains ks k
contains_cases y ks k c = by_place y ks k c.0 c.1 c.2
  where
    by_place : (y : ℕ) (ks : List ℕ) (k i : ℕ) → i < length (y ∷ ks) → get_or (y ∷ ks) i k ≡ k → (y ≡ k) ⊎ Contains ks k
    by_place y ks k zero below is = inl is
    by_place y ks k (suc i) below is = inr (i, omega arith, is)

least_of : (ks : List ℕ) (p : ℕ) → (n : ℕ) × IsLeast ks p n
least_of [] p = (p, record { most = omega arith; least = λ k c. absurd (omega (arith, c.1)); is = inl refl })
least_of (y ∷ ks) p =
    let rest : (n : ℕ) × IsLeast ks p n = least_of ks p in
    let n : ℕ = rest.0 in
    elim (cases_lt y n) [
      | inl less ↦ (
        y,
        record {
          most = omega (arith, rest.1.most);
          least = λ k c. ⊎_elim (λ same. omega (arith, same)) (λ there. omega (arith, rest.1.least k there)) (contains_cases y ks k c);
          is = inr (0, omega arith, refl);
        },
      )
      | inr more ↦ (
        n,
        record {
          most = rest.1.most;
          least = λ k c. ⊎_elim (λ same. omega (arith, same)) (λ there. rest.1.least k there) (contains_cases y ks k c);
          is = ⊎_elim (λ e. inl e) (λ there. inr (contains_tail y ks n there)) rest.1.is;
        },
      )
    ]

-- an open unit is idle, and no later than the present one
record IsReached (id : JobId) (m : BlockMap) (start : Pair) (p : Position) (k : ℕ) : Type 0 where
  idle : IsIdle id m start k
  most : k ≤ p.unit
  in_reach : Contains (p.unit ∷ p.window) k

reached : (id : JobId) (m : BlockMap) (source : Option (List ℕ)) (start : Pair) (w : ℕ) (p : Position) (ks t j : List ℕ) (k : ℕ) → Along id m source start w p t j → AreOpen id m start p ks → Contains ks k → IsReached id m start p k
reached id m source start w p ks t j k along are among =
    elim (are k among) [
      | inl there ↦
          let it = All-contains (λ x. IsIdle id m start x × (x < p.unit) × IsInRange id m x p.range) p.window k along.window there in
          record { idle = it.0; most = omega (arith, it.1); in_reach = contains_tail p.unit p.window k there }
      | inr present ↦ record { idle = present.1; most = omega (arith, present.0); in_reach = (0, omega arith, sym present.0) }
    ]

-- what was checked at the start is checked
pub checked_kept : (id : JobId) (m : BlockMap) (source : Option (List ℕ)) (start : Pair) (w : ℕ) (p : Position) (t j : List ℕ) → Along id m source start w p t j → (r : ℕ) → r < id.ranges → IsChecked id r start.journal → IsChecked id r j
checked_kept id m source start w p t j along r below checked =
    elim (cases_lt r p.range) [
      | inl less ↦ along.before r less below
      | inr more ↦ (along.behind r more below).1 checked
    ]

-- ---- (a)
-- a position is in step, where what is recorded before its least open unit still is, and what isn't reached reads the same
module _ (id : JobId) (m : BlockMap) (source : Option (List ℕ)) (start : Pair) (w : ℕ) (p : Position) (t j t_new j_new : List ℕ) (along : Along id m source start w p t j) (bytes : (k : ℕ) → (¬ (IsIdle id m start k × (k ≤ p.unit))) → ReadsAsAtStart id m start t k → ReadsAsAtStart id m start t_new k) (marks : (k : ℕ) → k < id.units → (¬ Contains (p.unit ∷ p.window) k) → IsRecorded id k j → IsRecorded id k j_new) where
  pub in_step : IsInStep id m start w t_new j_new
  in_step =
      let least : (n : ℕ) × IsLeast p.window p.unit n = least_of p.window p.unit in
      let from : ℕ = least.0 in
      record {
        from = from;
        to = p.unit + 1;
        window = p.unit ∷ p.window;
        few = omega (arith, along.few);
        between = λ k idle low high. elim (cases_eq p.unit k) [
          | inl present ↦ (0, omega arith, present)
          | inr other ↦
              let passed : k < p.unit = omega (arith, other) in
              elim least.1.is [
                | inl end ↦ absurd (omega (arith, end))
                | inr first ↦ elim (cases_eq from k) [
                  | inl same ↦ contains_tail p.unit p.window k (subst (λ (n : ℕ). Contains p.window n) same first)
                  | inr later ↦ contains_tail p.unit p.window k (along.last k from first (omega (arith, later)) idle passed)
                ]
              ]
        ];
        before = λ k idle less.
            let passed : k < p.unit = omega (arith, least.1.most) in
            let out : ¬ Contains p.window k = λ there. absurd (omega (arith, least.1.least k there)) in
            let out' : ¬ Contains (p.unit ∷ p.window) k = λ there. ⊎_elim (λ same. absurd (omega (arith, same))) out (contains_cases p.unit p.window k there) in
            marks k idle.there out' (⊎_elim (λ is. is) (λ there. absurd (out there)) (along.recorded k idle passed));
        behind = λ k idle past. bytes k (λ both. absurd (omega (arith, both.1))) (along.unwritten k idle (omega arith));
      }

  pub narrow_in_step : (s : List ℕ) → Narrow id m s start w t_new j_new
  narrow_in_step s = record {
    others = λ k below busy. bytes k (λ both. busy both.0) (along.others k below busy);
    place = inl in_step;
  }

pub units_are_near : UnitsAreNear
units_are_near id m source s start w p written marked t j t_new j_new job along are_written are_marked torn_t torn_j =
    let below : (k : ℕ) → Contains marked k → k < id.units = λ k among. (reached id m source start w p marked t j k along are_marked among).idle.there in
    let change : MarkChange id (λ k. Contains marked k) (λ r. ⊥) j j_new = recording_changes id marked j j_new torn_j below in
    let bytes : (k : ℕ) → (¬ (IsIdle id m start k × (k ≤ p.unit))) → ReadsAsAtStart id m start t k → ReadsAsAtStart id m start t_new k = λ k out same u is.
    other_unit id m written k u t t_new job torn_t is (λ among. let it = reached id m source start w p written t j k along are_written among in out (it.idle, it.most)) ∙ same u is in
    let marks : (k : ℕ) → k < id.units → (¬ Contains (p.unit ∷ p.window) k) → IsRecorded id k j → IsRecorded id k j_new = λ k in_units out recorded.
    recorded_after id (λ x. Contains marked x) (λ r. ⊥) j j_new change k in_units (λ among. out (reached id m source start w p marked t j k along are_marked among).in_reach) recorded in
    record {
      narrow = narrow_in_step id m source start w p t j t_new j_new along bytes marks s;
      keeps = record {
        units = λ k in_units recorded. inl (recorded_after id (λ x. Contains marked x) (λ r. ⊥) j j_new change k in_units (λ among. (reached id m source start w p marked t j k along are_marked among).idle.unrecorded recorded) (along.kept k in_units recorded));
        ranges = λ r in_ranges checked. checked_after id (λ x. Contains marked x) (λ x. ⊥) j j_new change r in_ranges (λ never. never) (checked_kept id m source start w p t j along r in_ranges checked);
      };
    }

pub check_is_near : CheckIsNear
check_is_near id m source s start w p t j j_new job along position there torn =
    let change : MarkChange id (λ k. ⊥) (λ x. x ≡ p.range) j j_new = checking_changes id p.range j j_new torn in
    record {
      narrow = narrow_in_step id m source start w p t j t j_new along (λ k out same. same) (λ k in_units out recorded. recorded_after id (λ x. ⊥) (λ x. x ≡ p.range) j j_new change k in_units (λ never. never) recorded) s;
      keeps = record {
        units = λ k in_units recorded. inl (recorded_after id (λ x. ⊥) (λ x. x ≡ p.range) j j_new change k in_units (λ never. never) (along.kept k in_units recorded));
        ranges = λ r in_ranges checked.
            let still : IsChecked id r j = checked_kept id m source start w p t j along r in_ranges checked in
            checked_after id (λ x. ⊥) (λ x. x ≡ p.range) j j_new change r in_ranges (λ same. position.present.unchecked there (subst (λ (n : ℕ). IsChecked id n j) same still)) still;
      };
    }

-- ---- (b)
pub clear_is_near : ClearIsNear
clear_is_near id m source s start w p want got t j j_new job along position there mixed differs torn =
    let rows : List (List Span) = units_by_range m id.unit in
    let change : MarkChange id (λ k. IsInRange id m k p.range) (λ x. ⊥) j j_new = clearing_changes id m p.range j j_new job torn there in
    let in_rows : p.range < length rows = omega (arith, job.ranges, rows_length id m) in
    let case_b : IsInRangeThatDiffers id m s start p.range t j_new = record {
      want = want;
      got = got;
      mixed = mixed;
      differs = differs;
      before = λ k x idle mine less.
          let other : ¬ IsInRange id m k p.range = λ also. absurd (omega (arith, less, one_range rows k x p.range mine also)) in
          let rise : first_of rows (x + 1) ≤ first_of rows p.range = first_rises rows (x + 1) p.range (omega arith) in
          let passed : k < p.unit = omega (arith, mine.to, position.low) in
          let out : ¬ Contains p.window k = λ among. other (All-contains (λ n. IsIdle id m start n × (n < p.unit) × IsInRange id m n p.range) p.window k along.window among).2 in
          let recorded : IsRecorded id k j = ⊎_elim (λ is. is) (λ among. absurd (out among)) (along.recorded k idle passed) in
          recorded_after id (λ n. IsInRange id m n p.range) (λ n. ⊥) j j_new change k idle.there other recorded;
      behind = λ k x idle mine more.
          let rise : first_of rows (p.range + 1) ≤ first_of rows x = first_rises rows (p.range + 1) x (omega arith) in
          along.unwritten k idle (omega (arith, mine.from, position.high there));
    } in
    record {
      narrow = record { others = along.others; place = inr (p.range, case_b) };
      keeps = record {
        units = λ k in_units recorded. elim (in_range_or_not id m p.range k in_rows) [
          | inl mine ↦ inr (p.range, mine, case_b)
          | inr other ↦ inl (recorded_after id (λ n. IsInRange id m n p.range) (λ n. ⊥) j j_new change k in_units other (along.kept k in_units recorded))
        ];
        ranges = λ r in_ranges checked. checked_after id (λ n. IsInRange id m n p.range) (λ n. ⊥) j j_new change r in_ranges (λ never. never) (checked_kept id m source start w p t j along r in_ranges checked);
      };
    }
