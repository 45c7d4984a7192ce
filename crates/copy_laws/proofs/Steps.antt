-- What a step that is Ok keeps of the copier's way.
use Rattle.std.proofs.Common.{◌≡◌, ℕ, ◌+◌, ◌<◌, ◌≤◌, List, [], ◌∷◌, get_or, inl, inr, sym, subst, ⊎_elim, ◌∙◌, arith, length-append}
use Rattle.std.proofs.lemmas.Bool.{cases_eq}
use Rattle.std.proofs.lemmas.Grind.{get_or_default_zero}
use Rattle.std.proofs.lemmas.List.Elements.{All-contains, All-nil, Contains-append_left, Contains-append_right, Contains-push_cases}
use Rattle.std.specs.Prelude.{All, Contains, Option, None, Some, IfSome}
use Rattle.base_fields.specs.declared.spans.Span.{Span}
use Rattle.block_map.specs.declared.maps.BlockMap.{BlockMap}
use Rattle.journal_format.specs.declared.jobs.JobId.{JobId}
use Rattle.copy_states.specs.Along.{Along, Position}
use Rattle.copy_states.specs.Jobs.{HasFrom, IsInRange, IsJobOf, IsUnitAt, SameIn}
use Rattle.copy_states.specs.Narrow.{ReadsAsAtStart}
use Rattle.copy_states.specs.Starts.{IsIdle, Pair}
use Rattle.copy_laws.specs.Steps.{ClosedIsAlong, KeptIsAlong, TakenIsAlong, joined_window}
use Rattle.copy_laws.specs.Writes.{UnitsTorn}
use Rattle.copy_laws.proofs.Events.{recording_changes}
use Rattle.copy_laws.proofs.Marks.{MarkChange, checked_after, checked_before, contains_or_not, recorded_after, recorded_before}
use Rattle.copy_laws.proofs.UnitBytes.{other_unit}

-- what holds of each member holds of all
all_of : (P : ℕ → Type 0) (ks : List ℕ) → ((k : ℕ) → Contains ks k → P k) → All P ks
all_of P ks f i d below = f (get_or ks i d) (i, below, get_or_default_zero ks i (get_or ks i d) below ∙ sym (get_or_default_zero ks i d below))

-- a unit that is open, of a window
is_open : (id : JobId) (m : BlockMap) (source : Option (List ℕ)) (start : Pair) (w : ℕ) (p : Position) (t j : List ℕ) (k : ℕ) → Along id m source start w p t j → Contains p.window k → IsIdle id m start k × (k < p.unit) × IsInRange id m k p.range
is_open id m source start w p t j k along among = All-contains (λ x. IsIdle id m start x × (x < p.unit) × IsInRange id m x p.range) p.window k along.window among

-- ---- a kept unit
kept_copied : (id : JobId) (m : BlockMap) (source : Option (List ℕ)) (start : Pair) (n : ℕ) (t : List ℕ) → (¬ IsIdle id m start n) → IfSome source (λ s. (k : ℕ) (u : Span) → IsIdle id m start k → k < n → IsUnitAt id m k u → HasFrom u s t) → IfSome source (λ s. (k : ℕ) (u : Span) → IsIdle id m start k → k < n + 1 → IsUnitAt id m k u → HasFrom u s t)
kept_copied id m None start n t busy copied = tt
kept_copied id m (Some s) start n t busy copied = λ k u idle less is. copied k u idle (earlier id m start n k busy idle less) is
  where
    earlier : (id : JobId) (m : BlockMap) (start : Pair) (n k : ℕ) → (¬ IsIdle id m start n) → IsIdle id m start k → k < n + 1 → k < n
    earlier id m start n k busy idle less = elim (cases_eq k n) [
      | inl same ↦ absurd (busy (subst (λ (x : ℕ). IsIdle id m start x) same idle))
      | inr other ↦ omega (arith, other)
    ]

pub kept_is_along : KeptIsAlong
kept_is_along id m source start w p t j along busy =
    let earlier : (k : ℕ) → IsIdle id m start k → k < p.unit + 1 → k < p.unit = λ k idle less. elim (cases_eq k p.unit) [
      | inl same ↦ absurd (busy (subst (λ (x : ℕ). IsIdle id m start x) same idle))
      | inr other ↦ omega (arith, other)
    ] in
    record {
      few = along.few;
      window = all_of (λ x. IsIdle id m start x × (x < p.unit + 1) × IsInRange id m x p.range) p.window (λ k among. let it = is_open id m source start w p t j k along among in (it.0, omega (arith, it.1), it.2));
      last = λ k o among less idle passed. along.last k o among less idle (earlier k idle passed);
      recorded = λ k idle less. along.recorded k idle (earlier k idle less);
      copied = kept_copied id m source start p.unit t busy along.copied;
      unrecorded = λ k idle past. along.unrecorded k idle (omega arith);
      unwritten = λ k idle past. along.unwritten k idle (omega arith);
      others = along.others;
      kept = along.kept;
      before = along.before;
      behind = along.behind;
    }

-- ---- a written unit
only : (n k : ℕ) → Contains (n ∷ []) k → n ≡ k
only n k among = ⊎_elim (λ none. absurd (omega (arith, none.1))) (λ same. same) (Contains-push_cases [] n k among)

written_copied : (id : JobId) (m : BlockMap) (source : Option (List ℕ)) (start : Pair) (n : ℕ) (t t_new : List ℕ) → IsJobOf id m → UnitsTorn id m (n ∷ []) t t_new → IfSome source (λ s. (u : Span) → IsUnitAt id m n u → HasFrom u s t_new) → IfSome source (λ s. (k : ℕ) (u : Span) → IsIdle id m start k → k < n → IsUnitAt id m k u → HasFrom u s t) → IfSome source (λ s. (k : ℕ) (u : Span) → IsIdle id m start k → k < n + 1 → IsUnitAt id m k u → HasFrom u s t_new)
written_copied id m None start n t t_new job torn new copied = tt
written_copied id m (Some s) start n t t_new job torn new copied =
    λ k u idle less is. elim (cases_eq k n) [
      | inl same ↦ new u (subst (λ (x : ℕ). IsUnitAt id m x u) same is)
      | inr other ↦
          let from : HasFrom u s t = copied k u idle (omega (arith, other)) is in
          let kept : SameIn u t t_new = other_unit id m (n ∷ []) k u t t_new job torn is (λ among. other (sym (only n k among))) in
          record { there = from.there; same = kept ∙ from.same }
    ]

-- a unit that isn't the written one reads as at the start, if it did
reads_on : (id : JobId) (m : BlockMap) (start : Pair) (n k : ℕ) (t t_new : List ℕ) → IsJobOf id m → UnitsTorn id m (n ∷ []) t t_new → (n ≡ k → ⊥) → ReadsAsAtStart id m start t k → ReadsAsAtStart id m start t_new k
reads_on id m start n k t t_new job torn other reads u is =
    other_unit id m (n ∷ []) k u t t_new job torn is (λ among. other (only n k among)) ∙ reads u is

pub taken_is_along : TakenIsAlong
taken_is_along id m source start w p t t_new j job along room written = record {
  few = omega (arith, length-append p.window (p.unit ∷ []));
  window = all_of (λ x. IsIdle id m start x × (x < p.unit + 1) × IsInRange id m x p.range) (joined_window p) (λ k among. elim (Contains-push_cases p.window p.unit k among) [
    | inl there ↦ let it = is_open id m source start w p t j k along there in (it.0, omega (arith, it.1), it.2)
    | inr same ↦ (subst (λ (x : ℕ). IsIdle id m start x) same written.idle, omega (arith, same), subst (λ (x : ℕ). IsInRange id m x p.range) same written.mine)
  ]);
  last = λ k o among less idle passed. elim (cases_eq p.unit k) [
    | inl same ↦ Contains-append_right p.window (p.unit ∷ []) k (0, omega arith, same)
    | inr other ↦ elim (Contains-push_cases p.window p.unit o among) [
      | inl there ↦ Contains-append_left p.window (p.unit ∷ []) k (along.last k o there less idle (omega (arith, other)))
      | inr same ↦ absurd (omega (arith, same))
    ]
  ];
  recorded = λ k idle less. elim (cases_eq p.unit k) [
    | inl same ↦ inr (Contains-append_right p.window (p.unit ∷ []) k (0, omega arith, same))
    | inr other ↦ ⊎_elim (λ is. inl is) (λ there. inr (Contains-append_left p.window (p.unit ∷ []) k there)) (along.recorded k idle (omega (arith, other)))
  ];
  copied = written_copied id m source start p.unit t t_new job written.torn written.copied along.copied;
  unrecorded = λ k idle past. along.unrecorded k idle (omega arith);
  unwritten = λ k idle past. reads_on id m start p.unit k t t_new job written.torn (λ same. omega (arith, same)) (along.unwritten k idle (omega arith));
  others = λ k below busy. reads_on id m start p.unit k t t_new job written.torn (λ same. busy (subst (λ (x : ℕ). IsIdle id m start x) same written.idle)) (along.others k below busy);
  kept = along.kept;
  before = along.before;
  behind = along.behind;
}

pub closed_is_along : ClosedIsAlong
closed_is_along id m source start w p t t_new j j_new job along written torn marked =
    let ks : List ℕ = joined_window p in
    let idle_of : (k : ℕ) → Contains ks k → IsIdle id m start k × (k < p.unit + 1) = λ k among. elim (Contains-push_cases p.window p.unit k among) [
      | inl there ↦ let it = is_open id m source start w p t j k along there in (it.0, omega (arith, it.1))
      | inr same ↦ (subst (λ (x : ℕ). IsIdle id m start x) same written.idle, omega (arith, same))
    ] in
    let change : MarkChange id (λ k. Contains ks k) (λ r. ⊥) j j_new = recording_changes id ks j j_new torn (λ k among. (idle_of k among).0.there) in
    let later : (k : ℕ) → p.unit + 1 ≤ k → ¬ Contains ks k = λ k past among. absurd (omega (arith, (idle_of k among).1)) in
    record {
      few = omega (arith, along.few);
      window = All-nil _;
      last = λ k o among less idle passed. absurd (omega (arith, among.1));
      recorded = λ k idle less. elim (cases_eq p.unit k) [
        | inl same ↦ inl (marked k (Contains-append_right p.window (p.unit ∷ []) k (0, omega arith, same)))
        | inr other ↦ elim (along.recorded k idle (omega (arith, other))) [
          | inr there ↦ inl (marked k (Contains-append_left p.window (p.unit ∷ []) k there))
          | inl is ↦ elim (contains_or_not ks k) [
            | inl among ↦ inl (marked k among)
            | inr out ↦ inl (recorded_after id (λ x. Contains ks x) (λ r. ⊥) j j_new change k idle.there out is)
          ]
        ]
      ];
      copied = written_copied id m source start p.unit t t_new job written.torn written.copied along.copied;
      unrecorded = λ k idle past recorded. along.unrecorded k idle (omega arith) (recorded_before id (λ x. Contains ks x) (λ r. ⊥) j j_new change k idle.there (later k past) recorded);
      unwritten = λ k idle past. reads_on id m start p.unit k t t_new job written.torn (λ same. omega (arith, same)) (along.unwritten k idle (omega arith));
      others = λ k below busy. reads_on id m start p.unit k t t_new job written.torn (λ same. busy (subst (λ (x : ℕ). IsIdle id m start x) same written.idle)) (along.others k below busy);
      kept = λ k below recorded. recorded_after id (λ x. Contains ks x) (λ r. ⊥) j j_new change k below (λ among. (idle_of k among).0.unrecorded recorded) (along.kept k below recorded);
      before = λ r less below. checked_after id (λ x. Contains ks x) (λ x. ⊥) j j_new change r below (λ never. never) (along.before r less below);
      behind = λ r more below. (
        λ checked. (along.behind r more below).0 (checked_before id (λ x. Contains ks x) (λ x. ⊥) j j_new change r below (λ never. never) checked),
        λ checked. checked_after id (λ x. Contains ks x) (λ x. ⊥) j j_new change r below (λ never. never) ((along.behind r more below).1 checked),
      );
    }
