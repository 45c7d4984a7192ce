-- Each stage, of what it says of the pairs since it began.
use Rattle.std.proofs.Common.{◌≡◌, ℕ, ◌<◌, List, [], ◌∷◌, Contains, Option, inl, inr, refl, sym, subst, ⊎_elim, ◌∙◌, arith}
use Rattle.std.proofs.lemmas.Grind.{same_number_lists}
use Rattle.std.proofs.lemmas.List.Elements.{Contains-append_left, Contains-push_cases}
use Rattle.bench.specs.declared.Dev.TheVariants.{Target, Journal}
use Rattle.bench.specs.Disk.{Disk, EachPair, IsPair, Looked, Torn, TornAt, Touches}
use Rattle.bench.proofs.DiskLemmas.{journal_steps, looked_runs, runs_since, runs_so, target_steps, torn_at_none, torn_at_so, torn_at_then, torn_within}
use Rattle.block_map.specs.Units.{first_of, units_by_range}
use Rattle.block_map.specs.declared.maps.BlockMap.{BlockMap}
use Rattle.journal_format.specs.Journals.{range_mark, unit_mark}
use Rattle.journal_format.specs.declared.jobs.JobId.{JobId}
use Rattle.copy_states.specs.Along.{Along, Position}
use Rattle.copy_states.specs.Jobs.{IsJobOf}
use Rattle.copy_states.specs.Starts.{IsIdle, Pair}
use Rattle.copy_laws.specs.Marks.{MarksTorn, RangeMarkTorn, RowTorn}
use Rattle.copy_laws.specs.Narrowing.{IsNear}
use Rattle.copy_laws.specs.Steps.{joined_window}
use Rattle.copy_laws.specs.Writes.{IsByteIn, UnitTorn, UnitsTorn}
use Rattle.copy_laws.proofs.Nearness.{check_is_near, clear_is_near, units_are_near}
use Rattle.copy_laws.proofs.Ranges.{end_has_mixed}
use Rattle.copy_laws.proofs.Writes.{one_unit_torn}
use Rattle.copy_stages.specs.Stages.{AreBytesOf, Closes, IsClosingPair}
use Rattle.copy_narrow.specs.Nearness.{AllSinceAreNear, CheckingIsNear, ClearingIsNear, ClosingIsNear, EmptyWindowIsSettled, EndGivesMixed, IsOpenAlong, LookingIsNear, OpenIsWindow, SettledIsWindow, WindowIsOpen, WindowTakesUnit, WritingIsNear, WritingStaysOpen}

-- ---- the journal alone
pub checking_is_near : {id : JobId} {r : ℕ} {a b : Disk} → Touches Journal (range_mark id r) 1 a b → CheckingIsNear id r a b
checking_is_near {id} {r} {a} {b} touches m source s start w p job way present below =
    journal_steps touches (λ t j new pair torn.
    let from_reads : Torn (range_mark id r) 1 (a.reads Journal) new = subst (λ (x : List ℕ). Torn (range_mark id r) 1 x new) (way.journal j pair.1) torn in
    let mark : RangeMarkTorn id p.range (a.reads Journal) new = subst (λ (n : ℕ). Torn (range_mark id n) 1 (a.reads Journal) new) (sym present) from_reads in
    let there : p.range < id.ranges = omega (arith, below, present) in
    let near : IsNear id m s start w (a.reads Target) new = check_is_near id m source s start w p (a.reads Target) (a.reads Journal) new job way.along way.position there mark in
    subst (λ (x : List ℕ). IsNear id m s start w x new) (sym (way.target t pair.0)) near)

pub clearing_is_near : {id : JobId} {first count : ℕ} {a b : Disk} → Touches Journal (unit_mark first) count a b → ClearingIsNear id first count a b
clearing_is_near {id} {first} {count} {a} {b} touches m source s start w p want got job way units mixed differs =
    journal_steps touches (λ t j new pair torn.
    let from_reads : Torn (unit_mark first) count (a.reads Journal) new = subst (λ (x : List ℕ). Torn (unit_mark first) count x new) (way.journal j pair.1) torn in
    let row : RowTorn id m p.range (a.reads Journal) new = torn_within (unit_mark (first_of (units_by_range m id.unit) p.range)) _ from_reads (omega (arith, units.from)) (omega (arith, units.to)) in
    let near : IsNear id m s start w (a.reads Target) new = clear_is_near id m source s start w p want got (a.reads Target) (a.reads Journal) new job way.along way.position units.there mixed differs row in
    subst (λ (x : List ℕ). IsNear id m s start w x new) (sym (way.target t pair.0)) near)

-- ---- what may be open
-- each pair is near before a stage
pub open_is_near : {id : JobId} {m : BlockMap} {source : Option (List ℕ)} {start : Pair} {w : ℕ} {p : Position} {units t : List ℕ} {a : Disk} (s : List ℕ) → IsJobOf id m → IsOpenAlong id m source start w p units t a → EachPair a (IsNear id m s start w)
open_is_near {id} {m} {source} {start} {w} {p} {units} {t} {a} s job way image j pair =
    units_are_near id m source s start w p units units t (a.reads Journal) image j job way.along way.may_be way.may_be (way.images image pair.0)
    (subst (λ (x : List ℕ). MarksTorn units (a.reads Journal) x) (sym (way.journal j pair.1)) (torn_at_none _ (a.reads Journal)))

pub looking_is_near : {a b : Disk} → Looked a b → LookingIsNear a b
looking_is_near {a} {b} looked id m source s start w p units t job way = looked_runs looked (open_is_near s job way)

-- ---- marks behind the target's bytes
pub closing_is_near : {id : JobId} {ks : List ℕ} {a b : Disk} → Closes ks a b → ClosingIsNear id ks a b
closing_is_near {id} {ks} {a} {b} closes m source s start w p units t job way are_marked = runs_so closes.pairs by_pair
  where
    by_pair : (image j : List ℕ) → IsClosingPair ks a image j → IsNear id m s start w image j
    by_pair image j (inl pair) = open_is_near s job way image j pair
    by_pair image j (inr (is, (was, (leaves, torn)))) =
        let bytes : UnitsTorn id m units t image = subst (λ (x : List ℕ). UnitsTorn id m units t x) (sym is) way.reads in
        let marks : MarksTorn ks (a.reads Journal) j = subst (λ (x : List ℕ). MarksTorn ks x j) (way.journal was leaves) torn in
        units_are_near id m source s start w p units ks t (a.reads Journal) image j job way.along way.may_be are_marked bytes marks

-- ---- a unit's bytes
-- bytes of an open unit, behind others
written_more : (id : JobId) (m : BlockMap) (units : List ℕ) (k at n : ℕ) (t old new : List ℕ) → Contains units k → AreBytesOf id m k at n → UnitsTorn id m units t old → Torn at n old new → UnitsTorn id m units t new
written_more id m units k at n t old new among bytes before torn =
    let unit : UnitTorn id m k old new = record { span = bytes.span; is = bytes.is; torn = torn_within bytes.span.at bytes.span.len torn bytes.from bytes.to } in
    torn_at_then before (one_unit_torn id m units k old new among unit)

pub writing_is_near : {at n : ℕ} {a b : Disk} → Touches Target at n a b → WritingIsNear at n a b
writing_is_near {at} {n} {a} {b} touches id m source s start w p units t k job way among bytes =
    target_steps touches (λ old new j pair torn.
    units_are_near id m source s start w p units units t (a.reads Journal) new j job way.along way.may_be way.may_be
    (written_more id m units k at n t old new among bytes (way.images old pair.0) torn)
    (subst (λ (x : List ℕ). MarksTorn units (a.reads Journal) x) (sym (way.journal j pair.1)) (torn_at_none _ (a.reads Journal))))

pub writing_stays_open : {at n : ℕ} {a b : Disk} → Touches Target at n a b → WritingStaysOpen at n a b
writing_stays_open {at} {n} {a} {b} touches id m source start w p units t k job way among bytes = record {
  along = subst (λ (j : List ℕ). Along id m source start w p t j) (sym touches.changes.other_reads) way.along;
  may_be = way.may_be;
  reads = written_more id m units k at n t (a.reads Target) (b.reads Target) among bytes way.reads touches.reads;
  images = λ image leaves.
      let (old, (was, torn)) = touches.changes.images image leaves in
      written_more id m units k at n t old image among bytes (way.images old was) torn;
  journal = λ j leaves. way.journal j (touches.changes.other_images j leaves) ∙ sym touches.changes.other_reads;
}

-- ---- a window
pub window_is_open : (a : Disk) → WindowIsOpen a
window_is_open a id m source start w p way = record {
  along = way.along;
  may_be = λ k among. inl among;
  reads = torn_at_none _ (a.reads Target);
  images = way.images;
  journal = way.journal;
}

-- a byte of these units is one of more
more_units : (id : JobId) (m : BlockMap) (units more : List ℕ) → ((k : ℕ) → Contains units k → Contains more k) → (o : ℕ) → IsByteIn id m units o → IsByteIn id m more o
more_units id m units more each o byte = (byte.0, byte.1, each byte.0 byte.2, byte.3, byte.4)

pub window_takes_unit : (a : Disk) → WindowTakesUnit a
window_takes_unit a id m source start w p way idle = record {
  along = way.along;
  may_be = λ k among. ⊎_elim (λ there. inl there) (λ same. inr (sym same, subst (λ (n : ℕ). IsIdle id m start n) same idle)) (Contains-push_cases p.window p.unit k among);
  reads = torn_at_none _ (a.reads Target);
  images = λ image leaves. torn_at_so (way.images image leaves) (more_units id m p.window (joined_window p) (λ k among. Contains-append_left p.window (p.unit ∷ []) k among));
  journal = way.journal;
}

-- where no unit is torn, nothing is
none_torn : (id : JobId) (m : BlockMap) (units t new : List ℕ) → units ≡ [] → UnitsTorn id m units t new → new ≡ t
none_torn id m units t new none torn =
    same_number_lists new t torn.size (λ o below. torn.same o (λ byte. absurd (no_member (byte.0) (subst (λ (ks : List ℕ). Contains ks byte.0) none byte.2))))
  where
    no_member : (k : ℕ) → Contains [] k → ⊥
    no_member k c = absurd (omega (arith, c.1))

pub empty_window_is_settled : (a : Disk) → EmptyWindowIsSettled a
empty_window_is_settled a id m source start w p way position none = record {
  along = way.along;
  position = position;
  target = λ image leaves. none_torn id m p.window (a.reads Target) image none (way.images image leaves);
  journal = way.journal;
}

-- two images that are torn from one are torn from each other
torn_each : {places : ℕ → Type 0} {t a b : List ℕ} → TornAt places t a → TornAt places t b → TornAt places a b
torn_each {places} {t} {a} {b} first second = record {
  size = second.size ∙ sym first.size;
  same = λ k none. second.same k none ∙ sym (first.same k none);
}

pub open_is_window : (a : Disk) → OpenIsWindow a
open_is_window a id m source start w p next units t way along each = record {
  along = along;
  images = λ image leaves. torn_at_so (torn_each way.reads (way.images image leaves)) (more_units id m units next.window each);
  journal = way.journal;
}

pub settled_is_window : (a : Disk) → SettledIsWindow a
settled_is_window a id m source start w p along target journal = record {
  along = along;
  images = λ image leaves. subst (λ (x : List ℕ). UnitsTorn id m p.window (a.reads Target) x) (sym (target image leaves)) (torn_at_none _ (a.reads Target));
  journal = journal;
}

pub all_since_are_near : {a b : Disk} → ((t j : List ℕ) → a.left a.moment t j → IsPair a t j) → AllSinceAreNear a b
all_since_are_near {a} {b} only id m source s start w p units t job way stays = runs_since only (open_is_near s job way) stays

pub end_gives_mixed : EndGivesMixed
end_gives_mixed id m s start w p t j want range job long along position end is stated = record {
  range = range;
  image = t;
  is = is;
  stated = stated;
  mixed = end_has_mixed id m s start w p t j job long along position end;
  computed = refl;
}
