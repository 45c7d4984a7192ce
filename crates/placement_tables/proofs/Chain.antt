-- The boot records of an image that is placed rise, each behind the end of the logical partition before.
use Rattle.std.specs.Prelude.{◌≡◌, ℕ, zero, suc, ◌+◌, ◌*◌, ◌/◌, ◌%◌, ◌^◌, ◌<◌, ◌≤◌, Bool, true, false, not, ◌&&◌, ◌||◌, nat_lt, if◌then◌else◌, List, [], ◌∷◌, ◌++◌, Option, Some, None, length, option_map, unwrap_or}
use Rattle.std.specs.List.{AllByRecursion, AllZip}
use Rattle.std.specs.Option.{option_or}
use Rattle.base_fields.specs.Results.{provided}
use Rattle.base_fields.specs.declared.spans.TableKind.TheVariants as table
use Rattle.std.proofs.Common.{refl, ap, subst, add-one, arith, inl, inr, lit<, ◌∙◌}
use Rattle.std.proofs.lemmas.Bool.{and_from, both_ways, cases_lt, ltb-false, or_parts, or_right}
use Rattle.conf_keys.specs.declared.conf.PartitionSection.{PartitionSection}
use Rattle.extended_chain.specs.Chain.{Ascends, logical_of, start_of}
use Rattle.extended_chain.specs.ChainReading.{LogicalFits}
use Rattle.extended_chain.specs.Extended.{greatest_end}
use Rattle.extended_chain.specs.declared.chain.LogicalSpec.{LogicalSpec}
use Rattle.image_specs.specs.declared.specs.ImageSpec.{ImageSpec}
use Rattle.mbr_table.specs.Mbr.{HasLast}
use Rattle.mbr_table.specs.Reading.{EntryFits}
use Rattle.placement.specs.Layouts.{extended_entries, logical_specs}
use Rattle.placement.specs.Said.{extended_start, logical_ends}
use Rattle.placement_rules.specs.Claims.{claims, in_record, in_run, meets, occupies, reach}
use Rattle.placement_rules.specs.Faults.{clashes, first_clash, has_logical, met}
use Rattle.placement_rules.specs.Frames.{frame_as}
use Rattle.placement_rules.specs.Places.{Stood, end_of, greatest}
use Rattle.placement_rules.specs.declared.faults.Meeting.TheVariants as meeting
use Rattle.table_entries.proofs.Fits.{logical_spec_fits}
use Rattle.table_entries.specs.Entries.{logical_spec_of}
use Rattle.placement_tables.proofs.Recorded.{IsHeaded, IsRecorded, recorded}
use Rattle.placement_tables.proofs.Refusals.{mapped_none, none_below, or_none, provided_none}
use Rattle.placement_tables.proofs.Sound.{IsSound, Stand}

-- ---- what no rule refuses of a record

record IsFree (done : List Stood) (s : Stood) : Type 0 where
  mbr : meets s (in_run 440 72) ≡ false
  earlier : first_clash s done ≡ None

is_free :
    (spec : ImageSpec) (done : List Stood) (s : Stood) → met (frame_as spec table.Mbr) done s ≡ None → IsFree done s
is_free spec done s h =
    let both =
    or_none (provided (meets s (in_run 440 72)) meeting.Mbr)
    (option_map (λ k. meeting.Earlier k) (first_clash s done)) h in
    record { mbr = provided_none _ _ both.0; earlier = mapped_none _ _ both.1 }

-- a record stands behind the master boot record
behind_first :
    (s : Stood) (head : ℕ) → s.place.head ≡ Some head → head % 512 ≡ 0 → meets s (in_run 440 72) ≡ false → 512 ≤ head
behind_first s head there even free =
    elim (cases_lt head 512) [
      | inl small ↦
          let none : head ≡ 0 = omega arith in
          let covered : in_record s.place.head 440 ≡ true = rw (there, none) refl in
          let here = none_below (reach s) (λ o. occupies s o && in_run 440 72 o) free 440 (omega arith) in
          let both : (occupies s 440 && in_run 440 72 440) ≡ true =
          and_from (occupies s 440) (in_run 440 72 440)
          (or_right (claims s 440) (in_record s.place.head 440) covered) refl in
          absurd (both_ways (occupies s 440 && in_run 440 72 440) here both)
      | inr large ↦ large
    ]

-- the end of the last logical one of these, and `from` where there is none
abbrev pub last_end : ℕ → List Stood → ℕ
last_end from [] = from
last_end from (s ∷ ss) = last_end (if s.terms.logical then end_of s else from) ss

last_end_push :
    (from : ℕ) (ss : List Stood) (s : Stood)
    → last_end from (ss ++ s ∷ []) ≡ (if s.terms.logical then end_of s else last_end from ss)
last_end_push from [] s = refl
last_end_push from (t ∷ ss) s = last_end_push (if t.terms.logical then end_of t else from) ss s

no_clash :
    {A : Type 0} (test : Bool) (x : A) (rest : Option A) → (if test then Some x else rest) ≡ None
    → (test ≡ false) × (rest ≡ None)
no_clash true x rest h = absurd (cc)
no_clash false x rest h = (refl, h)

led_behind :
    (logical between : Bool) (head end from : ℕ) → (logical && not between && nat_lt head end) ≡ false
    → ((logical || between) ≡ false → from ≤ head) → between ≡ false → (if logical then end else from) ≤ head
led_behind true true head end from h g is = absurd (cc)
led_behind true false head end from h g is = ltb-false head end h
led_behind false between head end from h g is = g is

record_behind :
    (s : Stood) (head from : ℕ) (done : List Stood) → s.terms.logical ≡ true → s.place.head ≡ Some head
    → first_clash s done ≡ None → (has_logical done ≡ false → from ≤ head) → last_end from done ≤ head
record_behind s head from [] logical there free first = first refl
record_behind s head from (earlier ∷ between) logical there free first =
    let both = no_clash (clashes s earlier between) 0 (option_map suc (first_clash s between)) free in
    let apart = or_parts (meets s (occupies earlier)) _ both.0 in
    let led : (earlier.terms.logical && not (has_logical between) && nat_lt head (end_of earlier)) ≡ false =
    rw (logical, there) at apart.1 in
    record_behind s head (if earlier.terms.logical then end_of earlier else from) between logical there
    (mapped_none _ _ both.1)
    (led_behind earlier.terms.logical (has_logical between) head (end_of earlier) from led first)

-- ---- records that rise

pub record IsRising (from : ℕ) (s : LogicalSpec) : Type 0 where
  pub behind : from ≤ s.head
  pub ahead : s.head < s.first
  pub far : s.first + s.count ≤ 2 ^ 32
  pub fits : LogicalFits s

abbrev pub Rise : ℕ → List LogicalSpec → Type 0
Rise from [] = Unit {0}
Rise from (s ∷ specs) = IsRising from s × Rise (s.first + s.count) specs

rise_earlier : (from least : ℕ) (specs : List LogicalSpec) → least ≤ from → Rise from specs → Rise least specs
rise_earlier from least [] h rise = tt
rise_earlier from least (s ∷ specs) h rise =
    let behind = rise.0.behind in
    (record { behind = omega arith; ahead = rise.0.ahead; far = rise.0.far; fits = rise.0.fits }, rise.1)

rising :
    (spec : ImageSpec) (before : List PartitionSection) (done : List Stood) (part : PartitionSection) (s : Stood)
    → (frame_as spec table.Mbr).sector ≡ 512 → IsSound spec table.Mbr before done part s → s.terms.logical ≡ true
    → IsRising (last_end 512 done / 512) (logical_spec_of part (unwrap_or s.place.head 0) s.place.at s.place.size)
rising spec before done part s z sound is =
    let led = (recorded spec before done part s z sound).led is in
    let free = is_free spec done s sound.met in
    let first = behind_first s led.head led.there led.even free.mbr in
    let behind = record_behind s led.head 512 done is led.there free.earlier (λ none. first) in
    let head : unwrap_or s.place.head 0 ≡ led.head = ap (λ (o : Option ℕ). unwrap_or o 0) led.there in
    let at = led.filled.at in
    let some = led.filled.some in
    let end = led.filled.end in
    let ahead = led.ahead in
    let even = led.even in
    rw head (record {
      behind = omega arith;
      ahead = omega arith;
      far = omega arith;
      fits =
          logical_spec_fits part led.head s.place.at s.place.size sound.within (omega arith) (omega arith)
          led.filled.count;
    })

rise_step :
    (logical : Bool) (from next : ℕ) (e : LogicalSpec) (es : List LogicalSpec) → (logical ≡ true → IsRising from e)
    → (logical ≡ true → e.first + e.count ≤ next) → Rise (if logical then next else from) es
    → Rise from (if logical then e ∷ es else es)
rise_step true from next e es here end rest = (here refl, rise_earlier next (e.first + e.count) es (end refl) rest)
rise_step false from next e es here end rest = rest

divided : (logical : Bool) (a b : ℕ) → (if logical then a else b) / 512 ≡ (if logical then a / 512 else b / 512)
divided true a b = refl
divided false a b = refl

sectors_end : (at size : ℕ) → at / 512 + size / 512 ≤ (at + size) / 512
sectors_end at size = omega arith

pub all_rise :
    (spec : ImageSpec) (before : List PartitionSection) (done : List Stood) (parts : List PartitionSection)
    (ss : List Stood) → (frame_as spec table.Mbr).sector ≡ 512 → Stand spec table.Mbr before done parts ss
    → Rise (last_end 512 done / 512) (logical_specs parts ss)
all_rise spec before done [] [] z h = tt
all_rise spec before done [] (s ∷ ss) z h = absurd h
all_rise spec before done (part ∷ parts) [] z h = absurd h
all_rise spec before done (part ∷ parts) (s ∷ ss) z h =
    let rest = all_rise spec (before ++ part ∷ []) (done ++ s ∷ []) parts ss z h.1 in
    rise_step s.terms.logical (last_end 512 done / 512) (end_of s / 512)
    (logical_spec_of part (unwrap_or s.place.head 0) s.place.at s.place.size) (logical_specs parts ss)
    (rising spec before done part s z h.0) (λ is. sectors_end s.place.at s.place.size)
    (subst (λ (n : ℕ). Rise n (logical_specs parts ss))
    (ap (λ (n : ℕ). n / 512) (last_end_push 512 done s) ∙ divided s.terms.logical (end_of s) (last_end 512 done)) rest)

-- ---- what a chain needs

pub rise_fits : (from : ℕ) (specs : List LogicalSpec) → Rise from specs → AllByRecursion LogicalFits specs
rise_fits from [] rise = tt
rise_fits from (s ∷ specs) rise = (rise.0.fits, rise_fits (s.first + s.count) specs rise.1)

record IsStep (from : ℕ) (s : LogicalSpec) : Type 0 where
  behind : from ≤ s.head
  ahead : s.head < s.first
  far : s.first + s.count ≤ 2 ^ 32

step_at :
    (from : ℕ) (specs : List LogicalSpec) (k : ℕ) → Rise from specs → k < length specs
    → IsStep from (logical_of specs k)
step_at from [] k rise inside = absurd (omega arith)
step_at from (s ∷ specs) zero rise inside = record { behind = rise.0.behind; ahead = rise.0.ahead; far = rise.0.far }
step_at from (s ∷ specs) (suc k) rise inside =
    let rest = step_at (s.first + s.count) specs k rise.1 (omega arith) in
    let behind = rise.0.behind in
    let ahead = rise.0.ahead in
    let later = rest.behind in
    record { behind = omega arith; ahead = rest.ahead; far = rest.far }

next_at :
    (from : ℕ) (specs : List LogicalSpec) (k : ℕ) → Rise from specs → suc k < length specs
    → (logical_of specs k).head < (logical_of specs (suc k)).head
next_at from [] k rise inside = absurd (omega arith)
next_at from (s ∷ specs) zero rise inside =
    let ahead = rise.0.ahead in
    let next = (step_at (s.first + s.count) specs 0 rise.1 (omega arith)).behind in
    omega arith
next_at from (s ∷ specs) (suc k) rise inside = next_at (s.first + s.count) specs k rise.1 (omega arith)

pub ascends : (from : ℕ) (specs : List LogicalSpec) → 1 ≤ from → Rise from specs → Ascends specs
ascends from specs some rise = record {
  ahead = λ k inside. (step_at from specs k rise inside).ahead;
  rises = λ k inside. rw (add-one k) (next_at from specs k rise (omega arith));
  fits = λ k inside.
      let step = step_at from specs k rise inside in
      let behind = step.behind in
      let far = step.far in
      omega arith;
}

greatest_far : (from : ℕ) (specs : List LogicalSpec) → Rise from specs → greatest_end specs ≤ 2 ^ 32
greatest_far from [] rise = omega arith
greatest_far from (s ∷ specs) rise =
    let rest = greatest_far (s.first + s.count) specs rise.1 in
    let far = rise.0.far in
    omega arith

-- the entry of the extended partition
pub extended_fits :
    (from : ℕ) (specs : List LogicalSpec) → 1 ≤ from → Rise from specs
    → AllByRecursion EntryFits (extended_entries specs)
extended_fits from [] some rise = tt
extended_fits from (s ∷ specs) some rise =
    let far = greatest_far from (s ∷ specs) rise in
    let behind = rise.0.behind in
    (record { kind = lit< tt; first = rise.0.fits.head; count = omega arith; used = λ active. absurd (cc) }, tt)

pub extended_last :
    (from : ℕ) (specs : List LogicalSpec) → 1 ≤ from → Rise from specs
    → AllByRecursion (HasLast 0) (extended_entries specs)
extended_last from [] some rise = tt
extended_last from (s ∷ specs) some rise = let behind = rise.0.behind in (λ used. omega arith, tt)

-- it has a sector
pub extended_some :
    (from : ℕ) (s : LogicalSpec) (specs : List LogicalSpec) → Rise from (s ∷ specs)
    → start_of (s ∷ specs) < greatest_end (s ∷ specs)
extended_some from s specs rise = let ahead = rise.0.ahead in omega arith

-- ---- where the extended partition begins and ends, in bytes

abbrev pub StartsAt : Option ℕ → List LogicalSpec → Type 0
StartsAt None specs = specs ≡ []
StartsAt (Some start) specs = 512 * start_of specs ≡ start

start_step :
    (logical : Bool) (head rest : Option ℕ) (e : LogicalSpec) (es : List LogicalSpec)
    → (logical ≡ true → head ≡ Some (512 * e.head)) → (logical ≡ false → head ≡ None) → StartsAt rest es
    → StartsAt (option_or head rest) (if logical then e ∷ es else es)
start_step true head rest e es led unled h = rw (led refl) refl
start_step false head rest e es led unled h = rw (unled refl) h

whole_head :
    (part : PartitionSection) (s : Stood) → IsHeaded s → s.place.head ≡ Some (512 * (unwrap_or s.place.head 0 / 512))
whole_head part s led =
    let head : unwrap_or s.place.head 0 ≡ led.head = ap (λ (o : Option ℕ). unwrap_or o 0) led.there in
    let even = led.even in
    let whole : led.head ≡ 512 * (unwrap_or s.place.head 0 / 512) = rw head (omega arith) in
    led.there ∙ ap (λ (n : ℕ). Some n) whole

pub starts_at :
    (parts : List PartitionSection) (ss : List Stood) → AllZip IsRecorded parts ss
    → StartsAt (extended_start ss) (logical_specs parts ss)
starts_at [] [] h = refl
starts_at [] (s ∷ ss) h = absurd h
starts_at (part ∷ parts) [] h = absurd h
starts_at (part ∷ parts) (s ∷ ss) h =
    start_step s.terms.logical s.place.head (extended_start ss)
    (logical_spec_of part (unwrap_or s.place.head 0) s.place.at s.place.size)
    (logical_specs parts ss) (λ is. whole_head part s (h.0.led is)) h.0.unled (starts_at parts ss h.1)

end_step :
    (logical : Bool) (e : LogicalSpec) (es : List LogicalSpec) (n : ℕ) (ns : List ℕ)
    → (logical ≡ true → 512 * (e.first + e.count) ≡ n) → 512 * greatest_end es ≡ greatest ns
    → 512 * greatest_end (if logical then e ∷ es else es) ≡ greatest (if logical then n ∷ ns else ns)
end_step true e es n ns here h = let one = here refl in omega arith
end_step false e es n ns here h = h

pub ends_at :
    (parts : List PartitionSection) (ss : List Stood) → AllZip IsRecorded parts ss
    → 512 * greatest_end (logical_specs parts ss) ≡ greatest (logical_ends ss)
ends_at [] [] h = refl
ends_at [] (s ∷ ss) h = absurd h
ends_at (part ∷ parts) [] h = absurd h
ends_at (part ∷ parts) (s ∷ ss) h =
    end_step s.terms.logical (logical_spec_of part (unwrap_or s.place.head 0) s.place.at s.place.size)
    (logical_specs parts ss) (end_of s)
    (logical_ends ss)
    (λ is.
    let filled = (h.0.led is).filled in
    let at = filled.at in
    let size = filled.size in
    omega arith)
    (ends_at parts ss h.1)
