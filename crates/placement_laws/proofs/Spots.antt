-- One partition behind those that are listed before it.
use Rattle.std.specs.Prelude.{◌≡◌, ℕ, suc, ◌+◌, ◌-◌, ◌*◌, ◌/◌, ◌%◌, ◌<◌, ◌≤◌, ◌⊎◌, max, Bool, true, false, cond, All, List, [], ◌∷◌, Option, Some, None, map, unwrap_or}
use Rattle.std.specs.List.{Any}
use Rattle.std.proofs.Common.{refl, ap, sym, subst, ◌∙◌, inl, inr, arith}
use Rattle.std.proofs.lemmas.Bool.{cases_lt}
use Rattle.std.proofs.lemmas.List.Elements.{All-cons, All-head, All-nil, All-tail}
use Rattle.base_fields.specs.Numbers.{IsLeastMultiple}
use Rattle.conf_values.specs.declared.values.Hole.{Hole}
use Rattle.placement_rules.specs.Frames.{backup_len}
use Rattle.placement_rules.specs.Places.{Stood, at_from, end_of, free_from, greatest, highest, least_multiple, room_in, room_of, size_of, standing, stood_of}
use Rattle.placement_rules.specs.declared.terms.Frame.{Frame}
use Rattle.placement_rules.specs.declared.terms.Place.{Place}
use Rattle.placement_rules.specs.declared.terms.Terms.{Terms}
use Rattle.placement_laws.specs.Laws.{IsEarliest, first_of}
use Rattle.placement_laws.specs.Placed.{HasEnd, HasRecord, HasRoom, HasRoomIn, HasSize, IsLeastSpot, IsPlaced, IsSpot, StandsAt, from_spot}
use Rattle.placement_laws.proofs.Multiples.{greatest_of, greatest_one, least_of, least_one}

-- ---- spots

larger : (a b m : ℕ) → a ≤ m → b ≤ m → max a b ≤ m
larger a b m first second = omega arith

of_larger : (a b m : ℕ) → max a b ≤ m → (a ≤ m) × (b ≤ m)
of_larger a b m h = (omega arith, omega arith)

ends_all : (before : List Stood) (m : ℕ) → greatest (map end_of before) ≤ m → All (λ e. end_of e ≤ m) before
ends_all [] m h = All-nil _
ends_all (e ∷ before) m h =
    let split = of_larger (end_of e) (greatest (map end_of before)) m h in
    All-cons (λ (x : Stood). end_of x ≤ m) e before split.0 (ends_all before m split.1)

all_ends : (before : List Stood) (m : ℕ) → All (λ e. end_of e ≤ m) before → greatest (map end_of before) ≤ m
all_ends [] m h = omega arith
all_ends (e ∷ before) m h =
    larger (end_of e) (greatest (map end_of before)) m (All-head (λ (x : Stood). end_of x ≤ m) e before h) (all_ends before m (All-tail (λ (x : Stood). end_of x ≤ m) e before h))

spot_high : (frame : Frame) (before : List Stood) (align m : ℕ) → IsSpot frame before align m → highest frame before ≤ m
spot_high frame before align m is = larger frame.front (greatest (map end_of before)) m is.front (all_ends before m is.behind)

high_spot : (frame : Frame) (before : List Stood) (align m : ℕ) → m % align ≡ 0 → highest frame before ≤ m → IsSpot frame before align m
high_spot frame before align m whole above =
    let split = of_larger frame.front (greatest (map end_of before)) m above in
    record { multiple = whole; front = split.0; behind = ends_all before m split.1 }

pub spot_is : (frame : Frame) (before : List Stood) (align m : ℕ) → 1 ≤ align → IsLeastSpot frame before align m → m ≡ least_multiple align (highest frame before)
spot_is frame before align m some is =
    let least : IsLeastMultiple (highest frame before) align m = record {
      multiple = is.spot.multiple;
      not_below = spot_high frame before align m is.spot;
      least = λ n whole above. is.least n (high_spot frame before align n whole above);
    } in
    least_one (highest frame before) align m (least_multiple align (highest frame before)) least (least_of (highest frame before) align some)

pub spot_of : (frame : Frame) (before : List Stood) (align : ℕ) → 1 ≤ align → IsLeastSpot frame before align (least_multiple align (highest frame before))
spot_of frame before align some =
    let least = least_of (highest frame before) align some in
    record {
      spot = high_spot frame before align (least_multiple align (highest frame before)) least.multiple least.not_below;
      least = λ n spot. least.least n spot.multiple (spot_high frame before align n spot);
    }

-- ---- places

spot_free : (t : Terms) (m : ℕ) → from_spot t m ≡ m + cond t.logical t.align 0
spot_free t m = by_case t.logical
  where
    by_case : (b : Bool) → cond b (m + t.align) m ≡ m + cond b t.align 0
    by_case true = refl
    by_case false = omega arith

at_is : (frame : Frame) (before : List Stood) (t : Terms) (offset : Option ℕ) (at : ℕ) → 1 ≤ t.align → StandsAt frame before t offset at → at ≡ unwrap_or offset (free_from (highest frame before) t)
at_is frame before t (Some o) at some h = h
at_is frame before t None at some h =
    h.2 ∙ ap (from_spot t) (spot_is frame before t.align h.0 some h.1) ∙ spot_free t (least_multiple t.align (highest frame before))

at_has : (frame : Frame) (before : List Stood) (t : Terms) (offset : Option ℕ) → 1 ≤ t.align → StandsAt frame before t offset (unwrap_or offset (free_from (highest frame before) t))
at_has frame before t (Some o) some = refl
at_has frame before t None some =
    (least_multiple t.align (highest frame before), spot_of frame before t.align some, sym (spot_free t (least_multiple t.align (highest frame before))))

-- ---- sizes

room_in_is : (frame : Frame) (t : Terms) (size : Option ℕ) (at r : ℕ) → 1 ≤ t.align → HasRoomIn frame t size at r → r ≡ room_in frame size t at
room_in_is frame t None at r some h = h
room_in_is frame t (Some size) at r some h =
    h.2 ∙ ap (λ n. n - at) (greatest_one (size - backup_len frame) t.align h.0 ((size - backup_len frame) / t.align * t.align) h.1 (greatest_of (size - backup_len frame) t.align some))

room_in_has : (frame : Frame) (t : Terms) (size : Option ℕ) (at : ℕ) → 1 ≤ t.align → HasRoomIn frame t size at (room_in frame size t at)
room_in_has frame t None at some = refl
room_in_has frame t (Some size) at some =
    ((size - backup_len frame) / t.align * t.align, greatest_of (size - backup_len frame) t.align some, refl)

room_is : (frame : Frame) (t : Terms) (last : Bool) (at r : ℕ) → 1 ≤ t.align → HasRoom frame t last at r → r ≡ cond last (room_in frame frame.size t at) 0
room_is frame t true at r some h = room_in_is frame t frame.size at r some h
room_is frame t false at r some h = h

room_has : (frame : Frame) (t : Terms) (last : Bool) (at : ℕ) → 1 ≤ t.align → HasRoom frame t last at (cond last (room_in frame frame.size t at) 0)
room_has frame t true at some = room_in_has frame t frame.size at some
room_has frame t false at some = refl

end_is : (t : Terms) (size : Option ℕ) (r : ℕ) → 1 ≤ t.align → HasEnd t size r → r ≡ unwrap_or size (least_multiple t.align t.len)
end_is t (Some given) r some h = h
end_is t None r some h = least_one t.len t.align r (least_multiple t.align t.len) h (least_of t.len t.align some)

end_has : (t : Terms) (size : Option ℕ) → 1 ≤ t.align → HasEnd t size (unwrap_or size (least_multiple t.align t.len))
end_has t (Some given) some = refl
end_has t None some = least_of t.len t.align some

size_is : (frame : Frame) (t : Terms) (grows : Bool) (at r : ℕ) → 1 ≤ t.align → HasSize frame t grows at r → r ≡ cond grows (room_of frame t at) (unwrap_or t.size (least_multiple t.align t.len))
size_is frame t true at r some h = room_is frame t t.last at r some h
size_is frame t false at r some h = end_is t t.size r some h

size_has : (frame : Frame) (t : Terms) (grows : Bool) (at : ℕ) → 1 ≤ t.align → HasSize frame t grows at (cond grows (room_of frame t at) (unwrap_or t.size (least_multiple t.align t.len)))
size_has frame t true at some = room_has frame t t.last at some
size_has frame t false at some = end_has t t.size some

-- ---- records

head_is : (t : Terms) (logical : Bool) (place : Place) → HasRecord t logical place → place.head ≡ cond logical (Some (place.at - t.align)) None
head_is t true place h = h
head_is t false place h = h

head_has : (t : Terms) (logical : Bool) (at size : ℕ) → HasRecord t logical (record { at = at; size = size; head = cond logical (Some (at - t.align)) None })
head_has t true at size = refl
head_has t false at size = refl

-- ---- a partition

same_place : (at size other : ℕ) (head that : Option ℕ) → size ≡ other → head ≡ that → ◌≡◌ {A = Place} (record { at = at; size = size; head = head }) (record { at = at; size = other; head = that })
same_place at size other head that sizes heads =
    let put : ℕ → Option ℕ → Place = λ n h. record { at = at; size = n; head = h } in
    ap (λ n. put n head) sizes ∙ ap (λ h. put other h) heads

pub placed_is : (frame : Frame) (before : List Stood) (s : Stood) → 1 ≤ s.terms.align → IsPlaced frame before s → s ≡ stood_of frame before s.terms s.holes
placed_is frame before s some is =
    let here : s.place ≡ standing frame s.terms s.place.at =
    same_place s.place.at s.place.size (size_of frame s.terms s.place.at) s.place.head (cond s.terms.logical (Some (s.place.at - s.terms.align)) None)
    (size_is frame s.terms s.terms.autoresize s.place.at s.place.size some is.sized)
    (head_is s.terms s.terms.logical s.place is.headed) in
    let stands : s.place.at ≡ at_from (highest frame before) s.terms = at_is frame before s.terms s.terms.offset s.place.at some is.stands in
    let put : Place → Stood = λ p. record { terms = s.terms; holes = s.holes; place = p } in
    ap put (here ∙ ap (standing frame s.terms) stands)

pub stood_placed : (frame : Frame) (before : List Stood) (t : Terms) (holes : List Hole) → 1 ≤ t.align → IsPlaced frame before (stood_of frame before t holes)
stood_placed frame before t holes some = record {
  stands = at_has frame before t t.offset some;
  sized = size_has frame t t.autoresize (at_from (highest frame before) t) some;
  headed = head_has t t.logical (at_from (highest frame before) t) (size_of frame t (at_from (highest frame before) t));
}

-- ---- none earlier

all_or_any : (before : List Stood) (m : ℕ) → All (λ e. end_of e ≤ m) before ⊎ Any (λ e. m < end_of e) before
all_or_any [] m = inl (All-nil _)
all_or_any (e ∷ before) m = elim (cases_lt m (end_of e)) [
  | inl over ↦ inr (0, e, omega arith, refl, over)
  | inr under ↦ elim (all_or_any before m) [
    | inl all ↦ inl (All-cons (λ (x : Stood). end_of x ≤ m) e before under all)
    | inr some ↦ inr (suc some.0, some.1, omega (arith, some.2), some.3, some.4)
  ]
]

first_is : (t : Terms) (logical : Bool) (place : Place) (m : ℕ) → place.at ≡ cond logical (m + t.align) m → HasRecord t logical place → unwrap_or place.head place.at ≡ m
first_is t true place m at h =
    let back : place.at - t.align ≡ m = omega arith in
    ap (λ o. unwrap_or o place.at) h ∙ back
first_is t false place m at h = ap (λ o. unwrap_or o place.at) h ∙ at

pub earliest : (frame : Frame) (before : List Stood) (s : Stood) → IsPlaced frame before s → IsEarliest frame before s
earliest frame before s is none m whole lower =
    let stands : StandsAt frame before s.terms None s.place.at = subst (λ (o : Option ℕ). StandsAt frame before s.terms o s.place.at) none is.stands in
    let first : first_of s ≡ stands.0 = first_is s.terms s.terms.logical s.place stands.0 stands.2 is.headed in
    let below : m < stands.0 = omega arith in
    elim (cases_lt m frame.front) [
      | inl front ↦ inl front
      | inr behind ↦ elim (all_or_any before m) [
        | inl all ↦
            let least : stands.0 ≤ m = stands.1.least m (record { multiple = whole; front = behind; behind = all }) in
            absurd (omega arith)
        | inr some ↦ inr some
      ]
    ]
