-- Which fault is the first, and that what it speaks of has a name.
use Rattle.std.proofs.Common.{◌≡◌, ℕ, suc, ◌+◌, ◌-◌, ◌/◌, ◌<◌, ◌≤◌, List, [], ◌∷◌, ◌++◌, length, Bool, true, false, refl, ap, ◌∙◌, arith, length-append, Option, Some, None}
use Rattle.std.specs.Prelude.{if◌then◌else◌, option_map}
use Rattle.base_fields.specs.Results.{provided}
use Rattle.image_specs.specs.declared.specs.ImageSpec.{ImageSpec}
use Rattle.placement.specs.Said.{IsFaultKnown, IsFaultOf, IsKnown, image_first, image_last, name_at, named, partition_fault, refusal_in}
use Rattle.placement_rules.specs.Faults.{◌or◌, above, bad_autoresize, bad_hole, bad_holes, below, clashes, first_clash, first_fault, least_size, met, misaligned, most_bytes, most_sectors, no_size, off_multiple, overlap, own_fault, part_fault, too_large, where_so}
use Rattle.placement_rules.specs.Places.{Stood, end_of}
use Rattle.placement_rules.specs.Terms.{names_of}
use Rattle.placement_rules.specs.declared.faults.Meeting.{Meeting}
use Rattle.placement_rules.specs.declared.faults.Meeting.TheVariants as meeting
use Rattle.placement_rules.specs.declared.faults.PartFault.{PartFault}
use Rattle.placement_rules.specs.declared.faults.PartFault.TheVariants as fault
use Rattle.placement_rules.specs.declared.faults.PlaceFault.{PlaceFault}
use Rattle.placement_rules.specs.declared.faults.PlaceFault.TheVariants as place
use Rattle.placement_rules.specs.declared.terms.Frame.{Frame}

-- ---- what each part of a choice gives

or_each : {A : Type 0} (P : A → Type 0) (a b : Option A) → ((f : A) → a ≡ Some f → P f) → ((f : A) → b ≡ Some f → P f) → (f : A) → (a or b) ≡ Some f → P f
or_each P None b own rest f h = rest f h
or_each P (Some g) b own rest f h = own f h

mapped : {A B : Type 0} (P : B → Type 0) (g : A → B) (x : Option A) → ((n : A) → x ≡ Some n → P (g n)) → (f : B) → option_map g x ≡ Some f → P f
mapped P g None all f h = absurd (let no : None ≡ Some f = h in cc)
mapped P g (Some n) all f h = let same : g n ≡ f = cc in rw (← same) (all n refl)

given : {A : Type 0} (P : A → Type 0) (b : Bool) (g : A) → P g → (f : A) → provided b g ≡ Some f → P f
given P true g own f h = let same : g ≡ f = cc in rw (← same) own
given P false g own f h = absurd (let no : None ≡ Some f = h in cc)

where_each : {A : Type 0} (P : A → Type 0) (b : Bool) (a : Option A) → ((f : A) → a ≡ Some f → P f) → (f : A) → where_so b a ≡ Some f → P f
where_each P true a own f h = own f h
where_each P false a own f h = absurd (let no : None ≡ Some f = h in cc)

-- ---- an earlier partition is one of those listed before

clash_step : (c : Bool) (found : Option ℕ) (m k : ℕ) → ((n : ℕ) → found ≡ Some n → n < m) → (if c then Some 0 else option_map suc found) ≡ Some k → k < suc m
clash_step true found m k less h = let same : 0 ≡ k = cc in omega arith
clash_step false found m k less h = mapped (λ i. i < suc m) suc found (λ n is. let below : n < m = less n is in omega arith) k h

clash_known : (s : Stood) (ss : List Stood) (k : ℕ) → first_clash s ss ≡ Some k → k < length ss
clash_known s [] k h = absurd (let no : None ≡ Some k = h in cc)
clash_known s (e ∷ ss) k h = clash_step (clashes s e ss) (first_clash s ss) (length ss) k (clash_known s ss) h

met_known : (frame : Frame) (before : List Stood) (s : Stood) (m : Meeting) → met frame before s ≡ Some m → IsKnown (length before) m
met_known frame before s =
    or_each (IsKnown (length before)) _ _ (given (IsKnown (length before)) _ meeting.Mbr tt)
    (or_each (IsKnown (length before)) _ _ (given (IsKnown (length before)) _ meeting.Header tt)
    (or_each (IsKnown (length before)) _ _ (given (IsKnown (length before)) _ meeting.Entries tt)
    (or_each (IsKnown (length before)) _ _ (given (IsKnown (length before)) _ meeting.Front tt)
    (mapped (IsKnown (length before)) (λ k. meeting.Earlier k) (first_clash s before) (clash_known s before)))))

above_known : (count limit n : ℕ) (f : PartFault) → above limit n ≡ Some f → IsFaultKnown count f
above_known count limit n = given (IsFaultKnown count) _ (fault.TooFar n limit) tt

own_known : (count : ℕ) (frame : Frame) (s : Stood) (f : PartFault) → own_fault frame s ≡ Some f → IsFaultKnown count f
own_known count frame s =
    or_each (IsFaultKnown count) (misaligned frame s.terms) _
    (or_each (IsFaultKnown count) _ _ (mapped (IsFaultKnown count) (λ n. fault.Misaligned n s.terms.align) (off_multiple s.terms.offset s.terms.align) (λ n is. tt))
    (or_each (IsFaultKnown count) _ _ (mapped (IsFaultKnown count) (λ n. fault.Misaligned n s.terms.align) (where_so s.terms.logical (below s.terms.offset s.terms.align)) (λ n is. tt))
    (or_each (IsFaultKnown count) _ _ (mapped (IsFaultKnown count) (λ n. fault.Misaligned n frame.sector) (where_so s.terms.tabled (off_multiple (Some s.terms.align) frame.sector)) (λ n is. tt))
    (mapped (IsFaultKnown count) (λ n. fault.Misaligned n frame.sector) (where_so s.terms.tabled (off_multiple s.terms.size frame.sector)) (λ n is. tt)))))
    (or_each (IsFaultKnown count) (bad_holes s.holes) _ (mapped (IsFaultKnown count) (λ k. fault.BadHoles k) (bad_hole 0 0 s.holes) (λ n is. tt))
    (or_each (IsFaultKnown count) (bad_autoresize s.terms s.place.size) _ (given (IsFaultKnown count) _ (fault.BadAutoresize s.place.size (least_size s.terms)) tt)
    (or_each (IsFaultKnown count) (too_large s.terms s.place.size) _ (given (IsFaultKnown count) _ (fault.FileTooLarge s.terms.len s.place.size) tt)
    (or_each (IsFaultKnown count) (no_size s.terms s.place.size) _ (given (IsFaultKnown count) _ fault.NoSize tt)
    (or_each (IsFaultKnown count) (above most_bytes s.terms.len) _ (above_known count most_bytes s.terms.len)
    (or_each (IsFaultKnown count) (above most_bytes (end_of s)) _ (above_known count most_bytes (end_of s))
    (where_each (IsFaultKnown count) s.terms.narrow _
    (or_each (IsFaultKnown count) _ _ (above_known count most_sectors (end_of s / 512 - 1)) (above_known count most_sectors (s.place.size / 512))))))))))

part_known : (frame : Frame) (before : List Stood) (s : Stood) (f : PartFault) → part_fault frame before s ≡ Some f → IsFaultKnown (length before) f
part_known frame before s =
    or_each (IsFaultKnown (length before)) (own_fault frame s) (overlap frame before s) (own_known (length before) frame s)
    (mapped (IsFaultKnown (length before)) (λ m. fault.Meets m) (met frame before s) (met_known frame before s))

-- a larger count knows as well
meeting_known : (m n : ℕ) (met : Meeting) → m ≤ n → IsKnown m met → IsKnown n met
meeting_known m n (meeting.Earlier k) le h = omega (arith, h)
meeting_known m n meeting.Mbr le h = tt
meeting_known m n meeting.Header le h = tt
meeting_known m n meeting.Entries le h = tt
meeting_known m n meeting.Front le h = tt

fault_known : (m n : ℕ) (f : PartFault) → m ≤ n → IsFaultKnown m f → IsFaultKnown n f
fault_known m n (fault.Meets met) le h = meeting_known m n met le h
fault_known m n (fault.Misaligned a b) le h = tt
fault_known m n (fault.BadHoles a) le h = tt
fault_known m n (fault.BadAutoresize a b) le h = tt
fault_known m n (fault.FileTooLarge a b) le h = tt
fault_known m n fault.NoSize le h = tt
fault_known m n (fault.TooFar a b) le h = tt

pub record IsNumbered (count : ℕ) (found : ℕ × PartFault) : Type 0 where
  pub number : found.0 < count
  pub known : IsFaultKnown count found.1

first_known : (frame : Frame) (before ss : List Stood) (found : ℕ × PartFault) → first_fault frame before ss ≡ Some found → IsNumbered (length before + length ss) found
first_known frame before [] found h = absurd (let no : None ≡ Some found = h in cc)
first_known frame before (s ∷ ss) found h =
    let count : ℕ = length before + length (s ∷ ss) in
    or_each (IsNumbered (length before + length (s ∷ ss))) (option_map (λ f. (length before, f)) (part_fault frame before s)) (first_fault frame (before ++ s ∷ []) ss)
    (mapped (IsNumbered (length before + length (s ∷ ss))) (λ f. (length before, f)) (part_fault frame before s)
    (λ f said. record { number = omega arith; known = fault_known (length before) (length before + length (s ∷ ss)) f (omega arith) (part_known frame before s f said) }))
    (λ g said.
    let rest : IsNumbered (length (before ++ s ∷ []) + length ss) g = first_known frame (before ++ s ∷ []) ss g said in
    let same : length (before ++ s ∷ []) + length ss ≡ length before + length (s ∷ ss) = omega (arith, length-append before (s ∷ [])) in
    rw (← same) rest)
    found h

pub is_numbered : (frame : Frame) (ss : List Stood) (count number : ℕ) (f : PartFault) → length ss ≡ count → first_fault frame [] ss ≡ Some (number, f) → IsNumbered count (number, f)
is_numbered frame ss count number f same h =
    let all : 0 + length ss ≡ count = omega arith in
    rw (← all) (first_known frame [] ss (number, f) h)

-- ---- the answer of one step is that of all

pub said_by : (said wanted : Option PlaceFault) (f : PlaceFault) → ((g : PlaceFault) → said ≡ Some g → wanted ≡ Some g) → IsFaultOf said f → IsFaultOf wanted f
said_by said wanted place.NoMemory on h = tt
said_by said wanted (place.TooManyEntries a) on h = on (place.TooManyEntries a) h
said_by said wanted (place.Misaligned a b c) on h = on (place.Misaligned a b c) h
said_by said wanted (place.BadHoles a b) on h = on (place.BadHoles a b) h
said_by said wanted (place.BadAutoresize a b c) on h = on (place.BadAutoresize a b c) h
said_by said wanted (place.FileTooLarge a b c) on h = on (place.FileTooLarge a b c) h
said_by said wanted (place.NoSize a) on h = on (place.NoSize a) h
said_by said wanted (place.TooFar a b c) on h = on (place.TooFar a b c) h
said_by said wanted (place.Overlap a b) on h = on (place.Overlap a b) h
said_by said wanted (place.ImageTooSmall a b) on h = on (place.ImageTooSmall a b) h
said_by said wanted (place.NotOnBlock a b c) on h = on (place.NotOnBlock a b c) h
said_by said wanted (place.PastFlash a b c) on h = on (place.PastFlash a b c) h

pub said_first : (spec : ImageSpec) (frame : Frame) (ss : List Stood) (f : PlaceFault) → IsFaultOf (image_first spec frame) f → IsFaultOf (refusal_in spec frame ss) f
said_first spec frame ss f =
    said_by (image_first spec frame) (refusal_in spec frame ss) f (λ g said. ap (λ a. a or partition_fault spec frame ss or image_last spec frame ss) said)

pub said_then : (spec : ImageSpec) (frame : Frame) (ss : List Stood) (f : PlaceFault) → image_first spec frame ≡ None → IsFaultOf (partition_fault spec frame ss) f → IsFaultOf (refusal_in spec frame ss) f
said_then spec frame ss f first =
    said_by (partition_fault spec frame ss) (refusal_in spec frame ss) f
    (λ g said. ap (λ a. a or partition_fault spec frame ss or image_last spec frame ss) first ∙ ap (λ a. a or image_last spec frame ss) said)

no_partition : (spec : ImageSpec) (frame : Frame) (ss : List Stood) → first_fault frame [] ss ≡ None → partition_fault spec frame ss ≡ None
no_partition spec frame ss none = ap (option_map (λ (found : ℕ × PartFault). named (names_of spec) (name_at (names_of spec) found.0) found.1)) none

pub said_last : (spec : ImageSpec) (frame : Frame) (ss : List Stood) (f : PlaceFault) → image_first spec frame ≡ None → first_fault frame [] ss ≡ None → IsFaultOf (image_last spec frame ss) f → IsFaultOf (refusal_in spec frame ss) f
said_last spec frame ss f first parts =
    said_by (image_last spec frame ss) (refusal_in spec frame ss) f
    (λ g said.
    ap (λ a. a or partition_fault spec frame ss or image_last spec frame ss) first
    ∙ ap (λ a. a or image_last spec frame ss) (no_partition spec frame ss parts) ∙ said)

pub none_said : (spec : ImageSpec) (frame : Frame) (ss : List Stood) → image_first spec frame ≡ None → first_fault frame [] ss ≡ None → image_last spec frame ss ≡ None → refusal_in spec frame ss ≡ None
none_said spec frame ss first parts last =
    ap (λ a. a or partition_fault spec frame ss or image_last spec frame ss) first
    ∙ ap (λ a. a or image_last spec frame ss) (no_partition spec frame ss parts) ∙ last

-- a partition's fault under its name
pub said_named : (spec : ImageSpec) (frame : Frame) (ss : List Stood) (number : ℕ) (f : PartFault) (made : PlaceFault) → first_fault frame [] ss ≡ Some (number, f) → IsFaultOf (Some (named (names_of spec) (name_at (names_of spec) number) f)) made → IsFaultOf (partition_fault spec frame ss) made
said_named spec frame ss number f made found =
    said_by (Some (named (names_of spec) (name_at (names_of spec) number) f)) (partition_fault spec frame ss) made
    (λ g said. ap (option_map (λ (x : ℕ × PartFault). named (names_of spec) (name_at (names_of spec) x.0) x.1)) found ∙ said)
