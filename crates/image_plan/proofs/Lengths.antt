-- Lengths one behind another, as far as the files are there.
use Rattle.std.specs.Prelude.{◌≡◌, ℕ, ◌+◌, ◌<◌, ◌≤◌, Bool, true, false, not, if◌then◌else◌, MatchBool}
use Rattle.std.specs.Prelude.{Option, Some, None, Ok, Err, IsSome, IsSomeAnd}
use Rattle.std.specs.Prelude.{List, [], ◌∷◌, ◌++◌, drop, length, map, slice_index_or, take}
use Rattle.std.specs.List.{position_from}
use Rattle.std.proofs.Common.{refl, ap, sym, subst, ◌∙◌, append_assoc, get_or}
use Rattle.std.proofs.lemmas.Iterator.Adapters.{position_from-zero}
use Rattle.std.proofs.lemmas.List.{append-nil, at_drop_more, drop_all, take_more}
use Rattle.std.proofs.lemmas.Option.{slice_get_read}
use Rattle.base_fields.specs.Results.{when}
use Rattle.image_specs.specs.declared.specs.Source.{Source}
use Rattle.job_stages.specs.Stages.{Refuses}
use Rattle.outside.specs.Files.{Tree}
use Rattle.placement_apart.specs.Apart.{AreLengths}
use Rattle.image_plan.specs.Faults.{HasFile, IsLengthFault, IsOwnFault, is_counted}
use Rattle.image_plan.specs.Lengths.{first_absent, is_absent, length_of, length_said, lengths_of, lengths_said}
use Rattle.image_plan.specs.Lengths.{unless_absent}
use Rattle.image_plan.specs.declared.faults.PlanFault.{PlanFault}
use Rattle.image_plan.specs.declared.faults.PlanFault.TheVariants.{Missing, FileFault, Place}

-- ---- one of the sources

-- the source of that number
pub record IsAt (sources : List Source) (k : ℕ) (source : Source) : Type 0 where
  pub inside : k < length sources
  pub is : source ≡ get_or sources k source

-- a list from a source on
drop_read : (sources : List Source) (k : ℕ) (source : Source) → IsAt sources k source
    → drop k sources ≡ source ∷ drop (k + 1) sources
drop_read sources k source here =
    at_drop_more (λ ss. ss) sources k source here.inside ∙ ap (λ s. s ∷ drop (k + 1) sources) (sym here.is)

-- its fault is one of all
pub own_is_length : (sources : List Source) (k : ℕ) (source : Source) (f : PlanFault)
    → IsAt sources k source → IsOwnFault k source f → IsLengthFault sources f
own_is_length sources k source (Missing j) here h =
    subst (HasFile sources) (sym h.0)
    (subst (λ (o : Option Source). IsSomeAnd o (λ s. IsSome s.file))
    (sym (slice_get_read sources (length sources) k source refl here.inside here.is)) h.1)
own_is_length sources k source FileFault here h = tt
own_is_length sources k source (Place f) here h = absurd h

-- ---- lengths of any files

lengths_next : (sources : List Source) (lens : List ℕ) (source : Source) (len : ℕ)
    → AreLengths sources lens → (source.file ≡ None → len ≡ 0) → AreLengths (sources ++ source ∷ []) (lens ++ len ∷ [])
lengths_next [] [] source len all one = (one, tt)
lengths_next [] (n ∷ lens) source len all one = absurd all
lengths_next (s ∷ sources) [] source len all one = absurd all
lengths_next (s ∷ sources) (n ∷ lens) source len all one = (all.0, lengths_next sources lens source len all.1 one)

-- the first k, and the next one
pub lengths_more : (sources : List Source) (k : ℕ) (source : Source) (lens new : List ℕ) (len : ℕ)
    → IsAt sources k source → AreLengths (take k sources) lens → (source.file ≡ None → len ≡ 0)
    → new ≡ lens ++ len ∷ [] → AreLengths (take (k + 1) sources) new
lengths_more sources k source lens new len here all one more =
    subst (AreLengths (take (k + 1) sources)) (sym more)
    (subst (λ (front : List Source). AreLengths front (lens ++ len ∷ [])) (sym (take_more sources k source here.inside))
    (lengths_next (take k sources) lens (slice_index_or sources k source) len all
    (subst (λ (s : Source). s.file ≡ None → len ≡ 0) here.is one)))

-- ---- what is said of one source

said_ok : (absent : Bool) (n k len : ℕ) → when (not absent) n (Missing k) ≡ Ok len → (absent ≡ false) × (len ≡ n)
said_ok true n k len h = absurd (let no : Err (Missing k) ≡ Ok len = h in cc)
said_ok false n k len h = (refl, let same : Ok n ≡ Ok len = h in cc)

said_err : (absent : Bool) (n k : ℕ) (f : PlanFault)
    → when (not absent) n (Missing k) ≡ Err f → (absent ≡ true) × (f ≡ Missing k)
said_err true n k f h = (refl, let same : Err (Missing k) ≡ Err f = h in cc)
said_err false n k f h = absurd (let no : Ok n ≡ Err f = h in cc)

-- ---- the first k sources

-- none of them is absent, and these are their lengths
pub record Read (file : Tree) (sources : List Source) (lens : List ℕ) (k : ℕ) : Type 0 where
  pub first : position_from (is_absent file) k (drop k sources) ≡ first_absent file sources
  pub measured : lens ++ map (length_of file) (drop k sources) ≡ lengths_of file sources

pub read_none : (file : Tree) (sources : List Source) → Read file sources [] 0
read_none file sources = record { first = sym (position_from-zero (is_absent file) sources); measured = refl }

-- what is looked for from a source on
looked_for : (file : Tree) (sources : List Source) (lens : List ℕ) (k : ℕ) (source : Source)
    → Read file sources lens k → IsAt sources k source
    → position_from (is_absent file) k (source ∷ drop (k + 1) sources) ≡ first_absent file sources
looked_for file sources lens k source read here =
    ap (position_from (is_absent file) k) (sym (drop_read sources k source here)) ∙ read.first

passed : (absent : Bool) (k : ℕ) (rest : Option ℕ) → absent ≡ false → rest ≡ (if absent then Some k else rest)
passed true k rest h = cc
passed false k rest h = refl

found : (absent : Bool) (k : ℕ) (rest : Option ℕ) → absent ≡ true → Some k ≡ (if absent then Some k else rest)
found true k rest h = refl
found false k rest h = cc

read_next : (file : Tree) (sources : List Source) (lens new : List ℕ) (k len : ℕ) (source : Source)
    → Read file sources lens k → IsAt sources k source → (is_absent file source ≡ false) × (len ≡ length_of file source)
    → new ≡ lens ++ len ∷ [] → Read file sources new (k + 1)
read_next file sources lens new k len source read here said more =
    let rest : List ℕ = map (length_of file) (drop (k + 1) sources) in
    record {
      first =
          passed (is_absent file source) k (position_from (is_absent file) (k + 1) (drop (k + 1) sources)) said.0
          ∙ looked_for file sources lens k source read here;
      measured =
          ap (λ ls. ls ++ rest) more
          ∙ append_assoc lens (len ∷ []) rest
          ∙ ap (λ n. lens ++ n ∷ rest) said.1
          ∙ ap (λ ss. lens ++ map (length_of file) ss) (sym (drop_read sources k source here))
          ∙ read.measured;
    }

-- with one more
pub read_more : (file : Tree) (sources : List Source) (lens new : List ℕ) (k len : ℕ) (source : Source)
    → Read file sources lens k → IsAt sources k source → length_said file k source ≡ Ok len
    → new ≡ lens ++ len ∷ [] → Read file sources new (k + 1)
read_more file sources lens new k len source read here said more =
    read_next file sources lens new k len source read here
    (said_ok (is_absent file source) (length_of file source) k len said) more

-- all of them
pub read_all : (file : Tree) (sources : List Source) (lens : List ℕ) (k : ℕ)
    → Read file sources lens k → length sources ≤ k → lengths_said file sources ≡ Ok lens
read_all file sources lens k read all =
    let nil : drop k sources ≡ [] = drop_all k sources all in
    let first : first_absent file sources ≡ None = sym read.first ∙ ap (position_from (is_absent file) k) nil in
    let measured : lens ≡ lengths_of file sources =
    sym (append-nil lens) ∙ sym (ap (λ ss. lens ++ map (length_of file) ss) nil) ∙ read.measured in
    ap (λ (o : Option ℕ). unless_absent o (lengths_of file sources)) first ∙ ap Ok (sym measured)

-- ---- the next one refuses

first_is : (file : Tree) (sources : List Source) (lens : List ℕ) (k : ℕ) (source : Source)
    → Read file sources lens k → IsAt sources k source → is_absent file source ≡ true
    → first_absent file sources ≡ Some k
first_is file sources lens k source read here absent =
    let rest : Option ℕ = position_from (is_absent file) (k + 1) (drop (k + 1) sources) in
    sym (found (is_absent file source) k rest absent ∙ looked_for file sources lens k source read here)

fault_said : (file : Tree) (sources : List Source) (lens : List ℕ) (k : ℕ) (source : Source) (f : PlanFault)
    → Read file sources lens k → IsAt sources k source → (is_absent file source ≡ true) × (f ≡ Missing k)
    → lengths_said file sources ≡ Err f
fault_said file sources lens k source f read here said =
    ap (λ (o : Option ℕ). unless_absent o (lengths_of file sources))
    (first_is file sources lens k source read here said.0)
    ∙ ap Err (sym said.1)

-- by cases on what is counted
weaken : (b : Bool) (A B : Type 0) → (A → B) → MatchBool b (Unit {0}) A → MatchBool b (Unit {0}) B
weaken true A B f h = tt
weaken false A B f h = f h

pub read_refuses : (file : Tree) (sources : List Source) (lens : List ℕ) (k : ℕ) (source : Source) (f : PlanFault)
    → Read file sources lens k → IsAt sources k source → Refuses is_counted (length_said file k source) f
    → Refuses is_counted (lengths_said file sources) f
read_refuses file sources lens k source f read here h =
    weaken (is_counted f) (length_said file k source ≡ Err f) (lengths_said file sources ≡ Err f)
    (λ said. fault_said file sources lens k source f read here
    (said_err (is_absent file source) (length_of file source) k f said)) h
