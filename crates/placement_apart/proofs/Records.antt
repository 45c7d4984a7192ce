-- The boot records of the logical partitions: they lie apart from one another, and what holds of the place of each.
use Rattle.std.specs.Prelude.{◌≡◌, ℕ, ◌+◌, ◌*◌, ◌<◌, ◌≤◌, List, [], ◌∷◌, All, AllPairs, Bool, true, false, slice_get, unwrap_or, if◌then◌else◌}
use Rattle.std.proofs.Common.{refl, arith}
use Rattle.std.proofs.lemmas.List.Elements.{All-cons, All-head, All-nil, All-tail}
use Rattle.std.proofs.lemmas.List.Kept.{AllPairs-cons}
use Rattle.base_fields.specs.Parts.{AreApart, LieApart, Part}
use Rattle.base_fields.specs.declared.spans.TableKind.{TableKind}
use Rattle.conf_keys.specs.declared.conf.PartitionSection.{PartitionSection}
use Rattle.extended_chain.specs.Chain.{record_part, record_parts}
use Rattle.extended_chain.specs.declared.chain.LogicalSpec.{LogicalSpec}
use Rattle.placement.specs.Layouts.{logical_specs}
use Rattle.placement_rules.specs.Claims.{occupies}
use Rattle.placement_rules.specs.Places.{Stood}
use Rattle.table_entries.specs.Entries.{logical_spec_of}
use Rattle.placement_apart.proofs.Claims.{pairs_first, pairs_rest, record_misses, record_occupied}
use Rattle.placement_apart.proofs.Clear.{Passes}
use Rattle.placement_apart.proofs.Own.{IsHead, IsSound, record_at}
use Rattle.placement_apart.proofs.Steps.{all_both}

-- the logical partition of a section in its place
abbrev pub logical_at : PartitionSection → Stood → LogicalSpec
logical_at part s = logical_spec_of part (unwrap_or s.place.head 0) s.place.at s.place.size

-- what holds of a part by its place and its length
abbrev pub AtPlace : (ℕ → ℕ → Type 0) → Part → Type 0
AtPlace Q p = Q p.at p.len

first_or_rest : (Q : ℕ → ℕ → Type 0) (start : ℕ) (c : Bool) (spec : LogicalSpec) (rest : List LogicalSpec) → (c ≡ true → Q (512 * spec.head) 512) → All (AtPlace Q) (record_parts start rest) → All (AtPlace Q) (record_parts start (if c then spec ∷ rest else rest))
first_or_rest Q start true spec rest first others =
    All-cons (AtPlace Q) (record_part start spec (slice_get rest 0)) (record_parts start rest) (first refl) others
first_or_rest Q start false spec rest first others = others

pub records_all : (Q : ℕ → ℕ → Type 0) (start : ℕ) (parts : List PartitionSection) (ss : List Stood) → All (λ s. s.terms.logical ≡ true → Q (record_at s) 512) ss → All (AtPlace Q) (record_parts start (logical_specs parts ss))
records_all Q start [] ss all = All-nil (AtPlace Q)
records_all Q start (part ∷ parts) [] all = All-nil (AtPlace Q)
records_all Q start (part ∷ parts) (s ∷ ss) all =
    let P : Stood → Type 0 = λ r. r.terms.logical ≡ true → Q (record_at r) 512 in
    first_or_rest Q start s.terms.logical (logical_at part s) (logical_specs parts ss)
    (All-head P s ss all) (records_all Q start parts ss (All-tail P s ss all))

-- ---- apart

-- no offset of a record is among so many bytes from a place on
abbrev Clears : ℕ → ℕ → ℕ → Type 0
Clears own at len = (o : ℕ) → (own ≤ o) × (o < own + 512) → ¬ ((at ≤ o) × (o < at + len))

record_clears : (t : TableKind) (z entries_at : ℕ) (s r : Stood) → IsHead s → IsSound t z entries_at r → Passes s r → r.terms.logical ≡ true → Clears (record_at s) (record_at r) 512
record_clears t z entries_at s r head is passes logical o first second =
    record_misses r (occupies s) o passes (is.head logical) second.0 second.1 (record_occupied s o head first.0 first.1)

records_by_test : (start : ℕ) (c : Bool) (spec : LogicalSpec) (rest : List LogicalSpec) → (c ≡ true → All (AtPlace (Clears (512 * spec.head))) (record_parts start rest)) → AreApart (record_parts start rest) → AreApart (record_parts start (if c then spec ∷ rest else rest))
records_by_test start true spec rest first others =
    AllPairs-cons LieApart (record_part start spec (slice_get rest 0)) (record_parts start rest) (first refl) others
records_by_test start false spec rest first others = others

pub records_apart : (t : TableKind) (z entries_at start : ℕ) (parts : List PartitionSection) (ss : List Stood) → All (IsSound t z entries_at) ss → AllPairs Passes ss → AreApart (record_parts start (logical_specs parts ss))
records_apart t z entries_at start [] ss are pairs = λ i j d order inside. absurd (omega arith)
records_apart t z entries_at start (part ∷ parts) [] are pairs = λ i j d order inside. absurd (omega arith)
records_apart t z entries_at start (part ∷ parts) (s ∷ ss) are pairs =
    let P : Stood → Type 0 = IsSound t z entries_at in
    let Q : Stood → Type 0 = λ r. r.terms.logical ≡ true → Clears (record_at s) (record_at r) 512 in
    let others : All P ss = All-tail P s ss are in
    records_by_test start s.terms.logical (logical_at part s) (logical_specs parts ss)
    (λ logical.
    let head : IsHead s = (All-head P s ss are).head logical in
    records_all (Clears (record_at s)) start parts ss
    (all_both P (Passes s) Q (λ r is passes. record_clears t z entries_at s r head is passes) ss others
    (pairs_first Passes s ss pairs)))
    (records_apart t z entries_at start parts ss others (pairs_rest Passes s ss pairs))
