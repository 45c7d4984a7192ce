use Rattle.std.proofs.Common.{◌≡◌, Bool, not, List, take, position, Some, IsNone, sym, ◌∙◌, refl, ap, is_some, arith}
use Rattle.region_pool.proofs.Slots.{take-set-any, free_taken, first_is_free, found_there, marked_out, marked_back, position-none}
use Rattle.region_pool.proofs.Pieces.{length-pieces}
use Rattle.region_pool.proofs.pool.Pool.lease.Goals as goal

pub returns-in_default-clause-none : goal.returns-in_default-clause-none
returns-in_default-clause-none c =
    let marks : List Bool = take c.self.inside.count c.self.inside.out in
    let same : position not (take c.self.inside.count c.self.inside.out) ≡ c.first_free.result = sym c.first_free.ensures in
    let none : IsNone (position not marks) = ap is_some (same ∙ c.in_default.is) in
    rw (← c.self.view_is) (λ n. (position-none marks).0 none, λ z. refl)

pub returns-clause-none : goal.returns-clause-none
returns-clause-none c =
    let marks : List Bool = take c.self.inside.count c.self.inside.out in
    let same : position not (take c.self.inside.count c.self.inside.out) ≡ c.first_free.result = sym c.first_free.ensures in
    let found : position not marks ≡ Some c.in-Some.slot = same ∙ c.in-Some.is in
    rw (← c.self.view_is) (λ n. cc, λ z. ap is_some (sym found) ∙ (position-none marks).1 z)

pub returns-clause-was_free : goal.returns-clause-was_free
returns-clause-was_free c =
    let same : position not (take c.self.inside.count c.self.inside.out) ≡ c.first_free.result = sym c.first_free.ensures in
    let found : position not (take c.self.inside.count c.self.inside.out) ≡ Some c.in-Some.slot = same ∙ c.in-Some.is in
    let free = first_is_free (take c.self.inside.count c.self.inside.out) c.in-Some.slot found in
    rw (← c.self.view_is) (record { there = omega (arith, found_there c.self.inside.count c.in-Some.slot c.self.inside.out free, length-pieces c.self.inside.size c.self.inside.count c.self.inside.block); free = free })

pub returns-clause-held : goal.returns-clause-held
returns-clause-held c =
    let same : position not (take c.self.inside.count c.self.inside.out) ≡ c.first_free.result = sym c.first_free.ensures in
    let found : position not (take c.self.inside.count c.self.inside.out) ≡ Some c.in-Some.slot = same ∙ c.in-Some.is in
    let free = first_is_free (take c.self.inside.count c.self.inside.out) c.in-Some.slot found in
    record { tag = refl; there = omega (arith, found_there c.self.inside.count c.in-Some.slot c.self.inside.out free, length-pieces c.self.inside.size c.self.inside.count c.self.inside.block); out = marked_out c.self.inside.count c.in-Some.slot c.self.inside.out free }

pub returns-clause-out : goal.returns-clause-out
returns-clause-out c = rw (← c.self.view_is) (simp take-set-any)

pub returns-clause-fewer : goal.returns-clause-fewer
returns-clause-fewer c =
    let same : position not (take c.self.inside.count c.self.inside.out) ≡ c.first_free.result = sym c.first_free.ensures in
    let found : position not (take c.self.inside.count c.self.inside.out) ≡ Some c.in-Some.slot = same ∙ c.in-Some.is in
    rw (← c.self.view_is) (free_taken c.self.inside.count c.in-Some.slot c.self.inside.out (first_is_free _ c.in-Some.slot found))

pub returns-clause-back : goal.returns-clause-back
returns-clause-back c =
    let same : position not (take c.self.inside.count c.self.inside.out) ≡ c.first_free.result = sym c.first_free.ensures in
    let found : position not (take c.self.inside.count c.self.inside.out) ≡ Some c.in-Some.slot = same ∙ c.in-Some.is in
    let free = first_is_free (take c.self.inside.count c.self.inside.out) c.in-Some.slot found in
    rw (← c.self.view_is, marked_back c.self.inside.count c.in-Some.slot c.self.inside.out free) refl
