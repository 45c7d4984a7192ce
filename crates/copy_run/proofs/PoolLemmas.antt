-- What a run makes of the pool of its buffer.
use Rattle.std.proofs.Common.{◌≡◌, ◌<◌, ◌≤◌, ℕ, Bool, false, true, List, get_or, set, refl, ap, subst, sym, ◌∙◌}
use Rattle.std.proofs.lemmas.List.{set-get_or, set-set}
use Rattle.region_pool.specs.Buffers.{Buffers, Held, IsLeaseOf, free_of, given}
use Rattle.copier.specs.Copiers.{Copying}
use Rattle.copier_course.specs.declared.jobs.CopyJob.{CopyJob}
use Rattle.copier.specs.Pools.{HasBuffer, Takes, UsesSlot}

-- ---- uses of one slot
pub no_use : (slot : ℕ) (p : Buffers) → UsesSlot slot p p
no_use slot p = record { same = refl; as_many = refl; others = λ other differs. refl }

pub uses_then : (slot : ℕ) (old mid new : Buffers) → UsesSlot slot old mid → UsesSlot slot mid new → UsesSlot slot old new
uses_then slot old mid new first second = record {
  same = second.same ∙ ap (λ (p : Buffers). record p { slots = new.slots }) first.same;
  as_many = second.as_many ∙ first.as_many;
  others = λ other differs. second.others other differs ∙ first.others other differs;
}

lease_stays : (l : Held) (slot : ℕ) (old new : Buffers) → UsesSlot slot old new → IsLeaseOf l old → IsLeaseOf l new
lease_stays l slot old new uses held = record {
  tag = held.tag ∙ sym (ap (λ (p : Buffers). p.tag) uses.same);
  there = subst (λ (n : ℕ). l.slot < n) (sym uses.as_many) held.there;
  out = ap (λ (p : Buffers). get_or p.out l.slot false) uses.same ∙ held.out;
}

pub leased_still : (v : Copying) (l : Held) (slot : ℕ) (old new : Buffers) → l ≡ v.lease → UsesSlot slot old new → HasBuffer v old → IsLeaseOf l new
leased_still v l slot old new same uses has = subst (λ (x : Held). IsLeaseOf x new) (sym same) (lease_stays v.lease slot old new uses has.lease)

pub buffer_stays : (v w : Copying) (slot : ℕ) (old new : Buffers) → w.job ≡ v.job → w.lease ≡ v.lease → UsesSlot slot old new → HasBuffer v old → HasBuffer w new
buffer_stays v w slot old new job lease uses has = record {
  lease = leased_still v w.lease slot old new lease uses has;
  room = subst (λ (n : ℕ). w.job.id.unit ≤ n) (sym (ap (λ (p : Buffers). p.size) uses.same)) (subst (λ (x : CopyJob). x.id.unit ≤ old.size) (sym job) has.room);
}

-- ---- the pool: what was taken is given back
taken_back : (out : List Bool) (slot : ℕ) → get_or out slot true ≡ false → set (set out slot true) slot false ≡ out
taken_back out slot free =
    set-set out slot true false ∙ subst (λ (b : Bool). set out slot b ≡ out) free (set-get_or out slot true)

pub run_free : (copier : Copying) (slot : ℕ) (old mid last : Buffers) → Takes copier old mid → UsesSlot copier.lease.slot mid last → slot ≡ copier.lease.slot →
    free_of (given last slot) ≡ free_of old
run_free copier slot old mid last takes uses same =
    let out : last.out ≡ set old.out slot true = ap (λ (p : Buffers). p.out) uses.same ∙ ap (λ (p : Buffers). p.out) takes.pool ∙ ap (λ (n : ℕ). set old.out n true) (sym same) in
    let free : get_or old.out slot true ≡ false = subst (λ (n : ℕ). get_or old.out n true ≡ false) (sym same) takes.free.free in
    let back : set last.out slot false ≡ old.out = ap (λ (l : List Bool). set l slot false) out ∙ taken_back old.out slot free in
    ap (λ (l : List Bool). free_of (record old { out = l })) back
