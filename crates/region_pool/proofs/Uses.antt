-- What a pool stays through uses that give back what they leased.
use Rattle.std.proofs.Common.{◌<◌, ℕ, false, get_or, ◌∙◌, refl, sym, ap, subst}
use Rattle.region_pool.specs.Buffers.{Buffers, Held, IsLeaseOf}
use Rattle.region_pool.specs.Uses.{IsGivenBack}

-- a lease that is held meanwhile is one of the pool still
pub still_leased_through : (l : Held) (old new : Buffers) → IsGivenBack old new → IsLeaseOf l old → IsLeaseOf l new
still_leased_through l old new through held = record {
  tag = held.tag ∙ sym (ap (λ (p : Buffers). p.tag) through.same);
  there = subst (λ (n : ℕ). l.slot < n) (sym through.as_many) held.there;
  out = ap (λ (p : Buffers). get_or p.out l.slot false) through.same ∙ held.out;
}

-- no use, and two uses one behind the other
pub unused : (p : Buffers) → IsGivenBack p p
unused p = record { same = refl; as_many = refl; kept = λ l held. refl }

pub used_again : (old mid new : Buffers) → IsGivenBack old mid → IsGivenBack mid new → IsGivenBack old new
used_again old mid new first second = record {
  same = second.same ∙ ap (λ (p : Buffers). record p { slots = new.slots }) first.same;
  as_many = second.as_many ∙ first.as_many;
  kept = λ l held. second.kept l (still_leased_through l old mid first held) ∙ first.kept l held;
}
