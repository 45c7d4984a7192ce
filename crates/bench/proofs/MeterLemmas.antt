-- What the calls on a bench cost together.
use Rattle.std.proofs.Common.{ℕ, ◌+◌, ◌≤◌, ◌∙◌, arith}
use Rattle.bench.specs.declared.Dev.{Dev}
use Rattle.bench.specs.declared.Dev.TheVariants.{Target, Journal}
use Rattle.bench.specs.Meter.{Meter, Bills, Costs, CostsOn, SameNames}

-- the cost of one call
pub bills_costs : (dev : Dev) {more : ℕ} {a b : Meter} → Bills dev more a b → Costs (32 + more) a b
bills_costs Target {more} {a} {b} bill = record {
  target = bill.none_fell;
  journal = omega (arith, bill.other);
  no_less = bill.no_less;
  work = omega (arith, bill.work);
  room = bill.room;
  sure = bill.sure;
}
bills_costs Journal {more} {a} {b} bill = record {
  target = omega (arith, bill.other);
  journal = bill.none_fell;
  no_less = bill.no_less;
  work = omega (arith, bill.work);
  room = bill.room;
  sure = bill.sure;
}

-- the cost of two
pub costs_then : {m n : ℕ} {a b c : Meter} → Costs m a b → Costs n b c → Costs (m + n) a c
costs_then {m} {n} {a} {b} {c} first second = record {
  target = omega (arith, first.target, second.target);
  journal = omega (arith, first.journal, second.journal);
  no_less = omega (arith, first.no_less, second.no_less);
  work = omega (arith, first.work, second.work);
  room = second.room ∙ first.room;
  sure = second.sure ∙ first.sure;
}

-- a cost with more allowed
pub costs_so : {m n : ℕ} {a b : Meter} → Costs m a b → m ≤ n → Costs n a b
costs_so {m} {n} {a} {b} costs more = record {
  target = costs.target;
  journal = costs.journal;
  no_less = costs.no_less;
  work = omega (arith, costs.work, more);
  room = costs.room;
  sure = costs.sure;
}

-- names that stay, and stay again
pub same_names_then : {a b c : Meter} → SameNames a b → SameNames b c → SameNames a c
same_names_then {a} {b} {c} first second = record { attached = second.attached ∙ first.attached; name = second.name ∙ first.name }

-- the cost of one call, on its device
pub bills_costs_on : {dev : Dev} {more : ℕ} {a b : Meter} → Bills dev more a b → CostsOn dev (32 + more) a b
bills_costs_on {dev} {more} {a} {b} bill = record {
  none_fell = bill.none_fell;
  other = bill.other;
  no_less = bill.no_less;
  work = omega (arith, bill.work);
  room = bill.room;
  sure = bill.sure;
}

-- the cost of two on one device
pub costs_on_then : {dev : Dev} {m n : ℕ} {a b c : Meter} → CostsOn dev m a b → CostsOn dev n b c → CostsOn dev (m + n) a c
costs_on_then {dev} {m} {n} {a} {b} {c} first second = record {
  none_fell = omega (arith, first.none_fell, second.none_fell);
  other = second.other ∙ first.other;
  no_less = omega (arith, first.no_less, second.no_less);
  work = omega (arith, first.work, second.work);
  room = second.room ∙ first.room;
  sure = second.sure ∙ first.sure;
}

-- a cost on one device with more allowed
pub costs_on_so : {dev : Dev} {m n : ℕ} {a b : Meter} → CostsOn dev m a b → m ≤ n → CostsOn dev n a b
costs_on_so {dev} {m} {n} {a} {b} costs more = record {
  none_fell = costs.none_fell;
  other = costs.other;
  no_less = costs.no_less;
  work = omega (arith, costs.work, more);
  room = costs.room;
  sure = costs.sure;
}

-- a cost on one device is a cost
pub costs_on_costs : (dev : Dev) {most : ℕ} {a b : Meter} → CostsOn dev most a b → Costs most a b
costs_on_costs Target {most} {a} {b} costs = record {
  target = costs.none_fell;
  journal = omega (arith, costs.other);
  no_less = costs.no_less;
  work = costs.work;
  room = costs.room;
  sure = costs.sure;
}
costs_on_costs Journal {most} {a} {b} costs = record {
  target = omega (arith, costs.other);
  journal = costs.none_fell;
  no_less = costs.no_less;
  work = costs.work;
  room = costs.room;
  sure = costs.sure;
}
