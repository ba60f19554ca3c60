use Rattle.std.proofs.Common.{◌≡◌, ◌++◌, drop}
use Rattle.law_obligations.specs.LeafCases as leaf
use Rattle.law_obligations.specs.LeafCases.{treatments_of}
use Rattle.smv_cases.specs.Slots.{parameters_of, AreSlots}
use Rattle.smv_cases.proofs.slots.slots.Given as goal

abbrev pub invariant-loop-param : goal.invariant-loop-param
invariant-loop-param l = record {
  parameters : parameters_of l.slots.items ++ leaf.parameters_of l.keeps (drop l.param-index l.params) ≡ leaf.parameters_of l.keeps l.params;
  treatments : AreSlots (treatments_of l.keeps 0 l.sets) l.slots.items;
}
