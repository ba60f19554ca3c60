use Rattle.std.proofs.Common.{◌+◌, ◌++◌, drop, ◌∙◌, ap, sym, subst, arith}
use Rattle.law_lists.proofs.Places.{get_read}
use Rattle.smv_core.specs.declared.flat.Param.{Param}
use Rattle.law_obligations.specs.LeafCases as leaf
use Rattle.law_obligations.specs.LeafCases.{treatments_of, stays}
use Rattle.smv_cases.specs.Slots.{parameter_of, parameters_of, AreSlots}
use Rattle.smv_cases.proofs.SlotLaws.{slots_more, parameters_more, made}
use Rattle.smv_cases.proofs.slots.slots.Goals as goal

pub loop-param-preserved : goal.loop-param-preserved
loop-param-preserved c = record {
  parameters = ap (λ xs. parameters_of xs ++ leaf.parameters_of c.args.keeps.now (drop (c.loop-param.param-index + 1) c.args.params.now)) c.in_ok-push.ensures.items
      ∙ parameters_more parameter_of (λ (p : Param). record { over = p.over; listed = stays c.args.keeps.now p.over p.var }) c.loop-param.slots.items c.slot_of.result c.args.params.now c.loop-param.param-index c.param-item.result
      (get_read c.args.params.now c.loop-param.param-index c.param-item.result (omega (arith, c.loop-param-test.true)) c.param-item.is)
      (made c.slot_of.result c.param-item.result.over (stays c.args.keeps.now c.param-item.result.over c.param-item.result.var) c.slot_of.ensures.over c.slot_of.ensures.listed) c.loop-param.invariant.parameters;
  treatments = subst (AreSlots (treatments_of c.args.keeps.now 0 c.args.sets.now)) (sym c.in_ok-push.ensures.items)
      (slots_more (treatments_of c.args.keeps.now 0 c.args.sets.now) c.loop-param.slots.items c.slot_of.result c.loop-param.invariant.treatments c.slot_of.ensures.treatment);
}
