use Rattle.smv_chosen_table.proofs.TableLaws.{base-pushed, pushed-long}
use Rattle.smv_chosen_table.proofs.base_defs.Goals as goal

pub loop-family-preserved : goal.loop-family-preserved
loop-family-preserved c = (
  pushed-long c.loop-family.table.items c.push.new.self.items c.base_at.result c.loop-family.family c.loop-family.invariant.0 c.in_ok-push.ensures.items,
  base-pushed c.args.design.now c.loop-family.table.items c.push.new.self.items c.base_at.result c.loop-family.family c.loop-family.invariant.0 c.loop-family.invariant.1 c.base_at.ensures c.in_ok-push.ensures.items,
)

pub returns : goal.returns
returns c = c.loop-family.invariant.1
