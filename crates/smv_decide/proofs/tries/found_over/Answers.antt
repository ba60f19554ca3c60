use Rattle.std.proofs.Common.{refl}
use Rattle.smv_rings.specs.Lists.{lists_of}
use Rattle.smv_decide.proofs.Deciding.{reached_in}
use Rattle.smv_decide.proofs.tries.found_over.Goals as goal

pub returns-in_ok-states-in-Reaches : goal.returns-in_ok-states-in-Reaches
returns-in_ok-states-in-Reaches c = λ case e well. (
  c.in-Reaches.depth,
  reached_in c.args.store.now (lists_of c.args.store.now c.args.rel.now) (lists_of c.args.store.now c.args.rel.now) c.args.budgets.nodes c.args.budgets.steps c.in-Reaches.depth c.args.outcome c.in-Reaches.rings c.requires.found c.in-Reaches.is refl,
  c.in_ok-states-in-Reaches.ensures.shortest case e well,
)
