use Rattle.std.proofs.Common.{◌≡◌, subst}
use Rattle.std.specs.Prelude.{IfOk}
use Rattle.smv_core.specs.declared.flat.Design.{Design}
use Rattle.smv_first_fault.specs.Firsts.{least}
use Rattle.law_obligations.specs.Units.{units_of}
use Rattle.smv_look_uses.specs.Chosen.{all_before, said_in}
use Rattle.smv_look_uses.proofs.chosen.chosen_first.Goals as goal

pub returns : goal.returns
returns c = subst (λ (d : Design). IfOk c.first_in.result (λ place. place ≡ least (all_before c.args.at d (units_of d) (said_in d)))) c.in_ok-design.ensures c.first_in.ensures
