use Rattle.std.specs.Prelude.{option_map}
use Rattle.smv_command.specs.declared.commands.Command.TheVariants.{Induct}
use Rattle.smv_command.specs.Commands.{both}
use Rattle.smv_command.proofs.words.induct_in.Goals as goal

pub text_in-requires : goal.text_in-requires
text_in-requires c = c.requires.name

pub text_in-requires-2 : goal.text_in-requires-2
text_in-requires-2 c = c.requires.var

pub budgets_in-budgets-requires : goal.budgets_in-budgets-requires
budgets_in-budgets-requires c = c.requires.budgets

pub returns : goal.returns
returns c = λ i. option_map (λ p. Induct p.0 p.1.0 p.1.1) (both (c.in_ok-name.ensures i) (both (c.in_ok-var.ensures i) (c.budgets_in-budgets.ensures i)))
