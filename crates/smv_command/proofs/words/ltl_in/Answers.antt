use Rattle.std.proofs.Common.{◌∙◌, Option, ap, ap₂, is_some, sym}
use Rattle.std.specs.Prelude.{option_map}
use Rattle.clap.specs.Matches.{found_of}
use Rattle.clap.specs.Walk.{rows_of}
use Rattle.smv_bits.specs.declared.Bits.{Bits}
use Rattle.smv_problem.specs.declared.report.Budgets.{Budgets}
use Rattle.smv_command.specs.declared.commands.Command.TheVariants.{Ltl}
use Rattle.smv_command.specs.Commands.{both, budgets_in}
use Rattle.smv_command.proofs.words.ltl_in.Goals as goal

pub budgets_in-budgets-requires : goal.budgets_in-budgets-requires
budgets_in-budgets-requires c = c.requires (ap is_some (sym c.bits_in.ensures ∙ c.in-Some.is))

pub returns-in-Some : goal.returns-in-Some
returns-in-Some c = sym (ap₂ (λ (b : Option Bits) (n : Option Budgets). option_map (λ p. Ltl p.0 p.1) (both b n)) (sym c.bits_in.ensures ∙ c.in-Some.is) c.budgets_in-budgets.ensures)

pub returns-in-None : goal.returns-in-None
returns-in-None c = sym (ap (λ (b : Option Bits). option_map (λ p. Ltl p.0 p.1) (both b (budgets_in (rows_of (found_of c.args.matches.now))))) (sym c.bits_in.ensures ∙ c.in-None.is))
