use Rattle.std.proofs.Common.{◌∙◌, ap, is_some, sym}
use Rattle.std.specs.Prelude.{option_map}
use Rattle.clap.specs.Matches.{found_of}
use Rattle.clap.specs.Walk.{rows_of}
use Rattle.smv_command.specs.declared.commands.Command.TheVariants.{Confirm}
use Rattle.smv_command.specs.Commands.{both, budgets_in, name_in, sizes_in}
use Rattle.smv_command.proofs.ByName.{no_bits_there}
use Rattle.smv_command.proofs.words.confirm_in.Goals as goal

pub text_in-requires : goal.text_in-requires
text_in-requires c = c.requires.name (ap is_some (sym c.bits_in.ensures ∙ c.in-Some.is))

pub sizes_in-requires : goal.sizes_in-requires
sizes_in-requires c = c.requires.sizes (ap is_some (sym c.bits_in.ensures ∙ c.in-Some.is))

pub budgets_in-budgets-requires : goal.budgets_in-budgets-requires
budgets_in-budgets-requires c = c.requires.budgets (ap is_some (sym c.bits_in.ensures ∙ c.in-Some.is))

pub returns-in_ok-sizes-in-Some : goal.returns-in_ok-sizes-in-Some
returns-in_ok-sizes-in-Some c =
    λ i. option_map (λ p. Confirm p.0 p.1.0 p.1.1.0 p.1.1.1)
    (both (c.in_ok-name-in-Some.ensures i) (both (c.in_ok-sizes-in-Some.ensures i) (both ((sym c.bits_in.ensures ∙ c.in-Some.is) i) (c.budgets_in-budgets.ensures i))))

pub returns-in-None : goal.returns-in-None
returns-in-None c =
    let rows = rows_of (found_of c.args.matches.now) in
    ap (λ b. option_map (λ p. Confirm p.0 p.1.0 p.1.1.0 p.1.1.1) (both (name_in rows) (both (sizes_in rows) (both b (budgets_in rows))))) (sym c.bits_in.ensures ∙ c.in-None.is)
    ∙ no_bits_there (name_in rows) (sizes_in rows) (budgets_in rows)
