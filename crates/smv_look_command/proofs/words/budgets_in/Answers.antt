use Rattle.std.proofs.Common.{◌≡◌, Option, ap₂, arith, codes, true}
use Rattle.std.specs.Prelude.{option_map}
use Rattle.clap.specs.Matches.{found_of}
use Rattle.clap.specs.Walk.{Row, rows_of}
use Rattle.std.proofs.Common.{ℕ, List, is_some}
use Rattle.smv_command.specs.Commands.{both, budgets_in, number_in}
use Rattle.smv_problem.specs.declared.report.Budgets.{Budgets}
use Rattle.smv_command.specs.Ranges.{most_nodes, most_steps}
use Rattle.smv_command.proofs.Values.{both_some, map_some}
use Rattle.smv_look_command.proofs.words.budgets_in.Goals as goal

abbrev made : ℕ × ℕ → Budgets
made p = record { nodes = p.0; steps = p.1 }

parts : (rows : List Row) → is_some (budgets_in rows) ≡ true
    → (is_some (number_in most_nodes (codes "nodes") rows) ≡ true) × (is_some (number_in most_steps (codes "steps") rows) ≡ true)
parts rows e = both_some (number_in most_nodes (codes "nodes") rows) (number_in most_steps (codes "steps") rows) (map_some made _ e)

pub budget_in-requires : goal.budget_in-requires
budget_in-requires c = (most_nodes, omega arith, (parts (rows_of (found_of c.args.matches.now)) c.requires).0)

pub budget_in-requires-2 : goal.budget_in-requires-2
budget_in-requires-2 c = (most_steps, omega arith, (parts (rows_of (found_of c.args.matches.now)) c.requires).1)

pub returns : goal.returns
returns c =
    let given = parts (rows_of (found_of c.args.matches.now)) c.requires in
    ap₂ (λ (x : Option ℕ) (y : Option ℕ). option_map made (both x y)) (c.budget_in.ensures most_nodes given.0) (c.budget_in-2.ensures most_steps given.1)
