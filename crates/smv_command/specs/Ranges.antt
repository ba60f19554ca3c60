-- The ranges of the numbers of a command.
use Rattle.std.specs.Prelude.{ℕ, ◌≤◌, List}
use Rattle.std.specs.List.{All}
use Rattle.smv_problem.specs.declared.report.Budgets.{Budgets}
use Rattle.smv_command.specs.declared.commands.Command.{Command}
use Rattle.smv_command.specs.declared.commands.Command.TheVariants.{Prove, Only, Print, Generated, Proof, Check, Resume, Confirm, Induct, Ltl}

-- the most beads, the most images, the most copies and the greatest size that a command may ask for
abbrev pub most_nodes : ℕ
most_nodes = 16777216

abbrev pub most_steps : ℕ
most_steps = 100000

abbrev pub most_copies : ℕ
most_copies = 200

abbrev pub most_size : ℕ
most_size = 256

pub record AreInRange (budgets : Budgets) : Type 0 where
  pub some_nodes : 1 ≤ budgets.nodes
  pub few_nodes : budgets.nodes ≤ most_nodes
  pub some_steps : 1 ≤ budgets.steps
  pub few_steps : budgets.steps ≤ most_steps

-- each size is in its range
abbrev pub AreSizes : List ℕ → Type 0
AreSizes sizes = All (λ size. (1 ≤ size) × (size ≤ most_size)) sizes

abbrev pub IsInRange : Command → Type 0
IsInRange (Prove bits budgets) = AreInRange budgets
IsInRange (Only name bits budgets) = AreInRange budgets
IsInRange Print = Unit {0}
IsInRange (Generated copies) = (1 ≤ copies) × (copies ≤ most_copies)
IsInRange (Proof budgets) = AreInRange budgets
IsInRange Check = Unit {0}
IsInRange (Resume budgets) = AreInRange budgets
IsInRange (Confirm name sizes bits budgets) = AreSizes sizes × AreInRange budgets
IsInRange (Induct name var budgets) = AreInRange budgets
IsInRange (Ltl bits budgets) = AreInRange budgets
