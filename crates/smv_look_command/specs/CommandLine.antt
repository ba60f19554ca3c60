-- The command line as clap is told of it, in clap's own terms: one level of subcommands, of which one has to be there.
use Rattle.std.specs.Prelude.{[], ◌∷◌, codes, true, false}
use Rattle.clap.specs.Walk.{Rule}
use Rattle.clap.specs.Simple.{App, Shape, new_rule, new_shape}
use Rattle.smv_command.specs.CommandLine.{nodes, numbered, positional, steps, subcommand}

abbrev pub name : Rule
name = positional (codes "NAME")

-- the number of a case: the first, where none is given; a leaf has at most 4,096
abbrev pub case : Rule
case = record (numbered 4096 (new_rule (codes "CASE"))) { defaults = codes "1" ∷ [] }

-- the same where all cases are meant if none is given
abbrev pub any_case : Rule
any_case = numbered 4096 (new_rule (codes "CASE"))

abbrev pub list : Shape
list = subcommand (codes "list") []

abbrev pub cone : Shape
cone = subcommand (codes "cone") (name ∷ case ∷ [])

abbrev pub lint : Shape
lint = subcommand (codes "lint") []

abbrev pub explain : Shape
explain = subcommand (codes "explain") []

-- with the budgets of `prove`
abbrev pub sets : Shape
sets = subcommand (codes "sets") (name ∷ any_case ∷ nodes ∷ steps ∷ [])

abbrev pub front : Shape
front = subcommand (codes "front") []

abbrev pub aiger : Shape
aiger = subcommand (codes "aiger") (name ∷ case ∷ [])

-- no program's name stands before the words, a subcommand is required, and nothing asks for help or the version
abbrev pub bare : Shape
bare = record (new_shape (codes "smv_look")) {
  no_binary_name = true;
  disable_help_flag = true;
  disable_help_subcommand = true;
  disable_version_flag = true;
  subcommand_required = true;
}

abbrev pub smv_look : App
smv_look = record { top = record bare { is_leaf = false }; subs = list ∷ cone ∷ lint ∷ explain ∷ sets ∷ front ∷ aiger ∷ [] }
