-- The command line as clap is told of it, in clap's own terms: one level of subcommands, of which one has to be there.
use Rattle.std.specs.Prelude.{ℕ, pos, Some, List, [], ◌∷◌, codes, true, false}
use Rattle.clap.specs.Lexer.{usize_max}
use Rattle.clap.specs.Walk.{Rule, Text}
use Rattle.clap.specs.Simple.{App, Shape, new_rule, new_shape}
use Rattle.clap.specs.declared.builder.value_parser.ValueParser.TheVariants.{Signed}
use Rattle.smv_command.specs.Ranges.{most_nodes, most_steps, most_copies, most_size}

-- a rule whose value is a number from 1 to `most`
abbrev pub numbered : ℕ → Rule → Rule
numbered most rule = record rule { parser = Some (Signed (pos 1) (pos most)) }

-- an argument that has to be there, at its place
abbrev pub positional : Text → Rule
positional id = record (new_rule id) { required = true }

-- an option `--id NUMBER` with its default
abbrev pub option : Text → ℕ → Text → Rule
option id most default = record (numbered most (new_rule id)) { long = Some id; defaults = default ∷ [] }

-- an option `--bits WORD`; clap takes any word, and `Commands` says which ones are
abbrev pub bits : Rule
bits = record (new_rule (codes "bits")) { long = Some (codes "bits"); defaults = codes "near" ∷ [] }

abbrev pub nodes : Rule
nodes = option (codes "nodes") most_nodes (codes "1000000")

abbrev pub steps : Rule
steps = option (codes "steps") most_steps (codes "1000")

abbrev pub name : Rule
name = positional (codes "NAME")

abbrev pub var : Rule
var = positional (codes "VAR")

abbrev pub copies : Rule
copies = numbered most_copies (positional (codes "N"))

-- one word or more, which may be left out
abbrev pub sizes : Rule
sizes = record (numbered most_size (new_rule (codes "SIZE"))) { range = Some (record { start_inclusive = 1; end_inclusive = usize_max }) }

abbrev pub subcommand : Text → List Rule → Shape
subcommand word rules = record (new_shape word) { rules = rules }

abbrev pub prove : Shape
prove = subcommand (codes "prove") (bits ∷ nodes ∷ steps ∷ [])

abbrev pub only : Shape
only = subcommand (codes "only") (name ∷ bits ∷ nodes ∷ steps ∷ [])

abbrev pub print : Shape
print = subcommand (codes "print") []

abbrev pub generated : Shape
generated = subcommand (codes "generated") (copies ∷ [])

abbrev pub proof : Shape
proof = subcommand (codes "proof") (nodes ∷ steps ∷ [])

abbrev pub check : Shape
check = subcommand (codes "check") []

abbrev pub resume : Shape
resume = subcommand (codes "resume") (nodes ∷ steps ∷ [])

abbrev pub confirm : Shape
confirm = subcommand (codes "confirm") (name ∷ sizes ∷ bits ∷ nodes ∷ steps ∷ [])

abbrev pub induct : Shape
induct = subcommand (codes "induct") (name ∷ var ∷ nodes ∷ steps ∷ [])

abbrev pub ltl : Shape
ltl = subcommand (codes "ltl") (bits ∷ nodes ∷ steps ∷ [])

-- no program's name stands before the words, a subcommand is required, and nothing asks for help or the version
abbrev pub bare : Shape
bare = record (new_shape (codes "smv")) {
  no_binary_name = true;
  disable_help_flag = true;
  disable_help_subcommand = true;
  disable_version_flag = true;
  subcommand_required = true;
}

abbrev pub smv : App
smv = record { top = record bare { is_leaf = false }; subs = prove ∷ only ∷ print ∷ generated ∷ proof ∷ check ∷ resume ∷ confirm ∷ induct ∷ ltl ∷ [] }
