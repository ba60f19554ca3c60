-- What the builders make: clap's arguments and commands, by what a parse reads of them; and what its matches give.
use Rattle.std.specs.Prelude.{◌≡◌, true, false, [], List, Option, Some, None, is_some}
use Rattle.clap.specs.Walk.{Row, Rule, Text, rule_of}
use Rattle.clap.specs.Simple.{Shape, app_of}
use Rattle.clap.specs.declared.builder.arg.Arg.{Arg}
use Rattle.clap.specs.declared.builder.command.Command.{Command}
use Rattle.clap.specs.declared.builder.command.Command.TheViews.{out-Command}
use Rattle.smv_command.specs.Commands.{misnames, named}

-- an argument of this level alone, with this rule
pub record HasRule (rule : Rule) (arg : Arg) : Type 0 where
  pub read : rule_of arg ≡ rule
  pub local : arg.global ≡ false

-- a command without subcommands, of this shape
pub record HasShape (shape : Shape) (command : Command) : Type 0 where
  pub app : app_of command ≡ record { top = shape; subs = [] }
  pub local : (out-Command command).has_globals ≡ false

-- the subcommand and its values make a command, unless bits are named by none of their words
abbrev pub IsGiven : Option (Text × List Row) → Type 0
IsGiven None = ⊥
IsGiven (Some found) = misnames found.0 found.1 ≡ false → is_some (named found.0 found.1) ≡ true
