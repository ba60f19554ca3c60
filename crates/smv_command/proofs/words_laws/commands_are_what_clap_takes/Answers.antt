use Rattle.std.proofs.Common.{◌≡◌, ◌∙◌, List, [], ◌∷◌, Option, Some, None, ap, is_some, refl, sym, true, true≢false}
use Rattle.std.specs.Prelude.{option_and_then}
use Rattle.clap.specs.Kinds.{Kinds}
use Rattle.clap.specs.Walk.{Row, Text}
use Rattle.clap.specs.Simple.{subcommand_of}
use Rattle.clap.specs.Faults.{fault_of}
use Rattle.smv_command.specs.CommandLine.{smv}
use Rattle.smv_command.specs.Built.{IsGiven}
use Rattle.smv_command.specs.Commands.{AreTaken, NamesBits, command_of, where_faultless, named}
use Rattle.smv_command.specs.declared.commands.Command.{Command}
use Rattle.smv_command.proofs.ByName.{some_names_bits}
use Rattle.smv_command.proofs.Taken.{taken_given}
use Rattle.smv_command.proofs.words_laws.commands_are_what_clap_takes.Goals as goal

chosen : List Text → Option Command
chosen words = option_and_then (λ found. named found.0 found.1) (subcommand_of smv words)

only_faultless : (ks : Kinds) (o : Option Command) → is_some (where_faultless ks o) ≡ true → ks ≡ []
only_faultless [] o e = refl
only_faultless (k ∷ ks) o e = absurd (true≢false (sym e))

-- what is given and names its bits is a command
some_given : (o : Option (Text × List Row)) → IsGiven o → NamesBits o → is_some (option_and_then (λ found. named found.0 found.1) o) ≡ true
some_given None given names = absurd given
some_given (Some found) given names = given names

-- and a command names its bits
some_named : (o : Option (Text × List Row)) → is_some (option_and_then (λ found. named found.0 found.1) o) ≡ true → NamesBits o
some_named None e = tt
some_named (Some found) e = some_names_bits found.0 found.1 e

taken_is : (words : List Text) → AreTaken words → is_some (command_of words) ≡ true
unfolding command_of
taken_is words (e, names) =
    ap (λ (ks : Kinds). is_some (where_faultless ks (option_and_then (λ found. named found.0 found.1) (subcommand_of smv words)))) e
    ∙ some_given (subcommand_of smv words) (taken_given words e) names

is_taken : (words : List Text) → is_some (command_of words) ≡ true → AreTaken words
unfolding command_of
is_taken words e =
    let none = only_faultless (fault_of smv words) (option_and_then (λ found. named found.0 found.1) (subcommand_of smv words)) e in
    (none, some_named (subcommand_of smv words) (ap (λ (ks : Kinds). is_some (where_faultless ks (option_and_then (λ found. named found.0 found.1) (subcommand_of smv words)))) (sym none) ∙ e))

pub returns : goal.returns
returns c words = (is_taken words, taken_is words)
