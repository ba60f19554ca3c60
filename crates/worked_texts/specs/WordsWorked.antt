-- Worked words. The words of a row are written as one text, with a blank between two of them: so two blanks in a row, or one at an end, stand beside an empty word.
use Rattle.std.specs.Prelude.{◌≡◌, ℕ, List, [], ◌∷◌, map, codes, Some, None, ◌==◌, if◌then◌else◌}
use Rattle.clap.specs.Walk.{Text}
use Rattle.smv_bits.specs.declared.Bits.TheVariants.{Near, Declared}
use Rattle.smv_command.specs.declared.commands.Command.{Command}
use Rattle.smv_command.specs.declared.commands.Command.TheVariants.{Prove, Only, Print, Generated, Confirm, Induct, Ltl}
use Rattle.smv_command.specs.Commands.{command_of}

abbrev pub in_first : ℕ → List Text → List Text
in_first byte [] = (byte ∷ []) ∷ []
in_first byte (word ∷ words) = (byte ∷ word) ∷ words

-- the words of a text, between its blanks
abbrev pub words_of : List ℕ → List Text
words_of [] = [] ∷ []
words_of (byte ∷ bytes) = if byte == 32 then [] ∷ words_of bytes else in_first byte (words_of bytes)

abbrev pub AreNone : List Text → Type 0
AreNone rows = map (λ row. command_of (words_of row)) rows ≡ map (λ row. None) rows

abbrev pub AreCommands : List (Text × Command) → Type 0
AreCommands rows = map (λ row. command_of (words_of row.0)) rows ≡ map (λ row. Some row.1) rows

-- no command's name, or an argument that is missing or too many
abbrev pub no_commands : List Text
no_commands =
    []
    ∷ codes " prove"
    ∷ codes "-- prove"
    ∷ codes "--"
    ∷ codes "Prove"
    ∷ codes "prov"
    ∷ codes "help"
    ∷ codes "help prove"
    ∷ codes "only"
    ∷ codes "generated"
    ∷ codes "prove p"
    ∷ codes "prove "
    ∷ codes "print p"
    ∷ codes "only p q"
    ∷ codes "induct p"
    ∷ codes "induct p i j"
    ∷ codes "ltl p"
    ∷ codes "generated 5 6"
    ∷ []

-- options that there are not, that have no value, or that stand twice
abbrev pub other_options : List Text
other_options =
    codes "--help"
    ∷ codes "-h"
    ∷ codes "--version"
    ∷ codes "-V"
    ∷ codes "prove --help"
    ∷ codes "prove -h"
    ∷ codes "prove -- --"
    ∷ codes "prove -- --nodes 5"
    ∷ codes "prove --node 5"
    ∷ codes "prove --NODES 5"
    ∷ codes "prove -n 5"
    ∷ codes "prove --nodes"
    ∷ codes "prove --nodes="
    ∷ codes "prove --nodes "
    ∷ codes "prove --nodes --steps 5"
    ∷ codes "prove --nodes 5 --steps"
    ∷ codes "prove --nodes --"
    ∷ codes "prove --nodes -- 5"
    ∷ codes "prove --nodes 5 --nodes 5"
    ∷ codes "prove --nodes 5 --nodes=5"
    ∷ []

-- numbers outside their range, or not spelled as such
abbrev pub other_numbers : List Text
other_numbers =
    codes "prove --nodes 0"
    ∷ codes "prove --nodes==5"
    ∷ codes "prove --nodes -1"
    ∷ codes "prove --nodes=-1"
    ∷ codes "prove --nodes -0"
    ∷ codes "prove --nodes=-0"
    ∷ codes "prove --nodes ++5"
    ∷ codes "prove --nodes 1_000"
    ∷ codes "prove --nodes 0x10"
    ∷ codes "prove --nodes 16777217"
    ∷ codes "prove --nodes 4294967295"
    ∷ codes "prove --nodes 4294967296"
    ∷ codes "prove --nodes 18446744073709551616"
    ∷ codes "prove --steps 0"
    ∷ codes "prove --steps 100001"
    ∷ codes "generated 0"
    ∷ codes "generated 201"
    ∷ []

-- bits that are named by none of their words, not at all, twice, or where a command has none
abbrev pub other_bits : List Text
other_bits =
    codes "prove --bits"
    ∷ codes "prove --bits="
    ∷ codes "prove --bits far"
    ∷ codes "prove --bits Near"
    ∷ codes "prove --bits near,declared"
    ∷ codes "prove --bits near --bits near"
    ∷ codes "only p --bits 1"
    ∷ codes "only --bits declared"
    ∷ codes "confirm p 1 --bits far"
    ∷ codes "confirm p --bits 1"
    ∷ codes "proof --bits declared"
    ∷ codes "induct p i --bits near"
    ∷ codes "ltl --bits far"
    ∷ codes "--bits declared prove"
    ∷ []

-- options before the command or of another one, and names that begin as options do
abbrev pub other_places : List Text
other_places =
    codes "--nodes 5 prove"
    ∷ codes "only -p"
    ∷ codes "only --p"
    ∷ codes "only --nodes p"
    ∷ codes "print --nodes 5"
    ∷ codes "generated --nodes 5 5"
    ∷ []

-- budgets, and their defaults
abbrev pub budgets : List (Text × Command)
budgets =
    (codes "prove", Prove Near (record { nodes = 1000000; steps = 1000 }))
    ∷ (codes "prove --", Prove Near (record { nodes = 1000000; steps = 1000 }))
    ∷ (codes "prove --steps=8", Prove Near (record { nodes = 1000000; steps = 8 }))
    ∷ (codes "prove --nodes=5", Prove Near (record { nodes = 5; steps = 1000 }))
    ∷ (codes "prove --nodes 5", Prove Near (record { nodes = 5; steps = 1000 }))
    ∷ (codes "prove --nodes +5", Prove Near (record { nodes = 5; steps = 1000 }))
    ∷ (codes "prove --nodes=+5", Prove Near (record { nodes = 5; steps = 1000 }))
    ∷ (codes "prove --nodes 05", Prove Near (record { nodes = 5; steps = 1000 }))
    ∷ (codes "prove --nodes 000000000000000000000005", Prove Near (record { nodes = 5; steps = 1000 }))
    ∷ (codes "prove --nodes 5 --", Prove Near (record { nodes = 5; steps = 1000 }))
    ∷ (codes "prove --steps 6 --nodes 5", Prove Near (record { nodes = 5; steps = 6 }))
    ∷ []

-- bits, which are near where they are not named
abbrev pub bits : List (Text × Command)
bits =
    (codes "prove --bits declared", Prove Declared (record { nodes = 1000000; steps = 1000 }))
    ∷ (codes "prove --bits=declared --nodes 5", Prove Declared (record { nodes = 5; steps = 1000 }))
    ∷ (codes "prove --bits near", Prove Near (record { nodes = 1000000; steps = 1000 }))
    ∷ (codes "ltl", Ltl Near (record { nodes = 1000000; steps = 1000 }))
    ∷ (codes "ltl --steps 7 --bits declared", Ltl Declared (record { nodes = 1000000; steps = 7 }))
    ∷ (codes "only p --bits declared", Only (codes "p") Declared (record { nodes = 1000000; steps = 1000 }))
    ∷ (codes "only --bits=near -- declared", Only (codes "declared") Near (record { nodes = 1000000; steps = 1000 }))
    ∷ (codes "confirm p 1", Confirm (codes "p") (1 ∷ []) Near (record { nodes = 1000000; steps = 1000 }))
    ∷ (codes "confirm --bits=near p", Confirm (codes "p") [] Near (record { nodes = 1000000; steps = 1000 }))
    ∷ (codes "confirm p 1 2 --bits declared --nodes 5", Confirm (codes "p") (1 ∷ 2 ∷ []) Declared (record { nodes = 5; steps = 1000 }))
    ∷ []

-- the least and the most
abbrev pub bounds : List (Text × Command)
bounds =
    (codes "prove --nodes 16777216", Prove Near (record { nodes = 16777216; steps = 1000 }))
    ∷ (codes "prove --nodes 1", Prove Near (record { nodes = 1; steps = 1000 }))
    ∷ (codes "prove --steps 100000", Prove Near (record { nodes = 1000000; steps = 100000 }))
    ∷ (codes "generated 1", Generated 1)
    ∷ (codes "generated 200", Generated 200)
    ∷ (codes "generated +007", Generated 7)
    ∷ []

-- names: behind `--` any word is one
abbrev pub names : List (Text × Command)
names =
    (codes "only p", Only (codes "p") Near (record { nodes = 1000000; steps = 1000 }))
    ∷ (codes "only -- p", Only (codes "p") Near (record { nodes = 1000000; steps = 1000 }))
    ∷ (codes "only p --", Only (codes "p") Near (record { nodes = 1000000; steps = 1000 }))
    ∷ (codes "only -", Only (codes "-") Near (record { nodes = 1000000; steps = 1000 }))
    ∷ (codes "only -- -p", Only (codes "-p") Near (record { nodes = 1000000; steps = 1000 }))
    ∷ (codes "only -- --", Only (codes "--") Near (record { nodes = 1000000; steps = 1000 }))
    ∷ (codes "only -- --nodes", Only (codes "--nodes") Near (record { nodes = 1000000; steps = 1000 }))
    ∷ (codes "only ", Only [] Near (record { nodes = 1000000; steps = 1000 }))
    ∷ (codes "only prove", Only (codes "prove") Near (record { nodes = 1000000; steps = 1000 }))
    ∷ (codes "only help", Only (codes "help") Near (record { nodes = 1000000; steps = 1000 }))
    ∷ (codes "only p --nodes 5", Only (codes "p") Near (record { nodes = 5; steps = 1000 }))
    ∷ (codes "only --nodes 5 p", Only (codes "p") Near (record { nodes = 5; steps = 1000 }))
    ∷ (codes "only --nodes=5 -- p", Only (codes "p") Near (record { nodes = 5; steps = 1000 }))
    ∷ (codes "only --steps 7 p --nodes 5", Only (codes "p") Near (record { nodes = 5; steps = 7 }))
    ∷ (codes "induct p i", Induct (codes "p") (codes "i") (record { nodes = 1000000; steps = 1000 }))
    ∷ (codes "induct --steps 7 p -- -i", Induct (codes "p") (codes "-i") (record { nodes = 1000000; steps = 7 }))
    ∷ []

-- a command that takes nothing
abbrev pub plain : List (Text × Command)
plain =
    (codes "print", Print)
    ∷ (codes "print --", Print)
    ∷ []
