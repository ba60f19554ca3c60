-- The command that words are: what a reader has to believe, beside `CommandLine` and clap's definition of a simple command.
use Rattle.std.specs.Prelude.{◌≡◌, ℕ, List, [], ◌∷◌, codes, Bool, false, not, ◌&&◌, ◌||◌, Option, Some, None, is_some, option_map, option_and_then, unwrap_or, if◌then◌else◌}
use Rattle.std.specs.Str.{bytes_eq}
use Rattle.std.specs.Str.Parse.{digits_value, without_leading_plus}
use Rattle.clap.specs.Kinds.{Kinds}
use Rattle.clap.specs.ValueTests.{is_unsigned_in}
use Rattle.clap.specs.Walk.{Row, Text, all_of, first_of, one_of}
use Rattle.clap.specs.Simple.{subcommand_of}
use Rattle.clap.specs.Faults.{fault_of}
use Rattle.smv_bits.specs.declared.Bits.{Bits}
use Rattle.smv_bits.specs.declared.Bits.TheVariants.{Near, Declared}
use Rattle.smv_problem.specs.declared.report.Budgets.{Budgets}
use Rattle.smv_command.specs.declared.commands.Command.{Command}
use Rattle.smv_command.specs.declared.commands.Command.TheVariants.{Prove, Only, Print, Generated, Proof, Check, Resume, Confirm, Induct, Ltl}
use Rattle.smv_command.specs.Ranges.{most_nodes, most_steps, most_copies, most_size}
use Rattle.smv_command.specs.CommandLine.{smv}

-- two values, where both are there
abbrev pub both : {A B : Type 0} → Option A → Option B → Option (A × B)
both (Some a) (Some b) = Some (a, b)
both _ _ = None

-- the number from 1 to `most` that a text spells: digits, maybe behind a `+`
abbrev pub number : ℕ → Text → Option ℕ
number most text = if is_unsigned_in 1 most text then Some (digits_value 10 (without_leading_plus text)) else None

-- the number of an argument, among the values that a subcommand was given
abbrev pub number_in : ℕ → Text → List Row → Option ℕ
number_in most id rows = option_and_then (number most) (one_of id rows)

abbrev pub budgets_in : List Row → Option Budgets
budgets_in rows = option_map (λ p. record { nodes = p.0; steps = p.1 }) (both (number_in most_nodes (codes "nodes") rows) (number_in most_steps (codes "steps") rows))

-- the numbers that texts spell, where each spells one
abbrev pub numbers : ℕ → List Text → Option (List ℕ)
numbers most [] = Some []
numbers most (text ∷ texts) = option_map (λ p. p.0 ∷ p.1) (both (number most text) (numbers most texts))

-- the sizes, of which there may be none
abbrev pub sizes_in : List Row → Option (List ℕ)
sizes_in rows = numbers most_size (unwrap_or (all_of (codes "SIZE") rows) [])

abbrev pub name_in : List Row → Option Text
name_in rows = first_of (codes "NAME") rows

abbrev pub var_in : List Row → Option Text
var_in rows = first_of (codes "VAR") rows

-- the bits that a word names
abbrev pub bits_named : Text → Option Bits
bits_named word = if bytes_eq word (codes "near") then Some Near else (if bytes_eq word (codes "declared") then Some Declared else None)

abbrev pub bits_in : List Row → Option Bits
bits_in rows = option_and_then bits_named (first_of (codes "bits") rows)

-- the command of a subcommand's name and values
unfoldable pub named : Text → List Row → Option Command
named word rows =
    if bytes_eq word (codes "prove") then option_map (λ p. Prove p.0 p.1) (both (bits_in rows) (budgets_in rows))
    else (if bytes_eq word (codes "only") then option_map (λ p. Only p.0 p.1.0 p.1.1) (both (name_in rows) (both (bits_in rows) (budgets_in rows)))
    else (if bytes_eq word (codes "print") then Some Print
    else (if bytes_eq word (codes "generated") then option_map Generated (number_in most_copies (codes "N") rows)
    else (if bytes_eq word (codes "proof") then option_map Proof (budgets_in rows)
    else (if bytes_eq word (codes "check") then Some Check
    else (if bytes_eq word (codes "resume") then option_map Resume (budgets_in rows)
    else (if bytes_eq word (codes "confirm") then option_map (λ p. Confirm p.0 p.1.0 p.1.1.0 p.1.1.1) (both (name_in rows) (both (sizes_in rows) (both (bits_in rows) (budgets_in rows))))
    else (if bytes_eq word (codes "induct") then option_map (λ p. Induct p.0 p.1.0 p.1.1) (both (name_in rows) (both (var_in rows) (budgets_in rows)))
    else (if bytes_eq word (codes "ltl") then option_map (λ p. Ltl p.0 p.1) (both (bits_in rows) (budgets_in rows))
    else None)))))))))

-- a subcommand that has bits
abbrev pub has_bits : Text → Bool
has_bits word = bytes_eq word (codes "prove") || (bytes_eq word (codes "only") || (bytes_eq word (codes "confirm") || bytes_eq word (codes "ltl")))

-- one whose bits are named by none of their words
abbrev pub misnames : Text → List Row → Bool
misnames word rows = has_bits word && not (is_some (bits_in rows))

abbrev pub NamesBits : Option (Text × List Row) → Type 0
NamesBits None = Unit {0}
NamesBits (Some found) = misnames found.0 found.1 ≡ false

-- the words are taken: clap finds no fault in them, and so gives matches, and where they name bits they do it by a word of theirs
abbrev pub AreTaken : List Text → Type 0
AreTaken words = (fault_of smv words ≡ []) × NamesBits (subcommand_of smv words)

-- a value, where there is no fault
abbrev pub where_faultless : {X : Type 0} → Kinds → Option X → Option X
where_faultless [] found = found
where_faultless (k ∷ ks) found = None

-- the command that the words are: that of the subcommand that clap finds in them
unfoldable pub command_of : List Text → Option Command
command_of words = where_faultless (fault_of smv words) (option_and_then (λ found. named found.0 found.1) (subcommand_of smv words))
