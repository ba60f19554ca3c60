-- What words ask for: what a reader has to believe, beside `CommandLine` and clap's definition of a simple command.
use Rattle.std.specs.Prelude.{ℕ, ◌≤◌, List, codes, Option, Some, None, option_map, option_and_then, if◌then◌else◌}
use Rattle.std.specs.Str.{bytes_eq}
use Rattle.clap.specs.Walk.{Row, Text, first_of}
use Rattle.clap.specs.Simple.{subcommand_of}
use Rattle.clap.specs.Faults.{fault_of}
use Rattle.smv_command.specs.Commands.{both, budgets_in, name_in, number, number_in, where_faultless}
use Rattle.smv_look_command.specs.declared.queries.Query.{Query}
use Rattle.smv_look_command.specs.declared.queries.Query.TheVariants as variant
use Rattle.smv_look_command.specs.CommandLine.{smv_look}

-- the most cases of a leaf
abbrev pub most_cases : ℕ
most_cases = 4096

-- the number of a case, which may be left out
abbrev pub any_case : Option Text → Option (Option ℕ)
any_case None = Some None
any_case (Some word) = option_map Some (number most_cases word)

abbrev pub any_case_in : List Row → Option (Option ℕ)
any_case_in rows = any_case (first_of (codes "CASE") rows)

-- the query of a subcommand's name and values
unfoldable pub named : Text → List Row → Option Query
named word rows =
    if bytes_eq word (codes "list") then Some variant.List
    else (if bytes_eq word (codes "cone") then option_map (λ p. variant.Cone p.0 p.1) (both (name_in rows) (number_in most_cases (codes "CASE") rows))
    else (if bytes_eq word (codes "lint") then Some variant.Lint
    else (if bytes_eq word (codes "explain") then Some variant.Explain
    else (if bytes_eq word (codes "sets") then option_map (λ p. variant.Sets p.0 p.1.0 p.1.1) (both (name_in rows) (both (any_case_in rows) (budgets_in rows)))
    else (if bytes_eq word (codes "front") then Some variant.Front
    else (if bytes_eq word (codes "aiger") then option_map (λ p. variant.Aiger p.0 p.1) (both (name_in rows) (number_in most_cases (codes "CASE") rows))
    else None))))))

-- the query that the words are: that of the subcommand that clap finds in them, where it finds no fault
unfoldable pub query_of : List Text → Option Query
query_of words = where_faultless (fault_of smv_look words) (option_and_then (λ found. named found.0 found.1) (subcommand_of smv_look words))

-- a search makes an image at least
abbrev pub IsInRange : Query → Type 0
IsInRange (variant.Sets name case budgets) = 1 ≤ budgets.steps
IsInRange _ = Unit {0}
