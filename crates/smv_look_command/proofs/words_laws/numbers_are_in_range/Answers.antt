use Rattle.std.proofs.Common.{◌≡◌, ◌≤◌, ℕ, Bool, List, [], ◌∷◌, Option, Some, None, codes, refl, subst, true, false}
use Rattle.std.specs.Prelude.{if◌then◌else◌, option_and_then, option_map}
use Rattle.std.specs.Str.{bytes_eq}
use Rattle.clap.specs.Kinds.{Kinds}
use Rattle.clap.specs.Walk.{Row, Text}
use Rattle.clap.specs.Simple.{subcommand_of}
use Rattle.clap.specs.Faults.{fault_of}
use Rattle.smv_command.specs.Commands.{both, budgets_in, name_in, number_in, where_faultless}
use Rattle.smv_command.specs.Ranges.{most_nodes, most_steps}
use Rattle.smv_command.proofs.Values.{number_ranged}
use Rattle.smv_problem.specs.declared.report.Budgets.{Budgets}
use Rattle.smv_look_command.specs.CommandLine.{smv_look}
use Rattle.smv_look_command.specs.declared.queries.Query.{Query}
use Rattle.smv_look_command.specs.declared.queries.Query.TheVariants.{Aiger, Cone, Sets}
use Rattle.smv_look_command.specs.Queries.{IsInRange, any_case_in, most_cases, named, query_of}
use Rattle.smv_look_command.proofs.words_laws.numbers_are_in_range.Goals as goal

-- a query in its range, where there is one
abbrev InRange : Option Query → Type 0
InRange None = Unit {0}
InRange (Some query) = IsInRange query

-- a search makes an image at least
abbrev Steps : Option Budgets → Type 0
Steps None = Unit {0}
Steps (Some budgets) = 1 ≤ budgets.steps

steps_ranged : (rows : List Row) → Steps (budgets_in rows)
steps_ranged rows = go (number_in most_nodes (codes "nodes") rows) (number_in most_steps (codes "steps") rows) (number_ranged most_steps (codes "steps") rows)
  where
    go : (x y : Option ℕ) → ((n : ℕ) → y ≡ Some n → (1 ≤ n) × (n ≤ most_steps)) → Steps (option_map (λ p. record { nodes = p.0; steps = p.1 }) (both x y))
    go None y q = tt
    go (Some n) None q = tt
    go (Some n) (Some m) q = (q m refl).0

sets_ranged : (name : Option Text) (case : Option (Option ℕ)) (budgets : Option Budgets) → Steps budgets → InRange (option_map (λ p. Sets p.0 p.1.0 p.1.1) (both name (both case budgets)))
sets_ranged None case budgets r = tt
sets_ranged (Some n) None budgets r = tt
sets_ranged (Some n) (Some k) None r = tt
sets_ranged (Some n) (Some k) (Some b) r = r

cone_ranged : (name : Option Text) (case : Option ℕ) → InRange (option_map (λ p. Cone p.0 p.1) (both name case))
cone_ranged None case = tt
cone_ranged (Some n) None = tt
cone_ranged (Some n) (Some k) = tt

aiger_ranged : (name : Option Text) (case : Option ℕ) → InRange (option_map (λ p. Aiger p.0 p.1) (both name case))
aiger_ranged None case = tt
aiger_ranged (Some n) None = tt
aiger_ranged (Some n) (Some k) = tt

chosen : (b : Bool) (x y : Option Query) → InRange x → InRange y → InRange (if b then x else y)
chosen true x y p q = p
chosen false x y p q = q

named_ranged : (word : Text) (rows : List Row) → InRange (named word rows)
unfolding named
named_ranged word rows =
    chosen (bytes_eq word (codes "list")) _ _ tt
    (chosen (bytes_eq word (codes "cone")) _ _ (cone_ranged (name_in rows) (number_in most_cases (codes "CASE") rows))
    (chosen (bytes_eq word (codes "lint")) _ _ tt
    (chosen (bytes_eq word (codes "explain")) _ _ tt
    (chosen (bytes_eq word (codes "sets")) _ _ (sets_ranged (name_in rows) (any_case_in rows) (budgets_in rows) (steps_ranged rows))
    (chosen (bytes_eq word (codes "front")) _ _ tt
    (chosen (bytes_eq word (codes "aiger")) _ _ (aiger_ranged (name_in rows) (number_in most_cases (codes "CASE") rows)) tt))))))

words_ranged : (words : List Text) → InRange (query_of words)
unfolding query_of
words_ranged words = go (fault_of smv_look words) (subcommand_of smv_look words)
  where
    go : (ks : Kinds) (o : Option (Text × List Row)) → InRange (where_faultless ks (option_and_then (λ found. named found.0 found.1) o))
    go (k ∷ ks) o = tt
    go [] None = tt
    go [] (Some found) = named_ranged found.0 found.1

pub returns : goal.returns
returns c words query e = subst InRange e (words_ranged words)
