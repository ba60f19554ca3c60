-- What the name of a subcommand says of its query.
use Rattle.std.proofs.Common.{◌≡◌, ◌∙◌, List, ap, codes, Some, None, is_some, refl, subst, sym, true, false}
use Rattle.std.specs.Str.{bytes_eq}
use Rattle.std.proofs.lemmas.Slice.Eq.{bytes_eq-Decides}
use Rattle.std.specs.Prelude.{option_map}
use Rattle.clap.specs.Walk.{Row, Text}
use Rattle.smv_command.specs.Commands.{both, budgets_in, name_in, number_in}
use Rattle.smv_command.proofs.Values.{both_some, map_some}
use Rattle.smv_look_command.specs.declared.queries.Query.TheVariants.{Aiger, Cone, Sets}
use Rattle.smv_look_command.specs.declared.queries.Query.TheVariants as variant
use Rattle.smv_look_command.specs.Queries.{any_case_in, most_cases, named}

pub list_is : (rows : List Row) → named (codes "list") rows ≡ Some variant.List
unfolding named
list_is rows = refl

pub cone_is : (rows : List Row) → named (codes "cone") rows ≡ option_map (λ p. Cone p.0 p.1) (both (name_in rows) (number_in most_cases (codes "CASE") rows))
unfolding named
cone_is rows = refl

pub lint_is : (rows : List Row) → named (codes "lint") rows ≡ Some variant.Lint
unfolding named
lint_is rows = refl

pub explain_is : (rows : List Row) → named (codes "explain") rows ≡ Some variant.Explain
unfolding named
explain_is rows = refl

pub sets_is : (rows : List Row) → named (codes "sets") rows ≡ option_map (λ p. Sets p.0 p.1.0 p.1.1) (both (name_in rows) (both (any_case_in rows) (budgets_in rows)))
unfolding named
sets_is rows = refl

pub front_is : (rows : List Row) → named (codes "front") rows ≡ Some variant.Front
unfolding named
front_is rows = refl

pub aiger_is : (rows : List Row) → named (codes "aiger") rows ≡ option_map (λ p. Aiger p.0 p.1) (both (name_in rows) (number_in most_cases (codes "CASE") rows))
unfolding named
aiger_is rows = refl

pub no_name : (word : Text) (rows : List Row) → bytes_eq word (codes "list") ≡ false → bytes_eq word (codes "cone") ≡ false → bytes_eq word (codes "lint") ≡ false → bytes_eq word (codes "explain") ≡ false
    → bytes_eq word (codes "sets") ≡ false → bytes_eq word (codes "front") ≡ false → bytes_eq word (codes "aiger") ≡ false → named word rows ≡ None
unfolding named
no_name word rows t1 t2 t3 t4 t5 t6 t7 = rw (t1, t2, t3, t4, t5, t6, t7) refl

-- ---- the same at a word that is the name

at_word : (word w : Text) (rows : List Row) → bytes_eq word w ≡ true → named word rows ≡ named w rows
at_word word w rows e = subst (λ (u : Text). named word rows ≡ named u rows) ((bytes_eq-Decides word w).0 e) refl

pub at_list : (word : Text) (rows : List Row) → bytes_eq word (codes "list") ≡ true → named word rows ≡ Some variant.List
at_list word rows e = at_word word (codes "list") rows e ∙ list_is rows

pub at_cone : (word : Text) (rows : List Row) → bytes_eq word (codes "cone") ≡ true → named word rows ≡ option_map (λ p. Cone p.0 p.1) (both (name_in rows) (number_in most_cases (codes "CASE") rows))
at_cone word rows e = at_word word (codes "cone") rows e ∙ cone_is rows

pub at_lint : (word : Text) (rows : List Row) → bytes_eq word (codes "lint") ≡ true → named word rows ≡ Some variant.Lint
at_lint word rows e = at_word word (codes "lint") rows e ∙ lint_is rows

pub at_explain : (word : Text) (rows : List Row) → bytes_eq word (codes "explain") ≡ true → named word rows ≡ Some variant.Explain
at_explain word rows e = at_word word (codes "explain") rows e ∙ explain_is rows

pub at_sets : (word : Text) (rows : List Row) → bytes_eq word (codes "sets") ≡ true → named word rows ≡ option_map (λ p. Sets p.0 p.1.0 p.1.1) (both (name_in rows) (both (any_case_in rows) (budgets_in rows)))
at_sets word rows e = at_word word (codes "sets") rows e ∙ sets_is rows

pub at_front : (word : Text) (rows : List Row) → bytes_eq word (codes "front") ≡ true → named word rows ≡ Some variant.Front
at_front word rows e = at_word word (codes "front") rows e ∙ front_is rows

pub at_aiger : (word : Text) (rows : List Row) → bytes_eq word (codes "aiger") ≡ true → named word rows ≡ option_map (λ p. Aiger p.0 p.1) (both (name_in rows) (number_in most_cases (codes "CASE") rows))
at_aiger word rows e = at_word word (codes "aiger") rows e ∙ aiger_is rows

-- what a named query was given
pub given_to_cone : (word : Text) (rows : List Row) → bytes_eq word (codes "cone") ≡ true → is_some (named word rows) ≡ true
    → (is_some (name_in rows) ≡ true) × (is_some (number_in most_cases (codes "CASE") rows) ≡ true)
given_to_cone word rows e there =
    both_some (name_in rows) (number_in most_cases (codes "CASE") rows) (map_some (λ p. Cone p.0 p.1) (both (name_in rows) (number_in most_cases (codes "CASE") rows)) (ap is_some (sym (at_cone word rows e)) ∙ there))

pub given_to_sets : (word : Text) (rows : List Row) → bytes_eq word (codes "sets") ≡ true → is_some (named word rows) ≡ true
    → (is_some (name_in rows) ≡ true) × (is_some (any_case_in rows) ≡ true) × (is_some (budgets_in rows) ≡ true)
given_to_sets word rows e there =
    let case_and_budgets = both (any_case_in rows) (budgets_in rows) in
    let (name, more) = both_some (name_in rows) case_and_budgets (map_some (λ p. Sets p.0 p.1.0 p.1.1) (both (name_in rows) case_and_budgets) (ap is_some (sym (at_sets word rows e)) ∙ there)) in
    let (case, budgets) = both_some (any_case_in rows) (budgets_in rows) more in
    (name, case, budgets)

pub given_to_aiger : (word : Text) (rows : List Row) → bytes_eq word (codes "aiger") ≡ true → is_some (named word rows) ≡ true
    → (is_some (name_in rows) ≡ true) × (is_some (number_in most_cases (codes "CASE") rows) ≡ true)
given_to_aiger word rows e there =
    both_some (name_in rows) (number_in most_cases (codes "CASE") rows) (map_some (λ p. Aiger p.0 p.1) (both (name_in rows) (number_in most_cases (codes "CASE") rows)) (ap is_some (sym (at_aiger word rows e)) ∙ there))
