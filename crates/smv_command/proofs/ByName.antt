-- What the name of a subcommand says of its command.
use Rattle.std.proofs.Common.{◌≡◌, ◌∙◌, ℕ, List, ap, codes, Bool, not, ◌&&◌, Option, Some, None, is_some, refl, subst, sym, true, false}
use Rattle.std.specs.Str.{bytes_eq}
use Rattle.std.proofs.lemmas.Slice.Eq.{bytes_eq-Decides}
use Rattle.std.specs.Prelude.{option_map}
use Rattle.clap.specs.Walk.{Row, Text}
use Rattle.smv_problem.specs.declared.report.Budgets.{Budgets}
use Rattle.smv_command.specs.declared.commands.Command.TheVariants.{Prove, Only, Print, Generated, Proof, Check, Resume, Confirm, Induct, Ltl}
use Rattle.smv_command.specs.Ranges.{most_copies}
use Rattle.smv_command.specs.Commands.{bits_in, both, budgets_in, has_bits, misnames, name_in, named, number_in, sizes_in, var_in}
use Rattle.smv_command.proofs.Values.{both_some, map_some}

pub prove_is : (rows : List Row) → named (codes "prove") rows ≡ option_map (λ p. Prove p.0 p.1) (both (bits_in rows) (budgets_in rows))
unfolding named
prove_is rows = refl

pub only_is : (rows : List Row) → named (codes "only") rows ≡ option_map (λ p. Only p.0 p.1.0 p.1.1) (both (name_in rows) (both (bits_in rows) (budgets_in rows)))
unfolding named
only_is rows = refl

pub print_is : (rows : List Row) → named (codes "print") rows ≡ Some Print
unfolding named
print_is rows = refl

pub generated_is : (rows : List Row) → named (codes "generated") rows ≡ option_map Generated (number_in most_copies (codes "N") rows)
unfolding named
generated_is rows = refl

pub proof_is : (rows : List Row) → named (codes "proof") rows ≡ option_map Proof (budgets_in rows)
unfolding named
proof_is rows = refl

pub check_is : (rows : List Row) → named (codes "check") rows ≡ Some Check
unfolding named
check_is rows = refl

pub resume_is : (rows : List Row) → named (codes "resume") rows ≡ option_map Resume (budgets_in rows)
unfolding named
resume_is rows = refl

pub confirm_is : (rows : List Row) → named (codes "confirm") rows ≡ option_map (λ p. Confirm p.0 p.1.0 p.1.1.0 p.1.1.1) (both (name_in rows) (both (sizes_in rows) (both (bits_in rows) (budgets_in rows))))
unfolding named
confirm_is rows = refl

pub induct_is : (rows : List Row) → named (codes "induct") rows ≡ option_map (λ p. Induct p.0 p.1.0 p.1.1) (both (name_in rows) (both (var_in rows) (budgets_in rows)))
unfolding named
induct_is rows = refl

pub ltl_is : (rows : List Row) → named (codes "ltl") rows ≡ option_map (λ p. Ltl p.0 p.1) (both (bits_in rows) (budgets_in rows))
unfolding named
ltl_is rows = refl

pub no_name : (word : Text) (rows : List Row) → bytes_eq word (codes "prove") ≡ false → bytes_eq word (codes "only") ≡ false → bytes_eq word (codes "print") ≡ false
    → bytes_eq word (codes "generated") ≡ false → bytes_eq word (codes "proof") ≡ false → bytes_eq word (codes "check") ≡ false → bytes_eq word (codes "resume") ≡ false → bytes_eq word (codes "confirm") ≡ false
    → bytes_eq word (codes "induct") ≡ false → bytes_eq word (codes "ltl") ≡ false → named word rows ≡ None
unfolding named
no_name word rows t1 t2 t3 t4 t5 t6 t7 t8 t9 t10 = rw (t1, t2, t3, t4, t5, t6, t7, t8, t9, t10) refl

-- ---- the same at a word that is the name

at_word : (word w : Text) (rows : List Row) → bytes_eq word w ≡ true → named word rows ≡ named w rows
at_word word w rows e = subst (λ (u : Text). named word rows ≡ named u rows) ((bytes_eq-Decides word w).0 e) refl

pub at_prove : (word : Text) (rows : List Row) → bytes_eq word (codes "prove") ≡ true → named word rows ≡ option_map (λ p. Prove p.0 p.1) (both (bits_in rows) (budgets_in rows))
at_prove word rows e = at_word word (codes "prove") rows e ∙ prove_is rows

pub at_only : (word : Text) (rows : List Row) → bytes_eq word (codes "only") ≡ true → named word rows ≡ option_map (λ p. Only p.0 p.1.0 p.1.1) (both (name_in rows) (both (bits_in rows) (budgets_in rows)))
at_only word rows e = at_word word (codes "only") rows e ∙ only_is rows

pub at_print : (word : Text) (rows : List Row) → bytes_eq word (codes "print") ≡ true → named word rows ≡ Some Print
at_print word rows e = at_word word (codes "print") rows e ∙ print_is rows

pub at_generated : (word : Text) (rows : List Row) → bytes_eq word (codes "generated") ≡ true → named word rows ≡ option_map Generated (number_in most_copies (codes "N") rows)
at_generated word rows e = at_word word (codes "generated") rows e ∙ generated_is rows

pub at_proof : (word : Text) (rows : List Row) → bytes_eq word (codes "proof") ≡ true → named word rows ≡ option_map Proof (budgets_in rows)
at_proof word rows e = at_word word (codes "proof") rows e ∙ proof_is rows

pub at_check : (word : Text) (rows : List Row) → bytes_eq word (codes "check") ≡ true → named word rows ≡ Some Check
at_check word rows e = at_word word (codes "check") rows e ∙ check_is rows

pub at_resume : (word : Text) (rows : List Row) → bytes_eq word (codes "resume") ≡ true → named word rows ≡ option_map Resume (budgets_in rows)
at_resume word rows e = at_word word (codes "resume") rows e ∙ resume_is rows

pub at_confirm : (word : Text) (rows : List Row) → bytes_eq word (codes "confirm") ≡ true
    → named word rows ≡ option_map (λ p. Confirm p.0 p.1.0 p.1.1.0 p.1.1.1) (both (name_in rows) (both (sizes_in rows) (both (bits_in rows) (budgets_in rows))))
at_confirm word rows e = at_word word (codes "confirm") rows e ∙ confirm_is rows

pub at_induct : (word : Text) (rows : List Row) → bytes_eq word (codes "induct") ≡ true
    → named word rows ≡ option_map (λ p. Induct p.0 p.1.0 p.1.1) (both (name_in rows) (both (var_in rows) (budgets_in rows)))
at_induct word rows e = at_word word (codes "induct") rows e ∙ induct_is rows

pub at_ltl : (word : Text) (rows : List Row) → bytes_eq word (codes "ltl") ≡ true → named word rows ≡ option_map (λ p. Ltl p.0 p.1) (both (bits_in rows) (budgets_in rows))
at_ltl word rows e = at_word word (codes "ltl") rows e ∙ ltl_is rows

-- ---- bits that are named, or need no name

-- where they are named by a word of theirs
pub names_bits : (word : Text) (rows : List Row) → is_some (bits_in rows) ≡ true → misnames word rows ≡ false
names_bits word rows e = ap (λ (b : Bool). has_bits word && not b) e ∙ none (has_bits word)
  where
    none : (b : Bool) → b && not true ≡ false
    none true = refl
    none false = refl

-- in the subcommand of a name without them
pub needs_none : (word w : Text) (rows : List Row) → bytes_eq word w ≡ true → has_bits w ≡ false → misnames word rows ≡ false
needs_none word w rows e none = subst (λ (u : Text). misnames u rows ≡ false) (sym ((bytes_eq-Decides word w).0 e)) (ap (λ (b : Bool). b && not (is_some (bits_in rows))) none)

-- and in any but those that have them
pub has_none : (word : Text) (rows : List Row) → bytes_eq word (codes "prove") ≡ false → bytes_eq word (codes "only") ≡ false → bytes_eq word (codes "confirm") ≡ false → bytes_eq word (codes "ltl") ≡ false → misnames word rows ≡ false
has_none word rows e f g h = rw (e, f, g, h) refl

-- where they are not named there is no command
pub no_bits : (name : Option Text) (budgets : Option Budgets) → option_map (λ p. Only p.0 p.1.0 p.1.1) (both name (both None budgets)) ≡ None
no_bits None budgets = refl
no_bits (Some n) budgets = refl

pub no_bits_there : (name : Option Text) (sizes : Option (List ℕ)) (budgets : Option Budgets) → option_map (λ p. Confirm p.0 p.1.0 p.1.1.0 p.1.1.1) (both name (both sizes (both None budgets))) ≡ None
no_bits_there None sizes budgets = refl
no_bits_there (Some n) None budgets = refl
no_bits_there (Some n) (Some ns) budgets = refl

-- ---- what a named command was given

pub given_to_prove : (word : Text) (rows : List Row) → bytes_eq word (codes "prove") ≡ true → is_some (named word rows) ≡ true → is_some (budgets_in rows) ≡ true
given_to_prove word rows e there =
    (both_some (bits_in rows) (budgets_in rows) (map_some (λ p. Prove p.0 p.1) (both (bits_in rows) (budgets_in rows)) (ap is_some (sym (at_prove word rows e)) ∙ there))).1

pub given_to_only : (word : Text) (rows : List Row) → bytes_eq word (codes "only") ≡ true → is_some (named word rows) ≡ true
    → (is_some (name_in rows) ≡ true) × (is_some (budgets_in rows) ≡ true)
given_to_only word rows e there =
    let bits_and_budgets = both (bits_in rows) (budgets_in rows) in
    let (name, more) = both_some (name_in rows) bits_and_budgets (map_some (λ p. Only p.0 p.1.0 p.1.1) (both (name_in rows) bits_and_budgets) (ap is_some (sym (at_only word rows e)) ∙ there)) in
    (name, (both_some (bits_in rows) (budgets_in rows) more).1)

pub given_to_generated : (word : Text) (rows : List Row) → bytes_eq word (codes "generated") ≡ true → is_some (named word rows) ≡ true
    → is_some (number_in most_copies (codes "N") rows) ≡ true
given_to_generated word rows e there = map_some Generated (number_in most_copies (codes "N") rows) (ap is_some (sym (at_generated word rows e)) ∙ there)

pub given_to_proof : (word : Text) (rows : List Row) → bytes_eq word (codes "proof") ≡ true → is_some (named word rows) ≡ true → is_some (budgets_in rows) ≡ true
given_to_proof word rows e there = map_some Proof (budgets_in rows) (ap is_some (sym (at_proof word rows e)) ∙ there)

pub given_to_resume : (word : Text) (rows : List Row) → bytes_eq word (codes "resume") ≡ true → is_some (named word rows) ≡ true → is_some (budgets_in rows) ≡ true
given_to_resume word rows e there = map_some Resume (budgets_in rows) (ap is_some (sym (at_resume word rows e)) ∙ there)

pub given_to_confirm : (word : Text) (rows : List Row) → bytes_eq word (codes "confirm") ≡ true → is_some (named word rows) ≡ true
    → (is_some (name_in rows) ≡ true) × (is_some (sizes_in rows) ≡ true) × (is_some (bits_in rows) ≡ true) × (is_some (budgets_in rows) ≡ true)
given_to_confirm word rows e there =
    let bits_and_budgets = both (bits_in rows) (budgets_in rows) in
    let behind = both (sizes_in rows) bits_and_budgets in
    let (name, more) = both_some (name_in rows) behind (map_some (λ p. Confirm p.0 p.1.0 p.1.1.0 p.1.1.1) (both (name_in rows) behind) (ap is_some (sym (at_confirm word rows e)) ∙ there)) in
    let (sizes, most) = both_some (sizes_in rows) bits_and_budgets more in
    let (bits, budgets) = both_some (bits_in rows) (budgets_in rows) most in
    (name, sizes, bits, budgets)

pub given_to_induct : (word : Text) (rows : List Row) → bytes_eq word (codes "induct") ≡ true → is_some (named word rows) ≡ true
    → (is_some (name_in rows) ≡ true) × (is_some (var_in rows) ≡ true) × (is_some (budgets_in rows) ≡ true)
given_to_induct word rows e there =
    let var_and_budgets = both (var_in rows) (budgets_in rows) in
    let (name, more) = both_some (name_in rows) var_and_budgets (map_some (λ p. Induct p.0 p.1.0 p.1.1) (both (name_in rows) var_and_budgets) (ap is_some (sym (at_induct word rows e)) ∙ there)) in
    let (var, budgets) = both_some (var_in rows) (budgets_in rows) more in
    (name, var, budgets)

pub given_to_ltl : (word : Text) (rows : List Row) → bytes_eq word (codes "ltl") ≡ true → is_some (named word rows) ≡ true
    → (is_some (bits_in rows) ≡ true) × (is_some (budgets_in rows) ≡ true)
given_to_ltl word rows e there = both_some (bits_in rows) (budgets_in rows) (map_some (λ p. Ltl p.0 p.1) (both (bits_in rows) (budgets_in rows)) (ap is_some (sym (at_ltl word rows e)) ∙ there))

-- a command that is there has its bits named
pub some_names_bits : (word : Text) (rows : List Row) → is_some (named word rows) ≡ true → misnames word rows ≡ false
some_names_bits word rows there = by (bytes_eq word (codes "prove")) refl (bytes_eq word (codes "only")) refl (bytes_eq word (codes "confirm")) refl (bytes_eq word (codes "ltl")) refl
  where
    by : (p : Bool) → bytes_eq word (codes "prove") ≡ p → (q : Bool) → bytes_eq word (codes "only") ≡ q → (r : Bool) → bytes_eq word (codes "confirm") ≡ r → (s : Bool) → bytes_eq word (codes "ltl") ≡ s → misnames word rows ≡ false
    by true e q f r g s h = names_bits word rows (both_some (bits_in rows) (budgets_in rows) (map_some (λ p. Prove p.0 p.1) (both (bits_in rows) (budgets_in rows)) (ap is_some (sym (at_prove word rows e)) ∙ there))).0
    by false e true f r g s h =
        let bits_and_budgets = both (bits_in rows) (budgets_in rows) in
        let more = both_some (name_in rows) bits_and_budgets (map_some (λ p. Only p.0 p.1.0 p.1.1) (both (name_in rows) bits_and_budgets) (ap is_some (sym (at_only word rows f)) ∙ there)) in
        names_bits word rows (both_some (bits_in rows) (budgets_in rows) more.1).0
    by false e false f true g s h = names_bits word rows (given_to_confirm word rows g there).2
    by false e false f false g true h = names_bits word rows (given_to_ltl word rows h there).0
    by false e false f false g false h = has_none word rows e f g h
