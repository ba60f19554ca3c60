-- Parts of readers that a function of their own reads.
use Rattle.std.specs.Prelude.{ℕ, List, [], ◌∷◌, ◌++◌, Option, Some, None, Ok}
use Rattle.smv_core.specs.declared.tree.Word.{Word}
use Rattle.smv_core.specs.declared.tree.Item.{Item}
use Rattle.smv_core.specs.declared.tree.Part.{Part}
use Rattle.smv_core.specs.declared.tree.Top.{Top}
use Rattle.smv_core.specs.Signs.{comma, colon, open_paren, close_paren}
use Rattle.law_grammar.specs.Parsing.{Outcome, Parser, and_then, bind, pure, take, take_open, fork, loop}
use Rattle.law_grammar.specs.Marks.{Mark, any_name, exactly, begins}
use Rattle.law_grammar.specs.Readers.{a_token, a_name, read_separated_or_none}
use Rattle.law_grammar.specs.Items.{vars_of_some}
use Rattle.law_formula_grammar.specs.Grammar.{Formulas, With, trees, all_formulas}
use Rattle.law_formula_grammar.specs.Readers.{read_claimed, read_assigned, read_behind, read_listed, read_module_body}

-- what stands behind the parts: a claim where it may be one, and else an assignment
abbrev pub read_chosen : ℕ → Word → List Part → Option (List Word) → Parser (With Item)
read_chosen n x parts None = read_assigned n x parts
read_chosen n x parts (Some vars) = fork (begins (exactly colon ∷ [])) (bind (take (a_token colon)) (λ _. read_claimed n x vars)) (read_assigned n x parts)

-- behind a name in a body: what a comma or a colon leads, and else a claim or an assignment
abbrev pub read_named_behind : ℕ → Word → Parser (With Item)
read_named_behind n x = fork (begins (exactly comma ∷ exactly colon ∷ [])) (read_listed n x) (read_behind n vars_of_some x)

-- the formals and the body of a module
abbrev pub read_module_behind : ℕ → ℕ → Word → Parser (With Top)
read_module_behind n at x = take_open (a_token open_paren) n (λ _. bind (read_separated_or_none (any_name ∷ []) (take a_name)) (λ formals. bind (take (a_token close_paren)) (λ _. read_module_body n at x formals)))

-- ---- trees one after another

-- the trees, and the formulas of all of them
abbrev pub apart : {A : Type 0} → List (With A) → List A × Formulas
apart xs = (trees xs, all_formulas xs)

-- as many as stand one after another, where each begins with one of the marks
abbrev pub read_all : {A : Type 0} → List Mark → Parser (With A) → Parser (List A × Formulas)
read_all marks p = bind (loop (begins marks) p) (λ xs. pure (apart xs))

-- trees behind trees that are read already, with the formulas of both
abbrev pub gathered : {A : Type 0} → List A → Formulas → Outcome (List (With A)) → Outcome (List A × Formulas)
gathered items formulas o = and_then o (λ xs rest. Ok ((items ++ trees xs, formulas ++ all_formulas xs), rest))
