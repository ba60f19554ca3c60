-- The laws of texts.
use Rattle.std.proofs.Common.{◌<◌, ℕ, true, false, List, [], ◌∷◌, None, refl}
use Rattle.smv_core.specs.declared.tree.Word.{Word}
use Rattle.smv_core.specs.declared.tree.Top.{Top}
use Rattle.smv_core.specs.declared.tree.Top.TheVariants as top
use Rattle.smv_core.specs.Signs.{open_paren, close_paren, open_brace, close_brace, semicolon, comma}
use Rattle.smv_core.specs.Signs as w
use Rattle.smv_core.specs.Notation.{nothing, ◌>>=◌, ◌>>◌, ◌<|>◌, many, token, name, separated_or_none, opener}
use Rattle.smv_core.specs.Grammar as g
use Rattle.smv_core.specs.Grammar.{below}
use Rattle.law_grammar.specs.Lawful.{Levels, Lawful}
use Rattle.law_grammar.specs.Marks.{any_name, any_number, exactly, stops_by}
use Rattle.law_grammar.specs.Items.{body_marks, top_marks, item_readers, read_extent}
use Rattle.law_grammar.proofs.Tokens.{nothing-lawful}
use Rattle.law_grammar.proofs.Forms.{Begins, begins-then, begins-either, begins-wider, token-begins, token-lawful, level, name-lawful, closed, next, repeated, alternative, made, next-begun, ended}
use Rattle.law_grammar.proofs.Shift.{outside}
use Rattle.law_grammar.proofs.Types.{types}
use Rattle.law_grammar.proofs.Statements.{else_marks}
use Rattle.law_grammar.proofs.References.{names-or-none-lawful}
use Rattle.law_grammar.proofs.Expressions.{At, span-lawful, span-begins}
use Rattle.law_formula_grammar.specs.Grammar.{With, bare, module_of, text_of, body_below, top_rule, text_rule}
use Rattle.law_formula_grammar.specs.Readers as p
use Rattle.law_formula_grammar.proofs.Bodies.{bodies-law, body-begins}

abbrev scalarset_rule : Levels (With Top)
scalarset_rule floor m = token w.word_scalarset >> name >>= λ x. g.extent >>= λ s. token semicolon >> nothing (bare (top.SetType x false s.0 s.1))

abbrev ordset_rule : Levels (With Top)
ordset_rule floor m = token w.word_ordset >> name >>= λ x. token w.word_undefined >>= λ at. token semicolon >> nothing (bare (top.SetType x true None at))

abbrev typedef_rule : Levels (With Top)
typedef_rule floor m = token w.word_typedef >>= λ at. name >>= λ x. At g.type_rule floor m >>= λ of. token semicolon >> nothing (bare (top.Alias x of at))

-- a module from its body on
abbrev module_body : ℕ → Word → List Word → Levels (With Top)
module_body at x formals floor m = opener floor m open_brace >> many (body_below floor m) >>= λ items. token close_brace >> nothing (module_of at x formals items)

abbrev module_rule : Levels (With Top)
module_rule floor m = token w.word_module >>= λ at. name >>= λ x. opener floor m open_paren >> separated_or_none name >>= λ formals. token close_paren >> module_body at x formals floor m

from-typedef-begins : Begins (exactly w.word_typedef ∷ exactly w.word_module ∷ []) (λ floor m. typedef_rule floor m <|> module_rule floor m)
from-typedef-begins = begins-either (begins-wider (exactly w.word_typedef ∷ []) _ refl (begins-then (token-begins w.word_typedef))) (begins-wider (exactly w.word_module ∷ []) _ refl (begins-then (token-begins w.word_module)))

from-ordset-begins : Begins (exactly w.word_ordset ∷ exactly w.word_typedef ∷ exactly w.word_module ∷ []) (λ floor m. ordset_rule floor m <|> typedef_rule floor m <|> module_rule floor m)
from-ordset-begins = begins-either (begins-wider (exactly w.word_ordset ∷ []) _ refl (begins-then (token-begins w.word_ordset))) (begins-wider (exactly w.word_typedef ∷ exactly w.word_module ∷ []) _ refl from-typedef-begins)

pub top-begins : Begins top_marks top_rule
top-begins = begins-either (begins-wider (exactly w.word_scalarset ∷ []) _ refl (begins-then (token-begins w.word_scalarset)))
    (begins-wider (exactly w.word_ordset ∷ exactly w.word_typedef ∷ exactly w.word_module ∷ []) _ refl from-ordset-begins)

module _ (C : Type 0) (n : ℕ) where
  extent-lawful : Lawful C (λ floor m. g.extent) n (read_extent n (item_readers n)) (stops_by closed)
  unfolding read_extent
  extent-lawful = alternative (exactly w.word_undefined ∷ []) (any_number ∷ []) (next (token-lawful w.word_undefined refl) (λ at. nothing-lawful _)) (next span-lawful (λ s. nothing-lawful _))
      (begins-then (token-begins w.word_undefined)) (begins-then span-begins) refl

  scalarset-lawful : Lawful C scalarset_rule n (p.read_scalarset n) (stops_by closed)
  unfolding p.read_scalarset
  scalarset-lawful = next (token-lawful w.word_scalarset refl) (λ _. next name-lawful (λ x. next extent-lawful (λ s. next (token-lawful semicolon refl) (λ _. nothing-lawful _))))

  ordset-lawful : Lawful C ordset_rule n (p.read_ordset n) (stops_by closed)
  unfolding p.read_ordset
  ordset-lawful = next (token-lawful w.word_ordset refl) (λ _. next name-lawful (λ x. next (token-lawful w.word_undefined refl) (λ at. next (token-lawful semicolon refl) (λ _. nothing-lawful _))))

  typedef-lawful : Lawful C typedef_rule n (p.read_typedef n) (stops_by closed)
  unfolding p.read_typedef
  typedef-lawful = next (token-lawful w.word_typedef refl) (λ at. next name-lawful (λ x. ended [] semicolon (λ of. bare (top.Alias x of at)) refl refl (types n)))

  module-body-lawful : (at : ℕ) (x : Word) (formals : List Word) → Lawful C (module_body at x formals) n (p.read_module_body n at x formals) (stops_by closed)
  unfolding p.read_module_body
  module-body-lawful at x formals = level open_brace refl (λ _. ended (exactly w.word_else ∷ body_marks) close_brace (module_of at x formals) refl refl
      (repeated body_marks (λ i. else_marks) (exactly w.word_else ∷ body_marks) (bodies-law n) body-begins (λ a. refl) refl (λ a. refl)))

module _ (C : Type 0) (n : ℕ) where
  module-lawful : Lawful C module_rule n (p.read_module n) (stops_by closed)
  unfolding p.read_module
  module-lawful = next (token-lawful w.word_module refl) (λ at. next name-lawful (λ x. level open_paren refl (λ _. next-begun (exactly close_paren ∷ []) (λ formals. any_name ∷ exactly comma ∷ []) names-or-none-lawful
      (λ formals. next (token-lawful close_paren refl) (λ _. outside (module-body-lawful (0 < n) n at x formals))) (λ formals. begins-then (token-begins close_paren)) (λ formals. refl))))

  pub top-lawful : Lawful C top_rule n (p.read_top n) (stops_by closed)
  unfolding p.read_top
  top-lawful = alternative (exactly w.word_scalarset ∷ []) (exactly w.word_ordset ∷ exactly w.word_typedef ∷ exactly w.word_module ∷ []) (scalarset-lawful C n)
      (alternative (exactly w.word_ordset ∷ []) (exactly w.word_typedef ∷ exactly w.word_module ∷ []) (ordset-lawful C n)
      (alternative (exactly w.word_typedef ∷ []) (exactly w.word_module ∷ []) (typedef-lawful C n) module-lawful
      (begins-then (token-begins w.word_typedef)) (begins-then (token-begins w.word_module)) refl)
      (begins-then (token-begins w.word_ordset)) from-typedef-begins refl)
      (begins-then (token-begins w.word_scalarset)) from-ordset-begins refl

-- the reader of texts within n levels has its law
pub texts : (n : ℕ) → Lawful (Unit {0}) text_rule n (p.read_tops n) (stops_by (λ ft. top_marks))
unfolding p.read_tops
texts n = made top_marks text_of (repeated top_marks closed top_marks (top-lawful (Unit {0}) n) top-begins (λ a. refl) refl (λ a. refl))
