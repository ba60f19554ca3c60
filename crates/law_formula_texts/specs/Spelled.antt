-- The grammar of texts with formulas, which is that of texts but for claims.
use Rattle.std.specs.Prelude.{◌≡◌, ℕ, zero, suc, List, [], ◌∷◌, ◌++◌, map, flat_map, Option, Some, None, true, false}
use Rattle.smv_core.specs.declared.tree.Item.{Item, Forall', Block', Claim, Row_of-Item, end_of-Item, more_of-Item}
use Rattle.smv_core.specs.declared.tree.Item.TheVariants as item
use Rattle.smv_core.specs.declared.tree.Top.{Top}
use Rattle.smv_core.specs.declared.tree.Top.TheVariants as top
use Rattle.smv_core.specs.declared.tree.Expr.{Expr, Number}
use Rattle.smv_core.specs.Signs.{open_paren, close_paren, open_brace, close_brace, colon, semicolon, comma}
use Rattle.smv_core.specs.Signs as w
use Rattle.smv_core.specs.Notation.{Tokens, Rule, never, nothing, ◌>>=◌, ◌>>◌, ◌<|>◌, many, placed, token, name, separated_or_none, opener}
use Rattle.smv_core.specs.Grammar.{Rules, no_rules, rules, expr_rule, in_brackets, extent, type_rule, split, using, simple, declaration, instance, layer}
use Rattle.law_formulas.specs.Formulas.{Formula, now, next, when, weak, FormulaText, at_place, of_body}

-- what a claim has as its body in the tree, for the formula that stands at this offset: the expression, for which the list has nothing, or the number 1 at the offset, for which it has the formula
abbrev pub body_for : List (ℕ × Formula) → Formula → ℕ → Rule Expr
body_for formulas (now e) at = λ ts x rest. (of_body formulas e ≡ None) × nothing e ts x rest
body_for formulas f at = λ ts x rest. (at_place formulas at ≡ Some f) × nothing (Number 1 at) ts x rest

module _ (floor : ℕ → ℕ) (n : ℕ) (inner : Rules) (inner_formula : Rule Formula) where
  -- Formula := 'X' '(' Formula ')' | 'if' '(' Expr ')' Formula | 'W' '(' Expr ',' Expr ')' | Expr
  abbrev pub formula_rule : Rule Formula
  formula_rule =
      (token w.word_X >>= λ at. opener floor n open_paren >> inner_formula >>= λ f. token close_paren >> nothing (next at f))
      <|> (opener floor n w.word_if >> inner.condition >>= λ c. inner_formula >>= λ f. nothing (when c f))
      <|> (token w.word_W >> opener floor n open_paren >> inner.expr >>= λ p. token comma >> inner.expr >>= λ q. token close_paren >> nothing (weak p q))
      <|> (expr_rule floor n inner >>= λ e. nothing (now e))

module _ (floor : ℕ → ℕ) (n : ℕ) (inner : Rules) (inner_formula : Rule Formula) (formulas : List (ℕ × Formula)) where
  -- Claim := name { '[' name ']' } ':' 'assert' 'G' Formula ';'
  abbrev pub claim_rule : Rule Item
  claim_rule = name >>= λ x. many (in_brackets floor n inner) >>= λ vars. token colon >> token w.word_assert >> token w.word_G >>
      placed (formula_rule floor n inner inner_formula) >>= λ f. body_for formulas f.0 f.1 >>= λ body. token semicolon >> nothing (item.Claim x vars body x.at)

  abbrev pub item_with : Rule Item
  item_with =
      (opener floor n w.word_forall >>= λ at. inner.binder >>= λ b. inner.item >>= λ body. nothing (item.Forall b.0 b.1 body at))
      <|> (opener floor n open_brace >> many inner.item >>= λ items. token close_brace >> nothing (item.Block items))
      <|> claim_rule <|> split floor n inner <|> using floor n inner
      <|> (simple floor n inner >>= λ x. nothing (item.Act x))

  abbrev pub body_with : Rule Item
  body_with = declaration floor n inner <|> instance floor n inner <|> layer floor n inner <|> item_with

  abbrev pub rules_with : Rules
  rules_with = record (rules floor n inner) { item = item_with; body = body_with }

  -- Top, with such bodies
  abbrev pub top_with : Rule Top
  top_with =
      (token w.word_scalarset >> name >>= λ x. extent >>= λ s. token semicolon >> nothing (top.SetType x false s.0 s.1))
      <|> (token w.word_ordset >> name >>= λ x. token w.word_undefined >>= λ at. token semicolon >> nothing (top.SetType x true None at))
      <|> (token w.word_typedef >>= λ at. name >>= λ x. type_rule floor n inner >>= λ of. token semicolon >> nothing (top.Alias x of at))
      <|> (token w.word_module >>= λ at. name >>= λ x. opener floor n open_paren >> separated_or_none name >>= λ formals. token close_paren >>
      opener floor n open_brace >> many inner.body >>= λ items. token close_brace >> nothing (top.Module x formals items at))

-- the rules where fewer levels are left than this
abbrev pub below_with : List (ℕ × Formula) → (ℕ → ℕ) → ℕ → Rules × Rule Formula
below_with formulas floor zero = (no_rules, never)
below_with formulas floor (suc n) = let inner = below_with formulas floor n in (rules_with floor n inner.0 inner.1 formulas, formula_rule floor n inner.0 inner.1)

-- the offsets at which the bodies of an item's claims are numbers
abbrev mutual
  pub places_in : Item → List ℕ
  places_in (Forall' var over shape (more_of-Item body end_of-Item) at) = places_in body
  places_in (Block' shape items) = places_among items
  places_in (Claim x vars (Number value at) place) = at ∷ []
  places_in _ = []

  pub places_among : {m : _} → Row_of-Item m → List ℕ
  places_among end_of-Item = []
  places_among (more_of-Item item rest) = places_in item ++ places_among rest

abbrev pub places_of_top : Top → List ℕ
places_of_top (top.Module x formals body at) = flat_map places_in body
places_of_top other = []

abbrev pub if_found : ℕ → Option Formula → List ℕ
if_found at (Some f) = at ∷ []
if_found at None = []

-- which of these offsets have a formula
abbrev pub with_formula : List (ℕ × Formula) → ℕ → List ℕ
with_formula formulas at = if_found at (at_place formulas at)

-- the tokens spell the text with its formulas, with at most n levels open at any of them; the list has the formulas of the claims in their order, and no others
pub record SpellsFormulas (n : ℕ) (ts : Tokens) (ft : FormulaText) : Type 0 where
  pub text : let inner = below_with ft.formulas (λ at. 0) n in many (top_with (λ at. 0) n inner.0 inner.1 ft.formulas) ts ft.text.tops []
  pub formulas : map (λ entry. entry.0) ft.formulas ≡ flat_map (with_formula ft.formulas) (flat_map places_of_top ft.text.tops)
