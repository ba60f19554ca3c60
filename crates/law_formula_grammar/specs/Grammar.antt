-- The grammar of texts with formulas: that of texts but for claims. Each tree comes with the formulas of its claims, in their order.
use Rattle.std.specs.Prelude.{ℕ, zero, suc, List, [], ◌∷◌, map, flat_map, None, true, false}
use Rattle.smv_core.specs.declared.tree.Word.{Word}
use Rattle.smv_core.specs.declared.tree.Expr.{Expr, Number}
use Rattle.smv_core.specs.declared.tree.TypeExpr.{TypeExpr}
use Rattle.smv_core.specs.declared.tree.Item.{Item}
use Rattle.smv_core.specs.declared.tree.Item.TheVariants as item
use Rattle.smv_core.specs.declared.tree.Top.{Top}
use Rattle.smv_core.specs.declared.tree.Top.TheVariants as top
use Rattle.smv_core.specs.Signs.{open_paren, close_paren, open_brace, close_brace, colon, semicolon}
use Rattle.smv_core.specs.Signs as w
use Rattle.smv_core.specs.Notation.{Rule, never, nothing, ◌>>=◌, ◌>>◌, ◌<|>◌, many, placed, token, name, separated_or_none, opener}
use Rattle.smv_core.specs.Grammar.{below, in_brackets, extent, type_rule, split, using, simple, declaration, instance, layer}
use Rattle.law_formulas.specs.Formulas.{Formula, now, FormulaText}
use Rattle.law_formula_texts.specs.Spelled.{formula_rule}

-- ---- trees with formulas

-- formulas, each with the offset of its first token
abbrev pub Formulas : Type 0
Formulas = List (ℕ × Formula)

-- a tree, and the formulas of its claims
abbrev pub With : Type 0 → Type 0
With A = A × Formulas

-- a tree without one
abbrev pub bare : {A : Type 0} → A → With A
bare a = (a, [])

-- the trees
abbrev pub trees : {A : Type 0} → List (With A) → List A
trees xs = map (λ x. x.0) xs

-- their formulas
abbrev pub all_formulas : {A : Type 0} → List (With A) → Formulas
all_formulas xs = flat_map (λ x. x.1) xs

-- what a claim has as its body, for the formula that stands at this offset: the expression, or the number 1 at the offset
abbrev pub body_of : Formula → ℕ → Expr
body_of (now e) at = e
body_of f at = Number 1 at

-- the formula with its offset, where it is no expression
abbrev pub listed : Formula → ℕ → Formulas
listed (now e) at = []
listed f at = (at, f) ∷ []

abbrev pub claim_of : Word → List Word → Formula × ℕ → With Item
claim_of x vars f = (item.Claim x vars (body_of f.0 f.1) x.at, listed f.0 f.1)

abbrev pub forall_of : Word × TypeExpr → ℕ → With Item → With Item
forall_of b at body = (item.Forall b.0 b.1 body.0 at, body.1)

abbrev pub block_of : List (With Item) → With Item
block_of items = (item.Block (trees items), all_formulas items)

abbrev pub module_of : ℕ → Word → List Word → List (With Item) → With Top
module_of at x formals items = (top.Module x formals (trees items) at, all_formulas items)

abbrev pub text_of : List (With Top) → FormulaText
text_of tops = record { text = record { tops = trees tops }; formulas = all_formulas tops }

-- ---- the levels

-- the rule of formulas where fewer levels are left than this
abbrev pub formula_below : (ℕ → ℕ) → ℕ → Rule Formula
formula_below floor zero = never
formula_below floor (suc n) = formula_rule floor n (below floor n) (formula_below floor n)

abbrev pub formula_at : (ℕ → ℕ) → ℕ → Rule Formula
formula_at floor n = formula_rule floor n (below floor n) (formula_below floor n)

-- what has no formula
abbrev pub without : {A : Type 0} → Rule A → Rule (With A)
without r = r >>= λ x. nothing (bare x)

module _ (floor : ℕ → ℕ) (n : ℕ) where
  -- Claim := name { '[' name ']' } ':' 'assert' 'G' Formula ';'
  abbrev pub claim : Rule (With Item)
  claim = name >>= λ x. many (in_brackets floor n (below floor n)) >>= λ vars. token colon >> token w.word_assert >> token w.word_G >>
      placed (formula_at floor n) >>= λ f. token semicolon >> nothing (claim_of x vars f)

  module _ (inner : Rule (With Item)) where
    -- Item := Binder Item | '{' { Item } '}' | Claim | Split | Using | Simple
    abbrev pub item_rule : Rule (With Item)
    item_rule =
        (opener floor n w.word_forall >>= λ at. (below floor n).binder >>= λ b. inner >>= λ body. nothing (forall_of b at body))
        <|> (opener floor n open_brace >> many inner >>= λ items. token close_brace >> nothing (block_of items))
        <|> claim <|> without (split floor n (below floor n)) <|> without (using floor n (below floor n))
        <|> (simple floor n (below floor n) >>= λ x. nothing (bare (item.Act x)))

    -- Body := a declaration | an instance | a layer | Item
    abbrev pub body_rule : Rule (With Item)
    body_rule = without (declaration floor n (below floor n)) <|> without (instance floor n (below floor n)) <|> without (layer floor n (below floor n)) <|> item_rule

-- the rules of items and bodies where fewer levels are left than this
abbrev pub item_below : (ℕ → ℕ) → ℕ → Rule (With Item)
item_below floor zero = never
item_below floor (suc n) = item_rule floor n (item_below floor n)

abbrev pub body_below : (ℕ → ℕ) → ℕ → Rule (With Item)
body_below floor zero = never
body_below floor (suc n) = body_rule floor n (item_below floor n)

-- Top := 'scalarset' name ( 'undefined' | number '..' number ) ';' | 'ordset' name 'undefined' ';' | 'typedef' name Type ';'
--     | 'module' name '(' [ name { ',' name } ] ')' '{' { Body } '}'
abbrev pub top_rule : (ℕ → ℕ) → ℕ → Rule (With Top)
top_rule floor n =
    (token w.word_scalarset >> name >>= λ x. extent >>= λ s. token semicolon >> nothing (bare (top.SetType x false s.0 s.1)))
    <|> (token w.word_ordset >> name >>= λ x. token w.word_undefined >>= λ at. token semicolon >> nothing (bare (top.SetType x true None at)))
    <|> (token w.word_typedef >>= λ at. name >>= λ x. type_rule floor n (below floor n) >>= λ of. token semicolon >> nothing (bare (top.Alias x of at)))
    <|> (token w.word_module >>= λ at. name >>= λ x. opener floor n open_paren >> separated_or_none name >>= λ formals. token close_paren >>
    opener floor n open_brace >> many (body_below floor n) >>= λ items. token close_brace >> nothing (module_of at x formals items))

-- Text := { Top }
abbrev pub text_rule : (ℕ → ℕ) → ℕ → Rule FormulaText
text_rule floor n = many (top_rule floor n) >>= λ tops. nothing (text_of tops)
