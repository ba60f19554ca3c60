-- Worked texts with formulas, as lists of tokens, with their trees, their formulas, translations and faults. The offset of each token is its place in the list.
use Rattle.std.specs.Prelude.{◌≡◌, ℕ, zero, suc, List, [], ◌∷◌, ◌++◌, codes}
use Rattle.smv_core.specs.declared.token.TokenKind.{TokenKind}
use Rattle.smv_core.specs.declared.token.TokenKind.TheVariants.{Ident, Number}
use Rattle.smv_core.specs.declared.tree.Expr.{Expr}
use Rattle.smv_core.specs.declared.tree.Expr.TheVariants as expr
use Rattle.smv_core.specs.declared.tree.Op.TheVariants as op
use Rattle.smv_core.specs.declared.tree.Part.TheVariants as part
use Rattle.smv_core.specs.declared.tree.TypeExpr.TheVariants as type
use Rattle.smv_core.specs.declared.tree.Stmt.TheVariants as stmt
use Rattle.smv_core.specs.declared.tree.Kind.TheVariants as kind
use Rattle.smv_core.specs.declared.tree.Role.TheVariants as role
use Rattle.smv_core.specs.declared.tree.Item.{Item}
use Rattle.smv_core.specs.declared.tree.Item.TheVariants as item
use Rattle.smv_core.specs.declared.tree.Text.{Text}
use Rattle.smv_core.specs.Signs as w
use Rattle.smv_core.specs.Signs.{open_paren, close_paren, open_bracket, close_bracket, open_brace, close_brace, colon, semicolon, comma, tilde, ampersand}
use Rattle.smv_core.specs.Grammar.{named}
use Rattle.smv_core.specs.Notation.{Tokens}
use Rattle.law_grammar.specs.Worked.{a_signal}
use Rattle.law_grammar.specs.WorkedTexts.{word, path, in_module, module_of}
use Rattle.law_formulas.specs.Formulas.{FormulaText, now, next, when, weak}
use Rattle.law_formulas.specs.Monitors.{translated_by}
use Rattle.law_formula_texts.specs.Spelled.{SpellsFormulas}
use Rattle.law_formula_grammar.specs.Grammar.{text_rule}
use Rattle.law_formula_grammar.specs.Spelling.{SpellsBy, IsUnexpectedBy, IsTooDeepBy}

-- ---- one formula

abbrev pub x : TokenKind
x = Ident (codes "x")

-- p : assert G
abbrev pub claims : List TokenKind → List TokenKind
claims formula = Ident (codes "p") ∷ colon ∷ w.word_assert ∷ w.word_G ∷ formula ++ semicolon ∷ []

-- module m() { x : boolean; p : assert G if (x) X (~x); }
abbrev pub toggle_text : Tokens
toggle_text = in_module (x ∷ colon ∷ w.word_boolean ∷ semicolon ∷ claims (w.word_if ∷ open_paren ∷ x ∷ close_paren ∷ w.word_X ∷ open_paren ∷ tilde ∷ x ∷ close_paren ∷ []))

-- x : boolean; p : assert G body;
abbrev pub toggle_items : Expr → List Item
toggle_items body = item.Declare role.Plain (word (codes "x") 5 ∷ []) type.Boolean 5 ∷ item.Claim (word (codes "p") 9) [] body 9 ∷ []

-- the claim has the number 1 at the offset of its `if`
abbrev pub toggle_tree : FormulaText
toggle_tree = record {
  text = module_of (toggle_items (expr.Number 1 13));
  formulas = (13, when (a_signal (codes "x") 15) (next 17 (now (expr.Not (a_signal (codes "x") 20) 19)))) ∷ [];
}

abbrev pub m0 : Expr
m0 = a_signal (codes "m0") 0

-- p : assert G m0 -> ~x; abstract m0 : boolean; layer m1 : { init ( m0 ) := 0 ; next ( m0 ) := 1 & ~ ( (x) = 0 ) ; }
abbrev pub toggle_watched : Text
toggle_watched = module_of (toggle_items (expr.Implies (m0 ∷ expr.Not (a_signal (codes "x") 20) 19 ∷ [])) ++
    item.Declare role.Abstract (word (codes "m0") 0 ∷ []) type.Boolean 0 ∷
    item.Layer (word (codes "m1") 0) (
    stmt.Assign kind.Init (path (codes "m0") 0) (expr.Number 0 0) 0 ∷
    stmt.Assign kind.Next (path (codes "m0") 0) (expr.And (expr.Number 1 0 ∷ expr.Not (expr.Compare op.Equal (a_signal (codes "x") 15) (expr.Number 0 0)) 0 ∷ [])) 0 ∷ []) 0 ∷ [])

-- the tokens spell the tree and its formula, and this is its translation
abbrev pub ToggleIsSpelled : Type 0
ToggleIsSpelled = SpellsBy text_rule 64 toggle_text toggle_tree × SpellsFormulas 64 toggle_text toggle_tree × (translated_by (codes "m0" ∷ codes "m1" ∷ []) toggle_tree ≡ toggle_watched)

-- ---- several claims

-- module m() { forall (i in s) { p[i] : assert G W (x, y[i]); q : assert G (1); } p : assert G x; }
abbrev pub several_text : Tokens
several_text = in_module (w.word_forall ∷ open_paren ∷ Ident (codes "i") ∷ w.word_in ∷ Ident (codes "s") ∷ close_paren ∷ open_brace ∷
    Ident (codes "p") ∷ open_bracket ∷ Ident (codes "i") ∷ close_bracket ∷ colon ∷ w.word_assert ∷ w.word_G ∷
    w.word_W ∷ open_paren ∷ x ∷ comma ∷ Ident (codes "y") ∷ open_bracket ∷ Ident (codes "i") ∷ close_bracket ∷ close_paren ∷ semicolon ∷
    Ident (codes "q") ∷ colon ∷ w.word_assert ∷ w.word_G ∷ open_paren ∷ Number 1 ∷ close_paren ∷ semicolon ∷ close_brace ∷ claims (x ∷ []))

-- one claim has a formula, and the two others have their expressions
abbrev pub several_tree : FormulaText
several_tree = record {
  text = module_of (
      item.Forall (word (codes "i") 7) (type.Named (word (codes "s") 9) 9) (item.Block (
      item.Claim (word (codes "p") 12) (word (codes "i") 14 ∷ []) (expr.Number 1 19) 12 ∷
      item.Claim (word (codes "q") 29) [] (expr.Number 1 34) 29 ∷ [])) 5 ∷
      item.Claim (word (codes "p") 38) [] (a_signal (codes "x") 42) 38 ∷ []);
  formulas = (19, weak (a_signal (codes "x") 21) (expr.Signal (named (word (codes "y") 23) (part.At (a_signal (codes "i") 25) ∷ [])))) ∷ [];
}

abbrev pub SeveralAreSpelled : Type 0
SeveralAreSpelled = SpellsBy text_rule 64 several_text several_tree × SpellsFormulas 64 several_text several_tree

-- ---- faults

-- p : assert G x & X (x); an X is no part of an expression
abbrev pub operand_text : Tokens
operand_text = in_module (claims (x ∷ ampersand ∷ w.word_X ∷ open_paren ∷ x ∷ close_paren ∷ []))

abbrev pub XIsNoOperand : Type 0
XIsNoOperand = IsUnexpectedBy text_rule 64 100 operand_text 11

-- p : assert G X x; the parentheses of an X are needed
abbrev pub bare_text : Tokens
bare_text = in_module (claims (w.word_X ∷ x ∷ []))

abbrev pub XIsNotBare : Type 0
XIsNotBare = IsUnexpectedBy text_rule 64 100 bare_text 10

-- p : assert G W (x); a W has two parts
abbrev pub two_text : Tokens
two_text = in_module (claims (w.word_W ∷ open_paren ∷ x ∷ close_paren ∷ []))

abbrev pub WHasTwo : Type 0
WHasTwo = IsUnexpectedBy text_rule 64 100 two_text 12

-- p : assert G if (x) X (x) else x; there is no `else`
abbrev pub else_text : Tokens
else_text = in_module (claims (w.word_if ∷ open_paren ∷ x ∷ close_paren ∷ w.word_X ∷ open_paren ∷ x ∷ close_paren ∷ w.word_else ∷ x ∷ []))

abbrev pub NoElse : Type 0
NoElse = IsUnexpectedBy text_rule 64 100 else_text 17

-- so many X around x
abbrev pub nested : ℕ → List TokenKind
nested zero = x ∷ []
nested (suc n) = w.word_X ∷ open_paren ∷ nested n ++ close_paren ∷ []

abbrev pub deep_text : Tokens
deep_text = in_module (claims (nested 64))

-- with the brace of the module, the parenthesis of the 64th X opens a level too many
abbrev pub XIsTooDeep : Type 0
XIsTooDeep = IsTooDeepBy text_rule 64 deep_text 136
