-- Worked texts, as lists of tokens.
use Rattle.std.specs.Prelude.{ℕ, zero, suc, List, [], ◌∷◌, ◌++◌, codes, None}
use Rattle.smv_core.specs.declared.token.TokenKind.{TokenKind}
use Rattle.smv_core.specs.declared.token.TokenKind.TheVariants.{Ident, Number}
use Rattle.smv_core.specs.declared.tree.Expr.{Expr}
use Rattle.smv_core.specs.declared.tree.Expr.TheVariants as expr
use Rattle.smv_core.specs.declared.tree.TypeExpr.TheVariants as type
use Rattle.smv_core.specs.Signs.{open_paren, close_paren, open_brace, close_brace, colon, arrow, word_in, word_boolean}
use Rattle.smv_core.specs.Notation.{Tokens}
use Rattle.smv_core.specs.Grammar.{named}
use Rattle.law_grammar.specs.Laws.{SpellsExpr}

-- the tokens at the offsets from this one on
abbrev pub laid : ℕ → List TokenKind → Tokens
laid at [] = []
laid at (k ∷ more) = record { kind = k; at = at } ∷ laid (suc at) more

abbrev pub a_signal : List ℕ → ℕ → Expr
a_signal name at = expr.Signal (named (record { name = name; at = at }) [])

abbrev pub times : ℕ → TokenKind → List TokenKind
times zero k = []
times (suc n) k = k ∷ times n k

abbrev pub implications : Tokens
implications = laid 0 (Ident (codes "a") ∷ arrow ∷ Ident (codes "b") ∷ arrow ∷ Ident (codes "c") ∷ [])

-- `a -> b -> c` is one chain
abbrev pub IsOneChain : Type 0
IsOneChain = SpellsExpr 0 implications (expr.Implies (a_signal (codes "a") 0 ∷ a_signal (codes "b") 2 ∷ a_signal (codes "c") 4 ∷ []))

-- 1 in so many parentheses
abbrev pub in_parentheses : ℕ → Tokens
in_parentheses n = laid 0 (times n open_paren ++ Number 1 ∷ times n close_paren)

-- 64 parentheses fit in 64 levels
abbrev pub Fits64 : Type 0
Fits64 = SpellsExpr 64 (in_parentheses 64) (expr.Number 1 64)

-- 65 fit in 65 levels, and not in 64
abbrev pub Fits65 : Type 0
Fits65 = SpellsExpr 65 (in_parentheses 65) (expr.Number 1 65) × ((x : Expr) → SpellsExpr 64 (in_parentheses 65) x → ⊥)

-- `{ first : second in boolean }`
abbrev pub comprehension : List ℕ → List ℕ → Tokens
comprehension first second = laid 0 (open_brace ∷ Ident first ∷ colon ∷ Ident second ∷ word_in ∷ word_boolean ∷ close_brace ∷ [])

-- a comprehension whose two names differ is no expression
abbrev pub DifferentNames : Type 0
DifferentNames = (n : ℕ) (x : Expr) → SpellsExpr n (comprehension (codes "a") (codes "b")) x → ⊥

-- one whose names are equal is, and its variable stands at the first
abbrev pub EqualNames : Type 0
EqualNames = SpellsExpr 1 (comprehension (codes "a") (codes "a")) (expr.Each (record { name = codes "a"; at = 1 }) type.Boolean None 0)
