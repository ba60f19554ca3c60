-- The tokens of expressions, with parentheses exactly where leaving them out would give another tree or none.
use Rattle.std.specs.Prelude.{ℕ, Bool, true, false, List, [], ◌∷◌, ◌++◌, Option, Some, None, map, flat_map, nat_lt, if◌then◌else◌}
use Rattle.smv_core.specs.declared.token.TokenKind.{TokenKind}
use Rattle.smv_core.specs.declared.token.TokenKind.TheVariants.{Ident, Number}
use Rattle.smv_core.specs.declared.tree.Expr.{Expr, fold-Expr}
use Rattle.smv_core.specs.declared.tree.Word.{Word}
use Rattle.smv_core.specs.declared.tree.TypeExpr.{TypeExpr}
use Rattle.smv_core.specs.declared.tree.Member.{Member, fold-Member}
use Rattle.smv_core.specs.declared.tree.Part.{Part, fold-Part}
use Rattle.smv_core.specs.declared.tree.Path.{Path, fold-Path}
use Rattle.smv_core.specs.declared.tree.Expr.TheOpen.{Expr-F, Member-F, Part-F, Path-F}
use Rattle.smv_core.specs.declared.tree.Signed.{Signed, fold-Signed, Signed-F}
use Rattle.smv_core.specs.declared.tree.Op.{Op}
use Rattle.smv_core.specs.declared.tree.Op.TheVariants as op
use Rattle.smv_core.specs.Signs.{open_paren, close_paren, open_bracket, close_bracket, open_brace, close_brace, colon, comma, dot}
use Rattle.smv_core.specs.Signs as w
use Rattle.smv_print.specs.Written.{Kinds, separated}
use Rattle.smv_print.specs.Types.{type_kinds, span_kinds}

-- ---- how tightly an expression binds, from a conditional to a number

abbrev pub conditional : ℕ
conditional = 0

abbrev pub equivalence : ℕ
equivalence = 1

abbrev pub implication : ℕ
implication = 2

abbrev pub disjunction : ℕ
disjunction = 3

abbrev pub conjunction : ℕ
conjunction = 4

abbrev pub negation : ℕ
negation = 5

abbrev pub comparison : ℕ
comparison = 6

abbrev pub remainder : ℕ
remainder = 7

abbrev pub sum : ℕ
sum = 8

abbrev pub primary : ℕ
primary = 9

-- the tokens of an expression without parentheses around it, and how tightly it binds
pub record Spelled : Type 0 where
  pub binding : ℕ
  pub bare : Kinds

-- the tokens where an expression is wanted that binds at least so tightly
abbrev pub within : ℕ → Spelled → Kinds
within wanted x = if nat_lt x.binding wanted then open_paren ∷ x.bare ++ close_paren ∷ [] else x.bare

-- ---- the productions

-- X { sign X }
abbrev pub chain : ℕ → TokenKind → ℕ → List Spelled → Spelled
chain own sign wanted parts = record { binding = own; bare = separated sign (map (within wanted) parts) }

-- X sign X
abbrev pub binary : ℕ → TokenKind → ℕ → Spelled → Spelled → Spelled
binary own sign wanted x y = record { binding = own; bare = within wanted x ++ sign ∷ within wanted y }

abbrev pub alone : Kinds → Spelled
alone ks = record { binding = primary; bare = ks }

abbrev pub operator : Op → TokenKind
operator op.Equal = w.equal
operator op.Differ = w.differ
operator op.Less = w.less
operator op.AtMost = w.at_most
operator op.Greater = w.greater
operator op.AtLeast = w.at_least

-- no dot stands before the first part of a path
abbrev pub dot_before : Bool → Kinds
dot_before true = []
dot_before false = dot ∷ []

abbrev pub part_step : Part-F Spelled Kinds (Bool → Kinds) Kinds Kinds → Bool → Kinds
part_step (Part-F.Field x) first = dot_before first ++ Ident x.name ∷ []
part_step (Part-F.At index) first = open_bracket ∷ within conditional index ++ close_bracket ∷ []

abbrev pub parts_kinds : List (Bool → Kinds) → Kinds
parts_kinds [] = []
parts_kinds (part ∷ more) = part true ++ flat_map (λ p. p false) more

abbrev pub path_step : Path-F Spelled Kinds (Bool → Kinds) Kinds Kinds → Kinds
path_step p = parts_kinds p.parts

abbrev pub plus_or_minus : Bool → TokenKind
plus_or_minus minus = if minus then w.minus else w.plus

abbrev pub signed_step : Signed-F Spelled Kinds (Bool → Kinds) Kinds Kinds → Kinds
signed_step s = plus_or_minus s.minus ∷ within primary s.of

abbrev pub member_step : Member-F Spelled Kinds (Bool → Kinds) Kinds Kinds → Kinds
member_step (Member-F.One x) = within conditional x
member_step (Member-F.Span span at) = span_kinds span

-- Iff '?' Expr ':' Expr
abbrev pub choice : Spelled → Spelled → Spelled → Kinds
choice c x y = within equivalence c ++ w.question ∷ within conditional x ++ colon ∷ within conditional y

-- ( '&' | '|' ) '[' Expr ':' name 'in' Index ']'
abbrev pub reduction : TokenKind → Spelled → Word → TypeExpr → Kinds
reduction mark x v over = mark ∷ open_bracket ∷ within conditional x ++ colon ∷ Ident v.name ∷ w.word_in ∷ type_kinds over ++ close_bracket ∷ []

-- ', Expr' or nothing
abbrev pub condition : Option Spelled → Kinds
condition None = []
condition (Some c) = comma ∷ within conditional c

-- '{' name ':' name 'in' Index [ ',' Expr ] '}'
abbrev pub comprehension : Word → TypeExpr → Option Spelled → Kinds
comprehension v over c = open_brace ∷ Ident v.name ∷ colon ∷ Ident v.name ∷ w.word_in ∷ type_kinds over ++ condition c ++ close_brace ∷ []

abbrev pub expr_step : Expr-F Spelled Kinds (Bool → Kinds) Kinds Kinds → Spelled
expr_step (Expr-F.Number value at) = alone (Number value ∷ [])
expr_step (Expr-F.Signal path) = alone path
expr_step (Expr-F.Not x at) = record { binding = negation; bare = w.tilde ∷ within negation x }
expr_step (Expr-F.And parts) = chain conjunction w.ampersand negation parts
expr_step (Expr-F.Or parts) = chain disjunction w.bar conjunction parts
expr_step (Expr-F.Implies parts) = chain implication w.arrow disjunction parts
expr_step (Expr-F.Iff x y) = binary equivalence w.double_arrow implication x y
expr_step (Expr-F.Compare o x y) = binary comparison (operator o) remainder x y
expr_step (Expr-F.Within x set) = record { binding = comparison; bare = within remainder x ++ w.word_in ∷ within primary set }
expr_step (Expr-F.Sum x more) = record { binding = sum; bare = within primary x ++ flat_map (λ s. s) more }
expr_step (Expr-F.Modulo x by at) = record { binding = remainder; bare = within sum x ++ w.word_mod ∷ Number by ∷ [] }
expr_step (Expr-F.Choose c x y) = record { binding = conditional; bare = choice c x y }
expr_step (Expr-F.All x v over at) = alone (reduction w.ampersand x v over)
expr_step (Expr-F.Any x v over at) = alone (reduction w.bar x v over)
expr_step (Expr-F.List members at) = alone (open_brace ∷ separated comma members ++ close_brace ∷ [])
expr_step (Expr-F.Each v over c at) = alone (comprehension v over c)

unfoldable pub spelled : Expr → Spelled
spelled = fold-Expr Spelled Kinds (Bool → Kinds) Kinds Kinds expr_step member_step part_step path_step signed_step

unfoldable pub member_kinds : Member → Kinds
member_kinds = fold-Member Spelled Kinds (Bool → Kinds) Kinds Kinds expr_step member_step part_step path_step signed_step

unfoldable pub part_kinds : Part → Bool → Kinds
part_kinds = fold-Part Spelled Kinds (Bool → Kinds) Kinds Kinds expr_step member_step part_step path_step signed_step

unfoldable pub path_kinds : Path → Kinds
path_kinds = fold-Path Spelled Kinds (Bool → Kinds) Kinds Kinds expr_step member_step part_step path_step signed_step

unfoldable pub signed_kinds : Signed → Kinds
signed_kinds = fold-Signed Spelled Kinds (Bool → Kinds) Kinds Kinds expr_step member_step part_step path_step signed_step

-- the tokens of an expression
abbrev pub expr_kinds : Expr → Kinds
expr_kinds x = within conditional (spelled x)
