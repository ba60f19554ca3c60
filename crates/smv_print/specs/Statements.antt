-- The tokens of statements.
use Rattle.std.specs.Prelude.{ℕ, Bool, List, [], ◌∷◌, ◌++◌, Option, Some, None, map, flat_map, if◌then◌else◌}
use Rattle.smv_core.specs.declared.token.TokenKind.TheVariants.{Ident, Number}
use Rattle.smv_core.specs.declared.tree.Stmt.{Stmt, fold-Stmt}
use Rattle.smv_core.specs.declared.tree.Stmt.TheOpen.{Stmt-F}
use Rattle.smv_core.specs.declared.tree.Arm.{Arm, fold-Arm, Arm-F}
use Rattle.smv_core.specs.declared.tree.Word.{Word}
use Rattle.smv_core.specs.declared.tree.TypeExpr.{TypeExpr}
use Rattle.smv_core.specs.declared.tree.Kind.{Kind}
use Rattle.smv_core.specs.declared.tree.Kind.TheVariants as kind
use Rattle.smv_core.specs.Signs.{open_paren, close_paren, open_brace, close_brace, colon, semicolon, comma, becomes, equal, less, at_most, plus}
use Rattle.smv_core.specs.Signs as w
use Rattle.smv_print.specs.Written.{Kinds, separated}
use Rattle.smv_print.specs.Types.{type_kinds}
use Rattle.smv_print.specs.Expressions.{expr_kinds, path_kinds}

-- Path | ( 'init' | 'next' ) '(' Path ')'
abbrev pub target : Kind → Kinds → Kinds
target kind.Comb path = path
target kind.Init path = w.word_init ∷ open_paren ∷ path ++ close_paren ∷ []
target kind.Next path = w.word_next ∷ open_paren ∷ path ++ close_paren ∷ []

-- 'forall' '(' name 'in' Index ')'
abbrev pub binder : Word → TypeExpr → Kinds
binder v over = w.word_forall ∷ open_paren ∷ Ident v.name ∷ w.word_in ∷ type_kinds over ++ close_paren ∷ []

-- 'else' Stmt, or nothing
abbrev pub otherwise : Option Kinds → Kinds
otherwise None = []
otherwise (Some x) = w.word_else ∷ x

-- 'default' ':' Stmt, or nothing
abbrev pub other_arm : Option Kinds → Kinds
other_arm None = []
other_arm (Some x) = w.word_default ∷ colon ∷ x

-- name '=' number
abbrev pub equation : List ℕ → ℕ → Kinds
equation v from = Ident v ∷ equal ∷ Number from ∷ []

-- name ( '<' | '<=' ) number
abbrev pub bound : List ℕ → Bool → ℕ → Kinds
bound v closed to = Ident v ∷ (if closed then at_most else less) ∷ Number to ∷ []

-- name '=' name '+' number
abbrev pub increment : List ℕ → ℕ → Kinds
increment v step = Ident v ∷ equal ∷ Ident v ∷ plus ∷ Number step ∷ []

-- '(' name '=' number ';' name ( '<' | '<=' ) number ';' name '=' name '+' number ')'
abbrev pub turns : List ℕ → ℕ → ℕ → Bool → ℕ → Kinds
turns v from to closed step = open_paren ∷ equation v from ++ semicolon ∷ bound v closed to ++ semicolon ∷ increment v step ++ close_paren ∷ []

abbrev pub arm_step : Arm-F Kinds Kinds → Kinds
arm_step a = separated comma (map expr_kinds a.labels) ++ colon ∷ a.body

abbrev pub stmt_step : Stmt-F Kinds Kinds → Kinds
stmt_step (Stmt-F.Assign kind left value at) = target kind (path_kinds left) ++ becomes ∷ expr_kinds value ++ semicolon ∷ []
stmt_step (Stmt-F.Block parts) = open_brace ∷ flat_map (λ x. x) parts ++ close_brace ∷ []
stmt_step (Stmt-F.If c x y at) = w.word_if ∷ open_paren ∷ expr_kinds c ++ close_paren ∷ x ++ otherwise y
stmt_step (Stmt-F.Switch on arms other at) =
    w.word_switch ∷ open_paren ∷ expr_kinds on ++ close_paren ∷ open_brace ∷ flat_map (λ x. x) arms ++ other_arm other ++ close_brace ∷ []
stmt_step (Stmt-F.Default x y at) = w.word_default ∷ x ++ w.word_in ∷ y
stmt_step (Stmt-F.For v from to closed step body at) = w.word_for ∷ turns v.name from to closed step ++ body
stmt_step (Stmt-F.Forall v over body at) = binder v over ++ body

unfoldable pub stmt_kinds : Stmt → Kinds
stmt_kinds = fold-Stmt Kinds Kinds stmt_step arm_step

unfoldable pub arm_kinds : Arm → Kinds
arm_kinds = fold-Arm Kinds Kinds stmt_step arm_step
