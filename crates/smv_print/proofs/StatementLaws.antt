-- The equations of the tokens of statements.
use Rattle.std.proofs.Common.{◌≡◌, ℕ, Bool, List, [], ◌∷◌, ◌++◌, Option, Some, None, map, ap, sym, ◌∙◌}
use Rattle.std.specs.List.{flat_map}
use Rattle.std.specs.Option.{option_map}
use Rattle.std.proofs.lemmas.List.{append-nil}
use Rattle.smv_core.specs.declared.tree.Word.{Word}
use Rattle.smv_core.specs.declared.tree.TypeExpr.{TypeExpr}
use Rattle.smv_core.specs.declared.tree.Kind.{Kind}
use Rattle.smv_core.specs.declared.tree.Path.{Path}
use Rattle.smv_core.specs.declared.tree.Expr.{Expr}
use Rattle.smv_core.specs.declared.tree.Stmt.{Stmt, fold-roll-Stmt}
use Rattle.smv_core.specs.declared.tree.Stmt.TheVariants as stmt
use Rattle.smv_core.specs.declared.tree.Stmt.TheOpen.{Stmt-F}
use Rattle.smv_core.specs.declared.tree.Arm.{Arm, out-Arm, fold_out-Arm}
use Rattle.smv_core.specs.Signs.{open_brace, close_brace, open_paren, close_paren, becomes, semicolon, comma, colon}
use Rattle.smv_core.specs.Signs as w
use Rattle.smv_print.specs.Written.{Kinds, separated}
use Rattle.smv_print.specs.Expressions.{expr_kinds, path_kinds}
use Rattle.smv_print.specs.Statements.{stmt_kinds, arm_kinds, stmt_step, arm_step, target, binder, turns, otherwise, other_arm}
use Rattle.smv_print.proofs.Writing.{flat_map-each}

pub stmt-Assign : (k : Kind) (left : Path) (x : Expr) (at : ℕ) → stmt_kinds (stmt.Assign k left x at) ≡ target k (path_kinds left) ++ becomes ∷ expr_kinds x ++ semicolon ∷ []
unfolding stmt_kinds arm_kinds
stmt-Assign k left x at = ap stmt_kinds (sym (stmt.rolls-Assign k left x at)) ∙ fold-roll-Stmt Kinds Kinds stmt_step arm_step (Stmt-F.Assign k left x at)

pub stmt-Block : (parts : List Stmt) → stmt_kinds (stmt.Block parts) ≡ open_brace ∷ flat_map stmt_kinds parts ++ close_brace ∷ []
unfolding stmt_kinds arm_kinds
stmt-Block parts = ap stmt_kinds (sym (stmt.rolls-Block parts)) ∙ fold-roll-Stmt Kinds Kinds stmt_step arm_step (Stmt-F.Block parts)
    ∙ ap (λ (ks : Kinds). open_brace ∷ ks ++ close_brace ∷ []) (flat_map-each stmt_kinds parts)

pub stmt-If : (c : Expr) (x : Stmt) (y : Option Stmt) (at : ℕ) → stmt_kinds (stmt.If c x y at) ≡ w.word_if ∷ open_paren ∷ expr_kinds c ++ close_paren ∷ stmt_kinds x ++ otherwise (option_map stmt_kinds y)
unfolding stmt_kinds arm_kinds
stmt-If c x None at = ap stmt_kinds (sym (stmt.rolls-If c x None at)) ∙ fold-roll-Stmt Kinds Kinds stmt_step arm_step (Stmt-F.If c x None at)
stmt-If c x (Some y) at = ap stmt_kinds (sym (stmt.rolls-If c x (Some y) at)) ∙ fold-roll-Stmt Kinds Kinds stmt_step arm_step (Stmt-F.If c x (Some y) at)

pub stmt-Switch : (on : Expr) (arms : List Arm) (x : Option Stmt) (at : ℕ) → stmt_kinds (stmt.Switch on arms x at)
    ≡ w.word_switch ∷ open_paren ∷ expr_kinds on ++ close_paren ∷ open_brace ∷ flat_map arm_kinds arms ++ other_arm (option_map stmt_kinds x) ++ close_brace ∷ []
unfolding stmt_kinds arm_kinds
stmt-Switch on arms None at =
    ap stmt_kinds (sym (stmt.rolls-Switch on arms None at)) ∙ fold-roll-Stmt Kinds Kinds stmt_step arm_step (Stmt-F.Switch on arms None at)
    ∙ ap (λ (ks : Kinds). w.word_switch ∷ open_paren ∷ expr_kinds on ++ close_paren ∷ open_brace ∷ ks ++ other_arm (option_map stmt_kinds None) ++ close_brace ∷ []) (flat_map-each arm_kinds arms)
stmt-Switch on arms (Some x) at =
    ap stmt_kinds (sym (stmt.rolls-Switch on arms (Some x) at)) ∙ fold-roll-Stmt Kinds Kinds stmt_step arm_step (Stmt-F.Switch on arms (Some x) at)
    ∙ ap (λ (ks : Kinds). w.word_switch ∷ open_paren ∷ expr_kinds on ++ close_paren ∷ open_brace ∷ ks ++ other_arm (option_map stmt_kinds (Some x)) ++ close_brace ∷ []) (flat_map-each arm_kinds arms)

pub stmt-Default : (x y : Stmt) (at : ℕ) → stmt_kinds (stmt.Default x y at) ≡ w.word_default ∷ stmt_kinds x ++ w.word_in ∷ stmt_kinds y
unfolding stmt_kinds arm_kinds
stmt-Default x y at = ap stmt_kinds (sym (stmt.rolls-Default x y at)) ∙ fold-roll-Stmt Kinds Kinds stmt_step arm_step (Stmt-F.Default x y at)

pub stmt-For : (v : Word) (from to : ℕ) (closed : Bool) (step : ℕ) (body : Stmt) (at : ℕ) → stmt_kinds (stmt.For v from to closed step body at) ≡ w.word_for ∷ turns v.name from to closed step ++ stmt_kinds body
unfolding stmt_kinds arm_kinds
stmt-For v from to closed step body at = ap stmt_kinds (sym (stmt.rolls-For v from to closed step body at)) ∙ fold-roll-Stmt Kinds Kinds stmt_step arm_step (Stmt-F.For v from to closed step body at)

pub stmt-Forall : (v : Word) (over : TypeExpr) (body : Stmt) (at : ℕ) → stmt_kinds (stmt.Forall v over body at) ≡ binder v over ++ stmt_kinds body
unfolding stmt_kinds arm_kinds
stmt-Forall v over body at = ap stmt_kinds (sym (stmt.rolls-Forall v over body at)) ∙ fold-roll-Stmt Kinds Kinds stmt_step arm_step (Stmt-F.Forall v over body at)

pub arm-kinds : (x : Arm) → arm_kinds x ≡ separated comma (map expr_kinds (out-Arm x).labels) ++ colon ∷ stmt_kinds (out-Arm x).body
unfolding stmt_kinds arm_kinds
arm-kinds x = fold_out-Arm Kinds Kinds stmt_step arm_step x

pub stmt-if : (c : Expr) (x : Stmt) (at : ℕ) → stmt_kinds (stmt.If c x None at) ≡ w.word_if ∷ open_paren ∷ expr_kinds c ++ close_paren ∷ stmt_kinds x
stmt-if c x at = stmt-If c x None at ∙ append-nil (w.word_if ∷ open_paren ∷ expr_kinds c ++ close_paren ∷ stmt_kinds x)

pub stmt-else : (c : Expr) (x y : Stmt) (at : ℕ)
    → stmt_kinds (stmt.If c x (Some y) at) ≡ w.word_if ∷ open_paren ∷ expr_kinds c ++ close_paren ∷ stmt_kinds x ++ w.word_else ∷ stmt_kinds y
stmt-else c x y at = stmt-If c x (Some y) at

pub stmt-switch : (on : Expr) (arms : List Arm) (at : ℕ)
    → stmt_kinds (stmt.Switch on arms None at) ≡ w.word_switch ∷ open_paren ∷ expr_kinds on ++ close_paren ∷ open_brace ∷ flat_map arm_kinds arms ++ close_brace ∷ []
stmt-switch on arms at =
    stmt-Switch on arms None at
    ∙ ap (λ (ks : Kinds). ks ++ close_brace ∷ []) (append-nil (w.word_switch ∷ open_paren ∷ expr_kinds on ++ close_paren ∷ open_brace ∷ flat_map arm_kinds arms))

pub stmt-switch_default : (on : Expr) (arms : List Arm) (x : Stmt) (at : ℕ) → stmt_kinds (stmt.Switch on arms (Some x) at)
    ≡ w.word_switch ∷ open_paren ∷ expr_kinds on ++ close_paren ∷ open_brace ∷ flat_map arm_kinds arms ++ w.word_default ∷ colon ∷ stmt_kinds x ++ close_brace ∷ []
stmt-switch_default on arms x at = stmt-Switch on arms (Some x) at

pub ruleset equations = (stmt-Assign, stmt-Block, stmt-if, stmt-else, stmt-switch, stmt-switch_default, stmt-Default, stmt-For, stmt-Forall, arm-kinds)
