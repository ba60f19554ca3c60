-- Numbers of statements.
use Rattle.std.proofs.Common.{◌≡◌, ℕ, ◌+◌, ◌*◌, ◌≤◌, Bool, Some, None, List, length, refl, ap, sym, ◌∙◌, arith, inl, inr}
use Rattle.std.specs.List.{sum_by}
use Rattle.std.proofs.lemmas.List.Sums.{sum_by-cons, sum_by_from}
use Rattle.std.proofs.lemmas.Bool.{cases_lt}
use Rattle.std.proofs.Math.Nat.{mul-le-mul_left, mul_comm}
use Rattle.smv_core.specs.Walk.{steps_of}
use Rattle.smv_core.specs.declared.tree.Word.{Word}
use Rattle.smv_core.specs.declared.tree.TypeExpr.{TypeExpr}
use Rattle.smv_core.specs.declared.tree.Expr.{Expr}
use Rattle.smv_core.specs.declared.tree.Arm.{Arm, out-Arm}
use Rattle.smv_core.specs.declared.tree.Stmt.{Stmt, Block, Block', If, Switch, Switch', Default, For, Forall, Held-Stmt-If-2, None', Row_of-Stmt, end_of-Stmt, more_of-Stmt, Row_of-Arm, end_of-Arm, more_of-Arm}
use Rattle.smv_core.specs.declared.tree.Stmt.{items-the_row-Stmt, items-the_row-Arm, items_hidden-the_row-Stmt-0, items_hidden-the_row-Arm-2}
use mathlib.Core.Former.{Count}
use Rattle.smv_mentions.specs.Sizes.{statements, statements_in_row, statements_in_branch, statements_in_arms}
use Rattle.smv_mentions.proofs.Computing.{computing}
use Rattle.smv_size.specs.Limits.{capped}

-- capped numbers give capped sums and products
pub capped-sum : (x y : ℕ) → capped (capped x + capped y) ≡ capped (x + y)
capped-sum x y = omega arith

pub capped-factor : (x y : ℕ) → capped (x * capped y) ≡ capped (x * y)
capped-factor x y = elim (cases_lt 65537 y) [
  | inl large ↦ elim (cases_lt 0 x) [
    | inl some ↦
        let most : capped y ≡ 65537 = omega arith in
        let more : x * 65537 ≤ x * y = mul-le-mul_left x (let h : 65537 ≤ y = omega arith in h) in
        ap (λ k. capped (x * k)) most ∙ (omega arith)
    | inr none ↦ let zero_is : x ≡ 0 = omega arith in ap (λ k. capped (k * capped y)) zero_is ∙ (omega arith) ∙ ap (λ k. capped (k * y)) (sym zero_is)
  ]
  | inr small ↦ let same : capped y ≡ y = omega arith in ap (λ k. capped (x * k)) same
]

pub capped-product : (x y : ℕ) → capped (capped x * capped y) ≡ capped (x * y)
capped-product x y = capped-factor (capped x) y ∙ ap capped (mul_comm (capped x) y) ∙ capped-factor y x ∙ ap capped (mul_comm y x)

row_sum : (n : _) (row : Row_of-Stmt n) → statements_in_row row ≡ sum_by statements (items-the_row-Stmt n row)
row_sum n end_of-Stmt = refl
row_sum n (more_of-Stmt part rest) = ap (λ k. statements part + k) (row_sum _ rest) ∙ sym (sum_by-cons statements part (items-the_row-Stmt _ rest))

arms_sum : (n : _) (row : Row_of-Arm n) → statements_in_arms row ≡ sum_by (λ arm. statements (out-Arm arm).body) (items-the_row-Arm n row)
unfolding computing
arms_sum n end_of-Arm = refl
arms_sum n (more_of-Arm {n = m} labels body rest) = ap (λ k. statements body + k) (arms_sum m rest) ∙ sym (sum_by_from (λ arm. statements (out-Arm arm).body) (0 + statements body) (items-the_row-Arm m rest) ∙ (omega arith))

abbrev stmts_of : Stmt → (n : Count) × Row_of-Stmt n
stmts_of (Block' shape row) = (_, row)
stmts_of _ = (_, end_of-Stmt)

abbrev arms_of : Stmt → (n : Count) × Row_of-Arm n
arms_of (Switch' on shape row other at) = (_, row)
arms_of _ = (_, end_of-Arm)

abbrev other_of : Stmt → Held-Stmt-If-2
other_of (Switch' on shape row other at) = other
other_of _ = None'

pub statements-Block : (parts : List Stmt) → statements (Block parts) ≡ 1 + sum_by statements parts
statements-Block parts = ap (λ k. 1 + k) (row_sum (stmts_of (Block parts)).0 (stmts_of (Block parts)).1 ∙ ap (λ l. sum_by statements l) (items_hidden-the_row-Stmt-0 parts))

pub statements-If : (cond : Expr) (x : Stmt) (at : ℕ) → statements (If cond x None at) ≡ 1 + statements x
unfolding computing
statements-If cond x at = omega arith

pub statements-If_else : (cond : Expr) (x y : Stmt) (at : ℕ) → statements (If cond x (Some y) at) ≡ 1 + statements x + statements y
unfolding computing
statements-If_else cond x y at = refl

pub statements-Default : (x y : Stmt) (at : ℕ) → statements (Default x y at) ≡ 1 + statements x + statements y
unfolding computing
statements-Default x y at = refl

pub statements-For : (var : Word) (from to : ℕ) (closed : Bool) (step : ℕ) (body : Stmt) (at : ℕ) → statements (For var from to closed step body at) ≡ 1 + length (steps_of from to closed step) * statements body
unfolding computing
statements-For var from to closed step body at = refl

pub statements-Forall : (var : Word) (over : TypeExpr) (body : Stmt) (at : ℕ) → statements (Forall var over body at) ≡ 1 + statements body
unfolding computing
statements-Forall var over body at = refl

other_count : (on : Expr) (arms : List Arm) (y : Stmt) (at : ℕ) → (statements_in_branch (other_of (Switch on arms None at)) ≡ 0) × (statements_in_branch (other_of (Switch on arms (Some y) at)) ≡ statements y)
unfolding computing
other_count on arms y at = (refl, refl)

pub statements-Switch : (on : Expr) (arms : List Arm) (at : ℕ) → statements (Switch on arms None at) ≡ 1 + sum_by (λ arm. statements (out-Arm arm).body) arms
statements-Switch on arms at =
    let row : (n : Count) × Row_of-Arm n = arms_of (Switch on arms None at) in
    let e : statements_in_arms row.1 ≡ sum_by (λ arm. statements (out-Arm arm).body) arms = arms_sum row.0 row.1 ∙ ap (λ l. sum_by (λ arm. statements (out-Arm arm).body) l) (items_hidden-the_row-Arm-2 arms) in
    omega (arith, e)

pub statements-Switch_default : (on : Expr) (arms : List Arm) (y : Stmt) (at : ℕ) → statements (Switch on arms (Some y) at) ≡ 1 + sum_by (λ arm. statements (out-Arm arm).body) arms + statements y
statements-Switch_default on arms y at =
    let row : (n : Count) × Row_of-Arm n = arms_of (Switch on arms (Some y) at) in
    let e : statements_in_arms row.1 ≡ sum_by (λ arm. statements (out-Arm arm).body) arms = arms_sum row.0 row.1 ∙ ap (λ l. sum_by (λ arm. statements (out-Arm arm).body) l) (items_hidden-the_row-Arm-2 arms) in
    ap (λ k. 1 + k + statements_in_branch (other_of (Switch on arms (Some y) at))) e ∙ ap (λ k. 1 + sum_by (λ arm. statements (out-Arm arm).body) arms + k) (other_count on arms y at).1

-- a sum of capped numbers
pub sum_is : (r a b x y : ℕ) → r ≡ capped (a + b) → a ≡ capped x → b ≡ capped y → r ≡ capped (x + y)
sum_is r a b x y e f g = omega arith

pub product_is : (r a b x y : ℕ) → r ≡ capped (a * b) → a ≡ x → b ≡ capped y → a ≤ 65537 → r ≡ capped (x * y)
product_is r a b x y e f g h =
    let same : a ≡ capped x = omega arith in
    e ∙ ap (λ k. capped (k * b)) same ∙ ap (λ k. capped (capped x * k)) g ∙ capped-product x y

pub ruleset equations = (statements-Block, statements-If, statements-If_else, statements-Switch, statements-Switch_default, statements-Default, statements-For, statements-Forall, capped-sum, capped-product)
