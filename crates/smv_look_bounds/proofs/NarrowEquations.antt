-- What conditions leave that are made of lists and values.
use Rattle.std.proofs.Common.{◌≡◌, ◌∙◌, ℕ, List, Bool, cond, Option, refl, ap}
use Rattle.std.specs.Prelude.{not, if◌then◌else◌}
use mathlib.Core.Former.{Count}
use Rattle.smv_core.specs.declared.tree.Op.{Op}
use Rattle.smv_core.specs.declared.flat.Simple.{Simple}
use Rattle.smv_core.specs.declared.flat.FlatMember.{FlatMember}
use Rattle.smv_core.specs.declared.flat.FlatSigned.{FlatSigned}
use Rattle.smv_core.specs.declared.flat.FlatExpr.{FlatExpr, Number, Read, Read', Var, Loop, Constant, Not, And, And', Or, Or', Implies, Implies', Iff, Compare, Within, Sum, Modulo, Choose, All, Any, List as ListOf, Each, Row_of-FlatExpr, end_of-FlatExpr, more_of-FlatExpr, items-the_row-FlatExpr, items_hidden-the_row-FlatExpr-0}
use Rattle.law_designs.proofs.FlatLists.{boxes}
use Rattle.smv_look_bounds.specs.declared.numbers.Bounds.{Bounds}
use Rattle.smv_look_bounds.specs.Narrowing.{Target, compared, denied, narrow, narrow_each}
use Rattle.smv_look_bounds.specs.Held.{narrow_all}

abbrev exprs_of : FlatExpr → (k : Count) × Row_of-FlatExpr k
exprs_of (Read' family shape row at) = (_, row)
exprs_of (And' shape row) = (_, row)
exprs_of (Or' shape row) = (_, row)
exprs_of (Implies' shape row) = (_, row)
exprs_of _ = (_, end_of-FlatExpr)

row-narrow : (t : Target) (holds : Bool) (n : _) (row : Row_of-FlatExpr n) (b : Bounds) → narrow_each t holds row b ≡ narrow_all t holds (items-the_row-FlatExpr n row) b
unfolding narrow
row-narrow t holds n end_of-FlatExpr b = refl
row-narrow t holds n (more_of-FlatExpr e rest) b = row-narrow t holds _ rest (narrow t holds e b)

pub narrow-Number : (t : Target) (holds : Bool) (b : Bounds) (value at : ℕ) → narrow t holds (Number value at) b ≡ b
unfolding narrow boxes
narrow-Number t holds b value at = refl

pub narrow-Read : (t : Target) (holds : Bool) (b : Bounds) (family : ℕ) (es : List FlatExpr) (at : ℕ) → narrow t holds (Read family es at) b ≡ b
unfolding narrow boxes
narrow-Read t holds b family es at = refl

pub narrow-Var : (t : Target) (holds : Bool) (b : Bounds) (var at : ℕ) → narrow t holds (Var var at) b ≡ b
unfolding narrow boxes
narrow-Var t holds b var at = refl

pub narrow-Loop : (t : Target) (holds : Bool) (b : Bounds) (value at : ℕ) → narrow t holds (Loop value at) b ≡ b
unfolding narrow boxes
narrow-Loop t holds b value at = refl

pub narrow-Constant : (t : Target) (holds : Bool) (b : Bounds) (list value at : ℕ) → narrow t holds (Constant list value at) b ≡ b
unfolding narrow boxes
narrow-Constant t holds b list value at = refl

pub narrow-Not : (t : Target) (holds : Bool) (b : Bounds) (e : FlatExpr) (at : ℕ) → narrow t holds (Not e at) b ≡ narrow t (not holds) e b
unfolding narrow boxes
narrow-Not t holds b e at = refl

pub narrow-And : (t : Target) (holds : Bool) (b : Bounds) (es : List FlatExpr) → narrow t holds (And es) b ≡ (if holds then narrow_all t holds es b else b)
unfolding narrow boxes
narrow-And t holds b es = ap (λ (x : Bounds). if holds then x else b) (row-narrow t holds (exprs_of (And es)).0 (exprs_of (And es)).1 b ∙ ap (λ l. narrow_all t holds l b) (items_hidden-the_row-FlatExpr-0 es))

pub narrow-Or : (t : Target) (holds : Bool) (b : Bounds) (es : List FlatExpr) → narrow t holds (Or es) b ≡ (if holds then b else narrow_all t holds es b)
unfolding narrow boxes
narrow-Or t holds b es = ap (λ (x : Bounds). if holds then b else x) (row-narrow t holds (exprs_of (Or es)).0 (exprs_of (Or es)).1 b ∙ ap (λ l. narrow_all t holds l b) (items_hidden-the_row-FlatExpr-0 es))

pub narrow-Implies : (t : Target) (holds : Bool) (b : Bounds) (es : List FlatExpr) → narrow t holds (Implies es) b ≡ b
unfolding narrow boxes
narrow-Implies t holds b es = refl

pub narrow-Iff : (t : Target) (holds : Bool) (b : Bounds) (l r : FlatExpr) → narrow t holds (Iff l r) b ≡ b
unfolding narrow boxes
narrow-Iff t holds b l r = refl

pub narrow-Compare : (t : Target) (holds : Bool) (b : Bounds) (op : Op) (l r : FlatExpr) → narrow t holds (Compare op l r) b ≡ compared t (if holds then op else denied op) l r b
unfolding narrow boxes
narrow-Compare t holds b op l r = refl

pub narrow-Within : (t : Target) (holds : Bool) (b : Bounds) (l r : FlatExpr) → narrow t holds (Within l r) b ≡ b
unfolding narrow boxes
narrow-Within t holds b l r = refl

pub narrow-Sum : (t : Target) (holds : Bool) (b : Bounds) (head : FlatExpr) (more : List FlatSigned) → narrow t holds (Sum head more) b ≡ b
unfolding narrow boxes
narrow-Sum t holds b head more = refl

pub narrow-Modulo : (t : Target) (holds : Bool) (b : Bounds) (e : FlatExpr) (by at : ℕ) → narrow t holds (Modulo e by at) b ≡ b
unfolding narrow boxes
narrow-Modulo t holds b e by at = refl

pub narrow-Choose : (t : Target) (holds : Bool) (b : Bounds) (c l r : FlatExpr) → narrow t holds (Choose c l r) b ≡ b
unfolding narrow boxes
narrow-Choose t holds b c l r = refl

pub narrow-All : (t : Target) (holds : Bool) (b : Bounds) (body : FlatExpr) (var : ℕ) (over : Simple) (at : ℕ) → narrow t holds (All body var over at) b ≡ b
unfolding narrow boxes
narrow-All t holds b body var over at = refl

pub narrow-Any : (t : Target) (holds : Bool) (b : Bounds) (body : FlatExpr) (var : ℕ) (over : Simple) (at : ℕ) → narrow t holds (Any body var over at) b ≡ b
unfolding narrow boxes
narrow-Any t holds b body var over at = refl

pub narrow-List : (t : Target) (holds : Bool) (b : Bounds) (members : List FlatMember) (at : ℕ) → narrow t holds (ListOf members at) b ≡ b
unfolding narrow boxes
narrow-List t holds b members at = refl

pub narrow-Each : (t : Target) (holds : Bool) (b : Bounds) (var : ℕ) (over : Simple) (cond : Option FlatExpr) (at : ℕ) → narrow t holds (Each var over cond at) b ≡ b
unfolding narrow boxes
narrow-Each t holds b var over cond at = refl

pub ruleset equations = (narrow-Number, narrow-Read, narrow-Var, narrow-Loop, narrow-Constant, narrow-Not, narrow-And, narrow-Or, narrow-Implies, narrow-Iff, narrow-Compare, narrow-Within, narrow-Sum, narrow-Modulo, narrow-Choose, narrow-All, narrow-Any, narrow-List, narrow-Each)
