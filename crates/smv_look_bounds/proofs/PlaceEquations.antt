-- The places of expressions that are made of lists and values.
use Rattle.std.proofs.Common.{◌≡◌, ℕ, List, refl, ap, ◌∙◌}
use Rattle.smv_core.specs.declared.tree.Op.{Op}
use Rattle.std.specs.Prelude.{Option}
use Rattle.smv_core.specs.declared.flat.Simple.{Simple}
use Rattle.smv_core.specs.declared.flat.FlatMember.{FlatMember}
use Rattle.smv_core.specs.declared.flat.FlatSigned.{FlatSigned}
use Rattle.smv_core.specs.declared.flat.FlatExpr.{FlatExpr, Number, Read, Var, Loop, Constant, All, Any, Each, List as ListOf, Not, Iff, Compare, Within, Modulo, Choose, And, And', Or, Or', Implies, Implies', Sum, Row_of-FlatExpr, end_of-FlatExpr, more_of-FlatExpr, items-the_row-FlatExpr, items_hidden-the_row-FlatExpr-0}
use mathlib.Core.Former.{Count}
use Rattle.law_designs.proofs.FlatLists.{boxes}
use Rattle.law_designs.specs.SetOperands.{first_at_of}
use Rattle.smv_look_bounds.specs.Places.{place, first_place}

row-first : (n : _) (row : Row_of-FlatExpr n) → first_at_of row ≡ first_place (items-the_row-FlatExpr n row)
unfolding place
row-first n end_of-FlatExpr = refl
row-first n (more_of-FlatExpr e rest) = refl

abbrev exprs_in : FlatExpr → (k : Count) × Row_of-FlatExpr k
exprs_in (And' shape row) = (_, row)
exprs_in (Or' shape row) = (_, row)
exprs_in (Implies' shape row) = (_, row)
exprs_in _ = (_, end_of-FlatExpr)

pub at-And : (es : List FlatExpr) → place (And es) ≡ first_place es
unfolding place
at-And es = row-first (exprs_in (And es)).0 (exprs_in (And es)).1 ∙ ap first_place (items_hidden-the_row-FlatExpr-0 es)

pub at-Or : (es : List FlatExpr) → place (Or es) ≡ first_place es
unfolding place
at-Or es = row-first (exprs_in (Or es)).0 (exprs_in (Or es)).1 ∙ ap first_place (items_hidden-the_row-FlatExpr-0 es)

pub at-Implies : (es : List FlatExpr) → place (Implies es) ≡ first_place es
unfolding place
at-Implies es = row-first (exprs_in (Implies es)).0 (exprs_in (Implies es)).1 ∙ ap first_place (items_hidden-the_row-FlatExpr-0 es)

pub at-Iff : (l r : FlatExpr) → place (Iff l r) ≡ place l
unfolding place boxes
at-Iff l r = refl

pub at-Compare : (op : Op) (l r : FlatExpr) → place (Compare op l r) ≡ place l
unfolding place boxes
at-Compare op l r = refl

pub at-Within : (l r : FlatExpr) → place (Within l r) ≡ place l
unfolding place boxes
at-Within l r = refl

pub at-Sum : (head : FlatExpr) (more : List FlatSigned) → place (Sum head more) ≡ place head
unfolding place boxes
at-Sum head more = refl

pub at-Modulo : (e : FlatExpr) (by at : ℕ) → place (Modulo e by at) ≡ place e
unfolding place boxes
at-Modulo e by at = refl

pub at-Choose : (c l r : FlatExpr) → place (Choose c l r) ≡ place c
unfolding place boxes
at-Choose c l r = refl

pub at-Number : (value at : ℕ) → place (Number value at) ≡ at
unfolding place
at-Number value at = refl

pub at-Read : (family : ℕ) (es : List FlatExpr) (at : ℕ) → place (Read family es at) ≡ at
unfolding place
at-Read family es at = refl

pub at-Var : (var at : ℕ) → place (Var var at) ≡ at
unfolding place
at-Var var at = refl

pub at-Loop : (value at : ℕ) → place (Loop value at) ≡ at
unfolding place
at-Loop value at = refl

pub at-Constant : (list value at : ℕ) → place (Constant list value at) ≡ at
unfolding place
at-Constant list value at = refl

pub at-Not : (e : FlatExpr) (at : ℕ) → place (Not e at) ≡ at
unfolding place
at-Not e at = refl

pub at-All : (body : FlatExpr) (var : ℕ) (over : Simple) (at : ℕ) → place (All body var over at) ≡ at
unfolding place
at-All body var over at = refl

pub at-Any : (body : FlatExpr) (var : ℕ) (over : Simple) (at : ℕ) → place (Any body var over at) ≡ at
unfolding place
at-Any body var over at = refl

pub at-List : (ms : List FlatMember) (at : ℕ) → place (ListOf ms at) ≡ at
unfolding place
at-List ms at = refl

pub at-Each : (var : ℕ) (over : Simple) (cond : Option FlatExpr) (at : ℕ) → place (Each var over cond at) ≡ at
unfolding place
at-Each var over cond at = refl

pub ruleset equations = (at-Number, at-Read, at-Var, at-Loop, at-Constant, at-Not, at-All, at-Any, at-List, at-Each, at-And, at-Or, at-Implies, at-Iff, at-Compare, at-Within, at-Sum, at-Modulo, at-Choose)
