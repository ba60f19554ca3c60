-- What expressions refer to that are made of lists and values.
use Rattle.std.proofs.Common.{◌≡◌, ℕ, List, map, cond, Option, refl, ap}
use Rattle.smv_core.specs.declared.tree.Op.{Op}
use Rattle.smv_core.specs.declared.flat.Simple.{Simple}
use Rattle.smv_core.specs.declared.flat.FlatMember.{FlatMember}
use Rattle.smv_core.specs.declared.flat.FlatSigned.{FlatSigned}
use Rattle.smv_core.specs.declared.flat.FlatExpr.{FlatExpr, Number, Read, Var, Loop, Constant, Not, And, Or, Implies, Iff, Compare, Within, Sum, Modulo, Choose, All, Any, List as ListOf, Each, items_hidden-the_row-FlatExpr-0}
use Rattle.law_designs.proofs.FlatLists.{boxes}
use Rattle.smv_look_bounds.specs.Narrowing.{target, element, variable, nothing, index_in}

pub target-Number : (value at : ℕ) → target (Number value at) ≡ nothing
unfolding target boxes
target-Number value at = refl

pub target-Read : (family : ℕ) (es : List FlatExpr) (at : ℕ) → target (Read family es at) ≡ element family (map index_in es)
unfolding target boxes
target-Read family es at = ap (λ l. element family (map index_in l)) (items_hidden-the_row-FlatExpr-0 es)

pub target-Var : (var at : ℕ) → target (Var var at) ≡ variable var
unfolding target boxes
target-Var var at = refl

pub target-Loop : (value at : ℕ) → target (Loop value at) ≡ nothing
unfolding target boxes
target-Loop value at = refl

pub target-Constant : (list value at : ℕ) → target (Constant list value at) ≡ nothing
unfolding target boxes
target-Constant list value at = refl

pub target-Not : (e : FlatExpr) (at : ℕ) → target (Not e at) ≡ nothing
unfolding target boxes
target-Not e at = refl

pub target-And : (es : List FlatExpr) → target (And es) ≡ nothing
unfolding target boxes
target-And es = refl

pub target-Or : (es : List FlatExpr) → target (Or es) ≡ nothing
unfolding target boxes
target-Or es = refl

pub target-Implies : (es : List FlatExpr) → target (Implies es) ≡ nothing
unfolding target boxes
target-Implies es = refl

pub target-Iff : (l r : FlatExpr) → target (Iff l r) ≡ nothing
unfolding target boxes
target-Iff l r = refl

pub target-Compare : (op : Op) (l r : FlatExpr) → target (Compare op l r) ≡ nothing
unfolding target boxes
target-Compare op l r = refl

pub target-Within : (l r : FlatExpr) → target (Within l r) ≡ nothing
unfolding target boxes
target-Within l r = refl

pub target-Sum : (head : FlatExpr) (more : List FlatSigned) → target (Sum head more) ≡ nothing
unfolding target boxes
target-Sum head more = refl

pub target-Modulo : (e : FlatExpr) (by at : ℕ) → target (Modulo e by at) ≡ nothing
unfolding target boxes
target-Modulo e by at = refl

pub target-Choose : (c l r : FlatExpr) → target (Choose c l r) ≡ nothing
unfolding target boxes
target-Choose c l r = refl

pub target-All : (body : FlatExpr) (var : ℕ) (over : Simple) (at : ℕ) → target (All body var over at) ≡ nothing
unfolding target boxes
target-All body var over at = refl

pub target-Any : (body : FlatExpr) (var : ℕ) (over : Simple) (at : ℕ) → target (Any body var over at) ≡ nothing
unfolding target boxes
target-Any body var over at = refl

pub target-List : (members : List FlatMember) (at : ℕ) → target (ListOf members at) ≡ nothing
unfolding target boxes
target-List members at = refl

pub target-Each : (var : ℕ) (over : Simple) (cond : Option FlatExpr) (at : ℕ) → target (Each var over cond at) ≡ nothing
unfolding target boxes
target-Each var over cond at = refl

pub ruleset equations = (target-Number, target-Read, target-Var, target-Loop, target-Constant, target-Not, target-And, target-Or, target-Implies, target-Iff, target-Compare, target-Within, target-Sum, target-Modulo, target-Choose, target-All, target-Any, target-List, target-Each)
