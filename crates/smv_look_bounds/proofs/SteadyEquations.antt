-- Whether expressions that are made of lists and values are sums whose steps are constants.
use Rattle.std.proofs.Common.{◌≡◌, ℕ, List, true, cond, Option, refl, ap}
use Rattle.smv_core.specs.declared.tree.Op.{Op}
use Rattle.smv_core.specs.declared.flat.Simple.{Simple}
use Rattle.smv_core.specs.declared.flat.FlatMember.{FlatMember}
use Rattle.smv_core.specs.declared.flat.FlatSigned.{FlatSigned}
use Rattle.smv_core.specs.declared.flat.FlatExpr.{FlatExpr, Number, Read, Var, Loop, Constant, Not, And, Or, Implies, Iff, Compare, Within, Sum, Modulo, Choose, All, Any, List as ListOf, Each, items_hidden-the_row-FlatSigned-2}
use Rattle.law_designs.proofs.FlatLists.{boxes}
use Rattle.smv_look_bounds.specs.Doubts.{is_steady, are_fixed}

pub steady-Number : (value at : ℕ) → is_steady (Number value at) ≡ true
unfolding is_steady boxes
steady-Number value at = refl

pub steady-Read : (family : ℕ) (es : List FlatExpr) (at : ℕ) → is_steady (Read family es at) ≡ true
unfolding is_steady boxes
steady-Read family es at = refl

pub steady-Var : (var at : ℕ) → is_steady (Var var at) ≡ true
unfolding is_steady boxes
steady-Var var at = refl

pub steady-Loop : (value at : ℕ) → is_steady (Loop value at) ≡ true
unfolding is_steady boxes
steady-Loop value at = refl

pub steady-Constant : (list value at : ℕ) → is_steady (Constant list value at) ≡ true
unfolding is_steady boxes
steady-Constant list value at = refl

pub steady-Not : (e : FlatExpr) (at : ℕ) → is_steady (Not e at) ≡ true
unfolding is_steady boxes
steady-Not e at = refl

pub steady-And : (es : List FlatExpr) → is_steady (And es) ≡ true
unfolding is_steady boxes
steady-And es = refl

pub steady-Or : (es : List FlatExpr) → is_steady (Or es) ≡ true
unfolding is_steady boxes
steady-Or es = refl

pub steady-Implies : (es : List FlatExpr) → is_steady (Implies es) ≡ true
unfolding is_steady boxes
steady-Implies es = refl

pub steady-Iff : (l r : FlatExpr) → is_steady (Iff l r) ≡ true
unfolding is_steady boxes
steady-Iff l r = refl

pub steady-Compare : (op : Op) (l r : FlatExpr) → is_steady (Compare op l r) ≡ true
unfolding is_steady boxes
steady-Compare op l r = refl

pub steady-Within : (l r : FlatExpr) → is_steady (Within l r) ≡ true
unfolding is_steady boxes
steady-Within l r = refl

pub steady-Sum : (head : FlatExpr) (more : List FlatSigned) → is_steady (Sum head more) ≡ are_fixed more
unfolding is_steady boxes
steady-Sum head more = ap are_fixed (items_hidden-the_row-FlatSigned-2 more)

pub steady-Modulo : (e : FlatExpr) (by at : ℕ) → is_steady (Modulo e by at) ≡ true
unfolding is_steady boxes
steady-Modulo e by at = refl

pub steady-Choose : (c l r : FlatExpr) → is_steady (Choose c l r) ≡ true
unfolding is_steady boxes
steady-Choose c l r = refl

pub steady-All : (body : FlatExpr) (var : ℕ) (over : Simple) (at : ℕ) → is_steady (All body var over at) ≡ true
unfolding is_steady boxes
steady-All body var over at = refl

pub steady-Any : (body : FlatExpr) (var : ℕ) (over : Simple) (at : ℕ) → is_steady (Any body var over at) ≡ true
unfolding is_steady boxes
steady-Any body var over at = refl

pub steady-List : (members : List FlatMember) (at : ℕ) → is_steady (ListOf members at) ≡ true
unfolding is_steady boxes
steady-List members at = refl

pub steady-Each : (var : ℕ) (over : Simple) (cond : Option FlatExpr) (at : ℕ) → is_steady (Each var over cond at) ≡ true
unfolding is_steady boxes
steady-Each var over cond at = refl

pub ruleset equations = (steady-Number, steady-Read, steady-Var, steady-Loop, steady-Constant, steady-Not, steady-And, steady-Or, steady-Implies, steady-Iff, steady-Compare, steady-Within, steady-Sum, steady-Modulo, steady-Choose, steady-All, steady-Any, steady-List, steady-Each)
