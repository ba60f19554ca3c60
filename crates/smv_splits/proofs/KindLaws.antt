-- The kinds of expressions that are made of lists and values.
use Rattle.std.proofs.Common.{◌≡◌, ℕ, List, refl, ◌&&◌, nat_eq}
use Rattle.std.specs.Prelude.{Option, slice_get}
use Rattle.std.specs.List.{list_any}
use Rattle.smv_core.specs.declared.tree.Op.{Op}
use Rattle.smv_core.specs.declared.flat.Simple.{Simple}
use Rattle.smv_core.specs.declared.flat.Simple.TheVariants.{Enum}
use Rattle.smv_core.specs.declared.flat.Family.{Family}
use Rattle.smv_core.specs.declared.flat.Param.{Param}
use Rattle.smv_core.specs.declared.flat.FlatSigned.{FlatSigned}
use Rattle.smv_core.specs.declared.flat.FlatMember.{FlatMember}
use Rattle.smv_core.specs.declared.flat.FlatExpr.{FlatExpr, Number, Var, Loop, Constant, Not, Iff, Compare, Within, Modulo, Choose, All, Any, Each, Read, And, Or, Implies, Sum, List as ListOf}
use Rattle.law_designs.proofs.FlatLists.{boxes}
use Rattle.law_splits.specs.SplitFaults.{same_kind, is_of_numbers, has_values_of_kind}
use Rattle.smv_splits.specs.Parts.{is_of_kind}

module _ (fs : List Family) (bound : List Param) (t : Simple) where
  pub kind-Number : (value at : ℕ) → is_of_kind fs bound t (Number value at) ≡ is_of_numbers t
  unfolding is_of_kind
  kind-Number value at = refl

  pub kind-Read : (family : ℕ) (es : List FlatExpr) (at : ℕ) → is_of_kind fs bound t (Read family es at) ≡ has_values_of_kind t (slice_get fs family)
  unfolding is_of_kind
  kind-Read family es at = refl

  pub kind-Var : (var at : ℕ) → is_of_kind fs bound t (Var var at) ≡ list_any (λ p. nat_eq p.var var && same_kind t p.over) bound
  unfolding is_of_kind
  kind-Var var at = refl

  pub kind-Loop : (value at : ℕ) → is_of_kind fs bound t (Loop value at) ≡ is_of_numbers t
  unfolding is_of_kind
  kind-Loop value at = refl

  pub kind-Constant : (list value at : ℕ) → is_of_kind fs bound t (Constant list value at) ≡ same_kind t (Enum list)
  unfolding is_of_kind
  kind-Constant list value at = refl

  pub kind-Not : (e : FlatExpr) (at : ℕ) → is_of_kind fs bound t (Not e at) ≡ is_of_numbers t
  unfolding is_of_kind
  kind-Not e at = refl

  pub kind-And : (es : List FlatExpr) → is_of_kind fs bound t (And es) ≡ is_of_numbers t
  unfolding is_of_kind
  kind-And es = refl

  pub kind-Or : (es : List FlatExpr) → is_of_kind fs bound t (Or es) ≡ is_of_numbers t
  unfolding is_of_kind
  kind-Or es = refl

  pub kind-Implies : (es : List FlatExpr) → is_of_kind fs bound t (Implies es) ≡ is_of_numbers t
  unfolding is_of_kind
  kind-Implies es = refl

  pub kind-Iff : (l r : FlatExpr) → is_of_kind fs bound t (Iff l r) ≡ is_of_numbers t
  unfolding is_of_kind
  kind-Iff l r = refl

  pub kind-Compare : (op : Op) (l r : FlatExpr) → is_of_kind fs bound t (Compare op l r) ≡ is_of_numbers t
  unfolding is_of_kind
  kind-Compare op l r = refl

  pub kind-Within : (l r : FlatExpr) → is_of_kind fs bound t (Within l r) ≡ is_of_numbers t
  unfolding is_of_kind
  kind-Within l r = refl

  pub kind-Sum : (head : FlatExpr) (more : List FlatSigned) → is_of_kind fs bound t (Sum head more) ≡ is_of_numbers t
  unfolding is_of_kind
  kind-Sum head more = refl

  pub kind-Modulo : (e : FlatExpr) (by at : ℕ) → is_of_kind fs bound t (Modulo e by at) ≡ is_of_numbers t
  unfolding is_of_kind
  kind-Modulo e by at = refl

  pub kind-Choose : (c l r : FlatExpr) → is_of_kind fs bound t (Choose c l r) ≡ is_of_kind fs bound t l
  unfolding is_of_kind boxes
  kind-Choose c l r = refl

  pub kind-All : (body : FlatExpr) (var : ℕ) (over : Simple) (at : ℕ) → is_of_kind fs bound t (All body var over at) ≡ is_of_numbers t
  unfolding is_of_kind
  kind-All body var over at = refl

  pub kind-Any : (body : FlatExpr) (var : ℕ) (over : Simple) (at : ℕ) → is_of_kind fs bound t (Any body var over at) ≡ is_of_numbers t
  unfolding is_of_kind
  kind-Any body var over at = refl

  pub kind-List : (ms : List FlatMember) (at : ℕ) → is_of_kind fs bound t (ListOf ms at) ≡ is_of_numbers t
  unfolding is_of_kind
  kind-List ms at = refl

  pub kind-Each : (var : ℕ) (over : Simple) (cond : Option FlatExpr) (at : ℕ) → is_of_kind fs bound t (Each var over cond at) ≡ is_of_numbers t
  unfolding is_of_kind
  kind-Each var over cond at = refl

pub ruleset equations = (kind-Number, kind-Read, kind-Var, kind-Loop, kind-Constant, kind-Not, kind-And, kind-Or, kind-Implies, kind-Iff, kind-Compare, kind-Within, kind-Sum, kind-Modulo, kind-Choose, kind-All, kind-Any, kind-List, kind-Each)
