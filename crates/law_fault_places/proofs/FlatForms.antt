-- Flattened expressions and statements that are made of parts within a number are within it.
use Rattle.std.proofs.Common.{◌≤◌, ℕ, Bool, List, Option, Some, None, sym, subst}
use Rattle.std.specs.List.{AllByRecursion}
use Rattle.smv_core.specs.declared.tree.Op.{Op}
use Rattle.smv_core.specs.declared.flat.Simple.{Simple}
use Rattle.smv_core.specs.declared.flat.FlatSigned.{FlatSigned, roll-FlatSigned, out-FlatSigned}
use Rattle.smv_core.specs.declared.flat.FlatMember.{FlatMember, One, Span as SpanOf}
use Rattle.smv_core.specs.declared.flat.FlatExpr.{FlatExpr, Not, Iff, Compare, Within, Modulo, Choose, All, Any, Each, Read, And, Or, Implies, Sum, List as ListOf, Read', And', Or', Implies', Sum', List', Row_of-FlatExpr, end_of-FlatExpr, more_of-FlatExpr, Row_of-FlatMember, end_of-FlatMember, more_of-FlatMember, Row_of-FlatSigned, end_of-FlatSigned, more_of-FlatSigned, items-the_row-FlatExpr, items-the_row-FlatMember, items-the_row-FlatSigned, items_hidden-the_row-FlatExpr-0, items_hidden-the_row-FlatSigned-2, items_hidden-the_row-FlatMember-3}
use Rattle.smv_core.specs.declared.flat.FlatStmt.{FlatStmt, If, Default, Forall, Block, Block', Row_of-FlatStmt, end_of-FlatStmt, more_of-FlatStmt, items-the_row-FlatStmt, items_hidden-the_row-FlatStmt-1}
use Rattle.law_designs.proofs.FlatLists.{boxes}
use Rattle.law_fault_places.specs.FlatPlaces.{FlatExprIsWithin, FlatRowIsWithin, FlatTermsAreWithin, FlatMembersAreWithin, FlatExprsAreWithin, ActIsWithin, ActsAreWithin}
use mathlib.Core.Former.{Count}

abbrev exprs_of : FlatExpr → (n : Count) × Row_of-FlatExpr n
exprs_of (Read' family shape row at) = (_, row)
exprs_of (And' shape row) = (_, row)
exprs_of (Or' shape row) = (_, row)
exprs_of (Implies' shape row) = (_, row)
exprs_of _ = (_, end_of-FlatExpr)

abbrev members_of : FlatExpr → (n : Count) × Row_of-FlatMember n
members_of (List' shape row at) = (_, row)
members_of _ = (_, end_of-FlatMember)

abbrev signed_of : FlatExpr → (n : Count) × Row_of-FlatSigned n
signed_of (Sum' f head shape row) = (_, row)
signed_of _ = (_, end_of-FlatSigned)

abbrev acts_of : FlatStmt → (n : Count) × Row_of-FlatStmt n
acts_of (Block' shape row) = (_, row)
acts_of _ = (_, end_of-FlatStmt)

module _ (n : ℕ) where
  abbrev pub FlatTermIsWithin : FlatSigned → Type 0
  FlatTermIsWithin x = FlatExprIsWithin n (out-FlatSigned x).of

  abbrev pub FlatMemberIsWithin : FlatMember → Type 0
  FlatMemberIsWithin (One e) = FlatExprIsWithin n e
  FlatMemberIsWithin (SpanOf span at) = at ≤ n

  exprs-row : (k : _) (row : Row_of-FlatExpr k) → FlatExprsAreWithin n (items-the_row-FlatExpr k row) → FlatRowIsWithin n row
  exprs-row k end_of-FlatExpr h = tt
  exprs-row k (more_of-FlatExpr e rest) h = (h.0, exprs-row _ rest h.1)

  signed-row : (k : _) (row : Row_of-FlatSigned k) → AllByRecursion FlatTermIsWithin (items-the_row-FlatSigned k row) → FlatTermsAreWithin n row
  signed-row k end_of-FlatSigned h = tt
  signed-row k (more_of-FlatSigned minus e rest) h = (h.0, signed-row _ rest h.1)

  members-row : (k : _) (row : Row_of-FlatMember k) → AllByRecursion FlatMemberIsWithin (items-the_row-FlatMember k row) → FlatMembersAreWithin n row
  members-row k end_of-FlatMember h = tt
  members-row k (more_of-FlatMember (One e) rest) h = (h.0, members-row _ rest h.1)
  members-row k (more_of-FlatMember (SpanOf span at) rest) h = (h.0, members-row _ rest h.1)

  acts-row : (k : _) (row : Row_of-FlatStmt k) → AllByRecursion (ActIsWithin n) (items-the_row-FlatStmt k row) → ActsAreWithin n row
  acts-row k end_of-FlatStmt h = tt
  acts-row k (more_of-FlatStmt part rest) h = (h.0, acts-row _ rest h.1)

  pub flat-Read : (family : ℕ) (es : List FlatExpr) (at : ℕ) → at ≤ n → FlatExprsAreWithin n es → FlatExprIsWithin n (Read family es at)
  flat-Read family es at a h = (a, exprs-row (exprs_of (Read family es at)).0 (exprs_of (Read family es at)).1 (subst (FlatExprsAreWithin n) (sym (items_hidden-the_row-FlatExpr-0 es)) h))

  pub flat-And : (es : List FlatExpr) → FlatExprsAreWithin n es → FlatExprIsWithin n (And es)
  flat-And es h = exprs-row (exprs_of (And es)).0 (exprs_of (And es)).1 (subst (FlatExprsAreWithin n) (sym (items_hidden-the_row-FlatExpr-0 es)) h)

  pub flat-Or : (es : List FlatExpr) → FlatExprsAreWithin n es → FlatExprIsWithin n (Or es)
  flat-Or es h = exprs-row (exprs_of (Or es)).0 (exprs_of (Or es)).1 (subst (FlatExprsAreWithin n) (sym (items_hidden-the_row-FlatExpr-0 es)) h)

  pub flat-Implies : (es : List FlatExpr) → FlatExprsAreWithin n es → FlatExprIsWithin n (Implies es)
  flat-Implies es h = exprs-row (exprs_of (Implies es)).0 (exprs_of (Implies es)).1 (subst (FlatExprsAreWithin n) (sym (items_hidden-the_row-FlatExpr-0 es)) h)

  pub flat-List : (members : List FlatMember) (at : ℕ) → at ≤ n → AllByRecursion FlatMemberIsWithin members → FlatExprIsWithin n (ListOf members at)
  flat-List members at a h = (a, members-row (members_of (ListOf members at)).0 (members_of (ListOf members at)).1 (subst (AllByRecursion FlatMemberIsWithin) (sym (items_hidden-the_row-FlatMember-3 members)) h))

  pub flat-Sum : (head : FlatExpr) (more : List FlatSigned) → FlatExprIsWithin n head → AllByRecursion FlatTermIsWithin more → FlatExprIsWithin n (Sum head more)
  unfolding boxes
  flat-Sum head more e h = (e, signed-row (signed_of (Sum head more)).0 (signed_of (Sum head more)).1 (subst (AllByRecursion FlatTermIsWithin) (sym (items_hidden-the_row-FlatSigned-2 more)) h))

  pub flat-Not : (e : FlatExpr) (at : ℕ) → at ≤ n → FlatExprIsWithin n e → FlatExprIsWithin n (Not e at)
  unfolding boxes
  flat-Not e at a h = (a, h)

  pub flat-Modulo : (e : FlatExpr) (by at : ℕ) → at ≤ n → FlatExprIsWithin n e → FlatExprIsWithin n (Modulo e by at)
  unfolding boxes
  flat-Modulo e by at a h = (a, h)

  pub flat-Iff : (x y : FlatExpr) → FlatExprIsWithin n x → FlatExprIsWithin n y → FlatExprIsWithin n (Iff x y)
  unfolding boxes
  flat-Iff x y h g = (h, g)

  pub flat-Compare : (op : Op) (x y : FlatExpr) → FlatExprIsWithin n x → FlatExprIsWithin n y → FlatExprIsWithin n (Compare op x y)
  unfolding boxes
  flat-Compare op x y h g = (h, g)

  pub flat-Within : (x y : FlatExpr) → FlatExprIsWithin n x → FlatExprIsWithin n y → FlatExprIsWithin n (Within x y)
  unfolding boxes
  flat-Within x y h g = (h, g)

  pub flat-Choose : (c x y : FlatExpr) → FlatExprIsWithin n c → FlatExprIsWithin n x → FlatExprIsWithin n y → FlatExprIsWithin n (Choose c x y)
  unfolding boxes
  flat-Choose c x y f h g = (f, h, g)

  pub flat-All : (body : FlatExpr) (var : ℕ) (over : Simple) (at : ℕ) → at ≤ n → FlatExprIsWithin n body → FlatExprIsWithin n (All body var over at)
  unfolding boxes
  flat-All body var over at a h = (a, h)

  pub flat-Any : (body : FlatExpr) (var : ℕ) (over : Simple) (at : ℕ) → at ≤ n → FlatExprIsWithin n body → FlatExprIsWithin n (Any body var over at)
  unfolding boxes
  flat-Any body var over at a h = (a, h)

  abbrev pub FlatIsWithinOrNone : Option FlatExpr → Type 0
  FlatIsWithinOrNone None = Unit {0}
  FlatIsWithinOrNone (Some e) = FlatExprIsWithin n e

  pub flat-Each : (var : ℕ) (over : Simple) (cond : Option FlatExpr) (at : ℕ) → at ≤ n → FlatIsWithinOrNone cond → FlatExprIsWithin n (Each var over cond at)
  unfolding boxes
  flat-Each var over None at a h = (a, tt)
  flat-Each var over (Some cond) at a h = (a, h)

  pub flat-term : (minus : Bool) (e : FlatExpr) → FlatExprIsWithin n e → FlatTermIsWithin (roll-FlatSigned (record { minus = minus; of = e }))
  unfolding boxes
  flat-term minus e h = h

  pub flat-Block : (acts : List FlatStmt) → AllByRecursion (ActIsWithin n) acts → ActIsWithin n (Block acts)
  flat-Block acts h = acts-row (acts_of (Block acts)).0 (acts_of (Block acts)).1 (subst (AllByRecursion (ActIsWithin n)) (sym (items_hidden-the_row-FlatStmt-1 acts)) h)

  pub flat-If : (c : FlatExpr) (x y : FlatStmt) → FlatExprIsWithin n c → ActIsWithin n x → ActIsWithin n y → ActIsWithin n (If c x y)
  unfolding boxes
  flat-If c x y f h g = (f, h, g)

  pub flat-Default : (x y : FlatStmt) → ActIsWithin n x → ActIsWithin n y → ActIsWithin n (Default x y)
  unfolding boxes
  flat-Default x y h g = (h, g)

  pub flat-Forall : (var : ℕ) (over : Simple) (body : FlatStmt) → ActIsWithin n body → ActIsWithin n (Forall var over body)
  unfolding boxes
  flat-Forall var over body h = h
