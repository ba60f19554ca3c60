-- Expressions without their places in the text, where they are made of lists and values.
use Rattle.std.proofs.Common.{◌≡◌, ℕ, List, ◌∷◌, map, Some, None, refl, ap, sym, ◌∙◌}
use Rattle.smv_core.specs.declared.tree.Op.{Op}
use Rattle.smv_core.specs.declared.flat.Simple.{Simple}
use Rattle.smv_core.specs.declared.flat.FlatMember.{FlatMember, One, Span as SpanOf}
use Rattle.smv_core.specs.declared.flat.FlatSigned.{FlatSigned, roll-FlatSigned}
use Rattle.smv_core.specs.declared.flat.FlatExpr.{FlatExpr, Number, Read, Read', Var, Loop, Constant, Not, And, And', Or, Or', Implies, Implies', Iff, Compare, Within, Sum, Sum', Modulo, Choose, All, Any, List as ListOf, List', Each}
use Rattle.smv_core.specs.declared.flat.FlatExpr.{Row_of-FlatExpr, end_of-FlatExpr, more_of-FlatExpr, Row_of-FlatMember, end_of-FlatMember, more_of-FlatMember, Row_of-FlatSigned, end_of-FlatSigned, more_of-FlatSigned}
use Rattle.smv_core.specs.declared.flat.FlatExpr.{items-the_row-FlatExpr, items-the_row-FlatMember, items-the_row-FlatSigned, items_hidden-the_row-FlatExpr-0, items_hidden-the_row-FlatMember-3, items_hidden-the_row-FlatSigned-2, items_shown-the_row-FlatExpr-0, items_shown-the_row-FlatMember-3, items_shown-the_row-FlatSigned-2, out-FlatExpr, roll-FlatExpr, roll-out-FlatExpr}
use mathlib.Core.Former.{Count}
use Rattle.smv_free_variables.specs.Placeless.{placeless, placeless_each, placeless_signed, placeless_members, placeless_term, placeless_member}

-- what lets rows compute
unfoldable computing : Unit {0}
unfolding roll-FlatExpr out-FlatExpr Rattle.smv_core.specs.declared.flat.FlatExpr.TheBlock.shown-the_row-FlatExpr-0 Rattle.smv_core.specs.declared.flat.FlatExpr.TheBlock.shown-the_row-FlatExpr-1 Rattle.smv_core.specs.declared.flat.FlatExpr.TheBlock.shown-the_row-FlatMember-3 Rattle.smv_core.specs.declared.flat.FlatExpr.TheBlock.shown-the_row-FlatSigned-2 Rattle.smv_core.specs.declared.flat.FlatExpr.TheBlock.hidden-the_row-FlatExpr-0 Rattle.smv_core.specs.declared.flat.FlatExpr.TheBlock.hidden-the_row-FlatExpr-1 Rattle.smv_core.specs.declared.flat.FlatExpr.TheBlock.hidden-the_row-FlatMember-3 Rattle.smv_core.specs.declared.flat.FlatExpr.TheBlock.hidden-the_row-FlatSigned-2 Rattle.smv_core.specs.declared.flat.FlatExpr.TheBlock.shape-the_row-FlatExpr-0 Rattle.smv_core.specs.declared.flat.FlatExpr.TheBlock.shape-the_row-FlatExpr-1 Rattle.smv_core.specs.declared.flat.FlatExpr.TheBlock.shape-the_row-FlatMember-3 Rattle.smv_core.specs.declared.flat.FlatExpr.TheBlock.shape-the_row-FlatSigned-2 denote.Hole.Carrier.roll denote.Hole.Carrier.out denote.Hole.Carrier.shown denote.Hole.Carrier.hidden
computing = tt

-- ---- what stands in rows, by its list

and-list : (shape : _) (row : _) → And (items-the_row-FlatExpr _ row) ≡ And' shape row
unfolding computing
and-list shape row = sym (ap And (items_shown-the_row-FlatExpr-0 shape row)) ∙ roll-out-FlatExpr (And' shape row)

or-list : (shape : _) (row : _) → Or (items-the_row-FlatExpr _ row) ≡ Or' shape row
unfolding computing
or-list shape row = sym (ap Or (items_shown-the_row-FlatExpr-0 shape row)) ∙ roll-out-FlatExpr (Or' shape row)

implies-list : (shape : _) (row : _) → Implies (items-the_row-FlatExpr _ row) ≡ Implies' shape row
unfolding computing
implies-list shape row = sym (ap Implies (items_shown-the_row-FlatExpr-0 shape row)) ∙ roll-out-FlatExpr (Implies' shape row)

read-list : (family : ℕ) (shape : _) (row : _) (at : ℕ) → Read family (items-the_row-FlatExpr _ row) at ≡ Read' family shape row at
unfolding computing
read-list family shape row at = sym (ap (λ l. Read family l at) (items_shown-the_row-FlatExpr-0 shape row)) ∙ roll-out-FlatExpr (Read' family shape row at)

list-list : (shape : _) (row : _) (at : ℕ) → ListOf (items-the_row-FlatMember _ row) at ≡ List' shape row at
unfolding computing
list-list shape row at = sym (ap (λ l. ListOf l at) (items_shown-the_row-FlatMember-3 shape row)) ∙ roll-out-FlatExpr (List' shape row at)

sum-list : (f : _) (e : FlatExpr) (shape : _) (row : _) → Sum e (items-the_row-FlatSigned _ row) ≡ Sum' f (more_of-FlatExpr e end_of-FlatExpr) shape row
unfolding computing
sum-list f e shape row = sym (ap (Sum e) (items_shown-the_row-FlatSigned-2 shape row)) ∙ roll-out-FlatExpr (Sum' f (more_of-FlatExpr e end_of-FlatExpr) shape row)

exprs-row : (n : _) (row : Row_of-FlatExpr n) → items-the_row-FlatExpr n (placeless_each row) ≡ map placeless (items-the_row-FlatExpr n row)
unfolding placeless
exprs-row n end_of-FlatExpr = refl
exprs-row n (more_of-FlatExpr e rest) = ap (λ l. placeless e ∷ l) (exprs-row _ rest)

members-row : (n : _) (row : Row_of-FlatMember n) → items-the_row-FlatMember n (placeless_members row) ≡ map placeless_member (items-the_row-FlatMember n row)
unfolding placeless computing
members-row n end_of-FlatMember = refl
members-row n (more_of-FlatMember (One e) rest) = ap (λ l. One (placeless e) ∷ l) (members-row _ rest)
members-row n (more_of-FlatMember (SpanOf span at) rest) = ap (λ l. SpanOf span 0 ∷ l) (members-row _ rest)

signed-row : (n : _) (row : Row_of-FlatSigned n) → items-the_row-FlatSigned n (placeless_signed row) ≡ map placeless_term (items-the_row-FlatSigned n row)
unfolding placeless computing
signed-row n end_of-FlatSigned = refl
signed-row n (more_of-FlatSigned minus e rest) = ap (λ l. roll-FlatSigned (record { minus = minus; of = placeless e }) ∷ l) (signed-row _ rest)

abbrev exprs_of : FlatExpr → (n : Count) × Row_of-FlatExpr n
exprs_of (And' shape row) = (_, row)
exprs_of (Or' shape row) = (_, row)
exprs_of (Implies' shape row) = (_, row)
exprs_of (Read' family shape row at) = (_, row)
exprs_of _ = (_, end_of-FlatExpr)

abbrev members_of : FlatExpr → (n : Count) × Row_of-FlatMember n
members_of (List' shape row at) = (_, row)
members_of _ = (_, end_of-FlatMember)

abbrev sums_of : FlatExpr → (n : Count) × Row_of-FlatSigned n
sums_of (Sum' f first shape row) = (_, row)
sums_of _ = (_, end_of-FlatSigned)

-- ---- each constructor

pub placeless-Sum : (first : FlatExpr) (more : List FlatSigned) → placeless (Sum first more) ≡ Sum (placeless first) (map placeless_term more)
unfolding placeless Rattle.smv_core.specs.declared.flat.FlatExpr.TheBlock.hidden-the_row-FlatExpr-1 Rattle.smv_core.specs.declared.flat.FlatExpr.TheBlock.shape-the_row-FlatExpr-1 denote.Hole.Carrier.hidden
placeless-Sum first more =
    let row = sums_of (Sum first more) in
    sym (sum-list _ (placeless first) _ (placeless_signed row.1)) ∙ ap (Sum (placeless first)) (signed-row _ row.1 ∙ ap (map placeless_term) (items_hidden-the_row-FlatSigned-2 more))

pub placeless-Number : (value at : ℕ) → placeless (Number value at) ≡ Number value 0
unfolding placeless
placeless-Number value at = refl

pub placeless-Var : (var at : ℕ) → placeless (Var var at) ≡ Var var 0
unfolding placeless
placeless-Var var at = refl

pub placeless-Loop : (value at : ℕ) → placeless (Loop value at) ≡ Loop value 0
unfolding placeless
placeless-Loop value at = refl

pub placeless-Constant : (list value at : ℕ) → placeless (Constant list value at) ≡ Constant list value 0
unfolding placeless
placeless-Constant list value at = refl

pub placeless-Read : (family : ℕ) (indexes : List FlatExpr) (at : ℕ) → placeless (Read family indexes at) ≡ Read family (map placeless indexes) 0
unfolding placeless
placeless-Read family indexes at =
    let row = exprs_of (Read family indexes at) in
    sym (read-list family _ (placeless_each row.1) 0) ∙ ap (λ l. Read family l 0) (exprs-row _ row.1 ∙ ap (map placeless) (items_hidden-the_row-FlatExpr-0 indexes))

pub placeless-And : (parts : List FlatExpr) → placeless (And parts) ≡ And (map placeless parts)
unfolding placeless
placeless-And parts = sym (and-list _ (placeless_each (exprs_of (And parts)).1)) ∙ ap And (exprs-row _ (exprs_of (And parts)).1 ∙ ap (map placeless) (items_hidden-the_row-FlatExpr-0 parts))

pub placeless-Or : (parts : List FlatExpr) → placeless (Or parts) ≡ Or (map placeless parts)
unfolding placeless
placeless-Or parts = sym (or-list _ (placeless_each (exprs_of (Or parts)).1)) ∙ ap Or (exprs-row _ (exprs_of (Or parts)).1 ∙ ap (map placeless) (items_hidden-the_row-FlatExpr-0 parts))

pub placeless-Implies : (parts : List FlatExpr) → placeless (Implies parts) ≡ Implies (map placeless parts)
unfolding placeless
placeless-Implies parts = sym (implies-list _ (placeless_each (exprs_of (Implies parts)).1)) ∙ ap Implies (exprs-row _ (exprs_of (Implies parts)).1 ∙ ap (map placeless) (items_hidden-the_row-FlatExpr-0 parts))

pub placeless-List : (members : List FlatMember) (at : ℕ) → placeless (ListOf members at) ≡ ListOf (map placeless_member members) 0
unfolding placeless
placeless-List members at =
    sym (list-list _ (placeless_members (members_of (ListOf members at)).1) 0) ∙ ap (λ l. ListOf l 0) (members-row _ (members_of (ListOf members at)).1 ∙ ap (map placeless_member) (items_hidden-the_row-FlatMember-3 members))

pub placeless-Not : (e : FlatExpr) (at : ℕ) → placeless (Not e at) ≡ Not (placeless e) 0
unfolding placeless computing
placeless-Not e at = refl

pub placeless-Modulo : (e : FlatExpr) (by at : ℕ) → placeless (Modulo e by at) ≡ Modulo (placeless e) by 0
unfolding placeless computing
placeless-Modulo e by at = refl

pub placeless-Iff : (x y : FlatExpr) → placeless (Iff x y) ≡ Iff (placeless x) (placeless y)
unfolding placeless computing
placeless-Iff x y = refl

pub placeless-Compare : (op : Op) (x y : FlatExpr) → placeless (Compare op x y) ≡ Compare op (placeless x) (placeless y)
unfolding placeless computing
placeless-Compare op x y = refl

pub placeless-Within : (x y : FlatExpr) → placeless (Within x y) ≡ Within (placeless x) (placeless y)
unfolding placeless computing
placeless-Within x y = refl

pub placeless-Choose : (c x y : FlatExpr) → placeless (Choose c x y) ≡ Choose (placeless c) (placeless x) (placeless y)
unfolding placeless computing
placeless-Choose c x y = refl

pub placeless-All : (body : FlatExpr) (var : ℕ) (over : Simple) (at : ℕ) → placeless (All body var over at) ≡ All (placeless body) var over 0
unfolding placeless computing
placeless-All body var over at = refl

pub placeless-Any : (body : FlatExpr) (var : ℕ) (over : Simple) (at : ℕ) → placeless (Any body var over at) ≡ Any (placeless body) var over 0
unfolding placeless computing
placeless-Any body var over at = refl

pub placeless-Each : (var : ℕ) (over : Simple) (at : ℕ) → placeless (Each var over None at) ≡ Each var over None 0
unfolding placeless computing
placeless-Each var over at = refl

pub placeless-Each_if : (var : ℕ) (over : Simple) (cond : FlatExpr) (at : ℕ) → placeless (Each var over (Some cond) at) ≡ Each var over (Some (placeless cond)) 0
unfolding placeless computing
placeless-Each_if var over cond at = refl

pub ruleset equations = (placeless-Number, placeless-Var, placeless-Loop, placeless-Constant, placeless-Read, placeless-And, placeless-Or, placeless-Implies, placeless-List, placeless-Sum, placeless-Not, placeless-Modulo, placeless-Iff, placeless-Compare, placeless-Within, placeless-Choose, placeless-All, placeless-Any, placeless-Each, placeless-Each_if)
