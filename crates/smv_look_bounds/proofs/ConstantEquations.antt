-- Whether expressions that are made of lists and values are made of constants alone.
use Rattle.std.proofs.Common.{◌≡◌, ◌∙◌, ℕ, List, true, false, cond, ◌&&◌, Option, refl, ap}
use Rattle.std.specs.List.{list_all}
use mathlib.Core.Former.{Count}
use Rattle.smv_core.specs.declared.tree.Op.{Op}
use Rattle.smv_core.specs.declared.flat.Simple.{Simple}
use Rattle.smv_core.specs.declared.flat.FlatMember.{FlatMember, One, Span as SpanOf}
use Rattle.smv_core.specs.declared.flat.FlatSigned.{FlatSigned}
use Rattle.smv_core.specs.declared.flat.FlatExpr.{FlatExpr, Number, Read, Read', Var, Loop, Constant, Not, And, And', Or, Or', Implies, Implies', Iff, Compare, Within, Sum, Sum', Modulo, Choose, All, Any, List as ListOf, List', Each, Row_of-FlatExpr, end_of-FlatExpr, more_of-FlatExpr, Row_of-FlatMember, end_of-FlatMember, more_of-FlatMember, Row_of-FlatSigned, end_of-FlatSigned, more_of-FlatSigned, items-the_row-FlatExpr, items-the_row-FlatMember, items-the_row-FlatSigned, items_hidden-the_row-FlatExpr-0, items_hidden-the_row-FlatSigned-2, items_hidden-the_row-FlatMember-3}
use Rattle.law_designs.proofs.FlatLists.{boxes}
use Rattle.smv_look_bounds.specs.Constants.{is_constant, are_constant, members_constant, terms_constant}
use Rattle.smv_look_bounds.specs.Held.{member_constant, term_constant}

abbrev exprs_of : FlatExpr → (k : Count) × Row_of-FlatExpr k
exprs_of (Read' family shape row at) = (_, row)
exprs_of (And' shape row) = (_, row)
exprs_of (Or' shape row) = (_, row)
exprs_of (Implies' shape row) = (_, row)
exprs_of _ = (_, end_of-FlatExpr)

abbrev members_in : FlatExpr → (k : Count) × Row_of-FlatMember k
members_in (List' shape row at) = (_, row)
members_in _ = (_, end_of-FlatMember)

abbrev signed_in : FlatExpr → (k : Count) × Row_of-FlatSigned k
signed_in (Sum' f head shape row) = (_, row)
signed_in _ = (_, end_of-FlatSigned)

row-each : (n : _) (row : Row_of-FlatExpr n) → are_constant row ≡ list_all is_constant (items-the_row-FlatExpr n row)
unfolding is_constant
row-each n end_of-FlatExpr = refl
row-each n (more_of-FlatExpr e rest) = ap (λ p. is_constant e && p) (row-each _ rest)

row-terms : (n : _) (row : Row_of-FlatSigned n) → terms_constant row ≡ list_all term_constant (items-the_row-FlatSigned n row)
unfolding is_constant boxes
row-terms n end_of-FlatSigned = refl
row-terms n (more_of-FlatSigned minus e rest) = ap (λ p. is_constant e && p) (row-terms _ rest)

row-members : (n : _) (row : Row_of-FlatMember n) → members_constant row ≡ list_all member_constant (items-the_row-FlatMember n row)
unfolding is_constant boxes
row-members n end_of-FlatMember = refl
row-members n (more_of-FlatMember (One e) rest) = ap (λ p. is_constant e && p) (row-members _ rest)
row-members n (more_of-FlatMember (SpanOf span at) rest) = row-members _ rest

pub constant-Number : (value at : ℕ) → is_constant (Number value at) ≡ true
unfolding is_constant boxes
constant-Number value at = refl

pub constant-Read : (family : ℕ) (es : List FlatExpr) (at : ℕ) → is_constant (Read family es at) ≡ false
unfolding is_constant boxes
constant-Read family es at = refl

pub constant-Var : (var at : ℕ) → is_constant (Var var at) ≡ false
unfolding is_constant boxes
constant-Var var at = refl

pub constant-Loop : (value at : ℕ) → is_constant (Loop value at) ≡ false
unfolding is_constant boxes
constant-Loop value at = refl

pub constant-Constant : (list value at : ℕ) → is_constant (Constant list value at) ≡ true
unfolding is_constant boxes
constant-Constant list value at = refl

pub constant-Not : (e : FlatExpr) (at : ℕ) → is_constant (Not e at) ≡ is_constant e
unfolding is_constant boxes
constant-Not e at = refl

pub constant-And : (es : List FlatExpr) → is_constant (And es) ≡ list_all is_constant es
unfolding is_constant boxes
constant-And es = row-each (exprs_of (And es)).0 (exprs_of (And es)).1 ∙ ap (list_all is_constant) (items_hidden-the_row-FlatExpr-0 es)

pub constant-Or : (es : List FlatExpr) → is_constant (Or es) ≡ list_all is_constant es
unfolding is_constant boxes
constant-Or es = row-each (exprs_of (Or es)).0 (exprs_of (Or es)).1 ∙ ap (list_all is_constant) (items_hidden-the_row-FlatExpr-0 es)

pub constant-Implies : (es : List FlatExpr) → is_constant (Implies es) ≡ list_all is_constant es
unfolding is_constant boxes
constant-Implies es = row-each (exprs_of (Implies es)).0 (exprs_of (Implies es)).1 ∙ ap (list_all is_constant) (items_hidden-the_row-FlatExpr-0 es)

pub constant-Iff : (l r : FlatExpr) → is_constant (Iff l r) ≡ (is_constant l && is_constant r)
unfolding is_constant boxes
constant-Iff l r = refl

pub constant-Compare : (op : Op) (l r : FlatExpr) → is_constant (Compare op l r) ≡ (is_constant l && is_constant r)
unfolding is_constant boxes
constant-Compare op l r = refl

pub constant-Within : (l r : FlatExpr) → is_constant (Within l r) ≡ (is_constant l && is_constant r)
unfolding is_constant boxes
constant-Within l r = refl

pub constant-Sum : (head : FlatExpr) (more : List FlatSigned) → is_constant (Sum head more) ≡ (is_constant head && list_all term_constant more)
unfolding is_constant boxes
constant-Sum head more = ap (λ p. is_constant head && p) (row-terms (signed_in (Sum head more)).0 (signed_in (Sum head more)).1 ∙ ap (list_all term_constant) (items_hidden-the_row-FlatSigned-2 more))

pub constant-Modulo : (e : FlatExpr) (by at : ℕ) → is_constant (Modulo e by at) ≡ is_constant e
unfolding is_constant boxes
constant-Modulo e by at = refl

pub constant-Choose : (c l r : FlatExpr) → is_constant (Choose c l r) ≡ (is_constant c && is_constant l && is_constant r)
unfolding is_constant boxes
constant-Choose c l r = refl

pub constant-All : (body : FlatExpr) (var : ℕ) (over : Simple) (at : ℕ) → is_constant (All body var over at) ≡ false
unfolding is_constant boxes
constant-All body var over at = refl

pub constant-Any : (body : FlatExpr) (var : ℕ) (over : Simple) (at : ℕ) → is_constant (Any body var over at) ≡ false
unfolding is_constant boxes
constant-Any body var over at = refl

pub constant-List : (members : List FlatMember) (at : ℕ) → is_constant (ListOf members at) ≡ list_all member_constant members
unfolding is_constant boxes
constant-List members at = row-members (members_in (ListOf members at)).0 (members_in (ListOf members at)).1 ∙ ap (list_all member_constant) (items_hidden-the_row-FlatMember-3 members)

pub constant-Each : (var : ℕ) (over : Simple) (cond : Option FlatExpr) (at : ℕ) → is_constant (Each var over cond at) ≡ false
unfolding is_constant boxes
constant-Each var over cond at = refl

pub ruleset equations = (constant-Number, constant-Read, constant-Var, constant-Loop, constant-Constant, constant-Not, constant-And, constant-Or, constant-Implies, constant-Iff, constant-Compare, constant-Within, constant-Sum, constant-Modulo, constant-Choose, constant-All, constant-Any, constant-List, constant-Each)
