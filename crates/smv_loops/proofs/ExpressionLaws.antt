-- What expressions read, on expressions that are made of lists and values.
use Rattle.std.proofs.Common.{◌≡◌, ℕ, List, [], ◌∷◌, ◌++◌, map, Some, None, refl, ap, ◌∙◌}
use Rattle.std.specs.List.{flat_map}
use Rattle.smv_core.specs.Assignments.{Index}
use Rattle.smv_core.specs.declared.tree.Op.{Op}
use Rattle.smv_core.specs.declared.flat.Simple.{Simple}
use Rattle.smv_core.specs.declared.flat.FlatSigned.{FlatSigned}
use Rattle.smv_core.specs.declared.flat.FlatMember.{FlatMember, One, Span as SpanOf}
use Rattle.smv_core.specs.declared.flat.FlatExpr.{FlatExpr, Number, Var, Loop, Constant, Not, Iff, Compare, Within, Modulo, Choose, All, Any, Each, Read, Read', And, And', Or, Or', Implies, Implies', Sum, Sum', List as ListOf, List', Row_of-FlatExpr, end_of-FlatExpr, more_of-FlatExpr, Row_of-FlatMember, end_of-FlatMember, more_of-FlatMember, Row_of-FlatSigned, end_of-FlatSigned, more_of-FlatSigned, items-the_row-FlatExpr, items-the_row-FlatMember, items-the_row-FlatSigned, items_hidden-the_row-FlatExpr-0, items_hidden-the_row-FlatSigned-2, items_hidden-the_row-FlatMember-3}
use Rattle.law_designs.specs.Reading.{Reference, indexes_of, references_of, references_signed, references_members}
use Rattle.smv_loops.specs.Held.{index_in, read_in, read_in_term, read_in_member}
use Rattle.smv_loops.proofs.Computing.{boxes}
use mathlib.Core.Former.{Count}

exprs-row : (k : _) (row : Row_of-FlatExpr k) → references_of row ≡ flat_map read_in (items-the_row-FlatExpr k row)
unfolding read_in index_in
exprs-row k end_of-FlatExpr = refl
exprs-row k (more_of-FlatExpr e rest) = ap (λ l. read_in e ++ l) (exprs-row _ rest)

indexes-row : (k : _) (row : Row_of-FlatExpr k) → indexes_of row ≡ map index_in (items-the_row-FlatExpr k row)
unfolding read_in index_in
indexes-row k end_of-FlatExpr = refl
indexes-row k (more_of-FlatExpr e rest) = ap (λ l. index_in e ∷ l) (indexes-row _ rest)

signed-row : (k : _) (row : Row_of-FlatSigned k) → references_signed row ≡ flat_map read_in_term (items-the_row-FlatSigned k row)
unfolding read_in index_in boxes
signed-row k end_of-FlatSigned = refl
signed-row k (more_of-FlatSigned minus e rest) = ap (λ l. read_in e ++ l) (signed-row _ rest)

members-row : (k : _) (row : Row_of-FlatMember k) → references_members row ≡ flat_map read_in_member (items-the_row-FlatMember k row)
unfolding read_in index_in boxes
members-row k end_of-FlatMember = refl
members-row k (more_of-FlatMember (One e) rest) = ap (λ l. read_in e ++ l) (members-row _ rest)
members-row k (more_of-FlatMember (SpanOf span at) rest) = members-row _ rest

abbrev exprs_of : FlatExpr → (k : Count) × Row_of-FlatExpr k
exprs_of (Read' family shape row at) = (_, row)
exprs_of (And' shape row) = (_, row)
exprs_of (Or' shape row) = (_, row)
exprs_of (Implies' shape row) = (_, row)
exprs_of _ = (_, end_of-FlatExpr)

abbrev members_in : FlatExpr → (k : Count) × Row_of-FlatMember k
members_in (List' shape row at) = (_, row)
members_in _ = (_, end_of-FlatMember)

abbrev signed_in : FlatExpr → (k : Count) × Row_of-FlatSigned k
signed_in (Sum' f head shape row) = (_, row)
signed_in _ = (_, end_of-FlatSigned)

abbrev reference_at : ℕ → ℕ → List Index → Reference
reference_at family at indexes = record { family = family; indexes = indexes; at = at }

pub reads-Read : (family : ℕ) (es : List FlatExpr) (at : ℕ) → read_in (Read family es at) ≡ record { family = family; indexes = map index_in es; at = at } ∷ flat_map read_in es
unfolding read_in index_in
reads-Read family es at =
    let row : (k : Count) × Row_of-FlatExpr k = exprs_of (Read family es at) in
    ap (λ l. reference_at family at l ∷ references_of row.1) (indexes-row row.0 row.1 ∙ ap (map index_in) (items_hidden-the_row-FlatExpr-0 es))
    ∙ ap (λ l. reference_at family at (map index_in es) ∷ l) (exprs-row row.0 row.1 ∙ ap (flat_map read_in) (items_hidden-the_row-FlatExpr-0 es))

pub reads-And : (es : List FlatExpr) → read_in (And es) ≡ flat_map read_in es
unfolding read_in index_in
reads-And es =
    let row : (k : Count) × Row_of-FlatExpr k = exprs_of (And es) in
    exprs-row row.0 row.1 ∙ ap (flat_map read_in) (items_hidden-the_row-FlatExpr-0 es)

pub reads-Or : (es : List FlatExpr) → read_in (Or es) ≡ flat_map read_in es
unfolding read_in index_in
reads-Or es =
    let row : (k : Count) × Row_of-FlatExpr k = exprs_of (Or es) in
    exprs-row row.0 row.1 ∙ ap (flat_map read_in) (items_hidden-the_row-FlatExpr-0 es)

pub reads-Implies : (es : List FlatExpr) → read_in (Implies es) ≡ flat_map read_in es
unfolding read_in index_in
reads-Implies es =
    let row : (k : Count) × Row_of-FlatExpr k = exprs_of (Implies es) in
    exprs-row row.0 row.1 ∙ ap (flat_map read_in) (items_hidden-the_row-FlatExpr-0 es)

pub reads-List : (members : List FlatMember) (at : ℕ) → read_in (ListOf members at) ≡ flat_map read_in_member members
unfolding read_in index_in
reads-List members at =
    let row : (k : Count) × Row_of-FlatMember k = members_in (ListOf members at) in
    members-row row.0 row.1 ∙ ap (flat_map read_in_member) (items_hidden-the_row-FlatMember-3 members)

pub reads-Sum : (head : FlatExpr) (more : List FlatSigned) → read_in (Sum head more) ≡ read_in head ++ flat_map read_in_term more
unfolding read_in Rattle.smv_core.specs.declared.flat.FlatExpr.TheBlock.hidden-the_row-FlatExpr-1 Rattle.smv_core.specs.declared.flat.FlatExpr.TheBlock.shape-the_row-FlatExpr-1 denote.Hole.Carrier.hidden
reads-Sum head more =
    let row : (k : Count) × Row_of-FlatSigned k = signed_in (Sum head more) in
    ap (λ l. read_in head ++ l) (signed-row row.0 row.1 ∙ ap (flat_map read_in_term) (items_hidden-the_row-FlatSigned-2 more))

pub reads-Number : (value at : ℕ) → read_in (Number value at) ≡ []
unfolding read_in index_in
reads-Number value at = refl

pub reads-Loop : (value at : ℕ) → read_in (Loop value at) ≡ []
unfolding read_in index_in
reads-Loop value at = refl

pub reads-Var : (var at : ℕ) → read_in (Var var at) ≡ []
unfolding read_in index_in
reads-Var var at = refl

pub reads-Constant : (list value at : ℕ) → read_in (Constant list value at) ≡ []
unfolding read_in index_in
reads-Constant list value at = refl

pub reads-Not : (e : FlatExpr) (at : ℕ) → read_in (Not e at) ≡ read_in e
unfolding read_in index_in boxes
reads-Not e at = refl

pub reads-Modulo : (e : FlatExpr) (by at : ℕ) → read_in (Modulo e by at) ≡ read_in e
unfolding read_in index_in boxes
reads-Modulo e by at = refl

pub reads-Iff : (x y : FlatExpr) → read_in (Iff x y) ≡ read_in x ++ read_in y
unfolding read_in index_in boxes
reads-Iff x y = refl

pub reads-Compare : (op : Op) (x y : FlatExpr) → read_in (Compare op x y) ≡ read_in x ++ read_in y
unfolding read_in index_in boxes
reads-Compare op x y = refl

pub reads-Within : (x y : FlatExpr) → read_in (Within x y) ≡ read_in x ++ read_in y
unfolding read_in index_in boxes
reads-Within x y = refl

pub reads-Choose : (c x y : FlatExpr) → read_in (Choose c x y) ≡ read_in c ++ read_in x ++ read_in y
unfolding read_in index_in boxes
reads-Choose c x y = refl

pub reads-All : (body : FlatExpr) (var : ℕ) (over : Simple) (at : ℕ) → read_in (All body var over at) ≡ read_in body
unfolding read_in index_in boxes
reads-All body var over at = refl

pub reads-Any : (body : FlatExpr) (var : ℕ) (over : Simple) (at : ℕ) → read_in (Any body var over at) ≡ read_in body
unfolding read_in index_in boxes
reads-Any body var over at = refl

pub reads-Each : (var : ℕ) (over : Simple) (at : ℕ) → read_in (Each var over None at) ≡ []
unfolding read_in index_in boxes
reads-Each var over at = refl

pub reads-Each_if : (var : ℕ) (over : Simple) (cond : FlatExpr) (at : ℕ) → read_in (Each var over (Some cond) at) ≡ read_in cond
unfolding read_in index_in boxes
reads-Each_if var over cond at = refl

pub ruleset equations = (reads-Read, reads-And, reads-Or, reads-Implies, reads-List, reads-Sum, reads-Number, reads-Loop, reads-Var, reads-Constant, reads-Not, reads-Modulo, reads-Iff, reads-Compare, reads-Within, reads-Choose, reads-All, reads-Any, reads-Each, reads-Each_if)
