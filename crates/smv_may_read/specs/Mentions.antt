-- Which elements an expression or a definition may read, as far as families and constant indexes tell.
use Rattle.std.specs.Prelude.{ℕ, List, map, zip, Some, Bool, true, false, ◌&&◌, ◌||◌, nat_eq}
use Rattle.std.specs.List.{list_any, list_all}
use Rattle.smv_core.specs.Values.{Value, number}
use Rattle.smv_core.specs.Assignments.{Index, fixed}
use Rattle.smv_core.specs.FlatMeaning.{flat_index}
use Rattle.smv_core.specs.declared.flat.Class.{Class}
use Rattle.smv_core.specs.declared.flat.Class.TheVariants as class
use Rattle.smv_core.specs.declared.flat.Element.{Element}
use Rattle.smv_core.specs.declared.flat.FlatSigned.{FlatSigned, out-FlatSigned}
use Rattle.smv_core.specs.declared.flat.FlatMember.{FlatMember, One, Span as SpanOf}
use Rattle.smv_core.specs.declared.flat.FlatExpr.{FlatExpr, Number, Read', Var, Loop, Constant, Not', And', Or', Implies', Iff', Compare', Within', Sum', Modulo', Choose', All', Any', List', Each', Row_of-FlatExpr, end_of-FlatExpr, more_of-FlatExpr, Row_of-FlatMember, end_of-FlatMember, more_of-FlatMember, Row_of-FlatSigned, end_of-FlatSigned, more_of-FlatSigned, None', Some'}
use Rattle.smv_core.specs.declared.flat.DefBody.{DefBody, Nothing, Assign, If', First', Forall', Row_of-DefBody, end_of-DefBody, more_of-DefBody}
use Rattle.smv_core.specs.Rows.{one_flat_expr, FlatCondition}
use Rattle.law_obligations.specs.Reads.{indexes_read}

-- a constant, which is a number, lies at its own class alone
abbrev pub is_class : Value → Class → Bool
is_class (number n) (class.Number k) = nat_eq n k
is_class (number n) q = false
is_class v q = true

-- an index may lie at a class: any but a constant may lie anywhere
abbrev pub may_lie : Index → Class → Bool
may_lie (fixed (Some v)) q = is_class v q
may_lie i q = true

-- each index may lie where the element's does
abbrev pub may_be_at : List Index → List Class → Bool
may_be_at is qs = list_all (λ (i, q). may_lie i q) (zip is qs)

-- a reference may be of one of these elements
abbrev pub may_be_one : List Element → ℕ → List Index → Bool
may_be_one elements family is = list_any (λ x. nat_eq family x.family && may_be_at is x.indexes) elements

module _ (elements : List Element) where
  abbrev mutual
    -- some reference in an expression may be of one of these elements
    pub mentioned : FlatExpr → Bool
    mentioned (Number value at) = false
    mentioned (Read' family shape indexes at) = may_be_one elements family (indexes_read indexes) || each_mentioned indexes
    mentioned (Var var at) = false
    mentioned (Loop value at) = false
    mentioned (Constant list value at) = false
    mentioned (Not' shape (one_flat_expr e) at) = mentioned e
    mentioned (And' shape parts) = each_mentioned parts
    mentioned (Or' shape parts) = each_mentioned parts
    mentioned (Implies' shape parts) = each_mentioned parts
    mentioned (Iff' l (one_flat_expr left) r (one_flat_expr right)) = mentioned left || mentioned right
    mentioned (Compare' op l (one_flat_expr left) r (one_flat_expr right)) = mentioned left || mentioned right
    mentioned (Within' l (one_flat_expr left) r (one_flat_expr set)) = mentioned left || mentioned set
    mentioned (Sum' f (one_flat_expr head) shape more) = mentioned head || signed_mentioned more
    mentioned (Modulo' shape (one_flat_expr e) by at) = mentioned e
    mentioned (Choose' c (one_flat_expr cond) l (one_flat_expr left) r (one_flat_expr right)) = mentioned cond || (mentioned left || mentioned right)
    mentioned (All' shape (one_flat_expr body) var over at) = mentioned body
    mentioned (Any' shape (one_flat_expr body) var over at) = mentioned body
    mentioned (List' shape members at) = members_mentioned members
    mentioned (Each' var over cond at) = condition_mentioned cond

    pub each_mentioned : {m : _} → Row_of-FlatExpr m → Bool
    each_mentioned end_of-FlatExpr = false
    each_mentioned (more_of-FlatExpr e others) = mentioned e || each_mentioned others

    pub signed_mentioned : {m : _} → Row_of-FlatSigned m → Bool
    signed_mentioned end_of-FlatSigned = false
    signed_mentioned (more_of-FlatSigned minus e others) = mentioned e || signed_mentioned others

    pub members_mentioned : {m : _} → Row_of-FlatMember m → Bool
    members_mentioned end_of-FlatMember = false
    members_mentioned (more_of-FlatMember (One e) others) = mentioned e || members_mentioned others
    members_mentioned (more_of-FlatMember (SpanOf span at) others) = members_mentioned others

    pub condition_mentioned : FlatCondition → Bool
    condition_mentioned None' = false
    condition_mentioned (Some' shape (one_flat_expr cond)) = mentioned cond

-- the same under a name that stays closed, so that laws can speak of each constructor
unfoldable pub mentions : List Element → FlatExpr → Bool
mentions elements e = mentioned elements e

abbrev pub mentions_signed : List Element → FlatSigned → Bool
mentions_signed elements x = mentions elements (out-FlatSigned x).of

abbrev pub mentions_member : List Element → FlatMember → Bool
mentions_member elements (One e) = mentions elements e
mentions_member elements (SpanOf span at) = false

module _ (elements : List Element) (own : List Class) where
  abbrev mutual
    -- an assignment that may be of the element of these indexes mentions one of these, or stands under a condition that does, or something around it does
    pub inside_mentioned : Bool → DefBody → Bool
    inside_mentioned around Nothing = false
    inside_mentioned around (Assign left value place at) = may_be_at (map flat_index left) own && (around || (list_any (mentions elements) left || mentions elements value))
    inside_mentioned around (If' cond l (more_of-DefBody left end_of-DefBody) r (more_of-DefBody right end_of-DefBody)) =
        inside_mentioned (around || mentions elements cond) left || inside_mentioned (around || mentions elements cond) right
    inside_mentioned around (First' shape parts) = parts_mentioned around parts
    inside_mentioned around (Forall' var over shape (more_of-DefBody body end_of-DefBody)) = inside_mentioned around body

    pub parts_mentioned : {m : _} → Bool → Row_of-DefBody m → Bool
    parts_mentioned around end_of-DefBody = false
    parts_mentioned around (more_of-DefBody part others) = inside_mentioned around part || parts_mentioned around others

unfoldable pub mentions_inside : List Element → List Class → Bool → DefBody → Bool
mentions_inside elements own around part = inside_mentioned elements own around part
