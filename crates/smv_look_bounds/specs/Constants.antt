-- Expressions that are made of constants alone.
use Rattle.std.specs.Prelude.{Bool, true, false, ◌&&◌}
use Rattle.smv_core.specs.Rows.{one_flat_expr}
use Rattle.smv_core.specs.declared.flat.FlatMember.{One, Span as SpanOf}
use Rattle.smv_core.specs.declared.flat.FlatExpr.{FlatExpr, Number, Constant, Not', And', Or', Implies', Iff', Compare', Within', Sum', Modulo', Choose', List', Row_of-FlatExpr, end_of-FlatExpr, more_of-FlatExpr, Row_of-FlatMember, end_of-FlatMember, more_of-FlatMember, Row_of-FlatSigned, end_of-FlatSigned, more_of-FlatSigned}

unfoldable mutual
  -- written numbers and constants of enumerations, and what is made of these: no signal, no variable, and none of a `for`
  pub is_constant : FlatExpr → Bool
  is_constant (Number value at) = true
  is_constant (Constant list value at) = true
  is_constant (Not' shape (one_flat_expr e) at) = is_constant e
  is_constant (And' shape parts) = are_constant parts
  is_constant (Or' shape parts) = are_constant parts
  is_constant (Implies' shape parts) = are_constant parts
  is_constant (Iff' l (one_flat_expr left) r (one_flat_expr right)) = is_constant left && is_constant right
  is_constant (Compare' op l (one_flat_expr left) r (one_flat_expr right)) = is_constant left && is_constant right
  is_constant (Within' l (one_flat_expr left) r (one_flat_expr set)) = is_constant left && is_constant set
  is_constant (Sum' f (one_flat_expr head) shape more) = is_constant head && terms_constant more
  is_constant (Modulo' shape (one_flat_expr e) by at) = is_constant e
  is_constant (Choose' c (one_flat_expr cond) l (one_flat_expr left) r (one_flat_expr right)) = is_constant cond && is_constant left && is_constant right
  is_constant (List' shape members at) = members_constant members
  is_constant _ = false

  pub are_constant : {m : _} → Row_of-FlatExpr m → Bool
  are_constant end_of-FlatExpr = true
  are_constant (more_of-FlatExpr e rest) = is_constant e && are_constant rest

  pub terms_constant : {m : _} → Row_of-FlatSigned m → Bool
  terms_constant end_of-FlatSigned = true
  terms_constant (more_of-FlatSigned minus e rest) = is_constant e && terms_constant rest

  pub members_constant : {m : _} → Row_of-FlatMember m → Bool
  members_constant end_of-FlatMember = true
  members_constant (more_of-FlatMember (One e) rest) = is_constant e && members_constant rest
  members_constant (more_of-FlatMember (SpanOf span at) rest) = members_constant rest
