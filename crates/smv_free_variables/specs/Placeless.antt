-- An expression without the places of its parts in the text: two that stand at different places and are else the same have the same.
use Rattle.smv_core.specs.declared.flat.FlatMember.{FlatMember, One, Span as SpanOf}
use Rattle.smv_core.specs.declared.flat.FlatSigned.{FlatSigned, out-FlatSigned}
use Rattle.smv_core.specs.declared.flat.FlatExpr.{FlatExpr, Number, Read', Var, Loop, Constant, Not', And', Or', Implies', Iff', Compare', Within', Sum', Modulo', Choose', All', Any', List', Each', None', Some', Row_of-FlatExpr, end_of-FlatExpr, more_of-FlatExpr, Row_of-FlatMember, end_of-FlatMember, more_of-FlatMember, Row_of-FlatSigned, end_of-FlatSigned, more_of-FlatSigned}
use Rattle.smv_core.specs.Rows.{FlatCondition}

unfoldable mutual
  pub placeless : FlatExpr → FlatExpr
  placeless (Number value at) = Number value 0
  placeless (Read' family shape indexes at) = Read' family shape (placeless_each indexes) 0
  placeless (Var var at) = Var var 0
  placeless (Loop value at) = Loop value 0
  placeless (Constant list value at) = Constant list value 0
  placeless (Not' shape of at) = Not' shape (placeless_each of) 0
  placeless (And' shape parts) = And' shape (placeless_each parts)
  placeless (Or' shape parts) = Or' shape (placeless_each parts)
  placeless (Implies' shape parts) = Implies' shape (placeless_each parts)
  placeless (Iff' l left r right) = Iff' l (placeless_each left) r (placeless_each right)
  placeless (Compare' op l left r right) = Compare' op l (placeless_each left) r (placeless_each right)
  placeless (Within' l left r set) = Within' l (placeless_each left) r (placeless_each set)
  placeless (Sum' f head shape more) = Sum' f (placeless_each head) shape (placeless_signed more)
  placeless (Modulo' shape of by at) = Modulo' shape (placeless_each of) by 0
  placeless (Choose' c cond l left r right) = Choose' c (placeless_each cond) l (placeless_each left) r (placeless_each right)
  placeless (All' shape body var over at) = All' shape (placeless_each body) var over 0
  placeless (Any' shape body var over at) = Any' shape (placeless_each body) var over 0
  placeless (List' shape members at) = List' shape (placeless_members members) 0
  placeless (Each' var over cond at) = Each' var over (placeless_condition cond) 0

  pub placeless_each : {m : _} → Row_of-FlatExpr m → Row_of-FlatExpr m
  placeless_each end_of-FlatExpr = end_of-FlatExpr
  placeless_each (more_of-FlatExpr e others) = more_of-FlatExpr (placeless e) (placeless_each others)

  pub placeless_signed : {m : _} → Row_of-FlatSigned m → Row_of-FlatSigned m
  placeless_signed end_of-FlatSigned = end_of-FlatSigned
  placeless_signed (more_of-FlatSigned minus e others) = more_of-FlatSigned minus (placeless e) (placeless_signed others)

  pub placeless_members : {m : _} → Row_of-FlatMember m → Row_of-FlatMember m
  placeless_members end_of-FlatMember = end_of-FlatMember
  placeless_members (more_of-FlatMember (One e) others) = more_of-FlatMember (One (placeless e)) (placeless_members others)
  placeless_members (more_of-FlatMember (SpanOf span at) others) = more_of-FlatMember (SpanOf span 0) (placeless_members others)

  pub placeless_condition : FlatCondition → FlatCondition
  placeless_condition None' = None'
  placeless_condition (Some' shape cond) = Some' shape (placeless_each cond)

-- what a sum adds or takes away, and a member of a listed set
abbrev pub placeless_term : FlatSigned → FlatSigned
placeless_term x = record { minus = (out-FlatSigned x).minus; of = placeless (out-FlatSigned x).of }

abbrev pub placeless_member : FlatMember → FlatMember
placeless_member (One e) = One (placeless e)
placeless_member (SpanOf span at) = SpanOf span 0
