-- The assignments of a definition, each with what it reads.
use Rattle.std.specs.Prelude.{ℕ, List, [], ◌∷◌, ◌++◌, map, flat_map}
use Rattle.smv_core.specs.Assignments.{Index}
use Rattle.smv_core.specs.FlatMeaning.{flat_index}
use Rattle.smv_core.specs.declared.flat.FlatMember.{One, Span as SpanOf}
use Rattle.smv_core.specs.declared.flat.FlatExpr.{FlatExpr, Number, Read', Var, Loop, Constant, Not', And', Or', Implies', Iff', Compare', Within', Sum', Modulo', Choose', All', Any', List', Each', None', Some', Row_of-FlatExpr, end_of-FlatExpr, more_of-FlatExpr, Row_of-FlatMember, end_of-FlatMember, more_of-FlatMember, Row_of-FlatSigned, end_of-FlatSigned, more_of-FlatSigned}
use Rattle.smv_core.specs.declared.flat.DefBody.{DefBody, Nothing, Assign, If', First', Forall', Row_of-DefBody, end_of-DefBody, more_of-DefBody}
use Rattle.smv_core.specs.Rows.{one_flat_expr, FlatCondition}

-- ---- what an expression reads

-- a reference to a signal, by its family, its indexes and its offset
pub record Reference : Type 0 where
  pub family : ℕ
  pub indexes : List Index
  pub at : ℕ

-- the indexes of a reference
abbrev pub indexes_of : {m : _} → Row_of-FlatExpr m → List Index
indexes_of end_of-FlatExpr = []
indexes_of (more_of-FlatExpr e rest) = flat_index e ∷ indexes_of rest

abbrev mutual
  -- the references in an expression, also those in indexes
  pub references : FlatExpr → List Reference
  references (Number value at) = []
  references (Read' family shape indexes at) = record { family = family; indexes = indexes_of indexes; at = at } ∷ references_of indexes
  references (Var var at) = []
  references (Loop value at) = []
  references (Constant list value at) = []
  references (Not' shape (one_flat_expr e) at) = references e
  references (And' shape parts) = references_of parts
  references (Or' shape parts) = references_of parts
  references (Implies' shape parts) = references_of parts
  references (Iff' l (one_flat_expr left) r (one_flat_expr right)) = references left ++ references right
  references (Compare' op l (one_flat_expr left) r (one_flat_expr right)) = references left ++ references right
  references (Within' l (one_flat_expr left) r (one_flat_expr set)) = references left ++ references set
  references (Sum' f (one_flat_expr head) shape more) = references head ++ references_signed more
  references (Modulo' shape (one_flat_expr e) by at) = references e
  references (Choose' c (one_flat_expr cond) l (one_flat_expr left) r (one_flat_expr right)) = references cond ++ references left ++ references right
  references (All' shape (one_flat_expr body) var over at) = references body
  references (Any' shape (one_flat_expr body) var over at) = references body
  references (List' shape members at) = references_members members
  references (Each' var over cond at) = references_held cond

  pub references_of : {m : _} → Row_of-FlatExpr m → List Reference
  references_of end_of-FlatExpr = []
  references_of (more_of-FlatExpr e rest) = references e ++ references_of rest

  pub references_signed : {m : _} → Row_of-FlatSigned m → List Reference
  references_signed end_of-FlatSigned = []
  references_signed (more_of-FlatSigned minus e rest) = references e ++ references_signed rest

  pub references_members : {m : _} → Row_of-FlatMember m → List Reference
  references_members end_of-FlatMember = []
  references_members (more_of-FlatMember (One e) rest) = references e ++ references_members rest
  references_members (more_of-FlatMember (SpanOf span at) rest) = references_members rest

  pub references_held : FlatCondition → List Reference
  references_held None' = []
  references_held (Some' shape (one_flat_expr cond)) = references cond

-- ---- what an assignment reads

-- an assignment by its family and its left side's indexes, with what it reads in its value, its indexes and the conditions around it, its place in flat order and its offset
pub record Reading : Type 0 where
  pub family : ℕ
  pub left : List Index
  pub reads : List Reference
  pub place : ℕ
  pub at : ℕ

module _ (family : ℕ) where
  abbrev mutual
    -- the assignments of a part of the family's definition, where the conditions around it read this
    pub readings : List Reference → DefBody → List Reading
    readings around Nothing = []
    readings around (Assign left value place at) =
        record { family = family; left = map flat_index left; reads = around ++ flat_map references left ++ references value; place = place; at = at } ∷ []
    readings around (If' cond l (more_of-DefBody left end_of-DefBody) r (more_of-DefBody right end_of-DefBody)) = readings (around ++ references cond) left ++ readings (around ++ references cond) right
    readings around (First' shape parts) = readings_of around parts
    readings around (Forall' var over shape (more_of-DefBody body end_of-DefBody)) = readings around body

    pub readings_of : {m : _} → List Reference → Row_of-DefBody m → List Reading
    readings_of around end_of-DefBody = []
    readings_of around (more_of-DefBody part rest) = readings around part ++ readings_of around rest
