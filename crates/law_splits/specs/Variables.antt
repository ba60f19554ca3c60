-- The variables of expressions: which are read, where, and other numbers for them.
use Rattle.std.specs.Prelude.{◌≡◌, ◌<◌, ℕ, suc, List, [], ◌∷◌, ◌++◌}
use Rattle.smv_core.specs.declared.flat.FlatMember.{One, Span as SpanOf}
use Rattle.smv_core.specs.declared.flat.FlatExpr.{FlatExpr, Number, Read', Var, Loop, Constant, Not', And', Or', Implies', Iff', Compare', Within', Sum', Modulo', Choose', All', Any', List', Each', None', Some', Row_of-FlatExpr, end_of-FlatExpr, more_of-FlatExpr, Row_of-FlatMember, end_of-FlatMember, more_of-FlatMember, Row_of-FlatSigned, end_of-FlatSigned, more_of-FlatSigned}
use Rattle.smv_core.specs.Rows.{one_flat_expr, FlatCondition}

-- a variable that is read, by its number and its place in the text
pub record Occurrence : Type 0 where
  pub var : ℕ
  pub at : ℕ

abbrev mutual
  -- the variables that an expression reads, those of its own binders too
  pub readings : FlatExpr → List Occurrence
  readings (Number value at) = []
  readings (Read' family shape indexes at) = readings_each indexes
  readings (Var var at) = record { var = var; at = at } ∷ []
  readings (Loop value at) = []
  readings (Constant list value at) = []
  readings (Not' shape (one_flat_expr e) at) = readings e
  readings (And' shape parts) = readings_each parts
  readings (Or' shape parts) = readings_each parts
  readings (Implies' shape parts) = readings_each parts
  readings (Iff' l (one_flat_expr left) r (one_flat_expr right)) = readings left ++ readings right
  readings (Compare' op l (one_flat_expr left) r (one_flat_expr right)) = readings left ++ readings right
  readings (Within' l (one_flat_expr left) r (one_flat_expr set)) = readings left ++ readings set
  readings (Sum' f (one_flat_expr head) shape more) = readings head ++ readings_signed more
  readings (Modulo' shape (one_flat_expr e) by at) = readings e
  readings (Choose' c (one_flat_expr cond) l (one_flat_expr left) r (one_flat_expr right)) =
      readings cond ++ readings left ++ readings right
  readings (All' shape (one_flat_expr body) var over at) = readings body
  readings (Any' shape (one_flat_expr body) var over at) = readings body
  readings (List' shape members at) = readings_members members
  readings (Each' var over cond at) = readings_held cond

  pub readings_each : {m : _} → Row_of-FlatExpr m → List Occurrence
  readings_each end_of-FlatExpr = []
  readings_each (more_of-FlatExpr e others) = readings e ++ readings_each others

  pub readings_signed : {m : _} → Row_of-FlatSigned m → List Occurrence
  readings_signed end_of-FlatSigned = []
  readings_signed (more_of-FlatSigned minus e others) = readings e ++ readings_signed others

  pub readings_members : {m : _} → Row_of-FlatMember m → List Occurrence
  readings_members end_of-FlatMember = []
  readings_members (more_of-FlatMember (One e) others) = readings e ++ readings_members others
  readings_members (more_of-FlatMember (SpanOf span at) others) = readings_members others

  pub readings_held : FlatCondition → List Occurrence
  readings_held None' = []
  readings_held (Some' shape (one_flat_expr cond)) = readings cond

-- the expression with other numbers for its variables, those of its own binders too
module _ (number : ℕ → ℕ) where
  abbrev mutual
    pub renamed : FlatExpr → FlatExpr
    renamed (Number value at) = Number value at
    renamed (Read' family shape indexes at) = Read' family shape (renamed_each indexes) at
    renamed (Var var at) = Var (number var) at
    renamed (Loop value at) = Loop value at
    renamed (Constant list value at) = Constant list value at
    renamed (Not' shape (one_flat_expr e) at) = Not' shape (one_flat_expr (renamed e)) at
    renamed (And' shape parts) = And' shape (renamed_each parts)
    renamed (Or' shape parts) = Or' shape (renamed_each parts)
    renamed (Implies' shape parts) = Implies' shape (renamed_each parts)
    renamed (Iff' l (one_flat_expr left) r (one_flat_expr right)) =
        Iff' l (one_flat_expr (renamed left)) r (one_flat_expr (renamed right))
    renamed (Compare' op l (one_flat_expr left) r (one_flat_expr right)) =
        Compare' op l (one_flat_expr (renamed left)) r (one_flat_expr (renamed right))
    renamed (Within' l (one_flat_expr left) r (one_flat_expr set)) =
        Within' l (one_flat_expr (renamed left)) r (one_flat_expr (renamed set))
    renamed (Sum' f (one_flat_expr head) shape more) = Sum' f (one_flat_expr (renamed head)) shape (renamed_signed more)
    renamed (Modulo' shape (one_flat_expr e) by at) = Modulo' shape (one_flat_expr (renamed e)) by at
    renamed (Choose' c (one_flat_expr cond) l (one_flat_expr left) r (one_flat_expr right)) =
        Choose' c (one_flat_expr (renamed cond)) l (one_flat_expr (renamed left)) r (one_flat_expr (renamed right))
    renamed (All' shape (one_flat_expr body) var over at) = All' shape (one_flat_expr (renamed body)) (number var) over at
    renamed (Any' shape (one_flat_expr body) var over at) = Any' shape (one_flat_expr (renamed body)) (number var) over at
    renamed (List' shape members at) = List' shape (renamed_members members) at
    renamed (Each' var over cond at) = Each' (number var) over (renamed_held cond) at

    pub renamed_each : {m : _} → Row_of-FlatExpr m → Row_of-FlatExpr m
    renamed_each end_of-FlatExpr = end_of-FlatExpr
    renamed_each (more_of-FlatExpr e others) = more_of-FlatExpr (renamed e) (renamed_each others)

    pub renamed_signed : {m : _} → Row_of-FlatSigned m → Row_of-FlatSigned m
    renamed_signed end_of-FlatSigned = end_of-FlatSigned
    renamed_signed (more_of-FlatSigned minus e others) = more_of-FlatSigned minus (renamed e) (renamed_signed others)

    pub renamed_members : {m : _} → Row_of-FlatMember m → Row_of-FlatMember m
    renamed_members end_of-FlatMember = end_of-FlatMember
    renamed_members (more_of-FlatMember (One e) others) = more_of-FlatMember (One (renamed e)) (renamed_members others)
    renamed_members (more_of-FlatMember (SpanOf span at) others) = more_of-FlatMember (SpanOf span at) (renamed_members others)

    pub renamed_held : FlatCondition → FlatCondition
    renamed_held None' = None'
    renamed_held (Some' shape (one_flat_expr cond)) = Some' shape (one_flat_expr (renamed cond))

abbrev mutual
  -- inside so many variables: each that is read is bound, and each binder has as its number how many are bound around it
  pub IsNumbered : ℕ → FlatExpr → Type 0
  IsNumbered around (Number value at) = Unit {0}
  IsNumbered around (Read' family shape indexes at) = AreNumbered around indexes
  IsNumbered around (Var var at) = var < around
  IsNumbered around (Loop value at) = Unit {0}
  IsNumbered around (Constant list value at) = Unit {0}
  IsNumbered around (Not' shape (one_flat_expr e) at) = IsNumbered around e
  IsNumbered around (And' shape parts) = AreNumbered around parts
  IsNumbered around (Or' shape parts) = AreNumbered around parts
  IsNumbered around (Implies' shape parts) = AreNumbered around parts
  IsNumbered around (Iff' l (one_flat_expr left) r (one_flat_expr right)) = IsNumbered around left × IsNumbered around right
  IsNumbered around (Compare' op l (one_flat_expr left) r (one_flat_expr right)) = IsNumbered around left × IsNumbered around right
  IsNumbered around (Within' l (one_flat_expr left) r (one_flat_expr set)) = IsNumbered around left × IsNumbered around set
  IsNumbered around (Sum' f (one_flat_expr head) shape more) = IsNumbered around head × AreSignedNumbered around more
  IsNumbered around (Modulo' shape (one_flat_expr e) by at) = IsNumbered around e
  IsNumbered around (Choose' c (one_flat_expr cond) l (one_flat_expr left) r (one_flat_expr right)) =
      IsNumbered around cond × IsNumbered around left × IsNumbered around right
  IsNumbered around (All' shape (one_flat_expr body) var over at) = (var ≡ around) × IsNumbered (suc around) body
  IsNumbered around (Any' shape (one_flat_expr body) var over at) = (var ≡ around) × IsNumbered (suc around) body
  IsNumbered around (List' shape members at) = AreMembersNumbered around members
  IsNumbered around (Each' var over cond at) = (var ≡ around) × IsHeldNumbered (suc around) cond

  pub AreNumbered : {m : _} → ℕ → Row_of-FlatExpr m → Type 0
  AreNumbered around end_of-FlatExpr = Unit {0}
  AreNumbered around (more_of-FlatExpr e others) = IsNumbered around e × AreNumbered around others

  pub AreSignedNumbered : {m : _} → ℕ → Row_of-FlatSigned m → Type 0
  AreSignedNumbered around end_of-FlatSigned = Unit {0}
  AreSignedNumbered around (more_of-FlatSigned minus e others) = IsNumbered around e × AreSignedNumbered around others

  pub AreMembersNumbered : {m : _} → ℕ → Row_of-FlatMember m → Type 0
  AreMembersNumbered around end_of-FlatMember = Unit {0}
  AreMembersNumbered around (more_of-FlatMember (One e) others) = IsNumbered around e × AreMembersNumbered around others
  AreMembersNumbered around (more_of-FlatMember (SpanOf span at) others) = AreMembersNumbered around others

  pub IsHeldNumbered : ℕ → FlatCondition → Type 0
  IsHeldNumbered around None' = Unit {0}
  IsHeldNumbered around (Some' shape (one_flat_expr cond)) = IsNumbered around cond
