-- When the flattened text stands for the tree: the same numbers, the same state, the same values of variables.
use Rattle.std.specs.Prelude.{◌≡◌, ℕ, List, [], ◌∷◌, ◌++◌, map, Option, Some, None, true, slice_get}
use Rattle.std.specs.Str.{bytes_eq}
use Rattle.std.specs.List.{list_any}
use Rattle.smv_core.specs.Values.{Path, Value, Sizes}
use Rattle.smv_core.specs.Types.{Family}
use Rattle.smv_core.specs.Outcome.{State, Bindings, fields_of, family_at}
use Rattle.smv_core.specs.Walk.{Element, indexes_of}
use Rattle.smv_core.specs.Assignments.{Around, loop, any}
use Rattle.smv_core.specs.FlatMeaning.{Numbered, FlatState, FlatBindings, FlatElement, simple_in}
use Rattle.smv_core.specs.declared.tree.TypeExpr.{TypeExpr, Boolean, Range, Named}
use Rattle.smv_core.specs.declared.tree.Part.{Field, At}
use Rattle.smv_core.specs.declared.tree.Path.{out-Path}
use Rattle.smv_core.specs.declared.tree.Member.{One, Span as SpanOf}
use Rattle.smv_core.specs.declared.tree.Expr.{Expr, Number, Signal', Not', And', Or', Implies', Iff', Compare', Within', Sum', Modulo', Choose', All', Any', List', Each', None', Some', Row_of-Expr, end_of-Expr, more_of-Expr, Row_of-Part, end_of-Part, more_of-Part, Row_of-Member, end_of-Member, more_of-Member, Row_of-Signed, end_of-Signed, more_of-Signed, items-the_row-Part}
use Rattle.smv_core.specs.declared.tree.Stmt.{Stmt, Assign, Block', If', Switch', Default', For', Forall', Row_of-Stmt, end_of-Stmt, more_of-Stmt, Row_of-Arm, end_of-Arm, more_of-Arm}
use Rattle.smv_core.specs.declared.tree.Stmt as stmt
use Rattle.smv_core.specs.declared.flat.FlatExpr.{FlatExpr}
use Rattle.smv_core.specs.declared.flat.FlatText.{FlatText}
use Rattle.smv_core.specs.declared.tree.Text.{Text}
use Rattle.law_designs.specs.Numbers.{Scope, family_number, variable_at}
use Rattle.law_designs.specs.Flattening.{flatten, dotted}
use Rattle.smv_core.specs.declared.flat.Family.{Family as FlatFamily}
use Rattle.smv_core.specs.Rows.{one_expr, one_stmt, Condition, Otherwise}

-- what the numbers in a flattened text stand for, at sizes
abbrev pub numbers_of : FlatText → Sizes → Numbered
numbers_of flat_text sizes = record { sets = flat_text.sets; enums = flat_text.enums; families = flat_text.families; sizes = sizes }

-- two states give each family of the list the same values
abbrev pub AreSameStates : List Family → State → FlatState → Type 0
AreSameStates families s t = (k : ℕ) (f : Family) → slice_get families k ≡ Some f → (vs : List Value) → t k vs ≡ s f.path vs

-- the values of the variables of `forall`s, each at its number, where these are the bound variables
abbrev pub values_bound : Around → Bindings → FlatBindings
values_bound ((name, any) ∷ vars) ((other, v) ∷ b) = values_bound vars b ++ v ∷ []
values_bound ((name, loop n) ∷ vars) ((other, v) ∷ b) = values_bound vars b
values_bound _ _ = []

-- a type as the grammar has it behind a binder
abbrev pub IsIndexType : TypeExpr → Type 0
IsIndexType Boolean = Unit {0}
IsIndexType (Range span at) = Unit {0}
IsIndexType (Named word at) = Unit {0}
IsIndexType _ = ⊥

module _ (scope : Scope) where
  -- the element of the same family
  abbrev pub flat_element : Element → FlatElement
  flat_element x = record { family = family_number scope x.path; indexes = x.indexes }

  -- some enumeration lists the constant
  abbrev pub IsConstant : Path → Type 0
  IsConstant (name ∷ []) = list_any (list_any (bytes_eq name)) scope.enums ≡ true
  IsConstant _ = Unit {0}

  -- a name that is neither a variable nor a signal is a constant
  abbrev pub IsKnown : Option FlatExpr → Option Family → Path → Type 0
  IsKnown None None path = IsConstant path
  IsKnown _ _ _ = Unit {0}

  abbrev mutual
    -- each name that an expression reads inside these variables is known, and each of its binders has a type as the grammar has it
    pub IsRight : Around → Expr → Type 0
    IsRight vars (Number value at) = Unit {0}
    IsRight vars (Signal' shape parts at) =
        let path = fields_of (items-the_row-Part _ parts) in
        IsKnown (variable_at vars path at) (family_at scope.families (scope.instance ++ path)) path × IndexesAreRight vars parts
    IsRight vars (Not' shape (one_expr e) at) = IsRight vars e
    IsRight vars (And' shape parts) = PartsAreRight vars parts
    IsRight vars (Or' shape parts) = PartsAreRight vars parts
    IsRight vars (Implies' shape parts) = PartsAreRight vars parts
    IsRight vars (Iff' l (one_expr left) r (one_expr right)) = IsRight vars left × IsRight vars right
    IsRight vars (Compare' op l (one_expr left) r (one_expr right)) = IsRight vars left × IsRight vars right
    IsRight vars (Within' l (one_expr left) r (one_expr set)) = IsRight vars left × IsRight vars set
    IsRight vars (Sum' f (one_expr first) shape more) = IsRight vars first × TermsAreRight vars more
    IsRight vars (Modulo' shape (one_expr e) by at) = IsRight vars e
    IsRight vars (Choose' c (one_expr cond) l (one_expr left) r (one_expr right)) = IsRight vars cond × IsRight vars left × IsRight vars right
    IsRight vars (All' shape (one_expr body) var over at) = IsRight ((var.name, any) ∷ vars) body × IsIndexType over
    IsRight vars (Any' shape (one_expr body) var over at) = IsRight ((var.name, any) ∷ vars) body × IsIndexType over
    IsRight vars (List' shape members at) = MembersAreRight vars members
    IsRight vars (Each' var over cond at) = ConditionIsRight ((var.name, any) ∷ vars) cond × IsIndexType over

    pub PartsAreRight : {m : _} → Around → Row_of-Expr m → Type 0
    PartsAreRight vars end_of-Expr = Unit {0}
    PartsAreRight vars (more_of-Expr e rest) = IsRight vars e × PartsAreRight vars rest

    pub IndexesAreRight : {m : _} → Around → Row_of-Part m → Type 0
    IndexesAreRight vars end_of-Part = Unit {0}
    IndexesAreRight vars (more_of-Part (Field word) rest) = IndexesAreRight vars rest
    IndexesAreRight vars (more_of-Part (At index) rest) = IsRight vars index × IndexesAreRight vars rest

    pub TermsAreRight : {m : _} → Around → Row_of-Signed m → Type 0
    TermsAreRight vars end_of-Signed = Unit {0}
    TermsAreRight vars (more_of-Signed minus e rest) = IsRight vars e × TermsAreRight vars rest

    pub MembersAreRight : {m : _} → Around → Row_of-Member m → Type 0
    MembersAreRight vars end_of-Member = Unit {0}
    MembersAreRight vars (more_of-Member (One e) rest) = IsRight vars e × MembersAreRight vars rest
    MembersAreRight vars (more_of-Member (SpanOf span at) rest) = MembersAreRight vars rest

    pub ConditionIsRight : Around → Condition → Type 0
    ConditionIsRight vars None' = Unit {0}
    ConditionIsRight vars (Some' shape (one_expr cond)) = IsRight vars cond

  abbrev pub AreRight : Around → List Expr → Type 0
  AreRight vars [] = Unit {0}
  AreRight vars (e ∷ es) = IsRight vars e × AreRight vars es

  abbrev mutual
    -- the same of each expression in a statement, and of the types of its binders
    pub StatementIsRight : Around → Stmt → Type 0
    StatementIsRight vars (Assign kind left value at) = AreRight vars (indexes_of (out-Path left).parts) × IsRight vars value
    StatementIsRight vars (Block' shape parts) = StatementsAreRight vars parts
    StatementIsRight vars (If' cond l (one_stmt left) right at) = IsRight vars cond × StatementIsRight vars left × BranchIsRight vars right
    StatementIsRight vars (Switch' on shape arms other at) = IsRight vars on × ArmsAreRight vars arms × BranchIsRight vars other
    StatementIsRight vars (Default' l (one_stmt left) r (one_stmt right) at) = StatementIsRight vars left × StatementIsRight vars right
    StatementIsRight vars (For' var from to closed step shape (one_stmt body) at) = (k : ℕ) → StatementIsRight ((var.name, loop k) ∷ vars) body
    StatementIsRight vars (Forall' var over shape (one_stmt body) at) = StatementIsRight ((var.name, any) ∷ vars) body × IsIndexType over

    pub StatementsAreRight : {m : _} → Around → Row_of-Stmt m → Type 0
    StatementsAreRight vars end_of-Stmt = Unit {0}
    StatementsAreRight vars (more_of-Stmt part rest) = StatementIsRight vars part × StatementsAreRight vars rest

    pub BranchIsRight : Around → Otherwise → Type 0
    BranchIsRight vars stmt.None' = Unit {0}
    BranchIsRight vars (stmt.Some' shape (one_stmt part)) = StatementIsRight vars part

    pub ArmsAreRight : {m : _} → Around → Row_of-Arm m → Type 0
    ArmsAreRight vars end_of-Arm = Unit {0}
    ArmsAreRight vars (more_of-Arm labels body rest) = AreRight vars labels × StatementIsRight vars body × ArmsAreRight vars rest

-- what the numbers in a text's flattened form stand for
abbrev pub numbers_in : Text → Sizes → Numbered
numbers_in text sizes = numbers_of (flatten text) sizes

-- a flattened family has the dotted name of the family, the same types and the same role
abbrev pub IsSameFamily : Numbered → FlatFamily → Family → Type 0
IsSameFamily n f g = (f.name ≡ dotted g.path) × (map (simple_in n) f.over ≡ g.over) × (simple_in n f.value ≡ g.value) × (f.is_abstract ≡ g.is_abstract)
