-- Cases in which each value of each set type is a class and nothing is beside the classes: what is asked of what is read there.
use Rattle.std.specs.Prelude.{◌≡◌, ◌<◌, ◌≤◌, ℕ, suc, List, map, Option, Some, None, true}
use Rattle.smv_core.specs.Values.{Name, Value, Sizes}
use Rattle.smv_core.specs.Assignments.{Index, fixed, bare, computed}
use Rattle.smv_core.specs.FlatMeaning.{Numbered, FlatState, flat_index}
use Rattle.smv_core.specs.declared.flat.Def.{Def}
use Rattle.smv_core.specs.declared.flat.Family.{Family}
use Rattle.smv_core.specs.declared.flat.DefBody.{DefBody, Nothing, Assign, If', First', Forall', Row_of-DefBody, end_of-DefBody, more_of-DefBody}
use Rattle.smv_core.specs.declared.flat.FlatMember.{One, Span as SpanOf}
use Rattle.smv_core.specs.declared.flat.FlatExpr.{FlatExpr, Choose', List', Each', Row_of-FlatMember, end_of-FlatMember, more_of-FlatMember}
use Rattle.smv_core.specs.declared.abstract_type.AbsType.{AbsType}
use Rattle.smv_core.specs.declared.abstract_type.Rest.TheVariants as beside
use Rattle.law_obligations.specs.Sets.{Has}
use Rattle.law_obligations.specs.Places.{named, World, world}
use Rattle.law_obligations.specs.May.{AbsState, Kept}
use Rattle.law_obligations.specs.Cones.{AbsElement}
use Rattle.law_obligations.specs.Whole.{IsWholeFlat}
use Rattle.smv_core.specs.Rows.{one_flat_expr}

-- each set type has its values as classes, and nothing beside them
abbrev pub whole : Sizes → Name → AbsType
whole sizes t = record { named = sizes t; rest = beside.None }

-- the design at its sizes as a case sees it
abbrev pub whole_world : Numbered → World
whole_world n = world n (whole n.sizes)

-- all these elements are kept
abbrev pub AreKept : Kept → List AbsElement → Type 0
AreKept kept xs = (x : AbsElement) → Has xs x → kept x.family x.indexes ≡ true

-- an abstract state shows a state: each kept element has its value
abbrev pub Shows : Kept → AbsState → FlatState → Type 0
Shows kept a s = (family : ℕ) (vs : List Value) → kept family (map named vs) ≡ true → a family (map named vs) ≡ named (s family vs)

-- so before, or at neither
abbrev pub ShowsBefore : Kept → Option AbsState → Option FlatState → Type 0
ShowsBefore kept None None = Unit {0}
ShowsBefore kept (Some a) (Some s) = Shows kept a s
ShowsBefore kept _ _ = ⊥

abbrev mutual
  -- no set, also as a branch
  pub IsNoSet : FlatExpr → Type 0
  IsNoSet (List' shape members at) = ⊥
  IsNoSet (Each' var over cond at) = ⊥
  IsNoSet (Choose' c cond l (one_flat_expr left) r (one_flat_expr right)) = IsNoSet left × IsNoSet right
  IsNoSet _ = Unit {0}

-- the members of a listed set are no sets, and there is one at least
abbrev pub AreNoSets : {m : _} → Row_of-FlatMember m → Type 0
AreNoSets end_of-FlatMember = Unit {0}
AreNoSets (more_of-FlatMember (One e) others) = IsNoSet e × AreNoSets others
AreNoSets (more_of-FlatMember (SpanOf span at) others) = AreNoSets others

abbrev pub HasMember : {m : _} → Row_of-FlatMember m → Type 0
HasMember end_of-FlatMember = ⊥
HasMember (more_of-FlatMember (One e) others) = Unit {0}
HasMember (more_of-FlatMember (SpanOf span at) others) = span.low ≤ span.high

-- a right side: a set, or what is none, also as branches
abbrev pub IsSide : FlatExpr → Type 0
IsSide (List' shape members at) = HasMember members × AreNoSets members
IsSide (Choose' c cond l (one_flat_expr left) r (one_flat_expr right)) = IsSide left × IsSide right
IsSide _ = Unit {0}

-- a variable that stands alone as an index is one of so many that are bound
abbrev pub IsBoundIndex : ℕ → Index → Type 0
IsBoundIndex around (fixed u) = Unit {0}
IsBoundIndex around (bare var) = var < around
IsBoundIndex around computed = Unit {0}

abbrev mutual
  -- under so many variables: each `forall` has the next number, the variables of left sides are bound, and each value is a right side
  pub IsExactPart : ℕ → DefBody → Type 0
  IsExactPart around Nothing = Unit {0}
  IsExactPart around (Assign left value place at) = ((e : FlatExpr) → Has left e → IsBoundIndex around (flat_index e)) × IsSide value
  IsExactPart around (If' cond l (more_of-DefBody left end_of-DefBody) r (more_of-DefBody right end_of-DefBody)) = IsExactPart around left × IsExactPart around right
  IsExactPart around (First' shape parts) = AreExactParts around parts
  IsExactPart around (Forall' var over shape (more_of-DefBody body end_of-DefBody)) = (var ≡ around) × IsExactPart (suc around) body

  pub AreExactParts : {m : _} → ℕ → Row_of-DefBody m → Type 0
  AreExactParts around end_of-DefBody = Unit {0}
  AreExactParts around (more_of-DefBody part others) = IsExactPart around part × AreExactParts around others

-- a definition of a family, which reads whole elements
pub record IsExactDef (families : List Family) (def : Def) : Type 0 where
  pub init : IsExactPart 0 def.init × IsWholeFlat families def.init
  pub next : IsExactPart 0 def.next × IsWholeFlat families def.next
  pub comb : IsExactPart 0 def.comb × IsWholeFlat families def.comb
