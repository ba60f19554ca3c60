-- Soundness: a plan of proof of a design, what a plan has to be, and that every unit holds in every run where no case has a violating path.
use Rattle.std.specs.Prelude.{◌≡◌, ◌<◌, ℕ, List, [], ◌++◌, map, take, length, slice_get, Option, Some, None, IfSome, Bool, true, false}
use Rattle.std.specs.List.{list_all}
use Rattle.smv_core.specs.Values.{Value, Sizes, truth, is_in}
use Rattle.smv_core.specs.Outcome.{is_true}
use Rattle.smv_core.specs.FlatMeaning.{Numbered, FlatState, values_in, flat_outcome, flat_allowed}
use Rattle.smv_core.specs.declared.flat.Claim.{Claim}
use Rattle.smv_core.specs.declared.flat.Class.{Class}
use Rattle.smv_core.specs.declared.flat.Def.{Def}
use Rattle.smv_core.specs.declared.flat.Family.{Family}
use Rattle.smv_core.specs.declared.flat.Guard.{Guard}
use Rattle.smv_core.specs.declared.flat.Keep.{Keep}
use Rattle.smv_core.specs.declared.flat.Param.{Param}
use Rattle.smv_core.specs.declared.flat.SetInfo.{SetInfo}
use Rattle.smv_core.specs.declared.flat.Simple.{Simple as FlatSimple}
use Rattle.law_obligations.specs.Sets.{Has, one_of_each}
use Rattle.law_obligations.specs.Places.{Place, is_named, world, named_in}
use Rattle.law_obligations.specs.May.{AbsState}
use Rattle.law_obligations.specs.Pictures.{KeepsNamed, IsAbsState}
use Rattle.law_obligations.specs.Circular.{Demand, always, is_violating}
use Rattle.law_obligations.specs.Obligations.{Demanded, defined, holds, AbstractProblem, obligation}
use Rattle.law_obligations.specs.LeafCases.{treatments_of, parameters_of, leaf_cases}
use Rattle.law_obligations.specs.Covers.{types_at, places_at, AreApart, IsIndexType}
use Rattle.law_obligations.specs.Guards.{AreGuards}
use Rattle.law_obligations.specs.Whole.{IsWhole, IsWholeDef}
use Rattle.law_obligations.specs.FlatConflicts.{IsConflictFree}

-- a unit: a refinement map, by the definition of a family in a layer, or a claim
pub data FlatUnit : Type 0 where
  map_of : Def → FlatUnit
  claim_of : Claim → FlatUnit

-- The proof of a leaf, the end of a unit's chain of splits: the unit, its parameters and then those that the splits add, the guards of the
-- splits, which parameters of each set type its choice keeps, and the problem of each case.
pub record LeafProof : Type 0 where
  pub unit : FlatUnit
  pub params : List Param
  pub guards : List Guard
  pub keeps : List Keep
  pub problem : List Class → AbstractProblem

-- a plan of proof of a design: its names, its base definitions, the leaf of each unit in flat order, and which unit uses which now and before, by their places
pub record ProofPlan : Type 0 where
  pub names : Numbered
  pub base : List Def
  pub leaves : List LeafProof
  pub uses_now : ℕ → ℕ → Bool
  pub uses_before : ℕ → ℕ → Bool

-- a design at these sizes
abbrev pub at_sizes : Numbered → Sizes → Numbered
at_sizes n sizes = record n { sizes = sizes }

-- each set type has a value, and one of a declared size has its size
abbrev pub AreSizes : Numbered → Sizes → Type 0
AreSizes n sizes = (info : SetInfo) → Has n.sets info → (0 < sizes info.name) × IfSome info.size (λ size. sizes info.name ≡ size)

-- the types of the indexes of a family, and its values
abbrev pub over_of : Option Family → List FlatSimple
over_of (Some f) = f.over
over_of None = []

abbrev pub values_of_family : Numbered → Option Family → List Value
values_of_family n (Some f) = values_in n f.value
values_of_family n None = []

module _ (n : Numbered) where
  -- the types of a unit's parameters: of a map the indexes of its family
  abbrev pub params_of : FlatUnit → List FlatSimple
  params_of (map_of def) = over_of (slice_get n.families def.family)
  params_of (claim_of claim) = map (λ p. p.over) claim.params

  -- one value for each parameter, in all ways
  abbrev pub values_over : List FlatSimple → List (List Value)
  values_over types = one_of_each (map (values_in n) types)

  -- an instance of a unit holds: of a map where the definition allows the element's value, of a claim where its body is 1
  abbrev pub is_held : FlatUnit → List Value → Demand FlatState
  is_held (map_of def) indexes before now =
      is_in (flat_allowed n def (record { family = def.family; indexes = indexes }) (values_of_family n (slice_get n.families def.family)) before now) (now def.family indexes)
  is_held (claim_of claim) values before now = is_true (truth (flat_outcome n now claim.body values))

  -- each base definition allows each element of its family its value
  abbrev pub meets_base : List Def → Demand FlatState
  meets_base base before now = list_all (λ def. list_all (λ indexes. is_held (map_of def) indexes before now) (values_over (params_of (map_of def)))) base

  -- a state gives each element a value of its type
  abbrev pub IsTyped : FlatState → Type 0
  IsTyped s = (family : ℕ) (f : Family) → slice_get n.families family ≡ Some f → (indexes : List Value) → Has (values_over f.over) indexes → Has (values_in n f.value) (s family indexes)

  -- states of the design, the earliest first, that keep to the base definitions at each time
  pub record IsRun (base : List Def) (run : List FlatState) : Type 0 where
    pub are_typed : (s : FlatState) → Has run s → IsTyped s
    pub keeps_base : always (meets_base base) None run ≡ true

  -- a type has a value
  abbrev pub HasValue : FlatSimple → Type 0
  HasValue t = (v : Value) × Has (values_in n t) v

-- every unit holds at every time of every run, for all sizes
abbrev pub IsSoundPlan : ProofPlan → Type 0
IsSoundPlan plan = (sizes : Sizes) → AreSizes plan.names sizes → (run : List FlatState) → IsRun (at_sizes plan.names sizes) plan.base run →
    (leaf : LeafProof) → Has plan.leaves leaf → (values : List Value) → Has (values_over (at_sizes plan.names sizes) (params_of plan.names leaf.unit)) values →
    always (is_held (at_sizes plan.names sizes) leaf.unit values) None run ≡ true

-- no case of any leaf has a violating path of abstract states
abbrev pub HasNoViolatingPath : ProofPlan → Type 0
HasNoViolatingPath plan = (leaf : LeafProof) → Has plan.leaves leaf → (classes : List Class) → Has (leaf_cases plan.names.sets leaf.params leaf.keeps) classes →
    (path : List AbsState) → ((a : AbsState) → Has path a → IsAbsState (leaf.problem classes).world (leaf.problem classes).kept a) → is_violating (obligation (leaf.problem classes)) path ≡ false

-- what a unit says at places of its parameters
abbrev pub said_at : FlatUnit → List Place → Demanded
said_at (map_of def) places = defined def places
said_at (claim_of claim) places = holds claim.body places

-- an element of a map is kept; a claim keeps none of its own
abbrev pub IsKept : AbstractProblem → FlatUnit → List Place → Type 0
IsKept p (map_of def) places = p.kept def.family places ≡ true
IsKept p (claim_of claim) places = Unit {0}

module _ (plan : ProofPlan) where
  -- a demand is what the unit says of one instance at numbers, constants and classes; the element of a map is kept
  pub record IsOf (p : AbstractProblem) (unit : FlatUnit) (d : Demanded) : Type 0 where
    pub places : List Place
    pub are_named : Has (one_of_each (map (named_in p.world) (params_of plan.names unit))) places
    pub is_kept : IsKept p unit places
    pub is_said : d ≡ said_at unit places

  -- a demand is granted by a base definition, or by a unit that is used
  pub data IsGranted (uses : ℕ → Bool) (p : AbstractProblem) (d : Demanded) : Type 0 where
    by_base : (def : Def) → Has plan.base def → IsOf p (map_of def) d → IsGranted uses p d
    by_use : (v : ℕ) → uses v ≡ true → (used : LeafProof) → slice_get plan.leaves v ≡ Some used → IsOf p used.unit d → IsGranted uses p d

  -- where the parameters of the unit itself stand
  abbrev pub own_places : LeafProof → AbstractProblem → List Place
  own_places leaf p = take (length (params_of plan.names leaf.unit)) p.params

  -- The problem of a case of the leaf at this place. It sees the design in the abstract types of the case, and the parameters at its classes.
  -- It keeps elements at numbers, constants and classes alone. Its target is the unit at its own parameters; the element of a map is kept if
  -- it is at numbers, constants and classes. Its guards are the leaf's. It demands no more than base definitions and what the unit uses.
  pub record IsCase (u : ℕ) (leaf : LeafProof) (classes : List Class) (p : AbstractProblem) : Type 0 where
    pub is_world : p.world ≡ world plan.names (types_at plan.names.sets (treatments_of leaf.keeps 0 plan.names.sets) (parameters_of leaf.keeps leaf.params) classes)
    pub are_params : p.params ≡ places_at plan.names (parameters_of leaf.keeps leaf.params) classes
    pub keeps_named : KeepsNamed p.world p.kept
    pub is_target : p.target ≡ said_at leaf.unit (own_places leaf p)
    pub keeps_target : list_all is_named (own_places leaf p) ≡ true → IsKept p leaf.unit (own_places leaf p)
    pub are_guards : p.guards ≡ leaf.guards
    pub now : (d : Demanded) → Has p.now d → IsGranted (plan.uses_now u) p d
    pub before : (d : Demanded) → Has p.before d → IsGranted (plan.uses_before u) p d

  -- a definition is one of a family, no two of its assignments conflict, and it reads whole elements
  pub record IsDefinition (def : Def) : Type 0 where
    pub family : Family
    pub is_family : slice_get plan.names.families def.family ≡ Some family
    pub is_conflict_free : IsConflictFree (length family.over) def
    pub is_whole : IsWholeDef plan.names.families def

  -- so is that of a map; a claim reads whole elements
  abbrev pub IsUnit : FlatUnit → Type 0
  IsUnit (map_of def) = IsDefinition def
  IsUnit (claim_of claim) = IsWhole plan.names.families claim.body

  -- the parameters of a leaf are the unit's and then those that are added, over ranges and set types, and its guards are of those that are added
  pub record IsLeaf (leaf : LeafProof) : Type 0 where
    pub is_unit : IsUnit leaf.unit
    pub added : List FlatSimple
    pub are_params : map (λ p. p.over) leaf.params ≡ params_of plan.names leaf.unit ++ added
    pub are_index_types : (p : Param) → Has leaf.params p → IsIndexType p.over
    pub are_guards : AreGuards (length (params_of plan.names leaf.unit)) (map (λ p. p.over) leaf.params) leaf.guards

  -- at sizes of the design the types of families and parameters have values
  pub record HaveValues (sizes : Sizes) : Type 0 where
    pub families : (f : Family) → Has plan.names.families f → HasValue (at_sizes plan.names sizes) f.value
    pub params : (leaf : LeafProof) → Has plan.leaves leaf → (p : Param) → Has leaf.params p → HasValue (at_sizes plan.names sizes) p.over

  -- what the passes before the search give of a plan; the uses that are now fall in some order
  pub record IsPlan : Type 0 where
    pub base : (def : Def) → Has plan.base def → IsDefinition def
    pub leaves : (leaf : LeafProof) → Has plan.leaves leaf → IsLeaf leaf
    pub order : ℕ → ℕ
    pub falls : (u v : ℕ) → plan.uses_now u v ≡ true → order v < order u
    pub are_cases : (u : ℕ) (leaf : LeafProof) → slice_get plan.leaves u ≡ Some leaf → (classes : List Class) → Has (leaf_cases plan.names.sets leaf.params leaf.keeps) classes →
        IsCase u leaf classes (leaf.problem classes)
    pub are_apart : AreApart plan.names.sets
    pub have_values : (sizes : Sizes) → AreSizes plan.names sizes → HaveValues sizes
