-- What the flat types mean: the same as the tree, with families, variables and constants by their numbers.
use Rattle.std.specs.Prelude.{ℕ, ◌+◌, ◌-◌, List, [], ◌∷◌, ◌++◌, map, zip, filter, take, get_or, slice_get, is_none, Option, Some, None, Bool, true, ◌&&◌, if◌then◌else◌, nat_eq, option_map, unwrap_or}
use Rattle.std.specs.List.{list_any, list_all}
use Rattle.smv_core.specs.Values.{Name, Value, number, constant, Simple, range, choice, scalarset, ordset, Sizes, Outcome, truth, bit, values_of, value_in, all_defined, equal, compare, add, modulo, numbers_from, not_of, iff_of, conjunction, disjunction, implication}
use Rattle.smv_core.specs.Outcome.{branch, fit, is_true}
use Rattle.smv_core.specs.Walk.{Walk, first, first_of, if_walk, is_other, same_kind}
use Rattle.smv_core.specs.Assignments.{Index, fixed, bare, computed, add_fixed, modulo_fixed, fits}
use Rattle.smv_core.specs.declared.tree.Kind.{Kind}
use Rattle.smv_core.specs.declared.flat.Simple.{Simple as FlatSimple}
use Rattle.smv_core.specs.declared.flat.Simple.TheVariants.{Range, Enum, Set}
use Rattle.smv_core.specs.declared.flat.SetInfo.{SetInfo}
use Rattle.smv_core.specs.declared.flat.Family.{Family}
use Rattle.smv_core.specs.declared.flat.Def.{Def}
use Rattle.smv_core.specs.declared.flat.FlatMember.{One, Span as SpanOf}
use Rattle.smv_core.specs.declared.flat.FlatExpr.{FlatExpr, Number, Read', Var, Loop, Constant, Not', And', Or', Implies', Iff', Compare', Within', Sum', Modulo', Choose', All', Any', List', Each', None', Some', Row_of-FlatExpr, end_of-FlatExpr, more_of-FlatExpr, Row_of-FlatMember, end_of-FlatMember, more_of-FlatMember, Row_of-FlatSigned, end_of-FlatSigned, more_of-FlatSigned}
use Rattle.smv_core.specs.declared.flat.FlatStmt.{FlatStmt, Assign, If', Block', Default', Forall', Row_of-FlatStmt, end_of-FlatStmt, more_of-FlatStmt}
use Rattle.smv_core.specs.declared.flat.DefBody.{DefBody, Nothing, First', Row_of-DefBody, end_of-DefBody, more_of-DefBody}
use Rattle.smv_core.specs.declared.flat.DefBody as flat
use Rattle.smv_core.specs.Rows.{one_flat_expr, one_flat_stmt, FlatCondition}

-- what the numbers in a flattened text stand for, at sizes
pub record Numbered : Type 0 where
  pub sets : List SetInfo
  pub enums : List (List Name)
  pub families : List Family
  pub sizes : Sizes

-- the value of each element, by its family's number and a value for each index
abbrev pub FlatState : Type 0
FlatState = ℕ → List Value → Value

-- the values of the variables that are bound, each at its number
abbrev pub FlatBindings : Type 0
FlatBindings = List Value

-- one more variable: those from its number on are no longer bound
abbrev pub bind : FlatBindings → ℕ → Value → FlatBindings
bind b var v = take var b ++ v ∷ []

-- an element, by its family's number
pub record FlatElement : Type 0 where
  pub family : ℕ
  pub indexes : List Value

-- a set type by its number
abbrev pub set_type : Option SetInfo → Simple
set_type (Some info) = if info.ordered then ordset info.name else scalarset info.name
set_type None = choice []

-- a type of one value by its numbers
abbrev pub simple_in : Numbered → FlatSimple → Simple
simple_in n (Range low high) = range low high
simple_in n (Enum list) = choice (get_or n.enums list [])
simple_in n (Set set) = set_type (slice_get n.sets set)

-- the values of a type
abbrev pub values_in : Numbered → FlatSimple → List Value
values_in n t = values_of n.sizes (simple_in n t)

-- the value of an element, Undefined where an index is outside its type
abbrev pub flat_element_at : Numbered → FlatState → ℕ → Option Family → List Outcome → Outcome
flat_element_at n s family None us = None
flat_element_at n s family (Some f) us = option_map (s family) (all_defined (map (λ (t, u). value_in (values_in n t) u) (zip f.over us)))

module _ (n : Numbered) (s : FlatState) where
  abbrev mutual
    -- the outcome of an expression
    pub flat_outcome : FlatExpr → FlatBindings → Outcome
    flat_outcome (Number value at) b = Some (number value)
    flat_outcome (Read' family shape indexes at) b = flat_element_at n s family (slice_get n.families family) (flat_outcomes indexes b)
    flat_outcome (Var var at) b = slice_get b var
    flat_outcome (Loop value at) b = Some (number value)
    flat_outcome (Constant list value at) b = option_map constant (slice_get (get_or n.enums list []) value)
    flat_outcome (Not' shape (one_flat_expr e) at) b = bit (not_of (truth (flat_outcome e b)))
    flat_outcome (And' shape parts) b = bit (conjunction (map truth (flat_outcomes parts b)))
    flat_outcome (Or' shape parts) b = bit (disjunction (map truth (flat_outcomes parts b)))
    flat_outcome (Implies' shape parts) b = bit (implication (map truth (flat_outcomes parts b)))
    flat_outcome (Iff' l (one_flat_expr left) r (one_flat_expr right)) b = bit (iff_of (truth (flat_outcome left b)) (truth (flat_outcome right b)))
    flat_outcome (Compare' op l (one_flat_expr left) r (one_flat_expr right)) b = bit (compare op (flat_outcome left b) (flat_outcome right b))
    flat_outcome (Within' l (one_flat_expr left) r (one_flat_expr set)) b = bit (disjunction (map (equal (flat_outcome left b)) (flat_listed set b)))
    flat_outcome (Sum' f (one_flat_expr head) shape more) b = flat_sum more (flat_outcome head b) b
    flat_outcome (Modulo' shape (one_flat_expr e) by at) b = modulo (flat_outcome e b) by
    flat_outcome (Choose' c (one_flat_expr cond) l (one_flat_expr left) r (one_flat_expr right)) b = branch None (truth (flat_outcome cond b)) (flat_outcome left b) (flat_outcome right b)
    flat_outcome (All' shape (one_flat_expr body) var over at) b = bit (conjunction (map (λ v. truth (flat_outcome body (bind b var v))) (values_in n over)))
    flat_outcome (Any' shape (one_flat_expr body) var over at) b = bit (disjunction (map (λ v. truth (flat_outcome body (bind b var v))) (values_in n over)))
    flat_outcome (List' shape members at) b = None
    flat_outcome (Each' var over cond at) b = None

    pub flat_outcomes : {m : _} → Row_of-FlatExpr m → FlatBindings → List Outcome
    flat_outcomes end_of-FlatExpr b = []
    flat_outcomes (more_of-FlatExpr e rest) b = flat_outcome e b ∷ flat_outcomes rest b

    pub flat_sum : {m : _} → Row_of-FlatSigned m → Outcome → FlatBindings → Outcome
    flat_sum end_of-FlatSigned u b = u
    flat_sum (more_of-FlatSigned minus e rest) u b = flat_sum rest (add minus u (flat_outcome e b)) b

    -- the outcomes of the members of a listed set
    pub flat_listed : FlatExpr → FlatBindings → List Outcome
    flat_listed (List' shape members at) b = flat_members members b
    flat_listed _ b = []

    pub flat_members : {m : _} → Row_of-FlatMember m → FlatBindings → List Outcome
    flat_members end_of-FlatMember b = []
    flat_members (more_of-FlatMember (One e) rest) b = flat_outcome e b ∷ flat_members rest b
    flat_members (more_of-FlatMember (SpanOf span at) rest) b = map (λ k. Some (number k)) (numbers_from span.low (span.high + 1 - span.low)) ++ flat_members rest b

  -- the condition of a comprehension is 1, or there is none
  abbrev pub flat_meets : FlatCondition → FlatBindings → Bool
  flat_meets None' b = true
  flat_meets (Some' shape (one_flat_expr cond)) b = is_true (truth (flat_outcome cond b))

  -- the values that a right side allows for a type with these values
  abbrev pub flat_allowed_by : List Value → FlatExpr → FlatBindings → List Value
  flat_allowed_by every (List' shape members at) b = fit every (flat_members members b)
  flat_allowed_by every (Each' var over cond at) b = fit every (map Some (filter (λ v. flat_meets cond (bind b var v)) (values_in n over)))
  flat_allowed_by every (Choose' c (one_flat_expr cond) l (one_flat_expr left) r (one_flat_expr right)) b =
      branch every (truth (flat_outcome cond b)) (flat_allowed_by every left b) (flat_allowed_by every right b)
  flat_allowed_by every e b = fit every (flat_outcome e b ∷ [])

  -- for this element, whose type has these values
  module _ (x : FlatElement) (every : List Value) where
    -- an assignment: no result for another element, everything where the element cannot be told, and else what the right side allows
    abbrev pub flat_assigned : List Outcome → FlatExpr → FlatBindings → Walk
    flat_assigned us value b =
        if list_any (λ (u, v). is_other u v) (zip us x.indexes) then None
        else if list_any is_none us then Some every
        else Some (flat_allowed_by every value b)

    abbrev mutual
      -- what a statement of the flattened text gives
      pub flat_walk : Kind → FlatStmt → FlatBindings → Walk
      flat_walk kind (Assign which family left value at) b =
          if same_kind which kind && nat_eq family x.family then flat_assigned (map (λ e. flat_outcome e b) left) value b else None
      flat_walk kind (If' cond l (one_flat_stmt left) r (one_flat_stmt right)) b = if_walk every (truth (flat_outcome cond b)) (flat_walk kind left b) (flat_walk kind right b)
      flat_walk kind (Block' shape parts) b = flat_walks kind parts b
      flat_walk kind (Default' l (one_flat_stmt left) r (one_flat_stmt right)) b = first_of (flat_walk kind right b) (flat_walk kind left b)
      flat_walk kind (Forall' var over shape (one_flat_stmt body)) b = first (map (λ v. flat_walk kind body (bind b var v)) (values_in n over))

      pub flat_walks : {m : _} → Kind → Row_of-FlatStmt m → FlatBindings → Walk
      flat_walks kind end_of-FlatStmt b = None
      flat_walks kind (more_of-FlatStmt part rest) b = first_of (flat_walk kind part b) (flat_walks kind rest b)

    abbrev mutual
      -- what a definition of the element's family gives
      pub flat_result : DefBody → FlatBindings → Walk
      flat_result Nothing b = None
      flat_result (flat.Assign left value place at) b = flat_assigned (map (λ e. flat_outcome e b) left) value b
      flat_result (flat.If' cond l (more_of-DefBody left end_of-DefBody) r (more_of-DefBody right end_of-DefBody)) b = if_walk every (truth (flat_outcome cond b)) (flat_result left b) (flat_result right b)
      flat_result (First' shape parts) b = flat_results parts b
      flat_result (flat.Forall' var over shape (more_of-DefBody body end_of-DefBody)) b = first (map (λ v. flat_result body (bind b var v)) (values_in n over))

      pub flat_results : {m : _} → Row_of-DefBody m → FlatBindings → Walk
      flat_results end_of-DefBody b = None
      flat_results (more_of-DefBody part rest) b = first_of (flat_result part b) (flat_results rest b)

-- an index of a left side: a constant, a variable of a `forall` alone, or another one
abbrev mutual
  pub flat_index : FlatExpr → Index
  flat_index (Number value at) = fixed (Some (number value))
  flat_index (Loop value at) = fixed (Some (number value))
  flat_index (Var var at) = bare var
  flat_index (Sum' f (one_flat_expr head) shape more) = flat_index_sum (flat_index head) more
  flat_index (Modulo' shape (one_flat_expr e) by at) = modulo_fixed (flat_index e) by
  flat_index _ = computed

  pub flat_index_sum : {m : _} → Index → Row_of-FlatSigned m → Index
  flat_index_sum i end_of-FlatSigned = i
  flat_index_sum i (more_of-FlatSigned minus e rest) = flat_index_sum (add_fixed minus i (flat_index e)) rest

-- the indexes of each assignment of a definition
abbrev mutual
  pub indexes_assigned : DefBody → List (List Index)
  indexes_assigned Nothing = []
  indexes_assigned (flat.Assign left value place at) = map flat_index left ∷ []
  indexes_assigned (flat.If' cond l (more_of-DefBody left end_of-DefBody) r (more_of-DefBody right end_of-DefBody)) = indexes_assigned left ++ indexes_assigned right
  indexes_assigned (First' shape parts) = indexes_assigned_in parts
  indexes_assigned (flat.Forall' var over shape (more_of-DefBody body end_of-DefBody)) = indexes_assigned body

  pub indexes_assigned_in : {m : _} → Row_of-DefBody m → List (List Index)
  indexes_assigned_in end_of-DefBody = []
  indexes_assigned_in (more_of-DefBody part rest) = indexes_assigned part ++ indexes_assigned_in rest

-- some assignment of the definition concerns the element
abbrev pub is_concerned_by : DefBody → FlatElement → Bool
is_concerned_by def x = list_any (λ is. list_all (λ (i, v). fits i v) (zip is x.indexes)) (indexes_assigned def)

module _ (n : Numbered) (def : Def) (x : FlatElement) (every : List Value) where
  -- what an element that no result of `next` fixes may be
  abbrev pub flat_kept : FlatState → List Value
  flat_kept old = if is_concerned_by def.next x then old x.family x.indexes ∷ [] else every

  -- at time 0, where there is no state before, and at a later time
  abbrev pub flat_stepped : Option FlatState → FlatState → List Value
  flat_stepped None now = unwrap_or (flat_result n now x every def.init []) every
  flat_stepped (Some old) now = unwrap_or (flat_result n old x every def.next []) (flat_kept old)

  -- the values that a definition of the element's family allows in the state now, after the state before
  abbrev pub flat_allowed : Option FlatState → FlatState → List Value
  flat_allowed before now = if is_concerned_by def.comb x then unwrap_or (flat_result n now x every def.comb []) every else flat_stepped before now
