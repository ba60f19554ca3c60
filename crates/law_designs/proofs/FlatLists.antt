-- What flattened expressions and statements mean that are made of lists and values.
use Rattle.std.proofs.Common.{◌≡◌, ℕ, ◌+◌, ◌-◌, List, [], ◌∷◌, ◌++◌, map, filter, Some, None, slice_get, true, refl, ap, ◌∙◌}
use Rattle.std.specs.List.{flat_map}
use Rattle.smv_core.specs.Values.{Value, Outcome, number, numbers_from, truth, bit, add, modulo, not_of, iff_of, conjunction, disjunction, implication, equal, compare}
use Rattle.smv_core.specs.Outcome.{branch, fit, is_true}
use Rattle.smv_core.specs.Walk.{first, first_of, if_walk}
use Rattle.smv_core.specs.FlatMeaning.{Numbered, FlatState, FlatBindings, FlatElement, bind, values_in, flat_element_at, flat_outcome, flat_outcomes, flat_sum, flat_listed, flat_members, flat_allowed_by, flat_walk, flat_walks}
use Rattle.smv_core.specs.declared.tree.Kind.{Kind}
use Rattle.smv_core.specs.declared.tree.Op.{Op}
use Rattle.smv_core.specs.declared.flat.Simple.{Simple}
use Rattle.smv_core.specs.declared.flat.FlatSigned.{FlatSigned, out-FlatSigned}
use Rattle.smv_core.specs.declared.flat.FlatMember.{FlatMember, One, Span as SpanOf}
use Rattle.smv_core.specs.declared.flat.FlatExpr.{FlatExpr, Not, Iff, Compare, Within, Modulo, Choose, All, Any, Each, Read, Read', And, And', Or, Or', Implies, Implies', Sum, Sum', List as ListOf, List', Row_of-FlatExpr, end_of-FlatExpr, more_of-FlatExpr, Row_of-FlatMember, end_of-FlatMember, more_of-FlatMember, Row_of-FlatSigned, end_of-FlatSigned, more_of-FlatSigned, items-the_row-FlatExpr, items-the_row-FlatMember, items-the_row-FlatSigned, items_hidden-the_row-FlatExpr-0, items_hidden-the_row-FlatSigned-2, items_hidden-the_row-FlatMember-3}
use Rattle.smv_core.specs.declared.flat.FlatStmt.{FlatStmt, If, Default, Forall, Block, Block', Row_of-FlatStmt, end_of-FlatStmt, more_of-FlatStmt, items-the_row-FlatStmt, items_hidden-the_row-FlatStmt-1}
use mathlib.Core.Former.{Count}

-- what lets a box of a flattened expression or statement compute
unfoldable pub boxes : Unit {0}
unfolding Rattle.smv_core.specs.declared.flat.FlatExpr.TheBlock.hidden-the_row-FlatExpr-1 Rattle.smv_core.specs.declared.flat.FlatExpr.TheBlock.shape-the_row-FlatExpr-1 Rattle.smv_core.specs.declared.flat.FlatStmt.TheBlock.hidden-the_row-FlatStmt-0 Rattle.smv_core.specs.declared.flat.FlatStmt.TheBlock.shape-the_row-FlatStmt-0 denote.Hole.Carrier.hidden
boxes = tt

module _ (n : Numbered) (s : FlatState) where
  outcomes-row : (k : _) (row : Row_of-FlatExpr k) (b : FlatBindings) → flat_outcomes n s row b ≡ map (λ e. flat_outcome n s e b) (items-the_row-FlatExpr k row)
  outcomes-row k end_of-FlatExpr b = refl
  outcomes-row k (more_of-FlatExpr e rest) b = ap (λ l. flat_outcome n s e b ∷ l) (outcomes-row _ rest b)

  -- a member stands for its value or for the numbers of its span
  abbrev pub member_outcomes : FlatBindings → FlatMember → List Outcome
  member_outcomes b (One e) = flat_outcome n s e b ∷ []
  member_outcomes b (SpanOf span at) = map (λ k. Some (number k)) (numbers_from span.low (span.high + 1 - span.low))

  members-row : (k : _) (row : Row_of-FlatMember k) (b : FlatBindings) → flat_members n s row b ≡ flat_map (member_outcomes b) (items-the_row-FlatMember k row)
  members-row k end_of-FlatMember b = refl
  members-row k (more_of-FlatMember (One e) rest) b = ap (λ l. flat_outcome n s e b ∷ l) (members-row _ rest b)
  members-row k (more_of-FlatMember (SpanOf span at) rest) b = ap (λ l. map (λ k. Some (number k)) (numbers_from span.low (span.high + 1 - span.low)) ++ l) (members-row _ rest b)

  -- from the left
  abbrev pub sum_of : FlatBindings → List FlatSigned → Outcome → Outcome
  sum_of b [] u = u
  sum_of b (x ∷ xs) u = sum_of b xs (add (out-FlatSigned x).minus u (flat_outcome n s (out-FlatSigned x).of b))

  sum-row : (k : _) (row : Row_of-FlatSigned k) (u : Outcome) (b : FlatBindings) → flat_sum n s row u b ≡ sum_of b (items-the_row-FlatSigned k row) u
  sum-row k end_of-FlatSigned u b = refl
  sum-row k (more_of-FlatSigned minus e rest) u b = sum-row _ rest (add minus u (flat_outcome n s e b)) b

  abbrev exprs_of : FlatExpr → (k : Count) × Row_of-FlatExpr k
  exprs_of (Read' family shape row at) = (_, row)
  exprs_of (And' shape row) = (_, row)
  exprs_of (Or' shape row) = (_, row)
  exprs_of (Implies' shape row) = (_, row)
  exprs_of _ = (_, end_of-FlatExpr)

  abbrev members_in : FlatExpr → (k : Count) × Row_of-FlatMember k
  members_in (List' shape row at) = (_, row)
  members_in _ = (_, end_of-FlatMember)

  abbrev signed_in : FlatExpr → (k : Count) × Row_of-FlatSigned k
  signed_in (Sum' f head shape row) = (_, row)
  signed_in _ = (_, end_of-FlatSigned)

  abbrev pub each_outcome : FlatBindings → List FlatExpr → List Outcome
  each_outcome b es = map (λ e. flat_outcome n s e b) es

  pub outcome-Read : (family : ℕ) (es : List FlatExpr) (at : ℕ) (b : FlatBindings) → flat_outcome n s (Read family es at) b ≡ flat_element_at n s family (slice_get n.families family) (each_outcome b es)
  outcome-Read family es at b =
      let row : (k : Count) × Row_of-FlatExpr k = exprs_of (Read family es at) in
      ap (λ l. flat_element_at n s family (slice_get n.families family) l) (outcomes-row row.0 row.1 b ∙ ap (each_outcome b) (items_hidden-the_row-FlatExpr-0 es))

  pub outcome-And : (es : List FlatExpr) (b : FlatBindings) → flat_outcome n s (And es) b ≡ bit (conjunction (map truth (each_outcome b es)))
  outcome-And es b =
      let row : (k : Count) × Row_of-FlatExpr k = exprs_of (And es) in
      ap (λ l. bit (conjunction (map truth l))) (outcomes-row row.0 row.1 b ∙ ap (each_outcome b) (items_hidden-the_row-FlatExpr-0 es))

  pub outcome-Or : (es : List FlatExpr) (b : FlatBindings) → flat_outcome n s (Or es) b ≡ bit (disjunction (map truth (each_outcome b es)))
  outcome-Or es b =
      let row : (k : Count) × Row_of-FlatExpr k = exprs_of (Or es) in
      ap (λ l. bit (disjunction (map truth l))) (outcomes-row row.0 row.1 b ∙ ap (each_outcome b) (items_hidden-the_row-FlatExpr-0 es))

  pub outcome-Implies : (es : List FlatExpr) (b : FlatBindings) → flat_outcome n s (Implies es) b ≡ bit (implication (map truth (each_outcome b es)))
  outcome-Implies es b =
      let row : (k : Count) × Row_of-FlatExpr k = exprs_of (Implies es) in
      ap (λ l. bit (implication (map truth l))) (outcomes-row row.0 row.1 b ∙ ap (each_outcome b) (items_hidden-the_row-FlatExpr-0 es))

  pub listed-List : (ms : List FlatMember) (at : ℕ) (b : FlatBindings) → flat_listed n s (ListOf ms at) b ≡ flat_map (member_outcomes b) ms
  listed-List ms at b =
      let row : (k : Count) × Row_of-FlatMember k = members_in (ListOf ms at) in
      members-row row.0 row.1 b ∙ ap (flat_map (member_outcomes b)) (items_hidden-the_row-FlatMember-3 ms)

  pub outcome-Sum : (head : FlatExpr) (more : List FlatSigned) (b : FlatBindings) → flat_outcome n s (Sum head more) b ≡ sum_of b more (flat_outcome n s head b)
  unfolding boxes
  outcome-Sum head more b =
      let row : (k : Count) × Row_of-FlatSigned k = signed_in (Sum head more) in
      sum-row row.0 row.1 (flat_outcome n s head b) b ∙ ap (λ l. sum_of b l (flat_outcome n s head b)) (items_hidden-the_row-FlatSigned-2 more)

  -- ---- boxes

  pub outcome-Not : (e : FlatExpr) (at : ℕ) (b : FlatBindings) → flat_outcome n s (Not e at) b ≡ bit (not_of (truth (flat_outcome n s e b)))
  unfolding boxes
  outcome-Not e at b = refl

  pub outcome-Iff : (l r : FlatExpr) (b : FlatBindings) → flat_outcome n s (Iff l r) b ≡ bit (iff_of (truth (flat_outcome n s l b)) (truth (flat_outcome n s r b)))
  unfolding boxes
  outcome-Iff l r b = refl

  pub outcome-Compare : (op : Op) (l r : FlatExpr) (b : FlatBindings) → flat_outcome n s (Compare op l r) b ≡ bit (compare op (flat_outcome n s l b) (flat_outcome n s r b))
  unfolding boxes
  outcome-Compare op l r b = refl

  pub outcome-Within : (l r : FlatExpr) (b : FlatBindings) → flat_outcome n s (Within l r) b ≡ bit (disjunction (map (equal (flat_outcome n s l b)) (flat_listed n s r b)))
  unfolding boxes
  outcome-Within l r b = refl

  pub outcome-Modulo : (e : FlatExpr) (by at : ℕ) (b : FlatBindings) → flat_outcome n s (Modulo e by at) b ≡ modulo (flat_outcome n s e b) by
  unfolding boxes
  outcome-Modulo e by at b = refl

  pub outcome-Choose : (c l r : FlatExpr) (b : FlatBindings) → flat_outcome n s (Choose c l r) b ≡ branch None (truth (flat_outcome n s c b)) (flat_outcome n s l b) (flat_outcome n s r b)
  unfolding boxes
  outcome-Choose c l r b = refl

  pub outcome-All : (body : FlatExpr) (var : ℕ) (over : Simple) (at : ℕ) (b : FlatBindings) → flat_outcome n s (All body var over at) b ≡ bit (conjunction (map (λ v. truth (flat_outcome n s body (bind b var v))) (values_in n over)))
  unfolding boxes
  outcome-All body var over at b = refl

  pub outcome-Any : (body : FlatExpr) (var : ℕ) (over : Simple) (at : ℕ) (b : FlatBindings) → flat_outcome n s (Any body var over at) b ≡ bit (disjunction (map (λ v. truth (flat_outcome n s body (bind b var v))) (values_in n over)))
  unfolding boxes
  outcome-Any body var over at b = refl

  -- ---- right sides

  pub allowed-List : (every : List Value) (ms : List FlatMember) (at : ℕ) (b : FlatBindings) → flat_allowed_by n s every (ListOf ms at) b ≡ fit every (flat_map (member_outcomes b) ms)
  allowed-List every ms at b =
      let row : (k : Count) × Row_of-FlatMember k = members_in (ListOf ms at) in
      ap (fit every) (members-row row.0 row.1 b ∙ ap (flat_map (member_outcomes b)) (items_hidden-the_row-FlatMember-3 ms))

  pub allowed-Choose : (every : List Value) (c l r : FlatExpr) (b : FlatBindings) → flat_allowed_by n s every (Choose c l r) b ≡ branch every (truth (flat_outcome n s c b)) (flat_allowed_by n s every l b) (flat_allowed_by n s every r b)
  unfolding boxes
  allowed-Choose every c l r b = refl

  pub allowed-Each : (every : List Value) (var : ℕ) (over : Simple) (at : ℕ) (b : FlatBindings) → flat_allowed_by n s every (Each var over None at) b ≡ fit every (map Some (filter (λ v. true) (values_in n over)))
  unfolding boxes
  allowed-Each every var over at b = refl

  pub allowed-Each_if : (every : List Value) (var : ℕ) (over : Simple) (cond : FlatExpr) (at : ℕ) (b : FlatBindings) →
      flat_allowed_by n s every (Each var over (Some cond) at) b ≡ fit every (map Some (filter (λ v. is_true (truth (flat_outcome n s cond (bind b var v)))) (values_in n over)))
  unfolding boxes
  allowed-Each_if every var over cond at b = refl

  -- ---- statements

  module _ (x : FlatElement) (every : List Value) (kind : Kind) where
    walks-row : (k : _) (row : Row_of-FlatStmt k) (b : FlatBindings) → flat_walks n s x every kind row b ≡ first (map (λ act. flat_walk n s x every kind act b) (items-the_row-FlatStmt k row))
    walks-row k end_of-FlatStmt b = refl
    walks-row k (more_of-FlatStmt part rest) b = ap (λ w. first_of (flat_walk n s x every kind part b) w) (walks-row _ rest b)

    abbrev stmts_of : FlatStmt → (k : Count) × Row_of-FlatStmt k
    stmts_of (Block' shape row) = (_, row)
    stmts_of _ = (_, end_of-FlatStmt)

    pub walk-Block : (acts : List FlatStmt) (b : FlatBindings) → flat_walk n s x every kind (Block acts) b ≡ first (map (λ act. flat_walk n s x every kind act b) acts)
    walk-Block acts b =
        let row : (k : Count) × Row_of-FlatStmt k = stmts_of (Block acts) in
        walks-row row.0 row.1 b ∙ ap (λ l. first (map (λ act. flat_walk n s x every kind act b) l)) (items_hidden-the_row-FlatStmt-1 acts)

    pub walk-If : (cond : FlatExpr) (l r : FlatStmt) (b : FlatBindings) → flat_walk n s x every kind (If cond l r) b ≡ if_walk every (truth (flat_outcome n s cond b)) (flat_walk n s x every kind l b) (flat_walk n s x every kind r b)
    unfolding boxes
    walk-If cond l r b = refl

    pub walk-Default : (l r : FlatStmt) (b : FlatBindings) → flat_walk n s x every kind (Default l r) b ≡ first_of (flat_walk n s x every kind r b) (flat_walk n s x every kind l b)
    unfolding boxes
    walk-Default l r b = refl

    pub walk-Forall : (var : ℕ) (over : Simple) (body : FlatStmt) (b : FlatBindings) → flat_walk n s x every kind (Forall var over body) b ≡ first (map (λ v. flat_walk n s x every kind body (bind b var v)) (values_in n over))
    unfolding boxes
    walk-Forall var over body b = refl
