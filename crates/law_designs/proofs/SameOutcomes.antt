-- The outcome of a flattened expression is that of the tree's expression.
use Rattle.std.proofs.Common.{◌≡◌, ℕ, ◌+◌, ◌-◌, List, [], ◌∷◌, ◌++◌, map, filter, Option, Some, None, All, Bool, true, false, refl, ap, ◌∙◌}
use Rattle.std.specs.List.{flat_map}
use Rattle.smv_core.specs.Values.{Name, Path, Value, number, numbers_from, Sizes, Outcome, truth, bit, not_of, iff_of, conjunction, disjunction, implication, equal, compare, add, modulo}
use Rattle.smv_core.specs.Types.{Types, Family, values_over}
use Rattle.smv_core.specs.Outcome.{State, Bindings, Scene, outcome, truths, indexes, sum_with, listed, members_of, branch, fields_of, family_at, is_true, fit, allowed_by}
use Rattle.smv_core.specs.Assignments.{Around, loop, any}
use Rattle.smv_core.specs.Conflicts.{Agrees}
use Rattle.smv_core.specs.FlatMeaning.{Numbered, FlatState, FlatBindings, bind, values_in, flat_outcome, flat_listed, flat_allowed_by}
use Rattle.smv_core.specs.declared.tree.Op.{Op}
use Rattle.smv_core.specs.declared.tree.TypeExpr.{TypeExpr}
use Rattle.smv_core.specs.declared.tree.Part.{Field, At}
use Rattle.smv_core.specs.declared.tree.Member.{One, Span as SpanOf}
use Rattle.smv_core.specs.declared.tree.Expr.{Expr, Number, Signal', Not', And', Or', Implies', Iff', Compare', Within', Sum', Modulo', Choose', All', Any', List', Each', None', Some', Row_of-Expr, end_of-Expr, more_of-Expr, Row_of-Part, end_of-Part, more_of-Part, Row_of-Member, end_of-Member, more_of-Member, Row_of-Signed, end_of-Signed, more_of-Signed, items-the_row-Part}
use Rattle.smv_core.specs.declared.flat.SetInfo.{SetInfo}
use Rattle.smv_core.specs.declared.flat.FlatExpr.{FlatExpr}
use Rattle.smv_core.specs.declared.flat.FlatExpr.{Var, Loop}
use Rattle.std.specs.Str.{bytes_eq}
use Rattle.std.proofs.Common.{cond}
use Rattle.std.proofs.lemmas.List.Elements.{filter_agree}
use Rattle.law_lists.proofs.Lists.{map_agree}
use Rattle.law_designs.specs.Numbers.{Scope, bound_in, variable, variable_at, flat_over, constant_in, or_signal, flat_path}
use Rattle.law_designs.specs.Statements.{flat_expr, flat_row, flat_indexes, flat_signed, flat_members}
use Rattle.law_designs.specs.Agreement.{values_bound, AreSameStates, IsIndexType, IsRight, PartsAreRight, IndexesAreRight, TermsAreRight, MembersAreRight}
use Rattle.law_designs.proofs.Numbered.{HasNumbers, RunsOver}
use Rattle.law_designs.proofs.FlatLists.{each_outcome, member_outcomes, sum_of, outcome-And, outcome-Or, outcome-Implies, listed-List, outcome-Sum, outcome-Not, outcome-Iff, outcome-Compare, outcome-Within, outcome-Modulo, outcome-Choose, outcome-All, outcome-Any, allowed-List, allowed-Choose, allowed-Each, allowed-Each_if}
use Rattle.law_designs.proofs.SameReads as reads
use Rattle.law_designs.proofs.SameReads.{bind-one_more, over-same, read-same}

-- ---- paths are no sets

module _ (n : Numbered) (t : FlatState) where
  -- neither a listed set nor another right side of its own
  abbrev IsPlain : FlatExpr → Type 0
  IsPlain x = (fb : FlatBindings) → (flat_listed n t x fb ≡ []) × ((every : List Value) → flat_allowed_by n t every x fb ≡ fit every (flat_outcome n t x fb ∷ []))

  abbrev IsPlainOrNone : Option FlatExpr → Type 0
  IsPlainOrNone (Some x) = IsPlain x
  IsPlainOrNone None = Unit {0}

  if-plain : (test : Bool) (x : FlatExpr) (o : Option FlatExpr) → IsPlain x → IsPlainOrNone o → IsPlainOrNone (cond test (Some x) o)
  if-plain true x o p q = p
  if-plain false x o p q = q

  variable-plain : (vars : Around) (name : Name) (at : ℕ) → IsPlainOrNone (variable vars name at)
  variable-plain [] name at = tt
  variable-plain ((other, loop k) ∷ vars) name at = if-plain (bytes_eq other name) (Loop k at) (variable vars name at) (λ fb. (refl, λ every. refl)) (variable-plain vars name at)
  variable-plain ((other, any) ∷ vars) name at = if-plain (bytes_eq other name) (Var (bound_in vars) at) (variable vars name at) (λ fb. (refl, λ every. refl)) (variable-plain vars name at)

  variable_at-plain : (vars : Around) (path : Path) (at : ℕ) → IsPlainOrNone (variable_at vars path at)
  variable_at-plain vars [] at = tt
  variable_at-plain vars (name ∷ []) at = variable-plain vars name at
  variable_at-plain vars (name ∷ other ∷ more) at = tt

  constant-plain : (scope : Scope) (path : Path) (at : ℕ) → IsPlain (constant_in scope path at)
  constant-plain scope [] at = λ fb. (refl, λ every. refl)
  constant-plain scope (name ∷ []) at = λ fb. (refl, λ every. refl)
  constant-plain scope (name ∷ other ∷ more) at = λ fb. (refl, λ every. refl)

  signal-plain : (scope : Scope) (o : Option FlatExpr) (f : Option Family) (path : Path) (es : List FlatExpr) (at : ℕ) → IsPlainOrNone o → IsPlain (or_signal scope o f path es at)
  signal-plain scope (Some x) f path es at h = h
  signal-plain scope None (Some f) path es at h = λ fb. (refl, λ every. refl)
  signal-plain scope None None path es at h = constant-plain scope path at

  path-plain : (scope : Scope) (vars : Around) (path : Path) (es : List FlatExpr) (at : ℕ) → IsPlain (flat_path scope vars path es at)
  path-plain scope vars path es at = signal-plain scope (variable_at vars path at) (family_at scope.families (scope.instance ++ path)) path es at (variable_at-plain vars path at)

-- ---- small steps

within-same : (u w : Outcome) (us ws : List Outcome) → u ≡ w → us ≡ ws → bit (disjunction (map (equal u) us)) ≡ bit (disjunction (map (equal w) ws))
within-same u w us ws h k = rw (h, k) refl

iff-same : (u w : Outcome) (p q : Outcome) → u ≡ w → p ≡ q → bit (iff_of (truth u) (truth p)) ≡ bit (iff_of (truth w) (truth q))
iff-same u w p q h k = rw (h, k) refl

compare-same : (op : Op) (u w : Outcome) (p q : Outcome) → u ≡ w → p ≡ q → bit (compare op u p) ≡ bit (compare op w q)
compare-same op u w p q h k = rw (h, k) refl

branch-same : {X : Type 0} (neither : X) (u w : Outcome) (p q x y : X) → u ≡ w → p ≡ q → x ≡ y → branch neither (truth u) p x ≡ branch neither (truth w) q y
branch-same neither u w p q x y h k l = rw (h, k, l) refl

module _ (types : Types) (sets : List SetInfo) (enums : List (List Name)) (placed : List (Family × ℕ)) (instance : Path) (sizes : Sizes) (s : State) (t : FlatState)
    (states : AreSameStates (reads.families types sets enums placed instance sizes) s t)
    (numbers : All (HasNumbers (reads.scope types sets enums placed instance sizes) (reads.numbered types sets enums placed instance sizes)) (reads.families types sets enums placed instance sizes))
    (runs : (over : TypeExpr) → IsIndexType over → RunsOver (reads.scope types sets enums placed instance sizes) (reads.numbered types sets enums placed instance sizes) over) where
  abbrev scope : Scope
  scope = reads.scope types sets enums placed instance sizes

  abbrev n : Numbered
  n = reads.numbered types sets enums placed instance sizes

  abbrev scene : Scene
  scene = reads.scene types sets enums placed instance sizes

  -- the same under one more variable, at each value
  one_more : (vars : Around) (b : Bindings) (agree : Agrees vars b) (body : FlatExpr) (o : Value → Outcome) → ((v : Value) → flat_outcome n t body (values_bound vars b ++ v ∷ []) ≡ o v) →
      (v : Value) → flat_outcome n t body (bind (values_bound vars b) (bound_in vars) v) ≡ o v
  one_more vars b agree body o h v = ap (flat_outcome n t body) (bind-one_more vars b v agree) ∙ h v

  quantified-same : (vars : Around) (b : Bindings) (agree : Agrees vars b) (body : FlatExpr) (o : Value → Outcome) (over : TypeExpr) → IsIndexType over → ((v : Value) → flat_outcome n t body (values_bound vars b ++ v ∷ []) ≡ o v) →
      map (λ v. truth (flat_outcome n t body (bind (values_bound vars b) (bound_in vars) v))) (values_in n (flat_over scope over)) ≡ map (λ v. truth (o v)) (values_over types sizes over)
  quantified-same vars b agree body o over lawful h =
      map_agree (λ v. truth (flat_outcome n t body (bind (values_bound vars b) (bound_in vars) v))) (λ v. truth (o v)) (λ v. ap truth (one_more vars b agree body o h v)) (values_in n (flat_over scope over))
      ∙ ap (map (λ v. truth (o v))) (over-same types sets enums placed instance sizes over (runs over lawful))

  mutual
    pub outcome-same : (vars : Around) (e : Expr) (b : Bindings) → Agrees vars b → IsRight scope vars e → flat_outcome n t (flat_expr scope vars e) (values_bound vars b) ≡ outcome scene s e b
    outcome-same vars (Number value at) b agree right = refl
    outcome-same vars (Signal' shape parts at) b agree right =
        read-same types sets enums placed instance sizes s t states vars b (fields_of (items-the_row-Part _ parts)) (flat_indexes scope vars parts) (indexes scene s parts b) at agree numbers right.0 (indexes-same vars parts b agree right.1)
    outcome-same vars (Not' shape (more_of-Expr e end_of-Expr) at) b agree right =
        outcome-Not n t (flat_expr scope vars e) at (values_bound vars b) ∙ ap (λ u. bit (not_of (truth u))) (outcome-same vars e b agree right)
    outcome-same vars (And' shape parts) b agree right = outcome-And n t (flat_row scope vars parts) (values_bound vars b) ∙ ap (λ l. bit (conjunction l)) (truths-same vars parts b agree right)
    outcome-same vars (Or' shape parts) b agree right = outcome-Or n t (flat_row scope vars parts) (values_bound vars b) ∙ ap (λ l. bit (disjunction l)) (truths-same vars parts b agree right)
    outcome-same vars (Implies' shape parts) b agree right = outcome-Implies n t (flat_row scope vars parts) (values_bound vars b) ∙ ap (λ l. bit (implication l)) (truths-same vars parts b agree right)
    outcome-same vars (Iff' l (more_of-Expr left end_of-Expr) r (more_of-Expr right end_of-Expr)) b agree h =
        outcome-Iff n t (flat_expr scope vars left) (flat_expr scope vars right) (values_bound vars b)
        ∙ iff-same _ (outcome scene s left b) _ (outcome scene s right b) (outcome-same vars left b agree h.0) (outcome-same vars right b agree h.1)
    outcome-same vars (Compare' op l (more_of-Expr left end_of-Expr) r (more_of-Expr right end_of-Expr)) b agree h =
        outcome-Compare n t op (flat_expr scope vars left) (flat_expr scope vars right) (values_bound vars b)
        ∙ compare-same op _ (outcome scene s left b) _ (outcome scene s right b) (outcome-same vars left b agree h.0) (outcome-same vars right b agree h.1)
    outcome-same vars (Within' l (more_of-Expr left end_of-Expr) r (more_of-Expr set end_of-Expr)) b agree h =
        outcome-Within n t (flat_expr scope vars left) (flat_expr scope vars set) (values_bound vars b)
        ∙ within-same _ (outcome scene s left b) _ (listed scene s set b) (outcome-same vars left b agree h.0) (listed-same vars set b agree h.1)
    outcome-same vars (Sum' f (more_of-Expr first end_of-Expr) shape more) b agree h =
        outcome-Sum n t (flat_expr scope vars first) (flat_signed scope vars more) (values_bound vars b) ∙ sum-same vars more b agree h.1 _ (outcome scene s first b) (outcome-same vars first b agree h.0)
    outcome-same vars (Modulo' shape (more_of-Expr e end_of-Expr) by at) b agree h =
        outcome-Modulo n t (flat_expr scope vars e) by at (values_bound vars b) ∙ ap (λ u. modulo u by) (outcome-same vars e b agree h)
    outcome-same vars (Choose' c (more_of-Expr test end_of-Expr) l (more_of-Expr left end_of-Expr) r (more_of-Expr right end_of-Expr)) b agree h =
        outcome-Choose n t (flat_expr scope vars test) (flat_expr scope vars left) (flat_expr scope vars right) (values_bound vars b)
        ∙ branch-same None _ (outcome scene s test b) _ (outcome scene s left b) _ (outcome scene s right b) (outcome-same vars test b agree h.0) (outcome-same vars left b agree h.1) (outcome-same vars right b agree h.2)
    outcome-same vars (All' shape (more_of-Expr body end_of-Expr) var over at) b agree h =
        outcome-All n t (flat_expr scope ((var.name, any) ∷ vars) body) (bound_in vars) (flat_over scope over) at (values_bound vars b)
        ∙ ap (λ l. bit (conjunction l)) (quantified-same vars b agree (flat_expr scope ((var.name, any) ∷ vars) body) (λ v. outcome scene s body ((var.name, v) ∷ b)) over h.1 (λ v. outcome-same ((var.name, any) ∷ vars) body ((var.name, v) ∷ b) (refl, agree) h.0))
    outcome-same vars (Any' shape (more_of-Expr body end_of-Expr) var over at) b agree h =
        outcome-Any n t (flat_expr scope ((var.name, any) ∷ vars) body) (bound_in vars) (flat_over scope over) at (values_bound vars b)
        ∙ ap (λ l. bit (disjunction l)) (quantified-same vars b agree (flat_expr scope ((var.name, any) ∷ vars) body) (λ v. outcome scene s body ((var.name, v) ∷ b)) over h.1 (λ v. outcome-same ((var.name, any) ∷ vars) body ((var.name, v) ∷ b) (refl, agree) h.0))
    outcome-same vars (List' shape members at) b agree h = refl
    outcome-same vars (Each' var over None' at) b agree h = refl
    outcome-same vars (Each' var over (Some' shape (more_of-Expr test end_of-Expr)) at) b agree h = refl

    truths-same : {m : _} (vars : Around) (parts : Row_of-Expr m) (b : Bindings) → Agrees vars b → PartsAreRight scope vars parts → map truth (each_outcome n t (values_bound vars b) (flat_row scope vars parts)) ≡ truths scene s parts b
    truths-same vars end_of-Expr b agree h = refl
    truths-same vars (more_of-Expr e rest) b agree h = rw (outcome-same vars e b agree h.0, truths-same vars rest b agree h.1) refl

    indexes-same : {m : _} (vars : Around) (parts : Row_of-Part m) (b : Bindings) → Agrees vars b → IndexesAreRight scope vars parts → each_outcome n t (values_bound vars b) (flat_indexes scope vars parts) ≡ indexes scene s parts b
    indexes-same vars end_of-Part b agree h = refl
    indexes-same vars (more_of-Part (Field word) rest) b agree h = indexes-same vars rest b agree h
    indexes-same vars (more_of-Part (At index) rest) b agree h = rw (outcome-same vars index b agree h.0, indexes-same vars rest b agree h.1) refl

    sum-same : {m : _} (vars : Around) (more : Row_of-Signed m) (b : Bindings) → Agrees vars b → TermsAreRight scope vars more → (u w : Outcome) → u ≡ w → sum_of n t (values_bound vars b) (flat_signed scope vars more) u ≡ sum_with scene s more w b
    sum-same vars end_of-Signed b agree h u w e = e
    sum-same vars (more_of-Signed minus x rest) b agree h u w e =
        sum-same vars rest b agree h.1 (add minus u (flat_outcome n t (flat_expr scope vars x) (values_bound vars b))) (add minus w (outcome scene s x b)) (rw (e, outcome-same vars x b agree h.0) refl)

    listed-same : (vars : Around) (set : Expr) (b : Bindings) → Agrees vars b → IsRight scope vars set → flat_listed n t (flat_expr scope vars set) (values_bound vars b) ≡ listed scene s set b
    listed-same vars (List' shape members at) b agree h = listed-List n t (flat_members scope vars members) at (values_bound vars b) ∙ members-same vars members b agree h
    listed-same vars (Signal' shape parts at) b agree h = (path-plain n t scope vars (fields_of (items-the_row-Part _ parts)) (flat_indexes scope vars parts) at (values_bound vars b)).0
    listed-same vars (Not' shape (more_of-Expr e end_of-Expr) at) b agree h = refl
    listed-same vars (Iff' l (more_of-Expr left end_of-Expr) r (more_of-Expr right end_of-Expr)) b agree h = refl
    listed-same vars (Compare' op l (more_of-Expr left end_of-Expr) r (more_of-Expr right end_of-Expr)) b agree h = refl
    listed-same vars (Within' l (more_of-Expr left end_of-Expr) r (more_of-Expr set end_of-Expr)) b agree h = refl
    listed-same vars (Sum' f (more_of-Expr first end_of-Expr) shape more) b agree h = refl
    listed-same vars (Modulo' shape (more_of-Expr e end_of-Expr) by at) b agree h = refl
    listed-same vars (Choose' c (more_of-Expr test end_of-Expr) l (more_of-Expr left end_of-Expr) r (more_of-Expr right end_of-Expr)) b agree h = refl
    listed-same vars (All' shape (more_of-Expr body end_of-Expr) var over at) b agree h = refl
    listed-same vars (Any' shape (more_of-Expr body end_of-Expr) var over at) b agree h = refl
    listed-same vars (Each' var over None' at) b agree h = refl
    listed-same vars (Each' var over (Some' shape (more_of-Expr test end_of-Expr)) at) b agree h = refl
    listed-same vars (Number value at) b agree h = refl
    listed-same vars (And' shape parts) b agree h = refl
    listed-same vars (Or' shape parts) b agree h = refl
    listed-same vars (Implies' shape parts) b agree h = refl

    members-same : {m : _} (vars : Around) (members : Row_of-Member m) (b : Bindings) → Agrees vars b → MembersAreRight scope vars members → flat_map (member_outcomes n t (values_bound vars b)) (flat_members scope vars members) ≡ members_of scene s members b
    members-same vars end_of-Member b agree h = refl
    members-same vars (more_of-Member (One e) rest) b agree h = rw (outcome-same vars e b agree h.0, members-same vars rest b agree h.1) refl
    members-same vars (more_of-Member (SpanOf span at) rest) b agree h = ap (λ l. map (λ k. Some (number k)) (numbers_from span.low (span.high + 1 - span.low)) ++ l) (members-same vars rest b agree h)

  -- the values that a comprehension has
  comprehended-same : (vars : Around) (b : Bindings) (agree : Agrees vars b) (body : FlatExpr) (o : Value → Outcome) (over : TypeExpr) → IsIndexType over → ((v : Value) → flat_outcome n t body (values_bound vars b ++ v ∷ []) ≡ o v) →
      filter (λ v. is_true (truth (flat_outcome n t body (bind (values_bound vars b) (bound_in vars) v)))) (values_in n (flat_over scope over)) ≡ filter (λ v. is_true (truth (o v))) (values_over types sizes over)
  comprehended-same vars b agree body o over lawful h =
      filter_agree (λ v. is_true (truth (flat_outcome n t body (bind (values_bound vars b) (bound_in vars) v)))) (λ v. is_true (truth (o v))) (λ v. ap (λ u. is_true (truth u)) (one_more vars b agree body o h v)) (values_in n (flat_over scope over))
      ∙ ap (filter (λ v. is_true (truth (o v)))) (over-same types sets enums placed instance sizes over (runs over lawful))

  pub allowed-same : (every : List Value) (vars : Around) (e : Expr) (b : Bindings) → Agrees vars b → IsRight scope vars e → flat_allowed_by n t every (flat_expr scope vars e) (values_bound vars b) ≡ allowed_by scene s every e b
  allowed-same every vars (List' shape members at) b agree h = allowed-List n t every (flat_members scope vars members) at (values_bound vars b) ∙ ap (fit every) (members-same vars members b agree h)
  allowed-same every vars (Each' var over None' at) b agree h =
      allowed-Each n t every (bound_in vars) (flat_over scope over) at (values_bound vars b) ∙ ap (λ vs. fit every (map Some (filter (λ v. true) vs))) (over-same types sets enums placed instance sizes over (runs over h.1))
  allowed-same every vars (Each' var over (Some' shape (more_of-Expr test end_of-Expr)) at) b agree h =
      allowed-Each_if n t every (bound_in vars) (flat_over scope over) (flat_expr scope ((var.name, any) ∷ vars) test) at (values_bound vars b)
      ∙ ap (λ vs. fit every (map Some vs)) (comprehended-same vars b agree (flat_expr scope ((var.name, any) ∷ vars) test) (λ v. outcome scene s test ((var.name, v) ∷ b)) over h.1 (λ v. outcome-same ((var.name, any) ∷ vars) test ((var.name, v) ∷ b) (refl, agree) h.0))
  allowed-same every vars (Choose' c (more_of-Expr test end_of-Expr) l (more_of-Expr left end_of-Expr) r (more_of-Expr right end_of-Expr)) b agree h =
      allowed-Choose n t every (flat_expr scope vars test) (flat_expr scope vars left) (flat_expr scope vars right) (values_bound vars b)
      ∙ branch-same every _ (outcome scene s test b) _ (allowed_by scene s every left b) _ (allowed_by scene s every right b) (outcome-same vars test b agree h.0) (allowed-same every vars left b agree h.1) (allowed-same every vars right b agree h.2)
  allowed-same every vars (Signal' shape parts at) b agree h =
      (path-plain n t scope vars (fields_of (items-the_row-Part _ parts)) (flat_indexes scope vars parts) at (values_bound vars b)).1 every ∙ ap (λ u. fit every (u ∷ [])) (outcome-same vars (Signal' shape parts at) b agree h)
  allowed-same every vars (Number value at) b agree h = ap (λ u. fit every (u ∷ [])) (outcome-same vars (Number value at) b agree h)
  allowed-same every vars (Not' shape (more_of-Expr e end_of-Expr) at) b agree h = ap (λ u. fit every (u ∷ [])) (outcome-same vars (Not' shape (more_of-Expr e end_of-Expr) at) b agree h)
  allowed-same every vars (And' shape parts) b agree h = ap (λ u. fit every (u ∷ [])) (outcome-same vars (And' shape parts) b agree h)
  allowed-same every vars (Or' shape parts) b agree h = ap (λ u. fit every (u ∷ [])) (outcome-same vars (Or' shape parts) b agree h)
  allowed-same every vars (Implies' shape parts) b agree h = ap (λ u. fit every (u ∷ [])) (outcome-same vars (Implies' shape parts) b agree h)
  allowed-same every vars (Iff' l (more_of-Expr left end_of-Expr) r (more_of-Expr right end_of-Expr)) b agree h = ap (λ u. fit every (u ∷ [])) (outcome-same vars (Iff' l (more_of-Expr left end_of-Expr) r (more_of-Expr right end_of-Expr)) b agree h)
  allowed-same every vars (Compare' op l (more_of-Expr left end_of-Expr) r (more_of-Expr right end_of-Expr)) b agree h = ap (λ u. fit every (u ∷ [])) (outcome-same vars (Compare' op l (more_of-Expr left end_of-Expr) r (more_of-Expr right end_of-Expr)) b agree h)
  allowed-same every vars (Within' l (more_of-Expr left end_of-Expr) r (more_of-Expr set end_of-Expr)) b agree h = ap (λ u. fit every (u ∷ [])) (outcome-same vars (Within' l (more_of-Expr left end_of-Expr) r (more_of-Expr set end_of-Expr)) b agree h)
  allowed-same every vars (Sum' f (more_of-Expr first end_of-Expr) shape more) b agree h = ap (λ u. fit every (u ∷ [])) (outcome-same vars (Sum' f (more_of-Expr first end_of-Expr) shape more) b agree h)
  allowed-same every vars (Modulo' shape (more_of-Expr e end_of-Expr) by at) b agree h = ap (λ u. fit every (u ∷ [])) (outcome-same vars (Modulo' shape (more_of-Expr e end_of-Expr) by at) b agree h)
  allowed-same every vars (All' shape (more_of-Expr body end_of-Expr) var over at) b agree h = ap (λ u. fit every (u ∷ [])) (outcome-same vars (All' shape (more_of-Expr body end_of-Expr) var over at) b agree h)
  allowed-same every vars (Any' shape (more_of-Expr body end_of-Expr) var over at) b agree h = ap (λ u. fit every (u ∷ [])) (outcome-same vars (Any' shape (more_of-Expr body end_of-Expr) var over at) b agree h)
