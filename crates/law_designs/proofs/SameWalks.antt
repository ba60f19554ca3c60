-- The walk of a flattened statement is that of the tree's statement.
use Rattle.std.proofs.Common.{◌≡◌, ℕ, List, [], ◌∷◌, ◌++◌, map, Some, None, All, Bool, true, false, cond, ◌&&◌, nat_eq, refl, sym, ap, ◌∙◌}
use Rattle.std.specs.List.{position_or_len, flat_map}
use Rattle.std.proofs.lemmas.Slice.Eq.{bytes_eq-Decides, slice_eq-Decides}
use Rattle.law_lists.proofs.Lists.{map_agree}
use Rattle.smv_core.specs.Values.{Name, Path, Value, number, Sizes, Outcome, Truth, truth, bit, equal, disjunction}
use Rattle.smv_core.specs.Types.{Types, Family, values_over}
use Rattle.smv_core.specs.Outcome.{State, Bindings, Scene, outcome, allowed_by, fields_of, family_at, same_path}
use Rattle.smv_core.specs.Walk.{Element, Walk, walk, walk_parts, walk_held, walk_arms, first, first_of, if_walk, assigned, is_label, steps_of, same_kind, indexes_of}
use Rattle.smv_core.specs.Assignments.{Around, loop, any}
use Rattle.smv_core.specs.Conflicts.{Agrees}
use Rattle.smv_core.specs.FlatMeaning.{Numbered, FlatState, FlatBindings, FlatElement, bind, values_in, flat_outcome, flat_listed, flat_allowed_by, flat_assigned, flat_walk}
use Rattle.smv_core.specs.declared.tree.Kind.{Kind}
use Rattle.smv_core.specs.declared.tree.TypeExpr.{TypeExpr}
use Rattle.smv_core.specs.declared.tree.Path.{out-Path}
use Rattle.smv_core.specs.declared.tree.Expr.{Expr}
use Rattle.smv_core.specs.declared.tree.Stmt.{Stmt, Assign, Block', If', Switch', Default', For', Forall', Held-Stmt-If-2, None', Some', Row_of-Stmt, end_of-Stmt, more_of-Stmt, Row_of-Arm, end_of-Arm, more_of-Arm}
use Rattle.smv_core.specs.declared.flat.SetInfo.{SetInfo}
use Rattle.smv_core.specs.declared.flat.FlatExpr.{FlatExpr, Within, List as ListOf}
use Rattle.smv_core.specs.declared.flat.FlatMember.{One}
use Rattle.smv_core.specs.declared.flat.FlatStmt.{FlatStmt}
use Rattle.law_designs.specs.Numbers.{Scope, bound_in, flat_over, family_number}
use Rattle.law_designs.specs.Statements.{flat_expr, flat_stmt, flat_parts, flat_branch, flat_arms, first_label}
use Rattle.law_designs.specs.Agreement.{values_bound, flat_element, AreSameStates, IsIndexType, IsRight, AreRight, StatementIsRight, StatementsAreRight, BranchIsRight, ArmsAreRight}
use Rattle.law_designs.proofs.Numbered.{HasNumbers, RunsOver}
use Rattle.law_designs.proofs.FlatLists.{each_outcome, member_outcomes, outcome-Within, listed-List, walk-Block, walk-If, walk-Default, walk-Forall}
use Rattle.law_designs.proofs.Lookups.{places-same, found-any}
use Rattle.law_designs.proofs.SameReads as reads
use Rattle.law_designs.proofs.SameReads.{bind-one_more, over-same}
use Rattle.law_designs.proofs.SameOutcomes.{outcome-same, allowed-same}

truth-bit : (u : Truth) → truth (bit u) ≡ u
truth-bit None = refl
truth-bit (Some false) = refl
truth-bit (Some true) = refl

-- ---- families by number

pub path-equal : (p q : Path) → same_path p q ≡ true → p ≡ q
path-equal p q = (slice_eq-Decides bytes_eq-Decides p q (same_path p q) refl).0

pub path-same : (p q : Path) → p ≡ q → same_path p q ≡ true
path-same p q = (slice_eq-Decides bytes_eq-Decides p q (same_path p q) refl).1

not_both : (x p q : Path) → same_path x p ≡ true → same_path x q ≡ false → same_path p q ≡ false
not_both x p q e f = by_test (same_path p q) refl
  where
    by_test : (b : Bool) → same_path p q ≡ b → b ≡ false
    by_test false h = refl
    by_test true h = let g : same_path x q ≡ true = path-same x q (path-equal x p e ∙ path-equal p q h) in absurd (cc (f, g))

not_both-turned : (x p q : Path) → same_path x p ≡ false → same_path x q ≡ true → same_path p q ≡ false
not_both-turned x p q e f = by_test (same_path p q) refl
  where
    by_test : (b : Bool) → same_path p q ≡ b → b ≡ false
    by_test false h = refl
    by_test true h = let g : same_path x p ≡ true = path-same x p (path-equal x q f ∙ sym (path-equal p q h)) in absurd (cc (e, g))

-- two paths have one number where they are the same, if the second is that of a family
pub number-same : (families : List Family) (p q : Path) (f : Family) → family_at families q ≡ Some f →
    nat_eq (position_or_len (λ g. same_path g.path p) families) (position_or_len (λ g. same_path g.path q) families) ≡ same_path p q
number-same families p q f e = places-same (λ g. same_path g.path p) (λ g. same_path g.path q) (same_path p q)
    (λ g h k. path-same p q (sym (path-equal g.path p h) ∙ path-equal g.path q k)) (λ g h k. not_both g.path p q h k) (λ g h k. not_both-turned g.path p q h k) families
    (found-any (λ g. same_path g.path q) families f e)

-- ---- statements

if_walk-same : (every : List Value) (u w : Truth) (p q x y : Walk) → u ≡ w → p ≡ q → x ≡ y → if_walk every u p x ≡ if_walk every w q y
if_walk-same every u w p q x y h k l = rw (h, k, l) refl

first_of-same : (p q x y : Walk) → p ≡ q → x ≡ y → first_of p x ≡ first_of q y
first_of-same p q x y h k = rw (h, k) refl

module _ (types : Types) (sets : List SetInfo) (enums : List (List Name)) (placed : List (Family × ℕ)) (instance : Path) (sizes : Sizes) (s : State) (t : FlatState)
    (states : AreSameStates (reads.families types sets enums placed instance sizes) s t)
    (numbers : All (HasNumbers (reads.scope types sets enums placed instance sizes) (reads.numbered types sets enums placed instance sizes)) (reads.families types sets enums placed instance sizes))
    (runs : (over : TypeExpr) → IsIndexType over → RunsOver (reads.scope types sets enums placed instance sizes) (reads.numbered types sets enums placed instance sizes) over)
    (kind : Kind) (x : Element) (every : List Value) (f : Family) (found : family_at (reads.families types sets enums placed instance sizes) x.path ≡ Some f) where
  abbrev scope : Scope
  scope = reads.scope types sets enums placed instance sizes

  abbrev n : Numbered
  n = reads.numbered types sets enums placed instance sizes

  abbrev scene : Scene
  scene = reads.scene types sets enums placed instance sizes

  abbrev flat_x : FlatElement
  flat_x = flat_element scope x

  abbrev fw : FlatStmt → FlatBindings → Walk
  fw act fb = flat_walk n t flat_x every kind act fb

  value-same : (vars : Around) (e : Expr) (b : Bindings) → Agrees vars b → IsRight scope vars e → flat_outcome n t (flat_expr scope vars e) (values_bound vars b) ≡ outcome scene s e b
  value-same vars e b agree h = outcome-same types sets enums placed instance sizes s t states numbers runs vars e b agree h

  left-same : (vars : Around) (es : List Expr) (b : Bindings) → Agrees vars b → AreRight scope vars es → each_outcome n t (values_bound vars b) (map (flat_expr scope vars) es) ≡ map (λ e. outcome scene s e b) es
  left-same vars [] b agree h = refl
  left-same vars (e ∷ es) b agree h = rw (value-same vars e b agree h.0, left-same vars es b agree h.1) refl

  assigned-same : (us ws : List Outcome) (value : FlatExpr) (e : Expr) (fb : FlatBindings) (b : Bindings) → us ≡ ws → flat_allowed_by n t every value fb ≡ allowed_by scene s every e b → flat_assigned n t flat_x every us value fb ≡ assigned scene s kind x every ws e b
  assigned-same us ws value e fb b h k = rw (h, k) refl

  if-same : (test left : Bool) (kinds : Bool) (v w : Walk) → test ≡ left → v ≡ w → cond (kinds && test) v None ≡ cond (kinds && left) w None
  if-same test left kinds v w h k = rw (h, k) refl

  labels-same : (vars : Around) (labels : List Expr) (b : Bindings) (u w : Outcome) → Agrees vars b → AreRight scope vars labels → u ≡ w →
      map (equal u) (flat_map (member_outcomes n t (values_bound vars b)) (map (λ label. One (flat_expr scope vars label)) labels)) ≡ map (λ label. equal w (outcome scene s label b)) labels
  labels-same vars [] b u w agree h e = refl
  labels-same vars (label ∷ labels) b u w agree h e = rw (value-same vars label b agree h.0, labels-same vars labels b u w agree h.1 e, e) refl

  is_label-same : (vars : Around) (on : FlatExpr) (labels : List Expr) (at : ℕ) (b : Bindings) (w : Outcome) → Agrees vars b → AreRight scope vars labels → flat_outcome n t on (values_bound vars b) ≡ w →
      truth (flat_outcome n t (Within on (ListOf (map (λ label. One (flat_expr scope vars label)) labels) at)) (values_bound vars b)) ≡ is_label scene s kind x every w labels b
  is_label-same vars on labels at b w agree h e =
      ap truth (outcome-Within n t on (ListOf (map (λ label. One (flat_expr scope vars label)) labels) at) (values_bound vars b))
      ∙ truth-bit (disjunction (map (equal (flat_outcome n t on (values_bound vars b))) (flat_listed n t (ListOf (map (λ label. One (flat_expr scope vars label)) labels) at) (values_bound vars b))))
      ∙ ap (λ l. disjunction (map (equal (flat_outcome n t on (values_bound vars b))) l)) (listed-List n t (map (λ label. One (flat_expr scope vars label)) labels) at (values_bound vars b))
      ∙ ap disjunction (labels-same vars labels b (flat_outcome n t on (values_bound vars b)) w agree h e)

  turns-same : (act : ℕ → FlatStmt) (fb : FlatBindings) (w : ℕ → Walk) → ((k : ℕ) → fw (act k) fb ≡ w k) → (ks : List ℕ) → map (λ a. fw a fb) (map act ks) ≡ map w ks
  turns-same act fb w h [] = refl
  turns-same act fb w h (k ∷ ks) = rw (h k, turns-same act fb w h ks) refl

  bound-same : (vars : Around) (b : Bindings) (agree : Agrees vars b) (body : FlatStmt) (w : Value → Walk) (over : TypeExpr) → IsIndexType over → ((v : Value) → fw body (values_bound vars b ++ v ∷ []) ≡ w v) →
      map (λ v. fw body (bind (values_bound vars b) (bound_in vars) v)) (values_in n (flat_over scope over)) ≡ map w (values_over types sizes over)
  bound-same vars b agree body w over lawful h =
      map_agree (λ v. fw body (bind (values_bound vars b) (bound_in vars) v)) w (λ v. ap (fw body) (bind-one_more vars b v agree) ∙ h v) (values_in n (flat_over scope over))
      ∙ ap (map w) (over-same types sets enums placed instance sizes over (runs over lawful))

  mutual
    pub walk-same : (vars : Around) (act : Stmt) (b : Bindings) → Agrees vars b → StatementIsRight scope vars act → fw (flat_stmt scope vars act) (values_bound vars b) ≡ walk scene s kind x every act b
    walk-same vars (Assign which left value at) b agree h =
        if-same (nat_eq (family_number scope (instance ++ fields_of (out-Path left).parts)) (family_number scope x.path)) (same_path (instance ++ fields_of (out-Path left).parts) x.path) (same_kind which kind) _ _
        (number-same (reads.families types sets enums placed instance sizes) (instance ++ fields_of (out-Path left).parts) x.path f found)
        (assigned-same _ (map (λ e. outcome scene s e b) (indexes_of (out-Path left).parts)) (flat_expr scope vars value) value (values_bound vars b) b
        (left-same vars (indexes_of (out-Path left).parts) b agree h.0) (allowed-same types sets enums placed instance sizes s t states numbers runs every vars value b agree h.1))
    walk-same vars (Block' shape parts) b agree h = walk-Block n t flat_x every kind (flat_parts scope vars parts) (values_bound vars b) ∙ parts-same vars parts b agree h
    walk-same vars (If' test l (more_of-Stmt left end_of-Stmt) right at) b agree h =
        walk-If n t flat_x every kind (flat_expr scope vars test) (flat_stmt scope vars left) (flat_branch scope vars right) (values_bound vars b)
        ∙ if_walk-same every _ (truth (outcome scene s test b)) _ (walk scene s kind x every left b) _ (walk_held scene s kind x every right b) (ap truth (value-same vars test b agree h.0)) (walk-same vars left b agree h.1) (held-same vars right b agree h.2)
    walk-same vars (Switch' on shape arms other at) b agree h =
        arms-same vars arms b agree h.1 (flat_expr scope vars on) (outcome scene s on b) (value-same vars on b agree h.0) (flat_branch scope vars other) (walk_held scene s kind x every other b) (held-same vars other b agree h.2)
    walk-same vars (Default' l (more_of-Stmt left end_of-Stmt) r (more_of-Stmt right end_of-Stmt) at) b agree h =
        walk-Default n t flat_x every kind (flat_stmt scope vars left) (flat_stmt scope vars right) (values_bound vars b)
        ∙ first_of-same _ (walk scene s kind x every right b) _ (walk scene s kind x every left b) (walk-same vars right b agree h.1) (walk-same vars left b agree h.0)
    walk-same vars (For' var from to closed step shape (more_of-Stmt body end_of-Stmt) at) b agree h =
        walk-Block n t flat_x every kind (map (λ k. flat_stmt scope ((var.name, loop k) ∷ vars) body) (steps_of from to closed step)) (values_bound vars b)
        ∙ ap first (turns-same (λ k. flat_stmt scope ((var.name, loop k) ∷ vars) body) (values_bound vars b) (λ k. walk scene s kind x every body ((var.name, number k) ∷ b))
        (λ k. walk-same ((var.name, loop k) ∷ vars) body ((var.name, number k) ∷ b) (refl, refl, agree) (h k)) (steps_of from to closed step))
    walk-same vars (Forall' var over shape (more_of-Stmt body end_of-Stmt) at) b agree h =
        walk-Forall n t flat_x every kind (bound_in vars) (flat_over scope over) (flat_stmt scope ((var.name, any) ∷ vars) body) (values_bound vars b)
        ∙ ap first (bound-same vars b agree (flat_stmt scope ((var.name, any) ∷ vars) body) (λ v. walk scene s kind x every body ((var.name, v) ∷ b)) over h.1
        (λ v. walk-same ((var.name, any) ∷ vars) body ((var.name, v) ∷ b) (refl, agree) h.0))

    parts-same : {m : _} (vars : Around) (parts : Row_of-Stmt m) (b : Bindings) → Agrees vars b → StatementsAreRight scope vars parts → first (map (λ a. fw a (values_bound vars b)) (flat_parts scope vars parts)) ≡ walk_parts scene s kind x every parts b
    parts-same vars end_of-Stmt b agree h = refl
    parts-same vars (more_of-Stmt part rest) b agree h = first_of-same _ (walk scene s kind x every part b) _ (walk_parts scene s kind x every rest b) (walk-same vars part b agree h.0) (parts-same vars rest b agree h.1)

    held-same : (vars : Around) (branch : Held-Stmt-If-2) (b : Bindings) → Agrees vars b → BranchIsRight scope vars branch → fw (flat_branch scope vars branch) (values_bound vars b) ≡ walk_held scene s kind x every branch b
    held-same vars None' b agree h = walk-Block n t flat_x every kind [] (values_bound vars b)
    held-same vars (Some' shape (more_of-Stmt part end_of-Stmt)) b agree h = walk-same vars part b agree h

    arms-same : {m : _} (vars : Around) (arms : Row_of-Arm m) (b : Bindings) → Agrees vars b → ArmsAreRight scope vars arms → (on : FlatExpr) (w : Outcome) → flat_outcome n t on (values_bound vars b) ≡ w →
        (other : FlatStmt) (v : Walk) → fw other (values_bound vars b) ≡ v → fw (flat_arms scope vars arms on other) (values_bound vars b) ≡ walk_arms scene s kind x every arms w v b
    arms-same vars end_of-Arm b agree h on w e other v k = k
    arms-same vars (more_of-Arm labels body rest) b agree h on w e other v k =
        walk-If n t flat_x every kind (Within on (ListOf (map (λ label. One (flat_expr scope vars label)) labels) (first_label labels))) (flat_stmt scope vars body) (flat_arms scope vars rest on other) (values_bound vars b)
        ∙ if_walk-same every _ (is_label scene s kind x every w labels b) _ (walk scene s kind x every body b) _ (walk_arms scene s kind x every rest w v b)
        (is_label-same vars on labels (first_label labels) b w agree h.0 e) (walk-same vars body b agree h.1) (arms-same vars rest b agree h.2 on w e other v k)
