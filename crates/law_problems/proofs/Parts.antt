-- Definitions, claims and splits of a flattened text keep the rules of kinds and orders.
use Rattle.std.proofs.Common.{◌≡◌, ◌≤◌, ℕ, zero, suc, ◌+◌, List, [], ◌∷◌, ◌++◌, map, filter, flat_map, length, slice_get, Option, Some, None, is_some, Bool, true, false, not, ◌&&◌, cond, nat_eq, nat_le, nat_lt, refl, sym, ap, subst, ◌∙◌, arith}
use Rattle.std.specs.Prelude.{IsTrue, IfSome, if◌then◌else◌}
use Rattle.std.specs.List.{list_all}
use Rattle.std.proofs.lemmas.Bool.{and_parts, and_from}
use Rattle.law_lists.proofs.Numbers.{nat_eq-is}
use Rattle.smv_core.specs.Values.{Name}
use Rattle.smv_core.specs.Walk.{same_kind}
use Rattle.smv_core.specs.declared.fault.Fault.{Fault}
use Rattle.smv_core.specs.declared.tree.Kind.{Kind as AssignKind}
use Rattle.smv_core.specs.declared.tree.Kind.TheVariants.{Comb, Init, Next}
use Rattle.smv_core.specs.declared.flat.Simple.{Simple}
use Rattle.smv_core.specs.declared.flat.Simple.TheVariants.{Range, Enum, Set}
use Rattle.smv_core.specs.declared.flat.SetInfo.{SetInfo}
use Rattle.smv_core.specs.declared.flat.Family.{Family}
use Rattle.smv_core.specs.declared.flat.Claim.{Claim}
use Rattle.smv_core.specs.declared.flat.Param.{Param}
use Rattle.smv_core.specs.declared.flat.FlatSplit.{FlatSplit}
use Rattle.smv_core.specs.declared.flat.FlatPair.{FlatPair}
use Rattle.smv_core.specs.declared.flat.FlatExpr.{FlatExpr}
use Rattle.smv_core.specs.declared.flat.FlatStmt.{FlatStmt, Assign, If', Block', Default', Forall', Row_of-FlatStmt, end_of-FlatStmt, more_of-FlatStmt}
use Rattle.smv_core.specs.declared.flat.FlatItem.{FlatItem}
use Rattle.smv_core.specs.declared.flat.FlatItem.TheVariants as item
use Rattle.smv_core.specs.declared.flat.DefBody.{DefBody, Nothing, If, First, Forall, First', Row_of-DefBody, end_of-DefBody, more_of-DefBody, items-the_row-DefBody, items_hidden-the_row-DefBody-1}
use Rattle.smv_core.specs.declared.flat.DefBody as flat
use Rattle.smv_core.specs.declared.flat.Def.{Def}
use Rattle.smv_core.specs.declared.flat.FlatText.{FlatText}
use Rattle.law_designs.specs.WholeText.{is_one_layer, claims_of}
use Rattle.law_designs.specs.Standing.{count, Statement, statements_from, statements_of}
use Rattle.law_designs.specs.Definitions.{is_nothing, joined, first_part, flat_of, flats_of, set_of, part_of, Head, def_of, first_heads, splits_of, design_of_flat_text}
use Rattle.law_designs.specs.FlatKinds.{FlatKind, number, takes, assigns, element, FlatVars, kind_of, inside, bound_by, are_binders, is_binder, is_index_type, is_type, is_size, kind_in, value_in, keeps_kinds, all_keep_kinds, is_kinded_item, is_kinded_family, is_kinded}
use Rattle.law_designs.proofs.Operands.{all-some, takes-some, each-some, element-some}
use Rattle.law_designs.specs.SetFaults.{operand, faults_in, faults_of, faults_of_each, item_faults, faults_of_sets}
use Rattle.law_designs.specs.SetOperands.{wanted_at, wanted_of}
use Rattle.law_designs.proofs.Faultless.{empty-both, no_fault-in}
use Rattle.law_obligations.specs.Sets.{Has, first, later}
use Rattle.law_obligations.specs.Covers.{IsIndexType}
use Rattle.law_obligations.proofs.Members.{Has-from_map, all-each}
use Rattle.law_obligations.proofs.Lookups.{Has-from_filter}
use Rattle.smv_problem.specs.WellFormed.{keeps_orders, is_part, are_parts}
use Rattle.law_problems.specs.Kinded.{kinds_of, IsKinded}
use Rattle.law_problems.specs.Fit.{DesignsAreFit, SplitsAreKinded, SizesAreFew}
use Rattle.law_problems.proofs.Names.{bare, same, same_binder, same_value, same_list}
use Rattle.law_problems.proofs.FitOrders.{none-each, is_there, AreThere, none-there, inside-there, index-there, orders, value-orders, left-orders}
use mathlib.Core.Former.{Count}

-- what lets a box of a definition's part compute
unfoldable boxes : Unit {0}
unfolding Rattle.smv_core.specs.declared.flat.DefBody.TheBlock.hidden-the_row-DefBody-0 Rattle.smv_core.specs.declared.flat.DefBody.TheBlock.shape-the_row-DefBody-0 denote.Hole.Carrier.hidden
boxes = tt

as-true : (b : Bool) → b ≡ true → IsTrue b
as-true b e = e

-- ---- items

claim-item : (items : List FlatItem) (c : Claim) → Has (claims_of items) c → Has items (item.Claim c)
claim-item [] c i = elim i [ ]
claim-item (item.Act layer act ∷ items) c i = later (claim-item items c i)
claim-item (item.Claim d ∷ items) _ first = first
claim-item (item.Claim d ∷ items) c (later i) = later (claim-item items c i)
claim-item (item.Split d ∷ items) c i = later (claim-item items c i)
claim-item (item.Using d ∷ items) c i = later (claim-item items c i)

split-item : (items : List FlatItem) (s : FlatSplit) → Has (splits_of items) s → Has items (item.Split s)
split-item [] s i = elim i [ ]
split-item (item.Act layer act ∷ items) s i = later (split-item items s i)
split-item (item.Claim d ∷ items) s i = later (split-item items s i)
split-item (item.Split d ∷ items) _ first = first
split-item (item.Split d ∷ items) s (later i) = later (split-item items s i)
split-item (item.Using d ∷ items) s i = later (split-item items s i)

statement-item : (k : ℕ) (items : List FlatItem) (s : Statement) → Has (statements_from k items) s → (layer : Option ℕ) × Has items (item.Act layer s.act)
statement-item k [] s i = elim i [ ]
statement-item k (item.Act layer act ∷ items) _ first = (layer, first)
statement-item k (item.Act layer act ∷ items) s (later i) = let r = statement-item (k + count act) items s i in (r.0, later r.1)
statement-item k (item.Claim c ∷ items) s i = let r = statement-item (k + 1) items s i in (r.0, later r.1)
statement-item k (item.Split c ∷ items) s i = let r = statement-item k items s i in (r.0, later r.1)
statement-item k (item.Using c ∷ items) s i = let r = statement-item k items s i in (r.0, later r.1)

module _ (flat_text : FlatText) (families_kept : list_all (is_kinded_family flat_text) flat_text.families ≡ true) where
  -- ---- parts of a definition

  module _ (family : ℕ) where
    abbrev IsPart : FlatVars → DefBody → Type 0
    IsPart vars p = is_part (bare flat_text) family vars p ≡ true

    abbrev EachIsPart : FlatVars → List DefBody → Type 0
    EachIsPart vars parts = (p : DefBody) → Has parts p → IsPart vars p

    part-row : (vars : FlatVars) (k : _) (row : Row_of-DefBody k) → EachIsPart vars (items-the_row-DefBody k row) → are_parts (bare flat_text) family vars row ≡ true
    part-row vars k end_of-DefBody h = refl
    part-row vars k (more_of-DefBody p rest) h = and_from _ _ (h p first) (part-row vars _ rest (λ q i. h q (later i)))

    abbrev rows_of : DefBody → (k : Count) × Row_of-DefBody k
    rows_of (First' shape row) = (_, row)
    rows_of _ = (_, end_of-DefBody)

    part-First : (vars : FlatVars) (parts : List DefBody) → EachIsPart vars parts → IsPart vars (First parts)
    part-First vars parts h = let row : (k : Count) × Row_of-DefBody k = rows_of (First parts) in part-row vars row.0 row.1 (subst (EachIsPart vars) (sym (items_hidden-the_row-DefBody-1 parts)) h)

    part-If : (vars : FlatVars) (test : FlatExpr) (p q : DefBody) → takes number (kind_in (bare flat_text) vars test) ≡ true → keeps_orders (bare flat_text) vars test ≡ true → IsPart vars p → IsPart vars q → IsPart vars (If test p q)
    unfolding boxes
    part-If vars test p q t o h k = and_from _ _ (and_from _ _ t o) (and_from _ _ h k)

    part-Forall : (vars : FlatVars) (var : ℕ) (over : Simple) (p : DefBody) → is_binder (bare flat_text) vars var over ≡ true → IsPart (inside vars over) p → IsPart vars (Forall var over p)
    unfolding boxes
    part-Forall vars var over p b h = and_from _ _ b h

    part-joined : (vars : FlatVars) (parts : List DefBody) → EachIsPart vars parts → IsPart vars (joined parts)
    part-joined vars [] h = refl
    part-joined vars (p ∷ []) h = h p first
    part-joined vars (p ∷ q ∷ more) h = part-First vars (p ∷ q ∷ more) h

    part-first_part : (vars : FlatVars) (parts : List DefBody) → EachIsPart vars parts → IsPart vars (first_part parts)
    part-first_part vars parts h = part-joined vars (filter (λ p. not (is_nothing p)) parts) (λ p k. h p (Has-from_filter (λ p. not (is_nothing p)) parts k).0)

    part-cond : (vars : FlatVars) (b : Bool) (p q : DefBody) → IsPart vars p → IsPart vars q → IsPart vars (cond b p q)
    part-cond vars true p q h k = h
    part-cond vars false p q h k = k

    -- ---- statements

    -- an assignment that keeps the rules has a target and a value of a kind
    assigned-some : (target value : Option FlatKind) → assigns target value ≡ true → (is_some target ≡ true) × (is_some value ≡ true)
    assigned-some None value e = absurd (cc (e))
    assigned-some (Some kind) value e = (refl, takes-some kind value e)

    abbrev faults : FlatVars → FlatStmt → List Fault
    faults vars act = faults_of flat_text (value_in flat_text) vars act

    assign-part : (vars : FlatVars) → AreThere flat_text vars → (left : List FlatExpr) (value : FlatExpr) (place at : ℕ) →
        assigns (element (slice_get flat_text.families family) (map (kind_in flat_text vars) left)) (value_in flat_text vars value) ≡ true →
        flat_map (faults_in flat_text (value_in flat_text) vars) left ≡ [] → faults_in flat_text (value_in flat_text) vars value ≡ [] → IsPart vars (flat.Assign left value place at)
    assign-part vars all left value place at h n m =
        let g : (is_some (element (slice_get flat_text.families family) (map (kind_in flat_text vars) left)) ≡ true) × (is_some (value_in flat_text vars value) ≡ true) = assigned-some _ (value_in flat_text vars value) h in
        let e : (f : Family) × (slice_get flat_text.families family ≡ Some f) × _ = element-some (slice_get flat_text.families family) (map (kind_in flat_text vars) left) g.0 in
        let some : all-some (map (kind_in flat_text vars) left) ≡ true = each-some e.0.over (map (kind_in flat_text vars) left) e.2 in
        let named : assigns (element (slice_get flat_text.families family) (map (kind_in (bare flat_text) vars) left)) (value_in (bare flat_text) vars value) ≡ true =
        ap (λ us. assigns (element (slice_get flat_text.families family) us) (value_in (bare flat_text) vars value)) (same_list flat_text vars left)
        ∙ (ap (λ u. assigns (element (slice_get flat_text.families family) (map (kind_in flat_text vars) left)) u) (same_value flat_text vars value) ∙ h) in
        and_from _ _ named (and_from _ _ (left-orders flat_text families_kept vars all left some n) (value-orders flat_text families_kept vars all value g.1 m))

    module _ (kind : AssignKind) where
      mutual
        part_of_act : (vars : FlatVars) → AreThere flat_text vars → (k : ℕ) (act : FlatStmt) → keeps_kinds flat_text vars act ≡ true → faults vars act ≡ [] → IsPart vars (flat_of kind family k act)
        part_of_act vars all k (Assign which other left value at) h n =
            let lefts : List Fault = flat_map (faults_in flat_text (value_in flat_text) vars) left in
            let indexes : List Fault = wanted_at (slice_get flat_text.families other) (map (operand flat_text (value_in flat_text) vars) left) in
            let values : List Fault = faults_in flat_text (value_in flat_text) vars value in
            let targets : List Fault = wanted_of (slice_get flat_text.families other) (operand flat_text (value_in flat_text) vars value) in
            let a : ((lefts ++ indexes ++ values) ≡ []) × (targets ≡ []) = empty-both _ _ n in
            let b : ((lefts ++ indexes) ≡ []) × (values ≡ []) = empty-both _ _ a.0 in
            let c : (lefts ≡ []) × (indexes ≡ []) = empty-both _ _ b.0 in
            by_test (same_kind which kind) (nat_eq other family) refl c.0 b.1
          where
            by_test : (s t : Bool) → nat_eq other family ≡ t → flat_map (faults_in flat_text (value_in flat_text) vars) left ≡ [] → faults_in flat_text (value_in flat_text) vars value ≡ [] →
                IsPart vars (if s && t then flat.Assign left value k at else Nothing)
            by_test true true e n m =
                assign-part vars all left value k at
                (subst (λ f. assigns (element (slice_get flat_text.families f) (map (kind_in flat_text vars) left)) (value_in flat_text vars value) ≡ true) (nat_eq-is other family e) h) n m
            by_test true false e n m = refl
            by_test false t e n m = refl
        part_of_act vars all k (If' test l (more_of-FlatStmt left end_of-FlatStmt) r (more_of-FlatStmt right end_of-FlatStmt)) h n =
            let g : (takes number (kind_in flat_text vars test) ≡ true) × ((keeps_kinds flat_text vars left && keeps_kinds flat_text vars right) ≡ true) = and_parts _ _ h in
            let s : (keeps_kinds flat_text vars left ≡ true) × (keeps_kinds flat_text vars right ≡ true) = and_parts _ _ g.1 in
            let a : ((faults_in flat_text (value_in flat_text) vars test ++ faults vars left) ≡ []) × (faults vars right ≡ []) = empty-both _ _ n in
            let b : (faults_in flat_text (value_in flat_text) vars test ≡ []) × (faults vars left ≡ []) = empty-both _ _ a.0 in
            part-cond vars (is_nothing (flat_of kind family k left) && is_nothing (flat_of kind family (k + count left) right)) Nothing (If test (flat_of kind family k left) (flat_of kind family (k + count left) right)) refl
            (part-If vars test (flat_of kind family k left) (flat_of kind family (k + count left) right) (ap (takes number) (same flat_text vars test) ∙ g.0)
            (orders flat_text families_kept vars all test (takes-some number (kind_in flat_text vars test) g.0) b.0)
            (part_of_act vars all k left s.0 b.1) (part_of_act vars all (k + count left) right s.1 a.1))
        part_of_act vars all k (Block' shape parts) h n = part-first_part vars (flats_of kind family k parts) (parts_of_acts vars all k parts h n)
        part_of_act vars all k (Default' l (more_of-FlatStmt left end_of-FlatStmt) r (more_of-FlatStmt right end_of-FlatStmt)) h n =
            let s : (keeps_kinds flat_text vars left ≡ true) × (keeps_kinds flat_text vars right ≡ true) = and_parts _ _ h in
            let b : (faults vars left ≡ []) × (faults vars right ≡ []) = empty-both _ _ n in
            part-first_part vars (flat_of kind family (k + count left) right ∷ flat_of kind family k left ∷ [])
            (two (flat_of kind family (k + count left) right) (flat_of kind family k left) (part_of_act vars all (k + count left) right s.1 b.1) (part_of_act vars all k left s.0 b.0))
          where
            two : (p q : DefBody) → IsPart vars p → IsPart vars q → (r : DefBody) → Has (p ∷ q ∷ []) r → IsPart vars r
            two p q x y _ first = x
            two p q x y _ (later first) = y
            two p q x y r (later (later i)) = elim i [ ]
        part_of_act vars all k (Forall' var over shape (more_of-FlatStmt body end_of-FlatStmt)) h n =
            let g : (is_binder flat_text vars var over ≡ true) × (keeps_kinds flat_text (inside vars over) body ≡ true) = and_parts _ _ h in
            part-cond vars (is_nothing (flat_of kind family k body)) Nothing (Forall var over (flat_of kind family k body)) refl
            (part-Forall vars var over (flat_of kind family k body) (same_binder flat_text vars var over ∙ g.0) (part_of_act (inside vars over) (inside-there flat_text vars all var over g.0) k body g.1 n))

        parts_of_acts : {m : _} (vars : FlatVars) → AreThere flat_text vars → (k : ℕ) (parts : Row_of-FlatStmt m) → all_keep_kinds flat_text vars parts ≡ true → faults_of_each flat_text (value_in flat_text) vars parts ≡ [] →
            EachIsPart vars (flats_of kind family k parts)
        parts_of_acts vars all k end_of-FlatStmt h n p i = elim i [ ]
        parts_of_acts vars all k (more_of-FlatStmt part rest) h n p i =
            let g : (keeps_kinds flat_text vars part ≡ true) × (all_keep_kinds flat_text vars rest ≡ true) = and_parts _ _ h in
            let a : (faults vars part ≡ []) × (faults_of_each flat_text (value_in flat_text) vars rest ≡ []) = empty-both _ _ n in
            one_of (flat_of kind family k part) (flats_of kind family (k + count part) rest) (part_of_act vars all k part g.0 a.0) (parts_of_acts vars all (k + count part) rest g.1 a.1) p i
          where
            one_of : (q : DefBody) (qs : List DefBody) → IsPart vars q → EachIsPart vars qs → EachIsPart vars (q ∷ qs)
            one_of q qs x rest _ first = x
            one_of q qs x rest p (later i) = rest p i

  -- ---- the variables around items

  binders-there : (vars : FlatVars) (params : List Param) → are_binders flat_text vars params ≡ true → (p : Param) → Has params p → is_index_type flat_text p.over ≡ true
  binders-there vars [] h p i = elim i [ ]
  binders-there vars (q ∷ params) h _ first = (and_parts (nat_eq q.var (length vars)) (is_index_type flat_text q.over) (and_parts (is_binder flat_text vars q.var q.over) (are_binders flat_text (inside vars q.over) params) h).0).1
  binders-there vars (q ∷ params) h p (later i) = binders-there (inside vars q.over) params (and_parts (is_binder flat_text vars q.var q.over) (are_binders flat_text (inside vars q.over) params) h).1 p i

  bound-there : (params : List Param) → are_binders flat_text [] params ≡ true → AreThere flat_text (bound_by flat_text params)
  bound-there params h k i =
      let r = Has-from_map (λ (p : Param). kind_of p.over) params i in
      subst (λ k. is_there flat_text k ≡ true) (sym r.2) (index-there flat_text r.0.over (binders-there [] params h r.0 r.1))

  length-inside : (vars : FlatVars) (over : Simple) → length (inside vars over) ≡ suc (length vars)
  length-inside [] over = refl
  length-inside (v ∷ vars) over = let e = length-inside vars over in omega arith

  binder-place : (vars : FlatVars) (params : List Param) → are_binders flat_text vars params ≡ true → (v : ℕ) (p : Param) → slice_get params v ≡ Some p → p.var ≡ length vars + v
  binder-place vars [] h v p e = absurd (cc (e))
  binder-place vars (q ∷ params) h zero p e =
      let same : q ≡ p = cc (e) in
      let at = nat_eq-is q.var (length vars) (and_parts (nat_eq q.var (length vars)) (is_index_type flat_text q.over) (and_parts (is_binder flat_text vars q.var q.over) (are_binders flat_text (inside vars q.over) params) h).0).0 in
      let var : p.var ≡ q.var = ap (λ (p : Param). p.var) (sym same) in
      omega (arith, at, var)
  binder-place vars (q ∷ params) h (suc v) p e =
      let r = binder-place (inside vars q.over) params (and_parts (is_binder flat_text vars q.var q.over) (are_binders flat_text (inside vars q.over) params) h).1 v p e in
      let l = length-inside vars q.over in
      omega (arith, r, l)

  -- ---- the design

  module _ (items_kept : list_all (is_kinded_item flat_text) flat_text.items ≡ true) (none : flat_map (item_faults flat_text (value_in flat_text)) flat_text.items ≡ []) where
    part-kept : (kind : AssignKind) (head : Head) → IsTrue (is_part (bare flat_text) head.family [] (part_of kind head.family (set_of flat_text head.layer)))
    part-kept kind head =
        as-true _ (part-first_part head.family [] (map (λ (s : Statement). flat_of kind head.family s.place s.act) (set_of flat_text head.layer)) (λ p i.
        let r : (s : Statement) × Has (set_of flat_text head.layer) s × (p ≡ flat_of kind head.family s.place s.act) = Has-from_map (λ (s : Statement). flat_of kind head.family s.place s.act) (set_of flat_text head.layer) i in
        let there : Has (statements_of flat_text) r.0 = (Has-from_filter (λ (s : Statement). is_one_layer head.layer s.layer) (statements_of flat_text) r.1).0 in
        let act = statement-item 0 flat_text.items r.0 there in
        let kept : keeps_kinds flat_text [] r.0.act ≡ true = all-each (is_kinded_item flat_text) items_kept act.1 in
        let free : faults_of flat_text (value_in flat_text) [] r.0.act ≡ [] = none-each (item_faults flat_text (value_in flat_text)) flat_text.items none act.1 in
        subst (λ p. is_part (bare flat_text) head.family [] p ≡ true) (sym r.2) (part_of_act head.family kind [] (none-there flat_text) r.0.place r.0.act kept free)))

    def-kept : (def : Def) → Has (design_of_flat_text flat_text).defs def → IsTrue (is_part (bare flat_text) def.family [] def.init) × IsTrue (is_part (bare flat_text) def.family [] def.next) × IsTrue (is_part (bare flat_text) def.family [] def.comb)
    def-kept def i =
        let r : (head : Head) × Has (first_heads flat_text) head × (def ≡ def_of flat_text head) = Has-from_map (def_of flat_text) (first_heads flat_text) i in
        subst (λ (def : Def). IsTrue (is_part (bare flat_text) def.family [] def.init) × IsTrue (is_part (bare flat_text) def.family [] def.next) × IsTrue (is_part (bare flat_text) def.family [] def.comb)) (sym r.2)
        (part-kept Init r.0, part-kept Next r.0, part-kept Comb r.0)

    claim-kept : (c : Claim) → Has (design_of_flat_text flat_text).claims c → IsTrue (takes number (kind_in (bare flat_text) (kinds_of c.params) c.body)) × IsTrue (keeps_orders (bare flat_text) (kinds_of c.params) c.body)
    claim-kept c i =
        let there = claim-item flat_text.items c i in
        let g : (are_binders flat_text [] c.params ≡ true) × (takes number (kind_in flat_text (bound_by flat_text c.params) c.body) ≡ true) = and_parts _ _ (all-each (is_kinded_item flat_text) items_kept there) in
        let free : faults_in flat_text (value_in flat_text) (bound_by flat_text c.params) c.body ≡ [] = none-each (item_faults flat_text (value_in flat_text)) flat_text.items none there in (
          as-true _ (ap (takes number) (same flat_text (kinds_of c.params) c.body) ∙ g.1),
          as-true _ (orders flat_text families_kept (bound_by flat_text c.params) (bound-there c.params g.0) c.body (takes-some number (kind_in flat_text (bound_by flat_text c.params) c.body) g.1) free),
        )

    split-kept : (s : FlatSplit) → Has (design_of_flat_text flat_text).splits s → (are_binders flat_text [] s.bound ≡ true) × (list_all (λ (pair : FlatPair). is_some (kind_in flat_text (bound_by flat_text s.bound) pair.left)) s.pairs ≡ true)
    split-kept s i = and_parts _ _ (all-each (is_kinded_item flat_text) items_kept (split-item flat_text.items s i))

    some-kind : (o : Option FlatKind) → is_some o ≡ true → (kind : FlatKind) × (o ≡ Some kind)
    some-kind None h = absurd (cc (h))
    some-kind (Some kind) h = (kind, refl)

    pair-kept : (s : FlatSplit) → Has (design_of_flat_text flat_text).splits s → (eq : FlatPair) → Has s.pairs eq → IsKinded (design_of_flat_text flat_text) (kinds_of s.bound) eq.left
    pair-kept s i eq j =
        let g = split-kept s i in
        let some : is_some (kind_in flat_text (bound_by flat_text s.bound) eq.left) ≡ true = all-each (λ (pair : FlatPair). is_some (kind_in flat_text (bound_by flat_text s.bound) pair.left)) g.1 j in
        let kind = some-kind (kind_in flat_text (bound_by flat_text s.bound) eq.left) some in
        let all_free : flat_map (λ (pair : FlatPair). faults_in flat_text (value_in flat_text) (bound_by flat_text s.bound) pair.left) s.pairs ≡ [] = none-each (item_faults flat_text (value_in flat_text)) flat_text.items none (split-item flat_text.items s i) in
        let free : faults_in flat_text (value_in flat_text) (bound_by flat_text s.bound) eq.left ≡ [] = none-each (λ (pair : FlatPair). faults_in flat_text (value_in flat_text) (bound_by flat_text s.bound) pair.left) s.pairs all_free j in
        (kind.0, same flat_text (kinds_of s.bound) eq.left ∙ kind.1, as-true _ (orders flat_text families_kept (bound_by flat_text s.bound) (bound-there s.bound g.0) eq.left some free))

-- what the rules of kinds say of the parts of a flattened text
record Kept (flat_text : FlatText) : Type 0 where
  sizes : list_all (λ (info : SetInfo). is_size info.size) flat_text.sets ≡ true
  families : list_all (is_kinded_family flat_text) flat_text.families ≡ true
  items : list_all (is_kinded_item flat_text) flat_text.items ≡ true

kept : (flat_text : FlatText) → is_kinded flat_text ≡ true → Kept flat_text
kept flat_text e =
    let a = and_parts (list_all (λ (info : SetInfo). is_size info.size) flat_text.sets) (list_all (λ (names : List Name). nat_lt 0 (length names)) flat_text.enums && (list_all (is_kinded_family flat_text) flat_text.families && list_all (is_kinded_item flat_text) flat_text.items)) e in
    let b = and_parts (list_all (λ (names : List Name). nat_lt 0 (length names)) flat_text.enums) (list_all (is_kinded_family flat_text) flat_text.families && list_all (is_kinded_item flat_text) flat_text.items) a.1 in
    let c = and_parts (list_all (is_kinded_family flat_text) flat_text.families) (list_all (is_kinded_item flat_text) flat_text.items) b.1 in
    record { sizes = a.0; families = c.0; items = c.1 }

index-type : (flat_text : FlatText) (t : Simple) → is_index_type flat_text t ≡ true → IsIndexType t
index-type flat_text (Range low high) h = tt
index-type flat_text (Enum list) h = absurd (cc (h))
index-type flat_text (Set set) h = tt

pub designs_are_fit : DesignsAreFit
designs_are_fit flat_text e none distinct =
    let k = kept flat_text e in
    let free = no_fault-in (faults_of_sets flat_text) none in
    record {
      definitions = def-kept flat_text k.families k.items free;
      claims = claim-kept flat_text k.families k.items free;
      constants = distinct;
      indexes = λ f i t j. index-type flat_text t (all-each (is_index_type flat_text) (and_parts (list_all (is_index_type flat_text) f.over) (is_type flat_text f.value) (all-each (is_kinded_family flat_text) k.families i)).0 j);
    }

pub splits_are_kinded : SplitsAreKinded
splits_are_kinded flat_text e none =
    let k = kept flat_text e in
    let free = no_fault-in (faults_of_sets flat_text) none in
    record {
      in_place = λ s i v p at. let place = binder-place flat_text k.families [] s.bound (split-kept flat_text k.families k.items free s i).0 v p at in omega (arith, place);
      kinded = pair-kept flat_text k.families k.items free;
    }

few : (size : Option ℕ) → is_size size ≡ true → IfSome size (λ n. n ≤ 256)
few None e = tt
few (Some n) e = le-true n 256 (and_parts (nat_lt 0 n) (nat_le n 256) e).1
  where
    le-true : (a b : ℕ) → nat_le a b ≡ true → a ≤ b
    le-true a b e = grind arith

pub sizes_are_few : SizesAreFew
sizes_are_few flat_text e info i = few info.size (all-each (λ (info : SetInfo). is_size info.size) (kept flat_text e).sizes i)
