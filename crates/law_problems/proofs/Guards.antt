-- The guards of leaves have kinds and keep orders.
use Rattle.std.proofs.Common.{◌≡◌, ℕ, suc, ◌+◌, ◌-◌, List, [], ◌∷◌, ◌++◌, map, zip, length, append_assoc, refl, sym, ap, subst, ◌∙◌, inl, inr, arith}
use Rattle.std.specs.Prelude.{IsTrue}
use Rattle.std.specs.List.{flat_map, slice_get}
use Rattle.law_lists.proofs.Lists.{length_map}
use Rattle.smv_core.specs.declared.flat.Design.{Design}
use Rattle.smv_core.specs.declared.flat.Param.{Param}
use Rattle.smv_core.specs.declared.flat.FlatSplit.{FlatSplit}
use Rattle.smv_core.specs.declared.flat.FlatExpr.{FlatExpr}
use Rattle.smv_core.specs.declared.flat.Unit.{Unit}
use Rattle.smv_core.specs.declared.flat.Guard.{Guard}
use Rattle.smv_core.specs.declared.flat.Leaf.{Leaf}
use Rattle.smv_core.specs.declared.flat.FlatText.{FlatText}
use Rattle.law_obligations.specs.Sets.{Has, first, later}
use Rattle.law_obligations.specs.Covers.{IsIndexType}
use Rattle.law_obligations.proofs.Members.{Has-uncons, Has-left, Has-from_map}
use Rattle.law_obligations.proofs.OneOfEach.{Has-from_flat_map}
use Rattle.law_obligations.specs.Outlines.{names_of, unit_in}
use Rattle.law_obligations.specs.Units.{units_of}
use Rattle.law_designs.specs.FlatKinds.{FlatVars, kind_of, kind_in}
use Rattle.smv_problem.specs.WellFormed.{as_flat_text, keeps_orders}
use Rattle.law_splits.specs.Variables.{Occurrence, readings, renamed, IsNumbered}
use Rattle.law_splits.specs.Leaves.{with_name, name_of, own_params, Cut, new, all_params, number_in, guard_of, guards_of, params_after, chain_of, leaf_of, leaves_from, leaves_of}
use Rattle.law_splits.specs.SplitFaults.{faults_of_splits}
use Rattle.law_splits.specs.SplitLaws.{IsRead}
use Rattle.law_splits.proofs.Good.{good_chain}
use Rattle.law_splits.proofs.Chains.{Follows, chain_follows, adds}
use Rattle.law_splits.proofs.Splits.{IsLeafOf, leaf_of_unit}
use Rattle.law_splits.proofs.Equations.{IsFine, fine, number_inner, number_old}
use Rattle.law_problems.specs.Kinded.{KindsStandFor, EquationsKeepKinds, EquationsKeepOrders, kinds_of, IsKinded, HasKindedSplits, GuardsHaveKinds}
use Rattle.law_problems.proofs.Renamed.{Alike, same, same_orders}
use Rattle.law_problems.proofs.Standing.{stands, chain_cut}

-- ---- an equation in a leaf

module _ (flat_text : FlatText) (split : FlatSplit) (e : FlatExpr) (numbered : IsNumbered (length split.bound) e) (all_fine : (x : Occurrence) → Has (readings e) x → IsFine split x.var) (own vars : FlatVars) (stand : KindsStandFor split own vars) where
  abbrev width : ℕ
  width = length split.bound

  abbrev number : ℕ → ℕ
  number = number_in split (length vars)

  is_alike : Alike flat_text width (length vars) number (number_inner split (length vars)) (IsFine split) width own vars
  is_alike = record {
    long = stand.0;
    other_long = let i = number_inner split (length vars) width (omega arith) in omega (arith, i);
    alike = λ v l f. let k = f l in ap (slice_get vars) (number_old split (length vars) v k.0 l k.1) ∙ stand.1 v k.0 l k.1;
  }

  kinds_kept : kind_in flat_text vars (renamed number e) ≡ kind_in flat_text own e
  kinds_kept = same flat_text width (length vars) number (number_inner split (length vars)) (IsFine split) e width own vars (omega arith) numbered all_fine is_alike

  orders_kept : keeps_orders flat_text vars (renamed number e) ≡ keeps_orders flat_text own e
  orders_kept = same_orders flat_text width (length vars) number (number_inner split (length vars)) (IsFine split) e width own vars (omega arith) numbered all_fine is_alike

pub equations_keep_kinds : EquationsKeepKinds
equations_keep_kinds flat_text split e numbered none own vars stand = kinds_kept flat_text split e numbered (λ x h. fine split x (none x h)) own vars stand

pub equations_keep_orders : EquationsKeepOrders
equations_keep_orders flat_text split e numbered none own vars stand = orders_kept flat_text split e numbered (λ x h. fine split x (none x h)) own vars stand

-- ---- the guards of a leaf

-- each split of a chain has the first of the parameters at its end
in_chain : (params : List Param) (cuts : List Cut) → Follows params cuts → (all : List Param) → params_after params cuts ≡ all → (c : Cut) → Has cuts c → (more : List Param) × (all ≡ c.params ++ more)
in_chain params [] f all e c h = elim h [ ]
in_chain params (b ∷ cuts) f all e c h = elim (Has-uncons h) [
  | inl i ↦
      let r = adds (all_params b) cuts f.1 in
      subst (λ c. (more : List Param) × (all ≡ c.params ++ more)) (sym i) (new b ++ r.more, sym e ∙ (r.is ∙ append_assoc b.params (new b) r.more))
  | inr l ↦ in_chain (all_params b) cuts f.1 all e c l
]

module _ (d : Design) (read : IsRead d) (none : faults_of_splits d ≡ []) (kinded : HasKindedSplits d) where
  -- the leaf of a unit
  record OfUnit (leaf : Leaf) : Type 0 where
    u : ℕ
    unit : Unit
    is_unit : Has (units_of d) unit
    is_leaf : leaf ≡ leaf_of d u (unit_in d unit)
    is_of : IsLeafOf d read unit leaf

  from_leaves : (u : ℕ) (units : List Unit) → ((unit : Unit) → Has units unit → Has (units_of d) unit) → (leaf : Leaf) → Has (leaves_from d u units) leaf →
      (k : ℕ) × (unit : Unit) × Has units unit × (leaf ≡ leaf_of d k (unit_in d unit)) × Has (zip units (leaves_from d u units)) (unit, leaf)
  from_leaves u [] each leaf h = elim h [ ]
  from_leaves u (unit ∷ units) each leaf h = elim (Has-uncons h) [
    | inl e ↦ (u, unit, first, e, subst (λ l. Has (zip (unit ∷ units) (leaves_from d u (unit ∷ units))) (unit, l)) (sym e) first)
    | inr l ↦ let r = from_leaves (suc u) units (λ unit h. each unit (later h)) leaf l in (r.0, r.1, later r.2, r.3, later r.4)
  ]

  of_unit : (leaf : Leaf) → Has (leaves_of d) leaf → OfUnit leaf
  of_unit leaf h =
      let r = from_leaves 0 (units_of d) (λ unit h. h) leaf h in
      record { u = r.0; unit = r.1; is_unit = r.2; is_leaf = r.3; is_of = leaf_of_unit d read none r.1 leaf r.4 }

  module _ (unit : Unit) (is_unit : Has (units_of d) unit) where
    abbrev own : List Param
    own = own_params d (unit_in d unit)

    abbrev cuts : List Cut
    cuts = chain_of d (unit_in d unit)

    abbrev all : List Param
    all = params_after own cuts

    guard_kinded : ((p : Param) → Has all p → IsIndexType p.over) → (g : Guard) → Has (flat_map (guards_of (length all)) cuts) g → IsKinded d (kinds_of all) g.expr
    guard_kinded indexes g h =
        let a = Has-from_flat_map (guards_of (length all)) cuts h in
        let c = a.0 in
        let b = Has-from_flat_map (λ pair. map (guard_of c.split (length all) pair) (with_name (new c) pair.right)) c.split.pairs a.2 in
        let pair = b.0 in
        let q = Has-from_map (guard_of c.split (length all) pair) (with_name (new c) pair.right) b.2 in
        let there = chain_cut d none unit is_unit c a.1 in
        let good = good_chain d read none unit is_unit c a.1 in
        let rest = in_chain own cuts (chain_follows d (length d.splits) (name_of d (unit_in d unit)) own) all refl c a.1 in
        let first_ones : (p : Param) → Has c.params p → IsIndexType p.over = λ p k. indexes p (subst (λ ps. Has ps p) (sym rest.1) (Has-left rest.0 k)) in
        let stand : KindsStandFor c.split (kinds_of c.split.bound) (kinds_of all) = (
          length_map (λ p. kind_of p.over) c.split.bound,
          λ v k l e. subst (λ ps. slice_get (kinds_of ps) k ≡ slice_get (kinds_of c.split.bound) v) (sym rest.1)
              (stands d none c there.0 there.1 first_ones (kinded.in_place c.split there.0) rest.0 v k e),
        ) in
        let flat_text = as_flat_text (names_of d) in
        let kind = kinded.kinded c.split there.0 pair b.1 in
        let numbered = good.are_numbered pair b.1 in
        let all_fine : (x : Occurrence) → Has (readings pair.left) x → IsFine c.split x.var = λ x k. good.stand pair b.1 x k in
        let long : length (kinds_of all) ≡ length all = length_map (λ p. kind_of p.over) all in
        let expr : g.expr ≡ renamed (number_in c.split (length (kinds_of all))) pair.left =
        ap (λ (g : Guard). g.expr) q.2 ∙ ap (λ n. renamed (number_in c.split n) pair.left) (sym long) in
        subst (IsKinded d (kinds_of all)) (sym expr) (
          kind.0,
          kinds_kept flat_text c.split pair.left numbered all_fine (kinds_of c.split.bound) (kinds_of all) stand ∙ kind.1,
          subst IsTrue (sym (orders_kept flat_text c.split pair.left numbered all_fine (kinds_of c.split.bound) (kinds_of all) stand)) kind.2,
        )

pub guards_have_kinds : GuardsHaveKinds
guards_have_kinds d read none kinded leaf h =
    let r = of_unit d read none kinded leaf h in
    let indexes : (p : Param) → Has leaf.params p → IsIndexType p.over = λ p k. (r.is_of.are_indexes p k).is_index_type in
    by_leaf r.u r.unit r.is_unit leaf r.is_leaf indexes
  where
    by_leaf : (u : ℕ) (unit : Unit) → Has (units_of d) unit → (leaf : Leaf) → leaf ≡ leaf_of d u (unit_in d unit) → ((p : Param) → Has leaf.params p → IsIndexType p.over) → (g : Guard) → Has leaf.guards g → IsKinded d (kinds_of leaf.params) g.expr
    by_leaf u unit is_unit leaf e = subst (λ leaf. ((p : Param) → Has leaf.params p → IsIndexType p.over) → (g : Guard) → Has leaf.guards g → IsKinded d (kinds_of leaf.params) g.expr) (sym e)
        (guard_kinded d read none kinded unit is_unit)
