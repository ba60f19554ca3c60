-- The design of a text that keeps the rules of kinds and set types is exact at all its sizes.
use Rattle.std.proofs.Common.{◌≡◌, ℕ, List, [], ◌∷◌, length, true, ◌&&◌, refl, sym, subst, Option, Some, None, nat_eq, nat_lt}
use Rattle.std.specs.List.{slice_get, list_all}
use Rattle.smv_core.specs.Values.{Sizes}
use Rattle.smv_core.specs.declared.flat.Simple.{Simple}
use Rattle.smv_core.specs.declared.flat.Simple.TheVariants.{Range, Enum, Set}
use Rattle.smv_core.specs.declared.flat.SetInfo.{SetInfo}
use Rattle.smv_core.specs.declared.flat.Family.{Family}
use Rattle.smv_core.specs.declared.flat.Param.{Param}
use Rattle.smv_core.specs.declared.flat.Def.{Def}
use Rattle.smv_core.specs.declared.flat.Claim.{Claim}
use Rattle.smv_core.specs.declared.flat.FlatText.{FlatText}
use Rattle.smv_core.specs.declared.flat.FlatItem.{FlatItem}
use Rattle.smv_core.specs.declared.flat.FlatItem.TheVariants as item
use Rattle.smv_core.specs.declared.flat.Design.{Design}
use Rattle.smv_core.specs.declared.flat.Unit.{Unit as DesignUnit}
use Rattle.smv_core.specs.declared.flat.Unit.TheVariants as variant
use Rattle.law_designs.specs.FlatKinds as kinds
use Rattle.law_designs.specs.FlatKinds.{FlatVars}
use Rattle.law_designs.specs.WholeText.{claims_of}
use Rattle.law_obligations.specs.Sets.{Has, first, later}
use Rattle.law_obligations.specs.Covers.{IsIndexType}
use Rattle.law_obligations.specs.Soundness.{over_of, params_of, AreSizes}
use Rattle.law_obligations.specs.Outlines.{Script, names_of, unit_in, as_map, as_claim}
use Rattle.law_obligations.specs.Checked.{IsChecked}
use Rattle.law_obligations.proofs.Members.{Has-from_map}
use Rattle.law_obligations.proofs.OneOfEach.{get_Has}
use Rattle.law_obligations.proofs.Plans.{filled_value}
use Rattle.law_problems.specs.Parts.{IsFitDesign}
use Rattle.law_concrete.specs.Concrete.{sized}
use Rattle.law_concrete.specs.Runs.{IsExact}
use Rattle.law_sized_texts.proofs.PartKinds.{part-exact}
use Rattle.law_lists.proofs.Booleans.{left_of, right_of}
use Rattle.smv_problem.specs.WellFormed.{as_flat_text}

-- a script without units
abbrev pub bare_script : Design → Script
bare_script d = record { design = d; entries = [] }

-- each parameter of a claim is over a range or a set type
module _ (flat_text : FlatText) where
  index-type : (t : Simple) → kinds.is_index_type flat_text t ≡ true → IsIndexType t
  index-type (Range low high) h = tt
  index-type (Enum list) h = absurd (cc (h))
  index-type (Set set) h = tt

  binders : (vars : FlatVars) (params : List Param) → kinds.are_binders flat_text vars params ≡ true → (p : Param) → Has params p → IsIndexType p.over
  binders vars [] h p k = elim k [ ]
  binders vars (q ∷ params) h _ first = index-type q.over (right_of (nat_eq q.var (length vars)) (kinds.is_index_type flat_text q.over) (left_of (kinds.is_binder flat_text vars q.var q.over) (kinds.are_binders flat_text (kinds.inside vars q.over) params) h))
  binders vars (q ∷ params) h p (later k) = binders (kinds.inside vars q.over) params (right_of (kinds.is_binder flat_text vars q.var q.over) (kinds.are_binders flat_text (kinds.inside vars q.over) params) h) p k

  pub claim-params : (items : List FlatItem) → list_all (kinds.is_kinded_item flat_text) items ≡ true → (c : Claim) → Has (claims_of items) c → (p : Param) → Has c.params p → IsIndexType p.over
  claim-params [] h c k p i = elim k [ ]
  claim-params (item.Claim c ∷ items) h _ first p i =
      binders [] c.params (left_of (kinds.are_binders flat_text [] c.params) (kinds.takes kinds.number (kinds.kind_in flat_text (kinds.bound_by flat_text c.params) c.body)) (left_of (kinds.is_kinded_item flat_text (item.Claim c)) (list_all (kinds.is_kinded_item flat_text) items) h)) p i
  claim-params (item.Claim x ∷ items) h c (later k) p i = claim-params items (right_of (kinds.is_kinded_item flat_text (item.Claim x)) (list_all (kinds.is_kinded_item flat_text) items) h) c k p i
  claim-params (item.Act layer act ∷ items) h c k p i = claim-params items (right_of (kinds.is_kinded_item flat_text (item.Act layer act)) (list_all (kinds.is_kinded_item flat_text) items) h) c k p i
  claim-params (item.Split s ∷ items) h c k p i = claim-params items (right_of (kinds.is_kinded_item flat_text (item.Split s)) (list_all (kinds.is_kinded_item flat_text) items) h) c k p i
  claim-params (item.Using u ∷ items) h c k p i = claim-params items (right_of (kinds.is_kinded_item flat_text (item.Using u)) (list_all (kinds.is_kinded_item flat_text) items) h) c k p i

pub items-kinded : (flat_text : FlatText) → kinds.is_kinded flat_text ≡ true → list_all (kinds.is_kinded_item flat_text) flat_text.items ≡ true
items-kinded flat_text e =
    let families = list_all (kinds.is_kinded_family flat_text) flat_text.families in
    let items = list_all (kinds.is_kinded_item flat_text) flat_text.items in
    let enums = list_all (λ (names : List (List ℕ)). nat_lt 0 (length names)) flat_text.enums in
    right_of families items (right_of enums (families && items) (right_of (list_all (λ (info : SetInfo). kinds.is_size info.size) flat_text.sets) (enums && (families && items)) e))

module _ (d : Design) (sizes : Sizes) (fit : IsFitDesign d) (checked : IsChecked (bare_script d)) (are : AreSizes (names_of d) sizes) (claims : (c : Claim) → Has d.claims c → (p : Param) → Has c.params p → IsIndexType p.over) where
  unit-params : (unit : DesignUnit) (t : Simple) → Has (params_of (sized d sizes) (unit_in d unit)) t → IsIndexType t
  unit-params (variant.Map k) t h = at (slice_get d.defs k) h
    where
      of_family : (o : Option Family) → ((f : Family) → o ≡ Some f → Has d.families f) → Has (over_of o) t → IsIndexType t
      of_family None there h = elim h [ ]
      of_family (Some f) there h = fit.indexes f (there f refl) t h

      at : (o : Option Def) → Has (params_of (sized d sizes) (as_map o)) t → IsIndexType t
      at None h = elim h [ ]
      at (Some def) h = of_family (slice_get d.families def.family) (λ f e. get_Has d.families def.family f e) h
  unit-params (variant.Claim k) t h = at (slice_get d.claims k) refl h
    where
      at : (o : Option Claim) → slice_get d.claims k ≡ o → Has (params_of (sized d sizes) (as_claim o)) t → IsIndexType t
      at None e h = elim h [ ]
      at (Some c) e h = let r = Has-from_map (λ (p : Param). p.over) c.params h in subst IsIndexType (sym r.2) (claims c (get_Has d.claims k c e) r.0 r.1)

  pub exact : IsExact d sizes
  exact = record {
    filled = λ f h. filled_value d sizes are f.value (checked.are_filled f h);
    defs = λ def h.
        let k = fit.definitions def h in
        let whole = (checked.are_definitions def h).is_whole in
        record {
          init = (part-exact (as_flat_text (names_of d)) def.family [] def.init k.0, whole.init);
          next = (part-exact (as_flat_text (names_of d)) def.family [] def.next k.1, whole.next);
          comb = (part-exact (as_flat_text (names_of d)) def.family [] def.comb k.2, whole.comb);
        };
    there = λ def h. ((checked.are_definitions def h).family, (checked.are_definitions def h).is_family);
    claims = checked.are_whole;
    params = unit-params;
  }
