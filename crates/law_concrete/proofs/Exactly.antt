-- At given sizes the base demands of a kept element are met exactly where its base definition allows its value, and the target is broken exactly where the instance fails.
use Rattle.std.proofs.Common.{◌≡◌, ℕ, List, map, true, not, refl, sym, ap, subst, ◌∙◌, Option, Some, None}
use Rattle.std.specs.List.{slice_get}
use Rattle.smv_core.specs.Values.{Value, Sizes, is_in}
use Rattle.smv_core.specs.FlatMeaning.{Numbered, FlatState, values_in, flat_allowed}
use Rattle.smv_core.specs.declared.flat.Family.{Family}
use Rattle.smv_core.specs.declared.flat.Def.{Def}
use Rattle.smv_core.specs.declared.flat.Claim.{Claim}
use Rattle.smv_core.specs.declared.flat.Design.{Design}
use Rattle.smv_core.specs.declared.flat.Unit.{Unit}
use Rattle.smv_core.specs.declared.flat.Unit.TheVariants as variant
use Rattle.law_obligations.specs.Sets.{Has}
use Rattle.law_obligations.specs.Whole.{IsWhole}
use Rattle.law_obligations.proofs.Members.{Has-map}
use Rattle.law_obligations.specs.Places.{named, World, places_in}
use Rattle.law_obligations.specs.May.{AbsState, Kept}
use Rattle.law_obligations.specs.Demands.{is_defined}
use Rattle.law_obligations.specs.Obligations.{AbstractProblem, is_broken}
use Rattle.law_obligations.specs.Soundness.{FlatUnit, map_of, claim_of, over_of, params_of, values_over, values_of_family, is_held, IsTyped, said_at}
use Rattle.law_obligations.specs.Outlines.{base_of, unit_in, as_map, as_claim, nothing_claimed}
use Rattle.law_obligations.specs.Cones.{AbsElement, element, elements_of_def, kept}
use Rattle.law_obligations.proofs.OneOfEach.{are_of, get_Has}
use Rattle.law_obligations.proofs.Same.{is_in-Has}
use Rattle.law_obligations.proofs.Filled.{Filled}
use Rattle.law_obligations.proofs.OutlineFacts.{IsBase, base-is, unit-def}
use Rattle.law_exact.specs.Exact.{whole_world, AreKept, Shows, ShowsBefore}
use Rattle.law_exact.proofs.Outcomes.{places_are}
use Rattle.law_exact.proofs.Demands.{defined-exact, broken-exact, claim-exact}
use Rattle.law_concrete.specs.Concrete.{sized, concrete_cone, problem_at}
use Rattle.law_concrete.specs.Runs.{IsExact}
use Rattle.law_concrete.proofs.Cones.{AreParams, kept-cone, map-kept, claim-kept, base-kept}

inner_claim : (a b : Claim) → claim_of a ≡ claim_of b → a ≡ b
inner_claim a b e = cc

module _ (d : Design) (sizes : Sizes) (exact : IsExact d sizes) (unit : Unit) (values : List Value) (are : Has (values_over (sized d sizes) (params_of (sized d sizes) (unit_in d unit))) values) where
  abbrev pub n : Numbered
  n = sized d sizes

  abbrev pub w : World
  w = whole_world n

  abbrev pub cone : List AbsElement
  cone = concrete_cone d sizes unit (map named values)

  abbrev pub K : Kept
  K = kept cone

  abbrev pub p : AbstractProblem
  p = problem_at d sizes unit (map named values)

  pub are_params : AreParams d sizes unit values
  are_params = are_of (map (values_in n) (params_of n (unit_in d unit))) values are

  pub unit_there : (def : Def) → unit_in d unit ≡ map_of def → (f : Family) × (slice_get d.families def.family ≡ Some f)
  unit_there def e = let k = unit-def d unit def e in exact.there def (get_Has d.defs k.0 def k.2)

  some_place : (family : ℕ) (f : Family) → slice_get n.families family ≡ Some f → Filled (places_in w f.value)
  some_place family f e =
      let v = exact.filled f (get_Has d.families family f e) in
      subst Filled (sym (places_are n f.value)) (named v.0, Has-map named v.1)

  claim_whole : (u : Unit) (claim : Claim) → unit_in d u ≡ claim_of claim → IsWhole d.families claim.body
  claim_whole (variant.Map k) claim e = at (slice_get d.defs k) e
    where
      at : (o : Option Def) → as_map o ≡ claim_of claim → IsWhole d.families claim.body
      at None e = subst (λ (c : Claim). IsWhole d.families c.body) (inner_claim nothing_claimed claim e) tt
      at (Some def) e = absurd (cc (e))
  claim_whole (variant.Claim k) claim e = at (slice_get d.claims k) refl e
    where
      at : (o : Option Claim) → slice_get d.claims k ≡ o → as_claim o ≡ claim_of claim → IsWhole d.families claim.body
      at None q e = subst (λ (c : Claim). IsWhole d.families c.body) (inner_claim nothing_claimed claim e) tt
      at (Some c) q e = subst (λ (c : Claim). IsWhole d.families c.body) (inner_claim c claim e) (exact.claims c (get_Has d.claims k c q))

  module _ (now : FlatState) (a : AbsState) (shows : Shows K a now) (old : Option AbsState) (before : Option FlatState) (h : ShowsBefore K old before) where
    -- a base demand of a kept element
    pub met-held : (family : ℕ) (vs : List Value) (def : Def) → base_of d family ≡ Some def → K family (map named vs) ≡ true → is_defined w K def (map named vs) old a ≡ is_held n (map_of def) vs before now
    met-held family vs def e k =
        let b : IsBase d family def = base-is d family def e in
        let there : slice_get d.families def.family ≡ Some b.its_family = subst (λ k. slice_get d.families k ≡ Some b.its_family) (sym b.is_its) b.is_there in
        let reads : AreKept K (elements_of_def w (map named vs) def) = base-kept d sizes unit values are_params unit_there (element family (map named vs)) (kept-cone d sizes unit values are_params unit_there family (map named vs) k) def e in
        defined-exact n K some_place def b.its_family there (exact.defs def b.is_def_of) vs (subst (λ k. K k (map named vs) ≡ true) (sym b.is_its) k) reads now a shows old before h ∙
        ap (λ o. is_in (flat_allowed n def (record { family = def.family; indexes = vs }) (values_of_family n o) before now) (now def.family vs)) (sym there)

    -- the target
    pub broken-held : IsTyped n now → is_broken p old a p.target ≡ not (is_held n (unit_in d unit) values before now)
    broken-held typed = by_unit (unit_in d unit) refl
      where
        by_unit : (u : FlatUnit) → unit_in d unit ≡ u → is_broken p old a (said_at u (map named values)) ≡ not (is_held n u values before now)
        by_unit (map_of def) e =
            let k = unit-def d unit def e in
            let there = unit_there def e in
            let m = map-kept d sizes unit values are_params unit_there def e in
            let of : Has (values_over n (over_of (slice_get d.families def.family))) values = subst (λ u. Has (values_over n (params_of n u)) values) e are in
            let inside : is_in (values_in n there.0.value) (now def.family values) ≡ true =
            is_in-Has (typed def.family there.0 there.1 values (subst (λ o. Has (values_over n (over_of o)) values) there.1 of)) in
            broken-exact n K some_place def there.0 there.1 (exact.defs def (get_Has d.defs k.0 def k.2)) values m.0 m.1 now a shows old before h inside ∙
            ap (λ o. not (is_in (flat_allowed n def (record { family = def.family; indexes = values }) (values_of_family n o) before now) (now def.family values))) (sym there.1)
        by_unit (claim_of claim) e = claim-exact n K now a shows claim.body values (claim_whole unit claim e) (claim-kept d sizes unit values are_params unit_there claim e)
