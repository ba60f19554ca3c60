-- The problem of a case at given sizes is well formed.
use Rattle.std.proofs.Common.{◌≡◌, ◌≢◌, ◌≤◌, ◌<◌, ◌⊎◌, inl, inr, List, [], ◌∷◌, map, length, Option, Some, None, refl, sym, ap, subst, ◌∙◌, option_to_list, arith}
use Rattle.std.specs.Prelude.{IsTrue}
use Rattle.std.specs.List.{slice_get}
use Rattle.smv_core.specs.Values.{Value, Sizes}
use Rattle.smv_core.specs.FlatMeaning.{Numbered, values_in}
use Rattle.smv_core.specs.declared.abstract_type.Rest.TheVariants as beside
use Rattle.smv_core.specs.declared.flat.SetInfo.{SetInfo}
use Rattle.smv_core.specs.declared.flat.Simple.{Simple}
use Rattle.smv_core.specs.declared.flat.Def.{Def}
use Rattle.smv_core.specs.declared.flat.Claim.{Claim as FlatClaim}
use Rattle.smv_core.specs.declared.flat.Class.{Class}
use Rattle.smv_core.specs.declared.flat.Design.{Design}
use Rattle.smv_core.specs.declared.flat.Unit.{Unit as DesignUnit}
use Rattle.smv_core.specs.declared.flat.Unit.TheVariants as variant
use Rattle.law_designs.specs.FlatKinds as kinds
use Rattle.law_designs.specs.FlatKinds.{FlatKind, kind_of}
use Rattle.law_obligations.specs.Sets.{Has}
use Rattle.law_obligations.specs.Places.{Place, named, World, places_in}
use Rattle.law_obligations.specs.Covers.{AreApart}
use Rattle.law_obligations.specs.Obligations.{Demanded, defined, holds}
use Rattle.law_obligations.specs.Soundness.{FlatUnit, map_of, claim_of, over_of, params_of, values_over, said_at}
use Rattle.law_obligations.specs.Outlines.{base_of, unit_in, names_of, as_map, as_claim, nothing_claimed}
use Rattle.law_obligations.specs.Reached.{is_among, reached}
use Rattle.law_obligations.specs.Cones.{AbsElement, element, same_element, elements, first_elements, next_elements}
use Rattle.law_obligations.specs.Readings.{PosedCase, state_bits}
use Rattle.law_obligations.specs.Pictures.{AreNamedOf}
use Rattle.law_obligations.proofs.Members.{Has-map, Has-from_map}
use Rattle.law_obligations.proofs.OneOfEach.{AreOf as AreMembers, are_of, one_of, get_Has, Has-from_flat_map}
use Rattle.law_obligations.proofs.Lookups.{Has-option}
use Rattle.law_obligations.proofs.OutlineFacts.{IsBase, base-is, unit-def}
use Rattle.law_obligations.proofs.ConeFacts.{keeps_named}
use Rattle.smv_problem.specs.WellFormed.{keeps_orders, AreOf, IsFit, IsWellFormed, as_flat_text}
use Rattle.law_problems.specs.Parts.{IsFitDesign}
use Rattle.law_problems.proofs.Unlike.{unlike-filter, unlike-elements, apart_elements}
use Rattle.law_exact.specs.Exact.{whole_world}
use Rattle.law_exact.proofs.Outcomes.{places_are}
use Rattle.law_concrete.specs.Concrete.{outlined, alone, sized, classes_of_type, concrete_cases, concrete_cone, problem_at, base_demands}
use Rattle.law_concrete.specs.Runs.{IsExact}
use Rattle.law_concrete.proofs.Cones.{cone-kept, kept-cone, map-kept, cone-values, element-family}
use Rattle.law_concrete.proofs.Exactly.{are_params, unit_there}
use Rattle.law_concrete.proofs.Cases.{values-of}
use Rattle.law_concrete.specs.Concrete.{concrete_case}
use Rattle.law_concrete.proofs.PosedCases.{at-values}
use Rattle.law_lists.proofs.Lists.{map-map}

some-long : {X : Type 0} (xs : List X) (x : X) → Has xs x → 0 < length xs
some-long [] x h = elim h [ ]
some-long (y ∷ xs) x h = omega arith

no-gaps : beside.None ≢ beside.Gaps
no-gaps e = cc

def-is : {f g : Def} {is js : List Place} → defined f is ≡ defined g js → f ≡ g
def-is e = cc

indexes-are : {f g : Def} {is js : List Place} → defined f is ≡ defined g js → is ≡ js
indexes-are e = cc

no-claim : {body : _} {b : List Place} {def : Def} {is : List Place} → holds body b ≡ defined def is → ⊥
no-claim e = cc

inner-claim : (a b : FlatClaim) → claim_of a ≡ claim_of b → a ≡ b
inner-claim a b e = cc

-- values of these types are at places of these types
are-of-places : (n : Numbered) (types : List Simple) (vs : List Value) → AreMembers (map (values_in n) types) vs → AreOf (whole_world n) types (map named vs)
are-of-places n [] [] h = tt
are-of-places n [] (v ∷ vs) h = elim h [ ]
are-of-places n (t ∷ types) [] h = elim h [ ]
are-of-places n (t ∷ types) (v ∷ vs) h = (subst (λ ps. Has ps (named v)) (sym (places_are n t)) (Has-map named h.0), are-of-places n types vs h.1)

taken-kind : (target : FlatKind) (k : Option FlatKind) → IsTrue (kinds.takes target k) → (kind : FlatKind) × (k ≡ Some kind) × IsTrue (kinds.takes target (Some kind))
taken-kind target None t = absurd (cc)
taken-kind target (Some kind) t = (kind, refl, t)

module _ (d : Design) (sizes : Sizes) (exact : IsExact d sizes) (fit : IsFitDesign d) (apart : AreApart d.sets) (few : (info : SetInfo) → Has d.sets info → sizes info.name ≤ 256)
    (unit : DesignUnit) (values : List Value) (are : Has (values_over (sized d sizes) (params_of (sized d sizes) (unit_in d unit))) values) where
  abbrev n : Numbered
  n = sized d sizes

  abbrev w : World
  w = whole_world n

  abbrev params : List Place
  params = map named values

  abbrev c : PosedCase
  c = record { problem = problem_at d sizes unit params; elements = concrete_cone d sizes unit params }

  def-in : (def : Def) → unit_in d unit ≡ map_of def → Has d.defs def
  def-in def e = let k = unit-def d unit def e in get_Has d.defs k.0 def k.2

  -- the claim of a unit is one of the design, or says nothing
  claim-in : (u : DesignUnit) (claim : FlatClaim) → unit_in d u ≡ claim_of claim → Has d.claims claim ⊎ (claim ≡ nothing_claimed)
  claim-in (variant.Map k) claim e = at (slice_get d.defs k) e
    where
      at : (o : Option Def) → as_map o ≡ claim_of claim → Has d.claims claim ⊎ (claim ≡ nothing_claimed)
      at None e = inr (sym (inner-claim nothing_claimed claim e))
      at (Some def) e = absurd (cc (e))
  claim-in (variant.Claim k) claim e = at (slice_get d.claims k) refl e
    where
      at : (o : Option FlatClaim) → slice_get d.claims k ≡ o → as_claim o ≡ claim_of claim → Has d.claims claim ⊎ (claim ≡ nothing_claimed)
      at None q e = inr (sym (inner-claim nothing_claimed claim e))
      at (Some x) q e = inl (subst (Has d.claims) (inner-claim x claim e) (get_Has d.claims k x q))

  fits-def : (def : Def) → Has d.defs def → (indexes : List Place) → AreOf w (over_of (slice_get d.families def.family)) indexes → IsFit c (defined def indexes)
  fits-def def h indexes of = let f = fit.definitions def h in (f.0, f.1, f.2, of)

  fits-claim : (claim : FlatClaim) → Has d.claims claim ⊎ (claim ≡ nothing_claimed) → (b : List Place) → AreOf w (map (λ p. p.over) claim.params) b → IsFit c (holds claim.body b)
  fits-claim claim (inl h) b of =
      let f = fit.claims claim h in
      let k = taken-kind FlatKind.number (kinds.kind_in (as_flat_text (names_of d)) (map (λ p. kind_of p.over) claim.params) claim.body) f.0 in
      let same : map kind_of (map (λ p. p.over) claim.params) ≡ map (λ p. kind_of p.over) claim.params = map-map kind_of (λ p. p.over) claim.params in (
        map (λ p. p.over) claim.params,
        k.0,
        record {
          are_of = of;
          has_kind = ap (λ vars. kinds.kind_in (as_flat_text (names_of d)) vars claim.body) same ∙ k.1;
          has_orders = subst (λ vars. IsTrue (keeps_orders (as_flat_text (names_of d)) vars claim.body)) (sym same) f.1;
        },
        k.2,
      )
  fits-claim claim (inr e) b of = subst (λ (claim : FlatClaim). AreOf w (map (λ p. p.over) claim.params) b → IsFit c (holds claim.body b)) (sym e)
      (λ a. ([], FlatKind.number, record { are_of = a; has_kind = refl; has_orders = refl }, refl)) of

  own-of : AreOf w (params_of n (unit_in d unit)) params
  own-of = are-of-places n (params_of n (unit_in d unit)) values (are_of (map (values_in n) (params_of n (unit_in d unit))) values are)

  fits-target : (u : FlatUnit) → unit_in d unit ≡ u → AreOf w (params_of n u) params → IsFit c (said_at u params)
  fits-target (map_of def) e of = fits-def def (def-in def e) params of
  fits-target (claim_of claim) e of = fits-claim claim (claim-in unit claim e) params of

  fits-now : (demand : Demanded) → Has (base_demands d sizes (concrete_cone d sizes unit params)) demand → IsFit c demand
  fits-now demand h =
      let q = Has-from_flat_map (λ (x : AbsElement). map (λ def. defined def x.indexes) (option_to_list (base_of d x.family))) (concrete_cone d sizes unit params) h in
      let r = Has-from_map (λ def. defined def q.0.indexes) (option_to_list (base_of d q.0.family)) q.2 in
      let b : IsBase d q.0.family r.0 = base-is d q.0.family r.0 (Has-option (base_of d q.0.family) r.1) in
      let v = cone-values d sizes unit values (are_params d sizes exact unit values are) (unit_there d sizes exact unit values are) q.0.family b.its_family b.is_there q.0.indexes q.1 in
      let there : slice_get d.families r.0.family ≡ Some b.its_family = subst (λ k. slice_get d.families k ≡ Some b.its_family) (sym b.is_its) b.is_there in
      let of : AreOf w b.its_family.over q.0.indexes = subst (AreOf w b.its_family.over) (sym v.2) (are-of-places n b.its_family.over v.0 (are_of (map (values_in n) b.its_family.over) v.0 v.1)) in
      subst (IsFit c) (sym r.2) (fits-def r.0 b.is_def_of q.0.indexes (subst (λ o. AreOf w (over_of o) q.0.indexes) (sym there) of))

  named-of : (x : AbsElement) → Has (concrete_cone d sizes unit params) x → AreNamedOf w (over_of (slice_get d.families x.family)) x.indexes
  named-of x h =
      let f = element-family d sizes unit values (are_params d sizes exact unit values are) (unit_there d sizes exact unit values are) x.family x.indexes h in
      subst (λ o. AreNamedOf w (over_of o) x.indexes) (sym f.1)
      (keeps_named w (outlined d) (alone unit) params x.family f.0 f.1 x.indexes (cone-kept d sizes unit values (are_params d sizes exact unit values are) (unit_there d sizes exact unit values are) x h))

  target-there : (u : FlatUnit) → unit_in d unit ≡ u → (def : Def) (indexes : List Place) → said_at u params ≡ defined def indexes → Has (concrete_cone d sizes unit params) (element def.family indexes)
  target-there (claim_of claim) e def indexes is = absurd (no-claim is)
  target-there (map_of target) e def indexes is =
      subst (λ (x : AbsElement). Has (concrete_cone d sizes unit params) x) (ap (λ (g : Def). element g.family params) (def-is is) ∙ ap (element def.family) (indexes-are is))
      (kept-cone d sizes unit values (are_params d sizes exact unit values are) (unit_there d sizes exact unit values are) target.family params
      (map-kept d sizes unit values (are_params d sizes exact unit values are) (unit_there d sizes exact unit values are) target e).0)

  pub formed : state_bits c ≤ 1024 → IsWellFormed c
  formed bits = record {
    is_case = at-values d sizes exact unit values are;
    set_types = apart;
    constants = fit.constants;
    elements = apart_elements (concrete_cone d sizes unit params) (unlike-filter (is_among same_element (next_elements w (outlined d) (alone unit) params)
        (reached same_element (next_elements w (outlined d) (alone unit) params) (length (elements w)) (first_elements w (outlined d) (alone unit) params))) (elements w) (unlike-elements w fit.constants));
    indexes = named-of;
    now = fits-now;
    before = λ demand h. elim h [ ];
    target = fits-target (unit_in d unit) refl own-of;
    params = [];
    guards = λ g h. elim h [ ];
    classes = few;
    gaps = λ info h e. absurd (no-gaps e);
    have_values = λ f h. let v = exact.filled f h in some-long (places_in w f.value) (named v.0) (subst (λ ps. Has ps (named v.0)) (sym (places_are n f.value)) (Has-map named v.1));
    index_types = fit.indexes;
    target_is_kept = λ def indexes is k. target-there (unit_in d unit) refl def indexes is;
    bits = bits;
  }

pub well-formed : (d : Design) (sizes : Sizes) → IsExact d sizes → IsFitDesign d → AreApart d.sets → ((info : SetInfo) → Has d.sets info → sizes info.name ≤ 256) →
    (unit : DesignUnit) (classes : List Class) → Has (concrete_cases d sizes unit) classes → state_bits (concrete_case d sizes unit classes) ≤ 1024 → IsWellFormed (concrete_case d sizes unit classes)
well-formed d sizes exact fit apart few unit classes h bits =
    let types = params_of (sized d sizes) (unit_in d unit) in
    let vs = values-of (sized d sizes) types classes (are_of (map (classes_of_type (sized d sizes)) types) classes h) in
    subst (λ ps. state_bits (record { problem = problem_at d sizes unit ps; elements = concrete_cone d sizes unit ps }) ≤ 1024 → IsWellFormed (record { problem = problem_at d sizes unit ps; elements = concrete_cone d sizes unit ps })) (sym vs.2)
    (formed d sizes exact fit apart few unit vs.0 (one_of (map (values_in (sized d sizes)) types) vs.0 vs.1)) bits
