-- The units of a text: a map is one of a family of the text, and a claim is one of its claims.
use Rattle.std.proofs.Common.{◌≡◌, List, [], ◌∷◌, flat_map, Option, Some, None, Bool, true, false, not, if◌then◌else◌, refl, sym, ap, subst, ◌∙◌, inl, inr, option_to_list}
use Rattle.std.specs.Str.{bytes_eq}
use Rattle.std.proofs.lemmas.Slice.Eq.{bytes_eq-Decides}
use Rattle.law_lists.proofs.Booleans.{left_of, right_of}
use Rattle.law_lists.proofs.Options.{some_is}
use Rattle.smv_core.specs.Values.{Name}
use Rattle.smv_core.specs.Types.{Family}
use Rattle.smv_core.specs.FlatOrder.{TextDesign, Met, said, claimed, Said, Claimed}
use Rattle.smv_core.specs.Outcome.{family_at, same_path}
use Rattle.smv_core.specs.Assignments.{Assigned}
use Rattle.smv_core.specs.Allowed.{assignments_in, is_defined_by, said_in}
use Rattle.smv_core.specs.Sound.{ProofUnit, map_of, claim_of, same_unit, once, map_unless_base, maps_of, units_met, units}
use Rattle.law_designs.specs.WholeText.{claims_met}
use Rattle.law_designs.proofs.SameWalks.{path-equal}
use Rattle.law_obligations.specs.Sets.{Has, first, later}
use Rattle.law_obligations.proofs.Members.{Has-uncons, Has-flat_map, any-some}
use Rattle.law_obligations.proofs.Lookups.{find-some, Has-option, Has-filter, Has-from_filter}
use Rattle.law_obligations.proofs.OneOfEach.{Has-from_flat_map}

from-once : (us : List ProofUnit) (u : ProofUnit) → Has (once us) u → Has us u
from-once [] u h = elim h [ ]
from-once (v ∷ us) u h = elim (Has-uncons h) [
  | inl i ↦ subst (Has (v ∷ us)) (sym i) first
  | inr k ↦ later (from-once us u (Has-from_filter (λ w. not (same_unit v w)) (once us) k).0)
]

claims-Has : (met : List Met) (c : Claimed) → Has met (claimed c) → Has (claims_met met) c
claims-Has [] c h = elim h [ ]
claims-Has (claimed e ∷ met) c h = elim (Has-uncons h) [
  | inl i ↦ let same : e ≡ c = cc in subst (Has (e ∷ claims_met met)) same first
  | inr k ↦ later (claims-Has met c k)
]
claims-Has (said x ∷ met) c h = elim (Has-uncons h) [
  | inl i ↦ absurd (cc (i))
  | inr k ↦ claims-Has met c k
]

-- where units that count as one are one
once-Has : (us : List ProofUnit) (u : ProofUnit) → Has us u → ((v : ProofUnit) → Has us v → same_unit v u ≡ true → v ≡ u) → Has (once us) u
once-Has [] u h alike = elim h [ ]
once-Has (v ∷ us) u h alike = elim (Has-uncons h) [
  | inl i ↦ subst (Has (once (v ∷ us))) (sym i) first
  | inr k ↦ by_test (same_unit v u) refl (once-Has us u k (λ w m. alike w (later m)))
]
  where
    by_test : (b : Bool) → same_unit v u ≡ b → Has (once us) u → Has (once (v ∷ us)) u
    by_test true e rest = subst (Has (once (v ∷ us))) (alike v first e) first
    by_test false e rest = later (Has-filter (λ w. not (same_unit v w)) rest (ap not e))

claims-from : (met : List Met) (c : Claimed) → Has (claims_met met) c → Has met (claimed c)
claims-from [] c h = elim h [ ]
claims-from (claimed e ∷ met) c h = elim (Has-uncons h) [
  | inl i ↦ subst (λ c. Has (claimed e ∷ met) (claimed c)) (sym i) first
  | inr k ↦ later (claims-from met c k)
]
claims-from (said x ∷ met) c h = later (claims-from met c h)

said-from : (met : List Met) (x : Said) → Has (flat_map said_in met) x → Has met (said x)
said-from [] x h = elim h [ ]
said-from (claimed e ∷ met) x h = later (said-from met x h)
said-from (said y ∷ met) x h = elim (Has-uncons h) [
  | inl i ↦ subst (λ x. Has (said y ∷ met) (said x)) (sym i) first
  | inr k ↦ later (said-from met x k)
]

only : {X : Type 0} {x y : X} → Has (x ∷ []) y → x ≡ y
only h = elim (Has-uncons h) [
  | inl i ↦ sym i
  | inr k ↦ elim k [ ]
]

module _ (d : TextDesign) where
  -- a map is of a family of the text, and a claim is one of its claims
  abbrev pub IsOfText : ProofUnit → Type 0
  IsOfText (map_of layer h) = Has d.families h
  IsOfText (claim_of c) = Has (claims_met d.met) c

  map-is : (layer : Name) (h : Family) → Has d.families h → (u : ProofUnit) → Has (map_unless_base d layer h) u → IsOfText u
  map-is layer h there u m = by_test _ m
    where
      by_test : (b : Bool) → Has (if b then [] else map_of layer h ∷ []) u → IsOfText u
      by_test true m = elim m [ ]
      by_test false m = subst IsOfText (only m) there

  maps-are : (layer : Option Name) (as' : List Assigned) (u : ProofUnit) → Has (maps_of d layer as') u → IsOfText u
  maps-are None as' u m = elim m [ ]
  maps-are (Some layer) as' u m =
      let a : (a : Assigned) × Has as' a × Has (flat_map (map_unless_base d layer) (option_to_list (family_at d.families a.path))) u =
      Has-from_flat_map (λ (a : Assigned). flat_map (map_unless_base d layer) (option_to_list (family_at d.families a.path))) as' m in
      let h : (h : Family) × Has (option_to_list (family_at d.families a.0.path)) h × Has (map_unless_base d layer h) u = Has-from_flat_map (map_unless_base d layer) (option_to_list (family_at d.families a.0.path)) a.2 in
      map-is layer h.0 (find-some (λ (f : Family). same_path f.path a.0.path) d.families (Has-option (family_at d.families a.0.path) h.1)).0 u h.2

  met-is : (m : Met) → Has d.met m → (u : ProofUnit) → Has (units_met d m) u → IsOfText u
  met-is (claimed c) there u h = subst IsOfText (only h) (claims-Has d.met c there)
  met-is (said x) there u h = maps-are x.layer (assignments_in x) u h

  pub unit-is : (u : ProofUnit) → Has (units d) u → IsOfText u
  unit-is u h =
      let m : (m : Met) × Has d.met m × Has (units_met d m) u = Has-from_flat_map (units_met d) d.met (from-once (flat_map (units_met d) d.met) u h) in
      met-is m.0 m.1 u m.2

  -- where each family is found by its path, what is met is a unit
  module _ (found : (h : Family) → Has d.families h → family_at d.families h.path ≡ Some h) where
    alike : (v u : ProofUnit) → IsOfText v → IsOfText u → same_unit v u ≡ true → v ≡ u
    alike (map_of a g) (map_of b h) p q e =
        let names : a ≡ b = (bytes_eq-Decides a b).0 (left_of (bytes_eq a b) (same_path g.path h.path) e) in
        let paths : g.path ≡ h.path = path-equal g.path h.path (right_of (bytes_eq a b) (same_path g.path h.path) e) in
        let one : g ≡ h = some_is (sym (found g p) ∙ (ap (family_at d.families) paths ∙ found h q)) in
        ap (λ a. map_of a g) names ∙ ap (map_of b) one
    alike (map_of a g) (claim_of c) p q e = absurd (cc (e))
    alike (claim_of c) (map_of b h) p q e = absurd (cc (e))
    alike (claim_of c) (claim_of e) p q s = absurd (cc (s))

    met-there : (m : Met) → Has d.met m → (u : ProofUnit) → Has (units_met d m) u → Has (units d) u
    met-there m there u h =
        once-Has (flat_map (units_met d) d.met) u (Has-flat_map (units_met d) there h)
        (λ v k. alike v u (of-text v k) (met-is m there u h))
      where
        of-text : (v : ProofUnit) → Has (flat_map (units_met d) d.met) v → IsOfText v
        of-text v k = let r : (m : Met) × Has d.met m × Has (units_met d m) v = Has-from_flat_map (units_met d) d.met k in met-is r.0 r.1 v r.2

    pub claim-there : (c : Claimed) → Has (claims_met d.met) c → Has (units d) (claim_of c)
    claim-there c h = met-there (claimed c) (claims-from d.met c h) (claim_of c) first

    -- a statement of a layer that assigns a family whose base definition is another
    pub map-there : (x : Said) → Has (flat_map said_in d.met) x → (layer : Name) → x.layer ≡ Some layer → (h : Family) → Has d.families h → is_defined_by h.path x ≡ true → Has (map_unless_base d layer h) (map_of layer h) → Has (units d) (map_of layer h)
    map-there x there layer in_layer h family defined refines =
        let a : (a : Assigned) × Has (assignments_in x) a × (same_path a.path h.path ≡ true) = any-some (λ (a : Assigned). same_path a.path h.path) (assignments_in x) defined in
        let at : family_at d.families a.0.path ≡ Some h = ap (family_at d.families) (path-equal a.0.path h.path a.2) ∙ found h family in
        let one : Has (flat_map (map_unless_base d layer) (option_to_list (family_at d.families a.0.path))) (map_of layer h) =
        subst (λ o. Has (flat_map (map_unless_base d layer) (option_to_list o)) (map_of layer h)) (sym at) (Has-flat_map (map_unless_base d layer) (first {x = h} {xs = []}) refines) in
        met-there (said x) (said-from d.met x there) (map_of layer h)
        (subst (λ o. Has (maps_of d o (assignments_in x)) (map_of layer h)) (sym in_layer)
        (Has-flat_map (λ (a : Assigned). flat_map (map_unless_base d layer) (option_to_list (family_at d.families a.path))) a.1 one))
