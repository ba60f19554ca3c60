-- The units of a text and of its translation.
use Rattle.law_formula_trees.proofs.Lists.{each-front, each-mapped, each-member, each-passed, each-two, each-unmapped}
use Rattle.std.proofs.Common.{◌≡◌, ℕ, List, [], ◌∷◌, ◌++◌, map, filter, flat_map, Option, Some, None, option_to_list, Bool, true, false, not, cond, All, Contains, refl, sym, ap, ◌∙◌, subst, true≢false}
use Rattle.std.specs.Str.{bytes_eq}
use Rattle.std.specs.List.{AllByRecursion}
use Rattle.std.proofs.lemmas.Slice.Eq.{bytes_eq-Decides}
use Rattle.std.proofs.lemmas.Bool.{not-true}
use Rattle.std.proofs.lemmas.List.Elements.{All-from_recursion, recursion_from_All, All-contains_itself}
use Rattle.law_lists.proofs.Booleans.{left_of, right_of}
use Rattle.law_lists.proofs.Options.{some_is}
use Rattle.law_lists.proofs.Each.{each_append, each_filter, each_in_any, each_weaker}
use Rattle.law_lists.proofs.Lists.{append_same}
use Rattle.smv_core.specs.Values.{Name, Sizes}
use Rattle.smv_core.specs.Types.{Family, IsSizedTop, values_over}
use Rattle.smv_core.specs.FlatOrder.{TextDesign, design_of, Met, said, claimed, Said, Claimed}
use Rattle.smv_core.specs.Outcome.{State, family_at, same_path}
use Rattle.smv_core.specs.Assignments.{Assigned}
use Rattle.smv_core.specs.Allowed.{Base, assignments_in, base_of, is_layer, said_in}
use Rattle.smv_core.specs.Sound.{ProofUnit, map_of, claim_of, same_unit, once, map_unless_base, maps_of, units_met, units, instances, indexes_in, choices, AtEachTime, Holds, IsRun, AreSizes}
use Rattle.smv_core.specs.declared.tree.Top.{Top}
use Rattle.smv_core.specs.declared.tree.Top.TheVariants.{SetType, Alias, Module}
use Rattle.law_formulas.specs.Formulas.{FormulaText, HoldsAlong, of_body}
use Rattle.law_formulas.specs.Monitors.{Watched, watched, layer_of, translation, translated_top}
use Rattle.law_watched_runs.specs.Extended.{statements, is_fresh, is_other_layer}
use Rattle.law_watched_runs.proofs.Extended.{path-equal, layer-equal, family-same, found-path, base-same, find-among, all-each, all-of-two}
use Rattle.law_formula_trees.specs.Placed.{claimed_in, claims_of, watched_claim, MonitorsFit, IsOldClaim}
use Rattle.law_formula_trees.specs.Trees.{TranslationIsExact}
use Rattle.law_formula_trees.proofs.SameTrees.{types-kept, families-kept}
use Rattle.law_formula_trees.proofs.SameStatements.{statements-kept}
use Rattle.law_formula_trees.proofs.SameClaims.{claims-translated}
use Rattle.law_formula_trees.proofs.Joined.{extends, layer-is-base}
use Rattle.law_formula_trees.proofs.Meant.{meant, plans-of, maps-meant}

-- ---- units, each once

-- a map's family is the one that is found at its path
abbrev IsFound : TextDesign → ProofUnit → Type 0
IsFound d (map_of layer f) = family_at d.families f.path ≡ Some f
IsFound d (claim_of c) = Unit {0}

to-once : (P : ProofUnit → Type 0) (us : List ProofUnit) → AllByRecursion P us → AllByRecursion P (once us)
to-once P [] h = tt
to-once P (u ∷ us) h = (h.0, each_filter P (λ v. not (same_unit u v)) (once us) (to-once P us h.1))

module _ (d : TextDesign) where
  same-is : (u v : ProofUnit) → IsFound d u → IsFound d v → same_unit u v ≡ true → u ≡ v
  same-is (map_of a f) (map_of b g) p q h =
      let names : a ≡ b = (bytes_eq-Decides a b).0 (left_of (bytes_eq a b) _ h) in
      let paths : f.path ≡ g.path = path-equal f.path g.path (right_of (bytes_eq a b) _ h) in
      ap (λ l. map_of l f) names ∙ ap (map_of b) (some_is (sym p ∙ ap (family_at d.families) paths ∙ q))
  same-is (map_of a f) (claim_of c) p q h = absurd (true≢false (sym h))
  same-is (claim_of c) v p q h = absurd (true≢false (sym h))

  module _ (P : ProofUnit → Type 0) where
    from-filter : (u : ProofUnit) → IsFound d u → P u → (vs : List ProofUnit) → AllByRecursion (IsFound d) vs → AllByRecursion P (filter (λ v. not (same_unit u v)) vs) → AllByRecursion P vs
    from-filter u found p [] all h = tt
    from-filter u found p (v ∷ vs) all h = by_test (same_unit u v) refl h (from-filter u found p vs all.1)
      where
        by_test : (b : Bool) → same_unit u v ≡ b → AllByRecursion P (cond (not b) (v ∷ filter (λ w. not (same_unit u w)) vs) (filter (λ w. not (same_unit u w)) vs)) →
            (AllByRecursion P (filter (λ w. not (same_unit u w)) vs) → AllByRecursion P vs) → P v × AllByRecursion P vs
        by_test true e k rest = (subst P (same-is u v found all.0 e) p, rest k)
        by_test false e k rest = (k.0, rest k.1)

    from-once : (us : List ProofUnit) → AllByRecursion (IsFound d) us → AllByRecursion P (once us) → AllByRecursion P us
    from-once [] all h = tt
    from-once (u ∷ us) all h = (h.0, from-once us all.1 (from-filter u all.0 h.0 (once us) (to-once (IsFound d) us all.1) h.1))

  -- what holds of a map, where the layer is not the base
  module _ (P : ProofUnit → Type 0) (layer : Name) (f : Family) where
    abbrev is_base : Base → Bool
    is_base None = false
    is_base (Some other) = is_layer other (Some layer)

    by-test : (b : Bool) → (b ≡ false → P (map_of layer f)) → AllByRecursion P (cond b [] (map_of layer f ∷ []) ++ [])
    by-test true h = tt
    by-test false h = (h refl, tt)

    unless-base : (is_base (base_of d f) ≡ false → P (map_of layer f)) → AllByRecursion P (map_unless_base d layer f ++ [])
    unless-base h = by-test (is_base (base_of d f)) h

  maps-each : (P : ProofUnit → Type 0) (layer : Name) (as' : List Assigned) →
      AllByRecursion (λ (a : Assigned). (f : Family) → family_at d.families a.path ≡ Some f → is_base P layer f (base_of d f) ≡ false → P (map_of layer f)) as' → AllByRecursion P (maps_of d (Some layer) as')
  maps-each P layer [] h = tt
  maps-each P layer (a ∷ as') h = each_append P (flat_map (map_unless_base d layer) (option_to_list (family_at d.families a.path))) (maps_of d (Some layer) as') (one (family_at d.families a.path) refl) (maps-each P layer as' h.1)
    where
      one : (o : Option Family) → family_at d.families a.path ≡ o → AllByRecursion P (flat_map (map_unless_base d layer) (option_to_list o))
      one None e = tt
      one (Some f) e = unless-base P layer f (h.0 f e)

  each-assigned : (Q : Assigned → Type 0) → ((a : Assigned) → Q a) → (as' : List Assigned) → AllByRecursion Q as'
  each-assigned Q h [] = tt
  each-assigned Q h (a ∷ as') = (h a, each-assigned Q h as')

  found-at : (a : Assigned) (f : Family) → family_at d.families a.path ≡ Some f → family_at d.families f.path ≡ Some f
  found-at a f e = ap (family_at d.families) (found-path [] d.families a.path f e) ∙ e

  maps-found : (layer : Option Name) (as' : List Assigned) → AllByRecursion (IsFound d) (maps_of d layer as')
  maps-found None as' = tt
  maps-found (Some layer) as' = maps-each (IsFound d) layer as' (each-assigned _ (λ a f e k. found-at a f e) as')

  met-found : (x : Met) → AllByRecursion (IsFound d) (units_met d x)
  met-found (said x) = maps-found x.layer (assignments_in x)
  met-found (claimed c) = (tt, tt)

  -- ---- units of statements, and of claims

  module _ (P : ProofUnit → Type 0) where
    abbrev OfSaid : Said → Type 0
    OfSaid x = AllByRecursion P (maps_of d x.layer (assignments_in x))

    abbrev OfClaim : Claimed → Type 0
    OfClaim c = P (claim_of c)

    join-met : (met : List Met) → AllByRecursion OfSaid (flat_map said_in met) → AllByRecursion OfClaim (flat_map claimed_in met) → AllByRecursion P (flat_map (units_met d) met)
    join-met [] h k = tt
    join-met (said x ∷ met) h k = each_append P (units_met d (said x)) (flat_map (units_met d) met) h.0 (join-met met h.1 k)
    join-met (claimed c ∷ met) h k = (k.0, join-met met h k.1)

    part-met : (met : List Met) → AllByRecursion P (flat_map (units_met d) met) → AllByRecursion OfSaid (flat_map said_in met) × AllByRecursion OfClaim (flat_map claimed_in met)
    part-met [] h = (tt, tt)
    part-met (said x ∷ met) h =
        let r = each-front P (units_met d (said x)) (flat_map (units_met d) met) h in
        let q = part-met met r.1 in
        ((r.0, q.0), q.1)
    part-met (claimed c ∷ met) h = let q = part-met met h.1 in (q.0, (h.0, q.1))

    join-units : AllByRecursion OfSaid (statements d) → AllByRecursion OfClaim (claims_of d) → AllByRecursion P (units d)
    join-units h k = to-once P (flat_map (units_met d) d.met) (join-met d.met h k)

    part-units : AllByRecursion P (units d) → AllByRecursion OfSaid (statements d) × AllByRecursion OfClaim (claims_of d)
    part-units h = part-met d.met (from-once P (flat_map (units_met d) d.met) (each_in_any (IsFound d) (units_met d) met-found d.met) h)

-- ---- the two texts

module _ (names : List Name) (ft : FormulaText) (fits : MonitorsFit names (watched ft.formulas names) (layer_of names ft) ft.text) (old : AllByRecursion (IsOldClaim names ft.formulas) (claims_of (design_of ft.text))) (sizes : Sizes) where
  abbrev plan : List (ℕ × Watched)
  plan = watched ft.formulas names

  abbrev layer : Name
  layer = layer_of names ft

  abbrev d : TextDesign
  d = design_of ft.text

  abbrev e : TextDesign
  e = design_of (translation plan layer ft.text)

  -- what a unit says in all runs of the text, and in all runs of the translation
  abbrev SaysOld : ProofUnit → Type 0
  SaysOld u = All (λ vs. (run : List State) → IsRun d sizes run → HoldsAlong d ft.formulas sizes u vs run) (instances d sizes u)

  abbrev SaysNew : ProofUnit → Type 0
  SaysNew u = All (λ vs. (run : List State) → IsRun e sizes run → AtEachTime (Holds e sizes u vs) None run) (instances e sizes u)

  -- ---- maps

  abbrev IsOldMap : ProofUnit → Type 0
  IsOldMap (map_of l f) = (bytes_eq l layer ≡ false) × (is_fresh names f.path ≡ false)
  IsOldMap (claim_of c) = ⊥

  map-new : (u : ProofUnit) → IsOldMap u → SaysOld u → SaysNew u
  map-new (map_of l f) k h = all-each _ _ (λ vs. (maps-meant names plan layer ft.text fits sizes l f vs k.0 k.1).0) (indexes_in sizes f) h
  map-new (claim_of c) k h = absurd k

  map-old : (u : ProofUnit) → IsOldMap u → SaysNew u → SaysOld u
  map-old (map_of l f) k h = all-each _ _ (λ vs. (maps-meant names plan layer ft.text fits sizes l f vs k.0 k.1).1) (indexes_in sizes f) h
  map-old (claim_of c) k h = absurd k

  abbrev AreOld : List Assigned → Type 0
  AreOld as' = AllByRecursion (λ (a : Assigned). is_fresh names a.path ≡ false) as'

  old-at : (a : Assigned) (f : Family) → is_fresh names a.path ≡ false → family_at d.families a.path ≡ Some f → is_fresh names f.path ≡ false
  old-at a f h k = ap (is_fresh names) (found-path names d.families a.path f k) ∙ h

  maps-old : (l : Option Name) → not (is_layer l (Some layer)) ≡ true → (as' : List Assigned) → AreOld as' → AllByRecursion IsOldMap (maps_of d l as')
  maps-old None other as' h = tt
  maps-old (Some l) other as' h = maps-each d IsOldMap l as' (each-to as' h)
    where
      each-to : (as' : List Assigned) → AreOld as' → AllByRecursion (λ (a : Assigned). (f : Family) → family_at d.families a.path ≡ Some f → is_base d IsOldMap l f (base_of d f) ≡ false → IsOldMap (map_of l f)) as'
      each-to as' all = each_weaker _ _ (λ a k f found base. (not-true (bytes_eq l layer) other, old-at a f k found)) as' all

  same-map : (l : Name) (f : Family) → is_fresh names f.path ≡ false → map_unless_base e l f ≡ map_unless_base d l f
  same-map l f h = ap (λ b. cond (is_base d IsOldMap l f b) [] (map_of l f ∷ [])) (base-same names layer sizes d e (extends names plan layer ft.text fits sizes) f h)

  same-assigned : (l : Name) (a : Assigned) → is_fresh names a.path ≡ false →
      flat_map (map_unless_base e l) (option_to_list (family_at e.families a.path)) ≡ flat_map (map_unless_base d l) (option_to_list (family_at d.families a.path))
  same-assigned l a h =
      ap (λ o. flat_map (map_unless_base e l) (option_to_list o)) (family-same names d.families e.families (families-kept names plan layer ft.text fits.monitors fits.families) a.path h)
      ∙ by_family (family_at d.families a.path) refl
    where
      by_family : (o : Option Family) → family_at d.families a.path ≡ o → flat_map (map_unless_base e l) (option_to_list o) ≡ flat_map (map_unless_base d l) (option_to_list o)
      by_family None k = refl
      by_family (Some f) k = ap (λ us. us ++ []) (same-map l f (old-at a f h k))

  maps-same : (l : Option Name) (as' : List Assigned) → AreOld as' → maps_of e l as' ≡ maps_of d l as'
  maps-same None as' h = refl
  maps-same (Some l) [] h = refl
  maps-same (Some l) (a ∷ as') h = append_same (same-assigned l a h.0) (maps-same (Some l) as' h.1)

  -- ---- statements

  abbrev OldSaid : Said → Type 0
  OldSaid x = AllByRecursion SaysOld (maps_of d x.layer (assignments_in x))

  abbrev NewSaid : Said → Type 0
  NewSaid x = AllByRecursion SaysNew (maps_of e x.layer (assignments_in x))

  said-new : (x : Said) → is_other_layer layer x ≡ true → AreOld (assignments_in x) → OldSaid x → NewSaid x
  said-new x other h k = subst (AllByRecursion SaysNew) (sym (maps-same x.layer (assignments_in x) h))
      (each-two IsOldMap SaysOld SaysNew map-new (maps_of d x.layer (assignments_in x)) (maps-old x.layer other (assignments_in x) h) k)

  said-old : (x : Said) → is_other_layer layer x ≡ true → AreOld (assignments_in x) → NewSaid x → OldSaid x
  said-old x other h k =
      each-two IsOldMap SaysNew SaysOld map-old (maps_of d x.layer (assignments_in x)) (maps-old x.layer other (assignments_in x) h) (subst (AllByRecursion SaysNew) (maps-same x.layer (assignments_in x) h) k)

  -- the layer's own statements define no map
  own-silent : (x : Said) → AllByRecursion (λ (a : Assigned). is_fresh names a.path ≡ true) (assignments_in x) → is_other_layer layer x ≡ false → NewSaid x
  own-silent x fresh own = by_layer x.layer (layer-equal x.layer (Some layer) (is-own (is_layer x.layer (Some layer)) own))
    where
      is-own : (b : Bool) → not b ≡ false → b ≡ true
      is-own true h = refl
      is-own false h = absurd (true≢false h)

      silent : (a : Assigned) → is_fresh names a.path ≡ true → (f : Family) → family_at e.families a.path ≡ Some f → is_base e SaysNew layer f (base_of e f) ≡ false → SaysNew (map_of layer f)
      silent a new f found h =
          let in_e : Contains e.families f = find-among (Contains e.families) (λ g. same_path g.path a.path) e.families f (each-member e.families) found in
          let base : base_of e f ≡ Some (Some layer) = layer-is-base names plan layer ft.text fits sizes f in_e (ap (is_fresh names) (found-path names e.families a.path f found) ∙ new) in
          absurd (true≢false (sym ((bytes_eq-Decides layer layer).1 refl) ∙ sym (ap (is_base e SaysNew layer f) base) ∙ h))

      by_layer : (l : Option Name) → l ≡ Some layer → AllByRecursion SaysNew (maps_of e l (assignments_in x))
      by_layer l h = subst (λ k. AllByRecursion SaysNew (maps_of e k (assignments_in x))) (sym h) (maps-each e SaysNew layer (assignments_in x) (each_weaker _ _ silent (assignments_in x) fresh))

  abbrev same-said : filter (is_other_layer layer) (statements e) ≡ statements d
  same-said = statements-kept names plan layer ft.text fits.monitors fits.formals fits.layers

  saids-new : AllByRecursion OldSaid (statements d) → AllByRecursion NewSaid (statements e)
  saids-new h =
      let each : AllByRecursion NewSaid (statements d) = each-two (λ x. is_other_layer layer x ≡ true) (λ x. AreOld (assignments_in x) × OldSaid x) NewSaid (λ x other k. said-new x other k.0 k.1) (statements d) fits.layers
      (each-two (λ x. AreOld (assignments_in x)) OldSaid (λ x. AreOld (assignments_in x) × OldSaid x) (λ x p q. (p, q)) (statements d) fits.left h) in
      each-two (λ x. is_other_layer layer x ≡ true → NewSaid x) (λ x. is_other_layer layer x ≡ false → AllByRecursion (λ (a : Assigned). is_fresh names a.path ≡ true) (assignments_in x)) NewSaid one (statements e)
      (each-passed NewSaid (is_other_layer layer) (statements e) (subst (AllByRecursion NewSaid) (sym same-said) each)) (extends names plan layer ft.text fits sizes).own
    where
      one : (x : Said) → (is_other_layer layer x ≡ true → NewSaid x) → (is_other_layer layer x ≡ false → AllByRecursion (λ (a : Assigned). is_fresh names a.path ≡ true) (assignments_in x)) → NewSaid x
      one x p q = by_test (is_other_layer layer x) refl
        where
          by_test : (b : Bool) → is_other_layer layer x ≡ b → NewSaid x
          by_test true k = p k
          by_test false k = own-silent x (q k) k

  saids-old : AllByRecursion NewSaid (statements e) → AllByRecursion OldSaid (statements d)
  saids-old h =
      each-two (λ x. is_other_layer layer x ≡ true) (λ x. AreOld (assignments_in x) × NewSaid x) OldSaid (λ x other k. said-old x other k.0 k.1) (statements d) fits.layers
      (each-two (λ x. AreOld (assignments_in x)) NewSaid (λ x. AreOld (assignments_in x) × NewSaid x) (λ x p q. (p, q)) (statements d) fits.left
      (subst (AllByRecursion NewSaid) same-said (each_filter NewSaid (is_other_layer layer) (statements e) h)))

  -- ---- claims

  abbrev new_claim : Claimed → Claimed
  new_claim c = watched_claim (of_body plan c.body) c

  instances-same : (c : Claimed) → instances e sizes (claim_of (new_claim c)) ≡ instances d sizes (claim_of c)
  instances-same c = by_plan (of_body plan c.body) ∙ ap (λ types. choices (map (λ (name, over). values_over types sizes over) c.params)) (types-kept plan layer ft.text)
    where
      by_plan : (o : Option Watched) → instances e sizes (claim_of (watched_claim o c)) ≡ choices (map (λ (name, over). values_over e.types sizes over) c.params)
      by_plan None = refl
      by_plan (Some w) = refl

  claim-new : (c : Claimed) → Contains (claims_of d) c → IsOldClaim names ft.formulas c → SaysOld (claim_of c) → SaysNew (claim_of (new_claim c))
  claim-new c has is_old h = subst (All (λ vs. (run : List State) → IsRun e sizes run → AtEachTime (Holds e sizes (claim_of (new_claim c)) vs) None run)) (sym (instances-same c))
      (all-of-two (λ vs. (run : List State) → IsRun d sizes run → HoldsAlong d ft.formulas sizes (claim_of c) vs run) (Contains (instances d sizes (claim_of c))) (λ vs. (run : List State) → IsRun e sizes run → AtEachTime (Holds e sizes (claim_of (new_claim c)) vs) None run)
      (λ vs p chosen. (meant names plan layer ft.text fits sizes ft.formulas (plans-of ft.formulas names) c has is_old vs chosen).0 p) (instances d sizes (claim_of c)) h (All-contains_itself (instances d sizes (claim_of c))))

  claim-old : (c : Claimed) → Contains (claims_of d) c → IsOldClaim names ft.formulas c → SaysNew (claim_of (new_claim c)) → SaysOld (claim_of c)
  claim-old c has is_old h =
      all-of-two (λ vs. (run : List State) → IsRun e sizes run → AtEachTime (Holds e sizes (claim_of (new_claim c)) vs) None run) (Contains (instances d sizes (claim_of c))) (λ vs. (run : List State) → IsRun d sizes run → HoldsAlong d ft.formulas sizes (claim_of c) vs run)
      (λ vs p chosen. (meant names plan layer ft.text fits sizes ft.formulas (plans-of ft.formulas names) c has is_old vs chosen).1 p) (instances d sizes (claim_of c))
      (subst (All (λ vs. (run : List State) → IsRun e sizes run → AtEachTime (Holds e sizes (claim_of (new_claim c)) vs) None run)) (instances-same c) h) (All-contains_itself (instances d sizes (claim_of c)))

  abbrev IsKnown : Claimed → Type 0
  IsKnown c = Contains (claims_of d) c × IsOldClaim names ft.formulas c

  known-all : AllByRecursion IsKnown (claims_of d)
  known-all = each-two (Contains (claims_of d)) (IsOldClaim names ft.formulas) IsKnown (λ c p q. (p, q)) (claims_of d) (each-member (claims_of d)) old

  claims-new : AllByRecursion (λ c. SaysOld (claim_of c)) (claims_of d) → AllByRecursion (λ c. SaysNew (claim_of c)) (claims_of e)
  claims-new h = subst (AllByRecursion (λ c. SaysNew (claim_of c))) (sym (claims-translated plan layer ft.text fits.flat))
      (each-mapped (λ c. SaysNew (claim_of c)) new_claim (claims_of d) (each-two IsKnown (λ c. SaysOld (claim_of c)) (λ c. SaysNew (claim_of (new_claim c))) (λ c k. claim-new c k.0 k.1) (claims_of d) known-all h))

  claims-old : AllByRecursion (λ c. SaysNew (claim_of c)) (claims_of e) → AllByRecursion (λ c. SaysOld (claim_of c)) (claims_of d)
  claims-old h = each-two IsKnown (λ c. SaysNew (claim_of (new_claim c))) (λ c. SaysOld (claim_of c)) (λ c k. claim-old c k.0 k.1) (claims_of d) known-all
      (each-unmapped (λ c. SaysNew (claim_of c)) new_claim (claims_of d) (subst (AllByRecursion (λ c. SaysNew (claim_of c))) (claims-translated plan layer ft.text fits.flat) h))

  -- ---- units

  units-new : AllByRecursion SaysOld (units d) → AllByRecursion SaysNew (units e)
  units-new h = let r = part-units d SaysOld h in join-units e SaysNew (saids-new r.0) (claims-new r.1)

  units-old : AllByRecursion SaysNew (units e) → AllByRecursion SaysOld (units d)
  units-old h = let r = part-units e SaysNew h in join-units d SaysOld (saids-old r.0) (claims-old r.1)

  -- ---- sizes

  top-new : (top : Top) → IsSizedTop sizes top → IsSizedTop sizes (translated_top plan layer top)
  top-new (SetType word ordered span at) h = h
  top-new (Alias word of at) h = h
  top-new (Module word formals body at) h = tt

  top-old : (top : Top) → IsSizedTop sizes (translated_top plan layer top) → IsSizedTop sizes top
  top-old (SetType word ordered span at) h = h
  top-old (Alias word of at) h = h
  top-old (Module word formals body at) h = tt

  sized-new : AreSizes ft.text sizes → AreSizes (translation plan layer ft.text) sizes
  sized-new h = All-from_recursion (IsSizedTop sizes) _ (each-mapped (IsSizedTop sizes) (translated_top plan layer) ft.text.tops (each_weaker _ _ top-new ft.text.tops (recursion_from_All (IsSizedTop sizes) ft.text.tops h)))

  sized-old : AreSizes (translation plan layer ft.text) sizes → AreSizes ft.text sizes
  sized-old h = All-from_recursion (IsSizedTop sizes) ft.text.tops (each_weaker _ _ top-old ft.text.tops (each-unmapped (IsSizedTop sizes) (translated_top plan layer) ft.text.tops (recursion_from_All (IsSizedTop sizes) _ h)))

pub exact : TranslationIsExact
exact names ft fits old = (
  λ sound sizes sized run isrun k u lt i vs low.
      All-from_recursion (SaysNew names ft fits old sizes) (units (e names ft fits old sizes)) (units-new names ft fits old sizes
      (recursion_from_All (SaysOld names ft fits old sizes) (units (d names ft fits old sizes)) (λ j v l m ws low' r isr. sound sizes (sized-old names ft fits old sizes sized) r isr j v l m ws low'))) k u lt i vs low run isrun,
  λ sound sizes sized run isrun k u lt i vs low.
      All-from_recursion (SaysOld names ft fits old sizes) (units (d names ft fits old sizes)) (units-old names ft fits old sizes
      (recursion_from_All (SaysNew names ft fits old sizes) (units (e names ft fits old sizes)) (λ j v l m ws low' r isr. sound sizes (sized-new names ft fits old sizes sized) r isr j v l m ws low'))) k u lt i vs low run isrun,
)
