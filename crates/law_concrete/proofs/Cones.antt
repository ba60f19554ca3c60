-- The cone of a unit at given sizes: its elements, and that it has what the unit and the base definitions read.
use Rattle.std.proofs.Common.{is_some, ◌≡◌, ℕ, zero, suc, ◌<◌, List, [], ◌∷◌, ◌++◌, map, length, take, Bool, true, false, if◌then◌else◌, refl, sym, ap, subst, ◌∙◌, inl, inr, Option, Some, None, option_to_list, arith}
use Rattle.std.specs.List.{slice_get, list_any, list_all}
use Rattle.smv_core.specs.Values.{Value, Sizes, numbers_from}
use Rattle.smv_core.specs.Assignments.{Index, fixed, bare, computed}
use Rattle.smv_core.specs.FlatMeaning.{Numbered, values_in}
use Rattle.smv_core.specs.declared.flat.Family.{Family}
use Rattle.smv_core.specs.declared.flat.Simple.{Simple}
use Rattle.smv_core.specs.declared.flat.Def.{Def}
use Rattle.smv_core.specs.declared.flat.Claim.{Claim}
use Rattle.smv_core.specs.declared.flat.DefBody.{DefBody}
use Rattle.smv_core.specs.declared.flat.FlatExpr.{FlatExpr}
use Rattle.smv_core.specs.declared.flat.Design.{Design}
use Rattle.smv_core.specs.declared.flat.Unit.{Unit}
use Rattle.law_obligations.specs.Sets.{Has, first, one_of_each}
use Rattle.law_obligations.specs.Places.{Place, named, same_place, is_named, World, named_in, places_in}
use Rattle.law_obligations.specs.Soundness.{FlatUnit, map_of, claim_of, over_of, params_of, values_over}
use Rattle.law_obligations.specs.Reached.{is_among, reached, IsLeast}
use Rattle.law_obligations.specs.Reads.{is_own, is_bound_to, part_reads}
use Rattle.law_obligations.specs.Outlines.{Entry, Outline, base_of, unit_in}
use Rattle.law_obligations.specs.Cones.{AbsElement, element, same_element, index_places, each_index, elements_of, elements, elements_in, elements_at, elements_read, elements_of_def, own_elements, of_target, first_elements, next_elements, kept}
use Rattle.law_obligations.proofs.Members.{Has-left, Has-right, Has-map, Has-from_map, Has-flat_map, Has-uncons, any-found, any-some}
use Rattle.law_obligations.proofs.OneOfEach.{AreOf, are_of, one_of, are_long, Has-from_flat_map}
use Rattle.law_obligations.proofs.Spots.{Has-numbers, numbers-Has}
use Rattle.law_obligations.proofs.Lookups.{Has-tested, Has-filter, Has-from_filter}
use Rattle.law_obligations.proofs.ConeFacts.{same_element-itself, same_element-family, same_element-indexes, AreIndexes, in_cone-is}
use Rattle.law_obligations.proofs.Least.{reached_is_least}
use Rattle.law_obligations.proofs.ReadsWithin.{reads_within, part_within, either}
use Rattle.law_exact.specs.Exact.{whole_world, AreKept}
use Rattle.law_exact.proofs.Outcomes.{named_are}
use Rattle.law_concrete.specs.Concrete.{outlined, alone, sized, concrete_cone}
use Rattle.law_lists.proofs.Lists.{length_map}
use Rattle.law_lists.proofs.Places.{get_within}

same_element-is : (x y : AbsElement) → same_element x y ≡ true → x ≡ y
same_element-is x y e = ap (λ family. element family x.indexes) (same_element-family x y e) ∙ ap (element y.family) (same_element-indexes x y e)

-- an index of a reference lies at a place of its type
index_within : (b : List Place) (i : Index) (ps : List Place) (p : Place) → Has (index_places b i ps) p → Has ps p
index_within b (fixed None) ps p h = elim h [ ]
index_within b (fixed (Some v)) ps p h = (Has-from_filter (same_place (named v)) ps h).0
index_within b (bare var) ps p h = (Has-from_filter (is_bound_to (slice_get b var)) ps h).0
index_within b computed ps p h = h

indexes_within : (b : List Place) (indexes : List Index) (pss : List (List Place)) (ps : List Place) → AreOf (each_index b indexes pss) ps → AreOf pss ps
indexes_within b [] pss ps h = h
indexes_within b (i ∷ indexes) [] ps h = h
indexes_within b (i ∷ indexes) (qs ∷ pss) [] h = elim h [ ]
indexes_within b (i ∷ indexes) (qs ∷ pss) (p ∷ ps) h = (index_within b i qs p h.0, indexes_within b indexes pss ps h.1)

module _ (w : World) where
  element_there : (family : ℕ) (f : Family) → slice_get w.classes.families family ≡ Some f → (ps : List Place) → AreIndexes w family ps → Has (elements w) (element family ps)
  element_there family f e ps h = Has-flat_map (elements_of w)
      (Has-numbers 0 (length w.classes.families) family (omega arith) (let l = get_within w.classes.families family (ap is_some e) in omega (arith, l))) (Has-map (element family) h)

  in_within : (family : ℕ) (indexes : List Index) (b : List Place) (y : AbsElement) (o : Option Family) → slice_get w.classes.families family ≡ o → Has (elements_in w family indexes b o) y → Has (elements w) y
  in_within family indexes b y None e h = elim h [ ]
  in_within family indexes b y (Some f) e h =
      let r = Has-from_map (element family) (one_of_each (each_index b indexes (map (named_in w) f.over))) h in
      let are = indexes_within b indexes (map (named_in w) f.over) r.0 (are_of (each_index b indexes (map (named_in w) f.over)) r.0 r.1) in
      subst (Has (elements w)) (sym r.2) (element_there family f e r.0 (subst (λ o. Has (one_of_each (map (named_in w) (over_of o))) r.0) (sym e) (one_of (map (named_in w) f.over) r.0 are)))

  at_within : (family : ℕ) (indexes : List Index) (b : List Place) (y : AbsElement) → Has (elements_at w family indexes b) y → Has (elements w) y
  at_within family indexes b y h = in_within family indexes b y (slice_get w.classes.families family) refl h

  read_within : (e : FlatExpr) (b : List Place) (y : AbsElement) → Has (elements_read w e b) y → Has (elements w) y
  read_within e b y h = reads_within (named_in w) (elements_at w) (Has (elements w)) at_within e b y h

  abbrev part : List Place → DefBody → List AbsElement
  part indexes p = part_reads (places_in w) (is_own indexes) (named_in w) (elements_at w) p []

  def_within : (indexes : List Place) (def : Def) (y : AbsElement) → Has (elements_of_def w indexes def) y → Has (elements w) y
  def_within indexes def y h = either (part indexes def.init ++ part indexes def.next) (part indexes def.comb) h
      (λ k. either (part indexes def.init) (part indexes def.next) k (of_part def.init) (of_part def.next)) (of_part def.comb)
    where
      of_part : (p : DefBody) → Has (part indexes p) y → Has (elements w) y
      of_part p k = part_within (named_in w) (elements_at w) (Has (elements w)) at_within (places_in w) (is_own indexes) p [] y k

  -- an element of a case is one of a family
  family-of : (x : AbsElement) → Has (elements w) x → (f : Family) × (slice_get w.classes.families x.family ≡ Some f)
  family-of x h =
      let r = Has-from_flat_map (elements_of w) (numbers_from 0 (length w.classes.families)) h in
      let q = Has-from_map (element r.0) (one_of_each (map (named_in w) (over_of (slice_get w.classes.families r.0)))) r.2 in
      let f = there w.classes.families r.0 (let l = (numbers-Has 0 (length w.classes.families) r.0 r.1).1 in omega (arith, l)) in
      (f.0, subst (λ (x : AbsElement). slice_get w.classes.families x.family ≡ Some f.0) (sym q.2) f.1)
    where
      there : {X : Type 0} (xs : List X) (k : ℕ) → k < length xs → (x : X) × (slice_get xs k ≡ Some x)
      there [] k l = absurd (omega (arith, l))
      there (x ∷ xs) zero l = (x, refl)
      there (x ∷ xs) (suc k) l = there xs k (omega (arith, l))

named_values : (n : Numbered) (types : List Simple) (vs : List Value) → AreOf (map (values_in n) types) vs → AreOf (map (named_in (whole_world n)) types) (map named vs)
named_values n [] [] h = tt
named_values n [] (v ∷ vs) h = elim h [ ]
named_values n (t ∷ types) [] h = elim h [ ]
named_values n (t ∷ types) (v ∷ vs) h = (subst (λ ps. Has ps (named v)) (sym (named_are n t)) (Has-map named h.0), named_values n types vs h.1)

values_named : (n : Numbered) (types : List Simple) (ps : List Place) → AreOf (map (named_in (whole_world n)) types) ps → (vs : List Value) × AreOf (map (values_in n) types) vs × (ps ≡ map named vs)
values_named n [] [] h = ([], tt, refl)
values_named n [] (p ∷ ps) h = elim h [ ]
values_named n (t ∷ types) [] h = elim h [ ]
values_named n (t ∷ types) (p ∷ ps) h =
    let v = Has-from_map named (values_in n t) (subst (λ ps. Has ps p) (named_are n t) h.0) in
    let vs = values_named n types ps h.1 in
    (v.0 ∷ vs.0, (v.1, vs.1), ap (λ p. p ∷ ps) v.2 ∙ ap (λ ps. named v.0 ∷ ps) vs.2)

all-named : (vs : List Value) → list_all is_named (map named vs) ≡ true
all-named [] = refl
all-named (v ∷ vs) = all-named vs

module _ (d : Design) (sizes : Sizes) (unit : Unit) where
  abbrev n : Numbered
  n = sized d sizes

  abbrev w : World
  w = whole_world n

  abbrev o : Outline
  o = outlined d

  abbrev entry : Entry
  entry = alone unit

  -- the parameters of a map are an element of its family, those of a claim are as many as it has
  abbrev pub AreParams : List Value → Type 0
  AreParams values = AreOf (map (values_in n) (params_of n (unit_in d unit))) values

  module _ (values : List Value) (are : AreParams values) (there : (def : Def) → unit_in d unit ≡ map_of def → (f : Family) × (slice_get d.families def.family ≡ Some f)) where
    abbrev params : List Place
    params = map named values

    pub all_params : (types : List Simple) → types ≡ params_of n (unit_in d unit) → take (length types) params ≡ params
    all_params types e = subst (λ k. take k params ≡ params) (length_map named values ∙ (are_long (map (values_in n) (params_of n (unit_in d unit))) values are ∙ (length_map (values_in n) (params_of n (unit_in d unit)) ∙ ap length (sym e)))) (all params)
      where
        all : (ps : List Place) → take (length ps) ps ≡ ps
        all [] = refl
        all (p ∷ ps) = ap (λ ps. p ∷ ps) (all ps)

    own_there : (def : Def) → unit_in d unit ≡ map_of def → Has (elements w) (element def.family params)
    own_there def e =
        let f = there def e in
        element_there w def.family f.0 f.1 params (one_of (map (named_in w) (over_of (slice_get d.families def.family))) params (named_values n (over_of (slice_get d.families def.family)) values (subst (λ u. AreOf (map (values_in n) (params_of n u)) values) e are)))

    own_params : (def : Def) → unit_in d unit ≡ map_of def → take (length (over_of (slice_get d.families def.family))) params ≡ params
    own_params def e = all_params (over_of (slice_get d.families def.family)) (ap (params_of n) (sym e))

    own_within : (def : Def) → Has (elements w) (element def.family params) → (y : AbsElement) → Has (own_elements w o entry params def params) y → Has (elements w) y
    own_within def found y h = either (if list_all is_named params then element def.family params ∷ [] else []) (elements_of_def w params def) h
        (λ k. let t = Has-tested (list_all is_named params) k in elim (Has-uncons t.1) [ inl e ↦ subst (Has (elements w)) (sym e) found | inr m ↦ elim m [ ] ]) (def_within w params def y)

    target_within : (u : FlatUnit) → unit_in d unit ≡ u → (y : AbsElement) → Has (of_target w o entry params u) y → Has (elements w) y
    target_within (map_of def) e y h = own_within def (own_there def e) y (subst (λ ps. Has (own_elements w o entry params def ps) y) (own_params def e) h)
    target_within (claim_of claim) e y h = read_within w claim.body (take (length claim.params) params) y h

    first_within : (y : AbsElement) → Has (first_elements w o entry params) y → Has (elements w) y
    first_within y h = either (of_target w o entry params (unit_in d unit) ++ []) [] h (λ k. either (of_target w o entry params (unit_in d unit)) [] k (target_within (unit_in d unit) refl y) (λ m. elim m [ ])) (λ m. elim m [ ])

    next_within : (x y : AbsElement) → Has (elements w) x → Has (next_elements w o entry params x) y → Has (elements w) y
    next_within x y h k = let r = Has-from_flat_map (elements_of_def w x.indexes) (option_to_list (base_of d x.family)) k in def_within w x.indexes r.0 y r.2

    abbrev found : List AbsElement
    found = reached same_element (next_elements w o entry params) (length (elements w)) (first_elements w o entry params)

    found_least : IsLeast (next_elements w o entry params) (first_elements w o entry params) found
    found_least = reached_is_least same_element same_element-is same_element-itself (next_elements w o entry params) (elements w) (first_elements w o entry params) first_within next_within

    found_there : (x : AbsElement) → Has found x → Has (elements w) x
    found_there x h = let r = any-some (same_element x) (elements w) (found_least.is_least (λ x. list_any (same_element x) (elements w))
        (λ y k. any-found (same_element y) (first_within y k) (same_element-itself y))
        (λ y z e k. let q = any-some (same_element y) (elements w) e in any-found (same_element z) (next_within y z (subst (Has (elements w)) (sym (same_element-is y q.0 q.2)) q.1) k) (same_element-itself z)) x h) in
        subst (Has (elements w)) (sym (same_element-is x r.0 r.2)) r.1

    abbrev elements_kept : List AbsElement
    elements_kept = concrete_cone d sizes unit params

    to_cone : (x : AbsElement) → Has found x → Has elements_kept x
    to_cone x h = Has-filter (is_among same_element (next_elements w o entry params) found) (found_there x h) (any-found (same_element x) h (same_element-itself x))

    from_cone : (x : AbsElement) → Has elements_kept x → Has found x
    from_cone x h = let r = any-some (same_element x) found (Has-from_filter (is_among same_element (next_elements w o entry params) found) (elements w) h).1 in
        subst (Has found) (sym (same_element-is x r.0 r.2)) r.1

    -- the cone is the least set
    pub cone-least : IsLeast (next_elements w o entry params) (first_elements w o entry params) elements_kept
    cone-least = record {
      begins = λ x h. to_cone x (found_least.begins x h);
      goes_on = λ x y h k. to_cone y (found_least.goes_on x y (from_cone x h) k);
      is_least = λ other b g x h. found_least.is_least other b g x (from_cone x h);
    }

    -- what is in the cone is kept, and what is kept is in the cone
    pub cone-kept : (x : AbsElement) → Has elements_kept x → kept elements_kept x.family x.indexes ≡ true
    cone-kept x h = any-found (same_element (element x.family x.indexes)) h (same_element-itself x)

    pub kept-cone : (family : ℕ) (ps : List Place) → kept elements_kept family ps ≡ true → Has elements_kept (element family ps)
    kept-cone family ps k = let r = any-some (same_element (element family ps)) elements_kept k in subst (Has elements_kept) (sym (same_element-is (element family ps) r.0 r.2)) r.1

    -- what the target reads is kept
    pub target-kept : AreKept (kept elements_kept) (of_target w o entry params (unit_in d unit))
    target-kept x h = cone-kept x (to_cone x (found_least.begins x (Has-left [] (Has-left [] h))))

    own_found : (def : Def) → Has (own_elements w o entry params def params) (element def.family params)
    own_found def = at (list_all is_named params) (all-named values)
      where
        at : (b : Bool) → b ≡ true → Has ((if b then element def.family params ∷ [] else []) ++ elements_of_def w params def) (element def.family params)
        at true e = first
        at false e = absurd (cc (e))

    -- the element of a map is kept, and what its definition reads
    pub map-kept : (def : Def) → unit_in d unit ≡ map_of def → (kept elements_kept def.family params ≡ true) × AreKept (kept elements_kept) (elements_of_def w params def)
    map-kept def e =
        let k : AreKept (kept elements_kept) (own_elements w o entry params def params) =
        subst (λ ps. AreKept (kept elements_kept) (own_elements w o entry params def ps)) (own_params def e) (subst (λ u. AreKept (kept elements_kept) (of_target w o entry params u)) e target-kept) in
        (k (element def.family params) (own_found def), λ y i. k y (Has-right (if list_all is_named params then element def.family params ∷ [] else []) i))

    -- so is what a claim reads
    pub claim-kept : (claim : Claim) → unit_in d unit ≡ claim_of claim → AreKept (kept elements_kept) (elements_read w claim.body params)
    claim-kept claim e =
        subst (λ ps. AreKept (kept elements_kept) (elements_read w claim.body ps)) (subst (λ k. take k params ≡ params) (length_map (λ p. p.over) claim.params) (all_params (map (λ p. p.over) claim.params) (ap (params_of n) (sym e))))
        (subst (λ u. AreKept (kept elements_kept) (of_target w o entry params u)) e target-kept)

    -- so is what the base definition of a kept element reads
    pub base-kept : (x : AbsElement) → Has elements_kept x → (def : Def) → base_of d x.family ≡ Some def → AreKept (kept elements_kept) (elements_of_def w x.indexes def)
    base-kept x h def e y k =
        cone-kept y (to_cone y (found_least.goes_on x y (from_cone x h) (Has-flat_map (elements_of_def w x.indexes) (subst (λ o. Has (option_to_list o) def) (sym e) first) k)))

    -- the elements of the cone are at values
    pub cone-values : (family : ℕ) (f : Family) → slice_get d.families family ≡ Some f → (ps : List Place) → Has elements_kept (element family ps) → (vs : List Value) × Has (values_over n f.over) vs × (ps ≡ map named vs)
    cone-values family f e ps h =
        let i : AreIndexes w family ps = in_cone-is w o entry params (element family ps) h in
        let r = values_named n f.over ps (are_of (map (named_in w) f.over) ps (subst (λ o. Has (one_of_each (map (named_in w) (over_of o))) ps) e i)) in
        (r.0, one_of (map (values_in n) f.over) r.0 r.1, r.2)

    -- and of families of the design
    pub element-family : (family : ℕ) (ps : List Place) → Has elements_kept (element family ps) → (f : Family) × (slice_get d.families family ≡ Some f)
    element-family family ps h = family-of w (element family ps) (found_there (element family ps) (from_cone (element family ps) h))
