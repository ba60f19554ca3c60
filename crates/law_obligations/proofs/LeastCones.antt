-- A cone is the least set of elements, and a same-time set the least set of families.
use Rattle.std.proofs.Common.{◌≡◌, ℕ, List, [], ◌∷◌, ◌++◌, map, length, take, Bool, true, false, if◌then◌else◌, ◌||◌, refl, sym, ap, subst, ◌∙◌, inl, inr, Option, Some, None, option_to_list, nat_eq, arith}
use Rattle.std.specs.List.{flat_map, slice_get, list_any, list_all}
use Rattle.std.proofs.lemmas.Option.{slice_get_within}
use Rattle.law_lists.proofs.Numbers.{nat_eq-is}
use Rattle.smv_core.specs.Values.{number, numbers_from}
use Rattle.smv_core.specs.Assignments.{Index, fixed, bare, computed}
use Rattle.smv_core.specs.declared.flat.Family.{Family}
use Rattle.smv_core.specs.declared.flat.Def.{Def}
use Rattle.smv_core.specs.declared.flat.Claim.{Claim}
use Rattle.smv_core.specs.declared.flat.DefBody.{DefBody}
use Rattle.smv_core.specs.declared.flat.FlatExpr.{FlatExpr}
use Rattle.smv_core.specs.declared.flat.Class.{Class}
use Rattle.smv_core.specs.declared.flat.Assumed.{Assumed}
use Rattle.law_obligations.specs.Sets.{Has, one_of_each}
use Rattle.law_obligations.specs.Places.{Place, named, same_place, is_named, World, named_in, places_in}
use Rattle.law_obligations.specs.Cases.{cases}
use Rattle.law_obligations.specs.Soundness.{FlatUnit, map_of, claim_of, over_of}
use Rattle.law_obligations.proofs.Members.{Has-map, Has-from_map, Has-flat_map, Has-uncons, any-found, any-some}
use Rattle.law_obligations.proofs.Same.{nat_eq-itself}
use Rattle.law_obligations.proofs.Spots.{Has-numbers}
use Rattle.law_obligations.proofs.OneOfEach.{AreOf, are_of, one_of, get_Has, Has-from_flat_map}
use Rattle.law_obligations.proofs.CoverLists.{length-numbers}
use Rattle.law_obligations.specs.Reached.{is_among, reached, IsLeast}
use Rattle.law_obligations.specs.Reads.{is_own, is_bound_to, part_reads}
use Rattle.law_obligations.specs.Outlines.{Entry, Outline, Script, outline_of, unit_in, claim_unit, assumed, chosen}
use Rattle.law_obligations.specs.Times.{if_there, families_read, families_of_part, families_at_once, is_unit, families_assumed, families_of_unit, first_families, next_families, same_time}
use Rattle.law_obligations.specs.Cones.{AbsElement, element, same_element, index_places, each_index, elements_of, elements, elements_in, elements_at, elements_read, elements_of_def, elements_assumed, own_elements, of_target, first_elements, next_elements, cone}
use Rattle.law_obligations.specs.Problems.{leaf_params, leaf_treatments, world_of, params_at}
use Rattle.law_obligations.specs.Checked.{IsChecked}
use Rattle.law_obligations.proofs.Lookups.{Has-tested, Has-filter, Has-from_filter}
use Rattle.law_obligations.proofs.OutlineFacts.{unit-def}
use Rattle.law_obligations.proofs.ConeFacts.{same_element-itself, same_element-family, same_element-indexes}
use Rattle.law_obligations.proofs.Least.{reached_is_least}
use Rattle.law_obligations.proofs.ReadsWithin.{reads_within, part_within, either}
use Rattle.law_obligations.proofs.Plans.{own_are}

pub same_element-is : (x y : AbsElement) → same_element x y ≡ true → x ≡ y
same_element-is x y e = ap (λ family. element family x.indexes) (same_element-family x y e) ∙ ap (element y.family) (same_element-indexes x y e)

-- an index of a reference lies at a place of its type
index_within : (b : List Place) (i : Index) (ps : List Place) (p : Place) → Has (index_places b i ps) p → Has ps p
index_within b (fixed None) ps p h = elim h [ ]
index_within b (fixed (Some v)) ps p h = (Has-from_filter (same_place (named v)) ps h).0
index_within b (bare var) ps p h = (Has-from_filter (is_bound_to (slice_get b var)) ps h).0
index_within b computed ps p h = h

indexes_within : (b : List Place) (indexes : List Index) (pss : List (List Place)) (ps : List Place) → AreOf (each_index b indexes pss) ps → AreOf pss ps
indexes_within b [] pss ps h = h
indexes_within b (i ∷ indexes) [] ps h = h
indexes_within b (i ∷ indexes) (qs ∷ pss) [] h = elim h [ ]
indexes_within b (i ∷ indexes) (qs ∷ pss) (p ∷ ps) h = (index_within b i qs p h.0, indexes_within b indexes pss ps h.1)

module _ (w : World) where
  -- what is read are elements of the case
  element_there : (family : ℕ) (f : Family) → slice_get w.classes.families family ≡ Some f → (ps : List Place) → Has (one_of_each (map (named_in w) (over_of (slice_get w.classes.families family)))) ps → Has (elements w) (element family ps)
  element_there family f e ps h = Has-flat_map (elements_of w)
      (Has-numbers 0 (length w.classes.families) family (omega arith) (let l = slice_get_within w.classes.families family f e in omega (arith, l))) (Has-map (element family) h)

  in_within : (family : ℕ) (indexes : List Index) (b : List Place) (y : AbsElement) (o : Option Family) → slice_get w.classes.families family ≡ o → Has (elements_in w family indexes b o) y → Has (elements w) y
  in_within family indexes b y None e h = elim h [ ]
  in_within family indexes b y (Some f) e h =
      let r = Has-from_map (element family) (one_of_each (each_index b indexes (map (named_in w) f.over))) h in
      let are = indexes_within b indexes (map (named_in w) f.over) r.0 (are_of (each_index b indexes (map (named_in w) f.over)) r.0 r.1) in
      subst (Has (elements w)) (sym r.2) (element_there family f e r.0 (subst (λ o. Has (one_of_each (map (named_in w) (over_of o))) r.0) (sym e) (one_of (map (named_in w) f.over) r.0 are)))

  at_within : (family : ℕ) (indexes : List Index) (b : List Place) (y : AbsElement) → Has (elements_at w family indexes b) y → Has (elements w) y
  at_within family indexes b y h = in_within family indexes b y (slice_get w.classes.families family) refl h

  read_within : (e : FlatExpr) (b : List Place) (y : AbsElement) → Has (elements_read w e b) y → Has (elements w) y
  read_within e b y h = reads_within (named_in w) (elements_at w) (Has (elements w)) at_within e b y h

  abbrev part : List Place → DefBody → List AbsElement
  part indexes p = part_reads (places_in w) (is_own indexes) (named_in w) (elements_at w) p []

  def_within : (indexes : List Place) (def : Def) (y : AbsElement) → Has (elements_of_def w indexes def) y → Has (elements w) y
  def_within indexes def y h = either (part indexes def.init ++ part indexes def.next) (part indexes def.comb) h
      (λ k. either (part indexes def.init) (part indexes def.next) k (of_part def.init) (of_part def.next)) (of_part def.comb)
    where
      of_part : (p : DefBody) → Has (part indexes p) y → Has (elements w) y
      of_part p k = part_within (named_in w) (elements_at w) (Has (elements w)) at_within (places_in w) (is_own indexes) p [] y k

  assumed_within : (o : Option Claim) (y : AbsElement) → Has (elements_assumed w o) y → Has (elements w) y
  assumed_within None y h = elim h [ ]
  assumed_within (Some claim) y h = let r = Has-from_flat_map (λ b. elements_read w claim.body b) (one_of_each (map (λ p. named_in w p.over) claim.params)) h in read_within claim.body r.0 y r.2

  module _ (o : Outline) (entry : Entry) (params : List Place)
      (own_there : (def : Def) → unit_in o.design entry.unit ≡ map_of def → list_all is_named (take (length (over_of (slice_get o.design.families def.family))) params) ≡ true →
      Has (elements w) (element def.family (take (length (over_of (slice_get o.design.families def.family))) params))) where
    own_within : (def : Def) (own : List Place) → (list_all is_named own ≡ true → Has (elements w) (element def.family own)) → (y : AbsElement) → Has (own_elements w o entry params def own) y → Has (elements w) y
    own_within def own found y h = either (if list_all is_named own then element def.family own ∷ [] else []) (elements_of_def w own def) h
        (λ k. let t = Has-tested (list_all is_named own) k in elim (Has-uncons t.1) [ inl e ↦ subst (Has (elements w)) (sym e) (found t.0) | inr n ↦ elim n [ ] ]) (def_within own def y)

    target_within : (unit : FlatUnit) → unit_in o.design entry.unit ≡ unit → (y : AbsElement) → Has (of_target w o entry params unit) y → Has (elements w) y
    target_within (map_of def) e y h = own_within def (take (length (over_of (slice_get o.design.families def.family))) params) (own_there def e) y h
    target_within (claim_of claim) e y h = read_within claim.body (take (length claim.params) params) y h

    first_within : (y : AbsElement) → Has (first_elements w o entry params) y → Has (elements w) y
    first_within y h = either (of_target w o entry params (unit_in o.design entry.unit) ++ flat_map (λ g. elements_read w g.expr params) entry.leaf.guards) (flat_map (λ used. elements_assumed w (assumed o used)) entry.choice.claims) h
        (λ k. either (of_target w o entry params (unit_in o.design entry.unit)) (flat_map (λ g. elements_read w g.expr params) entry.leaf.guards) k (target_within (unit_in o.design entry.unit) refl y)
        (λ q. let r = Has-from_flat_map (λ g. elements_read w g.expr params) entry.leaf.guards q in read_within r.0.expr params y r.2))
        (λ k. let r = Has-from_flat_map (λ used. elements_assumed w (assumed o used)) entry.choice.claims k in assumed_within (assumed o r.0) y r.2)

    next_within : (x y : AbsElement) → Has (elements w) x → Has (next_elements w o entry params x) y → Has (elements w) y
    next_within x y h k = let r = Has-from_flat_map (elements_of_def w x.indexes) (option_to_list (chosen o entry.choice.picks x.family)) k in def_within x.indexes r.0 y r.2

    abbrev found : List AbsElement
    found = reached same_element (next_elements w o entry params) (length (elements w)) (first_elements w o entry params)

    found_least : IsLeast (next_elements w o entry params) (first_elements w o entry params) found
    found_least = reached_is_least same_element same_element-is same_element-itself (next_elements w o entry params) (elements w) (first_elements w o entry params) first_within next_within

    among : (x : AbsElement) → Has found x → list_any (same_element x) found ≡ true
    among x h = any-found (same_element x) h (same_element-itself x)

    -- all that is reached are elements of the case
    found_there : (x : AbsElement) → Has found x → Has (elements w) x
    found_there x h = let r = any-some (same_element x) (elements w) (found_least.is_least (λ x. list_any (same_element x) (elements w))
        (λ y k. any-found (same_element y) (first_within y k) (same_element-itself y))
        (λ y z e k. let q = any-some (same_element y) (elements w) e in any-found (same_element z) (next_within y z (subst (Has (elements w)) (sym (same_element-is y q.0 q.2)) q.1) k) (same_element-itself z)) x h) in
        subst (Has (elements w)) (sym (same_element-is x r.0 r.2)) r.1

    to_cone : (x : AbsElement) → Has found x → Has (cone w o entry params) x
    to_cone x h = Has-filter (is_among same_element (next_elements w o entry params) found) (found_there x h) (among x h)

    from_cone : (x : AbsElement) → Has (cone w o entry params) x → Has found x
    from_cone x h = let r = any-some (same_element x) found (Has-from_filter (is_among same_element (next_elements w o entry params) found) (elements w) h).1 in
        subst (Has found) (sym (same_element-is x r.0 r.2)) r.1

    cone_least : IsLeast (next_elements w o entry params) (first_elements w o entry params) (cone w o entry params)
    cone_least = record {
      begins = λ x h. to_cone x (found_least.begins x h);
      goes_on = λ x y h k. to_cone y (found_least.goes_on x y (from_cone x h) k);
      is_least = λ other b g x h. found_least.is_least other b g x (from_cone x h);
    }

module _ (s : Script) (checked : IsChecked s) where
  abbrev o : Outline
  o = outline_of s

  pub cone_is_least : (entry : Entry) → Has s.entries entry → (classes : List Class) → Has (cases (leaf_treatments o entry) (leaf_params entry)) classes →
      IsLeast (next_elements (world_of o entry classes) o entry (params_at o entry classes)) (first_elements (world_of o entry classes) o entry (params_at o entry classes)) (cone (world_of o entry classes) o entry (params_at o entry classes))
  cone_is_least entry h classes is_case = cone_least (world_of o entry classes) o entry (params_at o entry classes)
      (λ def is_map named. let k = unit-def o.design entry.unit def is_map in let d = checked.are_definitions def (get_Has o.design.defs k.0 def k.2) in
      element_there (world_of o entry classes) def.family d.family d.is_family _ (own_are s checked 0 entry (checked.are_split entry h) classes is_case def is_map _ refl named))

  -- families
  abbrev all : List ℕ
  all = numbers_from 0 (length o.design.families)

  there_within : (family k : ℕ) (of : Option Family) → slice_get o.design.families family ≡ of → Has (if_there family of) k → Has all k
  there_within family k None e h = elim h [ ]
  there_within family k (Some f) e h = elim (Has-uncons h) [
    | inl i ↦ subst (Has all) (sym i) (Has-numbers 0 (length o.design.families) family (omega arith) (let l = slice_get_within o.design.families family f e in omega (arith, l)))
    | inr n ↦ elim n [ ]
  ]

  families_within : (e : FlatExpr) (k : ℕ) → Has (families_read o.design.families e) k → Has all k
  families_within e k h = reads_within (λ over. named (number 0) ∷ []) (λ family indexes b. if_there family (slice_get o.design.families family)) (Has all)
      (λ family indexes b y q. there_within family y (slice_get o.design.families family) refl q) e [] k h

  family_part : (p : DefBody) (k : ℕ) → Has (families_of_part o.design.families p) k → Has all k
  family_part p k h = part_within (λ over. named (number 0) ∷ []) (λ family indexes b. if_there family (slice_get o.design.families family)) (Has all)
      (λ family indexes b y q. there_within family y (slice_get o.design.families family) refl q) (λ over. named (number 0) ∷ []) (λ left b. true) p [] k h

  once_within : (od : Option Def) (k : ℕ) → Has (families_at_once o.design.families od) k → Has all k
  once_within None k h = elim h [ ]
  once_within (Some def) k h = either (families_of_part o.design.families def.init) (families_of_part o.design.families def.comb) h (family_part def.init k) (family_part def.comb k)

  unit_within : (entry : Entry) (unit : FlatUnit) → unit_in o.design entry.unit ≡ unit → (k : ℕ) → Has (families_of_unit o unit) k → Has all k
  unit_within entry (claim_of claim) e k h = families_within claim.body k h
  unit_within entry (map_of def) e k h = elim (Has-uncons h) [
    | inl i ↦ let q = unit-def o.design entry.unit def e in let d = checked.are_definitions def (get_Has o.design.defs q.0 def q.2) in
        subst (Has all) (sym i) (Has-numbers 0 (length o.design.families) def.family (omega arith) (let l = slice_get_within o.design.families def.family d.family d.is_family in omega (arith, l)))
    | inr n ↦ once_within (Some def) k n
  ]

  assumed_in : (u : ℕ) (used : Assumed) (b : Bool) (k : ℕ) → Has (if b then [] else flat_map (λ claim. families_read o.design.families claim.body) (option_to_list (assumed o used))) k → Has all k
  assumed_in u used true k h = elim h [ ]
  assumed_in u used false k h = let r = Has-from_flat_map (λ claim. families_read o.design.families claim.body) (option_to_list (assumed o used)) h in families_within r.0.body k r.2

  begin_within : (u : ℕ) (entry : Entry) (k : ℕ) → Has (first_families o u entry) k → Has all k
  begin_within u entry k h = either (families_of_unit o (unit_in o.design entry.unit) ++ flat_map (λ g. families_read o.design.families g.expr) entry.leaf.guards) (flat_map (families_assumed o u) entry.choice.claims) h
      (λ q. either (families_of_unit o (unit_in o.design entry.unit)) (flat_map (λ g. families_read o.design.families g.expr) entry.leaf.guards) q (unit_within entry (unit_in o.design entry.unit) refl k)
      (λ q. let r = Has-from_flat_map (λ g. families_read o.design.families g.expr) entry.leaf.guards q in families_within r.0.expr k r.2))
      (λ q. let r = Has-from_flat_map (families_assumed o u) entry.choice.claims q in assumed_in u r.0 (r.0.early || is_unit u (claim_unit o r.0.claim)) k r.2)

  pub same_time_is_least : (u : ℕ) (entry : Entry) → IsLeast (next_families o entry) (first_families o u entry) (same_time o u entry)
  same_time_is_least u entry = subst (λ n. IsLeast (next_families o entry) (first_families o u entry) (reached nat_eq (next_families o entry) n (first_families o u entry))) (length-numbers 0 (length o.design.families))
      (reached_is_least nat_eq nat_eq-is nat_eq-itself (next_families o entry) all (first_families o u entry) (begin_within u entry)
      (λ x y h k. once_within (chosen o entry.choice.picks x) y k))
