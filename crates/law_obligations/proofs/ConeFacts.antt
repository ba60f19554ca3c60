-- What a cone keeps: elements at numbers and classes alone, and the target's own if it is one of these.
use Rattle.std.proofs.Common.{◌≡◌, ℕ, List, [], ◌∷◌, map, length, take, true, refl, sym, ap, subst, ◌∙◌, Some, nat_eq, arith}
use Rattle.std.specs.List.{flat_map, slice_get, list_all}
use Rattle.std.proofs.lemmas.Option.{slice_get_within}
use Rattle.law_lists.proofs.Numbers.{nat_eq-is}
use Rattle.law_lists.proofs.Booleans.{and_both, left_of, right_of}
use Rattle.smv_core.specs.Values.{numbers_from}
use Rattle.smv_core.specs.declared.flat.Simple.{Simple}
use Rattle.smv_core.specs.declared.flat.Family.{Family}
use Rattle.smv_core.specs.declared.flat.Def.{Def}
use Rattle.law_obligations.specs.Sets.{Has, first, one_of_each}
use Rattle.law_obligations.specs.Places.{Place, same_place, is_named, World, named_in}
use Rattle.law_obligations.specs.Pictures.{AreNamedOf, KeepsNamed}
use Rattle.law_obligations.specs.Soundness.{map_of, over_of}
use Rattle.law_obligations.proofs.Members.{Has-left, Has-map, Has-from_map, Has-flat_map, any-found, any-some}
use Rattle.law_obligations.proofs.Same.{nat_eq-itself, same_place-itself, same_place-is}
use Rattle.law_obligations.proofs.Spots.{Has-numbers}
use Rattle.law_obligations.proofs.OneOfEach.{AreOf, are_of, Has-from_flat_map}
use Rattle.law_obligations.specs.Reached.{is_among, reached}
use Rattle.law_obligations.specs.Outlines.{Entry, Outline, unit_in, assumed}
use Rattle.law_obligations.specs.Cones.{AbsElement, element, same_places, same_element, elements_of, elements, elements_read, elements_assumed, own_elements, of_target, first_elements, next_elements, cone, kept}
use Rattle.law_obligations.proofs.Lookups.{Has-filter, Has-from_filter, reached-has}

same_places-itself : (ps : List Place) → same_places ps ps ≡ true
same_places-itself [] = refl
same_places-itself (p ∷ ps) = and_both (same_place-itself p) (same_places-itself ps)

pub same_places-is : (ps qs : List Place) → same_places ps qs ≡ true → ps ≡ qs
same_places-is [] [] e = refl
same_places-is [] (q ∷ qs) e = absurd (cc)
same_places-is (p ∷ ps) [] e = absurd (cc)
same_places-is (p ∷ ps) (q ∷ qs) e =
    ap (λ p. p ∷ ps) (same_place-is p q (left_of (same_place p q) (same_places ps qs) e)) ∙ ap (λ ps. q ∷ ps) (same_places-is ps qs (right_of (same_place p q) (same_places ps qs) e))

pub same_element-itself : (x : AbsElement) → same_element x x ≡ true
same_element-itself x = and_both (nat_eq-itself x.family) (same_places-itself x.indexes)

pub same_element-family : (x y : AbsElement) → same_element x y ≡ true → x.family ≡ y.family
same_element-family x y e = nat_eq-is x.family y.family (left_of (nat_eq x.family y.family) (same_places x.indexes y.indexes) e)

pub same_element-indexes : (x y : AbsElement) → same_element x y ≡ true → x.indexes ≡ y.indexes
same_element-indexes x y e = same_places-is x.indexes y.indexes (right_of (nat_eq x.family y.family) (same_places x.indexes y.indexes) e)

named_of : (w : World) (types : List Simple) (ps : List Place) → AreOf (map (named_in w) types) ps → AreNamedOf w types ps
named_of w [] [] h = tt
named_of w [] (p ∷ ps) h = elim h [ ]
named_of w (t ∷ types) [] h = tt
named_of w (t ∷ types) (p ∷ ps) h = (h.0, named_of w types ps h.1)

module _ (w : World) where
  -- indexes of a family
  abbrev pub AreIndexes : ℕ → List Place → Type 0
  AreIndexes family indexes = Has (one_of_each (map (named_in w) (over_of (slice_get w.classes.families family)))) indexes

  element-is : (x : AbsElement) → Has (elements w) x → AreIndexes x.family x.indexes
  element-is x h =
      let r = Has-from_flat_map (elements_of w) (numbers_from 0 (length w.classes.families)) h in
      let q = Has-from_map (element r.0) (one_of_each (map (named_in w) (over_of (slice_get w.classes.families r.0)))) r.2 in
      subst (λ (x : AbsElement). AreIndexes x.family x.indexes) (sym q.2) q.1

  module _ (o : Outline) (entry : Entry) (params : List Place) where
    pub in_cone-is : (x : AbsElement) → Has (cone w o entry params) x → AreIndexes x.family x.indexes
    in_cone-is x h = element-is x (Has-from_filter (is_among same_element (next_elements w o entry params) (reached same_element (next_elements w o entry params) (length (elements w)) (first_elements w o entry params))) (elements w) h).0

    pub in_cone-kept : (x : AbsElement) (family : ℕ) → family ≡ x.family → Has (cone w o entry params) x → kept (cone w o entry params) family x.indexes ≡ true
    in_cone-kept x family e h = subst (λ family. kept (cone w o entry params) family x.indexes ≡ true) (sym e) (any-found (same_element (element x.family x.indexes)) h (same_element-itself x))

    pub keeps_named : KeepsNamed w (kept (cone w o entry params))
    keeps_named family f e ps k =
        let r = any-some (same_element (element family ps)) (cone w o entry params) k in
        let is = in_cone-is r.0 r.1 in
        let a : family ≡ r.0.family = same_element-family (element family ps) r.0 r.2 in
        let b : ps ≡ r.0.indexes = same_element-indexes (element family ps) r.0 r.2 in
        let here : AreIndexes family ps = subst (λ family. AreIndexes family ps) (sym a) (subst (AreIndexes r.0.family) (sym b) is) in
        named_of w f.over ps (are_of (map (named_in w) f.over) ps (subst (λ o. Has (one_of_each (map (named_in w) (over_of o))) ps) e here))

    own_first : (def : Def) (indexes : List Place) → list_all is_named indexes ≡ true → Has (own_elements w o entry params def indexes) (element def.family indexes)
    own_first def indexes e = rw e first

    -- the element of a map at numbers and classes is kept
    pub own_kept : (def : Def) → unit_in o.design entry.unit ≡ map_of def → (f : Family) → slice_get w.classes.families def.family ≡ Some f →
        (own : List Place) → take (length (over_of (slice_get o.design.families def.family))) params ≡ own → AreIndexes def.family own → list_all is_named own ≡ true →
        kept (cone w o entry params) def.family own ≡ true
    own_kept def is_map f e own is_own are named =
        let x = element def.family own in
        let there : Has (elements w) x = Has-flat_map (elements_of w)
        (Has-numbers 0 (length w.classes.families) def.family (omega arith) (let l = slice_get_within w.classes.families def.family f e in omega (arith, l))) (Has-map (element def.family) are) in
        let in_target : Has (of_target w o entry params (unit_in o.design entry.unit)) x =
        subst (λ unit. Has (of_target w o entry params unit) x) (sym is_map) (subst (λ own'. Has (own_elements w o entry params def own') x) (sym is_own) (own_first def own named)) in
        in_cone-kept x def.family refl (Has-filter (is_among same_element (next_elements w o entry params) (reached same_element (next_elements w o entry params) (length (elements w)) (first_elements w o entry params))) there
        (reached-has same_element (next_elements w o entry params) same_element-itself (length (elements w)) (first_elements w o entry params) x (Has-left (flat_map (λ used. elements_assumed w (assumed o used)) entry.choice.claims) (Has-left (flat_map (λ g. elements_read w g.expr params) entry.leaf.guards) in_target))))
