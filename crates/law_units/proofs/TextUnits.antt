-- The units of a text are those of its design.
use Rattle.std.proofs.Common.{◌≡◌, ◌≤◌, ℕ, zero, suc, ◌+◌, List, [], ◌∷◌, ◌++◌, map, flat_map, filter, zip, length, Option, Some, None, option_and_then, Bool, true, false, if◌then◌else◌, refl, sym, ap, subst, ◌∙◌, slice_get, inl, inr, arith}
use Rattle.std.specs.List.{AllZip}
use Rattle.smv_core.specs.Values.{numbers_from}
use Rattle.smv_core.specs.FlatOrder.{TextDesign, design_of}
use Rattle.smv_core.specs.Sound.{ProofUnit, map_of, claim_of, units_met, units}
use Rattle.smv_core.specs.declared.tree.Text.{Text}
use Rattle.smv_core.specs.declared.fault.Fault.{Fault}
use Rattle.smv_core.specs.declared.flat.Claim.{Claim as FlatClaim}
use Rattle.smv_core.specs.declared.flat.Def.{Def}
use Rattle.smv_core.specs.declared.flat.Design.{Design}
use Rattle.smv_core.specs.declared.flat.FlatText.{FlatText}
use Rattle.smv_core.specs.declared.flat.Unit.{Unit}
use Rattle.smv_core.specs.declared.flat.Unit.TheVariants.{Map, Claim}
use Rattle.smv_mentions.specs.FirstFault.{or_else}
use Rattle.law_designs.specs.Entries.{entries}
use Rattle.law_designs.specs.Flattening.{flat_entry, flatten, layers_of, different, dotted}
use Rattle.law_designs.specs.WholeText.{claims_met}
use Rattle.law_designs.specs.Definitions.{Head, same_definition, first_heads, def_of, design_of_flat_text}
use Rattle.law_designs.proofs.Entries.{entries-alike}
use Rattle.law_designs.proofs.Layers.{layers-listed}
use Rattle.law_obligations.specs.Sets.{Has, first, later}
use Rattle.law_obligations.specs.Outlines.{as_map, as_claim, unit_in}
use Rattle.law_obligations.specs.Units.{is_refinement, maps, claims, in_order, units_of}
use Rattle.law_obligations.proofs.Members.{Has-uncons, Has-left, Has-right, Has-cases, Has-map, Has-from_map, Has-flat_map}
use Rattle.law_obligations.proofs.Lookups.{Has-filter, Has-from_filter, Has-tested}
use Rattle.law_obligations.proofs.OneOfEach.{Has-from_flat_map, get_Has, Has_get}
use Rattle.law_splits.specs.Leaves.{in_layer, name_of, name_of_family}
use Rattle.law_sound_texts.specs.Exact.{LeftSidesAreExact}
use Rattle.law_sound_texts.specs.TextExtension.{LayersAreSame}
use Rattle.law_flat_kinds.specs.FamiliesFound.{FamiliesAreFound}
use Rattle.law_sound_texts.proofs.Faultless.{IsFaultless}
use Rattle.law_units.specs.TextUnits.{IsSameUnit, written_name, names_in}
use Rattle.law_units.proofs.Positions.{inner, from-map, to-map, family-flat, family-led}
use Rattle.law_units.proofs.Rising.{Rises, Differ, rises, rises-filter, rises-different, differ, differ-append, one_at_place, one_index, zip_rising}
use Rattle.law_units.proofs.InOrder.{Placed, place_of, from-in_order, in_order-Has, in_order-rises}
use Rattle.law_units.proofs.Once.{different-filter, zip-to, zip-joined, once-zip}
use Rattle.law_units.proofs.Marks.{Mark, made, stated, mark_place, same_mark, marks, marks-between, heads_in, claims_in, heads-marks, claims-marks, heads-Has, heads-from, claims-Has, claims-from, heads-different, claims-different}
use Rattle.law_units.proofs.TextMarks.{Stands, makes_unit, makes-alike, alike, meets}

pub none_of_both : (o p : Option Fault) → or_else o p ≡ None → p ≡ None
none_of_both None p e = e
none_of_both (Some f) p e = absurd (cc (e))

-- ---- numbered lists

Has-numbered : {X : Type 0} (low : ℕ) (xs : List X) (k : ℕ) (x : X) → slice_get xs k ≡ Some x → Has (zip (numbers_from low (length xs)) xs) (low + k, x)
Has-numbered low [] k x e = absurd (cc (e))
Has-numbered {X} low (y ∷ xs) zero x e =
    let at : low ≡ low + 0 = omega arith in
    subst (λ j. Has (zip (numbers_from low (length (y ∷ xs))) (y ∷ xs)) (j, x)) at (subst (λ z. Has (zip (numbers_from low (length (y ∷ xs))) (y ∷ xs)) (low, z)) (inner e) first)
Has-numbered low (y ∷ xs) (suc k) x e =
    let at : low + 1 + k ≡ low + suc k = omega arith in
    subst (λ j. Has (zip (numbers_from low (length (y ∷ xs))) (y ∷ xs)) (j, x)) at (later (Has-numbered (low + 1) xs k x e))

numbered : {X : Type 0} (xs : List X) (k : ℕ) (x : X) → slice_get xs k ≡ Some x → Has (zip (numbers_from 0 (length xs)) xs) (k, x)
numbered xs k x e = let at : 0 + k ≡ k = omega arith in subst (λ j. Has (zip (numbers_from 0 (length xs)) xs) (j, x)) at (Has-numbered 0 xs k x e)

from-numbered : {X : Type 0} (low : ℕ) (xs : List X) (p : ℕ × X) → Has (zip (numbers_from low (length xs)) xs) p → (k : ℕ) × (p.0 ≡ low + k) × (slice_get xs k ≡ Some p.1)
from-numbered low [] p h = elim h [ ]
from-numbered {X} low (y ∷ xs) p h = elim (Has-uncons h) [
  | inl e ↦ (0, (let at = ap (λ (p : ℕ × X). p.0) e in omega (arith, at)), ap Some (sym (ap (λ (p : ℕ × X). p.1) e)))
  | inr rest ↦ let r = from-numbered (low + 1) xs p rest in (suc r.0, (let at = r.1 in omega (arith, at)), r.2)
]

from-zip : {X Y : Type 0} (xs : List X) (ys : List Y) (p : X × Y) → Has (zip xs ys) p → (k : ℕ) × (slice_get xs k ≡ Some p.0) × (slice_get ys k ≡ Some p.1)
from-zip [] ys p h = elim h [ ]
from-zip (x ∷ xs) [] p h = elim h [ ]
from-zip {X} {Y} (x ∷ xs) (y ∷ ys) p h = elim (Has-uncons h) [
  | inl e ↦ (0, ap Some (sym (ap (λ (p : X × Y). p.0) e)), ap Some (sym (ap (λ (p : X × Y). p.1) e)))
  | inr rest ↦ let r = from-zip xs ys p rest in (suc r.0, r.1, r.2)
]

zip-mapped : {X Y Z : Type 0} (R : X → Z → Type 0) (f : Y → Z) (xs : List X) (ys : List Y) → AllZip (λ x y. R x (f y)) xs ys → AllZip R xs (map f ys)
zip-mapped R f [] [] h = tt
zip-mapped R f [] (y ∷ ys) h = elim h [ ]
zip-mapped R f (x ∷ xs) [] h = elim h [ ]
zip-mapped R f (x ∷ xs) (y ∷ ys) h = (h.0, zip-mapped R f xs ys h.1)

maps-equal : {X Y Z : Type 0} (f : X → Z) (g : Y → Z) (xs : List X) (ys : List Y) → AllZip (λ x y. f x ≡ g y) xs ys → map f xs ≡ map g ys
maps-equal f g [] [] h = refl
maps-equal f g [] (y ∷ ys) h = elim h [ ]
maps-equal f g (x ∷ xs) [] h = elim h [ ]
maps-equal f g (x ∷ xs) (y ∷ ys) h = ap (λ z. z ∷ map f xs) h.0 ∙ ap (λ l. g y ∷ l) (maps-equal f g xs ys h.1)

only : {X : Type 0} {x y : X} → Has (x ∷ []) y → y ≡ x
only h = elim (Has-uncons h) [
  | inl i ↦ i
  | inr k ↦ elim k [ ]
]

-- ---- the places of assignments and claims rise

abbrev head_place : Head → ℕ
head_place h = h.place

abbrev claim_place : FlatClaim → ℕ
claim_place c = c.place

lower : {A : Type 0} (place : A → ℕ) (low other : ℕ) (xs : List A) → other ≤ low → Rises place low xs → Rises place other xs
lower place low other [] l h = tt
lower place low other (x ∷ xs) l h = (let k = h.0 in omega (arith, k, l), h.1)

heads-rise : (low : ℕ) (ms : List Mark) → Rises mark_place low ms → Rises head_place low (heads_in ms)
heads-rise low [] h = tt
heads-rise low (made g ∷ ms) h = (h.0, heads-rise (suc g.place) ms h.1)
heads-rise low (stated c ∷ ms) h = lower head_place (suc c.place) low (heads_in ms) (let k = h.0 in omega (arith, k)) (heads-rise (suc c.place) ms h.1)

claims-rise : (low : ℕ) (ms : List Mark) → Rises mark_place low ms → Rises claim_place low (claims_in ms)
claims-rise low [] h = tt
claims-rise low (made g ∷ ms) h = lower claim_place (suc g.place) low (claims_in ms) (let k = h.0 in omega (arith, k)) (claims-rise (suc g.place) ms h.1)
claims-rise low (stated c ∷ ms) h = (h.0, claims-rise (suc c.place) ms h.1)

module _ (text : Text) (found : FamiliesAreFound text) (layers : LayersAreSame text) (faultless : IsFaultless (design_of_flat_text (flatten text))) (exact : LeftSidesAreExact (flatten text)) where
  abbrev t : TextDesign
  t = design_of text

  abbrev flat : FlatText
  flat = flatten text

  abbrev d : Design
  d = design_of_flat_text (flatten text)

  abbrev all : List Mark
  all = marks 0 (flatten text).items

  abbrev firsts : List Mark
  firsts = different same_mark all

  abbrev those : List Mark
  those = filter (makes_unit text) firsts

  firsts-rise : Rises mark_place 0 firsts
  firsts-rise = let b = marks-between 0 (flat_map (flat_entry text (layers_of (entries text))) (entries text)) in rises-different mark_place same_mark 0 all (rises mark_place 0 b.0 all b.1)

  those-rise : Rises mark_place 0 those
  those-rise = rises-filter mark_place (makes_unit text) 0 firsts firsts-rise

  heads-are : heads_in firsts ≡ first_heads flat
  heads-are = heads-different all ∙ ap (different same_definition) (heads-marks 0 flat.items)

  claims-are : claims_in firsts ≡ d.claims
  claims-are = claims-different all ∙ claims-marks 0 flat.items

  first_heads-rise : Rises head_place 0 (first_heads flat)
  first_heads-rise = subst (Rises head_place 0) heads-are (heads-rise 0 firsts firsts-rise)

  all_claims-rise : Rises claim_place 0 d.claims
  all_claims-rise = subst (Rises claim_place 0) claims-are (claims-rise 0 firsts firsts-rise)

  -- ---- beside the units of the text

  stands : AllZip (Stands text) (units t) those
  stands = subst (AllZip (Stands text) (units t)) (different-filter same_mark (makes_unit text) (makes-alike text) all)
      (once-zip (Stands text) same_mark (alike text found) (flat_map (units_met t) t.met) (filter (makes_unit text) all)
      (meets text found layers faultless 0 (entries text) t.met (entries-alike text) (layers-listed text)
      (λ a h. let e = exact a h in family-led text a.family e.0 e.1) (λ p m. m)))

  -- ---- beside the units of the design

  abbrev Beside : Mark → Placed → Type 0
  Beside (made h) x = (x.0 ≡ h.place) × ((k : ℕ) × (x.1 ≡ Map k) × (slice_get (first_heads flat) k ≡ Some h))
  Beside (stated c) x = (x.0 ≡ c.place) × ((k : ℕ) × (x.1 ≡ Claim k) × (slice_get d.claims k ≡ Some c))

  one_place : (m : Mark) (x : Placed) → Beside m x → mark_place m ≡ place_of x
  one_place (made h) x w = sym w.0
  one_place (stated c) x w = sym w.0

  map-there : (k : ℕ) (h : Head) → slice_get (first_heads flat) k ≡ Some h → is_refinement d h.family h.layer ≡ true → Has (maps d) (h.place, Map k)
  map-there k h e refines =
      let def : Def = def_of flat h in
      let x : Placed = (h.place, Map k) in
      let here : Has (if is_refinement d def.family def.layer then x ∷ [] else []) x = subst (λ b. Has (if b then x ∷ [] else []) x) (sym refines) first in
      Has-flat_map (λ ((k, def) : ℕ × Def). if is_refinement d def.family def.layer then (def.place, Map k) ∷ [] else []) (numbered d.defs k def (to-map (def_of flat) (first_heads flat) k h e)) here

  claim-there : (k : ℕ) (c : FlatClaim) → slice_get d.claims k ≡ Some c → Has (claims d) (c.place, Claim k)
  claim-there k c e = Has-map (λ ((k, claim) : ℕ × FlatClaim). (claim.place, Claim k)) (numbered d.claims k c e)

  abbrev listed : List Placed
  listed = maps d ++ claims d

  there : (m : Mark) → Has those m → (x : Placed) × Has (in_order listed) x × Beside m x
  there (made h) i =
      let r = Has-from_filter (makes_unit text) firsts i in
      let k = Has_get (subst (λ l. Has l h) heads-are (heads-from firsts h r.0)) in
      ((h.place, Map k.0), in_order-Has listed (h.place, Map k.0) (Has-left (claims d) (map-there k.0 h k.1 r.1)), (refl, (k.0, refl, k.1)))
  there (stated c) i =
      let r = Has-from_filter (makes_unit text) firsts i in
      let k = Has_get (subst (λ l. Has l c) claims-are (claims-from firsts c r.0)) in
      ((c.place, Claim k.0), in_order-Has listed (c.place, Claim k.0) (Has-right (maps d) (claim-there k.0 c k.1)), (refl, (k.0, refl, k.1)))

  -- a map is that of an assignment
  from_map : (x : Placed) → Has (maps d) x → (h : Head) × Has those (made h) × Beside (made h) x
  from_map x i =
      let r : (p : ℕ × Def) × Has (zip (numbers_from 0 (length d.defs)) d.defs) p × Has (if is_refinement d p.1.family p.1.layer then (p.1.place, Map p.0) ∷ [] else []) x =
      Has-from_flat_map (λ ((k, def) : ℕ × Def). if is_refinement d def.family def.layer then (def.place, Map k) ∷ [] else []) (zip (numbers_from 0 (length d.defs)) d.defs) i in
      let at = from-numbered 0 d.defs r.0 r.1 in
      let passes = Has-tested (is_refinement d r.0.1.family r.0.1.layer) r.2 in
      let same : at.0 ≡ r.0.0 = (let e = at.1 in omega (arith, e)) in
      let h : (h : Head) × (slice_get (first_heads flat) at.0 ≡ Some h) × (r.0.1 ≡ def_of flat h) = from-map (def_of flat) (first_heads flat) at.0 r.0.1 at.2 in
      let is : x ≡ (r.0.1.place, Map r.0.0) = only passes.1 in (
        h.0,
        Has-filter (makes_unit text) (heads-Has firsts h.0 (subst (λ l. Has l h.0) (sym heads-are) (get_Has (first_heads flat) at.0 h.0 h.1))) (subst (λ (def : Def). is_refinement d def.family def.layer ≡ true) h.2 passes.0),
        (ap (λ (x : Placed). x.0) is ∙ ap (λ (def : Def). def.place) h.2, (at.0, ap (λ (x : Placed). x.1) is ∙ ap Map (sym same), h.1)),
      )

  from_claim : (x : Placed) → Has (claims d) x → (c : FlatClaim) × Has those (stated c) × Beside (stated c) x
  from_claim x i =
      let r : (p : ℕ × FlatClaim) × Has (zip (numbers_from 0 (length d.claims)) d.claims) p × (x ≡ (p.1.place, Claim p.0)) =
      Has-from_map (λ ((k, claim) : ℕ × FlatClaim). (claim.place, Claim k)) (zip (numbers_from 0 (length d.claims)) d.claims) i in
      let at = from-numbered 0 d.claims r.0 r.1 in
      let same : at.0 ≡ r.0.0 = (let e = at.1 in omega (arith, e)) in (
        r.0.1,
        Has-filter (makes_unit text) (claims-Has firsts r.0.1 (subst (λ l. Has l r.0.1) (sym claims-are) (get_Has d.claims at.0 r.0.1 at.2))) refl,
        (ap (λ (x : Placed). x.0) r.2, (at.0, ap (λ (x : Placed). x.1) r.2 ∙ ap Claim (sym same), at.2)),
      )

  back : (x : Placed) → Has (in_order listed) x → (m : Mark) × Has those m × Beside m x
  back x i = elim (Has-cases (maps d) (claims d) (from-in_order listed x i)) [
    | inl j ↦ let r = from_map x j in (made r.0, r.1, r.2)
    | inr j ↦ let r = from_claim x j in (stated r.0, r.1, r.2)
  ]

  -- no two units have one place
  abbrev placed_maps : ℕ → List Head → List Placed
  placed_maps k hs = flat_map (λ ((k, def) : ℕ × Def). if is_refinement d def.family def.layer then (def.place, Map k) ∷ [] else []) (zip (numbers_from k (length (map (def_of flat) hs))) (map (def_of flat) hs))

  maps-rise : (low k : ℕ) (hs : List Head) → Rises head_place low hs → Rises place_of low (placed_maps k hs)
  maps-rise low k [] h = tt
  maps-rise low k (g ∷ hs) h = by_test (is_refinement d g.family g.layer) (maps-rise (suc g.place) (k + 1) hs h.1)
    where
      by_test : (b : Bool) → Rises place_of (suc g.place) (placed_maps (k + 1) hs) → Rises place_of low ((if b then (g.place, Map k) ∷ [] else []) ++ placed_maps (k + 1) hs)
      by_test true r = (h.0, r)
      by_test false r = lower place_of (suc g.place) low (placed_maps (k + 1) hs) (let l = h.0 in omega (arith, l)) r

  placed_claims-rise : (low k : ℕ) (cs : List FlatClaim) → Rises claim_place low cs → Rises place_of low (map (λ ((k, claim) : ℕ × FlatClaim). (claim.place, Claim k)) (zip (numbers_from k (length cs)) cs))
  placed_claims-rise low k [] h = tt
  placed_claims-rise low k (c ∷ cs) h = (h.0, placed_claims-rise (suc c.place) (k + 1) cs h.1)

  apart : (x y : Placed) → Has (maps d) x → Has (claims d) y → place_of x ≡ place_of y → ⊥
  apart x y i j e =
      let a = from_map x i in
      let b = from_claim y j in
      let one : made a.0 ≡ stated b.0 = one_at_place mark_place 0 those those-rise (made a.0) (stated b.0) a.1 b.1 (sym a.2.0 ∙ (e ∙ b.2.0)) in
      cc (one)

  listed-differ : Differ place_of listed
  listed-differ = differ-append place_of (maps d) (claims d) (differ place_of 0 (maps d) (maps-rise 0 0 (first_heads flat) first_heads-rise)) (differ place_of 0 (claims d) (placed_claims-rise 0 0 d.claims all_claims-rise)) apart

  beside : AllZip Beside those (in_order listed)
  beside = zip_rising mark_place place_of Beside one_place 0 0 those (in_order listed) those-rise (in_order-rises listed listed-differ) there back

  -- ---- together

  abbrev IsOne : ProofUnit → Unit → Type 0
  IsOne u unit = IsSameUnit text u unit × (written_name u ≡ name_of d (unit_in d unit))

  joined : (u : ProofUnit) (m : Mark) (x : Placed) → Stands text u m → Beside m x → IsOne u x.1
  joined (map_of layer f) (made h) x s w =
      let k : ℕ = w.1.0 in
      let def : slice_get d.defs k ≡ Some (def_of flat h) = to-map (def_of flat) (first_heads flat) k h w.1.2 in
      let its_layer : option_and_then (slice_get d.layers) h.layer ≡ Some layer = ap (option_and_then (slice_get d.layers)) s.1 ∙ s.2 in
      let g = family-flat text h.family f s.0 in
      let name : name_of d (unit_in d (Map k)) ≡ in_layer (dotted f.path) (Some layer) =
      ap (λ o. name_of d (as_map o)) def ∙ (ap (λ o. in_layer (name_of_family o) (option_and_then (slice_get d.layers) h.layer)) g.1 ∙ ap (in_layer (dotted f.path)) its_layer) in
      subst (IsOne (map_of layer f)) (sym w.1.1) ((def_of flat h, def, s.0, its_layer), sym name)
  joined (claim_of c) (stated fc) x s w =
      let k : ℕ = w.1.0 in
      let z = from-zip (claims_met t.met) d.claims (c, fc) s.0 in
      let same : z.0 ≡ k = one_index claim_place 0 d.claims all_claims-rise z.0 k fc z.2 w.1.2 in
      subst (IsOne (claim_of c)) (sym w.1.1) ((fc, w.1.2, subst (λ j. slice_get (claims_met t.met) j ≡ Some c) same z.1), sym s.1 ∙ sym (ap (λ o. name_of d (as_claim o)) w.1.2))
  joined (map_of layer f) (stated c) x s w = elim s [ ]
  joined (claim_of c) (made h) x s w = elim s [ ]

  are_one : AllZip IsOne (units t) (units_of d)
  are_one = zip-mapped IsOne (λ ((place, unit) : Placed). unit) (units t) (in_order listed)
      (zip-joined (Stands text) Beside (λ u x. IsOne u x.1) joined (units t) those (in_order listed) stands beside)

  pub units_same : AllZip (IsSameUnit text) (units t) (units_of d)
  units_same = zip-to IsOne (IsSameUnit text) (λ u unit one. one.0) (units t) (units_of d) are_one

  pub names_same : map written_name (units t) ≡ names_in d
  names_same = maps-equal written_name (λ unit. name_of d (unit_in d unit)) (units t) (units_of d) (zip-to IsOne (λ u unit. written_name u ≡ name_of d (unit_in d unit)) (λ u unit one. one.1) (units t) (units_of d) are_one)
