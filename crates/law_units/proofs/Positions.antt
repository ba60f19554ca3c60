-- What stands at the first place at which a test passes.
use Rattle.std.proofs.Common.{◌≡◌, ℕ, zero, suc, ◌+◌, List, [], ◌∷◌, map, Some, Bool, true, false, cond, not, ◌||◌, refl, sym, ap, subst, ◌∙◌, slice_get, arith}
use Rattle.std.specs.Str.{bytes_eq}
use Rattle.std.specs.List.{list_any, position_or_len}
use Rattle.std.proofs.lemmas.Slice.Eq.{bytes_eq-Decides}
use Rattle.smv_core.specs.Values.{Name, Path}
use Rattle.smv_core.specs.Types.{Family}
use Rattle.smv_core.specs.FlatOrder.{design_of}
use Rattle.smv_core.specs.Outcome.{family_at, same_path}
use Rattle.smv_core.specs.declared.tree.Text.{Text}
use Rattle.smv_core.specs.declared.flat.Family.{Family as FlatFamily}
use Rattle.law_designs.specs.Entries.{placed_families}
use Rattle.law_designs.specs.Numbers.{family_number}
use Rattle.law_designs.specs.Flattening.{scope_in, flat_family, flatten, layer_number}
use Rattle.law_designs.proofs.SameFamilies.{families-same}
use Rattle.law_designs.proofs.SameWalks.{path-equal}
use Rattle.law_flat_kinds.specs.FamiliesFound.{FamiliesAreFound}

pub inner : {X : Type 0} {x y : X} → Some x ≡ Some y → x ≡ y
inner e = cc

behind : {X : Type 0} (y : X) (xs : List X) (n : ℕ) → slice_get (y ∷ xs) (1 + n) ≡ slice_get xs n
behind y xs n = let e : 1 + n ≡ suc n = omega arith in ap (slice_get (y ∷ xs)) e

pub position-passes : {X : Type 0} (p : X → Bool) (xs : List X) (x : X) → slice_get xs (position_or_len p xs) ≡ Some x → p x ≡ true
position-passes p [] x e = absurd (cc (e))
position-passes p (y ∷ xs) x e = by_test (p y) refl e (position-passes p xs x)
  where
    by_test : (b : Bool) → p y ≡ b → slice_get (y ∷ xs) (cond (not b) (1 + position_or_len p xs) 0) ≡ Some x → (slice_get xs (position_or_len p xs) ≡ Some x → p x ≡ true) → p x ≡ true
    by_test true h e rest = subst (λ z. p z ≡ true) (inner e) h
    by_test false h e rest = rest (sym (behind y xs (position_or_len p xs)) ∙ e)

position-found : {X : Type 0} (p : X → Bool) (xs : List X) → list_any p xs ≡ true → (x : X) × (slice_get xs (position_or_len p xs) ≡ Some x)
position-found p [] e = absurd (cc (e))
position-found {X} p (y ∷ xs) e = by_test (p y) e (position-found p xs)
  where
    by_test : (b : Bool) → (b || list_any p xs) ≡ true → (list_any p xs ≡ true → (x : X) × (slice_get xs (position_or_len p xs) ≡ Some x)) → (x : X) × (slice_get (y ∷ xs) (cond (not b) (1 + position_or_len p xs) 0) ≡ Some x)
    by_test true e rest = (y, refl)
    by_test false e rest = let r = rest e in (r.0, behind y xs (position_or_len p xs) ∙ r.1)

-- a layer that is listed stands at its number
pub layer-there : (names : List Name) (layer : Name) → list_any (bytes_eq layer) names ≡ true → slice_get names (layer_number names layer) ≡ Some layer
layer-there names layer e =
    let r = position-found (bytes_eq layer) names e in
    let same : layer ≡ r.0 = (bytes_eq-Decides layer r.0).0 (position-passes (bytes_eq layer) names r.0 r.1) in
    r.1 ∙ ap Some (sym same)

-- the layer at the number of a name has that name
pub layer-is : (names : List Name) (name layer : Name) → slice_get names (layer_number names name) ≡ Some layer → name ≡ layer
layer-is names name layer e = (bytes_eq-Decides name layer).0 (position-passes (bytes_eq name) names layer e)

pub from-map : {X Y : Type 0} (f : X → Y) (xs : List X) (k : ℕ) (y : Y) → slice_get (map f xs) k ≡ Some y → (x : X) × (slice_get xs k ≡ Some x) × (y ≡ f x)
from-map f [] k y e = absurd (cc (e))
from-map f (x ∷ xs) zero y e = (x, refl, sym (inner e))
from-map f (x ∷ xs) (suc k) y e = from-map f xs k y e

pub to-map : {X Y : Type 0} (f : X → Y) (xs : List X) (k : ℕ) (x : X) → slice_get xs k ≡ Some x → slice_get (map f xs) k ≡ Some (f x)
to-map f [] k x e = absurd (cc (e))
to-map f (y ∷ xs) zero x e = ap (λ z. Some (f z)) (inner e)
to-map f (y ∷ xs) (suc k) x e = to-map f xs k x e

module _ (text : Text) where
  -- a family of the text and the one of its number in the flattened text
  pub family-flat : (k : ℕ) (f : Family) → slice_get (design_of text).families k ≡ Some f → (at : ℕ) × (slice_get (flatten text).families k ≡ Some (flat_family (scope_in text []) (f, at)))
  family-flat k f e =
      let r = from-map (λ ((f, at) : Family × ℕ). f) (placed_families text) k f (subst (λ fs. slice_get fs k ≡ Some f) (sym (families-same text)) e) in
      (r.0.1, subst (λ g. slice_get (flatten text).families k ≡ Some (flat_family (scope_in text []) (g, r.0.1))) (sym r.2) (to-map (flat_family (scope_in text [])) (placed_families text) k r.0 r.1))

  pub family-led : (k : ℕ) (g : FlatFamily) → slice_get (flatten text).families k ≡ Some g → (f : Family) × (slice_get (design_of text).families k ≡ Some f)
  family-led k g e =
      let r = from-map (flat_family (scope_in text [])) (placed_families text) k g e in
      (r.0.0, subst (λ fs. slice_get fs k ≡ Some r.0.0) (families-same text) (to-map (λ ((f, at) : Family × ℕ). f) (placed_families text) k r.0 r.1))

  -- the family of a path's number is the one that the path leads to
  pub family-of-path : FamiliesAreFound text → (path : Path) (f : Family) → slice_get (design_of text).families (family_number (scope_in text []) path) ≡ Some f → family_at (design_of text).families path ≡ Some f
  family-of-path found path f e =
      let own : same_path f.path path ≡ true = position-passes (λ (g : Family). same_path g.path path) (scope_in text []).families f (subst (λ fs. slice_get fs (family_number (scope_in text []) path) ≡ Some f) (sym (families-same text)) e) in
      subst (λ path. family_at (design_of text).families path ≡ Some f) (path-equal f.path path own) (found (family_number (scope_in text []) path) f e).0
