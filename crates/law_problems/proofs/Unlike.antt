-- Lists without repeats: maps, choices and elements of them.
use Rattle.std.proofs.Common.{◌≡◌, ◌≢◌, ℕ, zero, suc, ◌+◌, ◌-◌, List, [], ◌∷◌, ◌++◌, map, get_or, Bool, true, false, cond, filter, sym, ap, subst, ◌∙◌, inl, inr, Option, Some, None, arith}
use Rattle.std.specs.List.{flat_map, slice_get}
use Rattle.law_lists.proofs.Lists.{head_is, tail_is}
use Rattle.smv_core.specs.Values.{Name, Value, number, constant, scalar, ordinal, Sizes, values_of, numbers_from}
use Rattle.smv_core.specs.Values as values
use Rattle.smv_core.specs.FlatMeaning.{set_type}
use Rattle.smv_core.specs.declared.flat.Simple.{Simple}
use Rattle.smv_core.specs.declared.flat.Simple.TheVariants.{Range, Enum, Set}
use Rattle.smv_core.specs.declared.flat.SetInfo.{SetInfo}
use Rattle.law_obligations.specs.Sets.{Has, first, later, one_of_each}
use Rattle.law_obligations.specs.Places.{Place, named, World, named_in}
use Rattle.law_obligations.specs.Soundness.{over_of}
use Rattle.law_obligations.proofs.Members.{Has-cases, Has-from_map}
use Rattle.law_obligations.proofs.Spots.{numbers-Has}
use Rattle.law_obligations.proofs.OneOfEach.{Has-from_flat_map}
use Rattle.law_obligations.specs.Cones.{AbsElement, element, elements_of, elements}
use Rattle.law_obligations.proofs.Lookups.{Has-from_filter}
use Rattle.smv_problem.specs.WellFormed.{AreDistinct, AreApartElements}

-- no member twice
abbrev pub AreUnlike : {X : Type 0} → List X → Type 0
AreUnlike [] = Unit {0}
AreUnlike {X} (x ∷ xs) = ((y : X) → Has xs y → x ≢ y) × AreUnlike xs

abbrev pub AreAllUnlike : {X : Type 0} → List (List X) → Type 0
AreAllUnlike [] = Unit {0}
AreAllUnlike (xs ∷ xss) = AreUnlike xs × AreAllUnlike xss

pub unlike-map : {X Y : Type 0} (f : X → Y) → ((x y : X) → f x ≡ f y → x ≡ y) → (xs : List X) → AreUnlike xs → AreUnlike (map f xs)
unlike-map f one [] u = tt
unlike-map f one (x ∷ xs) u = (λ y h e. let r = Has-from_map f xs h in u.0 r.0 r.1 (one x r.0 (e ∙ r.2)), unlike-map f one xs u.1)

pub unlike-joined : {X : Type 0} (xs ys : List X) → AreUnlike xs → AreUnlike ys → ((x : X) → Has xs x → Has ys x → ⊥) → AreUnlike (xs ++ ys)
unlike-joined [] ys u v d = v
unlike-joined (x ∷ xs) ys u v d = (
  λ y h e. elim (Has-cases xs ys h) [ inl l ↦ u.0 y l e | inr r ↦ d x first (subst (Has ys) (sym e) r) ],
  unlike-joined xs ys u.1 v (λ z p q. d z (later p) q),
)

pub unlike-flat_map : {X Y : Type 0} (f : X → List Y) → ((x z : X) (y : Y) → Has (f x) y → Has (f z) y → x ≡ z) → ((x : X) → AreUnlike (f x)) → (xs : List X) → AreUnlike xs → AreUnlike (flat_map f xs)
unlike-flat_map f one each [] u = tt
unlike-flat_map f one each (x ∷ xs) u = unlike-joined (f x) (flat_map f xs) (each x) (unlike-flat_map f one each xs u.1)
    (λ y p q. let r = Has-from_flat_map f xs q in u.0 r.0 r.1 (one x r.0 y p r.2))

pub unlike-filter : {X : Type 0} (p : X → Bool) (xs : List X) → AreUnlike xs → AreUnlike (filter p xs)
unlike-filter p [] u = tt
unlike-filter {X} p (x ∷ xs) u = at (p x) (unlike-filter p xs u.1)
  where
    at : (b : Bool) → AreUnlike (filter p xs) → AreUnlike (cond b (x ∷ filter p xs) (filter p xs))
    at true v = (λ y h. u.0 y (Has-from_filter p xs h).0, v)
    at false v = v

pub unlike-one_of_each : {X : Type 0} (xss : List (List X)) → AreAllUnlike xss → AreUnlike (one_of_each xss)
unlike-one_of_each [] u = (λ y h. elim h [ ], tt)
unlike-one_of_each {X} (xs ∷ xss) u = unlike-flat_map (λ x. map (λ ys. x ∷ ys) (one_of_each xss)) one
    (λ x. unlike-map (λ ys. x ∷ ys) (λ ys zs e. tail_is e) (one_of_each xss) (unlike-one_of_each xss u.1)) xs u.0
  where
    one : (x z : X) (ys : List X) → Has (map (λ ys. x ∷ ys) (one_of_each xss)) ys → Has (map (λ ys. z ∷ ys) (one_of_each xss)) ys → x ≡ z
    one x z ys p q = let a = Has-from_map (λ ys. x ∷ ys) (one_of_each xss) p in let b = Has-from_map (λ ys. z ∷ ys) (one_of_each xss) q in head_is (sym a.2 ∙ b.2)

pub unlike-numbers : (low n : ℕ) → AreUnlike (numbers_from low n)
unlike-numbers low zero = tt
unlike-numbers low (suc n) = (λ k h e. let b = numbers-Has (low + 1) n k h in absurd (let l = b.0 in omega (arith, l, e)), unlike-numbers (low + 1) n)

-- ---- values and elements

unlike-names : (names : List Name) → AreDistinct names → AreUnlike names
unlike-names [] d = tt
unlike-names (name ∷ names) d = (d.0, unlike-names names d.1)

got : (list : ℕ) (enums : List (List Name)) → ((names : List Name) → Has enums names → AreDistinct names) → AreUnlike (get_or enums list [])
got list [] each = tt
got zero (names ∷ enums) each = unlike-names names (each names first)
got (suc list) (names ∷ enums) each = got list enums (λ names h. each names (later h))

number_is : (k l : ℕ) → number k ≡ number l → k ≡ l
number_is k l e = cc

constant_is : (k l : Name) → constant k ≡ constant l → k ≡ l
constant_is k l e = cc

scalar_is : (t : Name) (k l : ℕ) → scalar t k ≡ scalar t l → k ≡ l
scalar_is t k l e = cc

ordinal_is : (t : Name) (k l : ℕ) → ordinal t k ≡ ordinal t l → k ≡ l
ordinal_is t k l e = cc

named_is : (u v : Value) → named u ≡ named v → u ≡ v
named_is u v e = cc

unlike-set : (sizes : Sizes) (o : Option SetInfo) → AreUnlike (values_of sizes (set_type o))
unlike-set sizes None = tt
unlike-set sizes (Some info) = at info.ordered info.name
  where
    at : (b : Bool) (t : Name) → AreUnlike (values_of sizes (cond b (values.ordset t) (values.scalarset t)))
    at true t = unlike-map (ordinal t) (ordinal_is t) (numbers_from 0 (sizes t)) (unlike-numbers 0 (sizes t))
    at false t = unlike-map (scalar t) (scalar_is t) (numbers_from 0 (sizes t)) (unlike-numbers 0 (sizes t))

module _ (w : World) (constants : (names : List Name) → Has w.classes.enums names → AreDistinct names) where
  pub unlike-named : (t : Simple) → AreUnlike (named_in w t)
  unlike-named (Range low high) = unlike-map named named_is _ (unlike-map number number_is (numbers_from low (high + 1 - low)) (unlike-numbers low (high + 1 - low)))
  unlike-named (Enum list) = unlike-map named named_is _ (unlike-map constant constant_is (get_or w.classes.enums list []) (got list w.classes.enums constants))
  unlike-named (Set set) = unlike-map named named_is _ (unlike-set w.classes.sizes (slice_get w.classes.sets set))

  all_unlike : (types : List Simple) → AreAllUnlike (map (named_in w) types)
  all_unlike [] = tt
  all_unlike (t ∷ types) = (unlike-named t, all_unlike types)

  element_is : (family : ℕ) (ps qs : List Place) → element family ps ≡ element family qs → ps ≡ qs
  element_is family ps qs e = ap (λ (x : AbsElement). x.indexes) e

  pub unlike-elements : AreUnlike (elements w)
  unlike-elements = unlike-flat_map (elements_of w) one each _ (unlike-numbers 0 _)
    where
      each : (family : ℕ) → AreUnlike (elements_of w family)
      each family = unlike-map (element family) (element_is family) _ (unlike-one_of_each _ (all_unlike (over_of (slice_get w.classes.families family))))

      family_of : (family : ℕ) (x : AbsElement) → Has (elements_of w family) x → x.family ≡ family
      family_of family x h = ap (λ (x : AbsElement). x.family) (Has-from_map (element family) (one_of_each (map (named_in w) (over_of (slice_get w.classes.families family)))) h).2

      one : (k l : ℕ) (x : AbsElement) → Has (elements_of w k) x → Has (elements_of w l) x → k ≡ l
      one k l x p q = sym (family_of k x p) ∙ family_of l x q

pub apart_elements : (xs : List AbsElement) → AreUnlike xs → AreApartElements xs
apart_elements [] u = tt
apart_elements (x ∷ xs) u = (u.0, apart_elements xs u.1)
