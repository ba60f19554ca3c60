-- One member of each list, by position.
use Rattle.std.proofs.Common.{◌≡◌, ℕ, zero, suc, ◌+◌, ◌<◌, List, [], ◌∷◌, ◌++◌, map, length, get_or, refl, sym, ap, subst, inl, inr, arith, Some}
use Rattle.std.specs.List.{flat_map, slice_get}
use Rattle.law_lists.proofs.Options.{some_is}
use Rattle.law_obligations.specs.Sets.{Has, first, later, one_of_each}
use Rattle.law_obligations.proofs.Members.{Has-cases, Has-from_map, Picks, Has-choices}
use Rattle.law_obligations.proofs.Members.Picks.{none as no_pick, more as one_more}

-- members of these lists, one after the other
abbrev pub AreOf : {X : Type 0} → List (List X) → List X → Type 0
AreOf [] [] = Unit {0}
AreOf [] (y ∷ ys) = ⊥
AreOf (xs ∷ xss) [] = ⊥
AreOf (xs ∷ xss) (y ∷ ys) = Has xs y × AreOf xss ys

pub Has-from_flat_map : {X Y : Type 0} (f : X → List Y) (xs : List X) {y : Y} → Has (flat_map f xs) y → (x : X) × Has xs x × Has (f x) y
Has-from_flat_map f [] h = elim h [ ]
Has-from_flat_map f (x ∷ xs) h = elim (Has-cases (f x) (flat_map f xs) h) [ inl l ↦ (x, first, l) | inr l ↦ let r = Has-from_flat_map f xs l in (r.0, later r.1, r.2) ]

only_member : {X : Type 0} {x y : X} → Has (x ∷ []) y → y ≡ x
only_member first = refl
only_member (later h) = elim h [ ]

pub are_of : {X : Type 0} (xss : List (List X)) (ys : List X) → Has (one_of_each xss) ys → AreOf xss ys
are_of [] ys h = subst (AreOf []) (sym (only_member h)) tt
are_of (xs ∷ xss) ys h =
    let r = Has-from_flat_map (λ x. map (λ ys. x ∷ ys) (one_of_each xss)) xs h in
    let q = Has-from_map (λ ys. r.0 ∷ ys) (one_of_each xss) r.2 in
    subst (AreOf (xs ∷ xss)) (sym q.2) (r.1, are_of xss q.0 q.1)

picks_of : {X : Type 0} (xss : List (List X)) (ys : List X) → AreOf xss ys → Picks xss ys
picks_of [] [] h = no_pick
picks_of [] (y ∷ ys) h = elim h [ ]
picks_of (xs ∷ xss) [] h = elim h [ ]
picks_of (xs ∷ xss) (y ∷ ys) h = one_more h.0 (picks_of xss ys h.1)

pub one_of : {X : Type 0} (xss : List (List X)) (ys : List X) → AreOf xss ys → Has (one_of_each xss) ys
one_of xss ys h = Has-choices (picks_of xss ys h)

pub are_long : {X : Type 0} (xss : List (List X)) (ys : List X) → AreOf xss ys → length ys ≡ length xss
are_long [] [] h = refl
are_long [] (y ∷ ys) h = elim h [ ]
are_long (xs ∷ xss) [] h = elim h [ ]
are_long (xs ∷ xss) (y ∷ ys) h = ap suc (are_long xss ys h.1)

pub are_joined : {X : Type 0} (xss yss : List (List X)) (xs ys : List X) → AreOf xss xs → AreOf yss ys → AreOf (xss ++ yss) (xs ++ ys)
are_joined [] yss [] ys h k = k
are_joined [] yss (x ∷ xs) ys h k = elim h [ ]
are_joined (zs ∷ xss) yss [] ys h k = elim h [ ]
are_joined (zs ∷ xss) yss (x ∷ xs) ys h k = (h.0, are_joined xss yss xs ys h.1 k)

pub get_after : {X : Type 0} (xs ys : List X) (y : X) → slice_get (xs ++ y ∷ ys) (length xs) ≡ Some y
get_after [] ys y = refl
get_after (x ∷ xs) ys y = get_after xs ys y

pub value_after : {X : Type 0} (xs ys : List X) (y d : X) → get_or (xs ++ y ∷ ys) (length xs) d ≡ y
value_after [] ys y d = refl
value_after (x ∷ xs) ys y d = value_after xs ys y d

pub get_before : {X : Type 0} (xs ys zs : List X) (k : ℕ) → k < length xs → slice_get (xs ++ ys) k ≡ slice_get (xs ++ zs) k
get_before [] ys zs k l = absurd (omega arith)
get_before (x ∷ xs) ys zs zero l = refl
get_before (x ∷ xs) ys zs (suc k) l = get_before xs ys zs k (omega arith)

pub get_Has : {X : Type 0} (xs : List X) (k : ℕ) (x : X) → slice_get xs k ≡ Some x → Has xs x
get_Has [] k x e = absurd (cc)
get_Has (y ∷ xs) zero x e = subst (Has (y ∷ xs)) (some_is e) first
get_Has (y ∷ xs) (suc k) x e = later (get_Has xs k x e)

pub Has_get : {X : Type 0} {xs : List X} {x : X} → Has xs x → (k : ℕ) × (slice_get xs k ≡ Some x)
Has_get first = (0, refl)
Has_get (later h) = let r = Has_get h in (suc r.0, r.1)
