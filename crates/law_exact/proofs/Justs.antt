-- Lists that have one member, once or more often.
use Rattle.std.proofs.Common.{◌≡◌, List, [], ◌∷◌, ◌++◌, map, Bool, true, false, ◌||◌, ◌&&◌, refl, sym, ap, subst, ◌∙◌}
use Rattle.std.specs.List.{flat_map, list_any, list_all}
use Rattle.law_obligations.specs.Sets.{Has, first, later, one_of_each, pairs}
use Rattle.law_obligations.proofs.Members.{Has-map, Has-from_map, Has-flat_map, any-found, any-some, all-each, all-holds}
use Rattle.law_obligations.proofs.OneOfEach.{Has-from_flat_map}
use Rattle.law_lists.proofs.Booleans.{same_tests}

-- a member, and each member is this one
abbrev pub Just : {X : Type 0} → List X → X → Type 0
Just {X} xs x = Has xs x × ((y : X) → Has xs y → y ≡ x)

pub just-one : {X : Type 0} (x : X) → Just (x ∷ []) x
just-one {X} x = (first, λ y h. only y h)
  where
    only : (y : X) → Has (x ∷ []) y → y ≡ x
    only _ first = refl
    only y (later h) = elim h [ ]

pub just-is : {X : Type 0} {xs : List X} {x y : X} → x ≡ y → Just xs x → Just xs y
just-is {xs = xs} e h = subst (Just xs) e h

pub just-map : {X Y : Type 0} (f : X → Y) {xs : List X} {x : X} → Just xs x → Just (map f xs) (f x)
just-map f {xs = xs} h = (Has-map f h.0, λ y k. let r = Has-from_map f xs k in r.2 ∙ ap f (h.1 r.0 r.1))

pub just-flat : {X Y : Type 0} (f : X → List Y) {xs : List X} {x : X} {y : Y} → Just xs x → Just (f x) y → Just (flat_map f xs) y
just-flat f {xs = xs} {x = x} h k = (Has-flat_map f h.0 k.0, λ z m. let r = Has-from_flat_map f xs m in k.1 z (subst (λ w. Has (f w) z) (h.1 r.0 r.1) r.2))

pub just-pairs : {X Y Z : Type 0} (f : X → Y → List Z) {xs : List X} {ys : List Y} {x : X} {y : Y} {z : Z} → Just xs x → Just ys y → Just (f x y) z → Just (pairs f xs ys) z
just-pairs f {ys = ys} {x = x} h k m = just-flat (λ x. flat_map (f x) ys) h (just-flat (f x) k m)

-- so each of these lists
abbrev pub EachJust : {X : Type 0} → List (List X) → List X → Type 0
EachJust [] [] = Unit {0}
EachJust [] (y ∷ ys) = ⊥
EachJust (xs ∷ xss) [] = ⊥
EachJust (xs ∷ xss) (y ∷ ys) = Just xs y × EachJust xss ys

pub just-choices : {X : Type 0} (xss : List (List X)) (ys : List X) → EachJust xss ys → Just (one_of_each xss) ys
just-choices [] [] h = just-one []
just-choices [] (y ∷ ys) h = elim h [ ]
just-choices (xs ∷ xss) [] h = elim h [ ]
just-choices (xs ∷ xss) (y ∷ ys) h = just-flat (λ x. map (λ zs. x ∷ zs) (one_of_each xss)) h.0 (just-map (λ zs. y ∷ zs) (just-choices xss ys h.1))

pub each-just-map : {X Y : Type 0} (F : X → List Y) (f : X → Y) (xs : List X) → ((x : X) → Has xs x → Just (F x) (f x)) → EachJust (map F xs) (map f xs)
each-just-map F f [] h = tt
each-just-map F f (x ∷ xs) h = (h x first, each-just-map F f xs (λ y k. h y (later k)))

pub each-just-joined : {X : Type 0} (xss yss : List (List X)) (xs ys : List X) → EachJust xss xs → EachJust yss ys → EachJust (xss ++ yss) (xs ++ ys)
each-just-joined [] yss [] ys h k = k
each-just-joined [] yss (x ∷ xs) ys h k = elim h [ ]
each-just-joined (zs ∷ xss) yss [] ys h k = elim h [ ]
each-just-joined (zs ∷ xss) yss (x ∷ xs) ys h k = (h.0, each-just-joined xss yss xs ys h.1 k)

-- a test of some member, and of all, is a test of it
pub just-any : {X : Type 0} (p : X → Bool) {xs : List X} {x : X} → Just xs x → list_any p xs ≡ p x
just-any p {xs = xs} {x = x} h = same_tests (list_any p xs) (p x) (λ e. let r = any-some p xs e in subst (λ y. p y ≡ true) (h.1 r.0 r.1) r.2) (λ e. any-found p h.0 e)

pub just-all : {X : Type 0} (p : X → Bool) {xs : List X} {x : X} → Just xs x → list_all p xs ≡ p x
just-all p {xs = xs} {x = x} h = same_tests (list_all p xs) (p x) (λ e. all-each p e h.0) (λ e. all-holds p xs (λ y k. subst (λ z. p z ≡ true) (sym (h.1 y k)) e))

-- tests of a mapped list
pub all-map : {X Y : Type 0} (p : Y → Bool) (f : X → Y) (xs : List X) → list_all p (map f xs) ≡ list_all (λ x. p (f x)) xs
all-map p f [] = refl
all-map p f (x ∷ xs) = ap (λ b. p (f x) && b) (all-map p f xs)

pub any-each : {X : Type 0} (p q : X → Bool) (xs : List X) → ((x : X) → Has xs x → p x ≡ q x) → list_any p xs ≡ list_any q xs
any-each p q [] h = refl
any-each p q (x ∷ xs) h = ap (λ b. b || list_any p xs) (h x first) ∙ ap (λ b. q x || b) (any-each p q xs (λ y k. h y (later k)))

pub all-each-same : {X : Type 0} (p q : X → Bool) (xs : List X) → ((x : X) → Has xs x → p x ≡ q x) → list_all p xs ≡ list_all q xs
all-each-same p q [] h = refl
all-each-same p q (x ∷ xs) h = ap (λ b. b && list_all p xs) (h x first) ∙ ap (λ b. q x && b) (all-each-same p q xs (λ y k. h y (later k)))

pub any-joined : {X : Type 0} (p : X → Bool) (xs ys : List X) → list_any p (xs ++ ys) ≡ (list_any p xs || list_any p ys)
any-joined p [] ys = refl
any-joined p (x ∷ xs) ys = ap (λ b. p x || b) (any-joined p xs ys) ∙ again (p x) (list_any p xs) (list_any p ys)
  where
    again : (a b c : Bool) → (a || (b || c)) ≡ ((a || b) || c)
    again true b c = refl
    again false b c = refl
