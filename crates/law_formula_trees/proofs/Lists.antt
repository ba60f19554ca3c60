-- Lists: what holds of each member, what is left out of them, what they contain.
use Rattle.std.proofs.Common.{◌≡◌, ◌⊎◌, inl, inr, zero, suc, List, [], ◌∷◌, ◌++◌, map, filter, find, Some, Bool, true, false, not, cond, Contains, refl, sym, ap, ◌∙◌, subst, arith}
use Rattle.std.specs.List.{AllByRecursion, flat_map}
use Rattle.std.proofs.lemmas.List.{map-append}
use Rattle.std.proofs.lemmas.List.Elements.{filter-append, Contains-append_cases, Contains-append_left, Contains-append_right, recursion_from_All, All-contains_itself}
use Rattle.law_lists.proofs.Booleans.{impossible}
use Rattle.law_lists.proofs.Lists.{append_alike}

-- ---- what holds of each member

-- what holds of each member holds of each of a front and of the rest
pub each-front : {X : Type 0} (P : X → Type 0) (xs ys : List X) → AllByRecursion P (xs ++ ys) → AllByRecursion P xs × AllByRecursion P ys
each-front P [] ys h = (tt, h)
each-front P (x ∷ xs) ys h = let r = each-front P xs ys h.1 in ((h.0, r.0), r.1)

pub each-mapped : {X Y : Type 0} (Q : Y → Type 0) (g : X → Y) (xs : List X) → AllByRecursion (λ x. Q (g x)) xs → AllByRecursion Q (map g xs)
each-mapped Q g [] all = tt
each-mapped Q g (x ∷ xs) all = (all.0, each-mapped Q g xs all.1)

pub each-unmapped : {X Y : Type 0} (Q : Y → Type 0) (g : X → Y) (xs : List X) → AllByRecursion Q (map g xs) → AllByRecursion (λ x. Q (g x)) xs
each-unmapped Q g [] h = tt
each-unmapped Q g (x ∷ xs) h = (h.0, each-unmapped Q g xs h.1)

pub each-two : {X : Type 0} (P Q R : X → Type 0) → ((x : X) → P x → Q x → R x) → (xs : List X) → AllByRecursion P xs → AllByRecursion Q xs → AllByRecursion R xs
each-two P Q R h [] p q = tt
each-two P Q R h (x ∷ xs) p q = (h x p.0 q.0, each-two P Q R h xs p.1 q.1)

pub both-each : {X : Type 0} (P Q : X → Type 0) (xs : List X) → AllByRecursion P xs → AllByRecursion Q xs → AllByRecursion (λ x. P x × Q x) xs
both-each P Q [] p q = tt
both-each P Q (x ∷ xs) p q = ((p.0, q.0), both-each P Q xs p.1 q.1)

pub each-unit : {X : Type 0} (xs : List X) → AllByRecursion (λ x. Unit {0}) xs
each-unit [] = tt
each-unit (x ∷ xs) = (tt, each-unit xs)

-- of those that pass, and of all
pub each-passed : {X : Type 0} (P : X → Type 0) (test : X → Bool) (xs : List X) → AllByRecursion P (filter test xs) → AllByRecursion (λ x. test x ≡ true → P x) xs
each-passed P test [] h = tt
each-passed P test (x ∷ xs) h = by_test (test x) refl h (λ k. each-passed P test xs k)
  where
    by_test : (b : Bool) → test x ≡ b → AllByRecursion P (cond b (x ∷ filter test xs) (filter test xs)) → (AllByRecursion P (filter test xs) → AllByRecursion (λ y. test y ≡ true → P y) xs) → (test x ≡ true → P x) × AllByRecursion (λ y. test y ≡ true → P y) xs
    by_test true e k rest = (λ t. k.0, rest k.1)
    by_test false e k rest = (λ t. impossible (test x) t e, rest k)

-- ---- what a test keeps

abbrev pub AllKept : {Y : Type 0} → (Y → Bool) → List Y → Type 0
AllKept keep ys = AllByRecursion (λ y. keep y ≡ true) ys

pub keep-all : {Y : Type 0} (keep : Y → Bool) (ys : List Y) → AllKept keep ys → filter keep ys ≡ ys
keep-all keep [] h = refl
keep-all keep (y ∷ ys) h = ap (λ b. cond b (y ∷ filter keep ys) (filter keep ys)) h.0 ∙ ap (λ l. y ∷ l) (keep-all keep ys h.1)

pub keep-flat : {X Y : Type 0} (keep : Y → Bool) (F G : X → List Y) → ((x : X) → AllKept keep (F x) → filter keep (G x) ≡ F x) → (xs : List X) → AllKept keep (flat_map F xs) → filter keep (flat_map G xs) ≡ flat_map F xs
keep-flat keep F G h [] old = refl
keep-flat keep F G h (x ∷ xs) old =
    let parts = each-front (λ y. keep y ≡ true) (F x) (flat_map F xs) old in
    filter-append keep (G x) (flat_map G xs) ∙ ap (λ l. l ++ filter keep (flat_map G xs)) (h x parts.0) ∙ ap (λ l. F x ++ l) (keep-flat keep F G h xs parts.1)

pub drop-flat : {X Y : Type 0} (keep : Y → Bool) (G : X → List Y) (xs : List X) → AllByRecursion (λ x. filter keep (G x) ≡ []) xs → filter keep (flat_map G xs) ≡ []
drop-flat keep G [] h = refl
drop-flat keep G (x ∷ xs) h = filter-append keep (G x) (flat_map G xs) ∙ ap (λ l. l ++ filter keep (flat_map G xs)) h.0 ∙ drop-flat keep G xs h.1

pub filter-mapped : {X : Type 0} (keep : X → Bool) (g : X → X) → ((x : X) → keep (g x) ≡ keep x) → (xs : List X) → filter keep (map g xs) ≡ map g (filter keep xs)
filter-mapped keep g h [] = refl
filter-mapped keep g h (x ∷ xs) = ap (λ b. cond b (g x ∷ filter keep (map g xs)) (filter keep (map g xs))) (h x) ∙ by_test (keep x) (filter-mapped keep g h xs)
  where
    by_test : (b : Bool) → filter keep (map g xs) ≡ map g (filter keep xs) → cond b (g x ∷ filter keep (map g xs)) (filter keep (map g xs)) ≡ map g (cond b (x ∷ filter keep xs) (filter keep xs))
    by_test true k = ap (λ l. g x ∷ l) k
    by_test false k = k

pub kept-mapped : {X : Type 0} (keep : X → Bool) (g : X → X) → ((x : X) → keep (g x) ≡ keep x) → (xs : List X) → AllKept keep (map g xs) → AllKept keep xs
kept-mapped keep g h [] k = tt
kept-mapped keep g h (x ∷ xs) k = (sym (h x) ∙ k.0, kept-mapped keep g h xs k.1)

pub drop-all : {Y : Type 0} (keep : Y → Bool) (ys : List Y) → AllKept keep ys → filter (λ y. not (keep y)) ys ≡ []
drop-all keep [] h = refl
drop-all keep (y ∷ ys) h = ap (λ b. cond (not b) (y ∷ filter (λ z. not (keep z)) ys) (filter (λ z. not (keep z)) ys)) h.0 ∙ drop-all keep ys h.1

-- what is left of each part
pub left-flat : {X Y : Type 0} (keep drops : Y → Bool) (Q : X → Type 0) (F G H : X → List Y) → ((x : X) → Q x → AllKept keep (F x) → filter drops (G x) ≡ H x) → (xs : List X) → AllByRecursion Q xs → AllKept keep (flat_map F xs) → filter drops (flat_map G xs) ≡ flat_map H xs
left-flat keep drops Q F G H h [] q old = refl
left-flat keep drops Q F G H h (x ∷ xs) q old =
    let parts = each-front (λ y. keep y ≡ true) (F x) (flat_map F xs) old in
    filter-append drops (G x) (flat_map G xs) ∙ ap (λ l. l ++ filter drops (flat_map G xs)) (h x q.0 parts.0) ∙ ap (λ l. H x ++ l) (left-flat keep drops Q F G H h xs q.1 parts.1)

-- ---- members

pub each-member : {X : Type 0} (xs : List X) → AllByRecursion (Contains xs) xs
each-member xs = recursion_from_All (Contains xs) xs (All-contains_itself xs)

pub contains-flat : {X Y : Type 0} (F : X → List Y) (xs : List X) (x : X) (y : Y) → Contains xs x → Contains (F x) y → Contains (flat_map F xs) y
contains-flat F [] x y (k, l, e) there = absurd (omega (arith, l))
contains-flat F (z ∷ xs) x y (zero, l, e) there = Contains-append_left (F z) (flat_map F xs) y (subst (λ w. Contains (F w) y) (sym e) there)
contains-flat F (z ∷ xs) x y (suc k, l, e) there = Contains-append_right (F z) (flat_map F xs) y (contains-flat F xs x y (k, omega (arith, l), e) there)

pub contains-map : {X Y : Type 0} (g : X → Y) (xs : List X) (x : X) → Contains xs x → Contains (map g xs) (g x)
contains-map g [] x (k, l, e) = absurd (omega (arith, l))
contains-map g (z ∷ xs) x (zero, l, e) = (0, omega arith, ap g e)
contains-map g (z ∷ xs) x (suc k, l, e) = behind (contains-map g xs x (k, omega (arith, l), e))
  where
    behind : Contains (map g xs) (g x) → Contains (g z ∷ map g xs) (g x)
    behind (j, m, f) = (suc j, omega (arith, m), f)

pub flat-contains : {X Y : Type 0} (F : X → List Y) (xs : List X) (y : Y) → Contains (flat_map F xs) y → (x : X) × Contains xs x × Contains (F x) y
flat-contains F [] y (k, l, e) = absurd (omega (arith, l))
flat-contains F (x ∷ xs) y c = by_case (Contains-append_cases (F x) (flat_map F xs) y c) (λ h. flat-contains F xs y h)
  where
    by_case : Contains (F x) y ⊎ Contains (flat_map F xs) y → (Contains (flat_map F xs) y → (z : _) × Contains xs z × Contains (F z) y) → (z : _) × Contains (x ∷ xs) z × Contains (F z) y
    by_case (inl h) rest = (x, (0, omega arith, refl), h)
    by_case (inr h) rest = let r = rest h in (r.0, (suc r.1.0, omega (arith, r.1.1), r.1.2), r.2)

pub map-contains : {X Y : Type 0} (g : X → Y) (xs : List X) (y : Y) → Contains (map g xs) y → (x : X) × Contains xs x × (g x ≡ y)
map-contains g [] y (k, l, e) = absurd (omega (arith, l))
map-contains g (x ∷ xs) y (zero, l, e) = (x, (0, omega arith, refl), e)
map-contains g (x ∷ xs) y (suc k, l, e) = let r = map-contains g xs y (k, omega (arith, l), e) in (r.0, (suc r.1.0, omega (arith, r.1.1), r.1.2), r.2)

pub each-at : {X : Type 0} (P : X → Type 0) (xs : List X) (x : X) → AllByRecursion P xs → Contains xs x → P x
each-at P [] x all (k, l, e) = absurd (omega (arith, l))
each-at P (y ∷ xs) x all (zero, l, e) = subst P e all.0
each-at P (y ∷ xs) x all (suc k, l, e) = each-at P xs x all.1 (k, omega (arith, l), e)

pub filter-contains : {X : Type 0} (test : X → Bool) (xs : List X) (x : X) → Contains xs x → test x ≡ true → Contains (filter test xs) x
filter-contains test [] x (k, l, e) h = absurd (omega (arith, l))
filter-contains test (y ∷ xs) x (zero, l, e) h = subst (λ b. Contains (cond b (y ∷ filter test xs) (filter test xs)) x) (sym (ap test e ∙ h)) (0, omega arith, e)
filter-contains test (y ∷ xs) x (suc k, l, e) h = by_test (test y) (filter-contains test xs x (k, omega (arith, l), e) h)
  where
    by_test : (b : Bool) → Contains (filter test xs) x → Contains (cond b (y ∷ filter test xs) (filter test xs)) x
    by_test true (j, m, f) = (suc j, omega (arith, m), f)
    by_test false c = c

pub unfiltered : {X : Type 0} (test : X → Bool) (xs : List X) (x : X) → Contains (filter test xs) x → Contains xs x
unfiltered test [] x c = c
unfiltered test (y ∷ xs) x c = by_test (test y) c (λ h. unfiltered test xs x h)
  where
    behind : Contains xs x → Contains (y ∷ xs) x
    behind (k, l, e) = (suc k, omega (arith, l), e)

    by_test : (b : Bool) → Contains (cond b (y ∷ filter test xs) (filter test xs)) x → (Contains (filter test xs) x → Contains xs x) → Contains (y ∷ xs) x
    by_test true (zero, l, e) rest = (0, omega arith, e)
    by_test true (suc k, l, e) rest = behind (rest (k, omega (arith, l), e))
    by_test false h rest = behind (rest h)

pub find-some : {X : Type 0} (test : X → Bool) (xs : List X) (x : X) → Contains xs x → test x ≡ true → (y : X) × (find test xs ≡ Some y)
find-some test [] x (k, l, e) h = absurd (omega (arith, l))
find-some test (y ∷ xs) x (zero, l, e) h = (y, ap (λ b. cond b (Some y) (find test xs)) (ap test e ∙ h))
find-some test (y ∷ xs) x (suc k, l, e) h = by_test (test y) (find-some test xs x (k, omega (arith, l), e) h)
  where
    by_test : (b : Bool) → (z : _) × (find test xs ≡ Some z) → (z : _) × (cond b (Some y) (find test xs) ≡ Some z)
    by_test true r = (y, refl)
    by_test false r = r

-- ---- empty lists

pub not-empty : {X : Type 0} {Y : Type 0} (x : X) (xs : List X) → x ∷ xs ≡ [] → Y
not-empty x xs h = cc

pub front-empty : {X : Type 0} (xs ys : List X) → xs ++ ys ≡ [] → (xs ≡ []) × (ys ≡ [])
front-empty [] ys h = (refl, h)
front-empty (x ∷ xs) ys h = not-empty x (xs ++ ys) h

pub map-empty : {X Y : Type 0} (g : X → Y) (xs : List X) → map g xs ≡ [] → xs ≡ []
map-empty g [] h = refl
map-empty g (x ∷ xs) h = not-empty (g x) (map g xs) h

-- ---- maps

-- lists whose parts are mapped are mapped
pub mapped-flat : {X Y : Type 0} (g : Y → Y) (F G : X → List Y) → ((x : X) → G x ≡ map g (F x)) → (xs : List X) → flat_map G xs ≡ map g (flat_map F xs)
mapped-flat g F G h [] = refl
mapped-flat g F G h (x ∷ xs) = append_alike (G x) (map g (F x)) (flat_map G xs) (map g (flat_map F xs)) (h x) (mapped-flat g F G h xs) ∙ sym (map-append g (F x) (flat_map F xs))

pub mapped-twice : {X : Type 0} (f g h k : X → X) → ((x : X) → f (g x) ≡ h (k x)) → (xs : List X) → map f (map g xs) ≡ map h (map k xs)
mapped-twice f g h k same [] = refl
mapped-twice f g h k same (x ∷ xs) = rw (same x, mapped-twice f g h k same xs) refl
