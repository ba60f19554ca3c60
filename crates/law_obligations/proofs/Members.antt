-- Members of lists: of a map, of choices, of parts.
use Rattle.std.proofs.Common.{◌≡◌, List, [], ◌∷◌, ◌++◌, map, Bool, true, false, ◌||◌, refl, sym, ap, subst, ◌∙◌, ◌⊎◌, inl, inr}
use Rattle.std.specs.List.{flat_map, list_any, list_all}
use Rattle.law_lists.proofs.Booleans.{left_of, right_of, same_tests}
use Rattle.law_obligations.specs.Sets.{Has, first, later, one_of_each, parts, pairs}

pub Has-left : {X : Type 0} {xs : List X} {x : X} (ys : List X) → Has xs x → Has (xs ++ ys) x
Has-left ys first = first
Has-left ys (later h) = later (Has-left ys h)

pub Has-right : {X : Type 0} (xs : List X) {ys : List X} {x : X} → Has ys x → Has (xs ++ ys) x
Has-right [] h = h
Has-right (y ∷ xs) h = later (Has-right xs h)

pub Has-cases : {X : Type 0} (xs ys : List X) {x : X} → Has (xs ++ ys) x → Has xs x ⊎ Has ys x
Has-cases [] ys h = inr h
Has-cases (y ∷ xs) ys first = inl first
Has-cases (y ∷ xs) ys (later h) = elim (Has-cases xs ys h) [ inl l ↦ inl (later l) | inr r ↦ inr r ]

pub Has-uncons : {X : Type 0} {x y : X} {xs : List X} → Has (x ∷ xs) y → (y ≡ x) ⊎ Has xs y
Has-uncons first = inl refl
Has-uncons (later h) = inr h

pub Has-map : {X Y : Type 0} (f : X → Y) {xs : List X} {x : X} → Has xs x → Has (map f xs) (f x)
Has-map f first = first
Has-map f (later h) = later (Has-map f h)

pub Has-from_map : {X Y : Type 0} (f : X → Y) (xs : List X) {y : Y} → Has (map f xs) y → (x : X) × Has xs x × (y ≡ f x)
Has-from_map f [] h = elim h [ ]
Has-from_map f (x ∷ xs) first = (x, first, refl)
Has-from_map f (x ∷ xs) (later h) = let r = Has-from_map f xs h in (r.0, later r.1, r.2)

pub Has-flat_map : {X Y : Type 0} (f : X → List Y) {xs : List X} {x : X} {y : Y} → Has xs x → Has (f x) y → Has (flat_map f xs) y
Has-flat_map f (first {xs = xs}) h = Has-left (flat_map f xs) h
Has-flat_map f (later {y = x} p) h = Has-right (f x) (Has-flat_map f p h)

pub Has-pairs : {X Y Z : Type 0} (f : X → Y → List Z) {xs : List X} {ys : List Y} {x : X} {y : Y} {z : Z} → Has xs x → Has ys y → Has (f x y) z → Has (pairs f xs ys) z
Has-pairs f {ys = ys} p q h = Has-flat_map (λ x. flat_map (f x) ys) p (Has-flat_map (f _) q h)

-- one member of each
pub data Picks {X : Type 0} : List (List X) → List X → Type 0 where
  none : Picks [] []
  more : {xs : List X} {x : X} {xss : List (List X)} {ys : List X} → Has xs x → Picks xss ys → Picks (xs ∷ xss) (x ∷ ys)

pub Has-choices : {X : Type 0} {xss : List (List X)} {ys : List X} → Picks xss ys → Has (one_of_each xss) ys
Has-choices none = first
Has-choices (more {x = x} {xss = xss} h rest) = Has-flat_map (λ x. map (λ ys. x ∷ ys) (one_of_each xss)) h (Has-map (λ ys. x ∷ ys) (Has-choices rest))

-- a choice at each of a list of places, with what it is chosen for
pub record Chosen {X Y : Type 0} (F : X → List Y) (P : X → Y → Type 0) (qs : List X) : Type 0 where
  pub list : List Y
  pub is_choice : Picks (map F qs) list
  pub comes_from : (y : Y) → Has list y → (q : X) × Has qs q × P q y
  pub stands_for : (q : X) → Has qs q → (y : Y) × Has list y × P q y

pub choose_each : {X Y : Type 0} (F : X → List Y) (P : X → Y → Type 0) (qs : List X) → ((q : X) → Has qs q → (y : Y) × Has (F q) y × P q y) → Chosen F P qs
choose_each F P [] each = record { list = []; is_choice = none; comes_from = λ y h. elim h [ ]; stands_for = λ q h. elim h [ ] }
choose_each {X} {Y} F P (q ∷ qs) each =
    let here = each q first in
    let rest = choose_each F P qs (λ r h. each r (later h)) in
    record {
      list = here.0 ∷ rest.list;
      is_choice = more here.1 rest.is_choice;
      comes_from = λ y h. from_cons here.0 rest.list here.2 rest.comes_from y h;
      stands_for = λ r h. for_cons here.0 rest.list here.2 rest.stands_for r h;
    }
  where
    from_cons : (o : Y) (os : List Y) → P q o → ((y : Y) → Has os y → (r : X) × Has qs r × P r y) → (y : Y) → Has (o ∷ os) y → (r : X) × Has (q ∷ qs) r × P r y
    from_cons o os p rest y first = (q, first, p)
    from_cons o os p rest y (later h) = let r = rest y h in (r.0, later r.1, r.2)

    for_cons : (o : Y) (os : List Y) → P q o → ((r : X) → Has qs r → (y : Y) × Has os y × P r y) → (r : X) → Has (q ∷ qs) r → (y : Y) × Has (o ∷ os) y × P r y
    for_cons o os p rest r first = (o, first, p)
    for_cons o os p rest r (later h) = let y = rest r h in (y.0, later y.1, y.2)

-- any and all by membership
pub any-found : {X : Type 0} (p : X → Bool) {xs : List X} {x : X} → Has xs x → p x ≡ true → list_any p xs ≡ true
any-found p first e = rw e refl
any-found p (later {y = x} {xs = xs} h) e = or_true (p x) (list_any p xs) (any-found p h e)
  where
    or_true : (a b : Bool) → b ≡ true → (a || b) ≡ true
    or_true true b e = refl
    or_true false b e = e

pub any-some : {X : Type 0} (p : X → Bool) (xs : List X) → list_any p xs ≡ true → (x : X) × Has xs x × (p x ≡ true)
any-some p [] e = absurd (cc)
any-some {X} p (x ∷ xs) e = at (p x) refl (any-some p xs) e
  where
    at : (b : Bool) → p x ≡ b → (list_any p xs ≡ true → (y : X) × Has xs y × (p y ≡ true)) → (b || list_any p xs) ≡ true → (y : X) × Has (x ∷ xs) y × (p y ≡ true)
    at true q goes e = (x, first, q)
    at false q goes e = let r = goes e in (r.0, later r.1, r.2)

pub all-each : {X : Type 0} (p : X → Bool) {xs : List X} {x : X} → list_all p xs ≡ true → Has xs x → p x ≡ true
all-each p e (first {x = x} {xs = xs}) = left_of (p x) (list_all p xs) e
all-each p e (later {y = x} {xs = xs} h) = all-each p (right_of (p x) (list_all p xs) e) h

pub all-holds : {X : Type 0} (p : X → Bool) (xs : List X) → ((x : X) → Has xs x → p x ≡ true) → list_all p xs ≡ true
all-holds p [] each = refl
all-holds p (x ∷ xs) each = rw (each x first) (all-holds p xs (λ y h. each y (later h)))

-- two lists with the same members
pub record HaveSame {X : Type 0} (xs ys : List X) : Type 0 where
  pub there : (x : X) → Has xs x → Has ys x
  pub back : (x : X) → Has ys x → Has xs x

pub any-same : {X : Type 0} (f : X → Bool) (xs ys : List X) → HaveSame xs ys → list_any f xs ≡ list_any f ys
any-same f xs ys c = same_tests (list_any f xs) (list_any f ys)
    (λ e. let r = any-some f xs e in any-found f (c.there r.0 r.1) r.2)
    (λ e. let r = any-some f ys e in any-found f (c.back r.0 r.1) r.2)

pub all-same : {X : Type 0} (f : X → Bool) (xs ys : List X) → HaveSame xs ys → list_all f xs ≡ list_all f ys
all-same f xs ys c = same_tests (list_all f xs) (list_all f ys)
    (λ e. all-holds f ys (λ y h. all-each f e (c.back y h)))
    (λ e. all-holds f xs (λ x h. all-each f e (c.there x h)))

-- the part that a test takes
abbrev pub keep : {X : Type 0} → Bool → X → List X → List X
keep true x xs = x ∷ xs
keep false x xs = xs

abbrev pub kept_by : {X : Type 0} → (X → Bool) → List X → List X
kept_by f [] = []
kept_by f (x ∷ xs) = keep (f x) x (kept_by f xs)

pub Has-kept : {X : Type 0} (f : X → Bool) {xs : List X} {x : X} → Has xs x → f x ≡ true → Has (kept_by f xs) x
Has-kept f first e = rw e first
Has-kept f (later {y = y} h) e = past (f y) y (Has-kept f h e)
  where
    past : {X : Type 0} (b : Bool) (y : X) {xs : List X} {x : X} → Has xs x → Has (keep b y xs) x
    past true y h = later h
    past false y h = h

pub Has-keep_cases : {X : Type 0} (b : Bool) {y x : X} {ys : List X} → Has (keep b y ys) x → ((x ≡ y) × (b ≡ true)) ⊎ Has ys x
Has-keep_cases true first = inl (refl, refl)
Has-keep_cases true (later h) = inr h
Has-keep_cases false h = inr h

pub Has-from_kept : {X : Type 0} (f : X → Bool) (xs : List X) {x : X} → Has (kept_by f xs) x → Has xs x × (f x ≡ true)
Has-from_kept f [] h = elim h [ ]
Has-from_kept f (y ∷ xs) h = elim (Has-keep_cases (f y) h) [
  | inl e ↦ (subst (Has (y ∷ xs)) (sym e.0) first, ap f e.0 ∙ e.1)
  | inr l ↦ let r = Has-from_kept f xs l in (later r.0, r.1)
]

pub Has-parts : {X : Type 0} (f : X → Bool) (xs : List X) → Has (parts xs) (kept_by f xs)
Has-parts f [] = first
Has-parts {X} f (x ∷ xs) = at (f x) (Has-parts f xs)
  where
    at : (b : Bool) → Has (parts xs) (kept_by f xs) → Has (parts (x ∷ xs)) (keep b x (kept_by f xs))
    at true h = Has-right (parts xs) (Has-map (λ ys. x ∷ ys) h)
    at false h = Has-left (map (λ ys. x ∷ ys) (parts xs)) h

-- a part with exactly these members
pub part_with : {X : Type 0} (same : X → X → Bool) (xs ws : List X) →
    ((x y : X) → same x y ≡ true → x ≡ y) → ((x : X) → same x x ≡ true) → ((w : X) → Has ws w → Has xs w) →
    (ys : List X) × Has (parts xs) ys × ((w : X) → Has ws w → Has ys w) × ((y : X) → Has ys y → Has ws y)
part_with same xs ws equal reflexive within = (
  kept_by (λ x. list_any (same x) ws) xs,
  Has-parts (λ x. list_any (same x) ws) xs,
  λ w h. Has-kept (λ x. list_any (same x) ws) (within w h) (any-found (same w) h (reflexive w)),
  λ y h. let r = Has-from_kept (λ x. list_any (same x) ws) xs h in let q = any-some (same y) ws r.1 in
      subst (Has ws) (sym (equal y q.0 q.2)) q.1,
)

pub one_of_one : {X : Type 0} {x y : X} → Has (x ∷ []) y → y ≡ x
one_of_one first = refl
one_of_one (later h) = elim h [ ]

pub one_of_two : {X : Type 0} {x y z : X} → Has (x ∷ y ∷ []) z → (z ≡ x) ⊎ (z ≡ y)
one_of_two first = inl refl
one_of_two (later first) = inr refl
one_of_two (later (later h)) = elim h [ ]
