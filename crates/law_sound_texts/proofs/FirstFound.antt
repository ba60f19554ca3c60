-- The first of a list that passes a test: in two lists side by side, and of definitions that stand in order.
use Rattle.std.proofs.Common.{◌≡◌, List, [], ◌∷◌, ◌++◌, map, filter, find, Option, Some, None, option_map, is_some, Bool, true, false, not, ◌&&◌, ◌||◌, cond, nat_lt, refl, sym, ap, ◌∙◌, arith}
use Rattle.std.specs.List.{list_any, AllZip}
use Rattle.std.proofs.lemmas.Bool.Decides.{nat_tests}
use Rattle.smv_core.specs.declared.flat.Def.{Def}
use Rattle.law_designs.specs.Flattening.{different}
use Rattle.law_designs.specs.Laws.{AreInOrder}
use Rattle.law_obligations.specs.Outlines.{earlier, earliest}
use Rattle.law_obligations.proofs.Lookups.{find-some}
use Rattle.law_obligations.proofs.Members.{all-each}

-- two lookups find what is related, or both find nothing
abbrev pub FindAlike : {X Y : Type 0} → (X → Y → Type 0) → Option X → Option Y → Type 0
FindAlike R None None = Unit {0}
FindAlike R None (Some y) = ⊥
FindAlike R (Some x) None = ⊥
FindAlike R (Some x) (Some y) = R x y

pub find-zip : {X Y : Type 0} (R : X → Y → Type 0) (p : X → Bool) (q : Y → Bool) → ((x : X) (y : Y) → R x y → p x ≡ q y) → (xs : List X) (ys : List Y) → AllZip R xs ys → FindAlike R (find p xs) (find q ys)
find-zip R p q same [] [] h = tt
find-zip R p q same [] (y ∷ ys) h = elim h [ ]
find-zip R p q same (x ∷ xs) [] h = elim h [ ]
find-zip R p q same (x ∷ xs) (y ∷ ys) h = by_tests (p x) (q y) (same x y h.0) (find-zip R p q same xs ys h.1)
  where
    by_tests : (b c : Bool) → b ≡ c → FindAlike R (find p xs) (find q ys) → FindAlike R (cond b (Some x) (find p xs)) (cond c (Some y) (find q ys))
    by_tests true true e rest = h.0
    by_tests true false e rest = absurd (cc (e))
    by_tests false true e rest = absurd (cc (e))
    by_tests false false e rest = rest

pub zip-append : {X Y : Type 0} (R : X → Y → Type 0) (xs : List X) (ys : List Y) (us : List X) (vs : List Y) → AllZip R xs ys → AllZip R us vs → AllZip R (xs ++ us) (ys ++ vs)
zip-append R [] [] us vs h k = k
zip-append R [] (y ∷ ys) us vs h k = elim h [ ]
zip-append R (x ∷ xs) [] us vs h k = elim h [ ]
zip-append R (x ∷ xs) (y ∷ ys) us vs h k = (h.0, zip-append R xs ys us vs h.1 k)

pub any-is-find : {X : Type 0} (p : X → Bool) (xs : List X) → list_any p xs ≡ is_some (find p xs)
any-is-find p [] = refl
any-is-find {X} p (x ∷ xs) = by_test (p x) (any-is-find p xs)
  where
    by_test : (b : Bool) → list_any p xs ≡ is_some (find p xs) → (b || list_any p xs) ≡ is_some (cond b (Some x) (find p xs))
    by_test true e = refl
    by_test false e = e

pub find-map : {X Y : Type 0} (p : Y → Bool) (f : X → Y) (xs : List X) → find p (map f xs) ≡ option_map f (find (λ x. p (f x)) xs)
find-map p f [] = refl
find-map {X} {Y} p f (x ∷ xs) = by_test (p (f x)) (find-map p f xs)
  where
    by_test : (b : Bool) → find p (map f xs) ≡ option_map f (find (λ x. p (f x)) xs) → cond b (Some (f x)) (find p (map f xs)) ≡ option_map f (cond b (Some x) (find (λ x. p (f x)) xs))
    by_test true e = refl
    by_test false e = e

pub find-same : {X : Type 0} (p q : X → Bool) → ((x : X) → p x ≡ q x) → (xs : List X) → find p xs ≡ find q xs
find-same p q same [] = refl
find-same p q same (x ∷ xs) = rw (same x, find-same p q same xs) refl

-- a second test that passes what is found, or where nothing is found
pub find-both : {X : Type 0} (r p : X → Bool) (xs : List X) (x : X) → find p xs ≡ Some x → r x ≡ true → find (λ y. r y && p y) xs ≡ Some x
find-both r p [] x e t = absurd (cc (e))
find-both {X} r p (y ∷ xs) x e t = by_tests (p y) e (find-both r p xs x)
  where
    both-false : (a : Bool) → (a && false) ≡ false
    both-false true = refl
    both-false false = refl

    by_tests : (b : Bool) → cond b (Some y) (find p xs) ≡ Some x → (find p xs ≡ Some x → r x ≡ true → find (λ y. r y && p y) xs ≡ Some x) → cond (r y && b) (Some y) (find (λ y. r y && p y) xs) ≡ Some x
    by_tests true e rest = let same : y ≡ x = cc in ap (λ c. cond (c && true) (Some y) (find (λ y. r y && p y) xs)) (ap r same ∙ t) ∙ e
    by_tests false e rest = ap (λ c. cond c (Some y) (find (λ y. r y && p y) xs)) (both-false (r y)) ∙ rest e t

pub find-neither : {X : Type 0} (r p : X → Bool) (xs : List X) → find p xs ≡ None → find (λ y. r y && p y) xs ≡ None
find-neither r p [] e = refl
find-neither {X} r p (y ∷ xs) e = by_tests (r y) (p y) e (find-neither r p xs)
  where
    by_tests : (a b : Bool) → cond b (Some y) (find p xs) ≡ None → (find p xs ≡ None → find (λ y. r y && p y) xs ≡ None) → cond (a && b) (Some y) (find (λ y. r y && p y) xs) ≡ None
    by_tests a true e rest = absurd (cc (e))
    by_tests true false e rest = rest e
    by_tests false false e rest = rest e

-- where what is the same is tested alike, the first that passes is among the different ones
module _ {X : Type 0} (same : X → X → Bool) (p : X → Bool) (alike : (a b : X) → same a b ≡ true → p a ≡ p b) where
  find-others : (x : X) → p x ≡ false → (ys : List X) → find p (filter (λ y. not (same x y)) ys) ≡ find p ys
  find-others x e [] = refl
  find-others x e (y ∷ ys) = by_test (same x y) refl (find-others x e ys)
    where
      by_test : (b : Bool) → same x y ≡ b → find p (filter (λ y. not (same x y)) ys) ≡ find p ys →
          find p (cond (not b) (y ∷ filter (λ y. not (same x y)) ys) (filter (λ y. not (same x y)) ys)) ≡ cond (p y) (Some y) (find p ys)
      by_test true h rest = rest ∙ sym (ap (λ c. cond c (Some y) (find p ys)) (sym (alike x y h) ∙ e))
      by_test false h rest = ap (cond (p y) (Some y)) rest

  pub find-different : (xs : List X) → find p (different same xs) ≡ find p xs
  find-different [] = refl
  find-different (x ∷ xs) = by_test (p x) refl (find-different xs)
    where
      by_test : (b : Bool) → p x ≡ b → find p (different same xs) ≡ find p xs → cond b (Some x) (find p (filter (λ y. not (same x y)) (different same xs))) ≡ cond b (Some x) (find p xs)
      by_test true e rest = refl
      by_test false e rest = find-others x e (different same xs) ∙ rest

-- of definitions in order the earliest that passes is the first
pub earliest-is-first : (p : Def → Bool) (defs : List Def) → AreInOrder defs → earliest (filter p defs) ≡ find p defs
earliest-is-first p [] h = refl
earliest-is-first p (def ∷ defs) h = by_test (p def) (earliest-is-first p defs h.1)
  where
    stays : (o : Option Def) → find p defs ≡ o → earlier def o ≡ def
    stays None e = refl
    stays (Some other) e =
        let behind : nat_lt def.place other.place ≡ true = all-each (λ (other : Def). nat_lt def.place other.place) h.0 (find-some p defs e).0 in
        let not_before : nat_lt other.place def.place ≡ false = grind (arith, nat_tests) in
        ap (λ b. cond b other def) not_before

    by_test : (b : Bool) → earliest (filter p defs) ≡ find p defs → earliest (cond b (def ∷ filter p defs) (filter p defs)) ≡ cond b (Some def) (find p defs)
    by_test true rest = ap Some (ap (earlier def) rest ∙ stays (find p defs) refl)
    by_test false rest = rest
