-- The parameters of a leaf with their values.
use Rattle.std.proofs.Common.{◌≡◌, ℕ, ◌≤◌, List, [], ◌∷◌, map, length, Bool, true, ◌&&◌, refl, sym, ap, subst, inl, inr, arith}
use Rattle.std.proofs.lemmas.Bool.{cases_Bool}
use Rattle.law_lists.proofs.Numbers.{nat_eq-is}
use Rattle.law_lists.proofs.Booleans.{and_both, left_of}
use Rattle.smv_core.specs.Values.{Value}
use Rattle.smv_core.specs.FlatMeaning.{Numbered, values_in, simple_in}
use Rattle.smv_core.specs.declared.flat.Simple.{Simple}
use Rattle.smv_core.specs.declared.flat.Simple.TheVariants.{Range, Enum, Set}
use Rattle.smv_core.specs.declared.flat.Class.{Class}
use Rattle.law_obligations.specs.Sets.{Has, first, later, one_of_each}
use Rattle.law_obligations.specs.Places.{Place}
use Rattle.law_obligations.specs.Cases.{Parameter, is_set, those_of}
use Rattle.law_obligations.specs.Covers.{place_at, places_at}
use Rattle.law_obligations.proofs.Members.{Picks, none, more, Has-from_map}
use Rattle.law_obligations.proofs.OneOfEach.{Has-from_flat_map}

pub map-same : {X Y : Type 0} (f g : X → Y) (xs : List X) → ((x : X) → Has xs x → f x ≡ g x) → map f xs ≡ map g xs
map-same f g [] each = refl
map-same f g (x ∷ xs) each = rw (each x first, map-same f g xs (λ y h. each y (later h))) refl

-- one of each list, list by list
pub Has-from_choices : {X : Type 0} (xss : List (List X)) (ys : List X) → Has (one_of_each xss) ys → Picks xss ys
Has-from_choices [] _ first = none
Has-from_choices [] ys (later h) = elim h [ ]
Has-from_choices {X} (xs ∷ xss) ys h =
    let r = Has-from_flat_map (λ x. map (λ zs. x ∷ zs) (one_of_each xss)) xs h in
    let s = Has-from_map (λ zs. r.0 ∷ zs) (one_of_each xss) r.2 in
    subst (Picks (xs ∷ xss)) (sym s.2) (more r.1 (Has-from_choices xss s.0 s.1))

-- a parameter with its value
pub data Stands : List Parameter → List Value → Parameter → Value → Type 0 where
  here : {p : Parameter} {v : Value} {params : List Parameter} {values : List Value} → Stands (p ∷ params) (v ∷ values) p v
  there : {p q : Parameter} {v u : Value} {params : List Parameter} {values : List Value} → Stands params values p v → Stands (q ∷ params) (u ∷ values) p v

-- each value is of its parameter's type
pub of_its_type : (n : Numbered) (params : List Parameter) (values : List Value) → Picks (map (values_in n) (map (λ p. p.over) params)) values →
    (p : Parameter) (v : Value) → Stands params values p v → Has (values_in n p.over) v
of_its_type n [] values picks p v s = elim s [ ]
of_its_type n (q ∷ params) [] picks p v s = elim s [ ]
of_its_type n (q ∷ params) (u ∷ values) (more h picks) _ _ here = h
of_its_type n (q ∷ params) (u ∷ values) (more h picks) p v (there s) = of_its_type n params values picks p v s

pub Stands-Has : {params : List Parameter} {values : List Value} {p : Parameter} {v : Value} → Stands params values p v → Has params p
Stands-Has here = first
Stands-Has (there s) = later (Stands-Has s)

pub is_set-is : (set : ℕ) (over : Simple) → is_set set over ≡ true → over ≡ Set set
is_set-is set (Set other) e = ap Set (nat_eq-is other set e)
is_set-is set (Range low high) e = absurd (cc)
is_set-is set (Enum list) e = absurd (cc)

-- what stands at parameters of a set type, changed
pub those_of-map : {X Y : Type 0} (f : X → Y) (test : Bool → Bool) (set : ℕ) (params : List Parameter) (xs : List X) → those_of test set params (map f xs) ≡ map f (those_of test set params xs)
those_of-map f test set [] xs = refl
those_of-map f test set (p ∷ params) [] = refl
those_of-map f test set (p ∷ params) (x ∷ xs) = elim (cases_Bool (is_set set p.over && test p.listed)) [
  | inl e ↦ rw e (ap (λ z. f x ∷ z) (those_of-map f test set params xs))
  | inr e ↦ rw e (those_of-map f test set params xs)
]

pub those_of-few : {X : Type 0} (test : Bool → Bool) (set : ℕ) (params : List Parameter) (xs : List X) → length (those_of test set params xs) ≤ length params
those_of-few test set [] xs = omega arith
those_of-few test set (p ∷ params) [] = omega arith
those_of-few test set (p ∷ params) (x ∷ xs) = let r = those_of-few test set params xs in
    elim (cases_Bool (is_set set p.over && test p.listed)) [
      | inl e ↦ rw e (omega (arith, r))
      | inr e ↦ rw e (omega (arith, r))
    ]

-- a value at a parameter of a set type that is listed so
pub those_of-Has : (test : Bool → Bool) (set : ℕ) (params : List Parameter) (values : List Value) (p : Parameter) (v : Value) → Stands params values p v →
    is_set set p.over ≡ true → test p.listed ≡ true → Has (those_of test set params values) v
those_of-Has test set [] values p v s e l = elim s [ ]
those_of-Has test set (q ∷ params) [] p v s e l = elim s [ ]
those_of-Has test set (p ∷ params) (v ∷ values) _ _ here e l = rw (and_both e l) first
those_of-Has test set (q ∷ params) (u ∷ values) p v (there s) e l = let r = those_of-Has test set params values p v s e l in
    elim (cases_Bool (is_set set q.over && test q.listed)) [
      | inl b ↦ rw b (later r)
      | inr b ↦ rw b r
    ]

-- is of that set type
pub those_of-is : (n : Numbered) (test : Bool → Bool) (set : ℕ) (params : List Parameter) (values : List Value) → Picks (map (values_in n) (map (λ p. p.over) params)) values →
    (v : Value) → Has (those_of test set params values) v → Has (values_in n (Set set)) v
those_of-is n test set [] values picks v h = elim h [ ]
those_of-is n test set (p ∷ params) [] picks v h = elim picks [ ]
those_of-is n test set (p ∷ params) (u ∷ values) (more k picks) v h = elim (cases_Bool (is_set set p.over && test p.listed)) [
  | inl e ↦ at v (λ g. those_of-is n test set params values picks v g) (rw e at h)
      (subst (λ over. Has (values_in n over) u) (is_set-is set p.over (left_of (is_set set p.over) (test p.listed) e)) k)
  | inr e ↦ those_of-is n test set params values picks v (rw e at h)
]
  where
    at : (v : Value) → (Has (those_of test set params values) v → Has (values_in n (Set set)) v) → Has (u ∷ those_of test set params values) v → Has (values_in n (Set set)) u → Has (values_in n (Set set)) v
    at _ goes first k = k
    at v goes (later g) k = goes g

-- a candidate for each parameter
pub picked : (n : Numbered) (candidates : Simple → List Class) (f : Value → Class) (params : List Parameter) (values : List Value) →
    Picks (map (values_in n) (map (λ p. p.over) params)) values →
    ((p : Parameter) (v : Value) → Stands params values p v → Has (candidates p.over) (f v)) → Picks (map (λ p. candidates p.over) params) (map f values)
picked n candidates f [] [] none each = none
picked n candidates f [] (v ∷ values) picks each = elim picks [ ]
picked n candidates f (p ∷ params) [] picks each = elim picks [ ]
picked n candidates f (p ∷ params) (v ∷ values) (more h picks) each = more (each p v here) (picked n candidates f params values picks (λ q u s. each q u (there s)))

-- each value stands at its class
pub all_stand : (n : Numbered) (place : Value → Place) (f : Value → Class) (params : List Parameter) (values : List Value) →
    Picks (map (values_in n) (map (λ p. p.over) params)) values →
    ((p : Parameter) (v : Value) → Stands params values p v → place v ≡ place_at (simple_in n p.over) (f v)) → map place values ≡ places_at n params (map f values)
all_stand n place f [] [] none each = refl
all_stand n place f [] (v ∷ values) picks each = elim picks [ ]
all_stand n place f (p ∷ params) [] picks each = elim picks [ ]
all_stand n place f (p ∷ params) (v ∷ values) (more h picks) each =
    both (each p v here) (all_stand n place f params values picks (λ q u s. each q u (there s)))
  where
    both : {a b : Place} {as' bs : List Place} → a ≡ b → as' ≡ bs → a ∷ as' ≡ b ∷ bs
    both e g = rw (e, g) refl
