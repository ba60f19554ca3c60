-- The first of several faults.
use Rattle.std.proofs.Common.{◌≡◌, ℕ, min, List, [], ◌∷◌, ◌++◌, Bool, true, false, cond, refl, ap, sym, ◌∙◌, arith}
use Rattle.std.specs.Prelude.{Option, Some, None}
use Rattle.std.proofs.lemmas.Bool.Decides.{nat_tests}
use Rattle.smv_core.specs.declared.fault.Fault.{Fault}
use Rattle.smv_mentions.specs.FirstFault.{comes_before, earlier, first_of, faults_at}
use Rattle.smv_mentions.specs.Mentions.{first_place}
use Rattle.smv_first_fault.specs.Firsts.{earlier_of, least, fault_at}

before-trans : (f g h : Fault) → comes_before g f ≡ true → comes_before h g ≡ true → comes_before h f ≡ true
before-trans f g h a b = grind (arith, nat_tests)

before-not : (f g h : Fault) → comes_before g f ≡ false → comes_before h g ≡ false → comes_before h f ≡ false
before-not f g h a b = grind (arith, nat_tests)

before-apart : (f g : Fault) → comes_before g f ≡ true → comes_before f g ≡ true → ⊥
before-apart f g a b = grind (arith, nat_tests)

before-same : (f g : Fault) → comes_before g f ≡ false → comes_before f g ≡ false → (f.number ≡ g.number) × (f.at ≡ g.at)
before-same f g a b = (grind (arith, nat_tests), grind (arith, nat_tests))

same-fault : (f g : Fault) → (f.number ≡ g.number) × (f.at ≡ g.at) → f ≡ g
same-fault f g e = ap (λ n. fault n f.at) e.0 ∙ ap (fault g.number) e.1
  where
    fault : ℕ → ℕ → Fault
    fault n at = record { number = n; at = at }

pub earlier-comm : (f g : Option Fault) → earlier_of f g ≡ earlier_of g f
earlier-comm None None = refl
earlier-comm None (Some g) = refl
earlier-comm (Some f) None = refl
earlier-comm (Some f) (Some g) = by (comes_before g f) (comes_before f g) (before-apart f g) (λ a b. same-fault f g (before-same f g a b))
  where
    by : (a b : Bool) → (a ≡ true → b ≡ true → ⊥) → (a ≡ false → b ≡ false → f ≡ g) → cond a (Some g) (Some f) ≡ cond b (Some f) (Some g)
    by true true apart same = absurd (apart refl refl)
    by true false apart same = refl
    by false true apart same = refl
    by false false apart same = ap Some (same refl refl)

pub earlier-assoc : (f g h : Option Fault) → earlier_of (earlier_of f g) h ≡ earlier_of f (earlier_of g h)
earlier-assoc None g h = refl
earlier-assoc (Some f) None h = refl
earlier-assoc (Some f) (Some g) None = by (comes_before g f)
  where
    by : (a : Bool) → earlier_of (cond a (Some g) (Some f)) None ≡ cond a (Some g) (Some f)
    by true = refl
    by false = refl
earlier-assoc (Some f) (Some g) (Some h) = by (comes_before g f) (comes_before h g) refl refl
  where
    by : (a b : Bool) → comes_before g f ≡ a → comes_before h g ≡ b → earlier_of (cond a (Some g) (Some f)) (Some h) ≡ earlier f (cond b (Some h) (Some g))
    by true true p q = let r : comes_before h f ≡ true = before-trans f g h p q in ap (λ t. cond t (Some h) (Some g)) q ∙ sym (ap (λ t. cond t (Some h) (Some f)) r)
    by true false p q = ap (λ t. cond t (Some h) (Some g)) q ∙ sym (ap (λ t. cond t (Some g) (Some f)) p)
    by false true p q = refl
    by false false p q = let r : comes_before h f ≡ false = before-not f g h p q in ap (λ t. cond t (Some h) (Some f)) r ∙ sym (ap (λ t. cond t (Some g) (Some f)) p)

pub first-both : (xs ys : List Fault) → first_of (xs ++ ys) ≡ earlier_of (first_of xs) (first_of ys)
first-both [] ys = refl
first-both (x ∷ xs) ys = ap (earlier x) (first-both xs ys) ∙ sym (earlier-assoc (Some x) (first_of xs) (first_of ys))

abbrev fault_of : ℕ → ℕ → Fault
fault_of number at = record { number = number; at = at }

min-later : (n at other : ℕ) → comes_before (fault_of n other) (fault_of n at) ≡ true → other ≡ min at other
min-later n at other e = grind (arith, nat_tests)

min-sooner : (n at other : ℕ) → comes_before (fault_of n other) (fault_of n at) ≡ false → at ≡ min at other
min-sooner n at other e = grind (arith, nat_tests)

-- the first fault of one number is at the first place
pub first-at : (number : ℕ) (places : List ℕ) → first_of (faults_at (number, places)) ≡ fault_at number (least places)
first-at number [] = refl
first-at number (at ∷ places) = ap (earlier (fault_of number at)) (first-at number places) ∙ by (least places)
  where
    test : (other : ℕ) (b : Bool) → comes_before (fault_of number other) (fault_of number at) ≡ b → cond b (Some (fault_of number other)) (Some (fault_of number at)) ≡ Some (fault_of number (min at other))
    test other true e = ap (λ m. Some (fault_of number m)) (min-later number at other e)
    test other false e = ap (λ m. Some (fault_of number m)) (min-sooner number at other e)

    by : (o : Option ℕ) → earlier (fault_of number at) (fault_at number o) ≡ Some (fault_of number (first_place at o))
    by None = refl
    by (Some other) = test other (comes_before (fault_of number other) (fault_of number at)) refl

pub earlier-none : (f : Option Fault) → earlier_of f None ≡ f
earlier-none None = refl
earlier-none (Some f) = refl

-- the first fault of two numbers and more
pub two : (n : ℕ) (places : List ℕ) (o : Option ℕ) (rest : List Fault) (later : Option Fault) → o ≡ least places → later ≡ first_of rest → earlier_of (fault_at n o) later ≡ first_of (faults_at (n, places) ++ rest)
two n places o rest later at is =
    ap (λ p. earlier_of (fault_at n p) later) at ∙ ap (earlier_of (fault_at n (least places))) is ∙ ap (λ f. earlier_of f (first_of rest)) (sym (first-at n places)) ∙ sym (first-both (faults_at (n, places)) rest)

pub one : (n : ℕ) (places : List ℕ) (o : Option ℕ) → o ≡ least places → fault_at n o ≡ first_of (faults_at (n, places) ++ [])
one n places o at = sym (earlier-none (fault_at n o)) ∙ two n places o [] None at refl
