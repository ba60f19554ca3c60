-- The values of the listed parameters of an ordset, once each and in their order, suit it.
use Rattle.std.proofs.Common.{◌≡◌, ℕ, zero, suc, ◌+◌, ◌<◌, ◌≤◌, List, [], ◌∷◌, map, length, get_or, true, if◌then◌else◌, refl, sym, subst, ◌∙◌, ◌⊎◌, inl, inr, arith, nat_eq, nat_lt}
use Rattle.std.specs.List.{list_any}
use Rattle.smv_core.specs.Values.{numbers_from}
use Rattle.law_obligations.specs.Sets.{Has, first, later}
use Rattle.law_obligations.specs.Pictures.{class}
use Rattle.law_obligations.specs.Placings.{spot_between, AreBelow, AreRising}
use Rattle.law_obligations.specs.Cases.{ordered, used}
use Rattle.law_obligations.proofs.Members.{any-found, all-holds}
use Rattle.law_obligations.proofs.Same.{nat_eq-itself}
use Rattle.law_obligations.proofs.Spots.{AreSpotted, numbers-Has}
use Rattle.law_obligations.proofs.Ordsets.{on, under, over, beside_it, rising_tail, at_own, spotted_between, ordset_is_placed}
use Rattle.law_obligations.proofs.CoverScalarsets.{Suits, below_used}

-- one more value among rising values
insert : ℕ → List ℕ → List ℕ
insert k [] = k ∷ []
insert k (x ∷ xs) = if nat_eq k x then x ∷ xs else (if nat_lt k x then k ∷ x ∷ xs else x ∷ insert k xs)

sorted : List ℕ → List ℕ
sorted [] = []
sorted (v ∷ vs) = insert v (sorted vs)

has_new : (k : ℕ) (xs : List ℕ) → Has (insert k xs) k
unfolding insert
has_new k [] = first
has_new k (x ∷ xs) = elim (beside_it k x) [
  | on e t ↦ rw t (subst (Has (x ∷ xs)) (sym e) first)
  | under l e t ↦ rw (e, t) first
  | over l e t ↦ rw (e, t) (later (has_new k xs))
]

has_old : (k : ℕ) (xs : List ℕ) (z : ℕ) → Has xs z → Has (insert k xs) z
unfolding insert
has_old k [] z h = elim h [ ]
has_old k (x ∷ xs) z h = elim (beside_it k x) [
  | on e t ↦ rw t h
  | under l e t ↦ rw (e, t) (later h)
  | over l e t ↦ rw (e, t) (past z (λ g. has_old k xs z g) h)
]
  where
    past : (q : ℕ) → (Has xs q → Has (insert k xs) q) → Has (x ∷ xs) q → Has (x ∷ insert k xs) q
    past _ goes first = first
    past q goes (later g) = later (goes g)

new_or_old : (k : ℕ) (xs : List ℕ) (z : ℕ) → Has (insert k xs) z → (z ≡ k) ⊎ Has xs z
unfolding insert
new_or_old k [] _ first = inl refl
new_or_old k [] z (later h) = elim h [ ]
new_or_old k (x ∷ xs) z h = elim (beside_it k x) [
  | on e t ↦ inr (rw t at h)
  | under l e t ↦ at_front z (rw (e, t) at h)
  | over l e t ↦ past z (λ g. new_or_old k xs z g) (rw (e, t) at h)
]
  where
    at_front : (q : ℕ) → Has (k ∷ x ∷ xs) q → (q ≡ k) ⊎ Has (x ∷ xs) q
    at_front _ first = inl refl
    at_front q (later g) = inr g

    past : (q : ℕ) → (Has (insert k xs) q → (q ≡ k) ⊎ Has xs q) → Has (x ∷ insert k xs) q → (q ≡ k) ⊎ Has (x ∷ xs) q
    past _ goes first = inr first
    past q goes (later g) = elim (goes g) [ inl e ↦ inl e | inr o ↦ inr (later o) ]

-- the first of rising values is below the others
rising_above : (size x : ℕ) (xs : List ℕ) (z : ℕ) → AreRising size (x ∷ xs) → Has xs z → x < z
rising_above size x [] z r h = elim h [ ]
rising_above size x (y ∷ xs) _ r first = r.0
rising_above size x (y ∷ xs) z r (later h) = let l = r.0 in let g = rising_above size y xs z r.1 h in omega (arith, l, g)

rising_first : (size x : ℕ) (xs : List ℕ) → AreRising size (x ∷ xs) → x < size
rising_first size x [] r = r
rising_first size x (y ∷ xs) r = let l = r.0 in let g = rising_first size y xs r.1 in omega (arith, l, g)

rising_from : (size x : ℕ) (zs : List ℕ) → x < size → ((z : ℕ) → Has zs z → x < z) → AreRising size zs → AreRising size (x ∷ zs)
rising_from size x [] l above r = l
rising_from size x (z ∷ zs) l above r = (above z first, r)

still_rising : (size k : ℕ) (xs : List ℕ) → k < size → AreRising size xs → AreRising size (insert k xs)
unfolding insert
still_rising size k [] l r = l
still_rising size k (x ∷ xs) l r = elim (beside_it k x) [
  | on e t ↦ rw t r
  | under m e t ↦ rw (e, t) (m, r)
  | over m e t ↦ rw (e, t) (rising_from size x (insert k xs) (rising_first size x xs r)
      (λ z h. elim (new_or_old k xs z h) [ inl s ↦ subst (λ q. x < q) (sym s) m | inr o ↦ rising_above size x xs z r o ])
      (still_rising size k xs l (rising_tail size x xs r)))
]

one_longer : (k : ℕ) (xs : List ℕ) → length (insert k xs) ≤ suc (length xs)
unfolding insert
one_longer k [] = omega arith
one_longer k (x ∷ xs) = elim (beside_it k x) [
  | on e t ↦ rw t (omega arith)
  | under l e t ↦ rw (e, t) (omega arith)
  | over l e t ↦ rw (e, t) (let r = one_longer k xs in omega (arith, r))
]

sorted_rising : (size : ℕ) (vs : List ℕ) → AreBelow size vs → AreRising size (sorted vs)
unfolding sorted
sorted_rising size [] b = tt
sorted_rising size (v ∷ vs) b = still_rising size v (sorted vs) b.0 (sorted_rising size vs b.1)

sorted_few : (vs : List ℕ) → length (sorted vs) ≤ length vs
unfolding sorted
sorted_few [] = omega arith
sorted_few (v ∷ vs) = let r = sorted_few vs in let l = one_longer v (sorted vs) in omega (arith, r, l)

to_sorted : (vs : List ℕ) (z : ℕ) → Has vs z → Has (sorted vs) z
unfolding sorted
to_sorted [] z h = elim h [ ]
to_sorted (v ∷ vs) _ first = has_new v (sorted vs)
to_sorted (v ∷ vs) z (later h) = has_old v (sorted vs) z (to_sorted vs z h)

from_sorted : (vs : List ℕ) (z : ℕ) → Has (sorted vs) z → Has vs z
unfolding sorted
from_sorted [] z h = elim h [ ]
from_sorted (v ∷ vs) z h = elim (new_or_old v (sorted vs) z h) [ inl e ↦ subst (Has (v ∷ vs)) (sym e) first | inr o ↦ later (from_sorted vs z o) ]

-- where a member stands
place_of_member : (xs : List ℕ) (z : ℕ) → Has xs z → (c : ℕ) × (c < length xs) × (get_or xs c 0 ≡ z)
place_of_member [] z h = elim h [ ]
place_of_member (x ∷ xs) _ first = (0, omega arith, refl)
place_of_member (x ∷ xs) z (later h) = let r = place_of_member xs z h in (suc r.0, (let l = r.1 in omega (arith, l)), r.2)

member_at : (xs : List ℕ) (c : ℕ) → c < length xs → Has xs (get_or xs c 0)
member_at [] c l = absurd (omega arith)
member_at (x ∷ xs) zero l = first
member_at (x ∷ xs) (suc c) l = later (member_at xs c (omega arith))

-- the classes of values that are among rising values
record Indexed (values vs : List ℕ) : Type 0 where
  classes : List ℕ
  at_classes : map (spot_between values) vs ≡ map class classes
  below : (c : ℕ) → Has classes c → c < length values
  has : (v : ℕ) → Has vs v → (c : ℕ) × Has classes c × (spot_between values v ≡ class c)

indexed : (size : ℕ) (values vs : List ℕ) → AreRising size values → ((v : ℕ) → Has vs v → Has values v) → Indexed values vs
indexed size values [] r within = record { classes = []; at_classes = refl; below = λ c h. elim h [ ]; has = λ v h. elim h [ ] }
indexed size values (v ∷ vs) r within =
    let more = indexed size values vs r (λ z h. within z (later h)) in
    let here = place_of_member values v (within v first) in
    let at : spot_between values v ≡ class here.0 = subst (λ z. spot_between values z ≡ class here.0) here.2 (at_own size 0 values here.0 here.0 r here.1 (omega arith)) in
    record {
      classes = here.0 ∷ more.classes;
      at_classes = rw (at, more.at_classes) refl;
      below = λ c h. new_below here.0 more.classes here.1 more.below c h;
      has = λ z h. new_has here.0 more.classes at more.has z h;
    }
  where
    new_below : (d : ℕ) (classes : List ℕ) → d < length values → ((c : ℕ) → Has classes c → c < length values) → (c : ℕ) → Has (d ∷ classes) c → c < length values
    new_below d classes l each _ first = l
    new_below d classes l each c (later h) = each c h

    new_has : (d : ℕ) (classes : List ℕ) → spot_between values v ≡ class d → ((z : ℕ) → Has vs z → (c : ℕ) × Has classes c × (spot_between values z ≡ class c)) →
        (z : ℕ) → Has (v ∷ vs) z → (c : ℕ) × Has (d ∷ classes) c × (spot_between values z ≡ class c)
    new_has d classes e each _ first = (d, first, e)
    new_has d classes e each z (later h) = let r = each z h in (r.0, later r.1, r.2)

-- each class has a value
each_class : (size : ℕ) (values vs : List ℕ) → AreRising size values → ((v : ℕ) → Has values v → Has vs v) → (i : Indexed values vs) → (c : ℕ) → c < length values → Has i.classes c
each_class size values vs r back i c l =
    let h = i.has (get_or values c 0) (back (get_or values c 0) (member_at values c l)) in
    subst (Has i.classes) (same_class (sym h.2 ∙ at_own size 0 values c c r l (omega arith))) h.1
  where
    same_class : {c d : ℕ} → class c ≡ class d → c ≡ d
    same_class e = cc

pub used_most : (m : ℕ) (classes : List ℕ) → ((c : ℕ) → Has classes c → c < m) → used classes ≤ m
used_most m [] each = omega arith
used_most m (c ∷ classes) each = let l = each c first in let r = used_most m classes (λ d h. each d (later h)) in omega (arith, l, r)

used_least : (m : ℕ) (classes : List ℕ) → ((c : ℕ) → c < m → Has classes c) → m ≤ used classes
used_least zero classes each = omega arith
used_least (suc m) classes each = let l = below_used classes m (each m (omega arith)) in omega (arith, l)

pub ordset_suits : (size : ℕ) (vs : List ℕ) → AreBelow size vs → Suits ordered true size vs
ordset_suits size vs below =
    let values = sorted vs in
    let rising = sorted_rising size vs below in
    let i = indexed size values vs rising (to_sorted vs) in
    let each = each_class size values vs rising (from_sorted vs) i in
    let count : used i.classes ≡ length values = both (used i.classes) (length values) (used_most (length values) i.classes i.below) (used_least (length values) i.classes each) in
    record {
      spot = spot_between values;
      classes = i.classes;
      at_classes = i.at_classes;
      orderly = all-holds (λ c. list_any (nat_eq c) i.classes) (numbers_from 0 (used i.classes))
          (λ c h. any-found (nat_eq c) (each c (let r = numbers-Has 0 (used i.classes) c h in let l = r.1 in omega (arith, l, count))) (nat_eq-itself c));
      few = let l = sorted_few vs in omega (arith, l, count);
      spotted = subst (λ m. AreSpotted size m (numbers_from 0 (m + 1)) (spot_between values)) (sym count) (spotted_between size values rising);
      is_placed = λ sizes w spots t same_size rests named same_spots. ordset_is_placed sizes w spots t values
          (subst (λ m. AreRising m values) (sym same_size) rising) rests (named ∙ count) same_spots;
    }
  where
    both : (m n : ℕ) → m ≤ n → n ≤ m → m ≡ n
    both m n l g = omega arith
