-- The values of an ordset: classes by rising values, and the gaps around them.
use Rattle.std.proofs.Common.{◌≡◌, ℕ, zero, suc, ◌+◌, ◌*◌, ◌<◌, ◌≤◌, List, [], ◌∷◌, ◌++◌, map, length, get_or, Bool, true, false, not, if◌then◌else◌, refl, sym, ap, subst, ◌∙◌, ◌⊎◌, inl, inr, arith, nat_eq, nat_lt, Some}
use Rattle.std.proofs.lemmas.Slice.Eq.{bytes_eq-Decides}
use Rattle.law_lists.proofs.Numbers.{nat_lt-true, nat_lt-false, nat_eq-below, nat_eq-above}
use Rattle.smv_core.specs.Values.{Name, ordinal, ordset, Sizes, numbers_from, below, not_of}
use Rattle.smv_core.specs.declared.abstract_type.Rest.TheVariants as beside
use Rattle.law_obligations.specs.Sets.{Has, first, later}
use Rattle.law_obligations.specs.Places.{World, unsure, below_places, rests_beside}
use Rattle.law_obligations.specs.Pictures.{Spot, class, other, Placing, at_spot, placed, IsPlaced}
use Rattle.law_obligations.specs.Placings.{spot_from, spot_between, AreRising}
use Rattle.law_obligations.proofs.Members.{Has-left, Has-right, Has-map}
use Rattle.law_obligations.proofs.Same.{nat_eq-itself}
use Rattle.law_obligations.proofs.Spots.{Has-numbers, AreSpotted, is_somewhere, class_has_value, class_has_one, equality, order}
use Rattle.law_obligations.proofs.Scalarsets.{same_ordinal}

-- where a number stands beside another
pub data Beside (k x : ℕ) : Type 0 where
  under : k < x → nat_eq k x ≡ false → nat_lt k x ≡ true → Beside k x
  on : k ≡ x → nat_eq k x ≡ true → Beside k x
  over : x < k → nat_eq k x ≡ false → nat_lt k x ≡ false → Beside k x

pub beside_it : (k x : ℕ) → Beside k x
beside_it k x = elim (three k x) [
  | inl l ↦ under l (apart k x l) (less k x l)
  | inr g ↦ elim g [ inl e ↦ on e (same_one k x e) | inr l ↦ over l (apart_over k x l) (not_less k x l) ]
]
  where
    three : (k x : ℕ) → (k < x) ⊎ ((k ≡ x) ⊎ (x < k))
    three k x = grind arith

    apart : (k x : ℕ) → k < x → nat_eq k x ≡ false
    apart k x l = grind arith

    apart_over : (k x : ℕ) → x < k → nat_eq k x ≡ false
    apart_over k x l = grind arith

    less : (k x : ℕ) → k < x → nat_lt k x ≡ true
    less k x l = grind arith

    not_less : (k x : ℕ) → x < k → nat_lt k x ≡ false
    not_less k x l = grind arith

    same_one : (k x : ℕ) → k ≡ x → nat_eq k x ≡ true
    same_one k x e = grind arith

-- gap g at 2 g, class g at 2 g + 1
code : Spot → ℕ
code (class c) = 2 * c + 1
code (other g) = 2 * g

-- a class or a gap from a number on
data From (low : ℕ) : Spot → Type 0 where
  class_from : (c : ℕ) → low ≤ c → From low (class c)
  gap_from : (g : ℕ) → low ≤ g → From low (other g)

lower : {low : ℕ} {s : Spot} → From (suc low) s → From low s
lower (class_from c l) = class_from c (omega arith)
lower (gap_from g l) = gap_from g (omega arith)

lies_from : (g : ℕ) (xs : List ℕ) (k : ℕ) → From g (spot_from g xs k)
lies_from g [] k = gap_from g (omega arith)
lies_from g (x ∷ xs) k = elim (beside_it k x) [
  | on e t ↦ rw t (class_from g (omega arith))
  | under l e t ↦ rw (e, t) (gap_from g (omega arith))
  | over l e t ↦ rw (e, t) (lower (lies_from (suc g) xs k))
]

from_code : {low : ℕ} {s : Spot} → From low s → 2 * low ≤ code s
unfolding code
from_code (class_from c l) = omega arith
from_code (gap_from g l) = omega arith

-- of two values the lower lies lower, or both lie in one gap
together : (g : ℕ) (xs : List ℕ) (k l : ℕ) → k < l → (code (spot_from g xs k) < code (spot_from g xs l)) ⊎ ((c : ℕ) × (spot_from g xs k ≡ other c) × (spot_from g xs l ≡ other c))
together g [] k l h = inr (g, refl, refl)
together g (x ∷ xs) k l h = elim (beside_it k x) [
  | on e t ↦ elim (beside_it l x) [
    | on e' t' ↦ absurd (omega arith)
    | under l' e' t' ↦ absurd (omega arith)
    | over l' e' t' ↦ inl (rw (t, e', t') (let c = from_code (lies_from (suc g) xs l) in unfold code in omega (arith, c)))
  ]
  | under m e t ↦ elim (beside_it l x) [
    | on e' t' ↦ inl (rw (e, t, t') (unfold code in omega arith))
    | under l' e' t' ↦ inr (g, rw (e, t) refl, rw (e', t') refl)
    | over l' e' t' ↦ inl (rw (e, t, e', t') (let c = from_code (lies_from (suc g) xs l) in unfold code in omega (arith, c)))
  ]
  | over m e t ↦ elim (beside_it l x) [
    | on e' t' ↦ absurd (omega arith)
    | under l' e' t' ↦ absurd (omega arith)
    | over l' e' t' ↦ rw (e, t, e', t') (together (suc g) xs k l h)
  ]
]

-- the answers that two spots allow to `<`
abbrev below_spots : Spot → Spot → List Bool
below_spots (class c) (class d) = nat_lt c d ∷ []
below_spots (class c) (other h) = nat_lt c h ∷ []
below_spots (other g) (class d) = not (nat_lt d g) ∷ []
below_spots (other g) (other h) = if nat_eq g h then true ∷ false ∷ [] else nat_lt g h ∷ []

alone : {b c : Bool} → b ≡ c → Has (b ∷ []) c
alone e = subst (Has (_ ∷ [])) e first

any_answer : (b : Bool) → Has (true ∷ false ∷ []) b
any_answer true = first
any_answer false = later first

negated : {b c : Bool} → b ≡ c → not b ≡ not c
negated e = ap not e

-- a spot that lies lower is below, and the other is not
lower_below : (s t : Spot) → code s < code t → Has (below_spots s t) true
unfolding code
lower_below (class c) (class d) l = alone (nat_lt-true c d (omega arith))
lower_below (class c) (other h) l = alone (nat_lt-true c h (omega arith))
lower_below (other g) (class d) l = alone (negated (nat_lt-false d g (omega arith)))
lower_below (other g) (other h) l = let e = nat_eq-below g h (omega arith) in rw e (alone (nat_lt-true g h (omega arith)))

higher_not_below : (s t : Spot) → code t < code s → Has (below_spots s t) false
unfolding code
higher_not_below (class c) (class d) l = alone (nat_lt-false c d (omega arith))
higher_not_below (class c) (other h) l = alone (nat_lt-false c h (omega arith))
higher_not_below (other g) (class d) l = alone (negated (nat_lt-true d g (omega arith)))
higher_not_below (other g) (other h) l = let e = nat_eq-above g h (omega arith) in rw e (alone (nat_lt-false g h (omega arith)))

itself_not_below : (s : Spot) → Has (below_spots s s) false
itself_not_below (class c) = alone (nat_lt-false c c (omega arith))
itself_not_below (other g) = let e = nat_eq-itself g in rw e (later first)

one_gap : (c : ℕ) (s t : Spot) → s ≡ other c → t ≡ other c → (b : Bool) → Has (below_spots s t) b
one_gap c s t p q b = let e = nat_eq-itself c in rw (p, q) (rw e (any_answer b))

compared : (xs : List ℕ) (k l : ℕ) → Has (below_spots (spot_between xs k) (spot_between xs l)) (nat_lt k l)
compared xs k l = elim (beside_it k l) [
  | on e t ↦ subst (λ z. Has (below_spots (spot_from 0 xs k) (spot_from 0 xs z)) (nat_lt k z)) e
      (subst (Has (below_spots (spot_from 0 xs k) (spot_from 0 xs k))) (sym (nat_lt-false k k (omega arith))) (itself_not_below (spot_from 0 xs k)))
  | under m e t ↦ elim (together 0 xs k l m) [
    | inl c ↦ subst (Has (below_spots (spot_from 0 xs k) (spot_from 0 xs l))) (sym t) (lower_below (spot_from 0 xs k) (spot_from 0 xs l) c)
    | inr r ↦ one_gap r.0 (spot_from 0 xs k) (spot_from 0 xs l) r.1 r.2 (nat_lt k l)
  ]
  | over m e t ↦ elim (together 0 xs l k m) [
    | inl c ↦ subst (Has (below_spots (spot_from 0 xs k) (spot_from 0 xs l))) (sym t) (higher_not_below (spot_from 0 xs k) (spot_from 0 xs l) c)
    | inr r ↦ one_gap r.0 (spot_from 0 xs k) (spot_from 0 xs l) r.2 r.1 (nat_lt k l)
  ]
]

-- the same of the places
at_places : (t : Name) (s r : Spot) (b : Bool) → Has (below_spots s r) b → Has (below_places (at_spot (ordinal t) s) (at_spot (ordinal t) r)) (Some b)
at_places t (class c) (class d) b h = rw ((bytes_eq-Decides t t).1 refl) (Has-map Some h)
at_places t (class c) (other d) b h = rw ((bytes_eq-Decides t t).1 refl) (Has-map Some h)
at_places t (other c) (class d) b h = rw ((bytes_eq-Decides t t).1 refl) (at (nat_lt d c) h)
  where
    at : (e : Bool) → Has (not e ∷ []) b → Has (not_of (Some e) ∷ []) (Some b)
    at true h = Has-map Some h
    at false h = Has-map Some h
at_places t (other c) (other d) b h = rw ((bytes_eq-Decides t t).1 refl) (at (nat_eq c d) h)
  where
    at : (e : Bool) → Has (if e then true ∷ false ∷ [] else nat_lt c d ∷ []) b → Has (if e then unsure (Some (nat_lt c d)) else Some (nat_lt c d) ∷ []) (Some b)
    at true h = Has-map Some h
    at false h = Has-map Some h

-- how far up a spot may lie
data Within (low high : ℕ) : Spot → Type 0 where
  class_in : (c : ℕ) → low ≤ c → c < high → Within low high (class c)
  gap_in : (g : ℕ) → low ≤ g → g ≤ high → Within low high (other g)

wider : {low high : ℕ} {s : Spot} (top : ℕ) → Within (suc low) high s → high ≤ top → Within low top s
wider top (class_in c l m) h = class_in c (omega arith) (omega arith)
wider top (gap_in g l m) h = gap_in g (omega arith) (omega arith)

within : (g : ℕ) (xs : List ℕ) (k : ℕ) → Within g (g + length xs) (spot_from g xs k)
within g [] k = gap_in g (omega arith) (omega arith)
within g (x ∷ xs) k = elim (beside_it k x) [
  | on e t ↦ rw t (class_in g (omega arith) (omega arith))
  | under l e t ↦ rw (e, t) (gap_in g (omega arith) (omega arith))
  | over l e t ↦ rw (e, t) (wider (g + suc (length xs)) (within (suc g) xs k) (omega arith))
]

is_spot : (n : ℕ) (s : Spot) → Within 0 (0 + n) s → Has (map class (numbers_from 0 n) ++ map other (numbers_from 0 (n + 1))) s
is_spot n (class c) (class_in _ l m) = Has-left (map other (numbers_from 0 (n + 1))) (Has-map class (Has-numbers 0 n c (omega arith) (omega arith)))
is_spot n (other g) (gap_in _ l m) = Has-right (map class (numbers_from 0 n)) (Has-map other (Has-numbers 0 (n + 1) g (omega arith) (omega arith)))

once : (g : ℕ) (xs : List ℕ) (k l c : ℕ) → spot_from g xs k ≡ class c → spot_from g xs l ≡ class c → k ≡ l
once g [] k l c p q = absurd (cc)
once g (x ∷ xs) k l c p q = elim (beside_it k x) [
  | on e t ↦ elim (beside_it l x) [
    | on e' t' ↦ e ∙ sym e'
    | under l' e' t' ↦ absurd (gap_class (rw (e', t') at q))
    | over l' e' t' ↦ absurd (higher (rw t at p) (rw (e', t') at q) (lies_from (suc g) xs l))
  ]
  | under m e t ↦ absurd (gap_class (rw (e, t) at p))
  | over m e t ↦ elim (beside_it l x) [
    | on e' t' ↦ absurd (higher (rw t' at q) (rw (e, t) at p) (lies_from (suc g) xs k))
    | under l' e' t' ↦ absurd (gap_class (rw (e', t') at q))
    | over l' e' t' ↦ once (suc g) xs k l c (rw (e, t) at p) (rw (e', t') at q)
  ]
]
  where
    gap_class : {g c : ℕ} → other g ≡ class c → ⊥
    gap_class e = cc

    higher : {g c : ℕ} {s : Spot} → class g ≡ class c → s ≡ class c → From (suc g) s → ⊥
    higher {g} {c} p q (class_from d l) = let same_one : d ≡ c = cc in let same_two : g ≡ c = cc in omega arith
    higher p q (gap_from d l) = cc

pub rising_tail : (size x : ℕ) (xs : List ℕ) → AreRising size (x ∷ xs) → AreRising size xs
rising_tail size x [] h = tt
rising_tail size x (y ∷ xs) h = h.1

rising_above : (size x : ℕ) (xs : List ℕ) (c : ℕ) → AreRising size (x ∷ xs) → c < length xs → x < get_or xs c 0
rising_above size x [] c h l = absurd (omega arith)
rising_above size x (y ∷ xs) zero h l = h.0
rising_above size x (y ∷ xs) (suc c) h l = let r = rising_above size y xs c h.1 (omega arith) in let q = h.0 in omega (arith, r, q)

rising_below : (size : ℕ) (xs : List ℕ) (c : ℕ) → AreRising size xs → c < length xs → get_or xs c 0 < size
rising_below size [] c h l = absurd (omega arith)
rising_below size (x ∷ []) zero h l = h
rising_below size (x ∷ []) (suc c) h l = absurd (omega arith)
rising_below size (x ∷ (y ∷ xs)) zero h l = let q = h.0 in let r = rising_below size (y ∷ xs) 0 h.1 (omega arith) in omega (arith, r, q)
rising_below size (x ∷ (y ∷ xs)) (suc c) h l = rising_below size (y ∷ xs) c h.1 (omega arith)

pub at_own : (size g : ℕ) (xs : List ℕ) (c d : ℕ) → AreRising size xs → c < length xs → d ≡ g + c → spot_from g xs (get_or xs c 0) ≡ class d
at_own size g [] c d h l e = absurd (omega arith)
at_own size g (x ∷ xs) zero d h l e = rw (nat_eq-itself x) (ap class (omega arith))
at_own size g (x ∷ xs) (suc c) d h l e = let above = rising_above size x xs c h (omega arith) in
    elim (beside_it (get_or xs c 0) x) [
      | on e' t ↦ absurd (omega (arith, above))
      | under m e' t ↦ absurd (omega (arith, above))
      | over m e' t ↦ rw (e', t) (at_own size (suc g) xs c d (rising_tail size x xs h) (omega arith) (omega arith))
    ]

pub spotted_between : (size : ℕ) (values : List ℕ) → AreRising size values → AreSpotted size (length values) (numbers_from 0 (length values + 1)) (spot_between values)
spotted_between size values h = record {
  somewhere = λ k l. is_spot (length values) (spot_between values k) (within 0 values k);
  has_value = λ c l. (get_or values c 0, rising_below size values c h l, at_own size 0 values c c h l (omega arith));
  has_one = λ k l c p q. once 0 values k l c p q;
}

-- rising values below the size place an ordset
pub ordset_is_placed : (sizes : Sizes) (w : World) (spots : Placing) (t : Name) (values : List ℕ) → AreRising (sizes t) values → w.rests t ≡ beside.Gaps →
    w.classes.sizes t ≡ length values → ((k : ℕ) → spots t k ≡ spot_between values k) → IsPlaced sizes w (placed spots) (ordset t)
ordset_is_placed sizes w spots t values rising has_gaps count same_spots =
    let facts : AreSpotted (sizes t) (w.classes.sizes t) (rests_beside (w.rests t) (w.classes.sizes t)) (spot_between values) =
    subst (λ r. AreSpotted (sizes t) (w.classes.sizes t) (rests_beside r (w.classes.sizes t)) (spot_between values)) (sym has_gaps)
    (subst (λ m. AreSpotted (sizes t) m (numbers_from 0 (m + 1)) (spot_between values)) (sym count) (spotted_between (sizes t) values rising)) in
    let lies : (k : ℕ) → placed spots (ordinal t k) ≡ at_spot (ordinal t) (spot_between values k) = λ k. ap (at_spot (ordinal t)) (same_spots k) in
    record {
      is_somewhere = is_somewhere (ordinal t) (same_ordinal t) (placed spots) (spot_between values) lies (sizes t) (w.classes.sizes t) (rests_beside (w.rests t) (w.classes.sizes t)) facts;
      class_has_value = class_has_value (ordinal t) (same_ordinal t) (placed spots) (spot_between values) lies (sizes t) (w.classes.sizes t) (rests_beside (w.rests t) (w.classes.sizes t)) facts;
      class_has_one = class_has_one (ordinal t) (same_ordinal t) (placed spots) (spot_between values) lies (sizes t) (w.classes.sizes t) (rests_beside (w.rests t) (w.classes.sizes t)) facts;
      equality = equality (ordinal t) (same_ordinal t) (placed spots) (spot_between values) lies (sizes t) (w.classes.sizes t) (rests_beside (w.rests t) (w.classes.sizes t)) facts;
      order = order (ordinal t) (same_ordinal t) (placed spots) (spot_between values) lies (sizes t) (w.classes.sizes t) (rests_beside (w.rests t) (w.classes.sizes t)) facts
          (λ k l hk hl. subst (Has (below_places (at_spot (ordinal t) (spot_between values k)) (at_spot (ordinal t) (spot_between values l)))) (is_below t k l)
          (at_places t (spot_between values k) (spot_between values l) (nat_lt k l) (compared values k l)));
    }
  where
    is_below : (t : Name) (k l : ℕ) → Some (nat_lt k l) ≡ below (Some (ordinal t k)) (Some (ordinal t l))
    is_below t k l = rw ((bytes_eq-Decides t t).1 refl) refl
