-- What follows where operands and lists of faults have no fault.
use Rattle.law_designs.proofs.Opening.{opening}
use Rattle.std.proofs.Common.{◌≡◌, ℕ, List, [], ◌∷◌, ◌++◌, map, flat_map, length, zip, Option, Some, None, Bool, true, false, cond, refl, subst, arith}
use Rattle.std.specs.Str.{bytes_eq}
use Rattle.std.specs.List.{AllByRecursion}
use Rattle.law_lists.proofs.Each.{each_weaker}
use Rattle.smv_core.specs.Values.{Name}
use Rattle.smv_core.specs.Types.{find_name}
use Rattle.smv_core.specs.declared.fault.Fault.{Fault}
use Rattle.smv_core.specs.declared.tree.Op.{Op}
use Rattle.smv_core.specs.declared.tree.Op.TheVariants.{Equal, Differ, Less, AtMost, Greater, AtLeast}
use Rattle.smv_mentions.specs.NameFaults.{place_if}
use Rattle.smv_mentions.specs.FirstFault.{comes_before, earlier, first_of, faults_at, or_else}
use Rattle.law_designs.specs.Kinds.{Kind, no_kind, Operand, takes_number, takes, alike_with, alike, joined, is_number, accepts, joins, has_order, unless}
use Rattle.law_designs.specs.Types.{Whole}
use Rattle.law_designs.specs.References.{reference}
use Rattle.law_designs.specs.Operands.{compared}

-- ---- lists

pub empty-both : {X : Type 0} (xs ys : List X) → xs ++ ys ≡ [] → (xs ≡ []) × (ys ≡ [])
unfolding opening
empty-both [] ys e = (refl, e)
empty-both (x ∷ xs) ys e = absurd (cc (e))

pub empty-three : {X : Type 0} (xs ys zs : List X) → xs ++ ys ++ zs ≡ [] → (xs ≡ []) × (ys ≡ []) × (zs ≡ [])
unfolding opening
empty-three xs ys zs e =
    let both = empty-both (xs ++ ys) zs e in
    let front = empty-both xs ys both.0 in
    (front.0, front.1, both.1)

pub empty-each : {X Y : Type 0} (f : X → List Y) (xs : List X) → flat_map f xs ≡ [] → AllByRecursion (λ x. f x ≡ []) xs
unfolding opening
empty-each f [] e = tt
empty-each f (x ∷ xs) e = let parts = empty-both (f x) (flat_map f xs) e in (parts.0, empty-each f xs parts.1)

pub each-front : {X : Type 0} (P : X → Type 0) (xs ys : List X) → AllByRecursion P (xs ++ ys) → AllByRecursion P xs
unfolding opening
each-front P [] ys h = tt
each-front P (x ∷ xs) ys h = (h.0, each-front P xs ys h.1)

pub each-behind : {X : Type 0} (P : X → Type 0) (xs ys : List X) → AllByRecursion P (xs ++ ys) → AllByRecursion P ys
unfolding opening
each-behind P [] ys h = h
each-behind P (x ∷ xs) ys h = each-behind P xs ys h.1

pub each-map : {X Y : Type 0} (P : X → Type 0) (Q : Y → Type 0) (f : X → Y) → ((x : X) → P x → Q (f x)) → (xs : List X) → AllByRecursion P xs → AllByRecursion Q (map f xs)
unfolding opening
each-map P Q f h [] k = tt
each-map P Q f h (x ∷ xs) k = (h x k.0, each-map P Q f h xs k.1)

-- what holds of each holds of what is found
pub found-each : {X : Type 0} (P : X → Type 0) (list : List (Name × X)) (name : Name) (x : X) → AllByRecursion (λ (other, y). P y) list → find_name list name ≡ Some x → P x
unfolding opening
found-each P [] name x h e = absurd (cc (e))
found-each {X} P ((other, y) ∷ list) name x h e = by_test (bytes_eq other name) e (found-each P list name x h.1)
  where
    by_test : (b : Bool) → cond b (Some y) (find_name list name) ≡ Some x → (find_name list name ≡ Some x → P x) → P x
    by_test true e rest = let same : y ≡ x = cc in subst P same h.0
    by_test false e rest = rest e

-- ---- faults

pub unplaced : (b : Bool) (at : ℕ) → place_if b at ≡ [] → b ≡ false
unfolding opening
unplaced false at e = refl
unplaced true at e = absurd (cc (e))

pub no_fault-in : (fs : List Fault) → first_of fs ≡ None → fs ≡ []
unfolding opening
no_fault-in [] e = refl
no_fault-in (f ∷ fs) e = absurd (by_rest (first_of fs) e)
  where
    by_order : (b : Bool) (g : Fault) → cond b (Some g) (Some f) ≡ None → ⊥
    by_order true g e = cc (e)
    by_order false g e = cc (e)

    by_rest : (o : Option Fault) → earlier f o ≡ None → ⊥
    by_rest None e = cc (e)
    by_rest (Some g) e = by_order (comes_before g f) g e

pub none-first : (o p : Option Fault) → or_else o p ≡ None → o ≡ None
unfolding opening
none-first None p e = refl
none-first (Some f) p e = absurd (cc (e))

pub no_places : (number : ℕ) (places : List ℕ) → faults_at (number, places) ≡ [] → places ≡ []
unfolding opening
no_places number [] e = refl
no_places number (at ∷ places) e = absurd (cc (e))

-- ---- operands

-- an operand without faults
abbrev pub IsFine : Operand → Type 0
IsFine e = e.faults ≡ []

abbrev pub AreFine : List Operand → Type 0
AreFine es = AllByRecursion IsFine es

pub number-fine : (e : Operand) → takes_number e ≡ [] → IsFine e
unfolding opening
number-fine e h = (empty-both e.faults (unless (is_number e.kind) e) h).0

pub taken-fine : (kind : Kind) (e : Operand) → takes kind e ≡ [] → IsFine e
unfolding opening
taken-fine kind e h = (empty-both e.faults (unless (accepts kind e.kind) e) h).0

pub numbers-fine : (es : List Operand) → flat_map takes_number es ≡ [] → AreFine es
unfolding opening
numbers-fine es h = each_weaker (λ e. takes_number e ≡ []) IsFine number-fine es (empty-each takes_number es h)

pub alike_with-fine : (kind : Kind) (es : List Operand) → alike_with kind es ≡ [] → AreFine es
unfolding opening
alike_with-fine kind [] h = tt
alike_with-fine kind (e ∷ more) h =
    let own = empty-three e.faults (unless (joins kind e.kind) e) (alike_with (joined kind e.kind) more) h in
    (own.0, alike_with-fine (joined kind e.kind) more own.2)

pub alike-fine : (es : List Operand) → alike es ≡ [] → AreFine es
unfolding opening
alike-fine es h = alike_with-fine no_kind es h

pub compared-fine : (op : Op) (l r : Operand) → (compared op l r).faults ≡ [] → AreFine (l ∷ r ∷ [])
unfolding opening
compared-fine Equal l r h = alike-fine (l ∷ r ∷ []) h
compared-fine Differ l r h = alike-fine (l ∷ r ∷ []) h
compared-fine Less l r h = alike-fine (l ∷ r ∷ []) (empty-three (alike (l ∷ r ∷ [])) (unless (has_order l.kind) l) (unless (has_order r.kind) r) h).0
compared-fine AtMost l r h = alike-fine (l ∷ r ∷ []) (empty-three (alike (l ∷ r ∷ [])) (unless (has_order l.kind) l) (unless (has_order r.kind) r) h).0
compared-fine Greater l r h = alike-fine (l ∷ r ∷ []) (empty-three (alike (l ∷ r ∷ [])) (unless (has_order l.kind) l) (unless (has_order r.kind) r) h).0
compared-fine AtLeast l r h = alike-fine (l ∷ r ∷ []) (empty-three (alike (l ∷ r ∷ [])) (unless (has_order l.kind) l) (unless (has_order r.kind) r) h).0

-- ---- references

zipped-fine : (ks : List Kind) (es : List Operand) → length ks ≡ length es → flat_map (λ (kind, e). takes kind e) (zip ks es) ≡ [] → AreFine es
unfolding opening
zipped-fine ks [] s h = tt
zipped-fine [] (e ∷ es) s h = absurd (omega (arith, s))
zipped-fine (k ∷ ks) (e ∷ es) s h =
    let parts = empty-both (takes k e) (flat_map (λ (kind, e). takes kind e) (zip ks es)) h in
    (taken-fine k e parts.0, zipped-fine ks es (omega (arith, s)) parts.1)

-- a reference without faults is whole, and its indexes have no faults
pub reference-fine : (at : ℕ) (o : Option Whole) (es : List Operand) → (reference at o es).faults ≡ [] → (w : Whole) × (o ≡ Some w) × (length w.over ≡ length es → AreFine es)
unfolding opening
reference-fine at None es h = absurd (cc (h))
reference-fine at (Some w) es h = (w, refl, λ same. zipped-fine w.over es same h)
