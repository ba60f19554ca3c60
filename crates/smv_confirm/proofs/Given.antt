-- What sizes that a command gives are, and cases that are not refused at them.
use Rattle.std.proofs.Common.{◌≡◌, ◌≤◌, ℕ, List, [], ◌∷◌, length, Option, Some, None, Result, Err, Bool, true, false, if◌then◌else◌, nat_eq, nat_lt, refl, ap, subst, arith}
use Rattle.std.specs.Prelude.{IfSome}
use Rattle.std.specs.List.{list_any}
use Rattle.std.specs.Str.{bytes_eq}
use Rattle.law_lists.proofs.Booleans.{clash}
use Rattle.law_lists.proofs.Numbers.{nat_eq-is}
use Rattle.smv_core.specs.Values.{Name}
use Rattle.smv_core.specs.declared.fault.Fault.{Fault}
use Rattle.smv_core.specs.declared.fault.Refusal.{Refusal}
use Rattle.smv_core.specs.declared.fault.Refusal.TheVariants as refusal
use Rattle.smv_core.specs.declared.flat.Case.{Case}
use Rattle.smv_core.specs.declared.flat.Class.{Class}
use Rattle.smv_core.specs.declared.flat.Design.{Design}
use Rattle.smv_core.specs.declared.flat.SetInfo.{SetInfo}
use Rattle.smv_core.specs.declared.flat.Unit.{Unit as DesignUnit}
use Rattle.smv_mentions.specs.FirstFault.{or_else}
use Rattle.law_obligations.specs.Sets.{Has, first, later}
use Rattle.law_obligations.specs.Covers.{by_name}
use Rattle.law_obligations.proofs.Members.{Has-map, any-found}
use Rattle.law_problems.specs.Parts.{Refuses}
use Rattle.law_concrete.specs.Laws.{GivenAreSizes}
use Rattle.law_concrete.specs.Sizes.{at_unit, case_bits, cases_fault, given_after, many_fault, next_size, number_fault, size_list, sizes_at, undeclared, wide_fault, width_fault_of}
use Rattle.smv_decide.specs.Leaves.{classes_in}
use Rattle.smv_concrete.specs.declared.subjects.Subject.{Subject}
use Rattle.smv_concrete.specs.Subjects.{AreFew, IsSized, cases_in, unit_of}
use Rattle.smv_confirm.specs.Cases.{AreNarrow}
use Rattle.smv_confirm.specs.Confirmations.{AreInRange}
use Rattle.smv_confirm.specs.Ready.{IsReadyDesign}

-- ---- sizes

next-few : (size : Option ℕ) (given : List ℕ) → IfSome size (λ n. n ≤ 256) → ((k : ℕ) → Has given k → k ≤ 256) → next_size size given ≤ 256
next-few (Some n) given own each = own
next-few None [] own each = omega arith
next-few None (k ∷ given) own each = each k first

after-few : (size : Option ℕ) (given : List ℕ) → ((k : ℕ) → Has given k → k ≤ 256) → (k : ℕ) → Has (given_after size given) k → k ≤ 256
after-few (Some n) given each k h = each k h
after-few None [] each k h = elim h [ ]
after-few None (j ∷ given) each k h = each k (later h)

listed-few : (sets : List SetInfo) (given : List ℕ) → ((info : SetInfo) → Has sets info → IfSome info.size (λ n. n ≤ 256)) → ((k : ℕ) → Has given k → k ≤ 256) → (k : ℕ) → Has (size_list sets given) k → k ≤ 256
listed-few [] given own each k h = elim h [ ]
listed-few (info ∷ sets) given own each _ first = next-few info.size given (own info first) each
listed-few (info ∷ sets) given own each k (later h) = listed-few sets (given_after info.size given) (λ i m. own i (later m)) (after-few info.size given each) k h

named-few : (sets : List SetInfo) (ks : List ℕ) (t : Name) → ((k : ℕ) → Has ks k → k ≤ 256) → by_name 0 sets ks t ≤ 256
named-few [] ks t each = omega arith
named-few (info ∷ sets) [] t each = omega arith
named-few (info ∷ sets) (k ∷ ks) t each = at (bytes_eq info.name t) (each k first) (named-few sets ks t (λ j h. each j (later h)))
  where
    at : (b : Bool) → k ≤ 256 → by_name 0 sets ks t ≤ 256 → (if b then k else by_name 0 sets ks t) ≤ 256
    at true own more = own
    at false own more = more

-- no set type has more than 256 values
pub are-few : (d : Design) (given : List ℕ) → IsReadyDesign d → AreInRange given → AreFew d given
are-few d given ready range = λ info m. named-few d.sets (size_list d.sets given) info.name (listed-few d.sets given ready.sizes (λ k h. (range k h).1))

-- ---- what is not refused

none-first : (o p : Option Fault) → or_else o p ≡ None → o ≡ None
none-first None p e = refl
none-first (Some f) p e = absurd (cc (e))

abbrev none_there : Option Fault
none_there = None

-- there are as many sizes as there are set types without one
as-many : (d : Design) (unit : DesignUnit) (given : List ℕ) → cases_fault d unit given ≡ None → length given ≡ undeclared d.sets
as-many d unit given e = at (nat_eq (length given) (undeclared d.sets)) refl (none-first (number_fault d unit given) (or_else (wide_fault d unit given) (many_fault d unit given)) e)
  where
    at : (b : Bool) → nat_eq (length given) (undeclared d.sets) ≡ b → (if b then None else Some (record { number = 34; at = 0 })) ≡ none_there → length given ≡ undeclared d.sets
    at true q e = nat_eq-is (length given) (undeclared d.sets) q
    at false q e = absurd (cc (e))

-- so the design is sized
pub is-sized : GivenAreSizes → (d : Design) (unit : DesignUnit) (given : List ℕ) → IsReadyDesign d → AreInRange given → cases_fault d unit given ≡ None → IsSized d given
is-sized law d unit given ready range none = record {
  is_exact = ready.is_exact (sizes_at d.sets given) (law d ready.are_apart ready.have_values given (λ k h. (range k h).0) (as-many d unit given none));
  is_fit = ready.is_fit;
  are_apart = ready.are_apart;
  are_few = are-few d given ready range;
}

none-passes : {X : Type 0} (p : X → Bool) (xs : List X) → list_any p xs ≡ false → (x : X) → Has xs x → p x ≡ false
none-passes p xs none x h = at (p x) refl
  where
    at : (b : Bool) → p x ≡ b → p x ≡ false
    at true e = absurd (clash (any-found p h e) none)
    at false e = e

abbrev too_wide : Subject → List Class → Bool
too_wide s classes = nat_lt 1024 (case_bits s.design.now (unit_of s) s.sizes.now classes)

-- each case has few enough state bits
pub are-narrow : (s : Subject) (cases : List Case) → classes_in cases ≡ cases_in s → width_fault_of s.design.now (unit_of s) s.sizes.now (classes_in cases) ≡ None → AreNarrow s cases
are-narrow s cases are none = record {
  are_cases = λ c h. subst (λ (list : List (List Class)). Has list c.classes) are (Has-map (λ (x : Case). x.classes) h);
  have_width = λ c h. ap (λ (b : Bool). if b then Some (at_unit s.design.now (unit_of s) s.sizes.now 30) else None) (none-passes (too_wide s) (classes_in cases) (never (list_any (too_wide s) (classes_in cases)) refl none) c.classes (Has-map (λ (x : Case). x.classes) h));
}
  where
    never : (b : Bool) → list_any (too_wide s) (classes_in cases) ≡ b → (if b then Some (at_unit s.design.now (unit_of s) s.sizes.now 30) else None) ≡ none_there → list_any (too_wide s) (classes_in cases) ≡ false
    never true q e = absurd (cc (e))
    never false q e = q

-- where it is not refused for the first reason, it is for the second
pub refused-then : {A : Type 0} (o p : Option Fault) (r : Result A Refusal) → o ≡ None → Refuses p r → Refuses (or_else o p) r
refused-then None p r e h = h
refused-then (Some f) p r e h = absurd (cc (e))

-- what is refused for the first reason is refused for both
pub refused-first : (A B : Type 0) (o p : Option Fault) (e : Refusal) → Refuses {A = A} o (Err e) → Refuses {A = B} (or_else o p) (Err e)
refused-first A B o p (refusal.Fault f) h = ap (λ (o : Option Fault). or_else o p) h
refused-first A B o p refusal.OutOfMemory h = tt

-- a refusal says the same of each kind of answer
pub refused-same : (A B : Type 0) (o : Option Fault) (e : Refusal) → Refuses {A = A} o (Err e) → Refuses {A = B} o (Err e)
refused-same A B o (refusal.Fault f) h = h
refused-same A B o refusal.OutOfMemory h = tt
