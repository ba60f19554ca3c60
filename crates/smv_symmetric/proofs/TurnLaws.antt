-- The first of several faults, found one after the other.
use Rattle.std.proofs.Common.{◌≡◌, List, [], ◌∷◌, map, Bool, true, false, cond, if◌then◌else◌, refl, ap, sym, ◌∙◌}
use Rattle.std.specs.Prelude.{Option, Some, None, filter}
use Rattle.std.specs.List.{flat_map, list_any}
use Rattle.smv_core.specs.declared.fault.Fault.{Fault}
use Rattle.smv_mentions.specs.FirstFault.{first_of}
use Rattle.smv_first_fault.specs.Firsts.{earlier_of}
use Rattle.smv_first_fault.proofs.FirstLaws.{earlier-assoc, first-both, earlier-none}
use Rattle.law_designs.specs.SetOperands.{SetOperand, is_of_set, is_number, number_fault, met}
use Rattle.smv_symmetric.specs.Plain.{first_among, fault_if_number}

-- the first of the faults of several things is the first among those of each
pub first-each : {X : Type 0} (f : X → List Fault) (xs : List X) → first_of (flat_map f xs) ≡ first_among (map (λ x. first_of (f x)) xs)
first-each f [] = refl
first-each f (x ∷ xs) = first-both (f x) (flat_map f xs) ∙ ap (earlier_of (first_of (f x))) (first-each f xs)

numbers-first : (xs : List SetOperand) → first_among (map fault_if_number xs) ≡ first_of (map number_fault (filter (λ x. is_number x.kind) xs))
numbers-first [] = refl
numbers-first (x ∷ xs) = at (is_number x.kind) _ _ (numbers-first xs)
  where
    at : (b : Bool) (o : Option Fault) (l : List SetOperand) → o ≡ first_of (map number_fault l) → earlier_of (if b then Some (number_fault x) else None) o ≡ first_of (map number_fault (cond b (x ∷ l) l))
    at true o l e = ap (earlier_of (Some (number_fault x))) e
    at false o l e = e

met-any : (xs : List SetOperand) (b : Bool) → list_any (λ x. is_of_set x.kind) xs ≡ b → first_of (met xs) ≡ (if b then first_among (map fault_if_number xs) else None)
met-any xs true e = ap (λ b. first_of (if b then map number_fault (filter (λ x. is_number x.kind) xs) else [])) e ∙ sym (numbers-first xs)
met-any xs false e = ap (λ b. first_of (if b then map number_fault (filter (λ x. is_number x.kind) xs) else [])) e

pub ruleset in_turn = (earlier-assoc, earlier-none, first-both)

-- of operands that meet, where one is a value of a set type, the first that is a number
pub met-yes : (xs : List SetOperand) → list_any (λ x. is_of_set x.kind) xs ≡ true → first_among (map fault_if_number xs) ≡ first_of (met xs)
met-yes xs e = sym (met-any xs true e)

pub met-no : (xs : List SetOperand) → list_any (λ x. is_of_set x.kind) xs ≡ false → None ≡ first_of (met xs)
met-no xs e = sym (met-any xs false e)
