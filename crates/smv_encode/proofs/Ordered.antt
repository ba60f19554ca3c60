-- What a problem's order is asked for, and what the declared one is.
use Rattle.std.proofs.Common.{◌≡◌, ℕ, ◌*◌, ◌<◌, List, length, sym, ap, subst, ◌∙◌, arith}
use Rattle.smv_core.specs.Values.{numbers_from}
use Rattle.law_obligations.specs.Sets.{Has}
use Rattle.law_obligations.specs.Readings.{state_bits}
use Rattle.law_arrangements.specs.Orders.{arranged, IsOrder}
use Rattle.law_arrangements.specs.ArrangedLists.{lists_over}
use Rattle.law_arrangements.proofs.Declared.{declared_is_today}
use Rattle.law_arrangements.proofs.OrderLaws.{order_long, declared_order}
use Rattle.law_reports.specs.CaseLists.{IsListsOf}
use Rattle.smv_rings.specs.Lists.{Lists}
use Rattle.bdd_store.specs.Diagram.{Diagram}
use Rattle.bdd_codes.specs.Codes.{AreWithin}
use Rattle.smv_problem.specs.declared.problem.Problem.{Problem}
use Rattle.smv_problem.specs.WellFormed.{IsProblem, OfCases}

-- there are variables for the places
pub places_within : (p : Problem) (order : List ℕ) → OfCases p (λ c. IsOrder (state_bits c) order) → (d : Diagram) (places shown : List ℕ) → shown ≡ places → IsProblem p → OfCases p (λ c. d.vars ≡ 2 * state_bits c) → ((q : ℕ) → Has places q → q < length order) → AreWithin d shown
places_within p order orders d places shown e (c, is, well) vars below q h =
    let lt = below q (subst (λ (ps : List ℕ). Has ps q) e h) in
    let many = order_long (state_bits c) order (orders c is well) in
    let room = vars c is well in
    omega (arith, lt, many, room)

pub declared_orders : (p : Problem) (order shown : List ℕ) → shown ≡ order → OfCases p (λ c. order ≡ numbers_from 0 (state_bits c)) → OfCases p (λ c. IsOrder (state_bits c) shown)
declared_orders p order shown e declared c is well = subst (IsOrder (state_bits c)) (sym (e ∙ declared c is well)) (declared_order (state_bits c))

pub declared_lists : (p : Problem) (l : Lists) (order shown : List ℕ) → shown ≡ order → OfCases p (λ c. order ≡ numbers_from 0 (state_bits c)) → OfCases p (λ c. l ≡ lists_over c (arranged shown)) → OfCases p (λ c. IsListsOf c l)
declared_lists p l order shown e declared lists c is well = lists c is well ∙ ap (λ (os : List ℕ). lists_over c (arranged os)) (e ∙ declared c is well) ∙ declared_is_today c well.is_case
