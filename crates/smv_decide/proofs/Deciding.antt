-- What a search found, in another store and of the lists of a case.
use Rattle.std.proofs.Common.{◌≡◌, ℕ, sym, ap, subst, ◌∙◌, List, [], map}
use Rattle.bdd_store.specs.declared.Ref.{Ref}
use Rattle.bdd_store.specs.Diagram.{Diagram, IsLive}
use Rattle.smv_rings.specs.declared.Rel.{Rel}
use Rattle.smv_rings.specs.Lists.{Lists, lists_of, refs_of}
use Rattle.smv_rings.specs.Ops.{IsOneOf}
use Rattle.smv_search.specs.declared.Outcome.{Outcome}
use Rattle.smv_search.specs.declared.Outcome.TheVariants.{Reaches}
use Rattle.smv_search.specs.Answers.{found, Answers, IsLeast}
use Rattle.smv_search.specs.Keeping.{KeepsRefs}
use Rattle.law_events.specs.Events.{IsFirstEvent}
use Rattle.law_events.specs.Events.Event.{Reached}
use Rattle.smv_search.proofs.Start.{lists_kept}
use Rattle.law_obligations.specs.Readings.{PosedCase, state_bits}
use Rattle.law_obligations.specs.CasePaths.{IsShortest}
use Rattle.law_obligations.specs.May.{AbsState}
use Rattle.smv_problem.specs.declared.problem.AbsState.{AbsState as StateData}
use Rattle.smv_problem.specs.declared.problem.Problem.{Problem}
use Rattle.smv_problem.specs.Written.{written, written_state}
use Rattle.law_reports.specs.Reports.{IsShown}
use Rattle.smv_core.specs.Values.{numbers_from}
use Rattle.law_reports.specs.CaseLists.{case_lists}
use Rattle.law_arrangements.specs.Orders.{arranged, IsOrder}
use Rattle.law_arrangements.specs.ArrangedLists.{lists_over}
use Rattle.law_arrangements.proofs.OrderLaws.{declared_order, order_arranges}
use Rattle.law_arrangements.proofs.Declared.{declared_is_today}
use Rattle.smv_problem.specs.WellFormed.{OfCases}
use Rattle.smv_core.specs.declared.flat.Element.{Element}
use Rattle.smv_trace.specs.Wired.{AreWired}
use Rattle.smv_decide.specs.Decisions.{IsFound}

-- the lists are the same after the search
pub found_after : (old new : Diagram) (rel : Rel) (nodes steps : ℕ) (o : Outcome) → KeepsRefs old new (refs_of rel) → Answers new (lists_of old rel) nodes steps o → IsLeast (lists_of old rel) o →
    ((r : Ref) → IsOneOf r (found o) → IsLive new r) → IsFound new (lists_of new rel) nodes steps o
found_after old new rel nodes steps o keeps answers least live =
    subst (λ (l : Lists). IsFound new l nodes steps o) (sym (lists_kept old new rel keeps)) (record { answers = answers; least = least; live = live })

pub reached_in : (d : Diagram) (l m : Lists) (nodes steps depth : ℕ) (o : Outcome) (rings : _) → IsFound d l nodes steps o → o ≡ Reaches depth rings → l ≡ m → IsFirstEvent m nodes steps (Reached depth)
reached_in d l m nodes steps depth o rings found e same = subst (λ (l : Lists). IsFirstEvent l nodes steps (Reached depth)) same (subst (Answers d l nodes steps) e found.answers).0

pub shown_by : (p : Problem) (c : PosedCase) (steps : ℕ) (states : List StateData) → p ≡ written c → (path : List AbsState) × IsShortest c.problem steps path × (states ≡ map (written_state c) path) → IsShown c steps p.elements states
unfolding written
shown_by p c steps states e s = record { states = s.0; is_shortest = s.1; elements_are = ap (λ (q : Problem). q.elements) e; path_is = s.2 }

pub order_declared : (p : Problem) (order : List ℕ) → OfCases p (λ c. order ≡ numbers_from 0 (state_bits c)) → OfCases p (λ c. IsOrder (state_bits c) order)
order_declared p order declared c is well = subst (IsOrder (state_bits c)) (sym (declared c is well)) (declared_order (state_bits c))

-- over the declared order the lists of a case are its own, and no element is worked out
pub wired_declared : (p : Problem) (l : Lists) (order : List ℕ) (wires : List Element) → wires ≡ [] → OfCases p (λ c. order ≡ numbers_from 0 (state_bits c)) → OfCases p (λ c. l ≡ case_lists c) → OfCases p (AreWired order wires l)
wired_declared p l order wires none declared lists c is well = (
  [],
  none,
  order_arranges c order (order_declared p order declared c is well),
  lists c is well ∙ sym (ap (λ (os : List ℕ). lists_over c (arranged os)) (declared c is well) ∙ declared_is_today c well.is_case),
)

-- they are so after the search
pub wired_after : (old new : Diagram) (rel : Rel) (p : Problem) (order : List ℕ) (wires : List Element) → KeepsRefs old new (refs_of rel) → OfCases p (AreWired order wires (lists_of old rel)) → OfCases p (AreWired order wires (lists_of new rel))
wired_after old new rel p order wires keeps lists c is well = let r = lists c is well in (r.0, r.1, r.2, lists_kept old new rel keeps ∙ r.3)
