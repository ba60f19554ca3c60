-- What tries find may be told.
use Rattle.std.proofs.Common.{◌≡◌, ℕ, List, true, false, refl, sym, subst}
use Rattle.smv_rings.specs.Lists.{Lists}
use Rattle.law_events.specs.Events.{IsFirstEvent}
use Rattle.law_events.specs.Events.Event.{Counted, Reached, Shut, Images}
use Rattle.law_obligations.specs.Readings.{PosedCase}
use Rattle.law_reports.specs.CaseLists.{case_lists}
use Rattle.law_reports.specs.Verdicts.{MayBeTold}
use Rattle.law_arrangements.specs.Arrangements.{Arrangement, IsArrangement, declared}
use Rattle.law_arrangements.specs.Orders.{wired}
use Rattle.law_arrangements.specs.ArrangedLists.{lists_over}
use Rattle.law_arrangements.proofs.Declared.{declared_is_today, declared_is_arrangement}
use Rattle.law_arrangements.proofs.Telling.{tries_may_be_told, declared_may_be_told}
use Rattle.smv_core.specs.declared.flat.Element.{Element}
use Rattle.smv_problem.specs.declared.problem.Problem.{Problem}
use Rattle.smv_problem.specs.WellFormed.{IsWellFormed, OfCases}
use Rattle.smv_bits.specs.declared.Bits.TheVariants.{Near}
use Rattle.smv_decide.specs.declared.Decision.TheVariants as decided
use Rattle.smv_decide.specs.declared.tries.Tried.{Tried}
use Rattle.smv_decide.specs.declared.tries.Tried.TheVariants.{Safe, Broken, OutOfNodes, OutOfSteps, NoRoom}
use Rattle.smv_trace.specs.Wired.{AreWired}
use Rattle.smv_decide.specs.Decisions.{IsDecided}
use Rattle.smv_decide.specs.Tries.{IsTried, is_out}
use Rattle.smv_decide.proofs.Deciding.{shown_by}

-- what a try over an arrangement finds, unless it is that its budget of nodes is passed
part_told : (c : PosedCase) → IsWellFormed c → (o : Arrangement) → IsArrangement c o → (nodes part steps : ℕ) (t : Tried) → is_out t ≡ false → IsTried (IsFirstEvent (lists_over c o) part steps) c t → IsTried (MayBeTold nodes steps c) c t
part_told c well o arranges nodes part steps Safe e (k, v) = (k, tries_may_be_told c well.is_case o arranges nodes part steps (Shut k) refl v)
part_told c well o arranges nodes part steps (Broken path) e (k, v, shown) = (k, tries_may_be_told c well.is_case o arranges nodes part steps (Reached k) refl v, shown)
part_told c well o arranges nodes part steps (OutOfNodes count) e v = absurd (cc (e))
part_told c well o arranges nodes part steps NoRoom e v = absurd (cc (e))
part_told c well o arranges nodes part steps OutOfSteps e v = tries_may_be_told c well.is_case o arranges nodes part steps Images refl v

-- and whatever one over the declared order finds under the whole budget
whole_told : (c : PosedCase) → IsWellFormed c → (nodes steps : ℕ) (t : Tried) → IsTried (IsFirstEvent (case_lists c) nodes steps) c t → IsTried (MayBeTold nodes steps c) c t
whole_told c well nodes steps Safe (k, v) = (k, declared_may_be_told c well.is_case nodes steps (Shut k) v)
whole_told c well nodes steps (Broken path) (k, v, shown) = (k, declared_may_be_told c well.is_case nodes steps (Reached k) v, shown)
whole_told c well nodes steps (OutOfNodes count) v = declared_may_be_told c well.is_case nodes steps (Counted count) v
whole_told c well nodes steps NoRoom v = v
whole_told c well nodes steps OutOfSteps v = declared_may_be_told c well.is_case nodes steps Images v

pub parts_told : (p : Problem) (order : List ℕ) (wires : List Element) (l : Lists) → OfCases p (AreWired order wires l) → (part steps : ℕ) (t : Tried) → OfCases p (λ c. IsTried (IsFirstEvent l part steps) c t)
    → OfCases p (λ c. (nodes : ℕ) → is_out t ≡ false → IsTried (MayBeTold nodes steps c) c t)
parts_told p order wires l lists part steps t tried c is well nodes e =
    let r = lists c is well in
    part_told c well (wired order r.0) r.2 nodes part steps t e (subst (λ (m : Lists). IsTried (IsFirstEvent m part steps) c t) r.3 (tried c is well))

pub declared_told : (p : Problem) (part steps : ℕ) (t : Tried) → OfCases p (λ c. IsTried (IsFirstEvent (case_lists c) part steps) c t) → OfCases p (λ c. (nodes : ℕ) → is_out t ≡ false → IsTried (MayBeTold nodes steps c) c t)
declared_told p part steps t tried c is well nodes e =
    part_told c well (declared c) (declared_is_arrangement c well.is_case) nodes part steps t e (subst (λ (m : Lists). IsTried (IsFirstEvent m part steps) c t) (sym (declared_is_today c well.is_case)) (tried c is well))

pub wholes_told : (p : Problem) (nodes steps : ℕ) (t : Tried) → OfCases p (λ c. IsTried (IsFirstEvent (case_lists c) nodes steps) c t) → OfCases p (λ c. IsTried (MayBeTold nodes steps c) c t)
wholes_told p nodes steps t tried c is well = whole_told c well nodes steps t (tried c is well)

-- of two tries the later one, or else the first where both are out of nodes
pub later_told : (p : Problem) (nodes steps : ℕ) (first later : Tried) → OfCases p (λ c. IsTried (MayBeTold nodes steps c) c first) → OfCases p (λ c. (nodes : ℕ) → is_out later ≡ false → IsTried (MayBeTold nodes steps c) c later) → (is_out later ≡ true → later ≡ first)
    → OfCases p (λ c. IsTried (MayBeTold nodes steps c) c later)
later_told p nodes steps first Safe before told out c is well = told c is well nodes refl
later_told p nodes steps first (Broken path) before told out c is well = told c is well nodes refl
later_told p nodes steps first (OutOfNodes count) before told out c is well = subst (IsTried (MayBeTold nodes steps c) c) (sym (out refl)) (before c is well)
later_told p nodes steps first NoRoom before told out c is well = subst (IsTried (MayBeTold nodes steps c) c) (sym (out refl)) (before c is well)
later_told p nodes steps first OutOfSteps before told out c is well = told c is well nodes refl

-- what is decided by it
pub decided_safe : (p : Problem) (nodes steps : ℕ) (t : Tried) → t ≡ Safe → OfCases p (λ c. IsTried (MayBeTold nodes steps c) c t) → OfCases p (λ c. IsDecided Near nodes steps c decided.True)
decided_safe p nodes steps t e tried c is well = subst (IsTried (MayBeTold nodes steps c) c) e (tried c is well)

pub decided_broken : (p : Problem) (nodes steps : ℕ) (t : Tried) (path : _) → t ≡ Broken path → OfCases p (λ c. IsTried (MayBeTold nodes steps c) c t) → OfCases p (λ c. IsDecided Near nodes steps c (decided.False p.elements path))
decided_broken p nodes steps t path e tried c is well =
    let r : IsTried (MayBeTold nodes steps c) c (Broken path) = subst (IsTried (MayBeTold nodes steps c) c) e (tried c is well) in
    (r.0, r.1, shown_by p c r.0 path is r.2)

pub decided_nodes : (p : Problem) (nodes steps : ℕ) (t : Tried) (count : ℕ) → t ≡ OutOfNodes count → OfCases p (λ c. IsTried (MayBeTold nodes steps c) c t) → OfCases p (λ c. IsDecided Near nodes steps c (decided.UnknownNodes count))
decided_nodes p nodes steps t count e tried c is well = subst (IsTried (MayBeTold nodes steps c) c) e (tried c is well)

pub decided_steps : (p : Problem) (nodes steps : ℕ) (t : Tried) → t ≡ OutOfSteps → OfCases p (λ c. IsTried (MayBeTold nodes steps c) c t) → OfCases p (λ c. IsDecided Near nodes steps c decided.UnknownSteps)
decided_steps p nodes steps t e tried c is well = subst (IsTried (MayBeTold nodes steps c) c) e (tried c is well)
