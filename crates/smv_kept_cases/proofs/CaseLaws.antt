-- What is tried of a case: its old set, and what a search leaves in its store.
use Rattle.std.proofs.Common.{◌≡◌, ◌∙◌, ◌≤◌, ◌+◌, ◌*◌, ◌⊎◌, inl, inr, ◌↔◌, IsTrue, ℕ, Bool, true, false, List, ◌∷◌, [], Option, Some, None, refl, sym, ap, subst, arith}
use Rattle.bdd_store.specs.declared.Ref.{Ref}
use Rattle.bdd_store.specs.Diagram.{Diagram, IsLive, table}
use Rattle.smv_rings.specs.declared.Rel.{Rel}
use Rattle.smv_rings.specs.Lists.{Lists, IsRel, lists_of}
use Rattle.smv_rings.specs.Schedule.{ring}
use Rattle.smv_rings.specs.Ops.{IsOneOf}
use Rattle.smv_search.specs.declared.Outcome.{Outcome}
use Rattle.smv_search.specs.declared.Outcome.TheVariants.{Closed, Reaches, OutOfNodes, OutOfSteps}
use Rattle.smv_search.specs.Answers.{found, Answers}
use Rattle.law_events.specs.Events.{IsFirstEvent}
use Rattle.law_events.specs.Events.Event.{Shut}
use Rattle.law_obligations.specs.Readings.{PosedCase, state_bits}
use Rattle.smv_problem.specs.declared.problem.Problem.{Problem}
use Rattle.smv_problem.specs.declared.report.Verdict.{Verdict}
use Rattle.smv_problem.specs.declared.report.Verdict.TheVariants.{True, False, UnknownNodes, UnknownSteps}
use Rattle.smv_problem.specs.Written.{written}
use Rattle.smv_problem.specs.WellFormed.{IsProblem, IsWellFormed, OfCases}
use Rattle.law_reports.specs.CaseLists.{case_lists, IsListsOf}
use Rattle.smv_bits.specs.declared.Bits.TheVariants.{Declared}
use Rattle.smv_decide.specs.declared.Decision.{Decision}
use Rattle.smv_decide.specs.declared.Decision.TheVariants as decided
use Rattle.smv_decide.specs.Decisions.{IsDecided}
use Rattle.smv_decide.specs.Leaves.{verdict_at}
use Rattle.smv_proof.specs.declared.proof.KeptSet.{KeptSet}
use Rattle.smv_proof.specs.Documents.{last_var}
use Rattle.smv_proof.specs.Meanings.{is_below}
use Rattle.smv_proof.specs.Kept.{kept_set}
use Rattle.law_checked_proofs.specs.Cases.{UnitCase}
use Rattle.law_checked_proofs.specs.Checked.{Meets}
use Rattle.law_checked_proofs.specs.Kept.{IsKept}
use Rattle.smv_kept_cases.specs.declared.cases.Tried.{Tried}
use Rattle.smv_kept_cases.specs.declared.cases.Tried.TheVariants as tried
use Rattle.smv_kept_cases.specs.declared.cases.Place.{Place}
use Rattle.smv_kept_cases.specs.Tried.{ServesFor, closed_in, case_at_place, IsOpen, IsSearched, StandsBy, IsTried}

-- ---- a set

pub serves_where : (c : PosedCase) (set : KeptSet) → is_below (2 * state_bits c) set ≡ true → (x : Bool) → IsTrue x ↔ Meets c set → IsTrue x ↔ ServesFor c set
serves_where c set below x iff = ((λ t. (below, iff.0 t)), λ s. iff.1 s.1)

pub serves_not : (c : PosedCase) (set : KeptSet) → is_below (2 * state_bits c) set ≡ false → IsTrue false ↔ ServesFor c set
serves_not c set above = ((λ t. absurd (cc (t))), λ s. let under = s.0 in absurd (cc (above, under)))

-- ---- the bits of a case

pub bits_are : (d : Diagram) (rel : Rel) (c : PosedCase) → IsRel d rel → IsListsOf c (lists_of d rel) → d.vars ≡ 2 * state_bits c
unfolding lists_of case_lists
bits_are d rel c ok is = ok.vars ∙ ap (λ (l : Lists). 2 * l.bits) is

-- ---- what a search closes with

-- it has few enough variables
pub few_vars : (d e : Diagram) (rel : Rel) (p : Problem) → IsProblem p → IsRel d rel → OfCases p (λ c. IsListsOf c (lists_of d rel)) → e.vars ≡ d.vars → e.vars ≤ last_var + 2
few_vars d e rel p (c, is, well) ok lists same =
    let bits = bits_are d rel c ok (lists c is well) in
    let few = well.bits in
    omega (arith, bits, few, same)

pub kept_where : (nodes images : ℕ) (d e : Diagram) (rel : Rel) (place : Place) (c : PosedCase) (root : Ref) (set : KeptSet) → IsRel d rel → IsListsOf c (lists_of d rel) → e.vars ≡ d.vars
    → (k : ℕ) × IsFirstEvent (lists_of d rel) nodes images (Shut k) × (table e root ≡ ring (lists_of d rel) k) → set ≡ kept_set e.vars place.unit.now place.number (table e root) → IsKept nodes images (case_at_place place c) set
kept_where nodes images d e rel place c root set ok lists same (k, shut, is_ring) kept = record {
  rings = k;
  is_shut = subst (λ (l : Lists). IsFirstEvent l nodes images (Shut k)) lists shut;
  is_kept = kept ∙ (ap (λ (n : ℕ). kept_set n place.unit.now place.number (table e root)) (same ∙ bits_are d rel c ok lists) ∙ ap (kept_set (2 * state_bits c) place.unit.now place.number) (is_ring ∙ ap (λ (l : Lists). ring l k) lists));
}

ref_is : {x y : Ref} → Some x ≡ Some y → x ≡ y
ref_is e = cc

pub closed_live : (d : Diagram) (o : Outcome) (closed : Option Ref) (set : Ref) → closed ≡ closed_in o → closed ≡ Some set → ((r : Ref) → IsOneOf r (found o) → IsLive d r) → IsLive d set
closed_live d (Closed s) closed set e is live = subst (IsLive d) (ref_is (sym e ∙ is)) (live s (inl refl))
closed_live d (Reaches depth rings) closed set e is live = absurd (cc (e, is))
closed_live d (OutOfNodes count) closed set e is live = absurd (cc (e, is))
closed_live d OutOfSteps closed set e is live = absurd (cc (e, is))

pub closed_shut : (d : Diagram) (l : Lists) (nodes images : ℕ) (o : Outcome) (closed : Option Ref) (set : Ref) → closed ≡ closed_in o → closed ≡ Some set → Answers d l nodes images o → (k : ℕ) × IsFirstEvent l nodes images (Shut k) × (table d set ≡ ring l k)
closed_shut d l nodes images (Closed s) closed set e is (k, shut, is_ring) = (k, shut, ap (table d) (sym (ref_is (sym e ∙ is))) ∙ is_ring)
closed_shut d l nodes images (Reaches depth rings) closed set e is answers = absurd (cc (e, is))
closed_shut d l nodes images (OutOfNodes count) closed set e is answers = absurd (cc (e, is))
closed_shut d l nodes images OutOfSteps closed set e is answers = absurd (cc (e, is))

some_is : {x y : Verdict} → Some x ≡ Some y → x ≡ y
some_is e = cc

-- what is decided of a case that is not true
pub open_where : (nodes images : ℕ) (place : Place) (c : PosedCase) (decision : Decision) (found : Option Verdict) (verdict : Verdict) → IsDecided Declared nodes images c decision → found ≡ verdict_at place.case.now decision → found ≡ Some verdict → IsOpen nodes images (case_at_place place c) verdict
open_where nodes images place c decided.True found verdict is e f = absurd (cc)
open_where nodes images place c (decided.False elements path) found verdict (k, is, shown) e f =
    subst (IsOpen nodes images (case_at_place place c)) (some_is (sym e ∙ f)) (refl, (k, is, shown))
open_where nodes images place c (decided.UnknownNodes count) found verdict is e f = subst (IsOpen nodes images (case_at_place place c)) (some_is (sym e ∙ f)) (refl, is)
open_where nodes images place c decided.UnknownSteps found verdict is e f = subst (IsOpen nodes images (case_at_place place c)) (some_is (sym e ∙ f)) (refl, is)

-- ---- the old set first

module _ (nodes images : ℕ) (place : Place) (c : PosedCase) where
  pub tried_old : (old : Option KeptSet) (set : KeptSet) → old ≡ Some set → ServesFor c set → IsTried nodes images old (case_at_place place c) (tried.True set)
  tried_old old set is serves = inl (is, serves)

  new_where : (old : Option KeptSet) → ((set : KeptSet) → old ≡ Some set → ServesFor c set → ⊥) → StandsBy nodes images old (case_at_place place c) → ⊥
  new_where old none (set, is_old, serves) = none set is_old serves

  pub tried_new : (old : Option KeptSet) → ((set : KeptSet) → old ≡ Some set → ServesFor c set → ⊥) → (done : Tried) → IsSearched nodes images (case_at_place place c) done → IsTried nodes images old (case_at_place place c) done
  tried_new old none (tried.True set) searched = inr (new_where old none, searched)
  tried_new old none (tried.Open verdict) searched = (new_where old none, searched)
