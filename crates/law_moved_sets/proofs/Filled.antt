-- Over an arrangement without idle elements a set that is inductive for the case is inductive, where each assignment of places stands for one of the bits.
use Rattle.std.proofs.Common.{◌≡◌, ℕ, List, [], ◌++◌, Bool, true, refl, sym, ap, ◌∙◌, inl, inr, Option, Some, None}
use Rattle.std.specs.List.{list_any}
use Rattle.std.proofs.lemmas.Bool.{cases_Bool}
use Rattle.bdd_ops.specs.Functions.{Function}
use Rattle.smv_rings.specs.Lists.{State, at}
use Rattle.smv_rings.specs.Paths.{IsInductive}
use Rattle.law_obligations.specs.Sets.{Has}
use Rattle.law_obligations.specs.May.{AbsState}
use Rattle.law_obligations.specs.Obligations.{Demanded, is_met, obligation}
use Rattle.law_obligations.specs.Cones.{AbsElement}
use Rattle.law_obligations.specs.Bits.{Bits}
use Rattle.law_obligations.specs.Readings.{PosedCase, IsCase, are_values, reading}
use Rattle.law_obligations.specs.CasePaths.{IsInvariant}
use Rattle.law_obligations.proofs.Lookups.{Has-filter}
use Rattle.law_obligations.proofs.Members.{any-some, all-each, all-holds}
use Rattle.law_reports.specs.CaseLists.{defines}
use Rattle.law_arrangements.specs.Arrangements.{Arrangement, IsArrangement, view}
use Rattle.law_arrangements.specs.ArrangedLists.{lists_over}
use Rattle.law_arrangements.specs.Orders.{wired}
use Rattle.law_arrangements.proofs.Views.{none_both}
use Rattle.law_arrangements.proofs.Meets.{IsOther, HaveValues, first_to, first_values, before_first_to, broken_first_is, step_to, step_values, before_step_to, broken_step_is}
use Rattle.law_arrangements.proofs.Paths.{det_met}

module _ (c : PosedCase) (is : IsCase c) (order : List ℕ) (done : List AbsElement) (ok : IsArrangement c (wired order done)) where
  abbrev pub over : Arrangement
  over = wired order done

  abbrev pub now_met : Option AbsState → AbsState → Bool
  now_met old now = (obligation c.problem).now old now

  abbrev pub before_met : Option AbsState → AbsState → Bool
  before_met old now = (obligation c.problem).before old now

  abbrev pub broken_at : Option AbsState → AbsState → Bool
  broken_at old now = (obligation c.problem).broken old now

  -- all demands of now are met where those are that define no element that is worked out
  now_seen : (old : Option AbsState) (s : State) → ((d : Demanded) → Has c.problem.now d → IsOther (done ++ []) d → is_met c.problem old (view c over s) d ≡ true) → now_met old (view c over s) ≡ true
  now_seen old s listed = all-holds (is_met c.problem old (view c over s)) c.problem.now (λ d h. elim (cases_Bool (list_any (λ x. defines x d) done)) [
    | inl e ↦ let r = any-some (λ x. defines x d) done e in all-each (is_met c.problem old (view c over s)) (det_met c is over ok old s r.0 r.1) (Has-filter (defines r.0) h r.2)
    | inr e ↦ listed d h (none_both (λ x. defines x d) done [] e refl)
  ])

  before_seen : (old : Option AbsState) (s : State) → ((d : Demanded) → Has c.problem.before d → IsOther [] d → is_met c.problem old (view c over s) d ≡ true) → before_met old (view c over s) ≡ true
  before_seen old s listed = all-holds (is_met c.problem old (view c over s)) c.problem.before (λ d h. listed d h refl)

  -- the assignment of bits that one of places stands for
  pub record IsFill (fill : Bits → Bits) : Type 0 where
    pub reads : (s : State) → reading c (fill s) ≡ view c over s
    pub values : (s : State) → HaveValues c is over s → are_values c (fill s) ≡ true

  module _ (fill : Bits → Bits) (f : IsFill fill) where
    first_as : (p : Option AbsState → AbsState → Bool) (s : State) → p None (reading c (fill s)) ≡ p None (view c over s)
    first_as p s = ap (p None) (f.reads s)

    step_as : (p : Option AbsState → AbsState → Bool) (r s : State) → p (Some (reading c (fill r))) (reading c (fill s)) ≡ p (Some (view c over r)) (view c over s)
    step_as p r s = ap (λ (a : AbsState). p (Some a) (reading c (fill s))) (f.reads r) ∙ ap (p (Some (view c over r))) (f.reads s)

    pub inductive_over : (set seen : Function) → ((s : State) → seen (at s) ≡ set (at (fill s))) → IsInvariant c (λ t. set (at t)) → IsInductive (lists_over c over) seen
    inductive_over set seen same i = record {
      starts = λ s h. same s ∙ i.starts (fill s) (f.values s (first_values c is over s h.0))
          (first_as now_met s ∙ now_seen None s (first_to c is over s h.0))
          (first_as before_met s ∙ before_seen None s (before_first_to c is over s h.1));
      closed = λ r s h steps. same s ∙ i.closed (fill r) (fill s) (sym (same r) ∙ h) (f.values s (step_values c is over r s steps.0))
          (step_as now_met r s ∙ now_seen (Some (view c over r)) s (step_to c is over r s steps.0))
          (step_as before_met r s ∙ before_seen (Some (view c over r)) s (before_step_to c is over r s steps.1));
      safe_first = λ s h broken. i.safe_first (fill s) (f.values s (first_values c is over s h))
          (first_as now_met s ∙ now_seen None s (first_to c is over s h))
          (first_as broken_at s ∙ (sym (broken_first_is c is over s) ∙ broken));
      safe_step = λ r s h step broken. i.safe_step (fill r) (fill s) (sym (same r) ∙ h) (f.values s (step_values c is over r s step))
          (step_as now_met r s ∙ now_seen (Some (view c over r)) s (step_to c is over r s step))
          (step_as broken_at r s ∙ (sym (broken_step_is c is over r s) ∙ broken));
    }
