-- Demands and targets of a case in states that are given as data.
use Rattle.std.proofs.Common.{◌≡◌, List, Bool, refl, sym, ap, subst, ◌∙◌, Option, Some, None}
use Rattle.law_lists.proofs.Options.{some_is}
use Rattle.law_obligations.specs.May.{AbsState}
use Rattle.law_obligations.specs.Pictures.{IsAbsState}
use Rattle.law_obligations.specs.Obligations.{Demanded, defined, holds, is_met, obligation}
use Rattle.law_obligations.specs.Obligations as oblig
use Rattle.law_obligations.specs.Readings.{PosedCase}
use Rattle.smv_problem.specs.declared.problem.Problem.{Problem}
use Rattle.smv_problem.specs.declared.problem.Demand.{Demand}
use Rattle.smv_problem.specs.declared.problem.AbsState.{AbsState as StateData}
use Rattle.smv_problem.specs.Written.{written, written_demand, written_state, written_before}
use Rattle.smv_problem.specs.WellFormed.{IsWellFormed, IsBefore, IsFit, OfStates, OfCases}
use Rattle.smv_conditions.specs.declared.stores.Plain.{Plain}
use Rattle.smv_cells.specs.declared.cells.Cell.{Cell}
use Rattle.smv_cells.specs.Seen.{IsSeen}
use Rattle.smv_walks.specs.Demands.{IsDemand}
use Rattle.smv_eval.specs.States.{plainly, view_of}
use Rattle.smv_eval.specs.Held.{AreReadBy, IsKept}
use Rattle.smv_eval.proofs.HeldLaws.{types_of, are_read, is_before_by}

-- nothing is there
pub none_of : {X : Type 0} (o : Option X) → ((x : X) → o ≡ Some x → ⊥) → o ≡ None
none_of None h = refl
none_of (Some x) h = absurd (h x refl)

abbrev pub AreCellsOf : Problem → StateData → List (Cell Bool) → Type 0
AreCellsOf p state cells = OfStates p state (λ c a. (s : Plain) → IsSeen plainly s p cells (view_of c a))

-- what cells read of states that are written so, at time 0 and later
pub read_first : (p : Problem) (new : StateData) (cells : List (Cell Bool)) → AreCellsOf p new cells → (c : PosedCase) → p ≡ written c → IsWellFormed c → (a : AbsState) → IsAbsState c.problem.world c.problem.kept a → new ≡ written_state c a →
    (before : Option AbsState) → None ≡ written_before c before → (before ≡ None) × AreReadBy p None cells c.problem None a
read_first p new cells seen c is well a abs same None e = (refl, are_read c well p None cells None a (λ s. tt) abs (seen c is well a abs same))
read_first p new cells seen c is well a abs same (Some b) e = absurd (cc)

pub read_later : (p : Problem) (old new : StateData) (olds cells : List (Cell Bool)) → AreCellsOf p old olds → AreCellsOf p new cells → (c : PosedCase) → p ≡ written c → IsWellFormed c → (a : AbsState) → IsAbsState c.problem.world c.problem.kept a → new ≡ written_state c a →
    (before : Option AbsState) → IsBefore c before → Some old ≡ written_before c before → AreReadBy p (Some olds) cells c.problem before a
read_later p old new olds cells seen_old seen c is well a abs same None abs_before e = absurd (cc)
read_later p old new olds cells seen_old seen c is well a abs same (Some b) abs_before e =
    are_read c well p (Some olds) cells (Some b) a (is_before_by c well p olds b abs_before (seen_old c is well b abs_before (some_is e))) abs (seen c is well a abs same)

pub fit_kept : (c : PosedCase) (well : IsWellFormed c) (d : Demanded) → IsFit c d → IsKept c.problem d → IsDemand c.problem d
fit_kept c well (defined def indexes) fit k = (k, types_of c well def.family, fit.3)
fit_kept c well (holds body b) fit k = (well.set_types, fit.0, fit.2.are_of)

abbrev IsMetBy : Problem → Option (List (Cell Bool)) → List (Cell Bool) → Demand → Bool → Type 0
IsMetBy problem old cells demand met = (p : oblig.AbstractProblem) (before : Option AbsState) (now : AbsState) → AreReadBy problem old cells p before now → (d : Demanded) → IsDemand p d → demand ≡ written_demand p.world.classes d → met ≡ is_met p before now d

abbrev IsMet : Problem → Option StateData → StateData → Demand → Bool → Type 0
IsMet p old new demand met = OfStates p new (λ c a. (before : Option AbsState) (d : Demanded) → IsBefore c before → old ≡ written_before c before → demand ≡ written_demand c.problem.world.classes d → IsFit c d → IsKept c.problem d → met ≡ is_met c.problem before a d)

pub met_first : (p : Problem) (old : Option StateData) (new : StateData) (cells sliced : List (Cell Bool)) (demand : Demand) (met : Bool) → old ≡ None → AreCellsOf p new cells → sliced ≡ cells → IsMetBy p None sliced demand met → IsMet p old new demand met
met_first p old new cells sliced demand met none seen slice is_met_by c is well a abs same before d abs_before e w fit k =
    let r = read_first p new sliced (subst (AreCellsOf p new) (sym slice) seen) c is well a abs same before (sym none ∙ e) in
    is_met_by c.problem None a r.1 d (fit_kept c well d fit k) w ∙ sym (ap (λ b. is_met c.problem b a d) r.0)

pub met_later : (p : Problem) (old : Option StateData) (last new : StateData) (olds olds' cells sliced : List (Cell Bool)) (demand : Demand) (met : Bool) → old ≡ Some last → AreCellsOf p last olds → olds' ≡ olds → AreCellsOf p new cells → sliced ≡ cells →
    IsMetBy p (Some olds') sliced demand met → IsMet p old new demand met
met_later p old last new olds olds' cells sliced demand met some seen_old slice_old seen slice is_met_by c is well a abs same before d abs_before e w fit k =
    is_met_by c.problem before a (read_later p last new olds' sliced (subst (AreCellsOf p last) (sym slice_old) seen_old) (subst (AreCellsOf p new) (sym slice) seen) c is well a abs same before abs_before (sym some ∙ e)) d (fit_kept c well d fit k) w

abbrev IsBrokenBy : Problem → Option (List (Cell Bool)) → List (Cell Bool) → Bool → Type 0
IsBrokenBy problem old cells broken = OfCases problem (λ c. (before : Option AbsState) (now : AbsState) → AreReadBy problem old cells c.problem before now → broken ≡ (obligation c.problem).broken before now)

abbrev IsBroken : Problem → Option StateData → StateData → Bool → Type 0
IsBroken p old new broken = OfStates p new (λ c a. (before : Option AbsState) → IsBefore c before → old ≡ written_before c before → broken ≡ (obligation c.problem).broken before a)

pub broken_first : (p : Problem) (old : Option StateData) (new : StateData) (cells sliced : List (Cell Bool)) (broken : Bool) → old ≡ None → AreCellsOf p new cells → sliced ≡ cells → IsBrokenBy p None sliced broken → IsBroken p old new broken
broken_first p old new cells sliced broken none seen slice is_broken_by c is well a abs same before abs_before e =
    let r = read_first p new sliced (subst (AreCellsOf p new) (sym slice) seen) c is well a abs same before (sym none ∙ e) in
    is_broken_by c is well None a r.1 ∙ sym (ap (λ b. (obligation c.problem).broken b a) r.0)

pub broken_later : (p : Problem) (old : Option StateData) (last new : StateData) (olds olds' cells sliced : List (Cell Bool)) (broken : Bool) → old ≡ Some last → AreCellsOf p last olds → olds' ≡ olds → AreCellsOf p new cells → sliced ≡ cells →
    IsBrokenBy p (Some olds') sliced broken → IsBroken p old new broken
broken_later p old last new olds olds' cells sliced broken some seen_old slice_old seen slice is_broken_by c is well a abs same before abs_before e =
    is_broken_by c is well before a (read_later p last new olds' sliced (subst (AreCellsOf p last) (sym slice_old) seen_old) (subst (AreCellsOf p new) (sym slice) seen) c is well a abs same before abs_before (sym some ∙ e))
