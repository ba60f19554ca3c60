-- The values that are sure in states that are given as data.
use Rattle.std.proofs.Common.{◌≡◌, List, Bool, ap, sym, subst, ◌∙◌, Option, Some, None}
use Rattle.smv_core.specs.declared.flat.Def.{Def}
use Rattle.law_obligations.specs.May.{AbsState}
use Rattle.law_obligations.specs.Places.{Place}
use Rattle.law_obligations.specs.Obligations.{defined}
use Rattle.smv_problem.specs.declared.problem.AbsValue.{AbsValue}
use Rattle.smv_problem.specs.declared.problem.Problem.{Problem}
use Rattle.smv_problem.specs.declared.problem.Demand.{Demand}
use Rattle.smv_problem.specs.declared.problem.AbsState.{AbsState as StateData}
use Rattle.smv_problem.specs.Written.{written_demand, written_before}
use Rattle.smv_problem.specs.WellFormed.{IsBefore, IsFit, OfStates}
use Rattle.smv_cells.specs.declared.cells.Cell.{Cell}
use Rattle.smv_eval.specs.Held.{IsKept}
use Rattle.smv_eval.proofs.StateHeld.{AreCellsOf, read_first, read_later}
use Rattle.smv_eval.specs.Sure.{sure_values}
use Rattle.smv_eval.proofs.SureLaws.{AreSureBy}

abbrev AreSureIn : Problem → Option StateData → StateData → Demand → List AbsValue → Type 0
AreSureIn p old new demand values = OfStates p new (λ c a. (before : Option AbsState) (def : Def) (indexes : List Place) → IsBefore c before → old ≡ written_before c before → demand ≡ written_demand c.problem.world.classes (defined def indexes) → IsFit c (defined def indexes) → IsKept c.problem (defined def indexes) →
    values ≡ sure_values c.problem def indexes before a)

pub sure_first : (p : Problem) (old : Option StateData) (new : StateData) (cells sliced : List (Cell Bool)) (demand : Demand) (values : List AbsValue) → old ≡ None → AreCellsOf p new cells → sliced ≡ cells → AreSureBy p None sliced demand values → AreSureIn p old new demand values
sure_first p old new cells sliced demand values none seen slice are c is well a abs same before def indexes abs_before e w fit kept =
    let r = read_first p new sliced (subst (AreCellsOf p new) (sym slice) seen) c is well a abs same before (sym none ∙ e) in
    are c is well None a r.1 def indexes w fit kept ∙ sym (ap (λ b. sure_values c.problem def indexes b a) r.0)

pub sure_later : (p : Problem) (old : Option StateData) (last new : StateData) (olds olds' cells sliced : List (Cell Bool)) (demand : Demand) (values : List AbsValue) → old ≡ Some last → AreCellsOf p last olds → olds' ≡ olds → AreCellsOf p new cells → sliced ≡ cells →
    AreSureBy p (Some olds') sliced demand values → AreSureIn p old new demand values
sure_later p old last new olds olds' cells sliced demand values some seen_old slice_old seen slice are c is well a abs same before def indexes abs_before e w fit kept =
    are c is well before a (read_later p last new olds' sliced (subst (AreCellsOf p last) (sym slice_old) seen_old) (subst (AreCellsOf p new) (sym slice) seen) c is well a abs same before abs_before (sym some ∙ e)) def indexes w fit kept
