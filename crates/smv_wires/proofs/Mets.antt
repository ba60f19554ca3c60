-- What a call of a demand says where the elements with cells are kept.
use Rattle.std.proofs.Common.{◌≡◌, ℕ, List, [], ◌∷◌, Bool, true, refl, sym, ap, subst, ◌∙◌, Option, None, Result, Ok, Err, IfOk}
use Rattle.law_lists.proofs.Booleans.{clash}
use Rattle.law_obligations.specs.Sets.{first}
use Rattle.law_obligations.specs.May.{AbsState, Kept}
use Rattle.law_obligations.specs.Obligations.{AbstractProblem, Demanded, defined, holds, is_met}
use Rattle.law_obligations.specs.Cones.{AbsElement, element}
use Rattle.law_obligations.specs.Readings.{PosedCase}
use Rattle.law_obligations.proofs.ConeFacts.{same_element-family, same_element-indexes}
use Rattle.law_reports.specs.CaseLists.{defines}
use Rattle.law_wires.specs.Tries.{keeping}
use Rattle.bdd_store.specs.declared.Ref.{Ref}
use Rattle.bdd_store.specs.Diagram.{Diagram, IsLive, Keeps, table}
use Rattle.smv_problem.specs.declared.problem.Demand.{Demand}
use Rattle.smv_problem.specs.declared.problem.Problem.{Problem}
use Rattle.smv_problem.specs.WellFormed.{IsWellFormed, IsFit, OfCases}
use Rattle.smv_cells.specs.declared.cells.Cell.{Cell}
use Rattle.smv_cells.specs.Cells.{AreCellsMade}
use Rattle.smv_walks.specs.Demands.{view_of, AreRead, IsDemand, IsDemanded}
use Rattle.smv_encode.specs.Encoded.{IsKept}
use Rattle.smv_encode.specs.Parts.{AreDemands}
use Rattle.smv_encode.proofs.Adds.{one_demand}
use Rattle.smv_encode.proofs.Calls.{list_seen}
use Rattle.smv_encode.proofs.ReadCases.{is_demand}

-- a demand of the element, which has a cell
demand_with : (c : PosedCase) → IsWellFormed c → (x : AbsElement) (kept : Kept) → kept x.family x.indexes ≡ true → (y : Demanded) → IsFit c y → IsKept c y → defines x y ≡ true → IsDemand (keeping c kept) y
demand_with c well x kept has (defined def indexes) fit k own =
    let whole = is_demand c well (defined def indexes) fit k in
    let family = same_element-family x (element def.family indexes) own in
    let places = same_element-indexes x (element def.family indexes) own in
    (ap (λ (n : ℕ). kept n indexes) (sym family) ∙ (ap (kept x.family) (sym places) ∙ has), whole.1, whole.2)
demand_with c well x kept has (holds body b) fit k own = absurd (clash own refl)

pub one_means : {E : Type 0} (d e : Diagram) (p : Problem) (demand : Demand) (cells now : List (Cell Ref)) (old : Option (List (Cell Ref))) → now ≡ cells → old ≡ None → (r : Result Ref E) → IfOk r (λ r. IsDemanded IsDemand table d e p old now demand (λ p before now d. is_met p before now d) r)
    → IfOk r (λ r. OfCases p (λ c. (x : AbsElement) (kept : Kept) (state : (ℕ → Bool) → AbsState) → kept x.family x.indexes ≡ true → AreRead table d p None cells (keeping c kept) None state → (y : Demanded) → AreDemands c (y ∷ []) (demand ∷ []) → defines x y ≡ true → (a : ℕ → Bool) → table e r a ≡ is_met (keeping c kept) None (state a) y))
unfolding IsDemanded
one_means d e p demand cells now old same none (Ok r) says = λ c is well x kept state has read y h own a.
    says (keeping c kept) None state
    (subst (λ (o : Option (List (Cell Ref))). AreRead table d p o now (keeping c kept) None state) (sym none) (subst (λ (cs : List (Cell Ref)). AreRead table d p None cs (keeping c kept) None state) (sym same) read))
    y (demand_with c well x kept has y (h.fit y first) (h.kept y first) own) (one_demand c y demand h) a
one_means d e p demand cells now old same none (Err x) says = tt

-- cells that are read are read later
pub read_on : (d e : Diagram) (p : Problem) (cells : List (Cell Ref)) (q : AbstractProblem) (state : (ℕ → Bool) → AbsState) → Keeps d e → AreCellsMade (IsLive d) cells → AreRead table d p None cells q None state → AreRead table e p None cells q None state
read_on d e p cells q state k live read = record { now = list_seen d e p cells (view_of q state) k live read.now; values = read.values; before = tt }
