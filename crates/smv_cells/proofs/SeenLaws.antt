-- What is read at a state of the conditions is read at a later one.
use Rattle.std.proofs.Common.{ℕ, List, [], ◌∷◌, Bool, refl, ◌∙◌}
use Rattle.law_obligations.specs.Sets.{Has, first, later}
use Rattle.smv_problem.specs.declared.problem.Problem.{Problem}
use Rattle.smv_conditions.specs.Keep.{KeepsConditions}
use Rattle.smv_conditions.specs.Offers.{AreOffersMade}
use Rattle.smv_conditions.proofs.AddLaws.{offers_same, offers_kept}
use Rattle.smv_cells.specs.declared.cells.Cell.{Cell}
use Rattle.smv_cells.specs.Cells.{AreCellsMade}
use Rattle.smv_cells.specs.Seen.{View, IsSeen}

module _ {S C : Type 0} (IsMade : S → C → Type 0) (holds : S → C → (ℕ → Bool) → Bool) (room : S → ℕ) where
  pub keeps_same : (s : S) → KeepsConditions IsMade holds room s s
  keeps_same s = record { made = λ c m. m; same = λ c m a. refl; stays = refl }

  pub keeps_trans : (r s t : S) → KeepsConditions IsMade holds room r s → KeepsConditions IsMade holds room s t → KeepsConditions IsMade holds room r t
  keeps_trans r s t k l = record { made = λ c m. l.made c (k.made c m); same = λ c m a. l.same c (k.made c m) a ∙ k.same c m a; stays = l.stays ∙ k.stays }

  pub cells_kept : (s t : S) (cells : List (Cell C)) → KeepsConditions IsMade holds room s t → AreCellsMade (IsMade s) cells → AreCellsMade (IsMade t) cells
  cells_kept s t [] k m = tt
  cells_kept s t (c ∷ cs) k m = (offers_kept IsMade holds room s t c.values k m.0, cells_kept s t cs k m.1)

  cell_made : (s : S) (cells : List (Cell C)) (c : Cell C) → Has cells c → AreCellsMade (IsMade s) cells → AreOffersMade (IsMade s) c.values
  cell_made s [] c x m = elim x [ ]
  cell_made s (c ∷ cs) d first m = m.0
  cell_made s (c ∷ cs) d (later there) m = cell_made s cs d there m.1

  pub seen_on : (s t : S) (problem : Problem) (cells : List (Cell C)) (v : View) → KeepsConditions IsMade holds room s t → AreCellsMade (IsMade s) cells → IsSeen holds s problem cells v → IsSeen holds t problem cells v
  seen_on s t problem cells v k m h = record {
    view = h.view;
    world = h.world;
    values = λ a p c there. offers_same v.world.classes IsMade holds room a p s t c.values k (cell_made s cells c there m) ∙ h.values a p c there;
    kept = h.kept;
  }
