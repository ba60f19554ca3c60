-- By computing the base definitions of the worked text, and what they allow.
use Rattle.std.proofs.Common.{zero, suc, List, [], ◌∷◌, Option, Some, None, All, Contains, refl, arith}
use Rattle.law_lists.proofs.Each.{all_one}
use Rattle.smv_core.specs.FlatOrder.{design_of}
use Rattle.smv_core.specs.Values.{Value, Sizes, number, values_of}
use Rattle.smv_core.specs.Types.{Family}
use Rattle.smv_core.specs.Outcome.{State}
use Rattle.smv_core.specs.Allowed.{allowed_by_base}
use Rattle.smv_core.specs.Sound.{indexes_in, EachElement, IsTyped, MeetsBase}
use Rattle.law_sound_texts.specs.WorkedText.{two_layers, the_signal, all_of, TakesTheFirst, RunsAreOfTheFirst}

-- what it computes with
unfoldable computing : Unit {0}
unfolding Rattle.smv_core.specs.declared.tree.Expr.TheBlock.hidden-the_row-Part-0 Rattle.smv_core.specs.declared.tree.Expr.TheBlock.shape-the_row-Part-0 Rattle.smv_core.specs.declared.tree.Stmt.TheBlock.hidden-the_row-Stmt-0 Rattle.smv_core.specs.declared.tree.Stmt.TheBlock.shape-the_row-Stmt-0 Rattle.smv_core.specs.declared.tree.Item.TheBlock.hidden-the_row-Item-0 Rattle.smv_core.specs.declared.tree.Item.TheBlock.shape-the_row-Item-0 Rattle.smv_core.specs.declared.flat.FlatStmt.TheBlock.hidden-the_row-FlatStmt-0 Rattle.smv_core.specs.declared.flat.FlatStmt.TheBlock.shape-the_row-FlatStmt-0 Rattle.smv_core.specs.declared.flat.DefBody.TheBlock.hidden-the_row-DefBody-0 Rattle.smv_core.specs.declared.flat.DefBody.TheBlock.shape-the_row-DefBody-0 denote.Hole.Carrier.hidden
computing = tt

pub takes_the_first : TakesTheFirst
unfolding computing
takes_the_first = (refl, refl, refl, refl)

all-two : {X : Type 0} (P : X → Type 0) (x y : X) → P x → P y → All P (x ∷ y ∷ [])
all-two P x y h j zero d l = h
all-two P x y h j (suc zero) d l = j
all-two P x y h j (suc (suc k)) d l = absurd (omega (arith, l))

module _ (sizes : Sizes) where
  each : (P : Family → List Value → Type 0) → P the_signal [] → EachElement (design_of two_layers) sizes P
  unfolding computing
  each P h = all_one (λ f. All (P f) (indexes_in sizes f)) the_signal (all_one (P the_signal) [] h)

  typed : IsTyped (design_of two_layers) sizes (all_of 1)
  unfolding computing
  typed = each (λ f vs. Contains (values_of sizes f.value) (all_of 1 f.path vs)) (1, omega arith, refl)

  meets : (before : Option State) → MeetsBase (design_of two_layers) sizes before (all_of 1)
  unfolding computing
  meets before = each (λ f vs. Contains (allowed_by_base (design_of two_layers) sizes f (record { path = f.path; indexes = vs }) before (all_of 1)) (all_of 1 f.path vs)) (0, omega arith, refl)

  only_one : Contains (number 1 ∷ []) (number 0) → ⊥
  only_one (zero, l, e) = cc
  only_one (suc k, l, e) = omega (arith, l)

pub runs_are_of_the_first : RunsAreOfTheFirst
unfolding computing
runs_are_of_the_first sizes = (
  (all-two (IsTyped (design_of two_layers) sizes) (all_of 1) (all_of 1) (typed sizes) (typed sizes), (meets sizes None, (meets sizes (Some (all_of 1)), tt))),
  λ run. only_one sizes (run.1.1.0 0 the_signal (omega arith) 0 [] (omega arith)),
)
