-- Designs that say the same, claims aside.
use Rattle.std.specs.Prelude.{◌≡◌, List, None, All}
use Rattle.std.specs.List.{AllZip}
use Rattle.smv_core.specs.Values.{Path, Value, Sizes}
use Rattle.smv_core.specs.FlatOrder.{TextDesign, Met, said, claimed, Said, Claimed}
use Rattle.smv_core.specs.Outcome.{State, Scene, Bindings}
use Rattle.smv_core.specs.Walk.{Element, walk}
use Rattle.smv_core.specs.Assignments.{Around, assignments}
use Rattle.smv_core.specs.Sound.{ProofUnit, claim_of, AtEachTime, Holds, instances, units}
use Rattle.smv_core.specs.declared.tree.Kind.{Kind}
use Rattle.smv_core.specs.declared.tree.Stmt.{Stmt}

-- two statements give each element the same, and have the same assignments
pub record IsLikeAct (act other : Stmt) : Type 0 where
  pub walks : (scene : Scene) (s : State) (kind : Kind) (x : Element) (every : List Value) (b : Bindings) → walk scene s kind x every act b ≡ walk scene s kind x every other b
  pub assigns : (instance : Path) (around : Around) → assignments instance act around ≡ assignments instance other around

-- two statements of one layer and one instance
pub record IsLikeSaid (x y : Said) : Type 0 where
  pub layer : x.layer ≡ y.layer
  pub instance : x.instance ≡ y.instance
  pub act : IsLikeAct x.act y.act

-- statements that are alike, and claims that are so related
abbrev pub IsLikeMet : (Claimed → Claimed → Type 0) → Met → Met → Type 0
IsLikeMet C (said x) (said y) = IsLikeSaid x y
IsLikeMet C (claimed c) (claimed d) = C c d
IsLikeMet C _ _ = ⊥

-- the same types and families, and in flat order the same but for claims, which are so related
pub record IsLike (C : Claimed → Claimed → Type 0) (d e : TextDesign) : Type 0 where
  pub types : d.types ≡ e.types
  pub families : d.families ≡ e.families
  pub met : AllZip (IsLikeMet C) d.met e.met

-- each instance of the unit holds at each time of the run
abbrev pub AlwaysHolds : TextDesign → Sizes → List State → ProofUnit → Type 0
AlwaysHolds d sizes run unit = All (λ vs. AtEachTime (Holds d sizes unit vs) None run) (instances d sizes unit)

-- every unit does
abbrev pub AllHold : TextDesign → Sizes → List State → Type 0
AllHold d sizes run = All (AlwaysHolds d sizes run) (units d)

-- claims of a design with these types and families whose related claims hold, hold
abbrev pub AreCarried : (Claimed → Claimed → Type 0) → TextDesign → Sizes → List State → Type 0
AreCarried C d sizes run = (c other : Claimed) → C c other → AlwaysHolds d sizes run (claim_of other) → AlwaysHolds d sizes run (claim_of c)
