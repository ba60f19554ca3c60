-- What stays as it is where the values of scalarsets are exchanged throughout.
use Rattle.std.specs.Prelude.{ℕ, List, [], map, Option, Some, None, Contains}
use Rattle.smv_core.specs.Values.{Name, Value, Sizes}
use Rattle.smv_core.specs.Types.{Family}
use Rattle.smv_core.specs.FlatOrder.{TextDesign, Said, Claimed}
use Rattle.smv_core.specs.Outcome.{State}
use Rattle.smv_core.specs.Walk.{Element}
use Rattle.smv_core.specs.Allowed.{allowed, assignments_in, definition_set}
use Rattle.smv_core.specs.Conflicts.{HasNoConflict, HasVariables, AreWhole}
use Rattle.smv_core.specs.Sound.{Holds, map_of, claim_of}
use Rattle.smv_core.specs.declared.tree.Kind.{Kind}
use Rattle.law_meaning.specs.Exchange.{Exchanges, exchanged, exchanged_element, AreExchangedStates, AreExchangedValues}

-- the states before, if there are any, are exchanged
abbrev pub AreExchangedBefore : (Name → ℕ → ℕ) → Option State → Option State → Type 0
AreExchangedBefore f None None = Unit {0}
AreExchangedBefore f (Some s) (Some t) = AreExchangedStates f s t
AreExchangedBefore f _ _ = ⊥

-- no assignments in a statement of this definition set conflict, each left side has its `forall` variables, and none has more indexes than the element
pub record IsPlain (d : TextDesign) (layer : Option Name) (x : Element) : Type 0 where
  pub conflicts : (act : Said) → Contains (definition_set d layer) act → HasNoConflict act.instance act.act []
  pub variables : (act : Said) → Contains (definition_set d layer) act → HasVariables act.act []
  pub whole : (kind : Kind) (act : Said) → Contains (definition_set d layer) act → AreWhole kind x (assignments_in act)

-- what a definition allows the exchanged element in the exchanged states are the exchanged values
abbrev pub DefinitionsAreExchanged : Type 0
DefinitionsAreExchanged =
    (d : TextDesign) (sizes : Sizes) (f g : Name → ℕ → ℕ) → Exchanges sizes f g → (layer : Option Name) (x : Element) → IsPlain d layer x →
    (before there : Option State) → AreExchangedBefore f before there → (now then' : State) → AreExchangedStates f now then' →
    AreExchangedValues f (allowed d sizes layer x before now) (allowed d sizes layer (exchanged_element f x) there then')

-- a claim's instance holds where the exchanged instance does
abbrev pub ClaimsAreExchanged : Type 0
ClaimsAreExchanged =
    (d : TextDesign) (sizes : Sizes) (f g : Name → ℕ → ℕ) → Exchanges sizes f g → (c : Claimed) (vs : List Value) →
    (before there : Option State) (now then' : State) → AreExchangedStates f now then' →
    Holds d sizes (claim_of c) vs before now → Holds d sizes (claim_of c) (map (exchanged f) vs) there then'

-- and so it is for a map's
abbrev pub MapsAreExchanged : Type 0
MapsAreExchanged =
    (d : TextDesign) (sizes : Sizes) (f g : Name → ℕ → ℕ) → Exchanges sizes f g → (layer : Name) (family : Family) (vs : List Value) →
    IsPlain d (Some layer) (record { path = family.path; indexes = vs }) →
    (before there : Option State) → AreExchangedBefore f before there → (now then' : State) → AreExchangedStates f now then' →
    Holds d sizes (map_of layer family) vs before now → Holds d sizes (map_of layer family) (map (exchanged f) vs) there then'
