-- How a worked text is stated: its bytes, and its first fault of splits, its leaves, or the guards that hold in a state; and short words for these.
use Rattle.std.specs.Prelude.{ℕ, List, ◌≡◌, map, get_or, Option, Some, None, option_map, Bool, codes}
use Rattle.smv_core.specs.Values.{Name, Value, number, scalar}
use Rattle.smv_core.specs.FlatMeaning.{FlatState}
use Rattle.smv_core.specs.declared.flat.FlatText.{FlatText}
use Rattle.smv_core.specs.declared.flat.Simple.{Simple}
use Rattle.smv_core.specs.declared.flat.Simple.TheVariants.{Range, Set}
use Rattle.smv_core.specs.declared.flat.Design.{Design}
use Rattle.smv_core.specs.declared.flat.Guard.{Guard}
use Rattle.smv_core.specs.declared.flat.Leaf.{Leaf}
use Rattle.smv_core.specs.declared.flat.FlatExpr.{FlatExpr}
use Rattle.worked_texts.specs.Worked.{Answer, unread, answer_of}
use Rattle.worked_texts.specs.FlatteningWorked.{flattened}
use Rattle.law_designs.specs.Definitions.{design_of_flat_text}
use Rattle.law_obligations.specs.Guards.{guard_holds}
use Rattle.law_obligations.specs.Soundness.{at_sizes}
use Rattle.law_obligations.specs.Outlines.{names_of}
use Rattle.law_splits.specs.Leaves.{leaves_of}
use Rattle.law_splits.specs.SplitFaults.{first_fault_of_splits}

-- ---- faults

abbrev of_flattened : Option FlatText → Answer
of_flattened None = unread
of_flattened (Some flat_text) = answer_of (first_fault_of_splits (design_of_flat_text flat_text))

-- the first fault of splits in these bytes, where their names and size have none
abbrev pub found_in : List ℕ → Answer
found_in text = of_flattened (flattened text)

-- each text has the answer that was worked out for it
abbrev pub AreFound : List (List ℕ × Answer) → Type 0
AreFound rows = map (λ (text, answer). found_in text) rows ≡ map (λ (text, answer). answer) rows

-- ---- leaves

-- a leaf as it is told: its name, the types of its parameters, and the expression of each guard with the number of its parameter
abbrev pub Told : Type 0
Told = Name × List Simple × List (ℕ × FlatExpr)

abbrev told : Leaf → Told
told leaf = (leaf.name, map (λ p. p.over) leaf.params, map (λ (g : Guard). (g.var, g.expr)) leaf.guards)

abbrev pub leaves_in : List ℕ → Option (List Told)
leaves_in text = option_map (λ flat_text. map told (leaves_of (design_of_flat_text flat_text))) (flattened text)

-- each text has the leaves that were worked out for it
abbrev pub HaveLeaves : List (List ℕ × List Told) → Type 0
HaveLeaves rows = map (λ (text, leaves). leaves_in text) rows ≡ map (λ (text, leaves). Some leaves) rows

-- ---- guards

-- a state of families without indexes, by their numbers
abbrev state_of : List Value → FlatState
state_of values family indexes = get_or values family (number 0)

-- which guards of each leaf hold in a state, at values of the leaf's parameters, where each set type has three values
abbrev hold : Design → List Value → List Value → Leaf → List Bool
hold d state values leaf = map (λ (g : Guard). guard_holds (at_sizes (names_of d) (λ name. 3)) (state_of state) g.over g.expr values (get_or values g.var (number 0))) leaf.guards

abbrev pub hold_in : List ℕ → List Value → List Value → Option (List (List Bool))
hold_in text state values = option_map (λ flat_text. map (hold (design_of_flat_text flat_text) state values) (leaves_of (design_of_flat_text flat_text))) (flattened text)

-- in each text, state and values those guards hold for which it was worked out
abbrev pub AreHeld : List (List ℕ × List Value × List Value × List (List Bool)) → Type 0
AreHeld rows = map (λ (text, state, values, guards). hold_in text state values) rows ≡ map (λ (text, state, values, guards). Some guards) rows

-- ---- short words

-- the numbers of one bit, and the first set type
abbrev pub bit : Simple
bit = Range 0 1

abbrev pub P : Simple
P = Set 0

-- a value of P
abbrev pub value : ℕ → Value
value k = scalar (codes "P") k
