-- The laws: what the crate's public functions say.
use Rattle.std.specs.Prelude.{◌≡◌, ◌<◌, ℕ, List, length, Bool, true}
use Rattle.smv_core.specs.declared.flat.Timing.TheVariants.{Now}
use Rattle.smv_core.specs.declared.flat.Class.{Class}
use Rattle.smv_core.specs.declared.flat.Design.{Design}
use Rattle.smv_core.specs.declared.flat.Unit.{Unit}
use Rattle.smv_core.specs.declared.flat.Leaf.{Leaf}
use Rattle.smv_core.specs.declared.flat.Choice.{Choice}
use Rattle.law_obligations.specs.Sets.{Has}
use Rattle.law_obligations.specs.Places.{Place, World}
use Rattle.law_obligations.specs.LeafCases.{leaf_cases}
use Rattle.law_obligations.specs.Soundness.{IsPlan}
use Rattle.law_obligations.specs.Reached.{reached, IsLeast}
use Rattle.law_obligations.specs.Outlines.{Entry, Outline, Script, outline_of, unit_in}
use Rattle.law_obligations.specs.Units.{units_of, script_of}
use Rattle.law_obligations.specs.Times.{first_families, next_families, same_time}
use Rattle.law_obligations.specs.Cones.{first_elements, next_elements, cone}
use Rattle.law_obligations.specs.Problems.{world_of, params_at, uses_at, plan_of}
use Rattle.law_obligations.specs.Checked.{IsChecked, IsProved, HoldsAlways, IsSoundScript}

-- what is reached is the least set, where some list has all that may be reached
abbrev pub ReachedIsLeast : Type 0 → Type 0
ReachedIsLeast X =
    (same : X → X → Bool) → ((x y : X) → same x y ≡ true → x ≡ y) → ((x : X) → same x x ≡ true) → (next : X → List X) (every from : List X) →
    ((x : X) → Has from x → Has every x) → ((x y : X) → Has every x → Has (next x) y → Has every y) → IsLeast next from (reached same next (length every) from)

-- so the same-time set of a leaf, and the cone of each of its cases
abbrev pub SameTimesAreLeast : Type 0
SameTimesAreLeast = (s : Script) → IsChecked s → (u : ℕ) (entry : Entry) →
    IsLeast (next_families (outline_of s) entry) (first_families (outline_of s) u entry) (same_time (outline_of s) u entry)

abbrev pub ConesAreLeast : Type 0
ConesAreLeast = (s : Script) → IsChecked s → (entry : Entry) → Has s.entries entry → (classes : List Class) → Has (leaf_cases s.design.sets entry.leaf.params entry.choice.keeps) classes →
    IsLeastCone (world_of (outline_of s) entry classes) (outline_of s) entry (params_at (outline_of s) entry classes)
  where
    IsLeastCone : World → Outline → Entry → List Place → Type 0
    IsLeastCone w o entry params = IsLeast (next_elements w o entry params) (first_elements w o entry params) (cone w o entry params)

-- along the uses that are now the units fall in some order, so they hold no cycle
abbrev pub NowUsesFall : Type 0
NowUsesFall = (s : Script) → (order : ℕ → ℕ) × ((u v : ℕ) → uses_at s Now u v ≡ true → order v < order u)

-- the reading of a script is a plan
abbrev pub ScriptsArePlans : Type 0
ScriptsArePlans = (s : Script) → IsChecked s → IsPlan (plan_of s)

-- where no case of any leaf has a violating path, every unit holds at every time of every run, for all sizes
abbrev pub ProvedIsSound : Type 0
ProvedIsSound = (s : Script) → IsChecked s → IsProved s → IsSoundScript s

-- so of a design, where each of its units has a leaf and a choice
abbrev pub ProvedUnitsHold : Type 0
ProvedUnitsHold = (d : Design) (leaves : List Leaf) (choices : List Choice) → length leaves ≡ length (units_of d) → length choices ≡ length (units_of d) →
    IsChecked (script_of d leaves choices) → IsProved (script_of d leaves choices) → (unit : Unit) → Has (units_of d) unit → HoldsAlways d (unit_in d unit)
