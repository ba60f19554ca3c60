-- Guards of splits in a state: `e = i` holds where the outcome of e is i, or is no value of the type of i.
use Rattle.std.specs.Prelude.{List, Some, None, Bool, true, not, ◌||◌, ◌≡◌, ◌≤◌, ℕ, slice_get}
use Rattle.smv_core.specs.Values.{Value, Outcome, same, is_in}
use Rattle.smv_core.specs.FlatMeaning.{Numbered, FlatState, FlatBindings, values_in, flat_outcome}
use Rattle.smv_core.specs.declared.flat.FlatExpr.{FlatExpr}
use Rattle.smv_core.specs.declared.flat.Guard.{Guard}
use Rattle.smv_core.specs.declared.flat.Simple.{Simple as FlatSimple}
use Rattle.law_obligations.specs.Sets.{Has}
use Rattle.law_obligations.specs.Scopes.{ReadsOnly, before}

-- an outcome is the value, or none of these values
abbrev pub is_or_outside : List Value → Outcome → Value → Bool
is_or_outside values None i = true
is_or_outside values (Some u) i = not (is_in values u) || same u i

-- the guard holds at the value i of its parameter (`subcase`: SMV language manual; the time at which it is read is this project's)
abbrev pub guard_holds : Numbered → FlatState → FlatSimple → FlatExpr → FlatBindings → Value → Bool
guard_holds n s over e b i = is_or_outside (values_in n over) (flat_outcome n s e b) i

-- Guards of the parameters that are added to so many, by the types of all: each is of one of these and of its type, and reads only the
-- parameters before it; no two are of one parameter.
pub record AreGuards (count : ℕ) (types : List FlatSimple) (guards : List Guard) : Type 0 where
  pub is_added : (g : Guard) → Has guards g → count ≤ g.var
  pub is_of_type : (g : Guard) → Has guards g → slice_get types g.var ≡ Some g.over
  pub reads_before : (g : Guard) → Has guards g → ReadsOnly (before g.var) g.expr
  pub one_each : (g h : Guard) → Has guards g → Has guards h → g.var ≡ h.var → g ≡ h
