-- Variables among those that are bound around.
use Rattle.std.proofs.Common.{◌≡◌, ℕ, ◌+◌, [], ◌∷◌, cond, Option, Some, None, refl}
use Rattle.std.specs.Str.{bytes_eq}
use Rattle.smv_core.specs.Values.{Name, Path}
use Rattle.smv_core.specs.Assignments.{Bound, loop, any, Around}
use Rattle.law_designs.specs.Numbers.{bound_in, variable}
use Rattle.smv_flatten_statements.specs.Around.{reference_of, only}

-- a variable that is bound inside others
pub variable-cons : (other : Name) (b : Bound) (outer : Around) (name : Name) (at : ℕ) → variable ((other, b) ∷ outer) name at ≡ cond (bytes_eq other name) (Some (reference_of b outer at)) (variable outer name at)
variable-cons other (loop n) outer name at = refl
variable-cons other any outer name at = refl

pub ruleset looking_up = (variable-cons)

-- how many variables a bound one adds
abbrev pub one_more : Bound → ℕ → ℕ
one_more (loop n) count = count
one_more any count = count + 1

pub bound_in-cons : (name : Name) (b : Bound) (outer : Around) → bound_in ((name, b) ∷ outer) ≡ one_more b (bound_in outer)
bound_in-cons name (loop n) outer = refl
bound_in-cons name any outer = refl

pub ruleset counting = (bound_in-cons)

-- the name of a path of one name, where one was found before
abbrev pub only_behind : Option Name → Path → Option Name
only_behind None path = only path
only_behind (Some name) [] = Some name
only_behind (Some name) (other ∷ path) = None
