-- What tells the classes of assignments apart.
use Rattle.std.specs.Prelude.{◌≡◌, ◌<◌, ◌&&◌, ℕ, List, length, get_or, slice_get, Option, Some, None, option_and_then, Bool, false, true, nat_eq, if◌then◌else◌}
use Rattle.std.specs.Option.{option_eq}
use Rattle.std.specs.HashMap.{HashMap, get}
use Rattle.smv_core.specs.Values.{number}
use Rattle.smv_core.specs.Assignments.{Index, fixed}
use Rattle.smv_core.specs.FlatMeaning.{flat_index}
use Rattle.smv_core.specs.declared.flat.FlatExpr.{FlatExpr}
use Rattle.law_designs.specs.Standing.{Standing}
use Rattle.smv_single_assignment.specs.declared.classes.Criterion.{Criterion}
use Rattle.smv_single_assignment.specs.declared.classes.Criterion.TheVariants.{Family, Layer, Constant}

-- the number of a constant
abbrev pub constant_value : Index → Option ℕ
constant_value (fixed (Some (number value))) = Some value
constant_value _ = None

-- the constant at an index of a left side, if there is one
abbrev pub constant_in : List FlatExpr → ℕ → Option ℕ
constant_in left index = option_and_then (λ x. constant_value (flat_index x)) (slice_get left index)

abbrev pub value_by : Criterion → Standing → Option ℕ
value_by Family a = Some a.family
value_by Layer a = a.layer
value_by (Constant index) a = constant_in a.left index

abbrev pub kept_if : Bool → Option ℕ → Option ℕ
kept_if counts value = if counts then value else None

-- each class is below this number
abbrev pub AreBelow : List ℕ → ℕ → Type 0
AreBelow classes count = (j : ℕ) → j < length classes → get_or classes j 0 < count

-- where a class is marked, so many of it have values
abbrev pub AreSteady : List ℕ → List (Option ℕ) → List Bool → ℕ → Type 0
AreSteady classes values marks n = (j : ℕ) → j < n → get_or marks (get_or classes j 0) false ≡ true → get_or values j None ≡ None → ⊥

-- the value that counts at a place
abbrev pub kept_at : List ℕ → List (Option ℕ) → List Bool → ℕ → Option ℕ
kept_at classes values marks j = kept_if (get_or marks (get_or classes j 0) false) (get_or values j None)

-- two of one class whose values are the same stay in one class
pub record AreRefined (classes : List ℕ) (values : List (Option ℕ)) (marks : List Bool) (refined : List ℕ) : Type 0 where
  pub each : length refined ≡ length classes
  pub below : AreBelow refined (length classes)
  pub together : (i j : ℕ) → i < length classes → j < length classes → get_or classes i 0 ≡ get_or classes j 0 → kept_at classes values marks i ≡ kept_at classes values marks j → get_or refined i 0 ≡ get_or refined j 0

-- a class and a value are those of another pair
abbrev pub same_key : (ℕ × Option ℕ) → (ℕ × Option ℕ) → Bool
same_key x y = nat_eq x.0 y.0 && option_eq nat_eq x.1 y.1

-- the number of a class and a value, if they have one
abbrev pub number_at : {S : Type 0} → HashMap (ℕ × Option ℕ) ℕ S → ℕ × Option ℕ → Option ℕ
number_at numbers key = get same_key numbers key
