-- What a path is that is no variable.
use Rattle.std.proofs.Common.{◌≡◌, ℕ, List, ◌++◌, Option, Some, None, refl, ap, sym, ◌∙◌}
use Rattle.std.specs.Prelude.{option_map}
use Rattle.smv_core.specs.Values.{Path}
use Rattle.smv_core.specs.Types.{Family}
use Rattle.smv_core.specs.Outcome.{family_at}
use Rattle.smv_core.specs.Assignments.{Around}
use Rattle.smv_core.specs.declared.flat.FlatExpr.{FlatExpr, Read}
use Rattle.law_designs.specs.Numbers.{Scope, family_number, constant_in, variable_at, or_signal, flat_path}
use Rattle.smv_flatten_families.specs.declared.numbers.Here.{Here}
use Rattle.smv_flatten_families.specs.Held.{scope_here, instance_of}

module _ (scope : Scope) (path : Path) (indexes : List FlatExpr) (at : ℕ) where
  or_constant : (found : Option Family) (n : ℕ) → None ≡ option_map (λ f. n) found → constant_in scope path at ≡ or_signal scope None found path indexes at
  or_constant None n none = refl
  or_constant (Some f) n none = cc

  or_element : (found : Option Family) (n k : ℕ) → Some k ≡ option_map (λ f. n) found → n ≡ family_number scope (scope.instance ++ path) → Read k indexes at ≡ or_signal scope None found path indexes at
  or_element None n k some same = cc
  or_element (Some f) n k some same = let e : k ≡ n = cc in ap (λ m. Read m indexes at) (e ∙ same)

-- the number of the family to which a path leads, as it is looked for
abbrev pub looked_for : Here → Path → Option ℕ
looked_for here path = option_map (λ f. family_number (scope_here here) (instance_of here ++ path)) (family_at (scope_here here).families (instance_of here ++ path))

module _ (here : Here) (vars : Around) (path : Path) (indexes : List FlatExpr) (at : ℕ) where
  pub path-constant : variable_at vars path at ≡ None → None ≡ looked_for here path → constant_in (scope_here here) path at ≡ flat_path (scope_here here) vars path indexes at
  unfolding scope_here
  path-constant free none =
      let scope : Scope = scope_here here in
      or_constant scope path indexes at (family_at scope.families (scope.instance ++ path)) _ none
      ∙ ap (λ v. or_signal scope v (family_at scope.families (scope.instance ++ path)) path indexes at) (sym free)

  pub path-element : (k : ℕ) → variable_at vars path at ≡ None → Some k ≡ looked_for here path → Read k indexes at ≡ flat_path (scope_here here) vars path indexes at
  unfolding scope_here
  path-element k free some =
      let scope : Scope = scope_here here in
      or_element scope path indexes at (family_at scope.families (scope.instance ++ path)) _ k some refl
      ∙ ap (λ v. or_signal scope v (family_at scope.families (scope.instance ++ path)) path indexes at) (sym free)

-- an instance, as the scope has it
pub instance-here : (here : Here) → (scope_here here).instance ≡ instance_of here
unfolding scope_here
instance-here here = refl

pub ruleset standing = (instance-here)
