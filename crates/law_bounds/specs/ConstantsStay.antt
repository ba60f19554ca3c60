-- What is made of constants alone comes out the same at each time.
use Rattle.std.specs.Prelude.{◌≡◌, true}
use Rattle.smv_core.specs.FlatMeaning.{FlatBindings, FlatState, Numbered, flat_outcome}
use Rattle.smv_core.specs.declared.flat.FlatExpr.{FlatExpr}
use Rattle.smv_look_bounds.specs.Constants.{is_constant}

-- in any two states and under any two bindings
abbrev pub ConstantsStay : Type 0
ConstantsStay = (n : Numbered) (s t : FlatState) (b c : FlatBindings) (e : FlatExpr) → is_constant e ≡ true → flat_outcome n s e b ≡ flat_outcome n t e c
