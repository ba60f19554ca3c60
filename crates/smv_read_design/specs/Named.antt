-- The name of a unit.
use Rattle.std.specs.Prelude.{ℕ, List, Bool}
use Rattle.std.specs.Str.{bytes_eq}
use Rattle.smv_core.specs.declared.flat.Design.{Design}
use Rattle.smv_core.specs.declared.flat.Unit.{Unit}
use Rattle.law_obligations.specs.Outlines.{unit_in}
use Rattle.law_splits.specs.Leaves.{name_of}

-- whether a unit of a design is written so
abbrev pub is_named : Design → List ℕ → Unit → Bool
is_named d name unit = bytes_eq (name_of d (unit_in d unit)) name
