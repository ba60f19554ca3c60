-- Left sides that are exact, and definitions of families.
use Rattle.std.specs.Prelude.{◌≡◌, length, slice_get, Some}
use Rattle.smv_core.specs.declared.flat.Def.{Def}
use Rattle.smv_core.specs.declared.flat.Family.{Family}
use Rattle.smv_core.specs.declared.flat.FlatText.{FlatText}
use Rattle.smv_core.specs.declared.flat.Design.{Design}
use Rattle.law_designs.specs.Standing.{Standing}
use Rattle.law_designs.specs.SingleFaults.{assigned_in}
use Rattle.law_obligations.specs.Sets.{Has}
use Rattle.law_obligations.specs.FlatConflicts.{IsConflictFree}

-- the assignment is to a family of the text, with an index for each of its index types
abbrev pub IsExact : FlatText → Standing → Type 0
IsExact flat_text a = (f : Family) × (slice_get flat_text.families a.family ≡ Some f) × (length a.left ≡ length f.over)

-- so is each assignment of the text
abbrev pub LeftSidesAreExact : FlatText → Type 0
LeftSidesAreExact flat_text = (a : Standing) → Has (assigned_in flat_text) a → IsExact flat_text a

-- each definition is one of a family, and no two of its assignments conflict
abbrev pub DefinitionsAreFree : Design → Type 0
DefinitionsAreFree d = (def : Def) → Has d.defs def → (f : Family) × (slice_get d.families def.family ≡ Some f) × IsConflictFree (length f.over) def
