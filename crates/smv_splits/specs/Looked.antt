-- The names of a definition's family and layer, as they are looked up.
use Rattle.std.specs.Prelude.{slice_get, option_and_then, Option}
use Rattle.smv_core.specs.Values.{Name}
use Rattle.smv_core.specs.declared.flat.Design.{Design}
use Rattle.smv_core.specs.declared.flat.Def.{Def}
use Rattle.law_splits.specs.Leaves.{name_of_family}

-- the name of a definition's family
abbrev pub family_name : Design → Def → Name
family_name d def = name_of_family (slice_get d.families def.family)

-- that of its layer, if it is in one
abbrev pub layer_name : Design → Def → Option Name
layer_name d def = option_and_then (slice_get d.layers) def.layer
