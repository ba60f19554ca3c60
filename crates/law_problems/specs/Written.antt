-- The numbers and classes of index types as they are written.
use Rattle.std.specs.Prelude.{◌+◌, ◌-◌, List, [], map, slice_get, Option, Some, None}
use Rattle.smv_core.specs.Values.{numbers_from}
use Rattle.smv_core.specs.declared.flat.Simple.{Simple}
use Rattle.smv_core.specs.declared.flat.Simple.TheVariants.{Range, Enum, Set}
use Rattle.smv_core.specs.declared.flat.SetInfo.{SetInfo}
use Rattle.smv_core.specs.declared.flat.Class.{Class}
use Rattle.smv_core.specs.declared.flat.Class.TheVariants as class
use Rattle.law_obligations.specs.Places.{World}

-- the classes of a set type, by their numbers
abbrev pub classes_of : World → Option SetInfo → List Class
classes_of w None = []
classes_of w (Some info) = map class.Named (numbers_from 0 (w.classes.sizes info.name))

-- the numbers of a range, or the classes of a set type
abbrev pub named_classes : World → Simple → List Class
named_classes w (Range low high) = map class.Number (numbers_from low (high + 1 - low))
named_classes w (Enum list) = []
named_classes w (Set set) = classes_of w (slice_get w.classes.sets set)
