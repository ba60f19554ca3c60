-- Elements by their numbers.
use Rattle.std.specs.Prelude.{ℕ, List, [], get_or}
use Rattle.smv_core.specs.declared.flat.Element.{Element}

abbrev pub element_at : List Element → ℕ → Element
element_at elements number = get_or elements number (record { family = 0; indexes = [] })
