-- The place of fault 25, by what the tops of a text say.
use Rattle.std.specs.Prelude.{List, [], ◌∷◌, Option, Some, None, if◌then◌else◌}
use Rattle.std.specs.Str.{bytes_eq}
use Rattle.smv_core.specs.FlatOrder.{main}
use Rattle.smv_core.specs.declared.fault.Fault.{Fault}
use Rattle.smv_size.specs.Recursion.{Told}

-- fault 25 at the first top of the name `main`
abbrev pub main_told : List Told → Option Fault
main_told [] = None
main_told ((word, formals, mentions) ∷ tops) = if bytes_eq word.name main then Some (record { number = 25; at = word.at }) else main_told tops
