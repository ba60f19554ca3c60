-- Laws that are put in order.
use Rattle.std.specs.Prelude.{List, map}
use Rattle.bdd_store.specs.declared.Ref.{Ref}
use Rattle.smv_inductive.specs.declared.order.Law.{Law}

-- their functions
abbrev pub functions_of : List Law → List Ref
functions_of laws = map (λ (law : Law). law.function) laws
