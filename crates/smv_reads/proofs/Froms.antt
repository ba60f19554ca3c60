-- Elements that are put index by index.
use Rattle.std.proofs.Common.{◌≡◌, ℕ, ◌<◌, List, [], ◌∷◌, length, sym, arith}
use Rattle.smv_core.specs.declared.flat.Class.{Class}
use Rattle.smv_core.specs.declared.flat.Element.{Element}
use Rattle.smv_elements.specs.Elements.{put, put_all}
use Rattle.smv_reads.specs.Reading.{elements_from}
use Rattle.smv_reads.proofs.Joins.{put-one}

pub from-none : (family : ℕ) (front : List Class) (choices : List (List Class)) (found : List Element) → length choices < 1 → put found (record { family = family; indexes = front }) ≡ put_all found (elements_from family front choices)
from-none family front [] found l = sym (put-one found (record { family = family; indexes = front }))
from-none family front (cs ∷ choices) found l = absurd (omega arith)
