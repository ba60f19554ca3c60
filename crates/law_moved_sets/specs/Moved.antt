-- Sets of assignments of the bits of a case, seen from the places of the bits in an order.
use Rattle.std.specs.Prelude.{ℕ, List}
use Rattle.bdd_ops.specs.Functions.{Function}
use Rattle.smv_rings.specs.Lists.{at}
use Rattle.law_reports.specs.CaseLists.{current}
use Rattle.law_arrangements.specs.Arrangements.{spread}

-- a set, where the bits stand in this order: what it says of the bits that stand at the places
abbrev pub moved : List ℕ → Function → Function
moved order set a = set (at (spread order (current a)))
