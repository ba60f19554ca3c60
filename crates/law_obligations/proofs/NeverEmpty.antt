-- What an expression may be is never empty, whatever the places of its variables, since each type has a value.
use Rattle.std.proofs.Common.{List, []}
use Rattle.smv_core.specs.Values.{Name}
use Rattle.smv_core.specs.FlatMeaning.{Numbered, FlatState}
use Rattle.smv_core.specs.declared.abstract_type.AbsType.{AbsType}
use Rattle.smv_core.specs.declared.flat.FlatExpr.{FlatExpr}
use Rattle.law_obligations.specs.Places.{Place, world}
use Rattle.law_obligations.specs.May.{AbsState, Kept, may}
use Rattle.law_obligations.specs.Pictures.{Placing, placed, ArePlaced, IsState}
use Rattle.law_obligations.proofs.Filled.{Filled, may_filled as filled_where}

-- a family's type has the place of the value that the family has in a state
pub may_filled : (n : Numbered) (types : Name → AbsType) (spots : Placing) → ArePlaced n (world n types) spots → (s : FlatState) → IsState n s → (kept : Kept) (a : AbsState) (e : FlatExpr) (b : List Place) → Filled (may (world n types) kept a e b)
may_filled n types spots facts s is_state kept a =
    filled_where (world n types) kept a (λ family f there. (placed spots (s family []), (facts f.value).is_somewhere (s family []) (is_state family f there [] tt)))
