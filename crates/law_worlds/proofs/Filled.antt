-- What an expression may be in a well-formed case is never empty, since each family's type has a place.
use Rattle.std.proofs.Common.{◌≡◌, ◌<◌, List, [], ◌∷◌, true, length, arith}
use Rattle.smv_core.specs.declared.flat.FlatExpr.{FlatExpr}
use Rattle.law_obligations.specs.Sets.{first}
use Rattle.law_obligations.specs.Places.{Place, places_in}
use Rattle.law_obligations.specs.May.{AbsState, may}
use Rattle.law_obligations.specs.Mix.{is_there}
use Rattle.law_obligations.specs.Readings.{PosedCase}
use Rattle.law_obligations.proofs.Filled.{Filled, may_filled, there}
use Rattle.law_obligations.proofs.OneOfEach.{get_Has}
use Rattle.smv_problem.specs.WellFormed.{IsWellFormed}

-- a list with a member
member_of : {X : Type 0} (xs : List X) → 0 < length xs → Filled xs
member_of [] l = absurd (omega arith)
member_of (x ∷ xs) l = (x, first)

pub case_filled : (c : PosedCase) → IsWellFormed c → (a : AbsState) (e : FlatExpr) (b : List Place) → is_there (may c.problem.world c.problem.kept a e b) ≡ true
case_filled c well a e b =
    there (may c.problem.world c.problem.kept a e b)
    (may_filled c.problem.world c.problem.kept a (λ family f is. member_of (places_in c.problem.world f.value) (well.have_values f (get_Has c.problem.world.classes.families family f is))) e b)
