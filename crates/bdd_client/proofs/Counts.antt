-- A count of one function.
use Rattle.std.proofs.Common.{zero, suc, [], ◌∷◌, arith}
use Rattle.bdd_store.specs.Diagram.{Diagram, AreLive, IsLive}
use Rattle.bdd_store.specs.declared.Ref.{Ref}

pub one_live : (d : Diagram) (f : Ref) → IsLive d f → AreLive d (f ∷ [])
one_live d f live zero lt = live
one_live d f live (suc i) lt = absurd (omega (arith, lt))
