use Rattle.std.specs.Option.{option_copied}
use Rattle.smv_eval.proofs.SureLaws.{AreSureSoFar}
use Rattle.smv_eval.proofs.must_values.sure_offers.Given as goal

abbrev pub invariant-loop-place : goal.invariant-loop-place
invariant-loop-place l = AreSureSoFar l.problem (option_copied l.old) l.cells l.element l.init l.next l.comb l.places l.place-index l.offers.items
