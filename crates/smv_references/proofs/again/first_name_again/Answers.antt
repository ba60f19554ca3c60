use Rattle.smv_references.specs.Again.{placed}
use Rattle.smv_references.proofs.AgainLaws.{name-step}
use Rattle.smv_references.proofs.again.first_name_again.Goals as goal

pub loop-at-preserved : goal.loop-at-preserved
loop-at-preserved c =
    name-step placed c.args.names.now c.loop-at.at-index c.loop-at-item.result c.loop-at.seen c.note_name.new.seen c.in_ok-place.place c.loop-at.found c.first_of-found.result _
    c.loop-at-test.true c.loop-at-item.is c.in_ok-place.ensures.noted c.in_ok-place.ensures.place c.first_of-found.ensures c.loop-at.invariant
