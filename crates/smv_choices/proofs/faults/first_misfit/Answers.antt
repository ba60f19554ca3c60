use Rattle.smv_choices.specs.Readings.{reading, misfit_in}
use Rattle.smv_choices.proofs.StepLaws.{among-step}
use Rattle.smv_choices.proofs.faults.first_misfit.Goals as goal

pub loop-x-preserved : goal.loop-x-preserved
loop-x-preserved c =
    among-step (misfit_in c.args.tables.now.design.now) reading c.args.all.now c.loop-x.x-index c.x-item.result c.loop-x.found c.in_ok-place.place c.first_of-found.result _
    c.loop-x-test.true c.x-item.is c.in_ok-place.ensures c.first_of-found.ensures c.loop-x.invariant
