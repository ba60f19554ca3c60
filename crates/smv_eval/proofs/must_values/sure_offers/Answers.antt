use Rattle.std.proofs.Common.{arith}
use Rattle.std.specs.Option.{option_copied}
use Rattle.smv_eval.proofs.SureLaws.{sure_more, sure_all}
use Rattle.smv_eval.proofs.must_values.sure_offers.Goals as goal

pub loop-place-preserved : goal.loop-place-preserved
loop-place-preserved c =
    sure_more c.args.problem.now (option_copied c.args.old) c.args.cells.now c.args.element.now c.args.init.now c.args.next.now c.args.comb.now c.args.places.now c.loop-place.place-index _ c.loop-place.offers.items c.push.new.self.items c.in_ok-when.when
    c.loop-place-test.true c.in_ok-push.ensures.items c.in_ok-when.ensures c.loop-place.invariant

pub returns : goal.returns
returns c =
    let test = c.loop-place-test.false in
    sure_all c.args.problem.now (option_copied c.args.old) c.args.cells.now c.args.element.now c.args.init.now c.args.next.now c.args.comb.now c.args.places.now c.loop-place.place-index c.loop-place.offers.items (omega (arith, test)) c.loop-place.invariant
