use Rattle.std.proofs.Common.{◌<◌, length, arith}
use Rattle.smv_read_design.proofs.FirstLaws.{case_of_there}
use Rattle.smv_read_design.proofs.widths.cases_width.Goals as goal

pub case_fault-requires-clause-case : goal.case_fault-requires-clause-case
case_fault-requires-clause-case c =
    let within : c.loop-place.place < length c.args.cases.now = grind (arith, c.loop-place-test.true, c.loop-place.auto.place-end) in
    case_of_there c.args.design.now c.args.leaf.now c.args.choice.now c.args.cases.now c.requires.cases c.loop-place.place c.index-cases-place.result within c.index-cases-place.is
