use Rattle.std.proofs.Common.{◌<◌, sym, subst, length, List, arith}
use Rattle.smv_core.specs.declared.flat.Timed.{Timed}
use Rattle.smv_plan_reports.proofs.PlanLaws.{each_leaf, each_choice, each_timed, part_at}
use Rattle.smv_posed.proofs.Posed.{case_there}
use Rattle.smv_posed.proofs.problems.problem_at.Goals as goal

pub bounds-as_slice-unit-3 : goal.bounds-as_slice-unit-3
bounds-as_slice-unit-3 c =
    let there : c.args.unit < length c.args.plan.now.units = let test = c.if-unit-len.false in let long = c.len.ensures in omega (arith, test, long) in
    subst (λ (xs : List Timed). c.args.unit < length xs) (sym c.as_slice-3.ensures) (each_timed c.args.plan.now c.requires c.args.unit there)

pub problem-requires-clause-part : goal.problem-requires-clause-part
problem-requires-clause-part c =
    let there : c.args.unit < length c.args.plan.now.units = let test = c.if-unit-len.false in let long = c.len.ensures in omega (arith, test, long) in
    c.requires.parts c.args.unit c.index-as_slice-unit.result c.index-as_slice-unit-2.result
    (part_at c.args.plan.now.leaves c.as_slice.result.now c.args.unit c.index-as_slice-unit.result c.as_slice.ensures (each_leaf c.args.plan.now c.requires c.args.unit there) c.index-as_slice-unit.is)
    (part_at c.args.plan.now.choices c.as_slice-2.result.now c.args.unit c.index-as_slice-unit-2.result c.as_slice-2.ensures (each_choice c.args.plan.now c.requires c.args.unit there) c.index-as_slice-unit-2.is)

pub problem-requires-clause-case : goal.problem-requires-clause-case
problem-requires-clause-case c =
    let there : c.args.unit < length c.args.plan.now.units = let test = c.if-unit-len.false in let long = c.len.ensures in omega (arith, test, long) in
    case_there c.args.plan.now.design c.index-as_slice-unit.result c.index-as_slice-unit-2.result _ _ _ c.in-Some.case.now
    (c.requires.room c.args.unit c.index-as_slice-unit.result c.index-as_slice-unit-2.result
    (part_at c.args.plan.now.leaves c.as_slice.result.now c.args.unit c.index-as_slice-unit.result c.as_slice.ensures (each_leaf c.args.plan.now c.requires c.args.unit there) c.index-as_slice-unit.is)
    (part_at c.args.plan.now.choices c.as_slice-2.result.now c.args.unit c.index-as_slice-unit-2.result c.as_slice-2.ensures (each_choice c.args.plan.now c.requires c.args.unit there) c.index-as_slice-unit-2.is))
    c.as_slice-5.ensures c.in_ok-cases.ensures.cases c.in-Some.ensures.lookup.3.0 c.in-Some.ensures.lookup.1
