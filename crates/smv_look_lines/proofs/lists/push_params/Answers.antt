use Rattle.std.proofs.Common.{◌≡◌, ◌++◌, drop}
use Rattle.smv_look_lines.specs.Lists.{param_lines}
use Rattle.smv_look_lines.proofs.Steps.{one_param}
use Rattle.smv_look_lines.proofs.lists.push_params.Goals as goal

pub loop-param-preserved : goal.loop-param-preserved
loop-param-preserved c =
    one_param c.args.design.now c.args.params.now c.loop-param.param-index c.param-item.result c.loop-param.out.items c.push_param.new.out.items (c.args.out.now.items ++ param_lines c.args.design.now c.args.params.now) c.loop-param-test.true c.param-item.is
    c.in_ok-push_param.ensures c.loop-param.invariant
