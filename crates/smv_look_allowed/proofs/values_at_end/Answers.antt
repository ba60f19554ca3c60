use Rattle.std.specs.Option.{option_copied}
use Rattle.smv_look_allowed.proofs.AllowedLaws.{allowed_at_end}
use Rattle.smv_look_allowed.proofs.values_at_end.Goals as goal

pub returns : goal.returns
returns c = allowed_at_end c.args.problem.now c.args.path.now c.in-Some.front.now c.in-Some.last.now (option_copied c.last.result) c.in_ok-values.values c.in-Some.ensures.cases.0 c.last.ensures.value c.in_ok-values.ensures
