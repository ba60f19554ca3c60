use Rattle.std.specs.Prelude.{codes}
use Rattle.smv_look_reports.proofs.AllowedLaws.{line_written}
use Rattle.smv_look_reports.proofs.allowed.push_some.Goals as goal

pub returns : goal.returns
returns c = line_written c.args.out.now.items (codes " the map allows ") _ _ _ _ c.in_ok-extend_from_slice.ensures.items c.in_ok-push_values.ensures c.in_ok-push.ensures.items
