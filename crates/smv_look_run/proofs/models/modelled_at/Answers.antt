use Rattle.std.proofs.Common.{get_or}
use Rattle.smv_core.specs.declared.flat.Unit.TheVariants.{Map}
use Rattle.smv_look_run.proofs.CaseLaws.{copied_at}
use Rattle.smv_look_run.proofs.models.modelled_at.Goals as goal

pub returns : goal.returns
returns c = record {
  unit = get_or c.as_slice.result.now c.args.u (Map 0);
  model = c.in_ok-model.model;
  has_unit = copied_at c.args.plan.now.units c.as_slice.result.now c.args.u (Map 0) c.as_slice.ensures c.requires.there;
  is_model = c.in_ok-model.ensures;
  status = c.in_ok-answer.ensures.status;
  lines = c.in_ok-answer.ensures.bytes;
}
