use Rattle.std.proofs.Common.{◌∙◌}
use Rattle.smv_look_reports.proofs.leans.claim_unit.Goals as goal

pub returns : goal.returns
returns c = c.claim.ensures ∙ c.requires.claims c.args.claim
