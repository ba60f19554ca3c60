use Rattle.std.proofs.Common.{map, ap, ◌∙◌}
use Rattle.smv_symmetric.specs.Plain.{first_among, item_fault}
use Rattle.smv_symmetric.proofs.FaultLaws.{symmetric-first}
use Rattle.smv_symmetric.proofs.symmetric_fault.Goals as goal

pub returns : goal.returns
returns c = c.in_ok-fault.ensures ∙ (ap (λ items. first_among (map (item_fault c.args.flat_text.now) items)) c.as_slice-items.ensures ∙ symmetric-first c.args.flat_text.now c.requires)
