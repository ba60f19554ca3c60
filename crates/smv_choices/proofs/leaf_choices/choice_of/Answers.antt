use Rattle.std.proofs.Common.{ap}
use Rattle.smv_choices.specs.Readings.{choice_held}
use Rattle.smv_choices.proofs.PartLaws.{made-of}
use Rattle.smv_choices.proofs.leaf_choices.choice_of.Goals as goal

pub returns : goal.returns
returns c = made-of c.choice_by.result _ _ c.choice_by.ensures (ap (choice_held c.args.tables.now.design.now c.args.units.now c.args.leaf.now) c.proof_for-proof.ensures)
