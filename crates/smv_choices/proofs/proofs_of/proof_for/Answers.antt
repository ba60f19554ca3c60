use Rattle.std.proofs.Common.{ap, ◌∙◌, option_map, option_and_then, slice_get}
use Rattle.name_index.specs.Position.{position}
use Rattle.law_splits.specs.Leaves.{named_by}
use Rattle.smv_choices.specs.Readings.{Proving, proof_held}
use Rattle.smv_choices.proofs.PartLaws.{found-there}
use Rattle.smv_choices.proofs.proofs_of.proof_for.Goals as goal

pub returns : goal.returns
returns c =
    ap (option_map proof_held) (c.proof_at.ensures ∙ ap (option_and_then (slice_get c.args.proofs.now)) (c.find.ensures ∙ ap (λ names. position names c.args.leaf.now.name) c.requires))
    ∙ found-there proof_held (λ (p : Proving). named_by p.of) c.args.proofs.now c.args.leaf.now.name
