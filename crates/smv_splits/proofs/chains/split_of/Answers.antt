use Rattle.std.proofs.Common.{◌∙◌, ap}
use Rattle.std.specs.Prelude.{option_and_then, slice_get}
use Rattle.smv_core.specs.declared.flat.FlatSplit.{FlatSplit}
use Rattle.name_index.specs.Position.{position}
use Rattle.law_splits.specs.Leaves.{named_by}
use Rattle.smv_splits.proofs.LinkLaws.{found-at}
use Rattle.smv_splits.proofs.chains.split_of.Goals as goal

pub returns : goal.returns
returns c =
    c.split_at.ensures ∙ (ap (option_and_then (slice_get c.args.design.now.splits)) (c.find.ensures ∙ ap (λ names. position names c.args.name.now) c.requires)
    ∙ found-at (λ (s : FlatSplit). named_by s.of) c.args.name.now c.args.design.now.splits)
