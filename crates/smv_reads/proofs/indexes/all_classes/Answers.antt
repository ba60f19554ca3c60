use Rattle.std.proofs.Common.{sym, ◌∙◌}
use Rattle.smv_reads.proofs.IndexLaws.{all-classes}
use Rattle.smv_reads.proofs.indexes.all_classes.Goals as goal

pub returns : goal.returns
returns c = c.from_vec.ensures ∙ (c.in_ok-classes.ensures ∙ sym (all-classes c.args.view.now c.requires.view c.args.over c.requires.over))
