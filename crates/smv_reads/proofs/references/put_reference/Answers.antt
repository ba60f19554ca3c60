use Rattle.std.proofs.Common.{ap, sym, ◌∙◌}
use Rattle.smv_elements.specs.Elements.{put_all}
use Rattle.smv_reads.proofs.Joins.{put-nothing}
use Rattle.smv_reads.proofs.IndexLaws.{reads-none}
use Rattle.smv_reads.proofs.references.put_reference.Goals as goal

pub returns-in-None : goal.returns-in-None
returns-in-None c = sym (ap (put_all c.args.found.now) (reads-none c.args.view.now c.args.bindings.now c.args.family c.args.indexes.now (sym c.in-None.ensures)) ∙ put-nothing c.args.found.now)
