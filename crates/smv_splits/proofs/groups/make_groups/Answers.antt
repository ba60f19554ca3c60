use Rattle.std.proofs.Common.{◌∙◌, ap, arith}
use Rattle.graph_search.specs.Walks.{lists}
use Rattle.name_index.specs.Position.{position}
use Rattle.smv_splits.proofs.GroupLaws.{no-groups, one-more, all-groups}
use Rattle.smv_splits.proofs.groups.make_groups.Goals as goal

pub loop-number-init : goal.loop-number-init
loop-number-init c = no-groups c.args.names.now (lists c.in_ok-groups.groups.items) c.in_ok-groups.ensures

pub loop-number-preserved : goal.loop-number-preserved
loop-number-preserved c =
    one-more c.args.names.now (lists c.loop-number.groups.items) (lists c.note.new.groups.items) c.loop-number.number c.index-names-number.result c.find.result c.loop-number-test.true c.index-names-number.is
    (c.find.ensures ∙ ap (λ names. position names c.index-names-number.result) c.requires) c.in_ok-note.ensures c.loop-number.invariant

pub returns : goal.returns
returns c = all-groups c.args.names.now (lists c.loop-number.groups.items) c.loop-number.number (omega (arith, c.loop-number-test.false)) c.loop-number.invariant
