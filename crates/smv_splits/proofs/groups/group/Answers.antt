use Rattle.std.proofs.Common.{◌∙◌, ap}
use Rattle.graph_search.specs.Walks.{lists, list_at}
use Rattle.smv_splits.proofs.GroupLaws.{group-is}
use Rattle.smv_splits.proofs.groups.group.Goals as goal

pub returns : goal.returns
returns c =
    c.group_at.ensures ∙ (ap (λ items. list_at (lists items) c.find.result) c.deref.ensures.value ∙ (ap (list_at (lists c.args.tables.now.groups.items)) c.find.ensures
    ∙ group-is c.args.tables.now.named (lists c.args.tables.now.groups.items) c.requires.groups c.args.name.now))
