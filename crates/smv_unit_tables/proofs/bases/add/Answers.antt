use Rattle.std.proofs.Common.{sym, ap, get_or, ◌∙◌}
use Rattle.smv_unit_tables.proofs.BaseLaws.{added}
use Rattle.smv_unit_tables.proofs.bases.add.Goals as goal

pub returns-then-may_be_base : goal.returns-then-may_be_base
returns-then-may_be_base c =
    added c.args.design.now c.args.place c.index-defs-place.result c.args.bases.now.items c.requires.place
    (c.index-defs-place.is ∙ ap (λ l. get_or l c.args.place c.index-defs-place.result) c.as_slice-defs.ensures) c.requires.bases
    c.as_slice-defs.result.now c.as_slice-defs.ensures c.earlier_of.result c.index.result.now (sym c.may_be_base.ensures ∙ c.if-may_be_base.true) c.index.ensures c.earlier_of.ensures
