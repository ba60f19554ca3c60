use Rattle.std.proofs.Common.{slice_get, ap, sym, ◌∙◌}
use Rattle.smv_unit_tables.proofs.BaseLaws.{base-some, base-none}
use Rattle.smv_unit_tables.proofs.bases.base_at.Goals as goal

pub returns-in-Some : goal.returns-in-Some
returns-in-Some c = c.def_at.ensures ∙ base-some c.args.design.now c.args.bases.now c.args.family c.in-Some.place c.requires (sym c.in-Some.ensures)

pub returns-in-None : goal.returns-in-None
returns-in-None c = c.def_at-in-None.ensures ∙ (ap (slice_get c.args.design.now.defs) c.len.ensures ∙ base-none c.args.design.now c.args.bases.now c.args.family c.requires (sym c.in-None.ensures))
