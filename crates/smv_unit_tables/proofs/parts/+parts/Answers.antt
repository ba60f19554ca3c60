use Rattle.std.proofs.Common.{sym, ap, ◌∙◌, arith}
use Rattle.smv_core.specs.declared.flat.DefBody.{If}
use Rattle.smv_unit_tables.proofs.PartLaws.{if_kept}
use Rattle.smv_unit_tables.proofs.parts.+parts.Goals as goal

pub add_part-returns-in_ok-second-in-If-clause-reads : goal.add_part-returns-in_ok-second-in-If-clause-reads
add_part-returns-in_ok-second-in-If-clause-reads t c =
    if_kept c.args.families.now c.args.out.now.items c.add_read-in-If.new.out.items c.add_part.new.out.items c.add_part-in-If.new.out.items c.keep_if.new.out.items
    c.args.x.now c.in-If.cond c.get.result.now c.get-in-If.result.now c.in_ok-first-in-If.first c.in_ok-second-in-If.second c.len-count.result
    (c.in-If.is ∙ (ap (λ p. If c.in-If.cond p c.in-If.no) (sym c.get.ensures) ∙ ap (λ p. If c.in-If.cond c.get.result.now p) (sym c.get-in-If.ensures)))
    (let e = c.len-count.ensures in let o = c.args.out.now.ok in omega arith)
    c.in_ok-add_read-in-If.ensures c.in_ok-first-in-If.ensures.some c.in_ok-first-in-If.ensures.reads c.in_ok-second-in-If.ensures.some c.in_ok-second-in-If.ensures.reads c.keep_if.ensures.kept
