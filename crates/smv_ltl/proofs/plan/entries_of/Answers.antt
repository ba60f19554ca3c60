use Rattle.std.proofs.Common.{List, ◌+◌, ◌++◌, map, drop, ap, ◌∙◌, arith}
use Rattle.law_formulas.specs.Monitors.{watched}
use Rattle.smv_parse_formulas.specs.Trees.{meanings}
use Rattle.smv_ltl.specs.declared.plan.Entry.{Entry}
use Rattle.smv_ltl.specs.Plans.{entry_of}
use Rattle.smv_ltl.proofs.PlanLaws.{entry-more}
use Rattle.smv_ltl.proofs.plan.entries_of.Goals as goal

pub loop-placed-preserved : goal.loop-placed-preserved
loop-placed-preserved c =
    let formulas = c.args.formulas.now in
    let i = c.loop-placed.placed-index in
    let more = c.next_entry.result.1.now in
    ap (λ (es : List Entry). map entry_of es ++ watched (meanings (drop (i + 1) formulas)) more) c.in_ok-push.ensures.items
    ∙ entry-more c.loop-placed.entries.items c.next_entry.result.0 formulas i c.placed-item.result c.loop-placed.left.now more (omega arith) c.placed-item.is c.next_entry.ensures.entry c.next_entry.ensures.left ∙ c.loop-placed.invariant
