use Rattle.std.proofs.Common.{◌∙◌, ap, sym, Some, arith}
use Rattle.std.proofs.lemmas.Option.{slice_get_past}
use Rattle.law_obligations.proofs.ScriptCases.{treatment-at}
use Rattle.law_lists.proofs.Places.{get_read}
use Rattle.smv_cases.proofs.SlotLaws.{treatment_none, not_below}
use Rattle.smv_cases.proofs.slots.treatment_at.Goals as goal

pub returns-in-None : goal.returns-in-None
returns-in-None c = sym (treatment_none c.args.keeps.now 0 c.args.set c.args.sets.now (slice_get_past c.args.sets.now c.args.set (not_below c.args.set _ c.in-None.ensures.lookup.0)))

pub returns-in-Some : goal.returns-in-Some
returns-in-Some c =
    ap Some c.treated.ensures
    ∙ sym (treatment-at c.args.keeps.now 0 c.args.set c.args.set c.args.sets.now c.in-Some.info.now (omega arith)
    (get_read c.args.sets.now c.args.set c.in-Some.info.now c.in-Some.ensures.lookup.3.0 c.in-Some.ensures.lookup.1))
