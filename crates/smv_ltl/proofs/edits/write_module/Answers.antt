use Rattle.std.proofs.Common.{List, refl, ap, ◌∙◌, subst}
use Rattle.std.proofs.lemmas.Result.{IfOk-weaker}
use Rattle.law_translated_texts.specs.Translation.{Edit, closing}
use Rattle.smv_ltl.specs.declared.changed.Changed.{Changed}
use Rattle.smv_ltl.specs.Changes.{changes_of}
use Rattle.smv_ltl.specs.Edits.{edits_of, edits_in, layer_edits}
use Rattle.smv_ltl.specs.Planned.{plan_of}
use Rattle.smv_ltl.specs.Writing.{GoesOn, IsTooLongWith}
use Rattle.smv_ltl.proofs.WritingLaws.{fault-weaker, edits-more, over-first, over-second}
use Rattle.smv_ltl.proofs.EditLaws.{module-edits}
use Rattle.smv_ltl.proofs.ExitLaws.{exit-with}
use Rattle.smv_ltl.proofs.edits.write_module.Goals as goal

pub returns-clause-written : goal.returns-clause-written
returns-clause-written c =
    let source = c.args.source in
    let text = source.text.now in
    let plan = plan_of c.args.plan.now in
    let layer = c.args.layer.now in
    let old = c.args.out.now.items in
    let now = c.write_claims.new.out.items in
    let changed = c.as_slice-changed.result.now in
    let es = edits_of source changed in
    let fs = layer_edits source layer c.closing-at.result changed in
    let whole = module-edits source plan layer c.args.items.now c.args.behind.now changed c.closing-at.result (ap (λ (l : List Changed). changes_of l) c.as_slice-changed.ensures.value ∙ c.in_ok-found.ensures) c.closing-at.ensures in
    let new = c.write_layer.new.out.items in
    IfOk-weaker c.write_layer.result (λ to. GoesOn text fs c.in_ok-to.to now to new) (λ to. GoesOn text (edits_in source plan layer c.args.items.now c.args.behind.now) c.args.from old to new)
    (λ to h. subst (λ (l : List Edit). GoesOn text l c.args.from old to new) whole (edits-more text es fs c.args.from c.in_ok-to.to to old now new c.in_ok-to.ensures.written h)) c.write_layer.ensures.written

pub returns-in_err-to-clause-refused : goal.returns-in_err-to-clause-refused
returns-in_err-to-clause-refused c =
    let source = c.args.source in
    let text = source.text.now in
    let plan = plan_of c.args.plan.now in
    let layer = c.args.layer.now in
    let old = c.args.out.now.items in
    let changed = c.as_slice-changed.result.now in
    let es = edits_of source changed in
    let fs = layer_edits source layer (closing source.tokens.now c.args.behind.now) changed in
    let whole = module-edits source plan layer c.args.items.now c.args.behind.now changed (closing source.tokens.now c.args.behind.now) (ap (λ (l : List Changed). changes_of l) c.as_slice-changed.ensures.value ∙ c.in_ok-found.ensures) refl in
    exit-with c.write_claims.result c.from_residual-in_err-to.result c.in_err-to.field-0.0 (IsTooLongWith text es c.args.from old) (IsTooLongWith text (edits_in source plan layer c.args.items.now c.args.behind.now) c.args.from old)
    (λ f h. subst (λ (l : List Edit). IsTooLongWith text l c.args.from old f) whole (over-first text es fs c.args.from old f h)) c.in_err-to.was c.from_residual-in_err-to.ensures.1 c.write_claims.ensures.refused

pub returns-clause-refused : goal.returns-clause-refused
returns-clause-refused c =
    let source = c.args.source in
    let text = source.text.now in
    let plan = plan_of c.args.plan.now in
    let layer = c.args.layer.now in
    let old = c.args.out.now.items in
    let now = c.write_claims.new.out.items in
    let changed = c.as_slice-changed.result.now in
    let es = edits_of source changed in
    let fs = layer_edits source layer c.closing-at.result changed in
    let whole = module-edits source plan layer c.args.items.now c.args.behind.now changed c.closing-at.result (ap (λ (l : List Changed). changes_of l) c.as_slice-changed.ensures.value ∙ c.in_ok-found.ensures) c.closing-at.ensures in
    fault-weaker c.write_layer.result (IsTooLongWith text fs c.in_ok-to.to now) (IsTooLongWith text (edits_in source plan layer c.args.items.now c.args.behind.now) c.args.from old)
    (λ f h. subst (λ (l : List Edit). IsTooLongWith text l c.args.from old f) whole (over-second text es fs c.args.from c.in_ok-to.to old now f c.in_ok-to.ensures.written h)) c.write_layer.ensures.refused
