use Rattle.std.proofs.Common.{◌≡◌, List, IfOk, sym, ap, ◌∙◌, subst}
use Rattle.smv_core.specs.declared.tree.Item.{Item}
use Rattle.smv_core.specs.declared.tree.Top.{Top}
use Rattle.smv_lex.specs.Answers.{IfFault}
use Rattle.law_translated_texts.specs.Translation.{Edit}
use Rattle.smv_ltl.specs.Edits.{edits_in, edits_at}
use Rattle.smv_ltl.specs.Planned.{plan_of}
use Rattle.smv_ltl.specs.Writing.{GoesOn, IsTooLongWith}
use Rattle.smv_ltl.proofs.edits.write_top.Goals as goal

pub returns-in-Module-clause-written : goal.returns-in-Module-clause-written
returns-in-Module-clause-written c =
    let source = c.args.source in
    let plan = plan_of c.args.plan.now in
    let layer = c.args.layer.now in
    let behind = c.args.behind.now in
    let same : edits_in source plan layer c.as_slice.result.now behind ≡ edits_at source plan layer c.args.top.now behind = ap (λ (items : List Item). edits_in source plan layer items behind) c.as_slice.ensures ∙ sym (ap (λ (t : Top). edits_at source plan layer t behind) c.in-Module.is) in
    subst (λ (es : List Edit). IfOk c.write_module.result (λ to. GoesOn source.text.now es c.args.from c.args.out.now.items to c.write_module.new.out.items)) same c.write_module.ensures.written

pub returns-in-Module-clause-refused : goal.returns-in-Module-clause-refused
returns-in-Module-clause-refused c =
    let source = c.args.source in
    let plan = plan_of c.args.plan.now in
    let layer = c.args.layer.now in
    let behind = c.args.behind.now in
    let same : edits_in source plan layer c.as_slice.result.now behind ≡ edits_at source plan layer c.args.top.now behind = ap (λ (items : List Item). edits_in source plan layer items behind) c.as_slice.ensures ∙ sym (ap (λ (t : Top). edits_at source plan layer t behind) c.in-Module.is) in
    subst (λ (es : List Edit). IfFault c.write_module.result (IsTooLongWith source.text.now es c.args.from c.args.out.now.items)) same c.write_module.ensures.refused
