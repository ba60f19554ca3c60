use Rattle.std.proofs.Common.{List, ◌++◌, sym, ◌∙◌, subst}
use Rattle.law_strengthened_claims.specs.Renaming.{between}
use Rattle.law_translated_texts.specs.Translation.{Edit, placed_from}
use Rattle.smv_ltl.specs.Edits.{monitors_from, layer_edits}
use Rattle.smv_ltl.specs.Writing.{IsTooLong, GoesOn, IsTooLongWith}
use Rattle.smv_ltl.proofs.WritingLaws.{one-edit, over-kept, over-written}
use Rattle.smv_ltl.proofs.EditLaws.{edit_there, layer-some, layer-none}
use Rattle.smv_ltl.proofs.ExitLaws.{exit-with}
use Rattle.smv_ltl.proofs.edits.write_layer.Goals as goal

pub returns-in_ok-write_monitors-in-Some-clause-written : goal.returns-in_ok-write_monitors-in-Some-clause-written
returns-in_ok-write_monitors-in-Some-clause-written c =
    let source = c.args.source in
    let bytes = monitors_from source c.args.layer.now c.args.changed.now c.in-Some.name in
    let e = edit_there c.args.at bytes in
    subst (λ (es : List Edit). GoesOn source.text.now es c.args.from c.args.out.now.items c.args.at c.write_monitors.new.out.items) (sym (layer-some source c.args.layer.now c.args.at c.args.changed.now c.in-Some.name (sym c.first_watched.ensures ∙ c.in-Some.is)))
    (one-edit source.text.now e c.args.from c.args.out.now.items c.keep.new.out.items c.write_monitors.new.out.items c.in_ok-keep-in-Some.ensures.ok c.in_ok-write_monitors-in-Some.ensures.written)

pub returns-in_err-keep-in-Some-clause-refused : goal.returns-in_err-keep-in-Some-clause-refused
returns-in_err-keep-in-Some-clause-refused c =
    let source = c.args.source in
    let text = source.text.now in
    let old = c.args.out.now.items in
    let e = edit_there c.args.at (monitors_from source c.args.layer.now c.args.changed.now c.in-Some.name) in
    exit-with c.keep.result c.from_residual.result c.in_err-keep-in-Some.field-0.0 (IsTooLong (old ++ placed_from c.args.from (between text c.args.from c.args.at))) (IsTooLongWith text (layer_edits source c.args.layer.now c.args.at c.args.changed.now) c.args.from old)
    (λ f h. subst (λ (es : List Edit). IsTooLongWith text es c.args.from old f) (sym (layer-some source c.args.layer.now c.args.at c.args.changed.now c.in-Some.name (sym c.first_watched.ensures ∙ c.in-Some.is))) (over-kept text e c.args.from old f h)) c.in_err-keep-in-Some.was c.from_residual.ensures.1 c.keep.ensures.refused

pub returns-in_err-write_monitors-in-Some-clause-refused : goal.returns-in_err-write_monitors-in-Some-clause-refused
returns-in_err-write_monitors-in-Some-clause-refused c =
    let source = c.args.source in
    let text = source.text.now in
    let old = c.args.out.now.items in
    let bytes = monitors_from source c.args.layer.now c.args.changed.now c.in-Some.name in
    let e = edit_there c.args.at bytes in
    exit-with c.write_monitors.result c.from_residual-in_err-write_monitors-in-Some.result c.in_err-write_monitors-in-Some.field-0.0 (IsTooLong (c.keep.new.out.items ++ bytes)) (IsTooLongWith text (layer_edits source c.args.layer.now c.args.at c.args.changed.now) c.args.from old)
    (λ f h. subst (λ (es : List Edit). IsTooLongWith text es c.args.from old f) (sym (layer-some source c.args.layer.now c.args.at c.args.changed.now c.in-Some.name (sym c.first_watched.ensures ∙ c.in-Some.is)))
    (over-written text e c.args.from old f c.keep.new.out.items c.in_ok-keep-in-Some.ensures.ok h)) c.in_err-write_monitors-in-Some.was c.from_residual-in_err-write_monitors-in-Some.ensures.1 c.write_monitors.ensures.refused

pub returns-in-None-clause-written : goal.returns-in-None-clause-written
returns-in-None-clause-written c = layer-none c.args.source c.args.layer.now c.args.at c.args.from c.args.out.now.items c.args.changed.now (sym c.first_watched.ensures ∙ c.in-None.is)
