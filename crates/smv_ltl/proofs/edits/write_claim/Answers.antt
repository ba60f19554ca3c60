use Rattle.std.proofs.Common.{List, [], ◌∷◌, ℕ, ◌++◌, ap, ◌∙◌}
use Rattle.law_strengthened_claims.specs.Renaming.{between}
use Rattle.law_translated_texts.specs.Translation.{Placed, placed_at, placed_from}
use Rattle.smv_ltl.specs.Edits.{edit_of}
use Rattle.smv_ltl.specs.Writing.{IsTooLong, IsTooLongWith}
use Rattle.smv_ltl.proofs.WritingLaws.{over-kept, over-written, over-same}
use Rattle.smv_ltl.proofs.EditLaws.{one-edit-by}
use Rattle.smv_ltl.proofs.ExitLaws.{exit-with}
use Rattle.smv_ltl.proofs.edits.write_claim.Goals as goal

pub returns-clause-written : goal.returns-clause-written
returns-clause-written c =
    let changed = c.args.changed.now in
    one-edit-by c.args.source.text.now (edit_of c.args.source changed) c.args.from c.in_ok-made.made.1 c.args.out.now.items c.keep.new.out.items c.append.new.out.items (placed_at changed.name c.in_ok-made.made.0.items) c.in_ok-made.ensures.to c.in_ok-made.ensures.bytes
    c.in_ok-keep.ensures.ok (c.in_ok-append.ensures.ok ∙ ap (λ (l : List ℕ). c.keep.new.out.items ++ placed_at changed.name l) c.as_slice.ensures.value)

pub returns-in_err-keep-clause-refused : goal.returns-in_err-keep-clause-refused
returns-in_err-keep-clause-refused c =
    let text = c.args.source.text.now in
    let e = edit_of c.args.source c.args.changed.now in
    let old = c.args.out.now.items in
    exit-with c.keep.result c.from_residual-in_err-keep.result c.in_err-keep.field-0.0 (IsTooLong (old ++ placed_from c.args.from (between text c.args.from e.from))) (IsTooLongWith text (e ∷ []) c.args.from old) (over-kept text e c.args.from old) c.in_err-keep.was c.from_residual-in_err-keep.ensures.1 c.keep.ensures.refused

pub returns-in_err-append-clause-refused : goal.returns-in_err-append-clause-refused
returns-in_err-append-clause-refused c =
    let text = c.args.source.text.now in
    let changed = c.args.changed.now in
    let e = edit_of c.args.source changed in
    let old = c.args.out.now.items in
    let mid = c.keep.new.out.items in
    exit-with c.append.result c.from_residual-in_err-append.result c.in_err-append.field-0.0 (IsTooLong (mid ++ placed_at changed.name c.as_slice.result.now)) (IsTooLongWith text (e ∷ []) c.args.from old)
    (λ f h. over-written text e c.args.from old f mid c.in_ok-keep.ensures.ok
    (over-same (mid ++ placed_at changed.name c.as_slice.result.now) (mid ++ e.written) f (ap (λ (l : List ℕ). mid ++ placed_at changed.name l) c.as_slice.ensures.value ∙ ap (λ (l : Placed). mid ++ l) c.in_ok-made.ensures.bytes) h)) c.in_err-append.was c.from_residual-in_err-append.ensures.1 c.append.ensures.refused
