use Rattle.std.proofs.Common.{List, [], ◌∷◌, ℕ, ◌++◌, codes, ap, ◌∙◌}
use Rattle.std.proofs.lemmas.Result.{IfOk-equal}
use Rattle.law_translated_texts.specs.Translation.{Placed, placed_at, spaced}
use Rattle.smv_ltl.specs.Edits.{all_declared, all_defined, monitors_from}
use Rattle.smv_ltl.specs.Writing.{IsTooLong}
use Rattle.smv_ltl.proofs.WritingLaws.{fault-weaker, over-same, over-first-piece, over-second-piece, over-third-piece, over-last-piece, behind-third}
use Rattle.smv_ltl.proofs.ExitLaws.{exit-with}
use Rattle.smv_ltl.proofs.edits.write_monitors.Goals as goal

pub returns-clause-written : goal.returns-clause-written
returns-clause-written c =
    let source = c.args.source in
    let name = c.args.name in
    let changed = c.args.changed.now in
    let head : Placed = placed_at name (spaced (codes "layer" ∷ c.args.layer.now ∷ codes ":" ∷ codes "{" ∷ [])) in
    let tail : Placed = placed_at name (spaced (codes "}" ∷ []) ++ codes " ") in
    IfOk-equal c.append-2.result _ _ _ c.append-2.ensures.ok
    (behind-third c.args.out.now.items (all_declared source changed) head (all_defined source changed) tail c.write_declarations.new.out.items c.append.new.out.items c.write_definitions.new.out.items c.in_ok-write_declarations.ensures.written
    (c.in_ok-append.ensures.ok ∙ ap (λ (l : List ℕ). c.write_declarations.new.out.items ++ placed_at name l) (c.as_slice.ensures.value ∙ c.in_ok-head.ensures)) c.in_ok-write_definitions.ensures.written)

pub returns-in_err-write_declarations-clause-refused : goal.returns-in_err-write_declarations-clause-refused
returns-in_err-write_declarations-clause-refused c =
    let source = c.args.source in
    let name = c.args.name in
    let changed = c.args.changed.now in
    let old = c.args.out.now.items in
    let head : Placed = placed_at name (spaced (codes "layer" ∷ c.args.layer.now ∷ codes ":" ∷ codes "{" ∷ [])) in
    let tail : Placed = placed_at name (spaced (codes "}" ∷ []) ++ codes " ") in
    exit-with c.write_declarations.result c.from_residual.result c.in_err-write_declarations.field-0.0 (IsTooLong (old ++ all_declared source changed)) (IsTooLong (old ++ monitors_from source c.args.layer.now changed name)) (over-first-piece old (all_declared source changed) head (all_defined source changed) tail) c.in_err-write_declarations.was c.from_residual.ensures.1 c.write_declarations.ensures.refused

pub returns-in_err-append-clause-refused : goal.returns-in_err-append-clause-refused
returns-in_err-append-clause-refused c =
    let source = c.args.source in
    let name = c.args.name in
    let changed = c.args.changed.now in
    let old = c.args.out.now.items in
    let now = c.write_declarations.new.out.items in
    let head : Placed = placed_at name (spaced (codes "layer" ∷ c.args.layer.now ∷ codes ":" ∷ codes "{" ∷ [])) in
    let tail : Placed = placed_at name (spaced (codes "}" ∷ []) ++ codes " ") in
    exit-with c.append.result c.from_residual-in_err-append.result c.in_err-append.field-0.0 (IsTooLong (now ++ placed_at name c.as_slice.result.now)) (IsTooLong (old ++ monitors_from source c.args.layer.now changed name))
    (λ f h. over-second-piece old (all_declared source changed) head (all_defined source changed) tail now c.in_ok-write_declarations.ensures.written f (over-same (now ++ placed_at name c.as_slice.result.now) (now ++ head) f (ap (λ (l : List ℕ). now ++ placed_at name l) (c.as_slice.ensures.value ∙ c.in_ok-head.ensures)) h))
    c.in_err-append.was c.from_residual-in_err-append.ensures.1 c.append.ensures.refused

pub returns-in_err-write_definitions-clause-refused : goal.returns-in_err-write_definitions-clause-refused
returns-in_err-write_definitions-clause-refused c =
    let source = c.args.source in
    let name = c.args.name in
    let changed = c.args.changed.now in
    let old = c.args.out.now.items in
    let now = c.write_declarations.new.out.items in
    let head : Placed = placed_at name (spaced (codes "layer" ∷ c.args.layer.now ∷ codes ":" ∷ codes "{" ∷ [])) in
    let tail : Placed = placed_at name (spaced (codes "}" ∷ []) ++ codes " ") in
    exit-with c.write_definitions.result c.from_residual-in_err-write_definitions.result c.in_err-write_definitions.field-0.0 (IsTooLong (c.append.new.out.items ++ all_defined source changed)) (IsTooLong (old ++ monitors_from source c.args.layer.now changed name))
    (over-third-piece old (all_declared source changed) head (all_defined source changed) tail now c.append.new.out.items c.in_ok-write_declarations.ensures.written
    (c.in_ok-append.ensures.ok ∙ ap (λ (l : List ℕ). now ++ placed_at name l) (c.as_slice.ensures.value ∙ c.in_ok-head.ensures))) c.in_err-write_definitions.was c.from_residual-in_err-write_definitions.ensures.1 c.write_definitions.ensures.refused

pub returns-clause-refused : goal.returns-clause-refused
returns-clause-refused c =
    let source = c.args.source in
    let name = c.args.name in
    let changed = c.args.changed.now in
    let old = c.args.out.now.items in
    let now = c.write_declarations.new.out.items in
    let head : Placed = placed_at name (spaced (codes "layer" ∷ c.args.layer.now ∷ codes ":" ∷ codes "{" ∷ [])) in
    let tail : Placed = placed_at name (spaced (codes "}" ∷ []) ++ codes " ") in
    fault-weaker c.append-2.result (IsTooLong (c.write_definitions.new.out.items ++ tail)) (IsTooLong (old ++ monitors_from source c.args.layer.now changed name))
    (over-last-piece old (all_declared source changed) head (all_defined source changed) tail now c.append.new.out.items c.write_definitions.new.out.items c.in_ok-write_declarations.ensures.written
    (c.in_ok-append.ensures.ok ∙ ap (λ (l : List ℕ). now ++ placed_at name l) (c.as_slice.ensures.value ∙ c.in_ok-head.ensures)) c.in_ok-write_definitions.ensures.written) c.append-2.ensures.refused
