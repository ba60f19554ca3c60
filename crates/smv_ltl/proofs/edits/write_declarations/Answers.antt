use Rattle.std.proofs.Common.{List, ℕ, ◌++◌, ap, ◌∙◌, arith}
use Rattle.law_translated_texts.specs.Translation.{placed_at}
use Rattle.smv_ltl.specs.Edits.{all_declared}
use Rattle.smv_ltl.specs.Writing.{IsTooLong}
use Rattle.smv_ltl.proofs.WritingLaws.{over-same}
use Rattle.smv_ltl.proofs.EditLaws.{told_declared, told-more, told-over}
use Rattle.smv_ltl.proofs.ExitLaws.{exit-with}
use Rattle.smv_ltl.proofs.edits.write_declarations.Goals as goal

pub loop-one-preserved : goal.loop-one-preserved
loop-one-preserved c =
    let one = c.one-item.result in
    let now = c.loop-one.out.items in
    record {
      fits = c.in_ok-append.ensures.fits;
      told = told-more (told_declared c.args.source) c.args.changed.now c.loop-one.one-index one (omega arith) c.one-item.is c.args.out.now.items now c.loop-one.invariant.told c.append.new.out.items
          (c.in_ok-append.ensures.ok ∙ ap (λ (l : List ℕ). now ++ placed_at one.name l) (c.as_slice.ensures.value ∙ c.in_ok-bytes.ensures));
    }

pub returns-in_err-append-clause-refused : goal.returns-in_err-append-clause-refused
returns-in_err-append-clause-refused c =
    let source = c.args.source in
    let one = c.one-item.result in
    let old = c.args.out.now.items in
    let now = c.loop-one.out.items in
    exit-with c.append.result c.from_residual-in_err-append.result c.in_err-append.field-0.0 (IsTooLong (now ++ placed_at one.name c.as_slice.result.now)) (IsTooLong (old ++ all_declared source c.args.changed.now))
    (λ f h. told-over (told_declared source) c.args.changed.now c.loop-one.one-index one (omega arith) c.one-item.is old now c.loop-one.invariant.told f
    (over-same (now ++ placed_at one.name c.as_slice.result.now) (now ++ told_declared source one) f (ap (λ (l : List ℕ). now ++ placed_at one.name l) (c.as_slice.ensures.value ∙ c.in_ok-bytes.ensures)) h)) c.in_err-append.was c.from_residual-in_err-append.ensures.1 c.append.ensures.refused
