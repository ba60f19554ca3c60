use Rattle.std.proofs.Common.{◌++◌, length, ◌∙◌, arith}
use Rattle.law_strengthened_claims.specs.Renaming.{between}
use Rattle.law_translated_texts.specs.Translation.{placed_from, edited, edits}
use Rattle.smv_ltl.specs.Edits.{edits_at}
use Rattle.smv_ltl.specs.Planned.{plan_of}
use Rattle.smv_ltl.specs.Writing.{IsTooLong, IsTooLongWith}
use Rattle.smv_ltl.proofs.WritingLaws.{over-same}
use Rattle.smv_ltl.proofs.EditLaws.{tops-more, tops-over, rest-is}
use Rattle.smv_ltl.proofs.ExitLaws.{exit-with}
use Rattle.smv_ltl.proofs.edits.edit.Goals as goal

pub loop-n-preserved : goal.loop-n-preserved
loop-n-preserved c =
    record {
      fits = c.in_ok-to.ensures.fits.0;
      within = c.in_ok-to.ensures.fits.1;
      told = tops-more c.args.source (plan_of c.args.plan.now) c.args.layer.now c.args.tops.now c.loop-n.n c.loop-n.from c.loop-n.out.items c.loop-n.invariant.told c.index-tops-n.result (omega arith) c.index-tops-n.is c.split_at.result.1.now c.split_at.ensures.back c.in_ok-to.to
          c.write_top.new.out.items c.in_ok-to.ensures.written;
    }

pub returns-in_err-to-clause-refused : goal.returns-in_err-to-clause-refused
returns-in_err-to-clause-refused c =
    let source = c.args.source in
    let text = source.text.now in
    let plan = plan_of c.args.plan.now in
    let layer = c.args.layer.now in
    let tops = c.args.tops.now in
    exit-with c.write_top.result c.from_residual.result c.in_err-to.field-0.0 (IsTooLongWith text (edits_at source plan layer c.index-tops-n.result c.split_at.result.1.now) c.loop-n.from c.loop-n.out.items) (IsTooLong (edited text 0 (edits text source.tokens.now plan layer tops)))
    (tops-over source plan layer tops c.loop-n.n c.loop-n.from c.loop-n.out.items c.loop-n.invariant.told c.index-tops-n.result (omega arith) c.index-tops-n.is c.split_at.result.1.now c.split_at.ensures.back) c.in_err-to.was c.from_residual.ensures.1 c.write_top.ensures.refused

pub returns-clause-written : goal.returns-clause-written
returns-clause-written c = c.in_ok-keep.ensures.ok ∙ rest-is c.args.source (plan_of c.args.plan.now) c.args.layer.now c.args.tops.now c.loop-n.n c.loop-n.from c.loop-n.out.items c.loop-n.invariant.told c.loop-n-test.false

pub returns-in_err-keep-clause-refused : goal.returns-in_err-keep-clause-refused
returns-in_err-keep-clause-refused c =
    let source = c.args.source in
    let text = source.text.now in
    let plan = plan_of c.args.plan.now in
    let layer = c.args.layer.now in
    let tops = c.args.tops.now in
    let kept = c.loop-n.out.items ++ placed_from c.loop-n.from (between text c.loop-n.from (length text)) in
    let whole = edited text 0 (edits text source.tokens.now plan layer tops) in
    exit-with c.keep.result c.from_residual-in_err-keep.result c.in_err-keep.field-0.0 (IsTooLong kept) (IsTooLong whole) (λ f h. over-same kept whole f (rest-is source plan layer tops c.loop-n.n c.loop-n.from c.loop-n.out.items c.loop-n.invariant.told c.loop-n-test.false) h) c.in_err-keep.was c.from_residual-in_err-keep.ensures.1 c.keep.ensures.refused
