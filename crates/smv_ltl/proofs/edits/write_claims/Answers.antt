use Rattle.std.proofs.Common.{[], ◌∷◌, arith}
use Rattle.smv_ltl.specs.Edits.{edit_of, edits_of}
use Rattle.smv_ltl.specs.Writing.{IsTooLongWith}
use Rattle.smv_ltl.proofs.EditLaws.{claims-more, claims-over, claims-all}
use Rattle.smv_ltl.proofs.ExitLaws.{exit-with}
use Rattle.smv_ltl.proofs.edits.write_claims.Goals as goal

pub loop-one-preserved : goal.loop-one-preserved
loop-one-preserved c = record {
  fits = c.in_ok-to.ensures.fits.0;
  within = c.in_ok-to.ensures.fits.1;
  told = claims-more c.args.source c.args.changed.now c.loop-one.one-index c.one-item.result (omega arith) c.one-item.is c.args.from c.loop-one.at c.args.out.now.items c.loop-one.out.items c.loop-one.invariant.told c.in_ok-to.to c.write_claim.new.out.items
      c.in_ok-to.ensures.written;
}

pub returns-in_err-to-clause-refused : goal.returns-in_err-to-clause-refused
returns-in_err-to-clause-refused c =
    let source = c.args.source in
    exit-with c.write_claim.result c.from_residual.result c.in_err-to.field-0.0 (IsTooLongWith source.text.now (edit_of source c.one-item.result ∷ []) c.loop-one.at c.loop-one.out.items) (IsTooLongWith source.text.now (edits_of source c.args.changed.now) c.args.from c.args.out.now.items)
    (claims-over source c.args.changed.now c.loop-one.one-index c.one-item.result (omega arith) c.one-item.is c.args.from c.loop-one.at c.args.out.now.items c.loop-one.out.items c.loop-one.invariant.told) c.in_err-to.was c.from_residual.ensures.1 c.write_claim.ensures.refused

pub returns-clause-written : goal.returns-clause-written
returns-clause-written c = claims-all c.args.source c.args.changed.now c.loop-one.one-index c.args.from c.loop-one.at c.args.out.now.items c.loop-one.out.items c.loop-one-test.false c.loop-one.invariant.told
