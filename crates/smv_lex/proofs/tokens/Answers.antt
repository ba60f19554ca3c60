use Rattle.std.proofs.Common.{◌≡◌, ◌∙◌, sym, arith, drop}
use Rattle.smv_lex.specs.Lexing.{front_of}
use Rattle.smv_lex.specs.declared.front.Front.TheVariants.{Passed, Whole}
use Rattle.smv_lex.proofs.Fronts.{passed-within, token-within}
use Rattle.smv_lex.proofs.Lexing.{after-passed, after-token, at-fault, at-end}
use Rattle.smv_lex.proofs.tokens.Goals as goal

passed : (c : goal.In-Passed) → front_of (drop c.loop-at.at c.args.text.now) ≡ Passed c.in-Passed.bytes
passed c = rw (← c.split_at.ensures.back) (sym c.in_ok-bytes.ensures.front ∙ c.in-Passed.is)

whole : (c : goal.In_ok-push-in-Whole) → front_of (drop c.loop-at.at c.args.text.now) ≡ Whole c.in-Whole.kind c.in-Whole.bytes
whole c = rw (← c.split_at.ensures.back) (sym c.in_ok-bytes.ensures.front ∙ c.in-Whole.is)

pub overflow_add-at : goal.overflow_add-at
overflow_add-at c = omega (arith, passed-within c.args.text.now c.loop-at.at c.in-Passed.bytes c.loop-at-test.true (passed c))

pub loop-at-smaller-in-Passed : goal.loop-at-smaller-in-Passed
loop-at-smaller-in-Passed c = omega (arith, passed-within c.args.text.now c.loop-at.at c.in-Passed.bytes c.loop-at-test.true (passed c))

pub loop-at-preserved-in-Passed : goal.loop-at-preserved-in-Passed
loop-at-preserved-in-Passed c =
    let fits = passed-within c.args.text.now c.loop-at.at c.in-Passed.bytes c.loop-at-test.true (passed c) in
    record {
      within = fits.1;
      read = after-passed c.args.text.now c.loop-at.at c.in-Passed.bytes c.loop-at.tokens c.loop-at-test.true (passed c) fits.0 c.loop-at.invariant.read;
    }

pub overflow_add-at-in-Whole : goal.overflow_add-at-in-Whole
overflow_add-at-in-Whole c = omega (arith, token-within c.args.text.now c.loop-at.at c.in-Whole.bytes c.in-Whole.kind c.loop-at-test.true (whole c))

pub loop-at-smaller : goal.loop-at-smaller
loop-at-smaller c = omega (arith, token-within c.args.text.now c.loop-at.at c.in-Whole.bytes c.in-Whole.kind c.loop-at-test.true (whole c))

pub loop-at-preserved : goal.loop-at-preserved
loop-at-preserved c =
    let fits = token-within c.args.text.now c.loop-at.at c.in-Whole.bytes c.in-Whole.kind c.loop-at-test.true (whole c) in
    record {
      within = fits.1;
      read = after-token c.args.text.now c.loop-at.at c.in-Whole.bytes c.in-Whole.kind c.loop-at.tokens _ c.loop-at-test.true (whole c) fits.0 c.in_ok-push-in-Whole.ensures.ok
          c.loop-at.invariant.read;
    }

pub returns-in-Broken-clause-fault : goal.returns-in-Broken-clause-fault
returns-in-Broken-clause-fault c =
    at-fault c.args.text.now c.loop-at.at c.in-Broken.number c.loop-at.tokens c.loop-at-test.true
    (rw (← c.split_at.ensures.back) (sym c.in_ok-bytes.ensures.front ∙ c.in-Broken.is)) c.loop-at.invariant.read

pub returns-clause-tokens : goal.returns-clause-tokens
returns-clause-tokens c = at-end c.args.text.now c.loop-at.at c.loop-at.tokens c.loop-at-test.false c.loop-at.invariant.read
