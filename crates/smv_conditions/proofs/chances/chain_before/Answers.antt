use Rattle.std.proofs.Common.{arith, subst, sym}
use Rattle.smv_conditions.specs.Chances.{AreMade}
use Rattle.smv_conditions.proofs.ChainLaws.{chain_begun, chain_goes, chain_over, kept_after, kept_same, one_kept}
use Rattle.smv_conditions.proofs.chances.chain_before.Goals as goal

pub loop-place-init : goal.loop-place-init
loop-place-init g c = chain_begun _ _ _ c.args.s.now c.args.how c.args.before.now c.args.last c.requires.last

pub joined_by-requires-clause-x_made : goal.joined_by-requires-clause-x_made
joined_by-requires-clause-x_made g c =
    subst (λ x. AreMade (g.S.Conditions.IsMade c.loop-place.s) x) (sym c.index-before-place.is)
    (one_kept g.S.Conditions.IsMade g.S.Conditions.holds g.S.Conditions.room c.args.s.now c.loop-place.s c.args.before.now _ c.index-before-place.result (omega arith) c.requires.made c.loop-place.invariant.keeps)

pub joined_by-requires-clause-y_made : goal.joined_by-requires-clause-y_made
joined_by-requires-clause-y_made g c = c.loop-place.invariant.made

pub returns-in_err-sum-clause-keeps : goal.returns-in_err-sum-clause-keeps
returns-in_err-sum-clause-keeps g c = kept_after _ _ _ _ _ _ c.loop-place.invariant.keeps c.joined_by.ensures.keeps

pub loop-place-preserved : goal.loop-place-preserved
loop-place-preserved g c =
    chain_goes _ _ _ _ _ _ c.args.how c.args.before.now _ _ _ c.index-before-place.result _ c.loop-place-test.true (omega arith) c.index-before-place.is
    (subst (λ x. AreMade (g.S.Conditions.IsMade c.args.s.now) x) (sym c.index-before-place.is)
    (one_kept g.S.Conditions.IsMade g.S.Conditions.holds g.S.Conditions.room c.args.s.now c.args.s.now c.args.before.now _ c.index-before-place.result (omega arith) c.requires.made (kept_same _ _ _ _))) c.loop-place.invariant c.joined_by.ensures.keeps
    c.in_ok-sum.ensures.made c.in_ok-sum.ensures.mix

pub returns-clause-keeps : goal.returns-clause-keeps
returns-clause-keeps g c = c.loop-place.invariant.keeps

pub returns-clause-made : goal.returns-clause-made
returns-clause-made g c = c.loop-place.invariant.made

pub returns-clause-mix : goal.returns-clause-mix
returns-clause-mix g c = chain_over _ _ _ _ _ c.args.how c.args.before.now _ _ _ c.loop-place-test.false c.loop-place.invariant
