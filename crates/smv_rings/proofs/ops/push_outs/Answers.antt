use Rattle.std.proofs.Common.{◌≡◌, ℕ, suc, ◌-◌, ◌*◌, ◌++◌, ◌&&◌, Bool, true, false, not, map, ap, sym, ◌∙◌, arith}
use Rattle.std.specs.List.{filter}
use Rattle.bdd_ops.specs.Functions.{bit_at}
use Rattle.smv_rings.specs.declared.ops.Op.TheVariants.{Exists}
use Rattle.smv_rings.specs.Schedule.{evens}
use Rattle.smv_rings.specs.Schedule.Act.{Out}
use Rattle.smv_rings.specs.Ops.{back_acts}
use Rattle.smv_rings.proofs.Plans.{outs_step, back_push, pushed_none}
use Rattle.smv_rings.proofs.ops.push_outs.Goals as goal

pub loop-left-preserved-in-Continue-1 : goal.loop-left-preserved-in-Continue-1
loop-left-preserved-in-Continue-1 c =
    let e : c.loop-left.left ≡ suc (c.loop-left.left - 1) = omega arith in
    let t : ℕ → Bool = λ v. bit_at c.args.wanted.now v && not (bit_at c.args.read.now v) in
    record {
      within = omega arith;
      acts = λ d k.
          ap (λ acts. map Out (filter t (evens (c.loop-left.left - 1))) ++ acts) (ap (back_acts d k) c.in_ok-push.ensures.items ∙ back_push d k c.loop-left.ops.items (Exists (2 * (c.loop-left.left - 1))))
          ∙ sym (outs_step t (c.loop-left.left - 1) true (back_acts d k c.loop-left.ops.items) (sym c.is_out.ensures ∙ c.if-is_out.true))
          ∙ ap (λ n. map Out (filter t (evens n)) ++ back_acts d k c.loop-left.ops.items) (sym e)
          ∙ c.loop-left.invariant.acts d k;
      refs = λ r one. c.loop-left.invariant.refs r (pushed_none c.loop-left.ops.items _ (2 * (c.loop-left.left - 1)) c.in_ok-push.ensures.items r one);
    }

pub loop-left-preserved : goal.loop-left-preserved
loop-left-preserved c =
    let e : c.loop-left.left ≡ suc (c.loop-left.left - 1) = omega arith in
    let t : ℕ → Bool = λ v. bit_at c.args.wanted.now v && not (bit_at c.args.read.now v) in
    record {
      within = omega arith;
      acts = λ d k.
          sym (outs_step t (c.loop-left.left - 1) false (back_acts d k c.loop-left.ops.items) (sym c.is_out.ensures ∙ c.if-is_out.false))
          ∙ ap (λ n. map Out (filter t (evens n)) ++ back_acts d k c.loop-left.ops.items) (sym e)
          ∙ c.loop-left.invariant.acts d k;
      refs = c.loop-left.invariant.refs;
    }
