use Rattle.std.proofs.Common.{◌≡◌, ◌∙◌, ap, refl, map, Ok, Some}
use Rattle.bdd_store.specs.Diagram.{table}
use Rattle.smv_rings.specs.declared.ops.Op.TheVariants.{And}
use Rattle.smv_rings.specs.Ops.{acts_of}
use Rattle.smv_search.specs.Runs.{Runs}
use Rattle.smv_search.proofs.Keep.{keeps_self}
use Rattle.smv_search.proofs.Steps.{handed_on}
use Rattle.smv_search.proofs.Loops.{ran_start, ran_all, held_now, sub_now, fits_op, keeps_on, on_stop, on_none, on_some, some_live, some_fits}
use Rattle.smv_search.proofs.runs.run.Goals as goal

pub loop-op-init : goal.loop-op-init
loop-op-init c = record {
  same = refl;
  keeps = keeps_self c.args.store.now c.args.live.now.items c.requires.live;
  live = c.requires.start;
  fits = c.requires.fits;
  ran = λ k images. ran_start _ _ _ _;
}

pub step-requires-clause-p : goal.step-requires-clause-p
step-requires-clause-p c = c.loop-op.invariant.live

pub step-requires-clause-live : goal.step-requires-clause-live
step-requires-clause-live c = held_now c.args.store.now c.loop-op.store c.args.live.now.items c.loop-op.live.items c.args.ops.now c.loop-op.op-index (And (record { place = 0 })) c.loop-op.p c.loop-op-test.true c.requires.refs c.loop-op.invariant.same c.loop-op.invariant.keeps c.loop-op.invariant.fits

pub step-requires-clause-refs : goal.step-requires-clause-refs
step-requires-clause-refs c = sub_now c.args.store.now c.loop-op.store c.args.live.now.items c.loop-op.live.items c.args.ops.now c.loop-op.op-index (And (record { place = 0 })) c.loop-op.p c.loop-op-test.true c.requires.refs c.loop-op.invariant.same c.loop-op.invariant.keeps c.loop-op.invariant.fits

pub step-requires-clause-fits : goal.step-requires-clause-fits
step-requires-clause-fits c = fits_op c.args.store.now c.loop-op.store c.args.live.now.items c.loop-op.live.items c.args.ops.now c.loop-op.op-index (And (record { place = 0 })) c.loop-op.p c.loop-op-test.true c.requires.refs c.loop-op.invariant.same c.loop-op.invariant.keeps c.loop-op.invariant.fits

pub returns-in_err-made-clause-keeps : goal.returns-in_err-made-clause-keeps
returns-in_err-made-clause-keeps c = keeps_on c.args.store.now c.loop-op.store c.args.live.now.items c.loop-op.live.items c.args.ops.now c.loop-op.op-index (And (record { place = 0 })) c.loop-op.p c.loop-op-test.true c.requires.refs c.loop-op.invariant.same c.loop-op.invariant.keeps c.loop-op.invariant.fits c.step.new.store c.args.nodes c.args.start c.step.result c.step.ensures.keeps c.loop-op.invariant.ran c.step.ensures.runs

pub returns-in_err-made-clause-runs : goal.returns-in_err-made-clause-runs
returns-in_err-made-clause-runs c = λ k images.
    handed_on c.from_residual.result c.in_err-made.field-0.0
    (Runs c.step.new.store (record { vars = c.args.store.now.vars; nodes = c.args.nodes; images = images }) (map (table c.args.store.now) c.args.live.now.items) (table c.args.store.now c.args.start) (acts_of c.args.store.now k c.args.ops.now) k)
    c.from_residual.ensures.1
    (on_stop c.args.store.now c.loop-op.store c.args.live.now.items c.loop-op.live.items c.args.ops.now c.loop-op.op-index (And (record { place = 0 })) c.loop-op.p c.loop-op-test.true c.requires.refs c.loop-op.invariant.same c.loop-op.invariant.keeps c.loop-op.invariant.fits c.step.new.store c.args.nodes c.args.start c.step.result c.step.ensures.keeps c.loop-op.invariant.ran c.step.ensures.runs c.in_err-made.field-0.0 c.in_err-made.was k images)

pub returns-in_default-clause-same : goal.returns-in_default-clause-same
returns-in_default-clause-same c = c.in_ok-made.ensures.same ∙ c.loop-op.invariant.same

pub returns-in_default-clause-keeps : goal.returns-in_default-clause-keeps
returns-in_default-clause-keeps c = keeps_on c.args.store.now c.loop-op.store c.args.live.now.items c.loop-op.live.items c.args.ops.now c.loop-op.op-index (And (record { place = 0 })) c.loop-op.p c.loop-op-test.true c.requires.refs c.loop-op.invariant.same c.loop-op.invariant.keeps c.loop-op.invariant.fits c.step.new.store c.args.nodes c.args.start c.step.result c.step.ensures.keeps c.loop-op.invariant.ran c.step.ensures.runs

pub returns-in_default-clause-runs : goal.returns-in_default-clause-runs
returns-in_default-clause-runs c = on_none c.args.store.now c.loop-op.store c.args.live.now.items c.loop-op.live.items c.args.ops.now c.loop-op.op-index (And (record { place = 0 })) c.loop-op.p c.loop-op-test.true c.requires.refs c.loop-op.invariant.same c.loop-op.invariant.keeps c.loop-op.invariant.fits c.step.new.store c.args.nodes c.args.start c.step.result c.step.ensures.keeps c.loop-op.invariant.ran c.step.ensures.runs (c.in_ok-made.was ∙ ap Ok c.in_default.is)

pub loop-op-preserved : goal.loop-op-preserved
loop-op-preserved c =
    let is : c.step.result ≡ Ok (Some c.in-Some.made) = c.in_ok-made.was ∙ ap Ok c.in-Some.is in
    record {
      same = c.in_ok-made.ensures.same ∙ c.loop-op.invariant.same;
      keeps = keeps_on c.args.store.now c.loop-op.store c.args.live.now.items c.loop-op.live.items c.args.ops.now c.loop-op.op-index (And (record { place = 0 })) c.loop-op.p c.loop-op-test.true c.requires.refs c.loop-op.invariant.same c.loop-op.invariant.keeps c.loop-op.invariant.fits c.step.new.store c.args.nodes c.args.start c.step.result c.step.ensures.keeps c.loop-op.invariant.ran c.step.ensures.runs;
      live = some_live c.args.store.now c.loop-op.store c.args.live.now.items c.loop-op.live.items c.args.ops.now c.loop-op.op-index (And (record { place = 0 })) c.loop-op.p c.loop-op-test.true c.requires.refs c.loop-op.invariant.same c.loop-op.invariant.keeps c.loop-op.invariant.fits c.step.new.store c.args.nodes c.args.start c.step.result c.step.ensures.keeps c.loop-op.invariant.ran c.step.ensures.runs c.in-Some.made is;
      fits = some_fits c.args.store.now c.loop-op.store c.args.live.now.items c.loop-op.live.items c.args.ops.now c.loop-op.op-index (And (record { place = 0 })) c.loop-op.p c.loop-op-test.true c.requires.refs c.loop-op.invariant.same c.loop-op.invariant.keeps c.loop-op.invariant.fits c.step.new.store c.args.nodes c.args.start c.step.result c.step.ensures.keeps c.loop-op.invariant.ran c.step.ensures.runs c.in-Some.made is;
      ran = on_some c.args.store.now c.loop-op.store c.args.live.now.items c.loop-op.live.items c.args.ops.now c.loop-op.op-index (And (record { place = 0 })) c.loop-op.p c.loop-op-test.true c.requires.refs c.loop-op.invariant.same c.loop-op.invariant.keeps c.loop-op.invariant.fits c.step.new.store c.args.nodes c.args.start c.step.result c.step.ensures.keeps c.loop-op.invariant.ran c.step.ensures.runs c.in-Some.made is;
    }

pub returns-clause-same : goal.returns-clause-same
returns-clause-same c = c.loop-op.invariant.same

pub returns-clause-keeps : goal.returns-clause-keeps
returns-clause-keeps c = c.loop-op.invariant.keeps

pub returns-clause-runs : goal.returns-clause-runs
returns-clause-runs c = λ k images.
    let all = ran_all c.args.store.now _ (map (table c.args.store.now) c.args.live.now.items) (table c.args.store.now c.args.start) (table c.loop-op.store c.loop-op.p) c.args.ops.now c.loop-op.op-index k c.loop-op-test.false (c.loop-op.invariant.ran k images) in
    (all.0, c.loop-op.invariant.live, all.1)
