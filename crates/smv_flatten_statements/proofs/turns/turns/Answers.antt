use Rattle.std.proofs.Common.{◌≡◌, ap, sym, ◌∙◌, arith}
use Rattle.smv_flatten_statements.specs.Turns.{turns_from}
use Rattle.smv_flatten_statements.proofs.TurnLaws.{turns-none, turns-end, turn-done, turns-done}
use Rattle.smv_flatten_statements.proofs.turns.turns.Goals as goal
use Rattle.smv_flatten_statements.proofs.turns.turns.Goals.{then-loop-left-test+else-is_turn, else-loop-left-test}

pub loop-left-preserved : goal.loop-left-preserved
loop-left-preserved c =
    turn-done c.args.to c.args.closed c.args.step c.loop-left.n c.loop-left.left _ _ _ _ (sym c.is_turn.ensures.is ∙ c.if-is_turn.true) (omega arith) (omega arith) (omega arith) c.in_ok-push.ensures.items
    ∙ c.loop-left.invariant

pub returns : goal.returns
returns c =
    let n = c.loop-left.n in
    elim c.loop-left-test.branch [
      | then-loop-left-test+else-is_turn w ↦
          turns-done c.args.to c.args.closed c.args.step n c.loop-left.left _ _ (turns-end c.args.to c.args.closed c.args.step n c.loop-left.left (sym w.is_turn.ensures.is ∙ w.if-is_turn.false)) c.loop-left.invariant
      | else-loop-left-test w ↦
          let e : c.loop-left.left ≡ 0 = omega arith in
          turns-done c.args.to c.args.closed c.args.step n c.loop-left.left _ _ (ap (turns_from c.args.to c.args.closed c.args.step n) e ∙ turns-none c.args.to c.args.closed c.args.step n) c.loop-left.invariant
    ]
