use Rattle.std.proofs.Common.{sym, ◌∙◌, arith}
use Rattle.smv_cone.proofs.Ends.{gone-over, gone-full}
use Rattle.smv_cone.proofs.search.go_on_from_each.Goals as goal

pub returns : goal.returns
returns c = gone-over c.args.part.now c.loop-turn.found c.loop-turn.turn c.loop-turn.invariant (let n = c.len.ensures in omega arith)

pub returns-then-is_full : goal.returns-then-is_full
returns-then-is_full c = gone-full c.args.part.now c.loop-turn.found c.loop-turn.turn c.loop-turn.invariant (sym c.is_full.ensures ∙ c.if-is_full.true)
