use Rattle.std.proofs.Common.{◌≡◌, ◌++◌, drop, map}
use Rattle.smv_look_lint.specs.Lint.{doubted}
use Rattle.smv_look_lint.proofs.once.push_doubts.Given as goal

abbrev pub invariant-loop-doubt : goal.invariant-loop-doubt
invariant-loop-doubt l = l.out.items ++ map (doubted l.family) (drop l.doubt-index l.doubts) ≡ l.initial.out.items ++ map (doubted l.family) l.doubts
