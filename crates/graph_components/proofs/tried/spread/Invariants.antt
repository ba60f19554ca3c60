use Rattle.std.proofs.Common.{◌≡◌, length}
use Rattle.graph_components.proofs.tried.spread.Given as goal

-- as many labels as before
abbrev pub invariant-loop-turn : goal.invariant-loop-turn
invariant-loop-turn l = length l.labels.items ≡ length l.initial.labels.items
