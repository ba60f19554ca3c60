use Rattle.std.proofs.Common.{◌≡◌, length}
use Rattle.std.specs.List.{All}
use Rattle.smv_loops.specs.Ranks.{Falls, unranked}
use Rattle.smv_loops.proofs.ranks.settled.Given as goal

abbrev pub invariant-rounds : goal.invariant-rounds
invariant-rounds l = record { room : length l.ranks.items ≡ length l.initial.ranks.items; fall : All (Falls l.ranks.items) l.links }

abbrev pub decreases-rounds : goal.decreases-rounds
decreases-rounds l = unranked l.ranks.items
