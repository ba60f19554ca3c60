use Rattle.std.proofs.Common.{◌≡◌, ◌++◌, [], ◌∷◌, map, drop}
use Rattle.std.specs.List.{flat_map}
use Rattle.smv_mentions.specs.Scopes.{own_names}
use Rattle.smv_mentions.specs.Said.{said}
use Rattle.smv_scope.specs.Held.{own_beside}
use Rattle.smv_scope.proofs.build.own_in.Given as goal

abbrev pub invariant-loop-mention : goal.invariant-loop-mention
invariant-loop-mention l = map own_beside l.own ++ flat_map (λ mention. own_names (said mention ∷ [])) (drop l.mention-index l.mentions) ≡ flat_map (λ mention. own_names (said mention ∷ [])) l.mentions
