use Rattle.std.proofs.Common.{◌≡◌, ◌++◌, map, drop}
use Rattle.std.specs.List.{flat_map}
use Rattle.smv_mentions.specs.Mentions.{in_expr}
use Rattle.smv_mentions.specs.Said.{said, words_at}
use Rattle.smv_mentions.proofs.items.all_pairs.Given as goal

abbrev pub invariant-loop-x : goal.invariant-loop-x
invariant-loop-x l = map said l.out.items ++ flat_map (λ pair. in_expr (words_at l.vars) pair.left) (drop l.x-index l.pairs) ≡ map said l.initial.out.items ++ flat_map (λ pair. in_expr (words_at l.vars) pair.left) l.pairs
