use Rattle.std.proofs.Common.{◌≡◌, ◌++◌, map, drop}
use Rattle.std.specs.List.{flat_map}
use Rattle.smv_mentions.specs.Mentions.{in_stmt, in_arm}
use Rattle.smv_mentions.specs.Said.{said, words_at}
use Rattle.smv_mentions.proofs.statements.+statements.Given as goal

abbrev pub invariant-block-loop-x : goal.invariant-block-loop-x
invariant-block-loop-x l = map said l.out.items ++ flat_map (in_stmt (words_at l.vars)) (drop l.x-index l.parts) ≡ map said l.initial.out.items ++ flat_map (in_stmt (words_at l.vars)) l.parts

abbrev pub invariant-all_arms-loop-x : goal.invariant-all_arms-loop-x
invariant-all_arms-loop-x l = map said l.out.items ++ flat_map (in_arm (words_at l.vars)) (drop l.x-index l.arms) ≡ map said l.initial.out.items ++ flat_map (in_arm (words_at l.vars)) l.arms
