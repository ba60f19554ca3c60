use Rattle.std.proofs.Common.{◌≡◌, ◌++◌, map, drop}
use Rattle.std.specs.List.{flat_map}
use Rattle.smv_mentions.specs.Mentions.{in_expr, in_signed, in_member, in_part}
use Rattle.smv_mentions.specs.Said.{said, words_at}
use Rattle.smv_mentions.proofs.expressions.+expressions.Given as goal

abbrev pub invariant-expressions-loop-x : goal.invariant-expressions-loop-x
invariant-expressions-loop-x l = map said l.out.items ++ flat_map (in_expr (words_at l.vars)) (drop l.x-index l.parts) ≡ map said l.initial.out.items ++ flat_map (in_expr (words_at l.vars)) l.parts

abbrev pub invariant-all_signed-loop-x : goal.invariant-all_signed-loop-x
invariant-all_signed-loop-x l = map said l.out.items ++ flat_map (in_signed (words_at l.vars)) (drop l.x-index l.more) ≡ map said l.initial.out.items ++ flat_map (in_signed (words_at l.vars)) l.more

abbrev pub invariant-all_members-loop-x : goal.invariant-all_members-loop-x
invariant-all_members-loop-x l = map said l.out.items ++ flat_map (in_member (words_at l.vars)) (drop l.x-index l.members) ≡ map said l.initial.out.items ++ flat_map (in_member (words_at l.vars)) l.members

abbrev pub invariant-all_parts-loop-x : goal.invariant-all_parts-loop-x
invariant-all_parts-loop-x l = map said l.out.items ++ flat_map (in_part (words_at l.vars)) (drop l.x-index l.parts) ≡ map said l.initial.out.items ++ flat_map (in_part (words_at l.vars)) l.parts
