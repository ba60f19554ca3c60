use Rattle.std.proofs.Common.{◌≡◌, ◌++◌, map, drop, false}
use Rattle.std.specs.List.{flat_map}
use Rattle.smv_core.specs.declared.token.TokenKind.TheVariants.{Sign}
use Rattle.smv_core.specs.Signs.{comma}
use Rattle.smv_print.specs.Written.{written, preceded}
use Rattle.smv_print.specs.Expressions.{within, spelled, member_kinds, signed_kinds, part_kinds}
use Rattle.smv_print.proofs.expressions.+expressions.Given as goal

abbrev pub invariant-chain-loop-x : goal.invariant-chain-loop-x
invariant-chain-loop-x l =
    l.out.items ++ written (preceded (Sign l.between) (map (within l.wanted) (map spelled (drop l.x-index l.more))))
    ≡ l.initial.out.items ++ written (preceded (Sign l.between) (map (within l.wanted) (map spelled l.more)))

abbrev pub invariant-all_members-loop-x : goal.invariant-all_members-loop-x
invariant-all_members-loop-x l =
    l.out.items ++ written (preceded comma (map member_kinds (drop l.x-index l.more))) ≡ l.initial.out.items ++ written (preceded comma (map member_kinds l.more))

abbrev pub invariant-all_signed-loop-x : goal.invariant-all_signed-loop-x
invariant-all_signed-loop-x l = l.out.items ++ written (flat_map signed_kinds (drop l.x-index l.more)) ≡ l.initial.out.items ++ written (flat_map signed_kinds l.more)

abbrev pub invariant-all_parts-loop-x : goal.invariant-all_parts-loop-x
invariant-all_parts-loop-x l =
    l.out.items ++ written (flat_map (λ p. p false) (map part_kinds (drop l.x-index l.more))) ≡ l.initial.out.items ++ written (flat_map (λ p. p false) (map part_kinds l.more))
