use Rattle.std.proofs.Common.{◌≡◌, take}
use Rattle.std.specs.List.{sum_by}
use Rattle.smv_core.specs.declared.tree.Arm.{out-Arm}
use Rattle.smv_mentions.specs.Sizes as sizes
use Rattle.smv_size.specs.Limits.{capped}
use Rattle.smv_size.proofs.statements.+counts.Given as goal

abbrev pub invariant-in_all-loop-part : goal.invariant-in_all-loop-part
invariant-in_all-loop-part l = l.total ≡ capped (sum_by sizes.statements (take l.part-index l.parts))

abbrev pub invariant-in_arms-loop-arm : goal.invariant-in_arms-loop-arm
invariant-in_arms-loop-arm l = l.total ≡ capped (sum_by (λ arm. sizes.statements (out-Arm arm).body) (take l.arm-index l.arms))
