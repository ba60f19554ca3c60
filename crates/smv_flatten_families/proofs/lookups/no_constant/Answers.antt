use Rattle.std.proofs.Common.{length, ap, ◌∙◌}
use Rattle.smv_core.specs.declared.flat.FlatExpr.{Constant}
use Rattle.smv_flatten_families.proofs.FoundLaws.{enums-here}
use Rattle.smv_flatten_families.proofs.lookups.no_constant.Goals as goal

pub returns : goal.returns
returns c = ap (λ n. Constant n 0 c.args.at) (c.in_ok-short.ensures ∙ c.len.ensures ∙ ap length (enums-here c.args.here c.requires))
