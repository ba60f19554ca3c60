use Rattle.std.specs.Prelude.{◌≡◌, ◌++◌, length}
use Rattle.smv_look_lines.specs.Lists.{claim_lines}
use Rattle.smv_look_lines.proofs.choices.push_claims.Given as goal

abbrev pub invariant-loop-claims : goal.invariant-loop-claims
invariant-loop-claims l = l.out.items ++ claim_lines l.design l.claims l.times ≡ l.initial.out.items ++ claim_lines l.design l.initial.claims l.initial.times

abbrev pub decreases-loop-claims : goal.decreases-loop-claims
decreases-loop-claims l = length l.claims
