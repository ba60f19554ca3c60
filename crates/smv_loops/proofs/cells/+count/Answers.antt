use Rattle.std.proofs.Common.{◌≡◌, ℕ, subst}
use Rattle.std.specs.Result.{IfOk}
use Rattle.smv_loops.proofs.NumberLaws.{count-split}
use Rattle.smv_loops.proofs.cells.+count.Goals as goal

pub returns-in_ok-rest-in-len1-up : goal.returns-in_ok-rest-in-len1-up
returns-in_ok-rest-in-len1-up t c =
    subst (λ (n : ℕ). IfOk c.step.result (λ next. next ≡ n)) (count-split c.args.over.now _ c.choices.result c.in_ok-rest-in-len1-up.rest c.in-len1-up.len_at_least c.choices.ensures c.in_ok-rest-in-len1-up.ensures) c.step.ensures
