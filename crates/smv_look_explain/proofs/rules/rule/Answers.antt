-- A number past the last sentence has none.
use Rattle.std.proofs.Common.{◌≤◌, [], arith, rules as tried, sym}
use Rattle.smv_look_explain.specs.Rules.{rules}
use Rattle.smv_look_explain.proofs.Texts.{past}
use Rattle.smv_look_explain.proofs.rules.rule.Goals as goal

pub returns-else-number-lt32 : goal.returns-else-number-lt32
returns-else-number-lt32 c =
    let behind : 32 ≤ c.args.number = first_of (omega arith, search tried) in
    sym (past rules c.args.number [] behind)
