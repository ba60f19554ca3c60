use Rattle.smv_mentions.specs.Scopes.{pieces}
use Rattle.smv_scope.specs.ScopeFault.{first_scope_fault}
use Rattle.smv_scope.proofs.FirstLaws.{scope-first}
use Rattle.smv_scope.proofs.scope.scope_fault_of.Goals as goal

pub returns : goal.returns
unfolding first_scope_fault
returns c =
    let h = scope-first (pieces c.args.tables.now.text.now) c.in_ok-undeclared.undeclared c.in_ok-doubled.doubled c.in_ok-missing.missing c.in_ok-miscounted.miscounted
    c.in_ok-undeclared.ensures c.in_ok-doubled.ensures c.in_ok-missing.ensures c.in_ok-miscounted.ensures in
    cc (h)
