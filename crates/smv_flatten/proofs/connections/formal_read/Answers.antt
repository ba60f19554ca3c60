use Rattle.std.proofs.Common.{sym, ap, ◌∙◌, arith}
use Rattle.smv_core.specs.declared.flat.FlatExpr.{Read}
use Rattle.smv_flatten.proofs.ConnectionLaws.{read-family, read-none}
use Rattle.smv_flatten.proofs.connections.formal_read.Goals as goal

pub returns-then-from-len : goal.returns-then-from-len
returns-then-from-len c =
    ap (λ l. Read c.in_ok-family.family l c.args.at) c.new.ensures
    ∙ sym (read-family c.args.here c.requires c.args.name.now c.args.formal.now c.args.at c.in_ok-family.family c.in_ok-family.ensures (omega arith))

pub returns-in_ok-list : goal.returns-in_ok-list
returns-in_ok-list c =
    sym (read-none c.args.here c.requires c.args.name.now c.args.formal.now c.args.at c.in_ok-family.family c.in_ok-family.ensures c.in_ok-list.list (c.in_ok-list.ensures ∙ c.len-else-from-len.ensures) (omega arith))
