use Rattle.std.proofs.Common.{◌≡◌, true, false, sym, ◌∙◌, ap}
use Rattle.bdd_store.specs.Diagram.{table, first_var}
use Rattle.bdd_ops.specs.Functions.{bit_at}
use Rattle.bdd_ops.proofs.Depends.{own}
use Rattle.bdd_ops.proofs.questions.+value.Goals as goal

pub returns-then-bits-var : goal.returns-then-bits-var
returns-then-bits-var t c =
    let d = c.args.store.now in
    let bits = bit_at c.args.bits.now in
    let bit : bits c.var.result ≡ true = c.if-bits-var.true in
    record { value = c.value.ensures.value ∙ c.high-high.ensures.table bits ∙ sym (own (table d c.args.f) bits (first_var d c.args.f) true (ap bits (sym c.var.ensures.var) ∙ bit)) }

pub returns : goal.returns
returns t c =
    let d = c.args.store.now in
    let bits = bit_at c.args.bits.now in
    let bit : bits c.var.result ≡ false = c.if-bits-var.false in
    record { value = c.value-2.ensures.value ∙ c.low-low.ensures.table bits ∙ sym (own (table d c.args.f) bits (first_var d c.args.f) false (ap bits (sym c.var.ensures.var) ∙ bit)) }
