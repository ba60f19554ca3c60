use Rattle.std.proofs.Common.{◌∙◌, Bool, ap, subst, sym}
use Rattle.smv_circuits.specs.Circuits.{IsSimple, under_test}
use Rattle.smv_circuits.proofs.Values.{simple_first, simple_same, simple_second}
use Rattle.smv_circuits.proofs.circuit.simple.Goals as goal

pub returns-then-one-eq0-clause-some : goal.returns-then-one-eq0-clause-some
returns-then-one-eq0-clause-some c = subst (IsSimple c.args.one c.args.other) (sym c.under.ensures) (simple_first c.args.one c.args.other c.if-one-eq0.true)

pub returns-then-other-eq0-clause-some : goal.returns-then-other-eq0-clause-some
returns-then-other-eq0-clause-some c = subst (IsSimple c.args.one c.args.other) (sym c.under-then-other-eq0.ensures) (simple_second c.args.one c.args.other c.if-other-eq0.true)

pub returns-then-one-other-clause-some : goal.returns-then-one-other-clause-some
returns-then-one-other-clause-some c =
    subst (IsSimple c.args.one c.args.other) (sym (c.under-then-one-other.ensures ∙ ap (λ (same : Bool). under_test same c.args.one) c.agree.ensures)) (simple_same c.args.one c.args.other c.if-one-other.true)

pub returns-clause-none : goal.returns-clause-none
returns-clause-none c = record { one_some = c.if-one-eq0.false; other_some = c.if-other-eq0.false; apart = c.if-one-other.false }
