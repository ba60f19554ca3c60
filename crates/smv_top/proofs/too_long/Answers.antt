use Rattle.std.proofs.Common.{refl}
use Rattle.std.specs.Fmt.{digits}
use Rattle.smv_top.proofs.too_long.Goals as goal

pub returns-in-Check : goal.returns-in-Check
unfolding digits
returns-in-Check c = rw c.in-Check.is refl

pub returns-in-Resume : goal.returns-in-Resume
unfolding digits
returns-in-Resume c = rw c.in-Resume.is refl

pub returns-in-Prove : goal.returns-in-Prove
unfolding digits
returns-in-Prove c = rw c.in-Prove.is refl

pub returns-in-Only : goal.returns-in-Only
unfolding digits
returns-in-Only c = rw c.in-Only.is refl

pub returns-in-Print : goal.returns-in-Print
unfolding digits
returns-in-Print c = rw c.in-Print.is refl

pub returns-in-Generated : goal.returns-in-Generated
unfolding digits
returns-in-Generated c = rw c.in-Generated.is refl

pub returns-in-Proof : goal.returns-in-Proof
unfolding digits
returns-in-Proof c = rw c.in-Proof.is refl

pub returns-in-Confirm : goal.returns-in-Confirm
unfolding digits
returns-in-Confirm c = rw c.in-Confirm.is refl

pub returns-in-Induct : goal.returns-in-Induct
unfolding digits
returns-in-Induct c = rw c.in-Induct.is refl

pub returns-in-Ltl : goal.returns-in-Ltl
unfolding digits
returns-in-Ltl c = rw c.in-Ltl.is refl
