use Rattle.std.proofs.Common.{◌≡◌, ℕ, ◌<◌, true, length, arith}
use Rattle.bdd_store.specs.Diagram.{table, first_var}
use Rattle.bdd_ops.specs.Functions.{depends, bit_at}
use Rattle.bdd_ops.specs.Memo.{same_one}
use Rattle.bdd_ops.proofs.MemoLaws.{one_test}
use Rattle.bdd_ops.proofs.KnownLaws.{all_put}
use Rattle.bdd_ops.proofs.Depends.{clash, constant_not}
use Rattle.bdd_ops.proofs.SupportLaws.{flagged_low, flagged_high, all_flagged}
use Rattle.bdd_ops.proofs.questions.+flag_support.Goals as goal

pub returns-in-Some-clause-all : goal.returns-in-Some-clause-all
returns-in-Some-clause-all t c v dep = clash (depends c.args.store.now.vars (table c.args.store.now c.args.f) v) dep (constant_not c.args.store.now.vars v (table c.args.store.now c.args.f) c.in-Some.field-0 c.in-Some.ensures.some)

pub returns-in_err-flag_support-clause-only : goal.returns-in_err-flag_support-clause-only
returns-in_err-flag_support-clause-only t c =
    flagged_low c.args.store.now c.args.f c.low-low.result c.high-high.result c.var-var.result (first_var c.args.store.now c.args.f) c.var-var.ensures.var c.low-low.ensures.table c.high-high.ensures.table c.args.flags.now.items c.flag_support.new.flags.items c.var-var.ensures.from c.var-var.ensures.first c.in_err-flag_support.ensures.only

pub returns-in_err-flag_support-2-clause-only : goal.returns-in_err-flag_support-2-clause-only
returns-in_err-flag_support-2-clause-only t c =
    flagged_high c.args.store.now c.args.f c.low-low.result c.high-high.result c.var-var.result (first_var c.args.store.now c.args.f) c.var-var.ensures.var c.low-low.ensures.table c.high-high.ensures.table c.args.flags.now.items c.flag_support.new.flags.items c.var-var.ensures.from c.var-var.ensures.first c.in_ok-flag_support.ensures.only c.flag_support-2.new.flags.items c.in_err-flag_support-2.ensures.only

pub returns-in_err-insert-clause-only : goal.returns-in_err-insert-clause-only
returns-in_err-insert-clause-only t c =
    flagged_high c.args.store.now c.args.f c.low-low.result c.high-high.result c.var-var.result (first_var c.args.store.now c.args.f) c.var-var.ensures.var c.low-low.ensures.table c.high-high.ensures.table c.args.flags.now.items c.flag_support.new.flags.items c.var-var.ensures.from c.var-var.ensures.first c.in_ok-flag_support.ensures.only c.flag_support-2.new.flags.items c.in_ok-flag_support-2.ensures.only

pub returns-clause-only : goal.returns-clause-only
returns-clause-only t c =
    flagged_high c.args.store.now c.args.f c.low-low.result c.high-high.result c.var-var.result (first_var c.args.store.now c.args.f) c.var-var.ensures.var c.low-low.ensures.table c.high-high.ensures.table c.args.flags.now.items c.flag_support.new.flags.items c.var-var.ensures.from c.var-var.ensures.first c.in_ok-flag_support.ensures.only c.flag_support-2.new.flags.items c.in_ok-flag_support-2.ensures.only

all_done : (t : ℕ) (c : goal.In_ok-insert t) (v : ℕ) → depends c.args.store.now.vars (table c.args.store.now c.args.f) v ≡ true → bit_at c.flag_support-2.new.flags.items v ≡ true
all_done t c =
    let lt : c.var-var.result < length c.args.flags.now.items = omega (arith, c.requires.length, c.var-var.ensures.within) in
    all_flagged c.args.store.now c.args.f c.low-low.result c.high-high.result c.var-var.result (first_var c.args.store.now c.args.f) c.var-var.ensures.var c.low-low.ensures.table c.high-high.ensures.table c.args.flags.now.items c.flag_support.new.flags.items c.flag_support-2.new.flags.items lt
    c.in_ok-flag_support.ensures.kept c.in_ok-flag_support-2.ensures.kept c.in_ok-flag_support.ensures.all c.in_ok-flag_support-2.ensures.all

pub returns-clause-all : goal.returns-clause-all
returns-clause-all t c = all_done t c

pub returns-clause-seen : goal.returns-clause-seen
returns-clause-seen t c =
    all_put same_one one_test (λ q. (v : ℕ) → depends c.args.store.now.vars (table c.args.store.now q) v ≡ true → bit_at c.flag_support-2.new.flags.items v ≡ true)
    c.flag_support-2.new.seen c.insert.new.self c.args.f c.in_ok-insert.ensures.updates c.in_ok-flag_support-2.ensures.seen (all_done t c)
