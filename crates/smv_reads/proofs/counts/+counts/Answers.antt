use Rattle.std.proofs.Common.{ap, sym, ◌∙◌}
use Rattle.smv_reads.specs.Views.{places}
use Rattle.smv_reads.proofs.CountLaws.{over-spots}
use Rattle.smv_reads.proofs.counts.+counts.Goals as goal

pub counts_over-loop-p-init : goal.counts_over-loop-p-init
counts_over-loop-p-init t c =
    sym (over-spots c.args.view.now c.args.own.now c.args.bindings.now c.args.var c.args.over c.args.body.now c.as_slice-p-items.result.now (ap (places c.args.view.now) c.as_slice-p-items.ensures.value ∙ c.in_ok-spots.ensures))
