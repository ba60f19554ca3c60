-- Each turn takes a comma at the least.
use Rattle.smv_parse_items.proofs.Loops.{pairs_shrink}
use Rattle.smv_parse_items.proofs.references.pairs.Goals as goal

pub loop-alloc-smaller : goal.loop-alloc-smaller
loop-alloc-smaller c = pairs_shrink c.args.levels c.loop-alloc.rest.now _ c.in_ok-next.after.now c.in_ok-next.ensures.found
