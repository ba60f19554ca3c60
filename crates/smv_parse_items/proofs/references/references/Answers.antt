-- Each turn takes a comma at the least.
use Rattle.smv_parse_items.proofs.Loops.{refs_shrink}
use Rattle.smv_parse_items.proofs.references.references.Goals as goal

pub loop-alloc-smaller : goal.loop-alloc-smaller
loop-alloc-smaller c = refs_shrink c.args.levels c.loop-alloc.rest.now _ c.in_ok-next.after.now c.in_ok-next.ensures.found
