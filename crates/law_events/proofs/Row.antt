-- The counts of a toggle.
use Rattle.std.proofs.Common.{refl}
use Rattle.bdd_store.specs.Beads.{truth_table, same_bit, same_block, blocks_of, count_distinct, bead_count}
use Rattle.bdd_store.specs.Graph.{with_at}
use Rattle.bdd_ops.specs.Functions.{depends}
use Rattle.law_events.specs.Events.{count}
use Rattle.law_events.specs.Laws.{ToggleCounts}

pub toggle_counts : ToggleCounts
unfolding count bead_count count_distinct blocks_of same_block same_bit truth_table with_at depends
toggle_counts = refl
