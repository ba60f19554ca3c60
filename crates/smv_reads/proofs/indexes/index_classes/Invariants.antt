use Rattle.std.proofs.Common.{◌≡◌, ◌++◌, drop, filter}
use Rattle.smv_indexes.specs.Indexes.{index_of}
use Rattle.smv_reads.specs.Views.{places, place_in, spot_in, may_lie}
use Rattle.smv_reads.proofs.indexes.index_classes.Given as goal

abbrev pub invariant-loop-class : goal.invariant-loop-class
invariant-loop-class l =
    l.classes.items ++ filter (λ c. may_lie (places l.view l.bindings) (index_of l.index) (place_in l.view (spot_in l.over c))) (drop l.class-index l.class-items)
    ≡ filter (λ c. may_lie (places l.view l.bindings) (index_of l.index) (place_in l.view (spot_in l.over c))) l.class-items
