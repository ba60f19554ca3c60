use Rattle.std.proofs.Common.{◌≡◌, ◌*◌, ◌+◌, [], ◌∷◌, ◌++◌, drop, length}
use Rattle.std.specs.List.{flat_map}
use Rattle.smv_elements.specs.Elements.{put_all}
use Rattle.smv_reads.specs.Reading.{elements_from}
use Rattle.smv_reads.proofs.references.+choices.Given as goal

abbrev pub decreases-put_from : goal.decreases-put_from
decreases-put_from l = 2 * length l.choices.now

abbrev pub decreases-put_each : goal.decreases-put_each
decreases-put_each l = 2 * length l.more.now + 1

abbrev pub invariant-put_each-loop-class : goal.invariant-put_each-loop-class
invariant-put_each-loop-class l =
    put_all l.found (flat_map (λ c. elements_from l.family (l.front ++ c ∷ []) l.more) (drop l.class-index l.classes)) ≡ put_all l.initial.found (elements_from l.family l.front (l.classes ∷ l.more))
