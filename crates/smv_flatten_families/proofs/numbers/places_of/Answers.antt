use Rattle.std.proofs.Common.{ap, sym, ◌∙◌}
use Rattle.smv_flatten_families.specs.Paths.{path_of}
use Rattle.smv_flatten_families.specs.declared.families.Placed.{Placed}
use Rattle.smv_flatten_families.proofs.BuildLaws.{place-push}
use Rattle.smv_flatten_families.proofs.numbers.places_of.Goals as goal

pub loop-place-preserved : goal.loop-place-preserved
loop-place-preserved c =
    place-push c.args.all.now c.loop-place.place c.index-all-place.result c.from_vec.result c.loop-place.places c.note_place.new.places c.loop-place-test.true c.index-all-place.is
    (c.from_vec.ensures ∙ ap path_of (c.in_ok-names.ensures.items ∙ c.as_slice.ensures.value) ∙ ap (λ (p : Placed). path_of p.names.items) (sym c.index-all-place.is)) c.loop-place.invariant c.in_ok-note_place.ensures
