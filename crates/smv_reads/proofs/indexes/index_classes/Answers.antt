use Rattle.std.proofs.Common.{Bool, filter, ap, sym, ◌∙◌}
use Rattle.smv_core.specs.Assignments.{Index}
use Rattle.smv_core.specs.FlatMeaning.{flat_index}
use Rattle.smv_core.specs.declared.flat.Class.{Class}
use Rattle.smv_indexes.specs.Indexes.{index_of}
use Rattle.smv_reads.specs.Views.{places, place_in, spot_in, classes_in, may_lie}
use Rattle.smv_reads.proofs.IndexLaws.{some-classes, all-taken}
use Rattle.smv_reads.proofs.indexes.index_classes.Goals as goal

pub returns : goal.returns
returns c =
    let v = c.args.view.now in
    let b = places c.args.view.now c.args.bindings.now in
    let test : Index → Class → Bool = λ i k. may_lie b i (place_in v (spot_in c.args.over k)) in
    c.from_vec.ensures
    ∙ (all-taken c.loop-class.classes.items (test (index_of c.known-index.result)) c.as_slice-class-items.result.now c.loop-class.class-index c.loop-class-test.false c.loop-class.invariant
    ∙ (ap (filter (test (index_of c.known-index.result))) (c.as_slice-class-items.ensures.value ∙ c.in_ok-all.ensures)
    ∙ (ap (λ (i : Index). filter (test i) (classes_in v.types.now c.args.over)) c.known-index.ensures
    ∙ sym (some-classes v c.requires.view c.args.bindings.now (flat_index c.args.x.now) c.args.over c.requires.over))))
