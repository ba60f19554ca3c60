use Rattle.std.proofs.Common.{◌∙◌, length, slice_get, ap, sym, arith}
use Rattle.law_lists.proofs.Places.{get_read}
use Rattle.law_obligations.specs.Cases.{type_in}
use Rattle.law_obligations.specs.LeafCases as leaf
use Rattle.law_obligations.specs.LeafCases.{kept_of}
use Rattle.smv_cases.specs.Slots.{parameters_of}
use Rattle.smv_cases.proofs.TypeLaws.{types_more, types_all}
use Rattle.smv_cases.proofs.calls.abs_types.Goals as goal

pub loop-set-preserved : goal.loop-set-preserved
loop-set-preserved c =
    let params = c.args.leaf.now.params in
    let keeps = c.args.choice.now.keeps in
    let info = c.index-sets-set.result in
    types_more c.args.design.now.sets c.args.leaf.now.params c.args.choice.now.keeps c.args.case.now.classes c.loop-set.set c.index-sets-set.result c.loop-set.types.items c.push.new.self.items c.type_in.result
    (ap (λ xs. slice_get xs c.loop-set.set) (sym c.as_slice-sets.ensures) ∙ get_read c.as_slice-sets.result.now c.loop-set.set c.index-sets-set.result c.loop-set-test.true c.index-sets-set.is)
    c.in_ok-push.ensures.items
    (c.type_in.ensures
    ∙ (ap (λ t. type_in t c.loop-set.set (parameters_of c.as_slice-in-loop-set.result.now) c.as_slice-in-loop-set-2.result.now)
    (c.treated-treatment.ensures ∙ ap (λ ks. leaf.treatment_of info.ordered info.size (kept_of ks c.loop-set.set)) c.as_slice-keeps.ensures)
    ∙ (ap (λ ps. type_in (leaf.treatment_of info.ordered info.size (kept_of keeps c.loop-set.set)) c.loop-set.set ps c.as_slice-in-loop-set-2.result.now)
    (ap parameters_of c.as_slice-in-loop-set.ensures.value ∙ (c.in_ok-slots.ensures.parameters ∙ (ap (λ ks. leaf.parameters_of ks c.as_slice.result.now) c.as_slice-keeps.ensures ∙ ap (leaf.parameters_of keeps) c.as_slice.ensures)))
    ∙ ap (type_in (leaf.treatment_of info.ordered info.size (kept_of keeps c.loop-set.set)) c.loop-set.set (leaf.parameters_of keeps params)) c.as_slice-in-loop-set-2.ensures)))
    c.loop-set.invariant

pub returns : goal.returns
returns c =
    let long = ap length c.as_slice-sets.ensures in
    c.from_vec.ensures ∙ types_all c.args.design.now.sets c.args.leaf.now.params c.args.choice.now.keeps c.args.case.now.classes c.loop-set.set c.loop-set.types.items (omega (arith, long, c.loop-set-test.false)) c.loop-set.invariant
