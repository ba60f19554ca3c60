use Rattle.std.proofs.Common.{◌∙◌, [], ap, length, arith}
use Rattle.law_obligations.specs.LeafCases.{leaf_cases}
use Rattle.smv_cases.specs.Slots.{grown_of}
use Rattle.smv_cases.proofs.SlotLaws.{told, leaf_grows}
use Rattle.smv_cases.proofs.gather.gather.Goals as goal

pub returns : goal.returns
returns c =
    let sets = c.args.sets.now in
    let params = c.args.params.now in
    let keeps = c.args.keeps.now in
    let slots = c.in_ok-slots.slots.items in
    let same = ap (λ xs. grown_of xs [] xs) c.as_slice.ensures.value ∙ leaf_grows sets params keeps slots c.in_ok-slots.ensures.parameters c.in_ok-slots.ensures.treatments in
    told c.from_slots.result (grown_of c.as_slice.result.now [] c.as_slice.result.now) (leaf_cases sets params keeps) (length params) same (omega (arith, c.if-params-gt-MOST_PARAMETERS.false)) c.from_slots.ensures
