use Rattle.std.proofs.Common.{◌≡◌, ◌<◌, ◌≤◌, List, length, map, inr, ap, ◌∙◌, arith}
use Rattle.smv_core.specs.declared.flat.Case.{Case}
use Rattle.smv_core.specs.declared.flat.Param.{Param}
use Rattle.law_obligations.specs.Sets.{one_of_each}
use Rattle.law_concrete.specs.Sizes.{product}
use Rattle.smv_cases.specs.Slots.{classes_of}
use Rattle.smv_reads.specs.Views.{classes_in}
use Rattle.smv_concrete.proofs.Refusals.{counted}
use Rattle.smv_concrete.proofs.cases.few_cases.Goals as goal

pub returns-in-None : goal.returns-in-None
returns-in-None c =
    let same : product c.as_slice.result.now ≡ product (map (λ (q : Param). length (classes_in c.args.types.now q.over)) c.args.params.now) = ap product (c.as_slice.ensures.value ∙ c.in_ok-counts.ensures) in
    let long = counted (λ (q : Param). classes_in c.args.types.now q.over) c.args.params.now in
    let beyond : 4096 < product c.as_slice.result.now = c.in-None.ensures in
    inr (omega (arith, same, long, beyond))

pub returns : goal.returns
returns c =
    let same : product c.as_slice.result.now ≡ product (map (λ (q : Param). length (classes_in c.args.types.now q.over)) c.args.params.now) = ap product (c.as_slice.ensures.value ∙ c.in_ok-counts.ensures) in
    let long = counted (λ (q : Param). classes_in c.args.types.now q.over) c.args.params.now in
    let is : c.in-Some.field-0 ≡ product c.as_slice.result.now = c.in-Some.ensures.0 in
    let within : c.in-Some.field-0 ≤ 4096 = c.in-Some.ensures.1 in
    let few : length (one_of_each (map (λ (q : Param). classes_in c.args.types.now q.over) c.args.params.now)) ≤ 4096 = omega (arith, same, long, is, within) in (
      ap (λ (cases : List Case). classes_of cases) c.from_vec.ensures ∙ c.in_ok-cases-in-Some.ensures,
      c.if-params-gt-MOST_PARAMETERS.false,
      few,
    )
