use Rattle.std.proofs.Common.{◌≡◌, ℕ, ◌+◌, ◌-◌, List, length, map, sym, subst, ap, ◌∙◌, arith}
use Rattle.std.proofs.lemmas.Slice.Eq.{slice_eq-Decides}
use Rattle.smv_core.specs.FlatOrder.{Body}
use Rattle.smv_mentions.specs.Sizes.{things_in, statements_in}
use Rattle.smv_size.specs.Summary.{AreTold, empty_told, body_told}
use Rattle.smv_size.specs.declared.modules.ModuleSize.{ModuleSize}
use Rattle.smv_size.proofs.RoundLaws.{told-empty, told-next, told-later}
use Rattle.smv_size.proofs.EqualLaws.{decides}
use Rattle.smv_size.proofs.rounds.in_rounds.Goals as goal

pub loop-step-init : goal.loop-step-init
loop-step-init c known bodies e named all = told-empty known bodies c.args.names.now named c.in_ok-sizes.sizes.items (c.in_ok-sizes.ensures ∙ ap (λ (l : List Body). map empty_told l) all)

pub loop-step-preserved : goal.loop-step-preserved
loop-step-preserved c known bodies e named all =
    let step = c.loop-step.step in
    let told = body_told known bodies (things_in known bodies step) (statements_in known bodies step) in
    let seen = subst (λ (l : List ModuleSize). AreTold known bodies c.args.names.now l step) (sym c.as_slice.ensures.value) (c.loop-step.invariant known bodies e named all) in
    told-next known bodies c.args.names.now named c.in_ok-next.next.items step
    (c.in_ok-next.ensures known bodies (things_in known bodies step) (statements_in known bodies step) e seen ∙ ap (λ (l : List Body). map told l) all)

pub returns-then-eq : goal.returns-then-eq
returns-then-eq c known bodies e named all =
    let names = c.args.names.now in
    let n = length c.args.modules.now in
    let step = c.loop-step.step in
    let sizes = c.loop-step.sizes.items in
    let equal : c.as_slice-in-loop-step.result.now ≡ c.as_slice-in-loop-step-2.result.now =
    (slice_eq-Decides decides c.as_slice-in-loop-step.result.now c.as_slice-in-loop-step-2.result.now c.eq.result c.eq.ensures).0 c.if-eq.true in
    let same : c.in_ok-next.next.items ≡ sizes = sym c.as_slice-in-loop-step.ensures.value ∙ equal ∙ c.as_slice-in-loop-step-2.ensures.value in
    let stays = λ (k : ℕ) (told : AreTold known bodies names sizes k).
    sym same ∙ c.in_ok-next.ensures known bodies (things_in known bodies k) (statements_in known bodies k) e (subst (λ (l : List ModuleSize). AreTold known bodies names l k) (sym c.as_slice.ensures.value) told)
    ∙ ap (λ (l : List Body). map (body_told known bodies (things_in known bodies k) (statements_in known bodies k)) l) all in
    let rest : step + (n - step) ≡ n = omega (arith, c.loop-step-test.true) in
    subst (λ k. AreTold known bodies names sizes k) rest (told-later known bodies names named sizes stays step (n - step) (c.loop-step.invariant known bodies e named all))

pub returns : goal.returns
returns c known bodies e named all =
    let done : c.loop-step.step ≡ length c.args.modules.now = omega (arith, c.loop-step-test.false, c.loop-step.auto.step-end) in
    subst (λ k. AreTold known bodies c.args.names.now c.loop-step.sizes.items k) done (c.loop-step.invariant known bodies e named all)
