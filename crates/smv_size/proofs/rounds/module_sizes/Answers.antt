use Rattle.std.proofs.Common.{◌≡◌, List, length, map, sym, subst, ap, ◌∙◌}
use Rattle.std.proofs.lemmas.Slice.Eq.{slice_eq-Decides}
use Rattle.smv_core.specs.FlatOrder.{Body, modules}
use Rattle.smv_size.specs.Summary.{AreTold, AreToldOf, body_of, body_told, module_bodies}
use Rattle.smv_size.specs.declared.modules.ModuleSize.{ModuleSize}
use Rattle.smv_size.proofs.EqualLaws.{decides}
use Rattle.smv_size.proofs.PassLaws.{pass-ends, as-many}
use Rattle.smv_size.proofs.rounds.module_sizes.Goals as goal

pub returns-then-eq : goal.returns-then-eq
returns-then-eq c known e =
    let bodies = modules c.args.tops.now in
    let names = c.args.names.now in
    let texts = c.as_slice-modules.result.now in
    let sizes = c.in_ok-sizes.sizes.items in
    let all : map body_of texts ≡ module_bodies bodies = ap (map body_of) c.as_slice-modules.ensures.value ∙ c.in_ok-modules.ensures in
    let most = c.in_ok-sizes.ensures known bodies e c.requires all in
    let seen = subst (λ (l : List ModuleSize). AreToldOf known bodies most.things most.statements names l) (sym c.as_slice.ensures.value) most.told in
    let equal : c.as_slice-2.result.now ≡ c.as_slice-3.result.now = (slice_eq-Decides decides c.as_slice-2.result.now c.as_slice-3.result.now c.eq.result c.eq.ensures).0 c.if-eq.true in
    let stays = sym c.as_slice-3.ensures.value ∙ sym equal ∙ c.as_slice-2.ensures.value ∙ c.in_ok-next.ensures known bodies most.things most.statements e seen
    ∙ ap (λ (l : List Body). map (body_told known bodies most.things most.statements) l) all in
    subst (λ k. AreTold known bodies names sizes k) (as-many body_of texts bodies all) (pass-ends known bodies names c.requires sizes (length texts) most stays)
