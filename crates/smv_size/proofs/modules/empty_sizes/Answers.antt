use Rattle.std.proofs.Common.{◌++◌, ◌∷◌, [], ap, refl, ◌∙◌}
use Rattle.smv_size.specs.Summary.{body_of, empty_told}
use Rattle.smv_size.specs.declared.modules.ModuleSize.{ModuleSize}
use Rattle.smv_size.proofs.MetLaws.{map-turn}
use Rattle.smv_size.proofs.SummaryLaws.{same_size}
use Rattle.smv_size.proofs.modules.empty_sizes.Goals as goal

pub loop-text-preserved : goal.loop-text-preserved
loop-text-preserved c =
    let before = c.loop-text.sizes.items in
    let size = empty_told (body_of c.text-item.result) in
    c.in_ok-push.ensures.items ∙ ap (λ (s : ModuleSize). before ++ s ∷ []) (same_size c.number_of.result size.formals c.nothing.result size.things 0 0 c.number_of.ensures c.nothing.ensures refl)
    ∙ map-turn empty_told body_of c.args.modules.now c.loop-text.text-index c.text-item.result before c.loop-text-test.true c.text-item.is c.loop-text.invariant
