use Rattle.std.proofs.Common.{◌++◌, ◌∷◌, [], ap, ◌∙◌}
use Rattle.smv_size.specs.Summary.{body_of, body_told}
use Rattle.smv_size.specs.declared.modules.ModuleSize.{ModuleSize}
use Rattle.smv_size.proofs.MetLaws.{map-turn}
use Rattle.smv_size.proofs.modules.next_sizes.Goals as goal

pub loop-text-preserved : goal.loop-text-preserved
loop-text-preserved c known bodies things counts e f =
    let before = c.loop-text.next.items in
    c.in_ok-push.ensures.items ∙ ap (λ (s : ModuleSize). before ++ s ∷ []) (c.body_size.ensures known bodies things counts e f)
    ∙ map-turn (body_told known bodies things counts) body_of c.args.modules.now c.loop-text.text-index c.text-item.result before c.loop-text-test.true c.text-item.is (c.loop-text.invariant known bodies things counts e f)
