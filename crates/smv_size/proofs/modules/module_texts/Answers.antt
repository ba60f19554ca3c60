use Rattle.std.proofs.Common.{◌++◌, ◌∷◌, [], ap, ◌∙◌}
use Rattle.smv_core.specs.Values.{Name}
use Rattle.smv_core.specs.FlatOrder.{Body, modules}
use Rattle.smv_size.specs.Summary.{module_bodies}
use Rattle.smv_size.proofs.MetLaws.{modules-turn}
use Rattle.smv_size.proofs.modules.module_texts.Goals as goal

pub loop-top-preserved : goal.loop-top-preserved
loop-top-preserved c =
    let top = c.top-item.result in
    c.in_ok-note_text.ensures ∙ ap (λ l. l ++ module_bodies (modules (top ∷ []))) c.loop-top.invariant
    ∙ modules-turn (λ (top : Name × Body). top.1) c.args.tops.now c.loop-top.top-index top c.loop-top-test.true c.top-item.is
