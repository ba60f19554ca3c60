use Rattle.std.proofs.Common.{List, ◌+◌, map, sym, subst, ap, ◌∙◌}
use Rattle.std.specs.Global.{Vec}
use Rattle.smv_core.specs.FlatOrder.{Body}
use Rattle.smv_size.specs.Summary.{empty_told}
use Rattle.smv_size.specs.Pass.{AreAtMost}
use Rattle.smv_size.specs.declared.modules.ModuleSize.{ModuleSize}
use Rattle.smv_size.proofs.PassLaws.{pass-start, pass-stays}
use Rattle.smv_size.proofs.pass.one_pass.Goals as goal
use Rattle.smv_size.proofs.pass.one_pass.Goals.{in-Some, in_default}

pub loop-turn-init : goal.loop-turn-init
loop-turn-init c known bodies e named all = pass-start known bodies c.args.names.now c.in_ok-sizes.sizes.items named (c.in_ok-sizes.ensures ∙ ap (λ (l : List Body). map empty_told l) all)

pub loop-turn-preserved : goal.loop-turn-preserved
loop-turn-preserved c known bodies e named all =
    let names = c.args.names.now in
    let turn = c.loop-turn.turn in
    let before = c.loop-turn.invariant known bodies e named all in
    elim c.match-get.branch [
      | in-Some w ↦ subst (λ (sizes : Vec ModuleSize). AreAtMost known bodies names sizes.items (turn + 1)) (sym w.sizes-is) (w.renew.ensures known bodies turn e named all before)
      | in_default w ↦ subst (λ (sizes : Vec ModuleSize). AreAtMost known bodies names sizes.items (turn + 1)) (sym w.sizes-is) (pass-stays known bodies names c.loop-turn.sizes.items turn before)
    ]
