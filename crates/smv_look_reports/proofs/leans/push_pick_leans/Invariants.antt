use Rattle.std.specs.Prelude.{◌≡◌, ◌++◌, drop, flat_map}
use Rattle.smv_look_reports.specs.Leans.{pick_lean}
use Rattle.smv_look_reports.proofs.leans.push_pick_leans.Given as goal

abbrev pub invariant-loop-pick : goal.invariant-loop-pick
invariant-loop-pick l =
    l.out.items ++ flat_map (pick_lean (record { design = l.design; units = l.units }) l.results) (drop l.pick-index l.picks)
    ≡ l.initial.out.items ++ flat_map (pick_lean (record { design = l.design; units = l.units }) l.results) l.picks
