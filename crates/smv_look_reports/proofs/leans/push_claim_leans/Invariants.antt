use Rattle.std.specs.Prelude.{◌≡◌, ◌++◌, drop, flat_map}
use Rattle.smv_look_reports.specs.Leans.{claim_lean}
use Rattle.smv_look_reports.proofs.leans.push_claim_leans.Given as goal

abbrev pub invariant-loop-used : goal.invariant-loop-used
invariant-loop-used l =
    l.out.items ++ flat_map (claim_lean (record { design = l.design; units = l.units }) l.results) (drop l.used-index l.claims)
    ≡ l.initial.out.items ++ flat_map (claim_lean (record { design = l.design; units = l.units }) l.results) l.claims
