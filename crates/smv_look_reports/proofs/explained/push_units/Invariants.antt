use Rattle.std.specs.Prelude.{◌≡◌, ◌++◌, drop}
use Rattle.smv_look_reports.specs.Explained.{all_lines, units_lines}
use Rattle.smv_look_reports.proofs.explained.push_units.Given as goal

abbrev pub invariant-loop-u : goal.invariant-loop-u
invariant-loop-u l =
    l.out.items ++ all_lines (record { design = l.plan.design; units = l.plan.units }) l.results (drop l.u l.units) (drop l.u l.leaves) (drop l.u l.choices) (drop l.u l.timed) (drop l.u l.results) (drop l.u l.allowed)
    ≡ l.initial.out.items ++ units_lines l.plan l.results l.allowed
