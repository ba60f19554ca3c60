use Rattle.std.specs.Prelude.{◌≡◌, ◌++◌, drop, map}
use Rattle.smv_problem.specs.declared.problem.AbsState.{AbsState}
use Rattle.law_read_reports.specs.Shown.{value_names}
use Rattle.smv_look_reports.proofs.paths.path_names.Given as goal

abbrev pub invariant-loop-state : goal.invariant-loop-state
invariant-loop-state l = l.states ++ map (λ (state : AbsState). value_names l.design l.elements state.values) (drop l.state-index l.path) ≡ map (λ (state : AbsState). value_names l.design l.elements state.values) l.path
