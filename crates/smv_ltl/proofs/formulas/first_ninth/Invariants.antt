use Rattle.std.proofs.Common.{◌≡◌, drop}
use Rattle.law_formulas.specs.Ninths.{first_ninth}
use Rattle.smv_parse_formulas.specs.Trees.{meanings}
use Rattle.smv_ltl.proofs.formulas.first_ninth.Given as goal

abbrev pub invariant-loop-placed : goal.invariant-loop-placed
invariant-loop-placed l = first_ninth (meanings (drop l.placed-index l.formulas)) ≡ first_ninth (meanings l.formulas)
