use Rattle.std.proofs.Common.{◌≡◌, ◌≤◌, ◌+◌, ◌-◌, ◌++◌, length, take}
use Rattle.law_formula_texts.specs.Laws.{names_of}
use Rattle.law_formulas.specs.Monitors.{free_names}
use Rattle.smv_ltl.specs.Names.{free_from}
use Rattle.smv_ltl.proofs.names.free_names.Given as goal

abbrev pub invariant-loop-k : goal.invariant-loop-k
invariant-loop-k l = record {
  within : length l.names.items ≤ l.count;
  left : l.names.items ++ take (l.count - length l.names.items) (free_from (names_of l.tokens) l.k (l.count + length (names_of l.tokens) - l.k)) ≡ free_names (names_of l.tokens) l.count;
}
