use Rattle.std.proofs.Common.{◌≡◌, drop}
use Rattle.smv_core.specs.Types.{names_of}
use Rattle.smv_core.specs.Outcome.{same_path}
use Rattle.smv_expression_kinds.proofs.lists.same_names.Given as goal

abbrev pub invariant-loop-index : goal.invariant-loop-index
invariant-loop-index l =
    same_path (names_of (drop l.index l.names)) (names_of (drop l.index l.others)) ≡ same_path (names_of l.names) (names_of l.others)
