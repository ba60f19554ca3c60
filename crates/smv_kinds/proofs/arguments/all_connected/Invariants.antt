use Rattle.std.proofs.Common.{◌≡◌, ◌++◌, drop, zip}
use Rattle.std.specs.List.{flat_map}
use Rattle.smv_core.specs.Types.{find_name}
use Rattle.law_designs.specs.KindFaults.{connected}
use Rattle.smv_expression_kinds.specs.Found.{scope_of}
use Rattle.smv_kinds.proofs.arguments.all_connected.Given as goal

abbrev pub invariant-loop-x : goal.invariant-loop-x
invariant-loop-x l =
    l.out.items ++ flat_map (λ (word, e). connected (scope_of l.scope) (scope_of l.inner).here.types (find_name (scope_of l.inner).here.own word.name) e) (zip l.left (drop l.x-index l.args))
    ≡ l.initial.out.items ++ flat_map (λ (word, e). connected (scope_of l.scope) (scope_of l.inner).here.types (find_name (scope_of l.inner).here.own word.name) e) (zip l.initial.left l.args)
