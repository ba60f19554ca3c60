use Rattle.std.proofs.Common.{◌≡◌, ◌++◌, drop}
use Rattle.std.specs.List.{flat_map}
use Rattle.smv_unit_tables.specs.Reads.{read_in}
use Rattle.smv_use_times.proofs.same_time.add_guards.Given as goal

abbrev pub invariant-loop-guard : goal.invariant-loop-guard
invariant-loop-guard l = l.out.items ++ flat_map (λ guard. read_in l.families guard.expr) (drop l.guard-index l.guards) ≡ l.initial.out.items ++ flat_map (λ guard. read_in l.families guard.expr) l.guards
