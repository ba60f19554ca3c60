use Rattle.std.proofs.Common.{◌≡◌, drop}
use Rattle.std.specs.Prelude.{option_map}
use Rattle.smv_core.specs.Outcome.{fields_of}
use Rattle.smv_flatten_statements.specs.Around.{only}
use Rattle.smv_flatten_statements.proofs.VarLaws.{only_behind}
use Rattle.smv_flatten_statements.proofs.vars.only_name.Given as goal

abbrev pub invariant-loop-part : goal.invariant-loop-part
invariant-loop-part l = only_behind (option_map (λ name. name.now) l.found) (fields_of (drop l.part-index l.parts)) ≡ only (fields_of l.parts)
