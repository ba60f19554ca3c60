use Rattle.std.proofs.Common.{◌≡◌, ℕ, ◌||◌, drop}
use Rattle.std.specs.Prelude.{Some}
use Rattle.std.specs.List.{list_any}
use Rattle.law_obligations.specs.Outlines.{is_def}
use Rattle.smv_choices.specs.Held.{is_noted}
use Rattle.smv_choices.proofs.tables.defined_in.Given as goal

abbrev pub invariant-loop-def : goal.invariant-loop-def
invariant-loop-def l = (family layer : ℕ) → (is_noted l.defined (family, layer) || list_any (λ def. is_def family layer (Some def)) (drop l.def-index l.defs)) ≡ list_any (λ def. is_def family layer (Some def)) l.defs
