use Rattle.std.proofs.Common.{◌≡◌, length}
use Rattle.smv_expression_kinds.specs.Forms.{AreForms}
use Rattle.smv_expression_kinds.proofs.tables.forms_of.Given as goal

abbrev pub invariant-loop-place : goal.invariant-loop-place
invariant-loop-place l = (length l.forms.items ≡ l.place) × AreForms l.names l.forms.items
