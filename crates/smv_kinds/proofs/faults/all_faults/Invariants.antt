use Rattle.std.proofs.Common.{◌≡◌, ◌++◌, [], drop}
use Rattle.smv_mentions.specs.Scopes.{pieces, constants}
use Rattle.law_designs.specs.References.{modules_from}
use Rattle.law_designs.specs.KindFaults.{in_tops}
use Rattle.smv_expression_kinds.specs.Forms.{types_before}
use Rattle.smv_kinds.proofs.faults.all_faults.Given as goal

abbrev pub invariant-loop-place : goal.invariant-loop-place
invariant-loop-place l =
    l.out.items ++ in_tops (modules_from [] l.tables.names.text.now.tops) (constants (pieces l.tables.names.text.now)) (types_before l.tables.names.text.now l.place) (drop l.place l.tables.names.text.now.tops)
    ≡ in_tops (modules_from [] l.tables.names.text.now.tops) (constants (pieces l.tables.names.text.now)) [] l.tables.names.text.now.tops
