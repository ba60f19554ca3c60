use Rattle.std.proofs.Common.{◌≡◌, ◌++◌}
use Rattle.std.specs.List.{flat_map}
use Rattle.law_designs.specs.Definitions.{each_value}
use Rattle.smv_design.specs.declared.owners.Owner.{Owner}
use Rattle.smv_design.specs.Parts.{kept}
use Rattle.smv_design.specs.Groups.{parts_for}
use Rattle.smv_design.proofs.statements.each_part.Given as goal

abbrev pub invariant-loop-part : goal.invariant-loop-part
invariant-loop-part l = (owner : Owner) →
    parts_for owner l.parts.items ++ flat_map (λ p. kept (each_value l.var l.over p)) (parts_for owner l.part-iterator.rest.items) ≡ flat_map (λ p. kept (each_value l.var l.over p)) (parts_for owner l.fn.body.items)
