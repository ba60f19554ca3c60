use Rattle.std.proofs.Common.{◌≡◌, ◌++◌, drop}
use Rattle.std.specs.List.{flat_map}
use Rattle.smv_mentions.specs.Scopes.{first_of_places}
use Rattle.smv_first_fault.specs.Firsts.{least}
use Rattle.smv_choices.specs.Parts.{picks_by, claims_by, unknown_by}
use Rattle.smv_choices.proofs.found.all_uses.Given as goal

abbrev pub invariant-loop-x : goal.invariant-loop-x
invariant-loop-x l = record {
  picks : l.out.picks ++ flat_map (picks_by l.tables.design.now) (drop l.x-index l.uses) ≡ flat_map (picks_by l.tables.design.now) l.uses;
  claims : l.out.claims ++ flat_map (claims_by l.tables.design.now) (drop l.x-index l.uses) ≡ flat_map (claims_by l.tables.design.now) l.uses;
  unknown : first_of_places l.out.unknown (least (flat_map (unknown_by l.tables.design.now) (drop l.x-index l.uses))) ≡ least (flat_map (unknown_by l.tables.design.now) l.uses);
}
