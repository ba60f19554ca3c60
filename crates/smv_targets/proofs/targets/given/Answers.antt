use Rattle.smv_targets.proofs.GivenLaws.{outside_among, inside_among}
use Rattle.smv_targets.proofs.targets.given.Goals as goal

pub returns-in_default-clause-among : goal.returns-in_default-clause-among
returns-in_default-clause-among g c = outside_among c.args.target.now _ _ c.outside.ensures

pub returns-in-Some-held-clause-among : goal.returns-in-Some-held-clause-among
returns-in-Some-held-clause-among g c = inside_among c.args.target.now _ _ _ _ _ _ c.as_slice.ensures c.in-Some-held.is c.held.ensures.among c.inside.ensures

pub returns-in-None-clause-among : goal.returns-in-None-clause-among
returns-in-None-clause-among g c = outside_among c.args.target.now _ _ c.outside-in-None.ensures
