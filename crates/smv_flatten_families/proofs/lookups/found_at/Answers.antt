use Rattle.std.proofs.Common.{◌++◌, ◌∙◌}
use Rattle.smv_core.specs.Outcome.{fields_of}
use Rattle.smv_flatten_families.specs.Held.{instance_of}
use Rattle.smv_flatten_families.proofs.FoundLaws.{place-is}
use Rattle.smv_flatten_families.proofs.lookups.found_at.Goals as goal

pub returns : goal.returns
returns c = c.place_of.ensures ∙ place-is c.args.here c.in_ok-key.key (instance_of c.args.here ++ fields_of c.args.parts.now) c.requires c.in_ok-key.ensures
