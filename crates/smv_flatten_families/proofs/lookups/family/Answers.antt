use Rattle.std.proofs.Common.{◌++◌, ap, ◌∙◌}
use Rattle.smv_core.specs.Outcome.{fields_of}
use Rattle.smv_flatten_families.specs.Held.{instance_of}
use Rattle.std.specs.Prelude.{unwrap_or}
use Rattle.smv_flatten_families.proofs.FoundLaws.{number-is}
use Rattle.smv_flatten_families.proofs.lookups.family.Goals as goal

pub returns : goal.returns
returns c =
    c.in_ok-short.ensures ∙ c.unwrap_or-place.ensures ∙ ap (λ o. unwrap_or o c.len.result) c.in_ok-found.ensures
    ∙ number-is c.args.here (instance_of c.args.here ++ fields_of c.args.parts.now) c.len.result c.requires c.len.ensures
