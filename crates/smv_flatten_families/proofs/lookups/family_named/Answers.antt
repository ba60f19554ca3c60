use Rattle.std.proofs.Common.{◌++◌, ap, ◌∙◌}
use Rattle.smv_flatten_families.specs.Paths.{path_of}
use Rattle.smv_flatten_families.specs.Held.{instance_of}
use Rattle.std.specs.Prelude.{unwrap_or}
use Rattle.smv_flatten_families.proofs.FoundLaws.{place-is, number-is}
use Rattle.smv_flatten_families.proofs.lookups.family_named.Goals as goal

pub returns : goal.returns
returns c =
    c.in_ok-short.ensures ∙ c.unwrap_or-place.ensures
    ∙ ap (λ o. unwrap_or o c.len.result) (c.place_of-found.ensures ∙ place-is c.args.here c.in_ok-key.key (instance_of c.args.here ++ path_of c.args.names.now) c.requires c.in_ok-key.ensures)
    ∙ number-is c.args.here (instance_of c.args.here ++ path_of c.args.names.now) c.len.result c.requires c.len.ensures
