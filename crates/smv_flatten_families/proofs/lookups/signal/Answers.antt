use Rattle.std.proofs.Common.{◌++◌, ap, sym, ◌∙◌}
use Rattle.smv_core.specs.Outcome.{fields_of}
use Rattle.smv_flatten_families.specs.Held.{instance_of}
use Rattle.std.specs.Prelude.{Some}
use Rattle.smv_flatten_families.proofs.FoundLaws.{signal-some, signal-none}
use Rattle.smv_flatten_families.proofs.lookups.signal.Goals as goal

pub returns-in_ok-short-in-Some : goal.returns-in_ok-short-in-Some
returns-in_ok-short-in-Some c =
    ap Some c.in_ok-short-in-Some.ensures ∙ signal-some c.args.here (instance_of c.args.here ++ fields_of c.args.parts.now) c.in-Some.place c.requires (sym c.in_ok-place.ensures ∙ c.in-Some.is)

pub returns-in-None : goal.returns-in-None
returns-in-None c = signal-none c.args.here (instance_of c.args.here ++ fields_of c.args.parts.now) (sym c.in_ok-place.ensures ∙ c.in-None.is)
