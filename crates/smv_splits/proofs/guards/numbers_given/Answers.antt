use Rattle.std.proofs.Common.{◌∙◌, ap, map}
use Rattle.std.specs.Prelude.{unwrap_or}
use Rattle.smv_splits.proofs.guards.numbers_given.Goals as goal

pub returns : goal.returns
returns c = c.in_ok-given.ensures ∙ ap (map (λ place. unwrap_or place 0)) (c.deref.ensures.value ∙ c.in_ok-places.ensures)
