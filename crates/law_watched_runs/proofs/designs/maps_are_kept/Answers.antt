use Rattle.law_watched_runs.proofs.Maps.{maps-kept}
use Rattle.law_watched_runs.proofs.designs.maps_are_kept.Goals as goal

pub returns : goal.returns
returns c = maps-kept
