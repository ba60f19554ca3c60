use Rattle.law_obligations.proofs.DemandsKeep.{map_may, map_must}
use Rattle.law_obligations.proofs.GuardsKeep.{claim_may, claim_must}
use Rattle.law_obligations.proofs.abstraction.demands_are_kept.Goals as goal

pub returns-clause-maps : goal.returns-clause-maps
returns-clause-maps c n types spots facts kept def f is_family xs of_types classes is_kept single now is_now a picture before old pictured = (
  map_may n types spots facts kept def f is_family xs of_types classes is_kept single now is_now a picture before old pictured,
  map_must n types spots facts kept def f is_family xs of_types classes is_kept single now is_now a picture before old pictured,
)

pub returns-clause-claims : goal.returns-clause-claims
returns-clause-claims c n types spots facts s is_state kept a picture body b h =
    (claim_may n types spots facts s is_state kept a picture body b h, claim_must n types spots facts s is_state kept a picture body b h)
