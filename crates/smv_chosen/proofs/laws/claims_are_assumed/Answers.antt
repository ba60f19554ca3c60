use Rattle.smv_chosen.proofs.ClaimLaws.{claim-assumed}
use Rattle.smv_chosen.proofs.laws.claims_are_assumed.Goals as goal

pub returns : goal.returns
returns c d used = claim-assumed d used
