use Rattle.law_designs.proofs.Constants.{constant-listed}
use Rattle.law_designs.proofs.flattening.constants_are_listed.Goals as goal

pub returns : goal.returns
returns c = λ text instance name own e. constant-listed text instance name own e
