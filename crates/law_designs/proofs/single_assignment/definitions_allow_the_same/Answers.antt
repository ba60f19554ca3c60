use Rattle.law_designs.specs.Laws.{AllowsTheSame}
use Rattle.law_designs.specs.Definitions.{def_of, first_heads}
use Rattle.law_designs.proofs.SameResults.{all-map, allowed-same}
use Rattle.law_designs.proofs.single_assignment.definitions_allow_the_same.Goals as goal

pub returns : goal.returns
returns c = λ flat_text. all-map (def_of flat_text) (AllowsTheSame flat_text) (λ head sizes layer h x k every before now. allowed-same flat_text sizes layer x every head h k before now) (first_heads flat_text)
