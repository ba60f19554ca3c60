use Rattle.law_designs.proofs.TypeNumbers.{types-of-text}
use Rattle.smv_core.specs.FlatOrder.{design_of}
use Rattle.smv_core.specs.Allowed.{every_value}
use Rattle.law_designs.proofs.SameSets.{set-same}
use Rattle.law_designs.proofs.flattening.definition_sets_are_the_same.Goals as goal

pub returns : goal.returns
returns c = λ text faultless sizes s t states right layer kind x f found. set-same text sizes s t states (types-of-text text faultless sizes) layer kind x (every_value (design_of text) sizes x) f found right
