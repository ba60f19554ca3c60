use Rattle.std.proofs.Common.{[], ◌∙◌}
use Rattle.smv_core.specs.FlatOrder.{design_of}
use Rattle.smv_core.specs.Allowed.{every_value}
use Rattle.law_designs.specs.Agreement.{flat_element}
use Rattle.law_designs.specs.Flattening.{flatten, scope_in}
use Rattle.law_designs.proofs.SameAllowed as flat
use Rattle.law_designs.proofs.TypeNumbers.{types-of-text}
use Rattle.law_designs.specs.Laws.{AllowsAsTheText}
use Rattle.law_designs.specs.Definitions.{def_of, first_heads}
use Rattle.law_designs.proofs.SameResults.{all-map, allowed-same}
use Rattle.law_designs.proofs.single_assignment.definitions_allow_as_the_text.Goals as goal

pub returns : goal.returns
returns c = λ text faultless right. all-map (def_of (flatten text)) (AllowsAsTheText text)
    (λ head sizes layer h x f found k before flat_before same now flat_now states.
    allowed-same (flatten text) sizes layer (flat_element (scope_in text []) x) (every_value (design_of text) sizes x) head h k flat_before flat_now
    ∙ flat.allowed-same text sizes (types-of-text text faultless sizes) right layer x f found before flat_before same now flat_now states)
    (first_heads (flatten text))
