use Rattle.law_designs.specs.Flattening.{flatten}
use Rattle.law_designs.specs.Definitions.{design_of_flat_text}
use Rattle.law_unit_names.proofs.Words.{tokens-worded}
use Rattle.law_unit_names.proofs.Rules.{text-named}
use Rattle.law_unit_names.proofs.Units.{units-visible}
use Rattle.law_unit_names.proofs.laws.unit_names_are_visible.Goals as goal

pub returns : goal.returns
returns c = λ bytes tokens n tree e spelled kinds single unit i.
    units-visible tree (text-named n tokens tree (tokens-worded c.longest_token.ensures bytes tokens e) spelled) (c.definitions_are_of_families.ensures tree kinds single) unit i
