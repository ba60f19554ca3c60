use Rattle.std.proofs.Common.{ap, ◌∙◌}
use Rattle.law_designs.specs.Flattening.{flatten}
use Rattle.smv_flatten.proofs.flatten.flatten.Goals as goal

pub returns : goal.returns
returns c = c.flat_text_of.ensures ∙ c.in_ok-said.ensures ∙ ap flatten c.in_ok-numbers.ensures.text
