use Rattle.law_designs.specs.Definitions.{def_of, first_heads}
use Rattle.law_designs.proofs.SameResults.{all-map}
use Rattle.law_sound_texts.specs.Placed.{OneValueGives}
use Rattle.law_sound_texts.proofs.Free.{def_single}
use Rattle.law_sound_texts.proofs.conflicts.one_value_gives_a_result.Goals as goal

pub returns : goal.returns
returns c = λ flat_text placed faultless. all-map (def_of flat_text) (OneValueGives flat_text) (λ head. def_single flat_text placed faultless head) (first_heads flat_text)
