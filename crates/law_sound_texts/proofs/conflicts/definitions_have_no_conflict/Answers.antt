use Rattle.law_designs.specs.Definitions.{def_of, first_heads}
use Rattle.law_designs.proofs.SameResults.{all-map}
use Rattle.law_sound_texts.specs.Placed.{IsFree}
use Rattle.law_sound_texts.proofs.Free.{def_free}
use Rattle.law_sound_texts.proofs.conflicts.definitions_have_no_conflict.Goals as goal

pub returns : goal.returns
returns c = λ flat_text placed faultless. all-map (def_of flat_text) (IsFree flat_text) (λ head. def_free flat_text placed faultless head) (first_heads flat_text)
