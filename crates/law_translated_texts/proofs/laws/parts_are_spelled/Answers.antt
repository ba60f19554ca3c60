use Rattle.law_translated_texts.proofs.Spelled.{parts-spelled}
use Rattle.law_translated_texts.proofs.laws.parts_are_spelled.Goals as goal

pub returns : goal.returns
returns c = parts-spelled
