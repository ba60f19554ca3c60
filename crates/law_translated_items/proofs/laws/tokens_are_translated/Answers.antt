use Rattle.law_translated_items.proofs.Tops.{tokens-translated}
use Rattle.law_translated_items.proofs.laws.tokens_are_translated.Goals as goal

pub returns : goal.returns
returns c = tokens-translated
