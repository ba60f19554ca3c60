use Rattle.law_translated_bytes.proofs.Spelled.{translations-spelled}
use Rattle.law_translated_bytes.proofs.laws.translations_are_spelled.Goals as goal

pub returns : goal.returns
returns c = translations-spelled
