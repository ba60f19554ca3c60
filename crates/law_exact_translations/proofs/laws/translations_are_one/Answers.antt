use Rattle.law_exact_translations.proofs.Exact.{translations-one}
use Rattle.law_exact_translations.proofs.laws.translations_are_one.Goals as goal

pub returns : goal.returns
returns c = translations-one
