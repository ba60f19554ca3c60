use Rattle.law_exact_translations.proofs.Exact.{translations-exact}
use Rattle.law_exact_translations.proofs.laws.translations_are_exact.Goals as goal

pub returns : goal.returns
returns c = translations-exact
