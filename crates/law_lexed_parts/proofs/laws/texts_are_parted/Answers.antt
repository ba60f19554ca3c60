use Rattle.law_lexed_parts.proofs.Parted.{parted}
use Rattle.law_lexed_parts.proofs.laws.texts_are_parted.Goals as goal

pub returns : goal.returns
returns c text front t middle rest e = parted text front t middle rest e
