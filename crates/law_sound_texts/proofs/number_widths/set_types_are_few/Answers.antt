use Rattle.law_sound_texts.proofs.SetTypes.{sets-few}
use Rattle.law_sound_texts.proofs.number_widths.set_types_are_few.Goals as goal

pub returns : goal.returns
returns c = λ bytes n tokens text le read spelled. sets-few bytes n tokens text le read spelled
