use Rattle.law_concrete.proofs.Decided.{sound-has-no-path}
use Rattle.law_concrete.proofs.paths.sound_has_no_path.Goals as goal

pub returns : goal.returns
returns c = λ d sizes exact choose unit holds. sound-has-no-path d sizes exact unit choose holds
