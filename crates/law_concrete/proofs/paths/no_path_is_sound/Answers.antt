use Rattle.law_concrete.proofs.Decided.{no-path-is-sound}
use Rattle.law_concrete.proofs.paths.no_path_is_sound.Goals as goal

pub returns : goal.returns
returns c = λ d sizes exact unit none. no-path-is-sound d sizes exact unit none
