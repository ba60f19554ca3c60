use Rattle.law_designs.proofs.WrittenRules.{spelled-written}
use Rattle.law_designs.proofs.well_kinded.spelled_texts_are_written.Goals as goal

pub returns : goal.returns
returns c = λ n tokens text spelled. spelled-written n tokens text spelled
