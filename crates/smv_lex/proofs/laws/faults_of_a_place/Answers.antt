use Rattle.std.proofs.Common.{refl}
use Rattle.smv_lex.proofs.Longest.{fault-right}
use Rattle.smv_lex.proofs.laws.faults_of_a_place.Goals as goal

pub returns : goal.returns
returns c = record {
  no_token = λ text is. (fault-right text 1 is).0 refl;
  number = λ text is. (fault-right text 2 is).1 refl;
  word = λ text is. (fault-right text 3 is).2 refl;
  comment = λ text is. (fault-right text 4 is).3 refl;
}
