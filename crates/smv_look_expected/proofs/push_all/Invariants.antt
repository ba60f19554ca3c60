use Rattle.std.proofs.Common.{map, take}
use Rattle.smv_look_expected.proofs.ToldLaws.{Behind, pair}
use Rattle.smv_look_expected.proofs.push_all.Given as goal

abbrev pub invariant-loop-token : goal.invariant-loop-token
invariant-loop-token l = Behind l.text l.at l.initial.out.items l.out.items (map pair (take l.token-index l.tokens))
