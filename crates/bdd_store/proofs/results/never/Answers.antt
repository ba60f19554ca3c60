use Rattle.std.proofs.Common.{refl}
use Rattle.bdd_store.proofs.ResultLaws.{never_result}
use Rattle.bdd_store.proofs.results.never.Goals as goal

pub returns : goal.returns
returns c d ok = never_result d ok _ refl
