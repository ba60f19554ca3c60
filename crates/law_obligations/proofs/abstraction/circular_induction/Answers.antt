use Rattle.law_obligations.proofs.Induction.{always_holds}
use Rattle.law_obligations.proofs.abstraction.circular_induction.Goals as goal

pub returns : goal.returns
returns g c circle rank falls shows none run is_run u i = always_holds circle rank falls shows none run is_run u i
