-- Where there is no first fault there is none.
use Rattle.std.proofs.Common.{◌≡◌, List, [], ◌∷◌, Bool, true, false, cond, refl, Option, Some, None}
use Rattle.smv_core.specs.declared.fault.Fault.{Fault}
use Rattle.smv_mentions.specs.FirstFault.{comes_before, earlier, first_of}
use Rattle.law_splits.specs.SplitFaults.{faults_of_splits}
use Rattle.smv_split_faults.specs.Answers.{NoneAreLeft}

empty : (faults : List Fault) → first_of faults ≡ None → faults ≡ []
empty [] e = refl
empty (f ∷ faults) e = absurd (by (first_of faults) e)
  where
    by : (o : Option Fault) → earlier f o ≡ None → ⊥
    by None e = cc
    by (Some g) e = chosen (comes_before g f) e
      where
        chosen : (b : Bool) → cond b (Some g) (Some f) ≡ None → ⊥
        chosen true e = cc
        chosen false e = cc

pub none_left : NoneAreLeft
none_left d e = empty (faults_of_splits d) e
