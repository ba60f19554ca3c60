-- The cases of a unit that are to be decided.
use Rattle.std.specs.Prelude.{◌≡◌, List, None}
use Rattle.smv_core.specs.declared.flat.Case.{Case}
use Rattle.law_obligations.specs.Sets.{Has}
use Rattle.law_concrete.specs.Sizes.{case_fault}
use Rattle.smv_concrete.specs.declared.subjects.Subject.{Subject}
use Rattle.smv_concrete.specs.Subjects.{cases_in, unit_of}

-- each is a case of the unit, and none has too many state bits
pub record AreNarrow (s : Subject) (cases : List Case) : Type 0 where
  pub are_cases : (c : Case) → Has cases c → Has (cases_in s) c.classes
  pub have_width : (c : Case) → Has cases c → case_fault s.design.now (unit_of s) s.sizes.now c.classes ≡ None
