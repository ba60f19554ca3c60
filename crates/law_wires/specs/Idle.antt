-- Elements that nothing reads.
use Rattle.std.specs.Prelude.{◌≡◌, List, ◌++◌, false}
use Rattle.std.specs.List.{list_any}
use Rattle.law_obligations.specs.Sets.{Has}
use Rattle.law_obligations.specs.Obligations.{Demanded}
use Rattle.law_obligations.specs.Cones.{AbsElement, same_element}
use Rattle.law_obligations.specs.Readings.{PosedCase}
use Rattle.law_reports.specs.CaseLists.{defines}
use Rattle.law_reads.specs.Reading.{read_now, read_before, read_by_guards, is_at_once}

-- none of these elements is one of those
abbrev pub AreOthers : List AbsElement → List AbsElement → Type 0
AreOthers xs ys = (y : AbsElement) → Has ys y → list_any (same_element y) xs ≡ false

module _ (c : PosedCase) where
  -- a demand reads none of these elements now, and none before where it reads a state before
  pub record ReadsOthers (xs : List AbsElement) (demand : Demanded) : Type 0 where
    pub now : AreOthers xs (read_now c.problem.world demand)
    pub before : is_at_once demand ≡ false → AreOthers xs (read_before c.problem.world demand)

  -- no demand reads one of these elements but those that define one, nor do the guards and the target, which is of none of them
  pub record AreNotRead (xs : List AbsElement) : Type 0 where
    pub demands : (d : Demanded) → Has (c.problem.now ++ c.problem.before) d → list_any (λ x. defines x d) xs ≡ false → ReadsOthers xs d
    pub guards : AreOthers xs (read_by_guards c.problem.world c.problem)
    pub target : ReadsOthers xs c.problem.target
    pub is_other : list_any (λ x. defines x c.problem.target) xs ≡ false
