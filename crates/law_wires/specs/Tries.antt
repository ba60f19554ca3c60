-- An element that is tried: the elements worked out before it, those that are left, and the assignments at which one of its values meets its demands.
use Rattle.std.specs.Prelude.{◌≡◌, ℕ, ◌+◌, ◌<◌, List, [], ◌∷◌, ◌++◌, filter, None, Bool, true, false, ◌&&◌, ◌||◌}
use Rattle.std.specs.List.{list_any, list_all}
use Rattle.law_obligations.specs.Sets.{Has}
use Rattle.law_obligations.specs.Places.{Place}
use Rattle.law_obligations.specs.May.{AbsState, Kept}
use Rattle.law_obligations.specs.Obligations.{Demanded, AbstractProblem, is_met}
use Rattle.law_obligations.specs.Cones.{AbsElement, element, same_element}
use Rattle.law_obligations.specs.Readings.{PosedCase, Slot, bits_of, slots}
use Rattle.law_reports.specs.CaseLists.{those_of}
use Rattle.law_arrangements.specs.Arrangements.{Arrangement, put, EachWith, EachBetween, IsDetermined}
use Rattle.law_reads.specs.Reading.{read_now, is_at_once}
use Rattle.law_wires.specs.Idle.{AreOthers}

-- a test passes where none before it did, one after the other
abbrev pub PassAlone : {X : Type 0} → (X → Bool) → Bool → List X → Type 0
PassAlone test found [] = Unit {0}
PassAlone test found (x ∷ xs) = (found && test x ≡ false) × PassAlone test (found || test x) xs

-- exactly one member passes, at one place
abbrev pub PassesOnce : {X : Type 0} → (X → Bool) → List X → Type 0
PassesOnce test xs = (x : _) × (filter test xs ≡ x ∷ [])

-- these elements have no bits: those that are worked out, and others
abbrev pub trying : List ℕ → List AbsElement → List AbsElement → Arrangement
trying order done rest = record { determined = done; idle = rest; order = order }

module _ (c : PosedCase) where
  -- the problem, where this is kept
  abbrev pub keeping : Kept → AbstractProblem
  keeping other = record c.problem { kept = other }

  -- a value meets an element's demands of now, where this is kept, in a state with the value there
  abbrev pub meets_with : Kept → AbsState → AbsElement → Place → Bool
  meets_with other a x v = list_all (is_met (keeping other) None (put x v a)) (those_of c.problem.now x)

  -- these elements are determined one after the other, whatever the ones left are
  abbrev pub AreDetermined : List AbsElement → List AbsElement → Type 0
  AreDetermined done left = EachBetween (λ before behind x. IsDetermined c before (behind ++ left) x) [] done

  -- These elements have no bits: those that are done, which are determined, one that is tried, and those that are left; all others have places.
  pub record IsTry (order : List ℕ) (done : List AbsElement) (x : AbsElement) (left : List AbsElement) : Type 0 where
    pub are_elements : (y : AbsElement) → Has (done ++ x ∷ left) y → Has c.elements y
    pub are_apart : EachWith (λ behind y. list_any (same_element y) behind ≡ false) (done ++ x ∷ left)
    pub have_places : (slot : Slot) → Has (slots c) slot → list_any (same_element slot.element) (done ++ x ∷ left) ≡ false → (i : ℕ) → i < bits_of c.problem.world slot.element → Has order (slot.bit + i)
    pub are_determined : AreDetermined done (x ∷ left)

  -- an element's demands are of the state now alone, and read neither it nor one of those that are left
  pub record ReadsDone (x : AbsElement) (left : List AbsElement) : Type 0 where
    pub are_at_once : (demand : Demanded) → Has (those_of c.problem.now x) demand → is_at_once demand ≡ true
    pub are_read : (demand : Demanded) → Has (those_of c.problem.now x) demand → AreOthers (x ∷ left) (read_now c.problem.world demand)

  -- what is kept by some cells: beside the tried element and those that are left, what the case keeps
  abbrev pub KeepsBeside : List AbsElement → Kept → Type 0
  KeepsBeside xs other = (family : ℕ) (ps : List Place) → list_any (same_element (element family ps)) xs ≡ false → other family ps ≡ c.problem.kept family ps
