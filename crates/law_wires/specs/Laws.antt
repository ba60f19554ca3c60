-- The laws: what the crate's public functions say.
use Rattle.std.specs.Prelude.{◌≡◌, ℕ, List, [], ◌∷◌, ◌++◌, filter, Option, Bool, true, false}
use Rattle.std.specs.List.{list_any}
use Rattle.law_obligations.specs.Places.{Place}
use Rattle.law_obligations.specs.Sets.{Has}
use Rattle.law_obligations.specs.May.{AbsState, Kept}
use Rattle.law_obligations.specs.Obligations.{Demanded}
use Rattle.law_obligations.specs.Cones.{AbsElement, same_element}
use Rattle.law_obligations.specs.Bits.{Bits}
use Rattle.law_obligations.specs.Readings.{PosedCase, IsCase, values_of, state_bits, reading}
use Rattle.law_reports.specs.CaseLists.{those_of}
use Rattle.law_arrangements.specs.Arrangements.{put, AgreeBeside, EachWith, allowed, AreWorkedOut, CanGoOn, AreUnread, IsArrangement, view}
use Rattle.law_arrangements.specs.Orders.{IsOrder}
use Rattle.law_arrangements.specs.Laws.{gathered}
use Rattle.law_obligations.specs.Pictures.{KeepsNamed}
use Rattle.law_reads.specs.Reading.{HaveValues, read_now}
use Rattle.law_wires.specs.Tries.{PassAlone, PassesOnce, trying, meets_with, AreDetermined, IsTry, ReadsDone, KeepsBeside}
use Rattle.law_wires.specs.Idle.{AreOthers, AreNotRead}

-- where some member passes a test and each alone, exactly one does
abbrev pub AlonePassesOnce : Type 0 → Type 0
AlonePassesOnce X = (test : X → Bool) (xs : List X) → list_any test xs ≡ true → PassAlone test false xs → PassesOnce test xs

-- a state in which the elements done are worked out is, beside the tried one and those left, what its own bits are read as at their places
abbrev pub StatesAreViews : Type 0
StatesAreViews = (c : PosedCase) → IsCase c → (order : List ℕ) (done : List AbsElement) (x : AbsElement) (left : List AbsElement) → IsTry c order done x left →
    (t : Bits) → AreWorkedOut c done (reading c t) → AgreeBeside (x ∷ left) (view c (trying order done (x ∷ left)) (gathered (trying order done (x ∷ left)) t)) (reading c t)

-- Where at each assignment of places exactly one value of the tried element meets its demands, read by cells that keep beside it and those left what the case keeps, it is determined behind those done.
abbrev pub TriedAreDetermined : Type 0
TriedAreDetermined = (c : PosedCase) → IsCase c → KeepsNamed c.problem.world c.problem.kept → HaveValues c.problem.world →
    (order : List ℕ) (done : List AbsElement) (x : AbsElement) (left : List AbsElement) → IsTry c order done x left → ReadsDone c x left → (other : Kept) → KeepsBeside c (x ∷ left) other →
    ((s : Bits) → PassesOnce (meets_with c other (view c (trying order done (x ∷ left)) s) x) (values_of c.problem.world x)) → AreDetermined c (done ++ x ∷ []) left

-- and at an assignment the value that does so is its own, where all else is as it was
abbrev pub TriedHaveValues : Type 0
TriedHaveValues = (c : PosedCase) → IsCase c → KeepsNamed c.problem.world c.problem.kept → HaveValues c.problem.world →
    (order : List ℕ) (done : List AbsElement) (x : AbsElement) (left : List AbsElement) → IsTry c order done x left → ReadsDone c x left → (other : Kept) → KeepsBeside c (x ∷ left) other →
    (s : Bits) (v : Place) → filter (meets_with c other (view c (trying order done (x ∷ left)) s) x) (values_of c.problem.world x) ≡ v ∷ [] → view c (trying order (done ++ x ∷ []) left) s ≡ put x v (view c (trying order done (x ∷ left)) s)

-- elements that are determined are so too where one that is left gets bits after all
abbrev pub LeftMayGo : Type 0
LeftMayGo = (c : PosedCase) (done : List AbsElement) (x : AbsElement) (left : List AbsElement) → AreDetermined c done (x ∷ left) → AreDetermined c done left

-- elements of the case, each once, that are determined with none left are an arrangement, with the bits of all elements in whatever order
abbrev pub WiresAreArrangements : Type 0
WiresAreArrangements = (c : PosedCase) (order : List ℕ) → IsOrder (state_bits c) order → (done : List AbsElement) → ((y : AbsElement) → Has done y → Has c.elements y) →
    EachWith (λ behind y. list_any (same_element y) behind ≡ false) done → AreDetermined c done [] → IsArrangement c (trying order done [])

-- nothing depends on elements that nothing reads
abbrev pub NotReadAreUnread : Type 0
NotReadAreUnread = (c : PosedCase) → KeepsNamed c.problem.world c.problem.kept → HaveValues c.problem.world → (xs : List AbsElement) → AreNotRead c xs → AreUnread c xs

-- an element's demands allow the same values whatever it and other elements are now, where they read none of these now
abbrev pub AllowedAreSame : Type 0
AllowedAreSame = (c : PosedCase) → KeepsNamed c.problem.world c.problem.kept → HaveValues c.problem.world → (demands : List Demanded) (x : AbsElement) (left : List AbsElement) →
    ((demand : Demanded) → Has (those_of demands x) demand → AreOthers (x ∷ left) (read_now c.problem.world demand)) →
    (old : Option AbsState) (a b : AbsState) → AgreeBeside (x ∷ left) a b → allowed c demands old a x ≡ allowed c demands old b x

-- an element of the case with one demand, which reads neither it nor one of these now, may always go on
abbrev pub ElementsGoOn : Type 0
ElementsGoOn = (c : PosedCase) → IsCase c → KeepsNamed c.problem.world c.problem.kept → HaveValues c.problem.world → (x : AbsElement) (left : List AbsElement) → Has c.elements x →
    (demand : Demanded) → those_of (c.problem.now ++ c.problem.before) x ≡ demand ∷ [] → AreOthers (x ∷ left) (read_now c.problem.world demand) → CanGoOn c left x
