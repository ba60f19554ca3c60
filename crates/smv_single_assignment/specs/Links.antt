-- Which earlier assignments a later one is compared with.
use Rattle.std.specs.Prelude.{◌≡◌, ◌<◌, ◌≤◌, ◌+◌, ◌-◌, ℕ, List, length, map, take, drop, get_or, slice_get, Some, true, false}
use Rattle.smv_core.specs.Walk.{same_kind}
use Rattle.smv_core.specs.declared.tree.Kind.{Kind}
use Rattle.smv_core.specs.declared.tree.Kind.TheVariants.{Comb, Init, Next}
use Rattle.law_designs.specs.Standing.{Standing}
use Rattle.law_designs.specs.SingleFaults.{may_meet}
use Rattle.smv_single_assignment.specs.declared.links.Table.{Table}
use Rattle.smv_single_assignment.specs.Held.{standing_of}
use Rattle.smv_single_assignment.specs.Shared.{AreShared}

-- those from one place on, as far as another
abbrev pub between : {A : Type 0} → ℕ → ℕ → List A → List A
between from to xs = take (to - from) (drop from xs)

-- each assignment has a class, and two that may meet are of one class
pub record AreClassed (all : List Standing) (classes : List ℕ) (count : ℕ) : Type 0 where
  pub each : length classes ≡ length all
  pub below : (j : ℕ) → j < length classes → get_or classes j 0 < count
  pub together : (i j : ℕ) (a b : Standing) → slice_get all i ≡ Some a → slice_get all j ≡ Some b → may_meet a b ≡ true → get_or classes i 0 ≡ get_or classes j 0

-- the last of a class and a kind before a place stands right before this end, and there is none where this is 0
pub record IsBehind (all : List Standing) (classes : List ℕ) (kind : Kind) (class place end : ℕ) : Type 0 where
  pub before : end ≤ place
  pub here : 0 < end → get_or classes (end - 1) 0 ≡ class
  pub of_kind : 0 < end → (a : Standing) → slice_get all (end - 1) ≡ Some a → same_kind a.kind kind ≡ true
  pub last : (k : ℕ) (a : Standing) → slice_get all k ≡ Some a → end ≤ k → k < place → get_or classes k 0 ≡ class → same_kind a.kind kind ≡ false

-- each assignment has the end of the last one before it of its class and of this kind
pub record AreLinked (all : List Standing) (classes : List ℕ) (kind : Kind) (links : List ℕ) : Type 0 where
  pub each : length links ≡ length all
  pub behind : (j : ℕ) → j < length links → IsBehind all classes kind (get_or classes j 0) j (get_or links j 0)

-- the assignments of a table
abbrev pub held : Table → List Standing
held table = map standing_of table.all.items

abbrev pub links_of : Kind → Table → List ℕ
links_of Comb table = table.comb.items
links_of Init table = table.init.items
links_of Next table = table.next.items

-- the classes, the links and the flag of a table are right
pub record IsTable (table : Table) (count : ℕ) : Type 0 where
  pub classed : AreClassed (held table) table.classes.items count
  pub linked : (kind : Kind) → AreLinked (held table) table.classes.items kind (links_of kind table)
  pub sharing : table.shared ≡ true → AreShared (held table)

-- these are those from a place on
pub record StandsAt (all : List Standing) (start : ℕ) (xs : List Standing) : Type 0 where
  pub within : start + length xs ≤ length all
  pub are : take (length xs) (drop start all) ≡ xs
