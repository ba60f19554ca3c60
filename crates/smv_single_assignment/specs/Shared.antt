-- `forall` variables that stand bare at one index of both of two assignments.
use Rattle.std.specs.Prelude.{◌≡◌, ◌<◌, ◌≤◌, ◌&&◌, ℕ, List, map, length, zip, slice_get, Option, Some, Bool, false, true, cond, nat_eq}
use Rattle.std.specs.List.{All, Contains, list_any, list_all}
use Rattle.std.proofs.Common.{Bor}
use Rattle.std.specs.HashMap.{HashMap, get}
use Rattle.std.specs.Global.{Vec}
use Rattle.smv_core.specs.Assignments.{Index, bare}
use Rattle.smv_core.specs.Conflicts.{are_both}
use Rattle.smv_core.specs.FlatMeaning.{flat_index}
use Rattle.smv_core.specs.declared.flat.FlatExpr.{FlatExpr}
use Rattle.law_designs.specs.Standing.{Standing}
use Rattle.law_designs.specs.SingleFaults.{may_meet, meet, share}
use Rattle.smv_single_assignment.specs.LeftSides.{any_two}

-- each two that may meet share each variable that is around both
abbrev pub AreShared : List Standing → Type 0
AreShared all = (i j : ℕ) (a b : Standing) → slice_get all i ≡ Some a → slice_get all j ≡ Some b → may_meet a b ≡ true → (k : ℕ) → Contains a.around k → Contains b.around k → share a b k ≡ true

-- these variables are around each of these
abbrev pub AreInside : List ℕ → List Standing → Type 0
AreInside around xs = All (λ (a : Standing). (k : ℕ) → Contains around k → Contains a.around k) xs

-- none between the last two places meets one between the first two
abbrev pub AreApart : List Standing → ℕ → ℕ → ℕ → Type 0
AreApart all start middle end = (i j : ℕ) (a b : Standing) → slice_get all i ≡ Some a → slice_get all j ≡ Some b → start ≤ i → i < middle → middle ≤ j → j < end → meet a b ≡ false

-- ---- left sides that are kept for a class and a variable: each assignment of the class shares the variable with each of them, and one of them has it bare only where the assignment does

abbrev pub is_bare : ℕ → Index → Bool
is_bare k (bare n) = nat_eq n k
is_bare k _ = false

-- the variable stands bare at the second index if it does at the first
abbrev pub stays_bare : ℕ → Index → Index → Bool
stays_bare k i j = cond (is_bare k i) (is_bare k j) true

-- so it is at each index that both left sides have
abbrev pub all_two : (Index → Index → Bool) → List FlatExpr → List FlatExpr → Bool
all_two test xs ys = list_all (λ (i, j). test i j) (zip (map flat_index xs) (map flat_index ys))

-- the left sides are of one length, and the variable stands bare in the second wherever it does in the first
abbrev pub is_below : ℕ → List FlatExpr → List FlatExpr → Bool
is_below k xs ys = nat_eq (length xs) (length ys) && all_two (stays_bare k) xs ys

-- the variable stands bare at one index of this left side and of each of those
abbrev pub meets_all : ℕ → List (Bor (List FlatExpr)) → List FlatExpr → Bool
meets_all k lefts left = list_all (λ other. any_two (are_both k) other.now left) lefts

-- one of those is below this left side
abbrev pub is_above_one : ℕ → List (Bor (List FlatExpr)) → List FlatExpr → Bool
is_above_one k lefts left = list_any (λ other. is_below k other.now left) lefts

abbrev pub same_spot : (ℕ × ℕ) → (ℕ × ℕ) → Bool
same_spot x y = nat_eq x.0 y.0 && nat_eq x.1 y.1

-- the left sides kept for a class and a variable, if there are any
abbrev pub kept_at : {S : Type 0} → HashMap (ℕ × ℕ) (Vec (Bor (List FlatExpr))) S → ℕ → ℕ → Option (Vec (Bor (List FlatExpr)))
kept_at kept class k = get same_spot kept (class, k)

-- for this class and variable there are some, and so it stands to them
abbrev pub HasSpot : {S : Type 0} → HashMap (ℕ × ℕ) (Vec (Bor (List FlatExpr))) S → ℕ → List FlatExpr → ℕ → Type 0
HasSpot kept class left k =
    (lefts : Vec (Bor (List FlatExpr))) × (kept_at kept class k ≡ Some lefts) × ((meets_all k lefts.items left && is_above_one k lefts.items left) ≡ true)

-- so it is with each variable around an assignment
abbrev pub HasSpots : {S : Type 0} → HashMap (ℕ × ℕ) (Vec (Bor (List FlatExpr))) S → ℕ → Standing → Type 0
HasSpots kept class a = All (HasSpot kept class a.left) a.around
