-- What right sides allow at an assignment, of a target's own value.
use Rattle.std.specs.Prelude.{◌≡◌, ℕ, ◌+◌, ◌-◌, List, map, Some, Bool, true, not, ◌||◌, nat_le}
use Rattle.std.specs.List.{list_any}
use Rattle.smv_core.specs.Values.{number, numbers_from}
use Rattle.smv_core.specs.declared.flat.FlatExpr.{FlatExpr}
use Rattle.smv_core.specs.declared.flat.FlatMember.{FlatMember, One, Span}
use Rattle.law_obligations.specs.Places.{named}
use Rattle.law_obligations.specs.Right.{may_allow, must_allow, gives_only}
use Rattle.smv_spots.specs.declared.spots.Spot.{Spot}
use Rattle.smv_spots.specs.Spots.{place_in}
use Rattle.smv_problem.specs.declared.problem.Problem.{Problem}
use Rattle.smv_problem_spots.specs.Worlds.{IsWorldOf}
use Rattle.smv_cells.specs.Seen.{outcomes}
use Rattle.smv_outcomes.specs.Outcomes.{member_in}
use Rattle.smv_targets.specs.declared.targets.Target.{Target}
use Rattle.smv_targets.specs.declared.targets.Sense.{Sense}
use Rattle.smv_targets.specs.declared.targets.Sense.TheVariants.{Surely, Inside}
use Rattle.smv_targets.specs.Targets.{Aim, IsTarget, meant}

-- what a right side may allow, and allows for certain, of the target's own value
unfoldable pub may_allowed : List Spot → FlatExpr → Aim → (ℕ → Bool) → Bool
may_allowed b e z a = may_allow z.view.world z.view.kept (z.view.state a) z.every e (map (place_in z.view.world.classes) b) (z.value a)

unfoldable pub must_allowed : List Spot → FlatExpr → Aim → (ℕ → Bool) → Bool
must_allowed b e z a = must_allow z.view.world z.view.kept (z.view.state a) z.every e (map (place_in z.view.world.classes) b) (z.value a)

-- some outcome of an expression gives the value in this sense
unfoldable pub some_means : Sense → List Spot → FlatExpr → Aim → (ℕ → Bool) → Bool
some_means sense b e z a = list_any (λ u. meant sense z.every u (z.value a)) (outcomes z.view a e b)

-- its only outcome gives the value for certain
unfoldable pub only_means : List Spot → FlatExpr → Aim → (ℕ → Bool) → Bool
only_means b e z a = gives_only z.every (outcomes z.view a e b) (z.value a)

-- some number of these gives the value in this sense
unfoldable pub numbers_mean : Sense → List ℕ → Aim → (ℕ → Bool) → Bool
numbers_mean sense ks z a = list_any (λ k. meant sense z.every (Some (named (number k))) (z.value a)) ks

-- some outcome of a member of a listed set does, and some outcome of some member
unfoldable pub member_means : Sense → List Spot → FlatMember → Aim → (ℕ → Bool) → Bool
member_means sense b member z a = list_any (λ us. list_any (λ u. meant sense z.every u (z.value a)) us) (member_in z.view a b member)

unfoldable pub members_mean : Sense → List Spot → List FlatMember → Aim → (ℕ → Bool) → Bool
members_mean sense b members z a = list_any (λ member. member_means sense b member z a) members

-- a member allows the value for certain, or can only be outside the type; and some member does
unfoldable pub member_allows : List Spot → FlatMember → Aim → (ℕ → Bool) → Bool
member_allows b (One e) z a = not (some_means Inside b e z a) || must_allowed b e z a
member_allows b (Span span at) z a = numbers_mean Surely (numbers_from span.low (span.high + 1 - span.low)) z a

unfoldable pub members_allow : List Spot → List FlatMember → Aim → (ℕ → Bool) → Bool
members_allow b members z a = list_any (λ member. member_allows b member z a) members

-- a member stands for a value
abbrev pub stands_for : FlatMember → Bool
stands_for (One e) = true
stands_for (Span span at) = nat_le span.low span.high

-- a condition, made later, holds where what is asked of the target's value does, which needs no cells
unfoldable pub IsOfTarget : {S C : Type 0} → (S → C → (ℕ → Bool) → Bool) → S → S → Problem → Target C → (Aim → (ℕ → Bool) → Bool) → C → Type 0
IsOfTarget holds start s problem t is r = (z : Aim) → IsWorldOf problem z.view.world → IsTarget holds start t z → (a : ℕ → Bool) → holds s r a ≡ is z a
