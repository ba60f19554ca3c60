-- Outcomes in order: numbers by themselves, constants by the numbers of their names.
use Rattle.std.specs.Prelude.{◌≡◌, ℕ, List, [], ◌∷◌, Option, Some, None, Bool, true, false, not, cond, nat_lt}
use Rattle.std.specs.List.{filter, list_any}
use Rattle.smv_core.specs.Values.{Truth}
use Rattle.smv_core.specs.declared.tree.Op.{Op}
use Rattle.smv_core.specs.declared.tree.Op.TheVariants.{Equal, Differ, Less, AtMost, Greater, AtLeast}
use Rattle.smv_problem.specs.declared.problem.Problem.{Problem}
use Rattle.smv_problem_spots.specs.Worlds.{name_number_at}
use Rattle.smv_spots.specs.declared.spots.Spot.{Spot}
use Rattle.smv_spots.specs.declared.spots.Spot.TheVariants as spot
use Rattle.smv_spots.specs.declared.answers.Answers.{Answers}
use Rattle.smv_spots.specs.Answers.{answers_of}
use Rattle.smv_conditions.specs.declared.offers.Offer.{Offer}
use Rattle.smv_outcome_lists.specs.declared.keys.Keys.{Keys}
use Rattle.smv_outcome_lists.specs.declared.keys.Keys.TheVariants.{Values, Names}

-- the key of a number, if numbers have keys
abbrev pub value_key : Keys → ℕ → Option ℕ
value_key Values k = Some k
value_key Names k = None

-- the key of a constant by the number of its name, if constants have keys
abbrev pub name_key : Keys → ℕ → Option ℕ
name_key Values k = None
name_key Names k = Some k

-- the key of an outcome, none where it has none
abbrev pub key_of : Problem → Keys → Option Spot → Option ℕ
key_of p keys (Some (spot.Number k)) = value_key keys k
key_of p keys (Some (spot.Constant list k)) = name_key keys (name_number_at p.names list k)
key_of p keys (Some (spot.Class set k)) = None
key_of p keys (Some (spot.Rest set k)) = None
key_of p keys None = None

-- a key below a bound, any where there is no bound
abbrev pub is_below : Option ℕ → Option ℕ → Bool
is_below bound None = false
is_below None (Some k) = true
is_below (Some m) (Some k) = nat_lt k m

-- an outcome whose key lies below a bound
abbrev pub is_low : Problem → Keys → Option ℕ → Option Spot → Bool
is_low p keys bound o = is_below bound (key_of p keys o)

-- an outcome that has a key
abbrev pub has_key : Problem → Keys → Option Spot → Bool
has_key p keys o = is_low p keys None o

-- the outcomes below a bound
unfoldable pub lower : {C : Type 0} → Problem → Keys → Option ℕ → List (Offer C) → List (Offer C)
lower p keys bound os = filter (λ o. is_low p keys bound o.outcome) os

-- the outcomes that are not below it
unfoldable pub upper : {C : Type 0} → Problem → Keys → Option ℕ → List (Offer C) → List (Offer C)
upper p keys bound os = filter (λ o. not (is_low p keys bound o.outcome)) os

-- each of these outcomes passes a test
abbrev pub AllSo : {C : Type 0} → (Option Spot → Bool) → List (Offer C) → Type 0
AllSo test [] = Unit {0}
AllSo test (o ∷ os) = (test o.outcome ≡ true) × AllSo test os

-- the first outcomes have keys below the bound, the second ones have others
pub record AreApart {C : Type 0} (p : Problem) (keys : Keys) (bound : Option ℕ) (us vs : List (Offer C)) : Type 0 where
  pub below : AllSo (is_low p keys bound) us
  pub keyed : AllSo (has_key p keys) vs
  pub above : AllSo (λ o. not (is_low p keys bound o)) vs

-- outcomes on the two sides of a bound, the first ones below it or the second ones
abbrev pub AreApartBy : {C : Type 0} → Problem → Keys → Option ℕ → Bool → List (Offer C) → List (Offer C) → Type 0
AreApartBy p keys bound true us vs = AreApart p keys bound us vs
AreApartBy p keys bound false us vs = AreApart p keys bound vs us

-- what a comparison gives of two numbers, the left one below the right one or above it
abbrev pub by_value : Op → Bool → Bool
by_value Equal below = false
by_value Differ below = true
by_value Less below = below
by_value AtMost below = below
by_value Greater below = not below
by_value AtLeast below = not below

-- what a comparison gives of two names that differ
abbrev pub by_name : Op → Truth
by_name Equal = Some false
by_name Differ = Some true
by_name Less = None
by_name AtMost = None
by_name Greater = None
by_name AtLeast = None

-- what a comparison gives of outcomes with two keys, the left one below the right one or above it
abbrev pub apart : Op → Keys → Bool → Answers
apart op Values below = answers_of (Some (by_value op below) ∷ [])
apart op Names below = answers_of (by_name op ∷ [])

-- some outcome of a list is possible
unfoldable pub possible : {S C : Type 0} → (S → C → (ℕ → Bool) → Bool) → S → (ℕ → Bool) → List (Offer C) → Bool
possible holds s a os = list_any (λ o. holds s o.when a) os

-- an outcome that is a constant
abbrev pub is_constant : Option Spot → Bool
is_constant (Some (spot.Constant list k)) = true
is_constant (Some (spot.Number k)) = false
is_constant (Some (spot.Class set k)) = false
is_constant (Some (spot.Rest set k)) = false
is_constant None = false

-- what has a key among outcomes: constants, if there is one
abbrev pub keys_among : {C : Type 0} → List (Offer C) → Keys
keys_among os = cond (list_any (λ o. is_constant o.outcome) os) Names Values
