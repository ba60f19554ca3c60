-- Worked plans of proof: a claim that is split, over a scalarset of any size, and two maps that use each other.
use Rattle.std.specs.Prelude.{ℕ, List, [], ◌∷◌, Bool, true, false, not, nat_eq, codes}
use Rattle.smv_core.specs.FlatMeaning.{Numbered}
use Rattle.smv_core.specs.declared.flat.Simple.TheVariants.{Range, Set}
use Rattle.smv_core.specs.declared.flat.Class.{Class}
use Rattle.smv_core.specs.declared.flat.Claim.{Claim}
use Rattle.smv_core.specs.declared.flat.Param.{Param}
use Rattle.law_obligations.specs.Places.{Place, world}
use Rattle.law_obligations.specs.LeafCases.{treatments_of, parameters_of}
use Rattle.law_obligations.specs.Covers.{types_at, places_at}
use Rattle.law_obligations.specs.Obligations.{AbstractProblem, defined, holds}
use Rattle.law_obligations.specs.Soundness.{map_of, claim_of, LeafProof, ProofPlan, IsPlan, HasNoViolatingPath, IsSoundPlan}
use Rattle.worked_obligations.specs.Worked.{family, signal}
use Rattle.worked_obligations.specs.WorkedObligations.{design, two_of_P, twice_equal, guard, stepping, zeroed}

-- a, b : P; claim a = b -> a = b, split by a = i
abbrev pub of_two : Numbered
of_two = design false two_of_P

-- elements without indexes
abbrev pub plain_kept : ℕ → List Place → Bool
plain_kept of [] = true
plain_kept of (p ∷ ps) = false

abbrev pub index : Param
index = record { var = 0; over = Set 0; name = codes "i" }

abbrev pub one_param : List Param
one_param = index ∷ []

abbrev pub split_problem : List Class → AbstractProblem
split_problem classes = record {
  world = world of_two (types_at of_two.sets (treatments_of [] 0 of_two.sets) (parameters_of [] one_param) classes);
  kept = plain_kept;
  now = [];
  before = [];
  target = holds twice_equal [];
  guards = guard 0 (signal 0) ∷ [];
  params = places_at of_two (parameters_of [] one_param) classes;
}

abbrev pub split_claim : Claim
split_claim = record { name = []; vars = []; params = []; body = twice_equal; place = 0; at = 0 }

abbrev pub split_leaf : LeafProof
split_leaf = record { unit = claim_of split_claim; params = one_param; guards = guard 0 (signal 0) ∷ []; keeps = []; problem = split_problem }

abbrev pub split_plan : ProofPlan
split_plan = record { names = of_two; base = []; leaves = split_leaf ∷ []; uses_now = λ u v. false; uses_before = λ u v. false }

-- it is a plan, its one case has no violating path, and so the claim holds for all sizes of P
abbrev pub SplitPlan : Type 0
SplitPlan = IsPlan split_plan × HasNoViolatingPath split_plan × IsSoundPlan split_plan

-- a, b : boolean; next(a) := b, next(b) := a, both 0 at first; a layer says a := 0 and b := 0, and each map is proved with the other before
abbrev pub of_bits : Numbered
of_bits = design false (family (codes "a") [] (Range 0 1) ∷ family (codes "b") [] (Range 0 1) ∷ [])

abbrev pub bit_problem : ℕ → ℕ → List Class → AbstractProblem
bit_problem own other classes = record {
  world = world of_bits (types_at of_bits.sets (treatments_of [] 0 of_bits.sets) [] classes);
  kept = plain_kept;
  now = defined (stepping own 0 other) [] ∷ [];
  before = defined (zeroed other) [] ∷ [];
  target = defined (zeroed own) [];
  guards = [];
  params = places_at of_bits [] classes;
}

abbrev pub bit_leaf : ℕ → ℕ → LeafProof
bit_leaf own other = record { unit = map_of (zeroed own); params = []; guards = []; keeps = []; problem = bit_problem own other }

abbrev pub mutual_plan : ProofPlan
mutual_plan = record {
  names = of_bits;
  base = stepping 0 0 1 ∷ stepping 1 0 0 ∷ [];
  leaves = bit_leaf 0 1 ∷ bit_leaf 1 0 ∷ [];
  uses_now = λ u v. false;
  uses_before = λ u v. not (nat_eq u v);
}

-- it is a plan, the one case of each map has no violating path, and so both hold
abbrev pub MutualPlan : Type 0
MutualPlan = IsPlan mutual_plan × HasNoViolatingPath mutual_plan × IsSoundPlan mutual_plan
