-- Worked problems at given sizes, with answers that were found by hand.
use Rattle.std.specs.Prelude.{◌≡◌, ℕ, List, [], ◌∷◌, None, Bool, true, false, codes}
use Rattle.std.specs.List.{list_any}
use Rattle.smv_core.specs.Values.{ordinal, Sizes}
use Rattle.smv_core.specs.declared.tree.Op.TheVariants.{Less}
use Rattle.smv_core.specs.declared.flat.Simple.TheVariants.{Range, Set}
use Rattle.smv_core.specs.declared.flat.Class.TheVariants.{Named, Number}
use Rattle.smv_core.specs.declared.flat.Design.{Design}
use Rattle.smv_core.specs.declared.flat.Unit.{Unit}
use Rattle.smv_core.specs.declared.flat.Unit.TheVariants.{Claim}
use Rattle.smv_core.specs.declared.flat.DefBody.{Forall}
use Rattle.smv_core.specs.declared.flat.FlatExpr.{FlatExpr, Implies, Or, Compare}
use Rattle.law_obligations.specs.Places.{Place, named, places_in}
use Rattle.law_obligations.specs.Obligations.{AbstractProblem}
use Rattle.worked_obligations.specs.Worked.{p}
use Rattle.worked_obligations.specs.WorkedObligations.{state, bit as at_bit, violates, some_state}
use Rattle.worked_obligations.specs.WorkedTomasulo.{one, at, equal, not', i, num, set_at, stepwise}
use Rattle.worked_obligations.specs.WorkedScripts.{over_P, one_of, array_of, claimed, bit}
use Rattle.law_obligations.specs.Cones.{element}
use Rattle.law_concrete.specs.Concrete.{concrete_cases, concrete_places, concrete_cone, concrete}

-- each undeclared type has so many values
abbrev pub all_of_size : ℕ → Sizes
all_of_size k name = k

-- the first claim
abbrev pub the_claim : Unit
the_claim = Claim 0

-- some state whose families have values of these types violates some case
abbrev pub some_violation : Design → ℕ → (AbstractProblem → List (List Place)) → Bool
some_violation d k values = list_any (λ classes. some_state (concrete d (all_of_size k) the_claim classes) (values (concrete d (all_of_size k) the_claim classes))) (concrete_cases d (all_of_size k) the_claim)

-- a, b : P; the claim a = b: it holds at size 1, and at size 2 it fails where a and b are apart
abbrev pub two_signals : FlatExpr → Design
two_signals body = over_P (one_of (Set 0) ∷ one_of (Set 0) ∷ []) [] (claimed [] body 0 ∷ [])

abbrev pub of_P : AbstractProblem → List (List Place)
of_P q = places_in q.world (Set 0) ∷ places_in q.world (Set 0) ∷ []

abbrev pub AreEqual : Type 0
AreEqual = (concrete_cases (two_signals (equal (one 0) (one 1))) (all_of_size 1) the_claim ≡ [] ∷ [])
    × (some_violation (two_signals (equal (one 0) (one 1))) 1 of_P ≡ false)
    × (violates (concrete (two_signals (equal (one 0) (one 1))) (all_of_size 2) the_claim []) (state (named (p 0) ∷ named (p 1) ∷ []) ∷ []) ≡ true)
    × (violates (concrete (two_signals (equal (one 0) (one 1))) (all_of_size 2) the_claim []) (state (named (p 1) ∷ named (p 1) ∷ []) ∷ []) ≡ false)

-- the claim a = b -> a = b, false where the type is reduced, holds at size 3
abbrev pub TwiceEqual : Type 0
TwiceEqual = some_violation (two_signals (Implies (equal (one 0) (one 1) ∷ equal (one 0) (one 1) ∷ []))) 3 of_P ≡ false

-- v : array P of boolean; the claim v[k] for all k and n in 1..2: each parameter has any of its values, and the cone has the element of the case alone
abbrev pub elements_of_P : Design
elements_of_P = over_P (array_of bit ∷ []) [] (claimed (Set 0 ∷ Range 1 2 ∷ []) (at 0 i) 0 ∷ [])

abbrev pub CasesAreValues : Type 0
CasesAreValues = (concrete_cases elements_of_P (all_of_size 2) the_claim ≡ (Named 0 ∷ Number 1 ∷ []) ∷ (Named 0 ∷ Number 2 ∷ []) ∷ (Named 1 ∷ Number 1 ∷ []) ∷ (Named 1 ∷ Number 2 ∷ []) ∷ [])
    × (concrete_cone elements_of_P (all_of_size 2) the_claim (concrete_places elements_of_P (all_of_size 2) the_claim (Named 1 ∷ Number 2 ∷ [])) ≡ element 0 (named (p 1) ∷ []) ∷ [])

-- v : array P of boolean; v[k] is 0 at first for all k, and v[d] is 1 next; the claim ~v[k]: it fails at time 1 where d was k, and at no other element
abbrev pub written : Design
written = over_P (one_of (Set 0) ∷ array_of bit ∷ []) (stepwise 1 None (Forall 0 (Set 0) (set_at i (num 0))) (set_at (one 0) (num 1)) 0 ∷ []) (claimed (Set 0 ∷ []) (not' (at 1 i)) 0 ∷ [])

abbrev pub WrittenAtLast : Type 0
WrittenAtLast = (violates (concrete written (all_of_size 2) the_claim (Named 1 ∷ [])) (state (named (p 1) ∷ at_bit 0 ∷ []) ∷ state (named (p 0) ∷ at_bit 1 ∷ []) ∷ []) ≡ true)
    × (violates (concrete written (all_of_size 2) the_claim (Named 1 ∷ [])) (state (named (p 0) ∷ at_bit 0 ∷ []) ∷ state (named (p 0) ∷ at_bit 1 ∷ []) ∷ []) ≡ false)

-- an ordset I has its values in their order: of two signals one is below, or they are equal, or it is above
abbrev pub over_I : FlatExpr → Design
over_I body = record {
  sets = record { name = codes "I"; ordered = true; size = None } ∷ [];
  enums = [];
  layers = [];
  families = one_of (Set 0) ∷ one_of (Set 0) ∷ [];
  defs = [];
  claims = claimed [] body 0 ∷ [];
  splits = [];
  uses = [];
}

abbrev pub below : FlatExpr → FlatExpr → FlatExpr
below left right = Compare Less left right

abbrev pub AreInOrder : Type 0
AreInOrder = (some_violation (over_I (Or (below (one 0) (one 1) ∷ equal (one 0) (one 1) ∷ below (one 1) (one 0) ∷ []))) 3 of_P ≡ false)
    × (violates (concrete (over_I (below (one 0) (one 1))) (all_of_size 3) the_claim []) (state (named (ordinal (codes "I") 2) ∷ named (ordinal (codes "I") 1) ∷ []) ∷ []) ≡ true)
    × (violates (concrete (over_I (below (one 0) (one 1))) (all_of_size 3) the_claim []) (state (named (ordinal (codes "I") 1) ∷ named (ordinal (codes "I") 2) ∷ []) ∷ []) ≡ false)
