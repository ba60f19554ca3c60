-- The laws: what the crate's public functions say.
use Rattle.std.specs.Prelude.{◌≡◌, ℕ, List, map, slice_get, Option, Some, true, not}
use Rattle.smv_core.specs.Values.{Value, truth, is_in}
use Rattle.smv_core.specs.Outcome.{is_true}
use Rattle.smv_core.specs.FlatMeaning.{Numbered, FlatState, values_in, flat_outcome, flat_allowed}
use Rattle.smv_core.specs.declared.flat.Def.{Def}
use Rattle.smv_core.specs.declared.flat.Family.{Family}
use Rattle.smv_core.specs.declared.flat.FlatExpr.{FlatExpr}
use Rattle.law_obligations.specs.Sets.{Has}
use Rattle.law_obligations.specs.Places.{Place, named, places_in, AbsOutcome, as_place}
use Rattle.law_obligations.specs.May.{AbsState, Kept, may}
use Rattle.law_obligations.specs.Demands.{is_defined, is_broken_map, is_broken_claim}
use Rattle.law_obligations.specs.Cones.{elements_read, elements_of_def}
use Rattle.law_obligations.specs.Whole.{IsWhole}
use Rattle.law_exact.specs.Exact.{whole_world, AreKept, Shows, ShowsBefore, IsExactDef}

-- an expression whose elements are kept may have its outcome, and nothing else
abbrev pub OutcomesAreExact : Type 0
OutcomesAreExact = (n : Numbered) (s : FlatState) (kept : Kept) (a : AbsState) → Shows kept a s → (e : FlatExpr) (b : List Value) → IsWhole n.families e → AreKept kept (elements_read (whole_world n) e (map named b)) →
    Has (may (whole_world n) kept a e (map named b)) (as_place (flat_outcome n s e b)) × ((u : AbsOutcome) → Has (may (whole_world n) kept a e (map named b)) u → u ≡ as_place (flat_outcome n s e b))

-- the definition of a kept element, of which what it reads is kept, is met exactly where it allows the element's value, and as a target it is broken exactly where it does not
abbrev pub MapsAreExact : Type 0
MapsAreExact = (n : Numbered) (kept : Kept) → ((family : ℕ) (f : Family) → slice_get n.families family ≡ Some f → (p : Place) × Has (places_in (whole_world n) f.value) p) →
    (def : Def) (f : Family) → slice_get n.families def.family ≡ Some f → IsExactDef n.families def → (xs : List Value) → kept def.family (map named xs) ≡ true → AreKept kept (elements_of_def (whole_world n) (map named xs) def) →
    (now : FlatState) (a : AbsState) → Shows kept a now → (old : Option AbsState) (before : Option FlatState) → ShowsBefore kept old before →
    (is_defined (whole_world n) kept def (map named xs) old a ≡ is_in (flat_allowed n def (record { family = def.family; indexes = xs }) (values_in n f.value) before now) (now def.family xs))
    × (is_in (values_in n f.value) (now def.family xs) ≡ true →
    is_broken_map (whole_world n) kept def (map named xs) old a ≡ not (is_in (flat_allowed n def (record { family = def.family; indexes = xs }) (values_in n f.value) before now) (now def.family xs)))

-- a claim whose elements are kept is broken exactly where its body is not 1
abbrev pub ClaimsAreExact : Type 0
ClaimsAreExact = (n : Numbered) (kept : Kept) (s : FlatState) (a : AbsState) → Shows kept a s → (body : FlatExpr) (b : List Value) → IsWhole n.families body → AreKept kept (elements_read (whole_world n) body (map named b)) →
    is_broken_claim (whole_world n) kept body (map named b) a ≡ not (is_true (truth (flat_outcome n s body b)))
