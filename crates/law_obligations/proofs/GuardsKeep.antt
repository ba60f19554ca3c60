-- Guards cover the unit and are kept in the picture; so are claims.
use Rattle.std.proofs.Common.{◌≡◌, zero, suc, List, map, Bool, true, false, not, ◌||◌, refl, sym, ap, subst, ◌∙◌, inl, inr, Some, None}
use Rattle.std.specs.List.{list_all}
use Rattle.std.proofs.lemmas.Bool.{or_cases, not-true, cases_Bool}
use Rattle.law_lists.proofs.Booleans.{either_left, either_right}
use Rattle.smv_core.specs.Values.{Name, Value, number, constant, scalar, ordinal, Outcome, truth, same, is_in}
use Rattle.smv_core.specs.Outcome.{is_true}
use Rattle.smv_core.specs.FlatMeaning.{Numbered, FlatState, values_in, flat_outcome}
use Rattle.smv_core.specs.declared.flat.FlatExpr.{FlatExpr}
use Rattle.smv_core.specs.declared.flat.Simple.{Simple as FlatSimple}
use Rattle.smv_core.specs.declared.abstract_type.AbsType.{AbsType}
use Rattle.law_obligations.specs.Sets.{Has}
use Rattle.law_obligations.specs.Places.{world, places_in, is_among, equal_places}
use Rattle.law_obligations.specs.May.{AbsState, Kept, seen, may}
use Rattle.law_obligations.specs.Right.{is_outside}
use Rattle.law_obligations.specs.Demands.{is_assumed, is_broken_claim, may_equal, may_guard}
use Rattle.law_obligations.specs.Guards.{is_or_outside, guard_holds}
use Rattle.law_obligations.specs.Pictures.{Placing, placed, ArePlaced, IsState, IsPicture, AreValues}
use Rattle.law_obligations.proofs.Members.{any-found, all-each}
use Rattle.law_obligations.proofs.Same.{same-itself, Has-is_in}
use Rattle.law_obligations.proofs.Facts.{IsOutcome, placed_outcome, of_type, same_in, equal_values}
use Rattle.law_obligations.proofs.Operators.{seen_placed}
use Rattle.law_obligations.proofs.MayKeeps.{outcome_is, keeps}

-- some value of the parameter meets the guard
pub guard_met : (n : Numbered) (s : FlatState) (over : FlatSimple) (e : FlatExpr) (b : List Value) (v : Value) → Has (values_in n over) v → (i : Value) × Has (values_in n over) i × (guard_holds n s over e b i ≡ true)
guard_met n s over e b v h = at (flat_outcome n s e b)
  where
    at : (u : Outcome) → (i : Value) × Has (values_in n over) i × (is_or_outside (values_in n over) u i ≡ true)
    at None = (v, h, refl)
    at (Some u) = elim (cases_Bool (is_in (values_in n over) u)) [
      | inl e ↦ (u, Has-is_in (values_in n over) u e, either_right (not (is_in (values_in n over) u)) (same-itself u))
      | inr e ↦ (v, h, either_left (same u v) (ap not e))
    ]

pub is_one : (u : Outcome) → is_true (truth u) ≡ true → u ≡ Some (number 1)
is_one None e = absurd (cc)
is_one (Some (number zero)) e = absurd (cc)
is_one (Some (number (suc zero))) e = refl
is_one (Some (number (suc (suc k)))) e = absurd (cc)
is_one (Some (constant c)) e = absurd (cc)
is_one (Some (scalar t k)) e = absurd (cc)
is_one (Some (ordinal t k)) e = absurd (cc)

module _ (n : Numbered) (types : Name → AbsType) (spots : Placing) (facts : ArePlaced n (world n types) spots) (s : FlatState) (is_state : IsState n s) (kept : Kept) (a : AbsState) (picture : IsPicture n spots kept s a) where
  -- a guard that holds may hold in the picture
  pub guard_kept : (over : FlatSimple) (e : FlatExpr) (b : List Value) → AreValues n b → (i : Value) → Has (values_in n over) i → guard_holds n s over e b i ≡ true →
      may_guard (world n types) kept over e (map (placed spots) b) (placed spots i) a ≡ true
  guard_kept over e b h i k g = any-found (λ u. is_outside (places_in (world n types) over) u || may_equal (placed spots i) u) (keeps n types spots facts s is_state kept a picture e b h)
      (at (flat_outcome n s e b) (outcome_is n types spots facts s is_state e b h) g)
    where
      at : (u : Outcome) → IsOutcome n u → is_or_outside (values_in n over) u i ≡ true →
          (is_outside (places_in (world n types) over) (placed_outcome spots u) || may_equal (placed spots i) (placed_outcome spots u)) ≡ true
      at None p g = refl
      at (Some u) p g = elim (or_cases (not (is_in (values_in n over) u)) (same u i) g) [
        | inl o ↦ either_left (may_equal (placed spots i) (Some (placed spots u))) (ap not (sym (same_in n types spots facts over u p) ∙ not-true (is_in (values_in n over) u) o))
        | inr o ↦ either_right (not (is_among (places_in (world n types) over) (placed spots u)))
            (any-found is_true (subst (λ c. Has (equal_places (placed spots u) (placed spots i)) (Some c)) o (equal_values n types spots facts u i p (of_type n over i k))) refl)
      ]

  -- a claim that holds is met in the picture
  pub claim_may : (body : FlatExpr) (b : List Value) → AreValues n b → flat_outcome n s body b ≡ Some (number 1) → is_assumed (world n types) kept body (map (placed spots) b) a ≡ true
  claim_may body b h e = any-found (λ u. is_true (seen u)) (keeps n types spots facts s is_state kept a picture body b h)
      (ap is_true (seen_placed spots (flat_outcome n s body b)) ∙ ap (λ u. is_true (truth u)) e)

  -- a claim that is not broken in the picture holds
  pub claim_must : (body : FlatExpr) (b : List Value) → AreValues n b → is_broken_claim (world n types) kept body (map (placed spots) b) a ≡ false → flat_outcome n s body b ≡ Some (number 1)
  claim_must body b h e = is_one (flat_outcome n s body b)
      (ap is_true (sym (seen_placed spots (flat_outcome n s body b)))
      ∙ all-each (λ u. is_true (seen u)) (not_false (list_all (λ u. is_true (seen u)) (may (world n types) kept a body (map (placed spots) b))) e) (keeps n types spots facts s is_state kept a picture body b h))
    where
      not_false : (t : Bool) → not t ≡ false → t ≡ true
      not_false true e = refl
      not_false false e = absurd (cc)
