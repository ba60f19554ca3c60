-- What the target of a case allows, by its problem as it is written.
use Rattle.std.proofs.Common.{◌≡◌, ◌∙◌, suc, ◌-◌, List, [], ◌∷◌, ◌++◌, map, length, Bool, true, false, not, ◌&&◌, ◌||◌, if◌then◌else◌, refl, sym, ap, subst, Option, arith}
use Rattle.std.specs.List.{list_all, list_any, slice_get}
use Rattle.smv_core.specs.Values.{number, constant, scalar, ordinal}
use Rattle.smv_core.specs.declared.flat.Element.{Element}
use Rattle.smv_core.specs.declared.flat.DefBody.{DefBody}
use Rattle.smv_core.specs.declared.flat.FlatExpr.{FlatExpr}
use Rattle.smv_core.specs.declared.flat.Def.{Def}
use Rattle.law_obligations.specs.Sets.{Has, first, later}
use Rattle.law_obligations.specs.Places.{Place, named, rest, is_named}
use Rattle.law_obligations.specs.May.{AbsState}
use Rattle.law_obligations.specs.Pictures.{IsAbsState}
use Rattle.law_obligations.specs.Obligations.{Demanded, defined, holds}
use Rattle.law_obligations.specs.CasePaths.{last_of}
use Rattle.law_obligations.specs.Readings.{PosedCase}
use Rattle.law_obligations.proofs.Members.{Has-left, Has-right}
use Rattle.smv_spots.specs.declared.spots.Spot.{Spot}
use Rattle.smv_problem.specs.declared.problem.AbsValue.{AbsValue}
use Rattle.smv_problem.specs.declared.problem.AbsState.{AbsState as StateData}
use Rattle.smv_problem.specs.declared.problem.Demand.TheVariants.{Defined, Holds}
use Rattle.smv_problem.specs.declared.problem.Problem.{Problem}
use Rattle.smv_problem.specs.Written.{written, written_class, written_demand, written_state, written_before}
use Rattle.smv_problem.specs.WellFormed.{IsBefore, IsFit, IsWellFormed, OfCases, OfStates}
use Rattle.smv_walks.specs.Demands.{IsTargetOf}
use Rattle.smv_walks.proofs.DemandLaws.{written_inner}
use Rattle.smv_eval.specs.Held.{IsKept}
use Rattle.smv_eval.specs.Sure.{sure_values}
use Rattle.smv_eval.proofs.HeldLaws.{the_target}
use Rattle.smv_look_allowed.specs.Allowed.{AreAllowed, is_rest, target_values}

-- ---- rests

rest_written : (p : Place) → is_rest (written_class p) ≡ not (is_named p)
rest_written (named (number k)) = refl
rest_written (named (scalar t k)) = refl
rest_written (named (ordinal t k)) = refl
rest_written (named (constant name)) = refl
rest_written (rest (scalar t g)) = refl
rest_written (rest (ordinal t g)) = refl
rest_written (rest (number k)) = refl
rest_written (rest (constant name)) = refl

-- one of some places is a rest where not all are named
rests_written : (ps : List Place) → list_any is_rest (map written_class ps) ≡ not (list_all is_named ps)
rests_written [] = refl
rests_written (p ∷ ps) = at (is_named p) (rest_written p) (rests_written ps)
  where
    at : (b : Bool) → is_rest (written_class p) ≡ not b → list_any is_rest (map written_class ps) ≡ not (list_all is_named ps) → list_any is_rest (map written_class (p ∷ ps)) ≡ not (b && list_all is_named ps)
    at true e others = ap (λ r. r || list_any is_rest (map written_class ps)) e ∙ others
    at false e others = ap (λ r. r || list_any is_rest (map written_class ps)) e

-- ---- the target

module _ (c : PosedCase) (well : IsWellFormed c) (problem : Problem) (is : problem ≡ written c) (before : Option AbsState) (now : AbsState) where
  target_is : problem.target ≡ written_demand c.problem.world.classes c.problem.target
  unfolding written
  target_is = ap (λ (p : Problem). p.target) is

  module _ (element : Element) (init next comb : DefBody) (defines : problem.target ≡ Defined element init next comb) where
    -- indexes are rests or named as the target's are
    rests_are : (def : Def) (indexes : List Place) (b : Bool) → list_any is_rest element.indexes ≡ not b → problem.target ≡ written_demand c.problem.world.classes (defined def indexes) → list_all is_named indexes ≡ b
    rests_are def indexes b rests written =
        let same : element.indexes ≡ map written_class indexes = ap (λ (x : Element). x.indexes) (written_inner (sym defines ∙ written)).0 in
        same_not (list_all is_named indexes) b (sym (rests_written indexes) ∙ (sym (ap (list_any is_rest) same) ∙ rests))
      where
        same_not : (a b : Bool) → not a ≡ not b → a ≡ b
        same_not true true e = refl
        same_not true false e = absurd (cc (e))
        same_not false true e = absurd (cc (e))
        same_not false false e = refl

    pub none_at_rest : list_any is_rest element.indexes ≡ true → [] ≡ target_values c.problem c.problem.target before now
    none_at_rest rests = at c.problem.target refl
      where
        at : (d : Demanded) → c.problem.target ≡ d → [] ≡ target_values c.problem d before now
        at (holds body b) e = refl
        at (defined def indexes) e =
            ap (λ (named : Bool). if named then sure_values c.problem def indexes before now else []) (sym (rests_are def indexes false rests (target_is ∙ ap (written_demand c.problem.world.classes) e)))

    pub sure_else : list_any is_rest element.indexes ≡ false → (values : List AbsValue) →
        ((def : Def) (indexes : List Place) → problem.target ≡ written_demand c.problem.world.classes (defined def indexes) → IsFit c (defined def indexes) → IsKept c.problem (defined def indexes) → values ≡ sure_values c.problem def indexes before now) →
        values ≡ target_values c.problem c.problem.target before now
    sure_else rests values says = at c.problem.target refl
      where
        at : (d : Demanded) → c.problem.target ≡ d → values ≡ target_values c.problem d before now
        at (holds body b) e = absurd (other (sym defines ∙ (target_is ∙ ap (written_demand c.problem.world.classes) e)))
          where
            other : {spots : List Spot} → Defined element init next comb ≡ Holds body spots → ⊥
            other f = cc
        at (defined def indexes) e =
            let shown : problem.target ≡ written_demand c.problem.world.classes (defined def indexes) = target_is ∙ ap (written_demand c.problem.world.classes) e in
            let named : list_all is_named indexes ≡ true = rests_are def indexes true rests shown in
            let kept : c.problem.kept def.family indexes ≡ true = (subst (IsTargetOf c.problem) e (the_target c well)).0 named in
            says def indexes shown (subst (IsFit c) e well.target) kept ∙ ap (λ (b : Bool). if b then sure_values c.problem def indexes before now else []) (sym named)

  -- a claim allows none
  pub none_of_claim : (body : FlatExpr) (bindings : List Spot) → problem.target ≡ Holds body bindings → [] ≡ target_values c.problem c.problem.target before now
  none_of_claim body bindings claims = at c.problem.target refl
    where
      at : (d : Demanded) → c.problem.target ≡ d → [] ≡ target_values c.problem d before now
      at (holds other b) e = refl
      at (defined def indexes) e = absurd (unlike (sym claims ∙ (target_is ∙ ap (written_demand c.problem.world.classes) e)))
        where
          unlike : {element : Element} {init next comb : DefBody} → Holds body bindings ≡ Defined element init next comb → ⊥
          unlike f = cc

-- ---- the last time

apart : {X : Type 0} (xs ys : List X) (x y : X) → xs ++ x ∷ [] ≡ ys ++ y ∷ [] → (xs ≡ ys) × (x ≡ y)
apart [] [] x y e = (refl, cc)
apart [] (b ∷ []) x y e = absurd (cc (e))
apart [] (b ∷ c ∷ ys) x y e = absurd (cc (e))
apart (a ∷ []) [] x y e = absurd (cc (e))
apart (a ∷ c ∷ xs) [] x y e = absurd (cc (e))
apart (a ∷ xs) (b ∷ ys) x y e =
    let rest = apart xs ys x y (tail e) in
    ((λ i. first_of e i ∷ rest.0 i), rest.1)
  where
    first_of : a ∷ (xs ++ x ∷ []) ≡ b ∷ (ys ++ y ∷ []) → a ≡ b
    first_of e = cc

    tail : a ∷ (xs ++ x ∷ []) ≡ b ∷ (ys ++ y ∷ []) → xs ++ x ∷ [] ≡ ys ++ y ∷ []
    tail e = cc

map_behind : {X Y : Type 0} (f : X → Y) (xs : List X) (x : X) → map f (xs ++ x ∷ []) ≡ map f xs ++ f x ∷ []
map_behind f [] x = refl
map_behind f (a ∷ xs) x = ap (λ ys. f a ∷ ys) (map_behind f xs x)

module _ (c : PosedCase) where
  last_written : (states : List AbsState) → slice_get (map (written_state c) states) (length (map (written_state c) states) - 1) ≡ written_before c (last_of states)
  last_written [] = refl
  last_written (x ∷ []) = refl
  last_written (x ∷ y ∷ states) =
      let next : length (map (written_state c) (x ∷ y ∷ states)) - 1 ≡ suc (length (map (written_state c) (y ∷ states)) - 1) = omega arith in
      ap (slice_get (map (written_state c) (x ∷ y ∷ states))) next ∙ last_written (y ∷ states)

  last_is : (states : List AbsState) → ((a : AbsState) → Has states a → IsAbsState c.problem.world c.problem.kept a) → IsBefore c (last_of states)
  last_is [] are = tt
  last_is (x ∷ []) are = are x first
  last_is (x ∷ y ∷ states) are = last_is (y ∷ states) (λ a h. are a (later h))

-- what a target allows behind states that are written so, it allows at the end of the path
pub allowed_at_end : (problem : Problem) (path front : List StateData) (last : StateData) (old : Option StateData) (values : List AbsValue) → path ≡ front ++ last ∷ [] → old ≡ slice_get front (length front - 1) →
    OfStates problem last (λ c a. (before : Option AbsState) → IsBefore c before → old ≡ written_before c before → values ≡ target_values c.problem c.problem.target before a) → OfCases problem (λ c. AreAllowed c path values)
allowed_at_end problem path front last old values parts ends says c is well states now are shown =
    let split = apart front (map (written_state c) states) last (written_state c now) (sym parts ∙ (shown ∙ map_behind (written_state c) states now)) in
    says c is well now (are now (Has-right states first)) split.1 (last_of states) (last_is c states (λ a h. are a (Has-left (now ∷ []) h)))
    (ends ∙ (ap (λ (fs : List StateData). slice_get fs (length fs - 1)) split.0 ∙ last_written c states))
