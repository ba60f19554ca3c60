-- Bindings that agree on what an expression reads.
use Rattle.std.proofs.Common.{◌≡◌, ℕ, suc, List, [], ◌∷◌, ◌++◌, map, length, Bool, arith, refl, sym, ap, ◌∙◌, subst}
use Rattle.std.proofs.lemmas.List.{append-nil}
use Rattle.law_lists.proofs.Lists.{head_is, append_again}
use Rattle.smv_core.specs.declared.flat.FlatExpr.{FlatExpr}
use Rattle.law_obligations.specs.May.{seen}
use Rattle.law_obligations.specs.Mix.{Mix, mix_by}
use Rattle.law_obligations.specs.FreeReads.{reads, Agree}
use Rattle.law_obligations.proofs.FreeVariables.{may_alike}
use Rattle.smv_free_variables.specs.Reading.{occurs}
use Rattle.smv_free_variables.specs.Alike.{AllAgree}
use Rattle.smv_spots.specs.declared.spots.Spot.{Spot}
use Rattle.smv_spots.specs.Spots.{place_in}
use Rattle.smv_conditions.specs.declared.chances.Chances.{Chances}
use Rattle.smv_conditions.specs.Chances.{mix_at, AreMade}
use Rattle.smv_conditions.specs.Chain.{AllMade}
use Rattle.smv_cells.specs.Seen.{View, outcomes}
use Rattle.smv_outcomes.specs.Outcomes.{mix_in, IsTruthOf, AreTruthsAlong}

-- the same for each
pub no_same : {C : Type 0} (x : Chances C) (bs : List (List Spot)) (each : List (Chances C)) → length bs ≡ 0 → each ≡ each ++ map (λ b. x) bs
no_same x [] each e = sym (append-nil each)
no_same x (b ∷ bs) each e = absurd (omega arith)

pub more_same : {C : Type 0} (x : Chances C) (bs others : List (List Spot)) (b : List Spot) (each longer new : List (Chances C)) → bs ≡ b ∷ others → longer ≡ each ++ x ∷ [] → new ≡ longer ++ map (λ b. x) others → new ≡ each ++ map (λ b. x) bs
more_same x bs others b each longer new e f made = made ∙ (ap (λ l. l ++ map (λ b. x) others) f ∙ (append_again each (map (λ b. x) others) x ∙ ap (λ l. each ++ map (λ b. x) l) (sym e)))

pub same_all : {C : Type 0} (none all new : List (Chances C)) → none ≡ [] → new ≡ none ++ all → new ≡ all
same_all none all new e f = f ∙ ap (λ l. l ++ all) e

pub alike_made : {C : Type 0} (IsMade : C → Type 0) (x : Chances C) (bs : List (List Spot)) (each : List (Chances C)) → each ≡ map (λ b. x) bs → AreMade IsMade x → AllMade IsMade each
alike_made IsMade x bs each e m = subst (AllMade IsMade) (sym e) (at bs)
  where
    at : (bs : List (List Spot)) → AllMade IsMade (map (λ b. x) bs)
    at [] = tt
    at (b ∷ bs) = (m, at bs)

-- bindings that agree are at places that agree
pub placed_alike : {X Y : Type 0} (place : X → Y) (f : ℕ → Bool) (b c : List X) → Agree f b c → Agree f (map place b) (map place c)
placed_alike place f [] [] h = tt
placed_alike place f [] (y ∷ c) h = absurd h
placed_alike place f (x ∷ b) [] h = absurd h
placed_alike place f (x ∷ b) (y ∷ c) h = (λ t. ap place (h.0 t), placed_alike place (λ k. f (suc k)) b c h.1)

module _ {S C : Type 0} (holds : S → C → (ℕ → Bool) → Bool) (s : S) (v : View) where
  pub no_bindings : (body : FlatExpr) (bs : List (List Spot)) (each : List (Chances C)) → length bs ≡ 0 → each ≡ [] → AreTruthsAlong holds s v body bs [] each
  unfolding AreTruthsAlong
  no_bindings body [] each e f a = ap (λ l. map (mix_at holds s a) l ++ []) f
  no_bindings body (b ∷ bs) each e f a = absurd (omega arith)

  -- what is read under one of them is read under the other
  mix_alike : (a : ℕ → Bool) (body : FlatExpr) (b c : List Spot) → Agree (λ k. occurs k body) b c → mix_in v a b body ≡ mix_in v a c body
  unfolding mix_in outcomes occurs
  mix_alike a body b c h = ap (mix_by seen) (may_alike v.world v.kept (v.state a) body (map (place_in v.world.classes) b) (map (place_in v.world.classes) c) (placed_alike (place_in v.world.classes) (λ k. reads k body) b c h))

  all_alike : (a : ℕ → Bool) (body : FlatExpr) (m : Mix) (first : List Spot) (bs : List (List Spot)) → m ≡ mix_in v a first body → AllAgree (λ k. occurs k body) first bs → map (λ b. m) bs ≡ map (λ b. mix_in v a b body) bs
  all_alike a body m first [] e h = refl
  all_alike a body m first (b ∷ bs) e h = ap (λ n. n ∷ map (λ b. m) bs) (e ∙ mix_alike a body first b h.0) ∙ ap (λ l. mix_in v a b body ∷ l) (all_alike a body m first bs e h.1)

  map_over : {X Y Z : Type 0} (f : Y → Z) (y : Y) (xs : List X) → map f (map (λ x. y) xs) ≡ map (λ x. f y) xs
  map_over f y [] = refl
  map_over f y (x ∷ xs) = ap (λ l. f y ∷ l) (map_over f y xs)

  pub alike_along : (body : FlatExpr) (bs others : List (List Spot)) (first shown shown' : List Spot) (x : Chances C) (each : List (Chances C)) → bs ≡ first ∷ others → shown ≡ first → shown' ≡ first → AllAgree (λ k. occurs k body) shown others → IsTruthOf holds s v body shown' x → each ≡ map (λ b. x) bs →
      AreTruthsAlong holds s v body bs [] each
  unfolding AreTruthsAlong IsTruthOf
  alike_along body bs others first shown shown' x each is e e' h truth made a =
      let here : mix_at holds s a x ≡ mix_in v a first body = truth a ∙ ap (λ b. mix_in v a b body) e' in
      let agree : AllAgree (λ k. occurs k body) first others = subst (λ b. AllAgree (λ k. occurs k body) b others) e h in
      append-nil (map (mix_at holds s a) each)
      ∙ (ap (map (mix_at holds s a)) made
      ∙ (map_over (mix_at holds s a) x bs
      ∙ (ap (map (λ b. mix_at holds s a x)) is
      ∙ (ap (λ m. m ∷ map (λ b. mix_at holds s a x) others) here ∙ (ap (λ l. mix_in v a first body ∷ l) (all_alike a body (mix_at holds s a x) first others here agree) ∙ ap (map (λ b. mix_in v a b body)) (sym is))))))

  -- what it is under the first of some bindings it is under each that agrees with that one
  pub alike_behind : (body : FlatExpr) (before more bs : List (List Spot)) (known others each : List (Chances C)) (first shown : List Spot) (x : Chances C) → before ≡ first ∷ more → known ≡ x ∷ others → shown ≡ first →
      AllAgree (λ k. occurs k body) shown bs → AreTruthsAlong holds s v body before [] known → each ≡ map (λ b. x) bs → AreTruthsAlong holds s v body bs [] each
  unfolding AreTruthsAlong
  alike_behind body before more bs known others each first shown x is is' e h truth made a =
      let heads : mix_at holds s a x ∷ (map (mix_at holds s a) others ++ []) ≡ mix_in v a first body ∷ map (λ b. mix_in v a b body) more =
      ap (λ l. map (mix_at holds s a) l ++ []) (sym is') ∙ (truth a ∙ ap (map (λ b. mix_in v a b body)) is) in
      let here : mix_at holds s a x ≡ mix_in v a first body = head_is heads in
      let agree : AllAgree (λ k. occurs k body) first bs = subst (λ b. AllAgree (λ k. occurs k body) b bs) e h in
      append-nil (map (mix_at holds s a) each)
      ∙ (ap (map (mix_at holds s a)) made
      ∙ (map_over (mix_at holds s a) x bs
      ∙ all_alike a body (mix_at holds s a x) first bs here agree))

  -- the same, where the expression, its bindings and its truth values are shown again
  pub along_shown : (body shown again : FlatExpr) (inners inners' others : List (List Spot)) (each each' : List (Chances C)) → shown ≡ body → again ≡ body → inners' ≡ inners → others ≡ inners → each' ≡ each → AreTruthsAlong holds s v shown inners' [] each → AreTruthsAlong holds s v again others [] each'
  along_shown body shown again inners inners' others each each' e e' f f' d h =
      subst (λ x. AreTruthsAlong holds s v x others [] each') (e ∙ sym e') (subst (λ bs. AreTruthsAlong holds s v shown bs [] each') (f ∙ sym f') (subst (AreTruthsAlong holds s v shown inners' []) (sym d) h))
