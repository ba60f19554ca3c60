-- What a definition allows, and what holds of a unit's instance, with the values of scalarsets exchanged.
use Rattle.std.proofs.Common.{◌≡◌, ℕ, ◌+◌, ◌-◌, ◌<◌, List, [], ◌∷◌, map, Some, None, Option, Bool, true, false, ◌||◌, if◌then◌else◌, unwrap_or, inl, inr, refl, sym, ap, subst, ◌∙◌, arith, Contains}
use Rattle.std.specs.List.{list_any}
use Rattle.std.proofs.lemmas.List.Elements.{Contains-append_right}
use Rattle.smv_core.specs.Values.{Name, Value, number, constant, scalar, ordinal, Simple, range, choice, scalarset, ordset, Sizes, values_of, numbers_from}
use Rattle.smv_core.specs.Types.{Family}
use Rattle.smv_core.specs.FlatOrder.{TextDesign, Said, Claimed}
use Rattle.smv_core.specs.Outcome.{State, Bindings, outcome, family_at}
use Rattle.smv_core.specs.Walk.{Element, Walk, walk, first, first_of}
use Rattle.smv_core.specs.Assignments.{concerns}
use Rattle.smv_core.specs.Allowed.{definition_set, assignments_in, values_at, every_value, scene_at, is_concerned, walk_set, kept, stepped, allowed}
use Rattle.smv_core.specs.Sound.{Holds, map_of, bound}
use Rattle.smv_core.specs.declared.tree.Kind.{Kind}
use Rattle.smv_core.specs.declared.tree.Kind.TheVariants.{Comb, Init, Next}
use Rattle.smv_core.specs.declared.tree.TypeExpr.{TypeExpr}
use Rattle.law_meaning.specs.Exchange.{Exchanges, exchanged, exchanged_outcome, exchanged_bindings, exchanged_element, AreExchangedStates, AreExchangedValues, AreExchangedWalks}
use Rattle.law_meaning.proofs.Symmetry.{Has, outcome-ren, has-map, has-unmap, numbers-have, have-numbers}
use Rattle.law_meaning.proofs.Exchanged.{walked, has, contains}
use Rattle.law_meaning.specs.Laws.{AreExchangedBefore, IsPlain}
use Rattle.law_meaning.proofs.Concerned.{all-numbers, concerns-same}

-- ---- members of lists

module _ (sizes : Sizes) (f g : Name → ℕ → ℕ) (ex : Exchanges sizes f g) where
  -- ---- the values of a type

  abbrev Pictured : List Value → Type 0
  Pictured vs = ((v : Value) → Has vs v → Has vs (exchanged f v)) × ((w : Value) → Has vs w → (v : Value) × Has vs v × (exchanged f v ≡ w))

  as-they-are : {X : Type 0} (h : X → Value) → ((x : X) → exchanged f (h x) ≡ h x) → (xs : List X) → Pictured (map h xs)
  as-they-are h same xs = (
    λ v p. let q = has-unmap h xs v p in subst (λ w. Has (map h xs) (exchanged f w)) q.2 (subst (Has (map h xs)) (sym (same q.0)) (has-map h xs q.0 q.1)),
    λ w p. let q = has-unmap h xs w p in (h q.0, has-map h xs q.0 q.1, same q.0 ∙ q.2),
  )

  of-a-type : (t : Simple) → Pictured (values_of sizes t)
  of-a-type (range low high) = as-they-are number (λ n. refl) (numbers_from low (high + 1 - low))
  of-a-type (choice names) = as-they-are constant (λ a. refl) names
  of-a-type (ordset t) = as-they-are (ordinal t) (λ n. refl) (numbers_from 0 (sizes t))
  of-a-type (scalarset t) = (
    λ v p. let q = has-unmap (scalar t) (numbers_from 0 (sizes t)) v p in
        let low = have-numbers 0 (sizes t) q.0 q.1 in
        let new : f t q.0 < 0 + sizes t = let k = ex.keeps t q.0 (omega (arith, low)) in omega (arith, k) in
        subst (λ w. Has (map (scalar t) (numbers_from 0 (sizes t))) (exchanged f w)) q.2 (has-map (scalar t) (numbers_from 0 (sizes t)) (f t q.0) (numbers-have 0 (sizes t) (f t q.0) (omega arith) new)),
    λ w p. let q = has-unmap (scalar t) (numbers_from 0 (sizes t)) w p in
        let low = have-numbers 0 (sizes t) q.0 q.1 in
        let old : g t q.0 < 0 + sizes t = let k = ex.keeps_back t q.0 (omega (arith, low)) in omega (arith, k) in
        (scalar t (g t q.0), has-map (scalar t) (numbers_from 0 (sizes t)) (g t q.0) (numbers-have 0 (sizes t) (g t q.0) (omega arith) old), ap (scalar t) (ex.there_back t q.0) ∙ q.2),
  )

  typed : (t : Simple) → AreExchangedValues f (values_of sizes t) (values_of sizes t)
  typed t = (
    λ v p. contains (values_of sizes t) (exchanged f v) ((of-a-type t).0 v (has (values_of sizes t) v p)),
    λ w p. let r = (of-a-type t).1 w (has (values_of sizes t) w p) in (r.0, contains (values_of sizes t) r.0 r.1, r.2),
  )

  alone : (v w : Value) → w ≡ exchanged f v → AreExchangedValues f (v ∷ []) (w ∷ [])
  alone v w e = (
    λ u p. on-there u (has (v ∷ []) u p),
    λ u p. on-back u (has (w ∷ []) u p),
  )
    where
      on-there : (u : Value) → Has (v ∷ []) u → Contains (w ∷ []) (exchanged f u)
      on-there u (inl q) = (0, omega arith, e ∙ ap (exchanged f) q)
      on-there u (inr q) = absurd q

      on-back : (u : Value) → Has (w ∷ []) u → (x : Value) × Contains (v ∷ []) x × (exchanged f x ≡ u)
      on-back u (inl q) = (v, (0, omega arith, refl), sym e ∙ q)
      on-back u (inr q) = absurd q

  -- ---- walks

  abbrev Walks : Walk → Walk → Type 0
  Walks v w = AreExchangedWalks f v w

  earlier : (v w v' w' : Walk) → Walks v v' → Walks w w' → Walks (first_of v w) (first_of v' w')
  earlier None w None w' p q = q
  earlier (Some vs) w (Some vs') w' p q = p
  earlier None w (Some vs') w' p q = absurd p
  earlier (Some vs) w None w' p q = absurd p

  earliest : {X : Type 0} (W V : X → Walk) (xs : List X) → ((x : X) → Contains xs x → Walks (W x) (V x)) → Walks (first (map W xs)) (first (map V xs))
  earliest W V [] h = tt
  earliest W V (x ∷ xs) h = earlier (W x) (first (map W xs)) (V x) (first (map V xs)) (h x (0, omega arith, refl)) (earliest W V xs (λ y p. h y (Contains-append_right (x ∷ []) xs y p)))

  otherwise : (v w : Walk) (vs ws : List Value) → Walks v w → AreExchangedValues f vs ws → AreExchangedValues f (unwrap_or v vs) (unwrap_or w ws)
  otherwise None None vs ws p q = q
  otherwise (Some a) (Some b) vs ws p q = p
  otherwise None (Some b) vs ws p q = absurd p
  otherwise (Some a) None vs ws p q = absurd p

  chosen : (b : Bool) (us vs us' vs' : List Value) → AreExchangedValues f us us' → AreExchangedValues f vs vs' → AreExchangedValues f (if b then us else vs) (if b then us' else vs')
  chosen true us vs us' vs' p q = p
  chosen false us vs us' vs' p q = q

  -- ---- definitions

  module _ (d : TextDesign) (layer : Option Name) (x : Element) (plain : IsPlain d layer x) where
    abbrev There : Element
    There = exchanged_element f x

    abbrev Acts : List Said
    Acts = definition_set d layer

    free : AreExchangedValues f (every_value d sizes x) (every_value d sizes There)
    free = on (family_at d.families x.path)
      where
        on : (o : Option Family) → AreExchangedValues f (values_at sizes o) (values_at sizes o)
        on None = (λ v p. absurd (has [] v p), λ w p. absurd (has [] w p))
        on (Some family) = typed family.value

    walk-one : (s t : State) → AreExchangedStates f s t → (kind : Kind) (act : Said) → Contains Acts act →
        Walks (walk (scene_at d sizes act.instance) s kind x (every_value d sizes x) act.act []) (walk (scene_at d sizes act.instance) t kind There (every_value d sizes There) act.act [])
    walk-one s t are kind act p = on (family_at d.families x.path) refl
      where
        on : (o : Option Family) → family_at d.families x.path ≡ o →
            Walks (walk (scene_at d sizes act.instance) s kind x (values_at sizes o) act.act []) (walk (scene_at d sizes act.instance) t kind There (values_at sizes o) act.act [])
        on (Some family) e = walked (scene_at d sizes act.instance) f g ex s t are family.value kind x act.act [] [] tt (plain.conflicts act p) (plain.variables act p) (plain.whole kind act p)
        on None e = walked (scene_at d sizes act.instance) f g ex s t are (choice []) kind x act.act [] [] tt (plain.conflicts act p) (plain.variables act p) (plain.whole kind act p)

    walk-all : (s t : State) → AreExchangedStates f s t → (kind : Kind) → Walks (walk_set d sizes layer x kind s) (walk_set d sizes layer There kind t)
    walk-all s t are kind =
        earliest (λ (act : Said). walk (scene_at d sizes act.instance) s kind x (every_value d sizes x) act.act []) (λ (act : Said). walk (scene_at d sizes act.instance) t kind There (every_value d sizes There) act.act []) Acts (walk-one s t are kind)

    concerned : (kind : Kind) (acts : List Said) → list_any (λ (act : Said). list_any (concerns kind There) (assignments_in act)) acts ≡ list_any (λ (act : Said). list_any (concerns kind x) (assignments_in act)) acts
    concerned kind [] = refl
    concerned kind (act ∷ acts) =
        ap (λ b. b || list_any (λ (act : Said). list_any (concerns kind There) (assignments_in act)) acts) (concerns-same f kind x (assignments_in act) (all-numbers act.instance act.act []))
        ∙ ap (λ b. list_any (concerns kind x) (assignments_in act) || b) (concerned kind acts)

    keeping : (s t : State) → AreExchangedStates f s t → AreExchangedValues f (kept d sizes layer x s) (kept d sizes layer There t)
    keeping s t are =
        subst (λ b. AreExchangedValues f (kept d sizes layer x s) (if b then t x.path (map (exchanged f) x.indexes) ∷ [] else every_value d sizes There)) (sym (concerned Next Acts))
        (chosen (is_concerned d layer x Next) (s x.path x.indexes ∷ []) (every_value d sizes x) (t x.path (map (exchanged f) x.indexes) ∷ []) (every_value d sizes There) (alone (s x.path x.indexes) (t x.path (map (exchanged f) x.indexes)) (are x.path x.indexes)) free)

    at-a-step : (before there : Option State) → AreExchangedBefore f before there → (now then' : State) → AreExchangedStates f now then' → AreExchangedValues f (stepped d sizes layer x before now) (stepped d sizes layer There there then')
    at-a-step None None p now then' are = otherwise (walk_set d sizes layer x Init now) (walk_set d sizes layer There Init then') _ _ (walk-all now then' are Init) free
    at-a-step (Some s) (Some t) p now then' are = otherwise (walk_set d sizes layer x Next s) (walk_set d sizes layer There Next t) _ _ (walk-all s t p Next) (keeping s t p)
    at-a-step None (Some t) p now then' are = absurd p
    at-a-step (Some s) None p now then' are = absurd p

    pub definition : (before there : Option State) → AreExchangedBefore f before there → (now then' : State) → AreExchangedStates f now then' → AreExchangedValues f (allowed d sizes layer x before now) (allowed d sizes layer There there then')
    definition before there p now then' are =
        subst (λ b. AreExchangedValues f (allowed d sizes layer x before now) (if b then unwrap_or (walk_set d sizes layer There Comb then') (every_value d sizes There) else stepped d sizes layer There there then')) (sym (concerned Comb Acts))
        (chosen (is_concerned d layer x Comb) (unwrap_or (walk_set d sizes layer x Comb now) (every_value d sizes x)) (stepped d sizes layer x before now) (unwrap_or (walk_set d sizes layer There Comb then') (every_value d sizes There)) (stepped d sizes layer There there then')
        (otherwise (walk_set d sizes layer x Comb now) (walk_set d sizes layer There Comb then') _ _ (walk-all now then' are Comb) free) (at-a-step before there p now then' are))

  -- ---- units

  bound-there : (params : List (Name × TypeExpr)) (vs : List Value) (b : Bindings) → bound params (map (exchanged f) vs) (exchanged_bindings f b) ≡ exchanged_bindings f (bound params vs b)
  bound-there [] vs b = refl
  bound-there (p ∷ params) [] b = refl
  bound-there (p ∷ params) (v ∷ vs) b = bound-there params vs ((p.0, v) ∷ b)

  pub claim : (d : TextDesign) (c : Claimed) (vs : List Value) (now then' : State) → AreExchangedStates f now then' → outcome (scene_at d sizes c.instance) now c.body (bound c.params vs []) ≡ Some (number 1) →
      outcome (scene_at d sizes c.instance) then' c.body (bound c.params (map (exchanged f) vs) []) ≡ Some (number 1)
  claim d c vs now then' are e =
      ap (outcome (scene_at d sizes c.instance) then' c.body) (bound-there c.params vs []) ∙ outcome-ren sizes f g ex d.types d.families c.instance now then' are c.body (bound c.params vs [])
      ∙ ap (exchanged_outcome f) e

  pub map-there : (d : TextDesign) (layer : Name) (family : Family) (vs : List Value) → IsPlain d (Some layer) (record { path = family.path; indexes = vs }) →
      (before there : Option State) → AreExchangedBefore f before there → (now then' : State) → AreExchangedStates f now then' →
      Holds d sizes (map_of layer family) vs before now → Holds d sizes (map_of layer family) (map (exchanged f) vs) there then'
  map-there d layer family vs plain before there p now then' are h =
      subst (Contains (allowed d sizes (Some layer) (record { path = family.path; indexes = map (exchanged f) vs }) there then')) (sym (are family.path vs))
      ((definition d (Some layer) (record { path = family.path; indexes = vs }) plain before there p now then' are).0 (now family.path vs) h)
