-- The claims of the flattened text are those of the tree.
use Rattle.std.proofs.Common.{◌≡◌, ℕ, suc, ◌+◌, List, [], ◌∷◌, ◌++◌, map, flat_map, length, All, refl, sym, ap, ◌∙◌, subst, append_assoc, append-nil, arith}
use Rattle.std.specs.List.{AllZip}
use Rattle.std.proofs.lemmas.List.Elements.{All-head, All-tail}
use Rattle.smv_core.specs.Values.{Name, Path, Value, Sizes}
use Rattle.smv_core.specs.Types.{values_over}
use Rattle.smv_core.specs.FlatOrder.{Met, said, claimed, Claimed, design_of}
use Rattle.smv_core.specs.Outcome.{State, Bindings, outcome}
use Rattle.smv_core.specs.Allowed.{scene_at}
use Rattle.smv_core.specs.Sound.{bound}
use Rattle.smv_core.specs.Assignments.{Around, any}
use Rattle.smv_core.specs.Conflicts.{Agrees}
use Rattle.smv_core.specs.FlatMeaning.{FlatState, flat_outcome, values_in}
use Rattle.smv_core.specs.declared.tree.Word.{Word}
use Rattle.smv_core.specs.declared.tree.Text.{Text}
use Rattle.smv_core.specs.declared.tree.Expr.{Expr}
use Rattle.law_designs.specs.Statements.{flat_expr, flat_stmt}
use Rattle.law_designs.specs.Entries.{Binders, claim, split, using, Entry, layer, statement, goal, entries, placed_families}
use Rattle.law_designs.specs.Flattening.{scope_in, flatten, flat_entry, with_places, flat_assignments, layers_of, within, params_from, dotted}
use Rattle.law_designs.specs.Agreement.{AreSameStates, IsRight, numbers_in, values_bound}
use Rattle.law_designs.proofs.Numbered.{AreNumbered}
use Rattle.law_designs.specs.WholeText.{claims_of, claims_met, BindersAreRight, EntryIsRight, TextIsRight, IsSameClaim}
use Rattle.law_designs.proofs.SameReads.{over-same}
use Rattle.law_designs.proofs.SameText.{outcome_of_text}
use Rattle.law_designs.proofs.Entries.{AreAlike, params_of, entries-alike}

-- ---- parameters

agrees-within : (binders : Binders) (vs : List Value) (vars : Around) (b : Bindings) → Agrees vars b → length vs ≡ length binders → Agrees (within vars binders) (bound (params_of binders) vs b)
agrees-within [] vs vars b h e = h
agrees-within ((word, over) ∷ binders) [] vars b h e = absurd (omega (arith, e))
agrees-within ((word, over) ∷ binders) (v ∷ vs) vars b h e = agrees-within binders vs ((word.name, any) ∷ vars) ((word.name, v) ∷ b) (refl, h) (omega (arith, e))

values-within : (binders : Binders) (vs : List Value) (vars : Around) (b : Bindings) → length vs ≡ length binders → values_bound (within vars binders) (bound (params_of binders) vs b) ≡ values_bound vars b ++ vs
values-within [] [] vars b e = sym (append-nil (values_bound vars b))
values-within [] (v ∷ vs) vars b e = absurd (omega (arith, e))
values-within ((word, over) ∷ binders) [] vars b e = absurd (omega (arith, e))
values-within ((word, over) ∷ binders) (v ∷ vs) vars b e =
    values-within binders vs ((word.name, any) ∷ vars) ((word.name, v) ∷ b) (omega (arith, e)) ∙ append_assoc (values_bound vars b) (v ∷ []) vs

params-length : (binders : Binders) → length (params_of binders) ≡ length binders
params-length [] = refl
params-length ((word, over) ∷ binders) = ap suc (params-length binders)

module _ (text : Text) (sizes : Sizes) (s : State) (t : FlatState) (states : AreSameStates (design_of text).families s t) (numbers : AreNumbered text sizes) where
  params-same : (instance : Path) (k : ℕ) (binders : Binders) → BindersAreRight binders →
      map (λ p. values_in (numbers_in text sizes) p.over) (params_from (scope_in text instance) k binders) ≡ map (λ (name, over). values_over (design_of text).types sizes over) (params_of binders)
  params-same instance k [] h = refl
  params-same instance k ((word, over) ∷ binders) h =
      let scope = scope_in text instance in
      rw (over-same scope.types scope.sets scope.enums (placed_families text) instance sizes over (numbers.1 over h.0), params-same instance (k + 1) binders h.1) refl

  body-same : (instance : Path) (binders : Binders) (body : Expr) → IsRight (scope_in text instance) (within [] binders) body → (vs : List Value) → length vs ≡ length (params_of binders) →
      flat_outcome (numbers_in text sizes) t (flat_expr (scope_in text instance) (within [] binders) body) vs ≡ outcome (scene_at (design_of text) sizes instance) s body (bound (params_of binders) vs [])
  body-same instance binders body right vs e =
      let same_length : length vs ≡ length binders = e ∙ params-length binders in
      subst (λ fb. flat_outcome (numbers_in text sizes) t (flat_expr (scope_in text instance) (within [] binders) body) fb ≡ outcome (scene_at (design_of text) sizes instance) s body (bound (params_of binders) vs []))
      (values-within binders vs [] [] same_length)
      (outcome_of_text text sizes s t states numbers instance (within [] binders) body (bound (params_of binders) vs []) (agrees-within binders vs [] [] tt same_length) right)

  claim-same : (instance : Path) (binders : Binders) (word : Word) (vars : List Word) (body : Expr) (at k : ℕ) (c : Claimed) → instance ≡ c.instance → params_of binders ≡ c.params → body ≡ c.body → word.name ≡ c.name →
      EntryIsRight text (goal instance binders (claim word vars body at)) →
      IsSameClaim text sizes s t (record { name = dotted (instance ++ word.name ∷ []); vars = vars; params = params_from (scope_in text instance) 0 binders; body = flat_expr (scope_in text instance) (within [] binders) body; place = k; at = at }) c
  claim-same instance binders word vars body at k c e f g l right =
      subst (λ d. IsSameClaim text sizes s t (record { name = dotted (instance ++ word.name ∷ []); vars = vars; params = params_from (scope_in text instance) 0 binders; body = flat_expr (scope_in text instance) (within [] binders) body; place = k; at = at }) d)
      (record-same c e f g l)
      (refl, params-same instance 0 binders right.1, body-same instance binders body right.0)
    where
      record-same : (c : Claimed) → instance ≡ c.instance → params_of binders ≡ c.params → body ≡ c.body → word.name ≡ c.name →
          record { instance = instance; name = word.name; params = params_of binders; body = body } ≡ c
      record-same c e f g l = rw (e, f, g, l) refl

  claims-same : (k : ℕ) (es : List Entry) (ms : List Met) → AreAlike es ms → All (EntryIsRight text) es → (layers : List Name) →
      AllZip (IsSameClaim text sizes s t) (claims_of (with_places k (flat_map (flat_entry text layers) es))) (claims_met ms)
  claims-same k [] [] h right layers = tt
  claims-same k [] (m ∷ ms) h right layers = absurd h
  claims-same k (layer name ∷ es) ms h right layers = claims-same k es ms h (All-tail (EntryIsRight text) (layer name) es right) layers
  claims-same k (goal i binders (split word vars of pairs at) ∷ es) ms h right layers = claims-same k es ms h (All-tail (EntryIsRight text) (goal i binders (split word vars of pairs at)) es right) layers
  claims-same k (goal i binders (using uses proves at) ∷ es) ms h right layers = claims-same k es ms h (All-tail (EntryIsRight text) (goal i binders (using uses proves at)) es right) layers
  claims-same k (goal i binders (claim word vars body at) ∷ es) [] h right layers = absurd h
  claims-same k (goal i binders (claim word vars body at) ∷ es) (said y ∷ ms) h right layers = absurd h
  claims-same k (goal i binders (claim word vars body at) ∷ es) (claimed c ∷ ms) h right layers = (
    claim-same i binders word vars body at k c h.0 h.1 h.2 h.3 (All-head (EntryIsRight text) (goal i binders (claim word vars body at)) es right),
    claims-same (k + 1) es ms h.4 (All-tail (EntryIsRight text) (goal i binders (claim word vars body at)) es right) layers,
  )
  claims-same k (statement y ∷ es) [] h right layers = absurd h
  claims-same k (statement y ∷ es) (claimed c ∷ ms) h right layers = absurd h
  claims-same k (statement y ∷ es) (said z ∷ ms) h right layers = claims-same (k + length (flat_assignments (flat_stmt (scope_in text y.instance) [] y.act))) es ms h.3 (All-tail (EntryIsRight text) (statement y) es right) layers

  pub claims-of-text : TextIsRight text → AllZip (IsSameClaim text sizes s t) (claims_of (flatten text).items) (claims_met (design_of text).met)
  claims-of-text right = claims-same 0 (entries text) (design_of text).met (entries-alike text) right (layers_of (entries text))
