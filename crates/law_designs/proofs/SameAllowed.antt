-- The flattened text allows an element the values that the text allows it.
use Rattle.std.proofs.Common.{◌≡◌, List, [], ◌∷◌, Option, Some, None, Bool, cond, unwrap_or, slice_get, refl, sym, ap, ◌∙◌, subst}
use Rattle.std.proofs.lemmas.List.Folds.{find_at}
use Rattle.smv_core.specs.Values.{Name, Value, Sizes}
use Rattle.smv_core.specs.Types.{Family}
use Rattle.smv_core.specs.FlatOrder.{design_of}
use Rattle.smv_core.specs.Outcome.{State, family_at, same_path}
use Rattle.smv_core.specs.Walk.{Element, Walk}
use Rattle.smv_core.specs.Allowed.{every_value, walk_set, is_concerned, kept, stepped, allowed}
use Rattle.smv_core.specs.FlatMeaning.{FlatState, FlatElement}
use Rattle.smv_core.specs.declared.tree.Kind.{Kind}
use Rattle.smv_core.specs.declared.tree.Kind.TheVariants.{Comb, Init, Next}
use Rattle.smv_core.specs.declared.tree.Text.{Text}
use Rattle.law_designs.specs.Flattening.{scope_in, flatten}
use Rattle.law_designs.specs.Agreement.{AreSameStates, flat_element}
use Rattle.law_designs.proofs.Numbered.{AreNumbered}
use Rattle.law_designs.specs.WholeText.{flat_text_walk, TextIsRight}
use Rattle.law_designs.specs.FlatTextAllowed.{flat_text_is_concerned, flat_text_kept, flat_text_stepped, flat_text_allowed, AreSameBefore}
use Rattle.law_designs.proofs.Lookups.{find-passes}
use Rattle.law_designs.proofs.SameFamilies.{families-same}
use Rattle.law_designs.proofs.SameSets.{set-same}
use Rattle.law_designs.proofs.SameWalks.{path-equal}
use Rattle.law_designs.proofs.SameConcerns.{set-concerned}

cond-same : {X : Type 0} (a b : Bool) (u v w x : X) → a ≡ b → u ≡ v → w ≡ x → cond a u w ≡ cond b v x
cond-same a b u v w x h k l = rw (h, k, l) refl

or_every : (every : List Value) (u v : Walk) → u ≡ v → unwrap_or u every ≡ unwrap_or v every
or_every every u v h = ap (λ w. unwrap_or w every) h

module _ (text : Text) (sizes : Sizes) (numbers : AreNumbered text sizes) (right : TextIsRight text) (layer : Option Name) (x : Element) (f : Family) (found : family_at (design_of text).families x.path ≡ Some f) where
  abbrev every : List Value
  every = every_value (design_of text) sizes x

  abbrev flat_x : FlatElement
  flat_x = flat_element (scope_in text []) x

  walk-same : (s : State) (t : FlatState) → AreSameStates (design_of text).families s t → (kind : Kind) → flat_text_walk (flatten text) sizes t layer flat_x every kind ≡ walk_set (design_of text) sizes layer x kind s
  walk-same s t states kind = set-same text sizes s t states numbers layer kind x every f found right

  concerned-same : (kind : Kind) → flat_text_is_concerned (flatten text) sizes layer flat_x every kind ≡ is_concerned (design_of text) layer x kind
  concerned-same kind = set-concerned text layer kind x f found

  -- the element's own value
  value-same : (s : State) (t : FlatState) → AreSameStates (design_of text).families s t → t flat_x.family x.indexes ≡ s x.path x.indexes
  value-same s t states =
      let here : slice_get (scope_in text []).families flat_x.family ≡ Some f =
      sym (find_at (λ g. same_path g.path x.path) (scope_in text []).families) ∙ subst (λ fs. family_at fs x.path ≡ Some f) (sym (families-same text)) found in
      let same : f.path ≡ x.path = path-equal f.path x.path (find-passes (λ g. same_path g.path x.path) (design_of text).families f found) in
      subst (λ fs. AreSameStates fs s t) (sym (families-same text)) states flat_x.family f here x.indexes ∙ ap (λ path. s path x.indexes) same

  kept-same : (s : State) (t : FlatState) → AreSameStates (design_of text).families s t → flat_text_kept (flatten text) sizes layer flat_x every t ≡ kept (design_of text) sizes layer x s
  kept-same s t states =
      cond-same (flat_text_is_concerned (flatten text) sizes layer flat_x every Next) (is_concerned (design_of text) layer x Next) (t flat_x.family x.indexes ∷ []) (s x.path x.indexes ∷ []) every every
      (concerned-same Next) (ap (λ v. v ∷ []) (value-same s t states)) refl

  stepped-same : (before : Option State) (flat_before : Option FlatState) → AreSameBefore (design_of text).families before flat_before → (s : State) (t : FlatState) → AreSameStates (design_of text).families s t →
      flat_text_stepped (flatten text) sizes layer flat_x every flat_before t ≡ stepped (design_of text) sizes layer x before s
  stepped-same None None h s t states = or_every every (flat_text_walk (flatten text) sizes t layer flat_x every Init) (walk_set (design_of text) sizes layer x Init s) (walk-same s t states Init)
  stepped-same None (Some flat_old) h s t states = absurd h
  stepped-same (Some old) None h s t states = absurd h
  stepped-same (Some old) (Some flat_old) h s t states =
      both (flat_text_walk (flatten text) sizes flat_old layer flat_x every Next) (walk_set (design_of text) sizes layer x Next old) _ (kept (design_of text) sizes layer x old) (walk-same old flat_old h Next) (kept-same old flat_old h)
    where
      both : (u v : Walk) (vs ws : List Value) → u ≡ v → vs ≡ ws → unwrap_or u vs ≡ unwrap_or v ws
      both u v vs ws h k = rw (h, k) refl

  pub allowed-same : (before : Option State) (flat_before : Option FlatState) → AreSameBefore (design_of text).families before flat_before → (s : State) (t : FlatState) → AreSameStates (design_of text).families s t →
      flat_text_allowed (flatten text) sizes layer flat_x every flat_before t ≡ allowed (design_of text) sizes layer x before s
  allowed-same before flat_before h s t states =
      cond-same (flat_text_is_concerned (flatten text) sizes layer flat_x every Comb) (is_concerned (design_of text) layer x Comb)
      (unwrap_or (flat_text_walk (flatten text) sizes t layer flat_x every Comb) every) (unwrap_or (walk_set (design_of text) sizes layer x Comb s) every)
      (flat_text_stepped (flatten text) sizes layer flat_x every flat_before t) (stepped (design_of text) sizes layer x before s)
      (concerned-same Comb) (or_every every (flat_text_walk (flatten text) sizes t layer flat_x every Comb) (walk_set (design_of text) sizes layer x Comb s) (walk-same s t states Comb)) (stepped-same before flat_before h s t states)
