-- The statements of a layer give an element in the flattened text what they give it on the tree.
use Rattle.std.proofs.Common.{◌≡◌, ℕ, ◌+◌, List, [], ◌∷◌, map, length, filter, flat_map, All, Option, Some, Bool, true, false, cond, option_map, refl, ap, ◌∙◌, subst}
use Rattle.std.proofs.lemmas.List.Elements.{All-head, All-tail}
use Rattle.smv_core.specs.Values.{Name, Value, Sizes}
use Rattle.smv_core.specs.Types.{Family}
use Rattle.smv_core.specs.FlatOrder.{Met, said, claimed, Said, design_of}
use Rattle.smv_core.specs.Outcome.{State, family_at}
use Rattle.smv_core.specs.Walk.{Element, Walk, walk, first}
use Rattle.smv_core.specs.Allowed.{scene_at, is_layer, said_in, definition_set}
use Rattle.smv_core.specs.FlatMeaning.{FlatState, FlatElement, flat_walk}
use Rattle.smv_core.specs.declared.tree.Kind.{Kind}
use Rattle.smv_core.specs.declared.tree.Text.{Text}
use Rattle.smv_core.specs.declared.flat.FlatStmt.{FlatStmt}
use Rattle.smv_core.specs.declared.flat.FlatItem.{FlatItem}
use Rattle.smv_core.specs.declared.flat.FlatItem.TheVariants as item
use Rattle.law_designs.specs.Statements.{flat_stmt}
use Rattle.law_designs.specs.Entries.{claim, split, using, Entry, layer, statement, goal, entries}
use Rattle.law_designs.specs.Flattening.{scope_in, flatten, flat_entry, with_places, flat_assignments, layers_of, layer_number}
use Rattle.law_designs.specs.Agreement.{AreSameStates, flat_element, numbers_in}
use Rattle.law_designs.proofs.Numbered.{AreNumbered}
use Rattle.law_designs.specs.WholeText.{is_one_layer, acts_of, flat_text_walk, EntryIsRight, TextIsRight}
use Rattle.law_designs.proofs.Entries.{AreAlike, entries-alike}
use Rattle.law_designs.proofs.Layers.{AreListed, layers-listed, layer-same}
use Rattle.law_designs.proofs.SameText.{walk_of_text}

-- the places of claims are no part of statements
pub acts-placed : (number : Option ℕ) (k : ℕ) (items : List FlatItem) → acts_of number (with_places k items) ≡ acts_of number items
acts-placed number k [] = refl
acts-placed number k (item.Act other act ∷ items) = ap (λ l. cond (is_one_layer number other) (act ∷ l) l) (acts-placed number (k + length (flat_assignments act)) items)
acts-placed number k (item.Claim c ∷ items) = acts-placed number (k + 1) items
acts-placed number k (item.Split c ∷ items) = acts-placed number k items
acts-placed number k (item.Using c ∷ items) = acts-placed number k items

module _ (text : Text) (sizes : Sizes) (s : State) (t : FlatState) (states : AreSameStates (design_of text).families s t) (numbers : AreNumbered text sizes)
    (wanted : Option Name) (kind : Kind) (x : Element) (every : List Value) (f : Family) (found : family_at (design_of text).families x.path ≡ Some f) where
  abbrev layers : List Name
  layers = layers_of (entries text)

  abbrev flat_x : FlatElement
  flat_x = flat_element (scope_in text []) x

  abbrev fw : FlatStmt → Walk
  fw act = flat_walk (numbers_in text sizes) t flat_x every kind act []

  abbrev tw : Said → Walk
  tw act = walk (scene_at (design_of text) sizes act.instance) s kind x every act.act []

  chosen-same : (b c : Bool) (act : FlatStmt) (acts : List FlatStmt) (y : Said) (ys : List Said) → b ≡ c → fw act ≡ tw y → first (map fw acts) ≡ first (map tw ys) →
      first (map fw (cond b (act ∷ acts) acts)) ≡ first (map tw (cond c (y ∷ ys) ys))
  chosen-same b c act acts y ys e h k = subst (λ d. first (map fw (cond b (act ∷ acts) acts)) ≡ first (map tw (cond d (y ∷ ys) ys))) e (by_test b)
    where
      by_test : (b : Bool) → first (map fw (cond b (act ∷ acts) acts)) ≡ first (map tw (cond b (y ∷ ys) ys))
      by_test true = rw (h, k) refl
      by_test false = k

  acts-same : (es : List Entry) (ms : List Met) → AreAlike es ms → All (EntryIsRight text) es → AreListed layers es →
      first (map fw (acts_of (option_map (layer_number layers) wanted) (flat_map (flat_entry text layers) es))) ≡ first (map tw (filter (λ y. is_layer y.layer wanted) (flat_map said_in ms)))
  acts-same [] [] h right listed = refl
  acts-same [] (m ∷ ms) h right listed = absurd h
  acts-same (layer name ∷ es) ms h right listed = acts-same es ms h (All-tail (EntryIsRight text) (layer name) es right) listed
  acts-same (goal i binders (split word vars of pairs at) ∷ es) ms h right listed = acts-same es ms h (All-tail (EntryIsRight text) (goal i binders (split word vars of pairs at)) es right) listed
  acts-same (goal i binders (using uses proves at) ∷ es) ms h right listed = acts-same es ms h (All-tail (EntryIsRight text) (goal i binders (using uses proves at)) es right) listed
  acts-same (goal i binders (claim word vars body at) ∷ es) [] h right listed = absurd h
  acts-same (goal i binders (claim word vars body at) ∷ es) (said y ∷ ms) h right listed = absurd h
  acts-same (goal i binders (claim word vars body at) ∷ es) (claimed c ∷ ms) h right listed = acts-same es ms h.4 (All-tail (EntryIsRight text) (goal i binders (claim word vars body at)) es right) listed
  acts-same (statement y ∷ es) [] h right listed = absurd h
  acts-same (statement y ∷ es) (claimed c ∷ ms) h right listed = absurd h
  acts-same (statement y ∷ es) (said z ∷ ms) h right listed =
      chosen-same (is_one_layer (option_map (layer_number layers) wanted) (option_map (layer_number layers) y.layer)) (is_layer z.layer wanted)
      (flat_stmt (scope_in text y.instance) [] y.act) (acts_of (option_map (layer_number layers) wanted) (flat_map (flat_entry text layers) es)) z (filter (λ w. is_layer w.layer wanted) (flat_map said_in ms))
      (layer-same layers y.layer wanted listed.0 ∙ ap (λ l. is_layer l wanted) h.0)
      (walk_of_text text sizes s t states numbers kind x every f found y.instance [] y.act [] tt (All-head (EntryIsRight text) (statement y) es right)
      ∙ h.2.0 (scene_at (design_of text) sizes y.instance) s kind x every [] ∙ ap (λ i. walk (scene_at (design_of text) sizes i) s kind x every z.act []) h.1)
      (acts-same es ms h.3 (All-tail (EntryIsRight text) (statement y) es right) listed.1)

  pub set-same : TextIsRight text → flat_text_walk (flatten text) sizes t wanted flat_x every kind ≡ first (map tw (definition_set (design_of text) wanted))
  set-same right =
      ap (λ acts. first (map fw acts)) (acts-placed (option_map (layer_number layers) wanted) 0 (flat_map (flat_entry text layers) (entries text)))
      ∙ acts-same (entries text) (design_of text).met (entries-alike text) right (layers-listed text)
