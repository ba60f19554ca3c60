-- The layers of what is met.
use Rattle.std.proofs.Common.{◌≡◌, ℕ, suc, ◌+◌, List, [], ◌∷◌, ◌++◌, map, filter, length, Option, Some, None, option_map, Bool, true, false, cond, not, ◌||◌, Decides, refl, sym, ap, ◌∙◌, arith}
use Rattle.std.specs.Prelude.{is_some, unwrap_or}
use Rattle.std.specs.Str.{bytes_eq}
use Rattle.std.specs.List.{flat_map, list_any}
use Rattle.std.proofs.lemmas.List.{append-nil, append_assoc}
use Rattle.std.proofs.lemmas.Slice.Eq.{bytes_eq-Decides}
use Rattle.law_lists.proofs.Booleans.{same_tests}
use Rattle.law_lists.proofs.Lists.{flat_map-flat_map, flat_map_agree}
use Rattle.smv_core.specs.Values.{Name, Path}
use Rattle.smv_core.specs.Types.{types_from}
use Rattle.smv_core.specs.FlatOrder.{modules, body_of}
use Rattle.smv_core.specs.declared.tree.Text.{Text}
use Rattle.smv_core.specs.declared.tree.Stmt.{Stmt}
use Rattle.law_designs.specs.Entries.{Binders, Entry, layer, statement, goal, inside_binder, connections, item_entries, entries_in}
use Rattle.law_designs.specs.Flattening.{different, layer_of, layers_of, layer_number}
use Rattle.name_index.specs.Position.{position}
use Rattle.smv_flatten_families.specs.Held.{path_of}
use Rattle.smv_flatten.specs.declared.leaves.What.{What}
use Rattle.smv_flatten.specs.declared.leaves.What.TheVariants.{Instance, Layer, Claim, Split, Using, Act}
use Rattle.smv_flatten.specs.declared.met.Met.{Met}
use Rattle.smv_flatten.specs.Leaves.{binders_of, item_of}
use Rattle.smv_flatten.specs.Met.{wrapped, said_in, entries_met}
use Rattle.smv_flatten.specs.Layers.{with_layer, with_layers, heads}

-- ---- numbers

bytes-sym : (a b : Name) → bytes_eq a b ≡ bytes_eq b a
bytes-sym a b = same_tests (bytes_eq a b) (bytes_eq b a) (λ e. (bytes_eq-Decides b a).1 (sym ((bytes_eq-Decides a b).0 e))) (λ e. (bytes_eq-Decides a b).1 (sym ((bytes_eq-Decides b a).0 e)))

-- the number of a layer is its place, or how many layers there are
number-at : (names : List Name) (name : Name) → layer_number names name ≡ unwrap_or (position names name) (length names)
number-at [] name = refl
number-at (x ∷ names) name = ap (λ b. cond (not b) (1 + layer_number names name) 0) (bytes-sym name x) ∙ by (bytes_eq x name) (position names name) (number-at names name)
  where
    by : (b : Bool) (o : Option ℕ) → layer_number names name ≡ unwrap_or o (length names) → cond (not b) (1 + layer_number names name) 0 ≡ unwrap_or (cond b (Some 0) (option_map suc o)) (suc (length names))
    by true o e = refl
    by false None e = let g : 1 + length names ≡ suc (length names) = omega arith in ap (λ n. 1 + n) e ∙ g
    by false (Some i) e = let g : 1 + i ≡ suc i = omega arith in ap (λ n. 1 + n) e ∙ g

pub number-Some : (names : List Name) (name : Name) (i : ℕ) → position names name ≡ Some i → layer_number names name ≡ i
number-Some names name i e = number-at names name ∙ ap (λ o. unwrap_or o (length names)) e

pub number-None : (names : List Name) (name : Name) → position names name ≡ None → layer_number names name ≡ length names
number-None names name e = number-at names name ∙ ap (λ o. unwrap_or o (length names)) e

pub ruleset numbers = (number-Some, number-None)

-- ---- each once

place-any : (names : List Name) (name : Name) → is_some (position names name) ≡ list_any (λ x. bytes_eq x name) names
place-any [] name = refl
place-any (x ∷ names) name = by (bytes_eq x name) (position names name) (place-any names name)
  where
    by : (b : Bool) (o : Option ℕ) → is_some o ≡ list_any (λ y. bytes_eq y name) names → is_some (cond b (Some 0) (option_map suc o)) ≡ (b || list_any (λ y. bytes_eq y name) names)
    by true o e = refl
    by false None e = e
    by false (Some i) e = e

module _ {X : Type 0} (same : X → X → Bool) (decides : (a b : X) → Decides (same a b) (a ≡ b)) where
  filter-any : (y x : X) → same y x ≡ false → (xs : List X) → list_any (λ z. same z x) (filter (λ z. not (same y z)) xs) ≡ list_any (λ z. same z x) xs
  filter-any y x apart [] = refl
  filter-any y x apart (z ∷ xs) = by (same z x) (same y z) refl refl (filter-any y x apart xs)
    where
      by : (b c : Bool) → same z x ≡ b → same y z ≡ c → list_any (λ z. same z x) (filter (λ z. not (same y z)) xs) ≡ list_any (λ z. same z x) xs →
          list_any (λ z. same z x) (cond (not c) (z ∷ filter (λ z. not (same y z)) xs) (filter (λ z. not (same y z)) xs)) ≡ (b || list_any (λ z. same z x) xs)
      by true true h k rest =
          let equal : same y x ≡ true = (decides y x).1 ((decides y z).0 k ∙ (decides z x).0 h) in
          absurd (cc (equal, apart))
      by false true h k rest = rest
      by b false h k rest = ap (λ c. c || list_any (λ z. same z x) (filter (λ z. not (same y z)) xs)) h ∙ ap (λ c. b || c) rest

  filter-push : (p : X → Bool) (x : X) (xs : List X) → filter p (xs ++ x ∷ []) ≡ cond (p x) (filter p xs ++ x ∷ []) (filter p xs)
  filter-push p x [] = refl
  filter-push p x (y ∷ xs) = ap (λ l. cond (p y) (y ∷ l) l) (filter-push p x xs) ∙ by (p y) (p x)
    where
      by : (b c : Bool) → cond b (y ∷ cond c (filter p xs ++ x ∷ []) (filter p xs)) (cond c (filter p xs ++ x ∷ []) (filter p xs)) ≡ cond c (cond b (y ∷ filter p xs) (filter p xs) ++ x ∷ []) (cond b (y ∷ filter p xs) (filter p xs))
      by true true = refl
      by true false = refl
      by false true = refl
      by false false = refl

  different-push : (x : X) (xs : List X) → different same (xs ++ x ∷ []) ≡ cond (list_any (λ z. same z x) (different same xs)) (different same xs) (different same xs ++ x ∷ [])
  different-push x [] = refl
  different-push x (y ∷ xs) =
      ap (λ l. y ∷ filter (λ z. not (same y z)) l) (different-push x xs) ∙ by (same y x) refl (list_any (λ z. same z x) (different same xs)) refl
    where
      left : List X
      left = filter (λ z. not (same y z)) (different same xs)

      by : (b : Bool) → same y x ≡ b → (c : Bool) → list_any (λ z. same z x) (different same xs) ≡ c →
          y ∷ filter (λ z. not (same y z)) (cond c (different same xs) (different same xs ++ x ∷ [])) ≡ cond (b || list_any (λ z. same z x) (filter (λ z. not (same y z)) (different same xs)))
          (y ∷ filter (λ z. not (same y z)) (different same xs)) (y ∷ filter (λ z. not (same y z)) (different same xs) ++ x ∷ [])
      by true h true k = refl
      by true h false k = ap (λ l. y ∷ l) (filter-push (λ z. not (same y z)) x (different same xs) ∙ ap (λ b. cond (not b) (filter (λ z. not (same y z)) (different same xs) ++ x ∷ []) (filter (λ z. not (same y z)) (different same xs))) h)
      by false h true k = ap (λ b. cond b (y ∷ filter (λ z. not (same y z)) (different same xs)) (y ∷ filter (λ z. not (same y z)) (different same xs) ++ x ∷ [])) (sym (filter-any y x h (different same xs) ∙ k))
      by false h false k =
          ap (λ l. y ∷ l) (filter-push (λ z. not (same y z)) x (different same xs) ∙ ap (λ b. cond (not b) (filter (λ z. not (same y z)) (different same xs) ++ x ∷ []) (filter (λ z. not (same y z)) (different same xs))) h)
          ∙ ap (λ b. cond b (y ∷ filter (λ z. not (same y z)) (different same xs)) (y ∷ filter (λ z. not (same y z)) (different same xs) ++ x ∷ [])) (sym (filter-any y x h (different same xs) ∙ k))

layer-push : (xs : List Name) (x : Name) → with_layer (different bytes_eq xs) x ≡ different bytes_eq (xs ++ x ∷ [])
layer-push xs x = ap (λ b. cond b (different bytes_eq xs) (different bytes_eq xs ++ x ∷ [])) (place-any (different bytes_eq xs) x) ∙ sym (different-push bytes_eq bytes_eq-Decides x xs)

layers-push : (xs ys : List Name) → with_layers (different bytes_eq xs) ys ≡ different bytes_eq (xs ++ ys)
layers-push xs [] = ap (different bytes_eq) (sym (append-nil xs))
layers-push xs (y ∷ ys) = ap (λ l. with_layers l ys) (layer-push xs y) ∙ layers-push (xs ++ y ∷ []) ys ∙ ap (different bytes_eq) (append_assoc xs (y ∷ []) ys)

pub layers-append : (names xs ys : List Name) → with_layers names (xs ++ ys) ≡ with_layers (with_layers names xs) ys
layers-append names [] ys = refl
layers-append names (x ∷ xs) ys = layers-append (with_layer names x) xs ys

-- ---- the layers of what is met

layers-wrapped : (around : Binders) (e : Entry) → layer_of (wrapped around e) ≡ layer_of e
layers-wrapped [] e = refl
layers-wrapped ((word, over) ∷ around) e = inner (wrapped around e) ∙ layers-wrapped around e
  where
    inner : (e : Entry) → layer_of (inside_binder word over e) ≡ layer_of e
    inner (layer name) = refl
    inner (statement x) = refl
    inner (goal instance binders g) = refl

all-wrapped : (around : Binders) (es : List Entry) → flat_map layer_of (map (wrapped around) es) ≡ flat_map layer_of es
all-wrapped around [] = refl
all-wrapped around (e ∷ es) = ap (λ l. l ++ flat_map layer_of (map (wrapped around) es)) (layers-wrapped around e) ∙ ap (λ l. layer_of e ++ l) (all-wrapped around es)

none-said : (o : Option Name) (here : Path) (acts : List Stmt) → flat_map layer_of (map (λ act. statement (record { layer = o; instance = here; act = act })) acts) ≡ []
none-said o here [] = refl
none-said o here (act ∷ acts) = none-said o here acts

module _ (text : Text) (here : Path) (around : Binders) where
  abbrev entries_of : What → List Entry
  entries_of what = item_entries (types_from [] text.tops) (modules text.tops) (entries_in (types_from [] text.tops) (modules text.tops) 0) here (item_of what)

  bare : (what : What) → flat_map layer_of (entries_of what) ≡ heads what
  bare (Instance name of args) =
      let acts : List Stmt = connections (body_of (types_from [] text.tops) (modules text.tops) of.now.name) name.now.name args.now in
      let own : List Entry = map (λ act. statement (record { layer = None; instance = here; act = act })) acts in
      ap (flat_map layer_of) (append-nil (own ++ []) ∙ append-nil own) ∙ none-said None here acts
  bare (Layer name body) = ap (λ l. name.now.name ∷ l) (none-said (Some name.now.name) here body.now)
  bare (Claim name vars body at) = refl
  bare (Split name vars of pairs at) = refl
  bare (Using uses proves at) = refl
  bare (Act act) = refl

  layers-said : (what : What) → flat_map layer_of (said_in text 0 here (around, item_of what)) ≡ heads what
  unfolding said_in
  layers-said what = all-wrapped around (entries_of what) ∙ bare what

pub layers-met : (text : Text) (all : List Met) → layers_of (flat_map (entries_met text) all) ≡ with_layers [] (flat_map (λ met. heads met.what) all)
layers-met text all =
    ap (different bytes_eq) (flat_map-flat_map layer_of (entries_met text) all
    ∙ flat_map_agree (λ met. flat_map layer_of (entries_met text met)) (λ met. heads met.what) (λ met. layers-said text (path_of met.instance.items) (binders_of met.around.items) met.what) all)
    ∙ sym (layers-push [] (flat_map (λ met. heads met.what) all))

pub ruleset whole = (layers-met, layers-append)
