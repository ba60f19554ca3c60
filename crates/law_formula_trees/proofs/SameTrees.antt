-- The types and the families of a text and of its translation.
use Rattle.law_formula_trees.proofs.Lists.{each-front, drop-flat}
use Rattle.std.proofs.lemmas.List.Folds.{flat_map-map}
use Rattle.law_lists.proofs.Lists.{length_map}
use Rattle.law_lists.proofs.Each.{each_append}
use Rattle.std.proofs.Common.{◌≡◌, ℕ, zero, suc, List, [], ◌∷◌, ◌++◌, map, filter, length, Option, Some, None, option_map, unwrap_or, Bool, true, false, not, cond, refl, ap, ◌∙◌, append-nil}
use Rattle.std.specs.Str.{bytes_eq}
use Rattle.std.specs.List.{AllByRecursion, list_any, flat_map}
use Rattle.std.proofs.lemmas.List.Elements.{filter-append}
use Rattle.std.proofs.lemmas.Grind.{flat_map-append}
use Rattle.smv_core.specs.declared.tree.Expr.{Expr, Number}
use Rattle.smv_core.specs.Values.{Name, Path, Simple}
use Rattle.smv_core.specs.Types.{Types, Family, Shape, find_name, indexed, array_of, shape_of, simple_of, types_after, types_from}
use Rattle.smv_core.specs.FlatOrder.{Body, modules, main, declared_as, families_of_item, body_of, families_in}
use Rattle.smv_core.specs.declared.tree.Role.TheVariants.{Abstract}
use Rattle.smv_core.specs.declared.tree.Item.{Item, Declare, Instance, Layer, Forall', Block', Claim, Split, Using, Act, Row_of-Item, end_of-Item, more_of-Item}
use Rattle.smv_core.specs.declared.tree.Top.{Top}
use Rattle.smv_core.specs.declared.tree.Top.TheVariants.{SetType, Alias, Module}
use Rattle.law_formulas.specs.Monitors.{Watched, Around, word_of, type_of, declared, defined, or_none, translated_item, watched_in, watched_among, with_layer, translated_body, translated_top}
use Rattle.law_formulas.specs.Formulas.{at_place, of_body}
use Rattle.law_watched_runs.specs.Extended.{is_fresh, is_kept}
use Rattle.law_formula_trees.specs.Placed.{AreFreshMonitors, AreOldFamilies}
use Rattle.law_formula_trees.specs.Trees.{TypesAreKept, FamiliesAreKept}
use Rattle.law_places.proofs.Computing.{computing}

-- ---- types

module _ (plan : List (ℕ × Watched)) (layer : Name) where
  after-same : (known : Types) (top : Top) → types_after known (translated_top plan layer top) ≡ types_after known top
  after-same known (SetType word ordered span at) = refl
  after-same known (Alias word of at) = refl
  after-same known (Module word formals body at) = refl

  pub types-same : (known : Types) (tops : List Top) → types_from known (map (translated_top plan layer) tops) ≡ types_from known tops
  types-same known [] = refl
  types-same known (top ∷ tops) = ap (λ k. types_from k (map (translated_top plan layer) tops)) (after-same known top) ∙ types-same (types_after known top) tops

  -- ---- modules

  abbrev pub new_body : Body → Body
  new_body body = record { formals = body.formals; items = translated_body plan layer body.items }

  abbrev pub new_module : Name × Body → Name × Body
  new_module entry = (entry.0, new_body entry.1)

  pub modules-same : (tops : List Top) → modules (map (translated_top plan layer) tops) ≡ map new_module (modules tops)
  modules-same [] = refl
  modules-same (SetType word ordered span at ∷ tops) = modules-same tops
  modules-same (Alias word of at ∷ tops) = modules-same tops
  modules-same (Module word formals body at ∷ tops) = ap (λ l. (word.name, record { formals = formals; items = translated_body plan layer body }) ∷ l) (modules-same tops)

  found-same : (bodies : List (Name × Body)) (name : Name) → find_name (map new_module bodies) name ≡ option_map new_body (find_name bodies name)
  found-same [] name = refl
  found-same ((other, body) ∷ bodies) name = by_test (bytes_eq other name) (found-same bodies name)
    where
      by_test : (b : Bool) → find_name (map new_module bodies) name ≡ option_map new_body (find_name bodies name) → cond b (Some (new_body body)) (find_name (map new_module bodies) name) ≡ option_map new_body (cond b (Some body) (find_name bodies name))
      by_test true h = refl
      by_test false h = h

  pub body-same : (types : Types) (bodies : List (Name × Body)) (name : Name) → body_of types (map new_module bodies) name ≡ new_body (body_of types bodies name)
  body-same types bodies name = ap (λ o. unwrap_or o (record { formals = []; items = [] })) (found-same bodies name) ∙ by_found (find_name bodies name)
    where
      by_found : (o : Option Body) → unwrap_or (option_map new_body o) (record { formals = []; items = [] }) ≡ new_body (unwrap_or o (record { formals = []; items = [] }))
      by_found None = refl
      by_found (Some body) = refl

-- ---- families

module _ (fresh : List Name) where
  abbrev keep : Family → Bool
  keep = is_kept fresh

  old-all : (fs : List Family) → AreOldFamilies fresh fs → filter keep fs ≡ fs
  old-all [] h = refl
  old-all (f ∷ fs) h = ap (λ b. cond (not b) (f ∷ filter keep fs) (filter keep fs)) h.0 ∙ ap (λ l. f ∷ l) (old-all fs h.1)

  old-flat : {X : Type 0} (F G : X → List Family) → ((x : X) → AreOldFamilies fresh (F x) → filter keep (G x) ≡ F x) → (xs : List X) → AreOldFamilies fresh (flat_map F xs) → filter keep (flat_map G xs) ≡ flat_map F xs
  old-flat F G h [] old = refl
  old-flat F G h (x ∷ xs) old =
      let parts = each-front (λ f. is_fresh fresh f.path ≡ false) (F x) (flat_map F xs) old in
      filter-append keep (G x) (flat_map G xs) ∙ ap (λ l. l ++ filter keep (flat_map G xs)) (h x parts.0) ∙ ap (λ l. F x ++ l) (old-flat F G h xs parts.1)

  pub fresh-end : (here : Path) (m : Name) → list_any (bytes_eq m) fresh ≡ true → is_fresh fresh (here ++ m ∷ []) ≡ true
  fresh-end [] m h = h
  fresh-end (n ∷ []) m h = h
  fresh-end (n ∷ k ∷ here) m h = fresh-end (k ∷ here) m h

  -- the families of a monitor's type are one of no path, or none
  abbrev pub HaveNoPath : Shape → Type 0
  HaveNoPath shape = AllByRecursion (λ (f : Family). f.path ≡ []) shape

  indexed-none : (t : Simple) (shape : Shape) → HaveNoPath shape → HaveNoPath (map (indexed t) shape)
  indexed-none t [] h = tt
  indexed-none t (f ∷ shape) h = (h.0, indexed-none t shape h.1)

  array-none : (o : Option Simple) (shape : Shape) → HaveNoPath shape → HaveNoPath (array_of o shape)
  array-none None shape h = tt
  array-none (Some t) shape h = indexed-none t shape h

  pub type-none : (types : Types) (around : Around) → HaveNoPath (shape_of types (type_of around))
  unfolding computing
  type-none types [] = (refl, tt)
  type-none types (binder ∷ around) = array-none (simple_of (shape_of types binder.1)) (shape_of types (type_of around)) (type-none types around)

  drop-declared : (here : Path) (m : Name) (shape : Shape) → list_any (bytes_eq m) fresh ≡ true → HaveNoPath shape → filter keep (map (declared_as Abstract (here ++ m ∷ [])) shape) ≡ []
  drop-declared here m [] new none = refl
  drop-declared here m (f ∷ shape) new none =
      ap (λ p. cond (not (is_fresh fresh ((here ++ m ∷ []) ++ p))) (declared_as Abstract (here ++ m ∷ []) f ∷ filter keep (map (declared_as Abstract (here ++ m ∷ [])) shape)) (filter keep (map (declared_as Abstract (here ++ m ∷ [])) shape))) none.0
      ∙ ap (λ p. cond (not (is_fresh fresh p)) (declared_as Abstract (here ++ m ∷ []) f ∷ filter keep (map (declared_as Abstract (here ++ m ∷ [])) shape)) (filter keep (map (declared_as Abstract (here ++ m ∷ [])) shape))) (append-nil (here ++ m ∷ []))
      ∙ ap (λ b. cond (not b) (declared_as Abstract (here ++ m ∷ []) f ∷ filter keep (map (declared_as Abstract (here ++ m ∷ [])) shape)) (filter keep (map (declared_as Abstract (here ++ m ∷ [])) shape))) (fresh-end here m new)
      ∙ drop-declared here m shape new none.1

  module _ (plan : List (ℕ × Watched)) (layer : Name) (monitors : AreFreshMonitors fresh plan) (types : Types) (bodies : List (Name × Body)) where
    abbrev pub new_bodies : List (Name × Body)
    new_bodies = map (new_module plan layer) bodies

    abbrev pub IsFreshly : Around × Watched → Type 0
    IsFreshly entry = AllByRecursion (λ m. list_any (bytes_eq m) fresh ≡ true) entry.1.monitors

    -- what is watched in an item has fresh names
    place-fresh : (list : List (ℕ × Watched)) → AreFreshMonitors fresh list → (at : ℕ) (around : Around) → AllByRecursion IsFreshly (or_none around (at_place list at))
    place-fresh [] h at around = tt
    place-fresh ((place, w) ∷ list) h at around = by_test (Rattle.std.specs.Prelude.nat_eq place at) (place-fresh list h.1 at around)
      where
        by_test : (b : Bool) → AllByRecursion IsFreshly (or_none around (at_place list at)) → AllByRecursion IsFreshly (or_none around (cond b (Some w) (at_place list at)))
        by_test true k = (h.0, tt)
        by_test false k = k

    family-item : (inside inside' : Path → Name → List Family) (here : Path) (item : Item) → ((p : Path) (name : Name) → AreOldFamilies fresh (inside p name) → filter keep (inside' p name) ≡ inside p name) →
        AreOldFamilies fresh (families_of_item types bodies inside here item) → filter keep (families_of_item types new_bodies inside' here (translated_item plan [] item)) ≡ families_of_item types bodies inside here item
    unfolding computing
    family-item inside inside' here (Declare role words of at) h old = old-all _ old
    family-item inside inside' here (Instance words name args at) h old = old-flat (λ word. inside (here ++ word.name ∷ []) name.name) (λ word. inside' (here ++ word.name ∷ []) name.name) (λ word. h (here ++ word.name ∷ []) name.name) words old
    family-item inside inside' here (Layer name body at) h old = refl
    family-item inside inside' here (Forall' var over shape (more_of-Item body end_of-Item) at) h old = refl
    family-item inside inside' here (Block' shape items) h old = refl
    family-item inside inside' here (Claim name vars body at) h old = refl
    family-item inside inside' here (Split name vars of pairs at) h old = refl
    family-item inside inside' here (Using uses proves at) h old = refl
    family-item inside inside' here (Act act) h old = refl

    body-fresh : (around : Around) (body : Expr) → AllByRecursion IsFreshly (or_none around (of_body plan body))
    body-fresh around (Number value at) = place-fresh plan monitors at around
    body-fresh around e = tt

    mutual
      watched-fresh : (around : Around) (item : Item) → AllByRecursion IsFreshly (watched_in plan around item)
      watched-fresh around (Forall' var over shape (more_of-Item body end_of-Item) at) = watched-fresh (around ++ (var, over) ∷ []) body
      watched-fresh around (Block' shape items) = among-fresh around items
      watched-fresh around (Claim name vars body at) = body-fresh around body
      watched-fresh around (Declare role words of at) = tt
      watched-fresh around (Instance words name args at) = tt
      watched-fresh around (Layer name body at) = tt
      watched-fresh around (Split name vars of pairs at) = tt
      watched-fresh around (Using uses proves at) = tt
      watched-fresh around (Act act) = tt

      among-fresh : {m : _} (around : Around) (items : Row_of-Item m) → AllByRecursion IsFreshly (watched_among plan around items)
      among-fresh around end_of-Item = tt
      among-fresh around (more_of-Item item rest) = each_append IsFreshly (watched_in plan around item) (watched_among plan around rest) (watched-fresh around item) (among-fresh around rest)

    pub all-fresh : (items : List Item) → AllByRecursion IsFreshly (flat_map (watched_in plan []) items)
    all-fresh [] = tt
    all-fresh (item ∷ items) = each_append IsFreshly (watched_in plan [] item) (flat_map (watched_in plan []) items) (watched-fresh [] item) (all-fresh items)

    module _ (inside' : Path → Name → List Family) (here : Path) where
      abbrev IsDropped : Item → Type 0
      IsDropped item = filter keep (families_of_item types new_bodies inside' here item) ≡ []

      monitors-dropped : (around : Around) (names : List Name) → AllByRecursion (λ m. list_any (bytes_eq m) fresh ≡ true) names → AllByRecursion IsDropped (map (λ m. Declare Abstract (word_of m ∷ []) (type_of around) 0) names)
      monitors-dropped around [] h = tt
      monitors-dropped around (m ∷ names) h =
          (ap (filter keep) (append-nil (map (declared_as Abstract (here ++ m ∷ [])) (shape_of types (type_of around)))) ∙ drop-declared here m (shape_of types (type_of around)) h.0 (type-none types around), monitors-dropped around names h.1)

      all-dropped : (ws : List (Around × Watched)) → AllByRecursion IsFreshly ws → AllByRecursion IsDropped (flat_map declared ws)
      all-dropped [] h = tt
      all-dropped (w ∷ ws) h = each_append IsDropped (declared w) (flat_map declared ws) (monitors-dropped w.0 w.1.monitors h.0) (all-dropped ws h.1)

      behind-dropped : (ws : List (Around × Watched)) (items : List Item) → AllByRecursion IsDropped items → filter keep (flat_map (families_of_item types new_bodies inside' here) (with_layer layer ws items)) ≡ []
      behind-dropped ws [] h = refl
      behind-dropped ws (item ∷ more) h =
          drop-flat keep (families_of_item types new_bodies inside' here) ((item ∷ more) ++ Layer (word_of layer) (flat_map defined ws) 0 ∷ [])
          (each_append IsDropped (item ∷ more) (Layer (word_of layer) (flat_map defined ws) 0 ∷ []) h (refl, tt))

    families-same : (n : ℕ) (here : Path) (name : Name) → AreOldFamilies fresh (families_in types bodies n here name) → filter keep (families_in types new_bodies n here name) ≡ families_in types bodies n here name
    families-same zero here name old = refl
    families-same (suc n) here name old =
        let new_families : Item → List Family = families_of_item types new_bodies (families_in types new_bodies n) here in
        let items : List Item = (body_of types bodies name).items in
        let ws : List (Around × Watched) = flat_map (watched_in plan []) items in
        ap (λ body. filter keep (flat_map new_families body.items)) (body-same plan layer types bodies name)
        ∙ ap (filter keep) (flat_map-append new_families (map (translated_item plan []) items) (with_layer layer ws (flat_map declared ws)))
        ∙ filter-append keep (flat_map new_families (map (translated_item plan []) items)) (flat_map new_families (with_layer layer ws (flat_map declared ws)))
        ∙ ap (λ l. filter keep (flat_map new_families (map (translated_item plan []) items)) ++ l) (behind-dropped (families_in types new_bodies n) here ws (flat_map declared ws) (all-dropped (families_in types new_bodies n) here ws (all-fresh items)))
        ∙ append-nil (filter keep (flat_map new_families (map (translated_item plan []) items)))
        ∙ ap (filter keep) (flat_map-map new_families (translated_item plan []) items)
        ∙ old-flat (families_of_item types bodies (families_in types bodies n) here) (λ item. new_families (translated_item plan [] item))
        (λ item old_item. family-item (families_in types bodies n) (families_in types new_bodies n) here item (λ p other old_there. families-same n p other old_there) old_item) items old

pub families-kept : FamiliesAreKept
families-kept fresh plan layer text monitors old =
    ap (λ bodies. filter (is_kept fresh) (families_in (types_from [] (map (translated_top plan layer) text.tops)) bodies (length bodies) [] main)) (modules-same plan layer text.tops)
    ∙ ap (λ types. filter (is_kept fresh) (families_in types (map (new_module plan layer) (modules text.tops)) (length (map (new_module plan layer) (modules text.tops))) [] main)) (types-same plan layer [] text.tops)
    ∙ ap (λ n. filter (is_kept fresh) (families_in (types_from [] text.tops) (map (new_module plan layer) (modules text.tops)) n [] main)) (length_map (new_module plan layer) (modules text.tops))
    ∙ families-same fresh plan layer monitors (types_from [] text.tops) (modules text.tops) (length (modules text.tops)) [] main old

pub types-kept : TypesAreKept
types-kept plan layer text = types-same plan layer [] text.tops
