-- Where the translated text has no fault of names, no two binders around a formula have the same name.
use Rattle.std.proofs.Common.{◌≡◌, ◌+◌, ℕ, List, [], ◌∷◌, ◌++◌, map, flat_map, Option, Some, None, Bool, true, false, if◌then◌else◌, refl, sym, ap, subst}
use Rattle.std.specs.Str.{bytes_eq}
use Rattle.std.specs.List.{AllByRecursion, list_any}
use Rattle.std.proofs.lemmas.Bool.{or_from, or_parts}
use Rattle.std.proofs.lemmas.List.{map-append}
use Rattle.law_lists.proofs.Each.{each_append}
use Rattle.smv_core.specs.Values.{Name}
use Rattle.smv_core.specs.FlatOrder.{modules}
use Rattle.smv_core.specs.declared.tree.Word.{Word}
use Rattle.smv_core.specs.declared.tree.Expr.{Number}
use Rattle.smv_core.specs.declared.tree.TypeExpr.{TypeExpr}
use Rattle.smv_core.specs.declared.tree.Item.{Item, Forall, Forall', Block, Block', Claim, Row_of-Item, end_of-Item, more_of-Item, items-the_row-Item, items_hidden-the_row-Item-1}
use Rattle.smv_core.specs.declared.tree.Top.{Top}
use Rattle.smv_core.specs.declared.tree.Top.TheVariants.{SetType, Alias, Module}
use Rattle.smv_core.specs.declared.tree.Text.{Text}
use Rattle.smv_mentions.specs.Mentions.{first_place, bound_at, in_type, in_item, in_items}
use Rattle.smv_mentions.specs.Scopes.{Piece, Known, known_after, pieces, pieces_from}
use Rattle.smv_mentions.specs.FirstFault.{first_fault}
use Rattle.law_designs.proofs.Faultless.{each-front, each-behind}
use Rattle.law_designs.proofs.WrittenForms.{items_in}
use Rattle.law_places.specs.Placeless.{placeless_item, placeless_items, placeless_top, placeless_text}
use Rattle.law_places.proofs.Computing.{computing}
use Rattle.law_inductive_texts.specs.World.{World, IsFine, AreFine}
use Rattle.law_inductive_texts.proofs.Faultless.{world_of, names-fine}
use Rattle.law_formulas.specs.Formulas.{Formula, FormulaText, at_place}
use Rattle.law_formulas.specs.Monitors.{Watched, Around, names_around, behind_items, watched, watched_in, translated_item, translated_items, translated_top, translated, free_names, layer_of, monitors_of}
use Rattle.law_formula_trees.specs.Behind.{AreApart}
use Rattle.law_fresh_monitors.specs.Spots.{spot_at, spots_in, spots_among, spots}

-- ---- trees in which no binder has the name of one around it

-- none of these names is this one
abbrev AreOther : List Name → Name → Type 0
AreOther names name = AllByRecursion (λ other. bytes_eq other name ≡ false) names

abbrev mutual
  -- no binder of an item has one of these names, or that of another around it
  IsDistinct : List Name → Item → Type 0
  IsDistinct names (Forall' var over shape (more_of-Item body end_of-Item) at) = AreOther names var.name × IsDistinct (names ++ var.name ∷ []) body
  IsDistinct names (Block' shape items) = AreDistinct names items
  IsDistinct names _ = Unit {0}

  AreDistinct : {m : _} → List Name → Row_of-Item m → Type 0
  AreDistinct names end_of-Item = Unit {0}
  AreDistinct names (more_of-Item item rest) = IsDistinct names item × AreDistinct names rest

abbrev TopIsDistinct : Top → Type 0
TopIsDistinct (Module word formals body at) = AllByRecursion (IsDistinct []) body
TopIsDistinct _ = Unit {0}

-- ---- what is fine is distinct

free-other : (vars : List Word) (name : Name) → bound_at vars name ≡ None → AreOther (map (λ (v : Word). v.name) vars) name
free-other [] name e = tt
free-other (v ∷ vars) name e = by_test (bytes_eq v.name name) refl e (free-other vars name)
  where
    by_test : (b : Bool) → bytes_eq v.name name ≡ b → (if b then Some (first_place v.at (bound_at vars name)) else bound_at vars name) ≡ None → (bound_at vars name ≡ None → AreOther (map (λ (v : Word). v.name) vars) name) →
        (bytes_eq v.name name ≡ false) × AreOther (map (λ (v : Word). v.name) vars) name
    by_test true q k rest = absurd (cc (k))
    by_test false q k rest = (q, rest k)

module _ (w : World) where
  mutual
    unfolding in_item

    fine-distinct : (vars : List Word) (item : Item) → AreFine w (in_item vars item) → IsDistinct (map (λ (v : Word). v.name) vars) item
    fine-distinct vars (Forall' var over shape (more_of-Item body end_of-Item) at) h = (
      free-other vars var.name h.0.0,
      subst (λ names. IsDistinct names body) (map-append (λ (v : Word). v.name) vars (var ∷ [])) (fine-distinct (vars ++ var ∷ []) body (each-behind (IsFine w) (in_type over) (in_item (vars ++ var ∷ []) body) h.1)),
    )
    fine-distinct vars (Block' shape items) h = fine-all vars items h
    fine-distinct vars item h = tt

    fine-all : {m : _} (vars : List Word) (items : Row_of-Item m) → AreFine w (in_items vars items) → AreDistinct (map (λ (v : Word). v.name) vars) items
    fine-all vars end_of-Item h = tt
    fine-all vars (more_of-Item item rest) h = (fine-distinct vars item (each-front (IsFine w) (in_item vars item) (in_items vars rest) h), fine-all vars rest (each-behind (IsFine w) (in_item vars item) (in_items vars rest) h))

  fine-items : (items : List Item) → AreFine w (flat_map (in_item []) items) → AllByRecursion (IsDistinct []) items
  fine-items [] h = tt
  fine-items (item ∷ items) h = (fine-distinct [] item (each-front (IsFine w) (in_item [] item) (flat_map (in_item []) items) h), fine-items items (each-behind (IsFine w) (in_item [] item) (flat_map (in_item []) items) h))

fine-tops : (all : List Piece) (known : Known) (tops : List Top) → AllByRecursion (λ (piece : Piece). AreFine (world_of all piece) piece.mentions) (pieces_from known tops) → AllByRecursion TopIsDistinct tops
fine-tops all known [] h = tt
fine-tops all known (SetType word ordered span at ∷ tops) h = (tt, fine-tops all (known_after known (SetType word ordered span at)) tops h.1)
fine-tops all known (Alias word of at ∷ tops) h = (tt, fine-tops all (known_after known (Alias word of at)) tops h.1)
fine-tops all known (Module word formals body at ∷ tops) h = (fine-items (world_of all (record { word = word; formals = Some formals; known = known; mentions = flat_map (in_item []) body })) body h.0, fine-tops all (known_after known (Module word formals body at)) tops h.1)

-- ---- places aside

mutual
  unfolding placeless_item

  to-placeless : (names : List Name) (item : Item) → IsDistinct names item → IsDistinct names (placeless_item item)
  to-placeless names (Forall' var over shape (more_of-Item body end_of-Item) at) h = (h.0, to-placeless (names ++ var.name ∷ []) body h.1)
  to-placeless names (Block' shape items) h = all-placeless names items h
  to-placeless names item h = tt

  all-placeless : {m : _} (names : List Name) (items : Row_of-Item m) → AreDistinct names items → AreDistinct names (placeless_items items)
  all-placeless names end_of-Item h = tt
  all-placeless names (more_of-Item item rest) h = (to-placeless names item h.0, all-placeless names rest h.1)

mutual
  unfolding placeless_item

  from-placeless : (names : List Name) (item : Item) → IsDistinct names (placeless_item item) → IsDistinct names item
  from-placeless names (Forall' var over shape (more_of-Item body end_of-Item) at) h = (h.0, from-placeless (names ++ var.name ∷ []) body h.1)
  from-placeless names (Block' shape items) h = all-placed names items h
  from-placeless names item h = tt

  all-placed : {m : _} (names : List Name) (items : Row_of-Item m) → AreDistinct names (placeless_items items) → AreDistinct names items
  all-placed names end_of-Item h = tt
  all-placed names (more_of-Item item rest) h = (from-placeless names item h.0, all-placed names rest h.1)

items-placeless : (items : List Item) → AllByRecursion (IsDistinct []) items → AllByRecursion (IsDistinct []) (map placeless_item items)
items-placeless [] h = tt
items-placeless (item ∷ items) h = (to-placeless [] item h.0, items-placeless items h.1)

items-placed : (items : List Item) → AllByRecursion (IsDistinct []) (map placeless_item items) → AllByRecursion (IsDistinct []) items
items-placed [] h = tt
items-placed (item ∷ items) h = (from-placeless [] item h.0, items-placed items h.1)

tops-placeless : (tops : List Top) → AllByRecursion TopIsDistinct tops → AllByRecursion TopIsDistinct (map placeless_top tops)
tops-placeless [] h = tt
tops-placeless (SetType word ordered span at ∷ tops) h = (tt, tops-placeless tops h.1)
tops-placeless (Alias word of at ∷ tops) h = (tt, tops-placeless tops h.1)
tops-placeless (Module word formals body at ∷ tops) h = (items-placeless body h.0, tops-placeless tops h.1)

tops-placed : (tops : List Top) → AllByRecursion TopIsDistinct (map placeless_top tops) → AllByRecursion TopIsDistinct tops
tops-placed [] h = tt
tops-placed (SetType word ordered span at ∷ tops) h = (tt, tops-placed tops h.1)
tops-placed (Alias word of at ∷ tops) h = (tt, tops-placed tops h.1)
tops-placed (Module word formals body at ∷ tops) h = (items-placed body h.0, tops-placed tops h.1)

-- ---- binders are kept by the translation

of-Forall : (names : List Name) (var : Word) (over : TypeExpr) (body : Item) (at : ℕ) → IsDistinct names (Forall var over body at) → AreOther names var.name × IsDistinct (names ++ var.name ∷ []) body
unfolding computing
of-Forall names var over body at h = h

of-row : (names : List Name) (n : _) (row : Row_of-Item n) → AreDistinct names row → AllByRecursion (IsDistinct names) (items-the_row-Item n row)
of-row names n end_of-Item h = tt
of-row names n (more_of-Item item rest) h = (h.0, of-row names _ rest h.1)

of-Block : (names : List Name) (items : List Item) → IsDistinct names (Block items) → AllByRecursion (IsDistinct names) items
of-Block names items h = subst (AllByRecursion (IsDistinct names)) (items_hidden-the_row-Item-1 items) (of-row names (items_in (Block items)).0 (items_in (Block items)).1 h)

module _ (plan : List (ℕ × Watched)) where
  mutual
    from-translated : (names : List Name) (around : Around) (item : Item) → IsDistinct names (translated_item plan around item) → IsDistinct names item
    from-translated names around (Forall' var over shape (more_of-Item body end_of-Item) at) h =
        let parts = of-Forall names var over (translated_item plan (around ++ (var, over) ∷ []) body) at h in
        (parts.0, from-translated (names ++ var.name ∷ []) (around ++ (var, over) ∷ []) body parts.1)
    from-translated names around (Block' shape items) h = all-translated names around items (of-Block names (translated_items plan around items) h)
    from-translated names around item h = tt

    all-translated : {m : _} (names : List Name) (around : Around) (items : Row_of-Item m) → AllByRecursion (IsDistinct names) (translated_items plan around items) → AreDistinct names items
    all-translated names around end_of-Item h = tt
    all-translated names around (more_of-Item item rest) h = (from-translated names around item h.0, all-translated names around rest h.1)

  items-translated : (items : List Item) → AllByRecursion (IsDistinct []) (map (translated_item plan []) items) → AllByRecursion (IsDistinct []) items
  items-translated [] h = tt
  items-translated (item ∷ items) h = (from-translated [] [] item h.0, items-translated items h.1)

  tops-translated : (layer : Name) (tops : List Top) → AllByRecursion TopIsDistinct (map (translated_top plan layer) tops) → AllByRecursion TopIsDistinct tops
  tops-translated layer [] h = tt
  tops-translated layer (SetType word ordered span at ∷ tops) h = (tt, tops-translated layer tops h.1)
  tops-translated layer (Alias word of at ∷ tops) h = (tt, tops-translated layer tops h.1)
  tops-translated layer (Module word formals body at ∷ tops) h =
      (items-translated body (each-front (IsDistinct []) (map (translated_item plan []) body) (behind_items plan layer (flat_map (watched_in plan []) body)) h.0), tops-translated layer tops h.1)

-- ---- the binders around a formula

any-more : (p : Name → Bool) (names : List Name) (name : Name) → list_any p names ≡ false → p name ≡ false → list_any p (names ++ name ∷ []) ≡ false
any-more p [] name h e = or_from (p name) false e refl
any-more p (x ∷ names) name h e = let parts = or_parts (p x) (list_any p names) h in or_from (p x) (list_any p (names ++ name ∷ [])) parts.0 (any-more p names name parts.1 e)

apart-more : (names : List Name) (name : Name) → AreApart names → AreOther names name → AreApart (names ++ name ∷ [])
apart-more [] name h o = (refl, tt)
apart-more (x ∷ names) name h o = (any-more (bytes_eq x) names name h.0 o.0, apart-more names name h.1 o.1)

abbrev SpotIsApart : ℕ × Around → Type 0
SpotIsApart spot = AreApart (names_around spot.1)

module _ (formulas : List (ℕ × Formula)) where
  mutual
    spots-apart : (around : Around) (item : Item) → AreApart (names_around around) → IsDistinct (names_around around) item → AllByRecursion SpotIsApart (spots_in formulas around item)
    spots-apart around (Forall' var over shape (more_of-Item body end_of-Item) at) a h =
        let same = map-append (λ (binder : Word × TypeExpr). binder.0.name) around ((var, over) ∷ []) in
        spots-apart (around ++ (var, over) ∷ []) body (subst AreApart (sym same) (apart-more (names_around around) var.name a h.0)) (subst (λ names. IsDistinct names body) (sym same) h.1)
    spots-apart around (Block' shape items) a h = all-apart around items a h
    spots-apart around (Claim name vars (Number value at) place) a h = by_found (at_place formulas at)
      where
        by_found : (o : Option Formula) → AllByRecursion SpotIsApart (spot_at at around o)
        by_found None = tt
        by_found (Some f) = (a, tt)
    spots-apart around item a h = tt

    all-apart : {m : _} (around : Around) (items : Row_of-Item m) → AreApart (names_around around) → AreDistinct (names_around around) items → AllByRecursion SpotIsApart (spots_among formulas around items)
    all-apart around end_of-Item a h = tt
    all-apart around (more_of-Item item rest) a h = each_append SpotIsApart (spots_in formulas around item) (spots_among formulas around rest) (spots-apart around item a h.0) (all-apart around rest a h.1)

  items-apart : (items : List Item) → AllByRecursion (IsDistinct []) items → AllByRecursion SpotIsApart (flat_map (spots_in formulas []) items)
  items-apart [] h = tt
  items-apart (item ∷ items) h = each_append SpotIsApart (spots_in formulas [] item) (flat_map (spots_in formulas []) items) (spots-apart [] item tt h.0) (items-apart items h.1)

  tops-apart : (tops : List Top) → AllByRecursion TopIsDistinct tops → AllByRecursion SpotIsApart (flat_map (λ entry. flat_map (spots_in formulas []) entry.1.items) (modules tops))
  tops-apart [] h = tt
  tops-apart (SetType word ordered span at ∷ tops) h = tops-apart tops h.1
  tops-apart (Alias word of at ∷ tops) h = tops-apart tops h.1
  tops-apart (Module word formals body at ∷ tops) h =
      each_append SpotIsApart (flat_map (spots_in formulas []) body) (flat_map (λ entry. flat_map (spots_in formulas []) entry.1.items) (modules tops)) (items-apart body h.0) (tops-apart tops h.1)

-- no two binders around a formula have the same name, where a text that is the translated one, places aside, has no fault of names
pub binders-apart : (used : List Name) (ft : FormulaText) (x : Text) → placeless_text (translated used ft) ≡ placeless_text x → first_fault x ≡ None → AllByRecursion (λ spot. AreApart (names_around spot.1)) (spots ft)
binders-apart used ft x same fine =
    let names = free_names used (monitors_of ft.formulas + 1) in
    let named = fine-tops (pieces x) [] x.tops (names-fine x fine).1 in
    let tops : map placeless_top x.tops ≡ map placeless_top (translated used ft).tops = ap (λ (t : Text). t.tops) (sym same) in
    let moved = tops-placed (translated used ft).tops (subst (AllByRecursion TopIsDistinct) tops (tops-placeless x.tops named)) in
    tops-apart ft.formulas ft.text.tops (tops-translated (watched ft.formulas names) (layer_of names ft) ft.text.tops moved)
