-- The claims of a translation.
use Rattle.law_formula_trees.proofs.Lists.{mapped-flat, mapped-twice}
use Rattle.std.proofs.lemmas.List.{map-append}
use Rattle.law_lists.proofs.Lists.{map_agree, flat_map-flat_map, length_map}
use Rattle.std.proofs.lemmas.List.Folds.{flat_map-map}
use Rattle.std.proofs.Common.{◌≡◌, ℕ, zero, suc, List, [], ◌∷◌, ◌++◌, map, length, Option, Some, None, refl, sym, ap, ◌∙◌, append-nil, append_assoc}
use Rattle.std.specs.List.{AllByRecursion, flat_map}
use Rattle.std.proofs.lemmas.Grind.{flat_map-append}
use Rattle.smv_core.specs.Values.{Name, Path}
use Rattle.smv_core.specs.Types.{Types, types_from}
use Rattle.smv_core.specs.FlatOrder.{Body, modules, main, Met, Claimed, design_of, connections, body_of, instance_met, item_met, items_met, met_in}
use Rattle.smv_core.specs.declared.tree.Word.{Word}
use Rattle.smv_core.specs.declared.tree.TypeExpr.{TypeExpr}
use Rattle.smv_core.specs.declared.tree.Role.TheVariants.{Abstract}
use Rattle.smv_core.specs.declared.tree.Expr.{Expr}
use Rattle.smv_core.specs.declared.tree.Item.{Item, Declare, Instance, Layer, Forall', Block', Claim, Split, Using, Act, Row_of-Item, end_of-Item, more_of-Item}
use Rattle.law_formulas.specs.Formulas.{of_body}
use Rattle.law_formulas.specs.Monitors.{Watched, Around, outset, claim_of, names_around, word_of, type_of, declared, defined, or_claim, translated_item, translated_items, watched_in, with_layer, translated_body, translated_top}
use Rattle.law_formula_trees.specs.Placed.{HasNoInstance, HaveNoInstance, HoldsNoInstance, AreFlat, claimed_in, claims_of, watched_claim}
use Rattle.law_formula_trees.specs.Trees.{ClaimsAreTranslated}
use Rattle.law_places.proofs.Computing.{computing}
use Rattle.law_formula_trees.proofs.SameTrees.{types-same, new_module, modules-same, body-same}
use Rattle.law_formula_trees.proofs.SameStatements.{said_by, met-Block}
use Rattle.law_formula_trees.proofs.PlacedClaims.{items-flat, no-claims, bind_claim, claimed-bound}

-- the claim under parameters of these names
abbrev watch : List Name → Option Watched → Claimed → Claimed
watch names (Some w) c = record c { body = claim_of names w.monitors outset w.formula }
watch names None c = c

module _ (plan : List (ℕ × Watched)) (layer : Name) (types : Types) (bodies : List (Name × Body)) where
  abbrev bodies' : List (Name × Body)
  bodies' = map (new_module plan layer) bodies

  -- a claim of a text, where these binders stand around besides its own
  abbrev under : Around → Claimed → Claimed
  under around c = watch (names_around around ++ map (λ param. param.0) c.params) (of_body plan c.body) c

  bound-watch : (names : List Name) (o : Option Watched) (var : Word) (over : TypeExpr) (c : Claimed) → bind_claim var over (watch names o c) ≡ watch names o (bind_claim var over c)
  bound-watch names None var over c = refl
  bound-watch names (Some w) var over c = refl

  names-more : (around : Around) (var : Word) (over : TypeExpr) (names : List Name) → names_around (around ++ (var, over) ∷ []) ++ names ≡ names_around around ++ var.name ∷ names
  names-more around var over names = ap (λ l. l ++ names) (map-append (λ binder. binder.0.name) around ((var, over) ∷ [])) ∙ append_assoc (names_around around) (var.name ∷ []) names

  under-bound : (around : Around) (var : Word) (over : TypeExpr) (c : Claimed) → bind_claim var over (under (around ++ (var, over) ∷ []) c) ≡ under around (bind_claim var over c)
  under-bound around var over c =
      bound-watch (names_around (around ++ (var, over) ∷ []) ++ map (λ param. param.0) c.params) (of_body plan c.body) var over c
      ∙ ap (λ names. watch names (of_body plan c.body) (bind_claim var over c)) (names-more around var over (map (λ param. param.0) c.params))

  module _ (inside inside' : Path → Name → List Met) (same : (p : Path) (name : Name) → flat_map claimed_in (inside' p name) ≡ map (under []) (flat_map claimed_in (inside p name))) (here : Path) where
    abbrev old_met : Item → List Met
    old_met = item_met types bodies inside here

    abbrev new_met : Item → List Met
    new_met = item_met types bodies' inside' here

    abbrev at_claim : Name → Expr → Claimed
    at_claim name body = record { instance = here; name = name; params = []; body = body }

    claim-same : (around : Around) (name : Name) (body : Expr) (o : Option Watched) → at_claim name (or_claim around body o) ≡ watch (names_around around ++ []) o (at_claim name body)
    claim-same around name body None = refl
    claim-same around name body (Some w) = ap (λ names. at_claim name (claim_of names w.monitors outset w.formula)) (sym (append-nil (names_around around)))

    instance-same : (name : Name) (args : List Expr) (n : Name) → flat_map claimed_in (instance_met types bodies' inside' here name args n) ≡ map (under []) (flat_map claimed_in (instance_met types bodies inside here name args n))
    instance-same name args n =
        flat_map-append claimed_in (map (said_by None here) (connections (body_of types bodies' name) n args)) (inside' (here ++ n ∷ []) name)
        ∙ ap (λ l. l ++ flat_map claimed_in (inside' (here ++ n ∷ []) name)) (no-claims None here (connections (body_of types bodies' name) n args))
        ∙ same (here ++ n ∷ []) name
        ∙ ap (λ l. map (under []) (l ++ flat_map claimed_in (inside (here ++ n ∷ []) name))) (sym (no-claims None here (connections (body_of types bodies name) n args)))
        ∙ ap (map (under [])) (sym (flat_map-append claimed_in (map (said_by None here) (connections (body_of types bodies name) n args)) (inside (here ++ n ∷ []) name)))

    -- under other binders than those of the item itself an instance's claims would change: none stands there
    mutual
      unfolding computing

      inner-same : (around : Around) (item : Item) → HasNoInstance item → flat_map claimed_in (new_met (translated_item plan around item)) ≡ map (under around) (flat_map claimed_in (old_met item))
      inner-same around (Declare role words of at) none = refl
      inner-same around (Instance words name args at) none = absurd none
      inner-same around (Layer name body at) none = no-claims (Some name.name) here body ∙ ap (map (under around)) (sym (no-claims (Some name.name) here body))
      inner-same around (Forall' var over shape (more_of-Item body end_of-Item) at) none =
          claimed-bound var over (new_met (translated_item plan (around ++ (var, over) ∷ []) body))
          ∙ ap (map (bind_claim var over)) (inner-same (around ++ (var, over) ∷ []) body none)
          ∙ mapped-twice (bind_claim var over) (under (around ++ (var, over) ∷ [])) (under around) (bind_claim var over) (λ c. under-bound around var over c) (flat_map claimed_in (old_met body))
          ∙ ap (map (under around)) (sym (claimed-bound var over (old_met body)))
      inner-same around (Block' shape items) none = ap (flat_map claimed_in) (met-Block types bodies' inside' here (translated_items plan around items)) ∙ inners-same around items none
      inner-same around (Claim name vars body at) none = ap (λ c. c ∷ []) (claim-same around name.name body (of_body plan body))
      inner-same around (Split name vars of pairs at) none = refl
      inner-same around (Using uses proves at) none = refl
      inner-same around (Act act) none = refl

      inners-same : {m : _} (around : Around) (items : Row_of-Item m) → HaveNoInstance items → flat_map claimed_in (flat_map new_met (translated_items plan around items)) ≡ map (under around) (flat_map claimed_in (items_met types bodies inside here items))
      inners-same around end_of-Item none = refl
      inners-same around (more_of-Item item rest) none =
          flat_map-append claimed_in (new_met (translated_item plan around item)) (flat_map new_met (translated_items plan around rest))
          ∙ two _ _ _ _ (inner-same around item none.0) (inners-same around rest none.1)
          ∙ sym (map-append (under around) (flat_map claimed_in (old_met item)) (flat_map claimed_in (items_met types bodies inside here rest)))
          ∙ ap (map (under around)) (sym (flat_map-append claimed_in (old_met item) (items_met types bodies inside here rest)))
        where
          two : (a b c d : List Claimed) → a ≡ b → c ≡ d → a ++ c ≡ b ++ d
          two a b c d e k = rw (e, k) refl

    item-same : (item : Item) → HoldsNoInstance item → flat_map claimed_in (new_met (translated_item plan [] item)) ≡ map (under []) (flat_map claimed_in (old_met item))
    item-same (Instance words name args at) none =
        flat_map-flat_map claimed_in (λ word. instance_met types bodies' inside' here name.name args word.name) words
        ∙ mapped-flat (under []) (λ word. flat_map claimed_in (instance_met types bodies inside here name.name args word.name)) (λ word. flat_map claimed_in (instance_met types bodies' inside' here name.name args word.name)) (λ word. instance-same name.name args word.name) words
        ∙ ap (map (under [])) (sym (flat_map-flat_map claimed_in (λ word. instance_met types bodies inside here name.name args word.name) words))
    item-same (Declare role words of at) none = inner-same [] (Declare role words of at) none
    item-same (Layer name body at) none = inner-same [] (Layer name body at) none
    item-same (Forall' var over shape (more_of-Item body end_of-Item) at) none = inner-same [] (Forall' var over shape (more_of-Item body end_of-Item) at) none
    item-same (Block' shape items) none = inner-same [] (Block' shape items) none
    item-same (Claim name vars body at) none = inner-same [] (Claim name vars body at) none
    item-same (Split name vars of pairs at) none = inner-same [] (Split name vars of pairs at) none
    item-same (Using uses proves at) none = inner-same [] (Using uses proves at) none
    item-same (Act act) none = inner-same [] (Act act) none

    all-same : (items : List Item) → AllByRecursion HoldsNoInstance items → flat_map (λ item. flat_map claimed_in (new_met (translated_item plan [] item))) items ≡ map (under []) (flat_map (λ item. flat_map claimed_in (old_met item)) items)
    all-same [] flat = refl
    all-same (item ∷ items) flat = two _ _ _ _ (item-same item flat.0) (all-same items flat.1) ∙ sym (map-append (under []) (flat_map claimed_in (old_met item)) (flat_map (λ x. flat_map claimed_in (old_met x)) items))
      where
        two : (a b c d : List Claimed) → a ≡ b → c ≡ d → a ++ c ≡ b ++ d
        two a b c d e k = rw (e, k) refl

    -- what stands behind the items claims nothing
    nothing-monitors : (around : Around) (names : List Name) (more : List Item) → flat_map (λ item. flat_map claimed_in (new_met item)) (map (λ m. Declare Abstract (word_of m ∷ []) (type_of around) 0) names ++ more) ≡ flat_map (λ item. flat_map claimed_in (new_met item)) more
    nothing-monitors around [] more = refl
    nothing-monitors around (m ∷ names) more = nothing-monitors around names more

    nothing-declared : (ws : List (Around × Watched)) (more : List Item) → flat_map (λ item. flat_map claimed_in (new_met item)) (flat_map declared ws ++ more) ≡ flat_map (λ item. flat_map claimed_in (new_met item)) more
    nothing-declared [] more = refl
    nothing-declared (w ∷ ws) more =
        ap (flat_map (λ item. flat_map claimed_in (new_met item))) (append_assoc (declared w) (flat_map declared ws) more)
        ∙ nothing-monitors w.0 w.1.monitors (flat_map declared ws ++ more) ∙ nothing-declared ws more

    nothing-behind : (ws : List (Around × Watched)) → flat_map (λ item. flat_map claimed_in (new_met item)) (with_layer layer ws (flat_map declared ws)) ≡ []
    nothing-behind ws = by_items (flat_map declared ws) refl
      where
        by_items : (items : List Item) → flat_map declared ws ≡ items → flat_map (λ item. flat_map claimed_in (new_met item)) (with_layer layer ws items) ≡ []
        by_items [] h = refl
        by_items (item ∷ more) h =
            ap (λ l. flat_map (λ i. flat_map claimed_in (new_met i)) (l ++ Layer (word_of layer) (flat_map defined ws) 0 ∷ [])) (sym h)
            ∙ nothing-declared ws (Layer (word_of layer) (flat_map defined ws) 0 ∷ [])
            ∙ append-nil (flat_map claimed_in (map (said_by (Some layer) here) (flat_map defined ws))) ∙ no-claims (Some layer) here (flat_map defined ws)

  met-same : AreFlat bodies → (n : ℕ) (here : Path) (name : Name) → flat_map claimed_in (met_in types bodies' n here name) ≡ map (under []) (flat_map claimed_in (met_in types bodies n here name))
  met-same flat zero here name = refl
  met-same flat (suc n) here name =
      let inner = met_in types bodies n in
      let inner' = met_in types bodies' n in
      let items : List Item = (body_of types bodies name).items in
      let ws : List (Around × Watched) = flat_map (watched_in plan []) items in
      let met' : Item → List Claimed = λ item. flat_map claimed_in (item_met types bodies' inner' here item) in
      ap (λ body. flat_map claimed_in (flat_map (item_met types bodies' inner' here) body.items)) (body-same plan layer types bodies name)
      ∙ flat_map-flat_map claimed_in (item_met types bodies' inner' here) (translated_body plan layer items)
      ∙ flat_map-append met' (map (translated_item plan []) items) (with_layer layer ws (flat_map declared ws))
      ∙ ap (λ l. flat_map met' (map (translated_item plan []) items) ++ l) (nothing-behind inner inner' (λ p other. met-same flat n p other) here ws)
      ∙ append-nil (flat_map met' (map (translated_item plan []) items))
      ∙ flat_map-map met' (translated_item plan []) items
      ∙ all-same inner inner' (λ p other. met-same flat n p other) here items (items-flat plan types bodies bodies flat name)
      ∙ ap (map (under [])) (sym (flat_map-flat_map claimed_in (item_met types bodies inner here) items))

pub claims-translated : ClaimsAreTranslated
claims-translated plan layer text flat =
    ap (λ bodies. flat_map claimed_in (met_in (types_from [] (map (translated_top plan layer) text.tops)) bodies (length bodies) [] main)) (modules-same plan layer text.tops)
    ∙ ap (λ types. flat_map claimed_in (met_in types (map (new_module plan layer) (modules text.tops)) (length (map (new_module plan layer) (modules text.tops))) [] main)) (types-same plan layer [] text.tops)
    ∙ ap (λ n. flat_map claimed_in (met_in (types_from [] text.tops) (map (new_module plan layer) (modules text.tops)) n [] main)) (length_map (new_module plan layer) (modules text.tops))
    ∙ met-same plan layer (types_from [] text.tops) (modules text.tops) flat (length (modules text.tops)) [] main
    ∙ map_agree (λ c. watch (map (λ param. param.0) c.params) (of_body plan c.body) c) (λ c. watched_claim (of_body plan c.body) c) (λ c. one (of_body plan c.body) c) (claims_of (design_of text))
  where
    one : (o : Option Watched) (c : Claimed) → watch (map (λ param. param.0) c.params) o c ≡ watched_claim o c
    one None c = refl
    one (Some w) c = refl
