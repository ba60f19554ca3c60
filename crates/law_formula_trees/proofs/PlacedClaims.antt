-- The claims of a text whose formulas are watched.
use Rattle.law_formula_trees.proofs.Lists.{both-each, contains-flat, contains-map, each-mapped, each-member}
use Rattle.law_lists.proofs.Lists.{flat_map-flat_map}
use Rattle.law_lists.proofs.Each.{each_weaker, each_append, each_flat_map}
use Rattle.std.proofs.Common.{◌≡◌, ℕ, zero, suc, List, [], ◌∷◌, ◌++◌, map, length, Option, Some, None, unwrap_or, Bool, true, false, Contains, refl, sym, ap, ◌∙◌, subst, append-nil, append_assoc, arith}
use Rattle.std.specs.Str.{bytes_eq}
use Rattle.std.specs.List.{AllByRecursion, flat_map}
use Rattle.std.proofs.lemmas.Grind.{flat_map-append}
use Rattle.std.proofs.lemmas.List.Elements.{Contains-append_left, Contains-append_right}
use Rattle.smv_core.specs.Values.{Name, Path}
use Rattle.smv_core.specs.Types.{Types, find_name, types_from}
use Rattle.smv_core.specs.FlatOrder.{Body, modules, main, Met, said, claimed, Claimed, connections, within_binder, body_of, instance_met, item_met, items_met, met_in}
use Rattle.smv_core.specs.declared.tree.Word.{Word}
use Rattle.smv_core.specs.declared.tree.TypeExpr.{TypeExpr}
use Rattle.smv_core.specs.declared.tree.Expr.{Expr}
use Rattle.smv_core.specs.declared.tree.Stmt.{Stmt}
use Rattle.smv_core.specs.declared.tree.Item.{Item, Declare, Instance, Layer, Forall', Block', Claim, Split, Using, Act, Row_of-Item, end_of-Item, more_of-Item}
use Rattle.law_formulas.specs.Formulas.{of_body}
use Rattle.law_formulas.specs.Monitors.{Watched, Around, or_none, watched_in, watched_among}
use Rattle.law_formula_trees.specs.Behind.{params_of}
use Rattle.law_formula_trees.specs.Placed.{HasNoInstance, HaveNoInstance, HoldsNoInstance, AreFlat, Placed, placed_item, placed_in, claimed_in}
use Rattle.law_formula_trees.specs.Trees.{ClaimsArePlaced}
use Rattle.law_formula_trees.proofs.SameStatements.{said_by}

pub no-claims : (layer : Option Name) (here : Path) (acts : List Stmt) → flat_map claimed_in (map (said_by layer here) acts) ≡ []
no-claims layer here [] = refl
no-claims layer here (act ∷ acts) = no-claims layer here acts

abbrev pub bind_claim : Word → TypeExpr → Claimed → Claimed
bind_claim var over c = record c { params = (var.name, over) ∷ c.params }

pub claimed-bound : (var : Word) (over : TypeExpr) (met : List Met) → flat_map claimed_in (map (within_binder var over) met) ≡ map (bind_claim var over) (flat_map claimed_in met)
claimed-bound var over [] = refl
claimed-bound var over (said x ∷ met) = claimed-bound var over met
claimed-bound var over (claimed c ∷ met) = ap (λ l. bind_claim var over c ∷ l) (claimed-bound var over met)

module _ (plan : List (ℕ × Watched)) (types : Types) (bodies : List (Name × Body)) where
  module _ (inside : Path → Name → List Met) (here : Path) where
    abbrev old_met : Item → List Met
    old_met = item_met types bodies inside here

    -- the claim is watched in this list, behind binders that stand around
    abbrev IsIn : List (Around × Watched) → Around → Claimed → Type 0
    IsIn list around c = (w : Watched) → of_body plan c.body ≡ Some w → (inner : Around) × Contains list (around ++ inner, w) × (params_of inner ≡ c.params) × (c.instance ≡ here)

    in-left : (xs ys : List (Around × Watched)) (around : Around) (c : Claimed) → IsIn xs around c → IsIn (xs ++ ys) around c
    in-left xs ys around c h w e = let r = h w e in (r.0, Contains-append_left xs ys (around ++ r.0, w) r.1, r.2, r.3)

    in-right : (xs ys : List (Around × Watched)) (around : Around) (c : Claimed) → IsIn ys around c → IsIn (xs ++ ys) around c
    in-right xs ys around c h w e = let r = h w e in (r.0, Contains-append_right xs ys (around ++ r.0, w) r.1, r.2, r.3)

    in-itself : (around : Around) (o : Option Watched) (w : Watched) → o ≡ Some w → Contains (or_none around o) (around ++ [], w)
    in-itself around o w h = subst (λ x. Contains (or_none around x) (around ++ [], w)) (sym h) (subst (λ a. Contains {X = Around × Watched} ((around, w) ∷ []) (a, w)) (sym (append-nil around)) (0, omega arith, refl))

    mutual
      inner-claims : (around : Around) (item : Item) → HasNoInstance item → AllByRecursion (IsIn (watched_in plan around item) around) (flat_map claimed_in (old_met item))
      inner-claims around (Declare role words of at) none = tt
      inner-claims around (Instance words name args at) none = absurd none
      inner-claims around (Layer name body at) none = subst (AllByRecursion (IsIn [] around)) (sym (no-claims (Some name.name) here body)) tt
      inner-claims around (Forall' var over shape (more_of-Item body end_of-Item) at) none =
          subst (AllByRecursion (IsIn (watched_in plan (around ++ (var, over) ∷ []) body) around)) (sym (claimed-bound var over (old_met body)))
          (each-mapped (IsIn (watched_in plan (around ++ (var, over) ∷ []) body) around) (bind_claim var over) (flat_map claimed_in (old_met body))
          (each_weaker (IsIn (watched_in plan (around ++ (var, over) ∷ []) body) (around ++ (var, over) ∷ [])) (λ c. IsIn (watched_in plan (around ++ (var, over) ∷ []) body) around (bind_claim var over c))
          (λ c h w e. let r = h w e in ((var, over) ∷ r.0, subst (λ a. Contains (watched_in plan (around ++ (var, over) ∷ []) body) (a, w)) (append_assoc around ((var, over) ∷ []) r.0) r.1, ap (λ l. (var.name, over) ∷ l) r.2, r.3))
          (flat_map claimed_in (old_met body)) (inner-claims (around ++ (var, over) ∷ []) body none)))
      inner-claims around (Block' shape items) none = inners-claims around items none
      inner-claims around (Claim name vars body at) none = (λ w h. ([], in-itself around (of_body plan body) w h, refl, refl), tt)
      inner-claims around (Split name vars of pairs at) none = tt
      inner-claims around (Using uses proves at) none = tt
      inner-claims around (Act act) none = tt

      inners-claims : {m : _} (around : Around) (items : Row_of-Item m) → HaveNoInstance items → AllByRecursion (IsIn (watched_among plan around items) around) (flat_map claimed_in (items_met types bodies inside here items))
      inners-claims around end_of-Item none = tt
      inners-claims around (more_of-Item item rest) none =
          subst (AllByRecursion (IsIn (watched_in plan around item ++ watched_among plan around rest) around)) (sym (flat_map-append claimed_in (old_met item) (items_met types bodies inside here rest)))
          (each_append (IsIn (watched_in plan around item ++ watched_among plan around rest) around) (flat_map claimed_in (old_met item)) (flat_map claimed_in (items_met types bodies inside here rest))
          (each_weaker (IsIn (watched_in plan around item) around) (IsIn (watched_in plan around item ++ watched_among plan around rest) around) (λ c h. in-left (watched_in plan around item) (watched_among plan around rest) around c h) (flat_map claimed_in (old_met item)) (inner-claims around item none.0))
          (each_weaker (IsIn (watched_among plan around rest) around) (IsIn (watched_in plan around item ++ watched_among plan around rest) around) (λ c h. in-right (watched_in plan around item) (watched_among plan around rest) around c h) (flat_map claimed_in (items_met types bodies inside here rest)) (inners-claims around rest none.1)))

  -- the claim is that of one of these placed formulas
  abbrev IsPlaced : List Placed → Claimed → Type 0
  IsPlaced placed c = (w : Watched) → of_body plan c.body ≡ Some w → (around : Around) × Contains placed (c.instance, (around, w)) × (params_of around ≡ c.params)

  pub items-flat : (list : List (Name × Body)) → AreFlat list → (name : Name) → AllByRecursion HoldsNoInstance (unwrap_or (find_name list name) (record { formals = []; items = [] })).items
  items-flat [] h name = tt
  items-flat ((other, body) ∷ list) h name = by_test (bytes_eq other name) (items-flat list h.1 name)
    where
      by_test : (t : Bool) → AllByRecursion HoldsNoInstance (unwrap_or (find_name list name) (record { formals = []; items = [] })).items →
          AllByRecursion HoldsNoInstance (unwrap_or (Rattle.std.specs.Prelude.cond t (Some body) (find_name list name)) (record { formals = []; items = [] })).items
      by_test true k = h.0
      by_test false k = k

  module _ (inside : Path → Name → List Met) (placed : Path → Name → List Placed) (same : (p : Path) (name : Name) → AllByRecursion (IsPlaced (placed p name)) (flat_map claimed_in (inside p name))) (here : Path) (items : List Item) where
    abbrev of_instances : List Placed
    of_instances = flat_map (placed_item plan types bodies placed here) items

    abbrev own : List Placed
    own = map (λ w. (here, w)) (flat_map (watched_in plan []) items)

    from-own : (item : Item) → Contains items item → (c : Claimed) → IsIn inside here (watched_in plan [] item) [] c → IsPlaced (of_instances ++ own) c
    from-own item has c h w e =
        let r = h w e in
        (r.0, Contains-append_right of_instances own (c.instance, (r.0, w)) (subst (λ p. Contains own (p, (r.0, w))) (sym r.3) (contains-map (λ x. (here, x)) (flat_map (watched_in plan []) items) (r.0, w) (contains-flat (watched_in plan []) items item (r.0, w) has r.1))), r.2)

    own-item : (item : Item) → Contains items item → HasNoInstance item → AllByRecursion (IsPlaced (of_instances ++ own)) (flat_map claimed_in (item_met types bodies inside here item))
    own-item item has none = each_weaker (IsIn inside here (watched_in plan [] item) []) (IsPlaced (of_instances ++ own)) (λ c h. from-own item has c h) (flat_map claimed_in (item_met types bodies inside here item)) (inner-claims inside here [] item none)

    one-instance : (words : List Word) (name : Word) (args : List Expr) (at : ℕ) → Contains items (Instance words name args at) → (word : Word) → Contains words word → AllByRecursion (IsPlaced (of_instances ++ own)) (flat_map claimed_in (instance_met types bodies inside here name.name args word.name))
    one-instance words name args at has word there =
        let acts : List Met = map (said_by None here) (connections (body_of types bodies name.name) word.name args) in
        subst (AllByRecursion (IsPlaced (of_instances ++ own))) (sym (flat_map-append claimed_in acts (inside (here ++ word.name ∷ []) name.name) ∙ ap (λ l. l ++ flat_map claimed_in (inside (here ++ word.name ∷ []) name.name)) (no-claims None here (connections (body_of types bodies name.name) word.name args))))
        (each_weaker (IsPlaced (placed (here ++ word.name ∷ []) name.name)) (IsPlaced (of_instances ++ own))
        (λ c h w e. let r = h w e in (
          r.0,
          Contains-append_left of_instances own (c.instance, (r.0, w))
              (contains-flat (placed_item plan types bodies placed here) items (Instance words name args at) (c.instance, (r.0, w)) has (contains-flat (λ x. placed (here ++ x.name ∷ []) name.name) words word (c.instance, (r.0, w)) there r.1)),
          r.2,
        ))
        (flat_map claimed_in (inside (here ++ word.name ∷ []) name.name)) (same (here ++ word.name ∷ []) name.name))

    item-claims : (item : Item) → Contains items item → HoldsNoInstance item → AllByRecursion (IsPlaced (of_instances ++ own)) (flat_map claimed_in (item_met types bodies inside here item))
    item-claims (Instance words name args at) has none =
        subst (AllByRecursion (IsPlaced (of_instances ++ own))) (sym (flat_map-flat_map claimed_in (λ word. instance_met types bodies inside here name.name args word.name) words))
        (each_flat_map (Contains words) (IsPlaced (of_instances ++ own)) (λ word. flat_map claimed_in (instance_met types bodies inside here name.name args word.name)) (λ word there. one-instance words name args at has word there) words (each-member words))
    item-claims (Declare role words of at) has none = own-item (Declare role words of at) has none
    item-claims (Layer name body at) has none = own-item (Layer name body at) has none
    item-claims (Forall' var over shape (more_of-Item body end_of-Item) at) has none = own-item (Forall' var over shape (more_of-Item body end_of-Item) at) has none
    item-claims (Block' shape row) has none = own-item (Block' shape row) has none
    item-claims (Claim name vars body at) has none = own-item (Claim name vars body at) has none
    item-claims (Split name vars of pairs at) has none = own-item (Split name vars of pairs at) has none
    item-claims (Using uses proves at) has none = own-item (Using uses proves at) has none
    item-claims (Act act) has none = own-item (Act act) has none

  met-claims : AreFlat bodies → (n : ℕ) (here : Path) (name : Name) → AllByRecursion (IsPlaced (placed_in plan types bodies n here name)) (flat_map claimed_in (met_in types bodies n here name))
  met-claims flat zero here name = tt
  met-claims flat (suc n) here name =
      let items : List Item = (body_of types bodies name).items in
      subst (AllByRecursion (IsPlaced (placed_in plan types bodies (suc n) here name))) (sym (flat_map-flat_map claimed_in (item_met types bodies (met_in types bodies n) here) items))
      (each_flat_map (λ item. Contains items item × HoldsNoInstance item) (IsPlaced (placed_in plan types bodies (suc n) here name)) (λ item. flat_map claimed_in (item_met types bodies (met_in types bodies n) here item))
      (λ item h. item-claims (met_in types bodies n) (placed_in plan types bodies n) (λ p other. met-claims flat n p other) here items item h.0 h.1) items (both-each (Contains items) HoldsNoInstance items (each-member items) (items-flat bodies flat name)))

pub claims-placed : ClaimsArePlaced
claims-placed plan text flat = met-claims plan (types_from [] text.tops) (modules text.tops) flat (length (modules text.tops)) [] main
