-- What an item says of its instances depends on their modules alone.
use Rattle.std.proofs.Common.{◌≡◌, ℕ, List, [], ◌∷◌, ◌++◌, map, length, None, inl, refl, ap, sym, subst, ◌∙◌}
use Rattle.std.specs.List.{flat_map}
use Rattle.law_lists.proofs.Lists.{flat_map_agree}
use Rattle.smv_core.specs.Values.{Name, Path}
use Rattle.smv_core.specs.Types.{Types, Family}
use Rattle.smv_core.specs.FlatOrder.{Body, Met, said, connections, body_of, families_of_item, within_binder, instance_met, item_met, items_met}
use Rattle.smv_core.specs.declared.tree.Word.{Word}
use Rattle.smv_core.specs.declared.tree.Expr.{Expr}
use Rattle.smv_core.specs.declared.tree.Item.{Item, Declare, Instance, Layer, Forall', Block', Claim, Split, Using, Act, Row_of-Item, end_of-Item, more_of-Item}
use Rattle.smv_mentions.specs.Mentions.{Mention, declares, binds, follows, names_type, lists_constants, has_fields, instantiates, declared_as, in_item, in_items, in_type, in_expr, binder_in, instance}
use Rattle.smv_mentions.specs.NameFaults.{used_in}
use Rattle.law_designs.specs.Entries as flat
use Rattle.law_designs.specs.Entries.{Entry, statement, inside_binder, placed_of_item, instance_entries, item_entries, items_entries}
use Rattle.law_designs.proofs.Lists.{IsAmong, among-front, among-behind}

-- ---- what mentions use

used-append : (xs ys : List Mention) → used_in (xs ++ ys) ≡ used_in xs ++ used_in ys
used-append [] ys = refl
used-append (instantiates word args ∷ xs) ys = ap (λ l. word.name ∷ l) (used-append xs ys)
used-append (declares word what ∷ xs) ys = used-append xs ys
used-append (binds around word ∷ xs) ys = used-append xs ys
used-append (follows around parts ∷ xs) ys = used-append xs ys
used-append (names_type word ∷ xs) ys = used-append xs ys
used-append (lists_constants names ∷ xs) ys = used-append xs ys
used-append (has_fields fields ∷ xs) ys = used-append xs ys

front : (q : Name) (xs ys : List Mention) → IsAmong q (used_in xs) → IsAmong q (used_in (xs ++ ys))
front q xs ys h = subst (IsAmong q) (sym (used-append xs ys)) (among-front q (used_in xs) (used_in ys) h)

behind : (q : Name) (xs ys : List Mention) → IsAmong q (used_in ys) → IsAmong q (used_in (xs ++ ys))
behind q xs ys h = subst (IsAmong q) (sym (used-append xs ys)) (among-behind q (used_in xs) (used_in ys) h)

module _ {X : Type 0} (inside other : Path → Name → List X) where
  -- both say the same of these modules
  abbrev pub Agree : List Name → Type 0
  Agree names = (q : Name) → IsAmong q names → (here : Path) → inside here q ≡ other here q

  pub of-instance : (vars : List Word) (words : List Word) (name : Word) (args : List Expr) (at : ℕ) → Agree (used_in (in_item vars (Instance words name args at))) → (here : Path) → inside here name.name ≡ other here name.name
  unfolding in_item
  of-instance vars words name args at h here = h name.name (behind name.name (declared_as (instance name) words) (instantiates name (length args) ∷ flat_map (in_expr vars) args) (inl refl)) here

  -- each item of a list
  pub of-items : (says : (Path → Name → List X) → Item → List X) → ((item : Item) → Agree (used_in (in_item [] item)) → says inside item ≡ says other item) → (items : List Item) → Agree (used_in (flat_map (in_item []) items)) → flat_map (says inside) items ≡ flat_map (says other) items
  of-items says h [] k = refl
  of-items says h (item ∷ items) k =
      ap (λ l. l ++ flat_map (says inside) items) (h item (λ q there. k q (front q (in_item [] item) (flat_map (in_item []) items) there)))
      ∙ ap (λ l. says other item ++ l) (of-items says h items (λ q there. k q (behind q (in_item [] item) (flat_map (in_item []) items) there)))

module _ (types : Types) (bodies : List (Name × Body)) where
  -- ---- families

  pub families-agree : (inside other : Path → Name → List Family) (here : Path) (item : Item) → Agree inside other (used_in (in_item [] item)) → families_of_item types bodies inside here item ≡ families_of_item types bodies other here item
  families-agree inside other here (Declare role words of at) h = refl
  families-agree inside other here (Instance words name args at) h =
      flat_map_agree (λ (word : Word). inside (here ++ word.name ∷ []) name.name) (λ (word : Word). other (here ++ word.name ∷ []) name.name) (λ word. of-instance inside other [] words name args at h (here ++ word.name ∷ [])) words
  families-agree inside other here (Layer name body at) h = refl
  families-agree inside other here (Forall' var over shape row at) h = refl
  families-agree inside other here (Block' shape row) h = refl
  families-agree inside other here (Claim name vars body at) h = refl
  families-agree inside other here (Split name vars of pairs at) h = refl
  families-agree inside other here (Using uses proves at) h = refl
  families-agree inside other here (Act act) h = refl

  pub placed-agree : (inside other : Path → Name → List (Family × ℕ)) (here : Path) (item : Item) → Agree inside other (used_in (in_item [] item)) → placed_of_item types bodies inside here item ≡ placed_of_item types bodies other here item
  placed-agree inside other here (Declare role words of at) h = refl
  placed-agree inside other here (Instance words name args at) h =
      flat_map_agree (λ (word : Word). inside (here ++ word.name ∷ []) name.name) (λ (word : Word). other (here ++ word.name ∷ []) name.name) (λ word. of-instance inside other [] words name args at h (here ++ word.name ∷ [])) words
  placed-agree inside other here (Layer name body at) h = refl
  placed-agree inside other here (Forall' var over shape row at) h = refl
  placed-agree inside other here (Block' shape row) h = refl
  placed-agree inside other here (Claim name vars body at) h = refl
  placed-agree inside other here (Split name vars of pairs at) h = refl
  placed-agree inside other here (Using uses proves at) h = refl
  placed-agree inside other here (Act act) h = refl

  -- ---- statements and claims

  module _ (inside other : Path → Name → List Met) (here : Path) where
    instance-met : (name : Name) (args : List Expr) (n : Name) → inside (here ++ n ∷ []) name ≡ other (here ++ n ∷ []) name → instance_met types bodies inside here name args n ≡ instance_met types bodies other here name args n
    instance-met name args n e = ap (λ l. map (λ act. said (record { layer = None; instance = here; act = act })) (connections (body_of types bodies name) n args) ++ l) e

    mutual
      unfolding in_item

      pub met-agrees : (vars : List Word) (item : Item) → Agree inside other (used_in (in_item vars item)) → item_met types bodies inside here item ≡ item_met types bodies other here item
      met-agrees vars (Declare role words of at) h = refl
      met-agrees vars (Instance words name args at) h =
          flat_map_agree (λ (word : Word). instance_met types bodies inside here name.name args word.name) (λ (word : Word). instance_met types bodies other here name.name args word.name)
          (λ word. instance-met name.name args word.name (of-instance inside other vars words name args at h (here ++ word.name ∷ []))) words
      met-agrees vars (Layer name body at) h = refl
      met-agrees vars (Forall' var over shape (more_of-Item body end_of-Item) at) h =
          ap (map (within_binder var over)) (met-agrees (vars ++ var ∷ []) body (λ q there. h q (behind q (binder_in vars var ∷ in_type over) (in_item (vars ++ var ∷ []) body) there)))
      met-agrees vars (Block' shape row) h = mets-agree vars _ row h
      met-agrees vars (Claim name brackets body at) h = refl
      met-agrees vars (Split name brackets of pairs at) h = refl
      met-agrees vars (Using uses proves at) h = refl
      met-agrees vars (Act act) h = refl

      mets-agree : (vars : List Word) (m : _) (row : Row_of-Item m) → Agree inside other (used_in (in_items vars row)) → items_met types bodies inside here row ≡ items_met types bodies other here row
      mets-agree vars m end_of-Item h = refl
      mets-agree vars m (more_of-Item item rest) h =
          ap (λ l. l ++ items_met types bodies inside here rest) (met-agrees vars item (λ q there. h q (front q (in_item vars item) (in_items vars rest) there)))
          ∙ ap (λ l. item_met types bodies other here item ++ l) (mets-agree vars _ rest (λ q there. h q (behind q (in_item vars item) (in_items vars rest) there)))

  -- ---- entries

  module _ (inside other : Path → Name → List Entry) (here : Path) where
    instance-entries : (name : Name) (args : List Expr) (n : Name) → inside (here ++ n ∷ []) name ≡ other (here ++ n ∷ []) name → instance_entries types bodies inside here name args n ≡ instance_entries types bodies other here name args n
    instance-entries name args n e = ap (λ l. map (λ act. statement (record { layer = None; instance = here; act = act })) (flat.connections (body_of types bodies name) n args) ++ l) e

    mutual
      unfolding in_item

      pub entries-agree : (vars : List Word) (item : Item) → Agree inside other (used_in (in_item vars item)) → item_entries types bodies inside here item ≡ item_entries types bodies other here item
      entries-agree vars (Declare role words of at) h = refl
      entries-agree vars (Instance words name args at) h =
          flat_map_agree (λ (word : Word). instance_entries types bodies inside here name.name args word.name) (λ (word : Word). instance_entries types bodies other here name.name args word.name)
          (λ word. instance-entries name.name args word.name (of-instance inside other vars words name args at h (here ++ word.name ∷ []))) words
      entries-agree vars (Layer name body at) h = refl
      entries-agree vars (Forall' var over shape (more_of-Item body end_of-Item) at) h =
          ap (map (inside_binder var over)) (entries-agree (vars ++ var ∷ []) body (λ q there. h q (behind q (binder_in vars var ∷ in_type over) (in_item (vars ++ var ∷ []) body) there)))
      entries-agree vars (Block' shape row) h = rows-agree vars _ row h
      entries-agree vars (Claim name brackets body at) h = refl
      entries-agree vars (Split name brackets of pairs at) h = refl
      entries-agree vars (Using uses proves at) h = refl
      entries-agree vars (Act act) h = refl

      rows-agree : (vars : List Word) (m : _) (row : Row_of-Item m) → Agree inside other (used_in (in_items vars row)) → items_entries types bodies inside here row ≡ items_entries types bodies other here row
      rows-agree vars m end_of-Item h = refl
      rows-agree vars m (more_of-Item item rest) h =
          ap (λ l. l ++ items_entries types bodies inside here rest) (entries-agree vars item (λ q there. h q (front q (in_item vars item) (in_items vars rest) there)))
          ∙ ap (λ l. item_entries types bodies other here item ++ l) (rows-agree vars _ rest (λ q there. h q (behind q (in_item vars item) (in_items vars rest) there)))
