-- In a text without faults of names the number of modules is bound enough.
use Rattle.std.proofs.Common.{◌≡◌, ℕ, zero, suc, ◌≤◌, List, [], ◌∷◌, map, length, Option, Some, None, Bool, true, false, cond, ◌⊎◌, inl, inr, refl, ap, sym, subst, ◌∙◌, arith}
use Rattle.std.specs.Prelude.{is_some, unwrap_or}
use Rattle.std.specs.List.{flat_map}
use Rattle.std.specs.Str.{bytes_eq}
use Rattle.smv_core.specs.Values.{Name, Path}
use Rattle.smv_core.specs.Types.{Types, find_name}
use Rattle.smv_core.specs.FlatOrder.{Body, body_of, modules, families_of_item, families_in, item_met, met_in}
use Rattle.smv_core.specs.declared.tree.Text.{Text}
use Rattle.smv_core.specs.declared.tree.Item.{Item}
use Rattle.smv_mentions.specs.Mentions.{in_item}
use Rattle.smv_mentions.specs.Scopes.{pieces}
use Rattle.smv_mentions.specs.NameFaults.{used_in}
use Rattle.smv_mentions.specs.FirstFault.{first_fault}
use Rattle.law_designs.specs.Entries.{placed_of_item, placed_in, item_entries, entries_in}
use Rattle.law_designs.specs.Deep.{IsDeepEnough}
use Rattle.law_designs.proofs.Lists.{bytes_eq-is, IsAmong}
use Rattle.law_designs.proofs.Chains.{uses}
use Rattle.law_designs.proofs.Depths.{uses-said, no-cycle, modules-at-most}
use Rattle.law_designs.proofs.InstanceDepth.{settled}
use Rattle.law_designs.proofs.Items.{Agree, of-items, families-agree, placed-agree, met-agrees, entries-agree}

-- a name that is found is among the names
found-among : {X : Type 0} (list : List (Name × X)) (name : Name) → is_some (find_name list name) ≡ true → IsAmong name (map (λ (other, x). other) list)
found-among [] name e = absurd (cc (e))
found-among {X} ((other, x) ∷ list) name e = by (bytes_eq other name) refl e (found-among list name)
  where
    by : (b : Bool) → bytes_eq other name ≡ b → is_some (cond b (Some x) (find_name list name)) ≡ true → (is_some (find_name list name) ≡ true → IsAmong name (map (λ (other, x). other) list)) → (other ≡ name) ⊎ IsAmong name (map (λ (other, x). other) list)
    by true same k rest = inl (bytes_eq-is other name same)
    by false differ k rest = inr (rest k)

count-names : {X : Type 0} (list : List (Name × X)) → length (map (λ (other, x). other) list) ≡ length list
count-names [] = refl
count-names (x ∷ list) = ap suc (count-names list)

module _ (text : Text) (faultless : first_fault text ≡ None) (types : Types) {X : Type 0}
    (says : (Path → Name → List X) → Path → Item → List X)
    (agrees : (inside other : Path → Name → List X) (here : Path) (item : Item) → Agree inside other (used_in (in_item [] item)) → says inside here item ≡ says other here item)
    (read : ℕ → Path → Name → List X)
    (none : (here : Path) (name : Name) → read zero here name ≡ [])
    (more : (n : ℕ) (here : Path) (name : Name) → read (suc n) here name ≡ flat_map (says (read n) here) (body_of types (modules text.tops) name).items) where
  abbrev is_module : Name → Bool
  is_module name = is_some (find_name (modules text.tops) name)

  -- what is read of a module that is not there
  nothing : (n : ℕ) (here : Path) (name : Name) → is_module name ≡ false → read n here name ≡ read zero here name
  nothing zero here name e = refl
  nothing (suc n) here name e = more n here name ∙ by (find_name (modules text.tops) name) e ∙ sym (none here name)
    where
      by : (o : Option Body) → is_some o ≡ false → flat_map (says (read n) here) (unwrap_or o (record { formals = []; items = [] })).items ≡ []
      by None e = refl
      by (Some body) e = absurd (cc (e))

  -- one step further it is the same where it is the same in the modules that are used
  step : (m n : ℕ) (name : Name) → is_module name ≡ true → ((q : Name) → IsAmong q (uses (pieces text) name) → (here : Path) → read m here q ≡ read n here q) → (here : Path) → read (suc m) here name ≡ read (suc n) here name
  step m n name e same here = more m here name ∙ by (find_name (modules text.tops) name) refl e ∙ sym (more n here name)
    where
      by : (o : Option Body) → find_name (modules text.tops) name ≡ o → is_some o ≡ true
          → flat_map (says (read m) here) (unwrap_or o (record { formals = []; items = [] })).items ≡ flat_map (says (read n) here) (unwrap_or o (record { formals = []; items = [] })).items
      by None found k = absurd (cc (k))
      by (Some body) found k =
          let used : uses (pieces text) name ≡ used_in (flat_map (in_item []) body.items) = uses-said text faultless name body found in
          of-items (read m) (read n) (λ inside. says inside here) (λ item h. agrees (read m) (read n) here item h) body.items (λ q there. same q (subst (IsAmong q) (sym used) there))

  pub deep_enough : (n : ℕ) → length (modules text.tops) ≤ n → (here : Path) (name : Name) → read n here name ≡ read (length (modules text.tops)) here name
  deep_enough n le here name =
      let names : List Name = map (λ (other, x). other) (modules text.tops) in
      let count : length names ≡ length (modules text.tops) = count-names (modules text.tops) in
      let few : length (modules text.tops) ≤ length (pieces text) = modules-at-most [] text.tops in
      settled (pieces text) is_module (length (modules text.tops)) (λ k q bound is chain. no-cycle text faultless k q (omega arith) chain) read step nothing
      (length (modules text.tops)) n 0 names name (omega arith) le (omega arith) (λ q is. inl (found-among (modules text.tops) q is)) here

module _ (text : Text) (faultless : first_fault text ≡ None) (types : Types) where
  pub families-deep : IsDeepEnough (families_in types) text
  families-deep = deep_enough text faultless types (families_of_item types (modules text.tops)) (families-agree types (modules text.tops)) (families_in types (modules text.tops)) (λ here name. refl) (λ n here name. refl)

  pub placed-deep : IsDeepEnough (placed_in types) text
  placed-deep = deep_enough text faultless types (placed_of_item types (modules text.tops)) (placed-agree types (modules text.tops)) (placed_in types (modules text.tops)) (λ here name. refl) (λ n here name. refl)

  pub met-deep : IsDeepEnough (met_in types) text
  met-deep =
      deep_enough text faultless types (item_met types (modules text.tops)) (λ inside other here item. met-agrees types (modules text.tops) inside other here [] item) (met_in types (modules text.tops)) (λ here name. refl) (λ n here name. refl)

  pub entries-deep : IsDeepEnough (entries_in types) text
  entries-deep =
      deep_enough text faultless types (item_entries types (modules text.tops)) (λ inside other here item. entries-agree types (modules text.tops) inside other here [] item) (entries_in types (modules text.tops)) (λ here name. refl) (λ n here name. refl)
