-- The flattened text of a text without faults is kinded.
use Rattle.law_designs.proofs.Opening.{opening}
use Rattle.std.proofs.Common.{◌≡◌, ℕ, ◌+◌, ◌-◌, ◌<◌, ◌≤◌, List, [], ◌∷◌, map, flat_map, length, Option, Some, None, option_map, Bool, true, All, nat_lt, nat_le, refl, sym, ap, ◌∙◌, subst, arith}
use Rattle.std.specs.List.{AllByRecursion, list_all}
use Rattle.std.proofs.lemmas.Bool.{and_from, le-leb, lt-ltb}
use Rattle.law_lists.proofs.Booleans.{left_of, right_of}
use Rattle.smv_core.specs.Values.{Name, Path, Sizes}
use Rattle.smv_core.specs.Types as tree
use Rattle.smv_core.specs.Types.{types_from}
use Rattle.smv_core.specs.FlatOrder.{Body, modules, main, families_in, design_of}
use Rattle.smv_core.specs.declared.tree.Span.{Span}
use Rattle.smv_core.specs.declared.tree.Text.{Text}
use Rattle.smv_core.specs.declared.tree.Top.{Top}
use Rattle.smv_core.specs.declared.tree.Top.TheVariants.{SetType, Alias, Module as ModuleOf}
use Rattle.smv_core.specs.declared.flat.FlatItem.{FlatItem}
use Rattle.smv_core.specs.declared.flat.FlatItem.TheVariants as item
use Rattle.smv_core.specs.declared.flat.Param.{Param}
use Rattle.smv_core.specs.declared.flat.FlatText.{FlatText}
use Rattle.smv_mentions.specs.Scopes.{Constant, Piece, constants, pieces}
use Rattle.law_designs.specs.Types.{Types, size_faults, types_after}
use Rattle.law_designs.specs.References.{Module, modules_from}
use Rattle.law_designs.specs.KindFaults.{in_top, in_tops, faults_of_kinds}
use Rattle.law_designs.specs.FlatKinds as typed
use Rattle.law_designs.specs.FlatKinds.{kind_in, are_binders, bound_by, is_size, is_kinded_family, is_kinded_item, is_kinded}
use Rattle.law_designs.specs.Statements.{flat_expr}
use Rattle.law_designs.specs.Entries.{Binders, claim, split, using, Entry, layer, statement, goal, placed_families, entries}
use Rattle.law_designs.specs.Flattening.{flatten, scope_in, set_of, within, params_from, flat_assignments, flat_pair, flat_entry, layers_of, with_places}
use Rattle.law_designs.specs.Agreement.{numbers_in}
use Rattle.law_designs.proofs.Numbered.{HasNumbers, AreNumbered}
use Rattle.law_designs.proofs.SameFamilies.{families-same}
use Rattle.law_designs.proofs.TypeNumbers.{types-of-text}
use Rattle.law_designs.specs.WellKinded.{IsWellKinded}
use Rattle.law_designs.specs.Written.{TextIsWritten}
use Rattle.law_designs.proofs.Faultless.{empty-both, no_fault-in}
use Rattle.law_designs.proofs.WrittenRules.{spelled-written}
use Rattle.law_designs.proofs.Modules.{AreModules}
use Rattle.law_designs.proofs.RightText.{modules-of}
use Rattle.law_obligations.specs.Sets.{Has}
use Rattle.law_flat_kinds.specs.FamiliesFound.{FamiliesAreFound}
use Rattle.law_flat_kinds.proofs.FamiliesFound.{PieceIsFine, AllApart, BodyIsFine, types-all, modules-fine, pieces-fine}
use Rattle.law_flat_kinds.proofs.Lists.{all-append}
use Rattle.law_flat_kinds.proofs.Families.{AreFit, TableIsFit, range-fit, table-fit, families-fit, families-kept}
use Rattle.law_flat_kinds.proofs.Enumerations.{enumerations-kept}
use Rattle.law_flat_kinds.proofs.Connections.{has_kind, inside_params, params-bound, EntryKeeps}
use Rattle.law_flat_kinds.proofs.Entries.{text-keeps}

-- ---- set types

size-kept : (span : Option Span) (at : ℕ) → size_faults span at ≡ [] → is_size (option_map (λ (s : Span). s.high + 1 - s.low) span) ≡ true
size-kept None at h = refl
size-kept (Some span) at h =
    let r = range-fit span at h in
    let low : span.low ≤ span.high = r.0 in
    let high : span.high ≤ 255 = r.1 in
    let some : 0 < span.high + 1 - span.low = omega (arith, low) in
    let few : span.high + 1 - span.low ≤ 256 = omega (arith, high) in
    and_from (nat_lt 0 (span.high + 1 - span.low)) (nat_le (span.high + 1 - span.low) 256) (lt-ltb 0 (span.high + 1 - span.low) some) (le-leb (span.high + 1 - span.low) 256 few)

sets-kept : (ms : List (Name × Module)) (cs : List (Name × Constant)) (ks : Types) (tops : List Top) → in_tops ms cs ks tops ≡ [] → list_all (λ info. is_size info.size) (flat_map set_of tops) ≡ true
sets-kept ms cs ks [] h = refl
sets-kept ms cs ks (SetType word ordered span at ∷ tops) h =
    let both = empty-both (in_top ms cs ks (SetType word ordered span at)) (in_tops ms cs (types_after ks (SetType word ordered span at)) tops) h in
    and_from _ _ (size-kept span at both.0) (sets-kept ms cs (types_after ks (SetType word ordered span at)) tops both.1)
sets-kept ms cs ks (Alias word of at ∷ tops) h = sets-kept ms cs (types_after ks (Alias word of at)) tops (empty-both (in_top ms cs ks (Alias word of at)) (in_tops ms cs (types_after ks (Alias word of at)) tops) h).1
sets-kept ms cs ks (ModuleOf word formals body at ∷ tops) h = sets-kept ms cs ks tops (empty-both (in_top ms cs ks (ModuleOf word formals body at)) (in_tops ms cs ks tops) h).1

-- ---- items

places-kept : (flat_text : FlatText) (k : ℕ) (items : List FlatItem) → list_all (is_kinded_item flat_text) items ≡ true → list_all (is_kinded_item flat_text) (with_places k items) ≡ true
places-kept flat_text k [] h = refl
places-kept flat_text k (item.Act number act ∷ items) h =
    and_from (is_kinded_item flat_text (item.Act number act)) (list_all (is_kinded_item flat_text) (with_places (k + length (flat_assignments act)) items)) (left_of (is_kinded_item flat_text (item.Act number act)) (list_all (is_kinded_item flat_text) items) h)
    (places-kept flat_text (k + length (flat_assignments act)) items (right_of (is_kinded_item flat_text (item.Act number act)) (list_all (is_kinded_item flat_text) items) h))
places-kept flat_text k (item.Claim c ∷ items) h =
    and_from (is_kinded_item flat_text (item.Claim c)) (list_all (is_kinded_item flat_text) (with_places (k + 1) items)) (left_of (is_kinded_item flat_text (item.Claim c)) (list_all (is_kinded_item flat_text) items) h)
    (places-kept flat_text (k + 1) items (right_of (is_kinded_item flat_text (item.Claim c)) (list_all (is_kinded_item flat_text) items) h))
places-kept flat_text k (item.Split s ∷ items) h =
    and_from (is_kinded_item flat_text (item.Split s)) (list_all (is_kinded_item flat_text) (with_places k items)) (left_of (is_kinded_item flat_text (item.Split s)) (list_all (is_kinded_item flat_text) items) h)
    (places-kept flat_text k items (right_of (is_kinded_item flat_text (item.Split s)) (list_all (is_kinded_item flat_text) items) h))
places-kept flat_text k (item.Using u ∷ items) h =
    and_from (is_kinded_item flat_text (item.Using u)) (list_all (is_kinded_item flat_text) (with_places k items)) (left_of (is_kinded_item flat_text (item.Using u)) (list_all (is_kinded_item flat_text) items) h)
    (places-kept flat_text k items (right_of (is_kinded_item flat_text (item.Using u)) (list_all (is_kinded_item flat_text) items) h))

module _ (text : Text) (layers : List Name) where
  abbrev params : Path → Binders → List Param
  params instance binders = params_from (scope_in text instance) 0 binders

  outside : (instance : Path) (binders : Binders) (P : typed.FlatVars → Bool) → P (inside_params text [] (params instance binders)) ≡ true → P (bound_by (flatten text) (params instance binders)) ≡ true
  outside instance binders P h = ap P (sym (params-bound text [] (params instance binders))) ∙ h

  entry-kept : (e : Entry) → EntryKeeps text [] [] e → list_all (is_kinded_item (flatten text)) (flat_entry text layers e) ≡ true
  entry-kept (layer name) h = refl
  entry-kept (statement x) h = and_from _ true h refl
  entry-kept (goal instance binders (claim word vars body at)) h =
      and_from _ true (and_from (are_binders (flatten text) [] (params instance binders)) _ h.0
      (outside instance binders (λ fv. typed.takes typed.number (kind_in (flatten text) fv (flat_expr (scope_in text instance) (within [] binders) body))) h.1)) refl
  entry-kept (goal instance binders (split word vars of pairs at)) h =
      and_from _ true (and_from (are_binders (flatten text) [] (params instance binders)) _ h.0
      (outside instance binders (λ fv. list_all (has_kind text fv) (map (flat_pair (scope_in text instance) (within [] binders)) pairs)) h.1)) refl
  entry-kept (goal instance binders (using uses proves at)) h = and_from (are_binders (flatten text) [] (params instance binders)) true h.0 refl

  entries-kept : (es : List Entry) → AllByRecursion (EntryKeeps text [] []) es → list_all (is_kinded_item (flatten text)) (flat_map (flat_entry text layers) es) ≡ true
  entries-kept [] h = refl
  entries-kept (e ∷ es) h = all-append (is_kinded_item (flatten text)) (flat_entry text layers e) (flat_map (flat_entry text layers) es) (entry-kept e h.0) (entries-kept es h.1)

-- ---- the text

pub text-kinded : (text : Text) → IsWellKinded text → FamiliesAreFound text →
    ((n : ℕ) → length (modules text.tops) ≤ n → families_in (types_from [] text.tops) (modules text.tops) n [] main ≡ families_in (types_from [] text.tops) (modules text.tops) (length (modules text.tops)) [] main) → is_kinded (flatten text) ≡ true
unfolding opening
text-kinded text h found deep =
    let types : tree.Types = types_from [] text.tops in
    let bodies : List (Name × Body) = modules text.tops in
    let sizes : Sizes = λ name. 0 in
    let written : TextIsWritten text = spelled-written h.0 h.1 text h.2 in
    let fine : in_tops (modules_from [] text.tops) (constants (pieces text)) [] text.tops ≡ [] = no_fault-in (faults_of_kinds text) h.4 in
    let same : AreModules types (modules_from [] text.tops) (constants (pieces text)) (modules_from [] text.tops) bodies = modules-of text written h.3 h.4 in
    let table : TableIsFit types = table-fit (modules_from [] text.tops) (constants (pieces text)) [] [] tt tt text.tops written fine in
    let numbered : AreNumbered text sizes = types-of-text text h.3 sizes in
    let names : (p : Piece) → Has (pieces text) p → PieceIsFine p = pieces-fine text h.3 in
    let apart : AllApart types = types-all [] [] text.tops (λ entry i. elim i [ ]) names in
    let bodies_fine : (entry : Name × Body) → Has bodies entry → BodyIsFine types apart bodies entry.1 = modules-fine [] text.tops names in
    let fit : AreFit (design_of text).families = families-fit (modules_from [] text.tops) (constants (pieces text)) types table bodies same (length bodies) [] main in
    let said : AllByRecursion (EntryKeeps text [] []) (entries text) = text-keeps text found table numbered.1 apart bodies_fine same deep in
    let sets : list_all (λ info. is_size info.size) (flatten text).sets ≡ true = sets-kept (modules_from [] text.tops) (constants (pieces text)) [] text.tops fine in
    let enums : list_all (λ names. nat_lt 0 (length names)) (flatten text).enums ≡ true = enumerations-kept text written in
    let families : list_all (is_kinded_family (flatten text)) (flatten text).families ≡ true =
    families-kept text sizes [] (placed_families text) (subst AreFit (sym (families-same text)) fit) (subst (All (HasNumbers (scope_in text []) (numbers_in text sizes))) (sym (families-same text)) numbered.0) in
    let items : list_all (is_kinded_item (flatten text)) (flatten text).items ≡ true =
    places-kept (flatten text) 0 (flat_map (flat_entry text (layers_of (entries text))) (entries text)) (entries-kept text (layers_of (entries text)) (entries text) said) in
    and_from _ _ sets (and_from _ _ enums (and_from _ _ families items))
