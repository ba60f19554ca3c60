-- Where each assignment takes one index for each type of its family, no left side has more.
use Rattle.std.proofs.Common.{◌≡◌, ℕ, suc, ◌+◌, List, [], ◌∷◌, map, length, slice_get, Option, Some, None, Bool, true, false, ◌&&◌, if◌then◌else◌, nat_le, nat_lt, refl, ap, arith}
use Rattle.std.specs.List.{flat_map, list_all}
use Rattle.std.proofs.lemmas.Bool.{and_parts, and_from}
use Rattle.smv_core.specs.declared.flat.Simple.{Simple}
use Rattle.smv_core.specs.declared.flat.Family.{Family}
use Rattle.smv_core.specs.declared.flat.FlatExpr.{FlatExpr}
use Rattle.smv_core.specs.declared.flat.FlatStmt.{FlatStmt, Assign, If', Block', Default', Forall', Row_of-FlatStmt, end_of-FlatStmt, more_of-FlatStmt}
use Rattle.smv_core.specs.declared.flat.FlatItem.{FlatItem}
use Rattle.smv_core.specs.declared.flat.FlatItem.TheVariants as item
use Rattle.smv_core.specs.declared.flat.FlatText.{FlatText}
use Rattle.smv_core.specs.declared.flat.SetInfo.{SetInfo}
use Rattle.smv_core.specs.Values.{Name}
use Rattle.law_designs.specs.Standing.{count, statements_from, Standing, standing, standing_in, assigned_by}
use Rattle.law_designs.specs.Laws.{index_count, left_sides_are_whole}
use Rattle.law_designs.specs.FlatKinds.{FlatKind, number, kind_of, takes, take_each, assigns, element, FlatVars, inside, is_size, kind_in, value_in, is_binder, keeps_kinds, all_keep_kinds, is_kinded_item, is_kinded_family, is_kinded}
use Rattle.law_flat_kinds.proofs.Lists.{all-append}

at_most : (k n : ℕ) → k ≡ n → nat_le k n ≡ true
at_most k n e = grind arith

one-for-each : (g : FlatExpr → Option FlatKind) (over : List Simple) (left : List FlatExpr) → take_each over (map g left) ≡ true → length left ≡ length over
one-for-each g [] [] e = refl
one-for-each g [] (x ∷ left) e = absurd (cc (e))
one-for-each g (t ∷ over) [] e = absurd (cc (e))
one-for-each g (t ∷ over) (x ∷ left) e = ap suc (one-for-each g over left (and_parts (takes (kind_of t) (g x)) (take_each over (map g left)) e).1)

module _ (flat_text : FlatText) where
  abbrev whole : Standing → Bool
  whole a = nat_le (length a.left) (index_count flat_text a.family)

  taken : (vars : FlatVars) (left : List FlatExpr) (value : Option FlatKind) (f : Family) (b : Bool) → take_each f.over (map (kind_in flat_text vars) left) ≡ b →
      assigns (if b then Some (kind_of f.value) else None) value ≡ true → nat_le (length left) (length f.over) ≡ true
  taken vars left value f false e h = absurd (cc (h))
  taken vars left value f true e h = at_most (length left) (length f.over) (one-for-each (kind_in flat_text vars) f.over left e)

  target-whole : (vars : FlatVars) (family : ℕ) (left : List FlatExpr) (value : Option FlatKind) (o : Option Family) → slice_get flat_text.families family ≡ o →
      assigns (element o (map (kind_in flat_text vars) left)) value ≡ true → nat_le (length left) (index_count flat_text family) ≡ true
  target-whole vars family left value None e h = absurd (cc (h))
  target-whole vars family left value (Some f) e h = rw e (taken vars left value f (take_each f.over (map (kind_in flat_text vars) left)) refl h)

  module _ (layer : Option ℕ) where
    mutual
      stmt-whole : (around : List ℕ) (vars : FlatVars) (act : FlatStmt) → keeps_kinds flat_text vars act ≡ true → list_all whole (standing layer around act) ≡ true
      stmt-whole around vars (Assign kind family left value at) e = and_from _ true (target-whole vars family left (value_in flat_text vars value) (slice_get flat_text.families family) refl e) refl
      stmt-whole around vars (If' test l (more_of-FlatStmt left end_of-FlatStmt) r (more_of-FlatStmt right end_of-FlatStmt)) e =
          let g : (keeps_kinds flat_text vars left ≡ true) × (keeps_kinds flat_text vars right ≡ true) = and_parts _ _ (and_parts (takes number (kind_in flat_text vars test)) (keeps_kinds flat_text vars left && keeps_kinds flat_text vars right) e).1 in
          all-append whole (standing layer around left) (standing layer around right) (stmt-whole around vars left g.0) (stmt-whole around vars right g.1)
      stmt-whole around vars (Block' shape parts) e = all-whole around vars parts e
      stmt-whole around vars (Default' l (more_of-FlatStmt left end_of-FlatStmt) r (more_of-FlatStmt right end_of-FlatStmt)) e =
          let g : (keeps_kinds flat_text vars left ≡ true) × (keeps_kinds flat_text vars right ≡ true) = and_parts _ _ e in
          all-append whole (standing layer around left) (standing layer around right) (stmt-whole around vars left g.0) (stmt-whole around vars right g.1)
      stmt-whole around vars (Forall' var over shape (more_of-FlatStmt body end_of-FlatStmt)) e =
          stmt-whole (var ∷ around) (inside vars over) body (and_parts (is_binder flat_text vars var over) (keeps_kinds flat_text (inside vars over) body) e).1

      all-whole : {m : _} (around : List ℕ) (vars : FlatVars) (parts : Row_of-FlatStmt m) → all_keep_kinds flat_text vars parts ≡ true → list_all whole (standing_in layer around parts) ≡ true
      all-whole around vars end_of-FlatStmt e = refl
      all-whole around vars (more_of-FlatStmt part rest) e =
          let g : (keeps_kinds flat_text vars part ≡ true) × (all_keep_kinds flat_text vars rest ≡ true) = and_parts _ _ e in
          all-append whole (standing layer around part) (standing_in layer around rest) (stmt-whole around vars part g.0) (all-whole around vars rest g.1)

  items-whole : (k : ℕ) (items : List FlatItem) → list_all (is_kinded_item flat_text) items ≡ true → list_all whole (flat_map assigned_by (statements_from k items)) ≡ true
  items-whole k [] e = refl
  items-whole k (item.Act layer act ∷ items) e =
      let g : (keeps_kinds flat_text [] act ≡ true) × (list_all (is_kinded_item flat_text) items ≡ true) = and_parts _ _ e in
      all-append whole (standing layer [] act) (flat_map assigned_by (statements_from (k + count act) items)) (stmt-whole layer [] [] act g.0) (items-whole (k + count act) items g.1)
  items-whole k (item.Claim c ∷ items) e = items-whole (k + 1) items (and_parts (is_kinded_item flat_text (item.Claim c)) (list_all (is_kinded_item flat_text) items) e).1
  items-whole k (item.Split s ∷ items) e = items-whole k items (and_parts (is_kinded_item flat_text (item.Split s)) (list_all (is_kinded_item flat_text) items) e).1
  items-whole k (item.Using u ∷ items) e = items-whole k items (and_parts (is_kinded_item flat_text (item.Using u)) (list_all (is_kinded_item flat_text) items) e).1

  pub flat_text-whole : is_kinded flat_text ≡ true → left_sides_are_whole flat_text ≡ true
  flat_text-whole e =
      items-whole 0 flat_text.items
      (and_parts (list_all (is_kinded_family flat_text) flat_text.families) (list_all (is_kinded_item flat_text) flat_text.items)
      (and_parts (list_all (λ (names : List Name). nat_lt 0 (length names)) flat_text.enums) (list_all (is_kinded_family flat_text) flat_text.families && list_all (is_kinded_item flat_text) flat_text.items)
      (and_parts (list_all (λ (info : SetInfo). is_size info.size) flat_text.sets) (list_all (λ (names : List Name). nat_lt 0 (length names)) flat_text.enums && (list_all (is_kinded_family flat_text) flat_text.families && list_all (is_kinded_item flat_text) flat_text.items)) e).1).1).1
