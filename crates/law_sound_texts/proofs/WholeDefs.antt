-- Definitions and claims of a flattened text that keeps the rules of kinds read whole elements.
use Rattle.std.proofs.Common.{◌≡◌, ℕ, ◌+◌, List, [], ◌∷◌, map, filter, slice_get, Option, Some, None, is_some, Bool, true, false, not, ◌&&◌, cond, nat_eq, refl, sym, subst}
use Rattle.std.specs.List.{list_all}
use Rattle.std.proofs.lemmas.Bool.{and_parts}
use Rattle.smv_core.specs.Walk.{same_kind}
use Rattle.smv_core.specs.declared.tree.Kind.{Kind}
use Rattle.smv_core.specs.declared.tree.Kind.TheVariants.{Comb, Init, Next}
use Rattle.smv_core.specs.declared.flat.Simple.{Simple}
use Rattle.smv_core.specs.declared.flat.Claim.{Claim}
use Rattle.smv_core.specs.declared.flat.FlatExpr.{FlatExpr}
use Rattle.smv_core.specs.declared.flat.FlatStmt.{FlatStmt, Assign, If', Block', Default', Forall', Row_of-FlatStmt, end_of-FlatStmt, more_of-FlatStmt}
use Rattle.smv_core.specs.declared.flat.FlatItem.{FlatItem}
use Rattle.smv_core.specs.declared.flat.FlatItem.TheVariants as item
use Rattle.smv_core.specs.declared.flat.DefBody.{DefBody, Nothing, If, First, Forall, First', Row_of-DefBody, end_of-DefBody, more_of-DefBody, items-the_row-DefBody, items_hidden-the_row-DefBody-1}
use Rattle.smv_core.specs.declared.flat.DefBody as flat
use Rattle.smv_core.specs.declared.flat.Def.{Def}
use Rattle.smv_core.specs.declared.flat.FlatText.{FlatText}
use Rattle.law_designs.specs.WholeText.{is_one_layer, claims_of}
use Rattle.law_designs.specs.Standing.{count, Statement, statements_from, statements_of}
use Rattle.law_designs.specs.Definitions.{is_nothing, joined, first_part, flat_of, flats_of, set_of, part_of, Head, def_of, first_heads, design_of_flat_text}
use Rattle.law_designs.specs.FlatKinds.{FlatKind as KindOf, number, takes, assigns, element, FlatVars, inside, bound_by, are_binders, is_binder, kind_in, value_in, keeps_kinds, all_keep_kinds, is_kinded_item}
use Rattle.law_obligations.specs.Sets.{Has, first, later}
use Rattle.law_obligations.specs.Whole.{IsWhole, IsWholeFlat, AreWholeFlats, IsWholeDef}
use Rattle.law_obligations.proofs.Members.{Has-from_map}
use Rattle.law_sound_texts.specs.Whole.{ReadsWholeInClaims, ReadsWholeInDefinitions}
use Rattle.law_designs.proofs.Operands.{takes-some}
use Rattle.law_sound_texts.proofs.WholeExprs.{expr-whole, value-whole, indexes-whole}
use mathlib.Core.Former.{Count}
use Rattle.law_flat_kinds.proofs.Lists.{Has-kept}

-- what lets a box of a definition's part compute
unfoldable boxes : Unit {0}
unfolding Rattle.smv_core.specs.declared.flat.DefBody.TheBlock.hidden-the_row-DefBody-0 Rattle.smv_core.specs.declared.flat.DefBody.TheBlock.shape-the_row-DefBody-0 denote.Hole.Carrier.hidden
boxes = tt

-- ---- parts of a definition

module _ (flat_text : FlatText) where
  abbrev IsWholePart : DefBody → Type 0
  IsWholePart p = IsWholeFlat flat_text.families p

  abbrev EachIsWhole : List DefBody → Type 0
  EachIsWhole parts = (p : DefBody) → Has parts p → IsWholePart p

  whole-row : (k : _) (row : Row_of-DefBody k) → EachIsWhole (items-the_row-DefBody k row) → AreWholeFlats flat_text.families row
  whole-row k end_of-DefBody h = tt
  whole-row k (more_of-DefBody p rest) h = (h p first, whole-row _ rest (λ q i. h q (later i)))

  abbrev rows_of : DefBody → (k : Count) × Row_of-DefBody k
  rows_of (First' shape row) = (_, row)
  rows_of _ = (_, end_of-DefBody)

  whole-First : (parts : List DefBody) → EachIsWhole parts → IsWholePart (First parts)
  whole-First parts h = let row : (k : Count) × Row_of-DefBody k = rows_of (First parts) in whole-row row.0 row.1 (subst EachIsWhole (sym (items_hidden-the_row-DefBody-1 parts)) h)

  whole-If : (test : FlatExpr) (p q : DefBody) → IsWhole flat_text.families test → IsWholePart p → IsWholePart q → IsWholePart (If test p q)
  unfolding boxes
  whole-If test p q t h k = (t, h, k)

  whole-Forall : (var : ℕ) (over : Simple) (p : DefBody) → IsWholePart p → IsWholePart (Forall var over p)
  unfolding boxes
  whole-Forall var over p h = h

  whole-joined : (parts : List DefBody) → EachIsWhole parts → IsWholePart (joined parts)
  whole-joined [] h = tt
  whole-joined (p ∷ []) h = h p first
  whole-joined (p ∷ q ∷ more) h = whole-First (p ∷ q ∷ more) h

  whole-first_part : (parts : List DefBody) → EachIsWhole parts → IsWholePart (first_part parts)
  whole-first_part parts h = whole-joined (filter (λ p. not (is_nothing p)) parts) (λ p k. h p (Has-kept (λ p. not (is_nothing p)) parts k))

  whole-cond : (b : Bool) (p q : DefBody) → IsWholePart p → IsWholePart q → IsWholePart (cond b p q)
  whole-cond true p q h k = h
  whole-cond false p q h k = k

  -- ---- statements

  -- an assignment that keeps the rules has a target and a value of a kind
  assigned-some : (target value : Option KindOf) → assigns target value ≡ true → (is_some target ≡ true) × (is_some value ≡ true)
  assigned-some None value e = absurd (cc (e))
  assigned-some (Some kind) value e = (refl, takes-some kind value e)

  module _ (kind : Kind) (family : ℕ) where
    mutual
      whole_of : (vars : FlatVars) (k : ℕ) (act : FlatStmt) → keeps_kinds flat_text vars act ≡ true → IsWholePart (flat_of kind family k act)
      whole_of vars k (Assign which other left value at) h =
          let g : (is_some (element (slice_get flat_text.families other) (map (kind_in flat_text vars) left)) ≡ true) × (is_some (value_in flat_text vars value) ≡ true) = assigned-some _ (value_in flat_text vars value) h in
          whole-cond (same_kind which kind && nat_eq other family) (flat.Assign left value k at) Nothing (indexes-whole flat_text vars other left g.0, value-whole flat_text vars value g.1) tt
      whole_of vars k (If' test l (more_of-FlatStmt left end_of-FlatStmt) r (more_of-FlatStmt right end_of-FlatStmt)) h =
          let g : (takes number (kind_in flat_text vars test) ≡ true) × ((keeps_kinds flat_text vars left && keeps_kinds flat_text vars right) ≡ true) = and_parts _ _ h in
          let s : (keeps_kinds flat_text vars left ≡ true) × (keeps_kinds flat_text vars right ≡ true) = and_parts _ _ g.1 in
          whole-cond (is_nothing (flat_of kind family k left) && is_nothing (flat_of kind family (k + count left) right)) Nothing (If test (flat_of kind family k left) (flat_of kind family (k + count left) right)) tt
          (whole-If test (flat_of kind family k left) (flat_of kind family (k + count left) right) (expr-whole flat_text vars test (takes-some number (kind_in flat_text vars test) g.0)) (whole_of vars k left s.0)
          (whole_of vars (k + count left) right s.1))
      whole_of vars k (Block' shape parts) h = whole-first_part (flats_of kind family k parts) (whole_in vars k parts h)
      whole_of vars k (Default' l (more_of-FlatStmt left end_of-FlatStmt) r (more_of-FlatStmt right end_of-FlatStmt)) h =
          let s : (keeps_kinds flat_text vars left ≡ true) × (keeps_kinds flat_text vars right ≡ true) = and_parts _ _ h in
          whole-first_part (flat_of kind family (k + count left) right ∷ flat_of kind family k left ∷ [])
          (two (flat_of kind family (k + count left) right) (flat_of kind family k left) (whole_of vars (k + count left) right s.1) (whole_of vars k left s.0))
        where
          two : (p q : DefBody) → IsWholePart p → IsWholePart q → (r : DefBody) → Has (p ∷ q ∷ []) r → IsWholePart r
          two p q x y _ first = x
          two p q x y _ (later first) = y
          two p q x y r (later (later i)) = elim i [ ]
      whole_of vars k (Forall' var over shape (more_of-FlatStmt body end_of-FlatStmt)) h =
          let g : (is_binder flat_text vars var over ≡ true) × (keeps_kinds flat_text (inside vars over) body ≡ true) = and_parts _ _ h in
          whole-cond (is_nothing (flat_of kind family k body)) Nothing (Forall var over (flat_of kind family k body)) tt
          (whole-Forall var over (flat_of kind family k body) (whole_of (inside vars over) k body g.1))

      whole_in : {m : _} (vars : FlatVars) (k : ℕ) (parts : Row_of-FlatStmt m) → all_keep_kinds flat_text vars parts ≡ true → EachIsWhole (flats_of kind family k parts)
      whole_in vars k end_of-FlatStmt h p i = elim i [ ]
      whole_in vars k (more_of-FlatStmt part rest) h p i =
          let g : (keeps_kinds flat_text vars part ≡ true) × (all_keep_kinds flat_text vars rest ≡ true) = and_parts _ _ h in
          one_of (flat_of kind family k part) (flats_of kind family (k + count part) rest) (whole_of vars k part g.0) (whole_in vars (k + count part) rest g.1) p i
        where
          one_of : (q : DefBody) (qs : List DefBody) → IsWholePart q → EachIsWhole qs → EachIsWhole (q ∷ qs)
          one_of q qs x rest _ first = x
          one_of q qs x rest p (later i) = rest p i

  -- ---- items

  -- each statement among the items keeps the rules
  statement-kept : (k : ℕ) (items : List FlatItem) → list_all (is_kinded_item flat_text) items ≡ true → (s : Statement) → Has (statements_from k items) s → keeps_kinds flat_text [] s.act ≡ true
  statement-kept k [] h s i = elim i [ ]
  statement-kept k (item.Act layer act ∷ items) h _ first = (and_parts (keeps_kinds flat_text [] act) (list_all (is_kinded_item flat_text) items) h).0
  statement-kept k (item.Act layer act ∷ items) h s (later i) = statement-kept (k + count act) items (and_parts (keeps_kinds flat_text [] act) (list_all (is_kinded_item flat_text) items) h).1 s i
  statement-kept k (item.Claim c ∷ items) h s i = statement-kept (k + 1) items (and_parts (is_kinded_item flat_text (item.Claim c)) (list_all (is_kinded_item flat_text) items) h).1 s i
  statement-kept k (item.Split c ∷ items) h s i = statement-kept k items (and_parts (is_kinded_item flat_text (item.Split c)) (list_all (is_kinded_item flat_text) items) h).1 s i
  statement-kept k (item.Using c ∷ items) h s i = statement-kept k items (and_parts (is_kinded_item flat_text (item.Using c)) (list_all (is_kinded_item flat_text) items) h).1 s i

  -- so each claim's body is whole
  claim-whole : (items : List FlatItem) → list_all (is_kinded_item flat_text) items ≡ true → (c : Claim) → Has (claims_of items) c → IsWhole flat_text.families c.body
  claim-whole [] h c i = elim i [ ]
  claim-whole (item.Act layer act ∷ items) h c i = claim-whole items (and_parts (is_kinded_item flat_text (item.Act layer act)) (list_all (is_kinded_item flat_text) items) h).1 c i
  claim-whole (item.Claim d ∷ items) h _ first =
      let own : is_kinded_item flat_text (item.Claim d) ≡ true = (and_parts (is_kinded_item flat_text (item.Claim d)) (list_all (is_kinded_item flat_text) items) h).0 in
      expr-whole flat_text (bound_by flat_text d.params) d.body (takes-some number (kind_in flat_text (bound_by flat_text d.params) d.body) (and_parts (are_binders flat_text [] d.params) (takes number (kind_in flat_text (bound_by flat_text d.params) d.body)) own).1)
  claim-whole (item.Claim d ∷ items) h c (later i) = claim-whole items (and_parts (is_kinded_item flat_text (item.Claim d)) (list_all (is_kinded_item flat_text) items) h).1 c i
  claim-whole (item.Split d ∷ items) h c i = claim-whole items (and_parts (is_kinded_item flat_text (item.Split d)) (list_all (is_kinded_item flat_text) items) h).1 c i
  claim-whole (item.Using d ∷ items) h c i = claim-whole items (and_parts (is_kinded_item flat_text (item.Using d)) (list_all (is_kinded_item flat_text) items) h).1 c i

  pub claims-whole : list_all (is_kinded_item flat_text) flat_text.items ≡ true → ReadsWholeInClaims (design_of_flat_text flat_text)
  claims-whole h claim i = claim-whole flat_text.items h claim i

  -- ---- the design

  part-whole : list_all (is_kinded_item flat_text) flat_text.items ≡ true → (kind : Kind) (head : Head) → IsWholePart (part_of kind head.family (set_of flat_text head.layer))
  part-whole h kind head =
      whole-first_part (map (λ (s : Statement). flat_of kind head.family s.place s.act) (set_of flat_text head.layer)) (λ p i.
      let r : (s : Statement) × Has (set_of flat_text head.layer) s × (p ≡ flat_of kind head.family s.place s.act) = Has-from_map (λ (s : Statement). flat_of kind head.family s.place s.act) (set_of flat_text head.layer) i in
      let there : Has (statements_of flat_text) r.0 = Has-kept (λ (s : Statement). is_one_layer head.layer s.layer) (statements_of flat_text) r.1 in
      subst IsWholePart (sym r.2) (whole_of kind head.family [] r.0.place r.0.act (statement-kept 0 flat_text.items h r.0 there)))

  pub definitions-whole : list_all (is_kinded_item flat_text) flat_text.items ≡ true → ReadsWholeInDefinitions (design_of_flat_text flat_text)
  definitions-whole h def i =
      let r : (head : Head) × Has (first_heads flat_text) head × (def ≡ def_of flat_text head) = Has-from_map (def_of flat_text) (first_heads flat_text) i in
      subst (λ (def : Def). IsWholeDef flat_text.families def) (sym r.2) (record { init = part-whole h Init r.0; next = part-whole h Next r.0; comb = part-whole h Comb r.0 })
