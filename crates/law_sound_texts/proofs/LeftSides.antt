-- The left sides of a definition are those of the statements from which it is made.
use Rattle.std.proofs.Common.{◌≡◌, ℕ, ◌+◌, ◌≤◌, List, [], ◌∷◌, ◌++◌, map, filter, length, Option, Some, None, Bool, true, false, not, ◌&&◌, cond, nat_eq, refl, sym, ap, subst, inl, inr, slice_get, arith}
use Rattle.law_lists.proofs.Booleans.{right_of}
use Rattle.law_lists.proofs.Numbers.{nat_eq-is}
use Rattle.smv_core.specs.Walk.{same_kind}
use Rattle.smv_core.specs.FlatMeaning.{flat_index}
use Rattle.smv_core.specs.declared.tree.Kind.{Kind}
use Rattle.smv_core.specs.declared.tree.Kind.TheVariants.{Comb, Init, Next}
use Rattle.smv_core.specs.declared.flat.Simple.{Simple}
use Rattle.smv_core.specs.declared.flat.Family.{Family}
use Rattle.smv_core.specs.declared.flat.FlatExpr.{FlatExpr}
use Rattle.smv_core.specs.declared.flat.FlatStmt.{FlatStmt, Assign, If', Block', Default', Forall', Row_of-FlatStmt, end_of-FlatStmt, more_of-FlatStmt}
use Rattle.smv_core.specs.declared.flat.DefBody.{DefBody, Nothing, If, First, Forall, First', Row_of-DefBody, end_of-DefBody, more_of-DefBody, items-the_row-DefBody, items_hidden-the_row-DefBody-1}
use Rattle.smv_core.specs.declared.flat.DefBody as flat
use Rattle.smv_core.specs.declared.flat.Def.{Def}
use Rattle.smv_core.specs.declared.flat.FlatText.{FlatText}
use Rattle.law_designs.specs.WholeText.{is_one_layer}
use Rattle.law_designs.specs.Standing.{count, Statement, statements_of, Standing, standing, standing_in, assigned_by}
use Rattle.law_designs.specs.Definitions.{is_nothing, joined, first_part, flat_of, flats_of, set_of, part_of, Head, def_of, first_heads, design_of_flat_text}
use Rattle.law_designs.specs.Laws.{index_count}
use Rattle.law_obligations.specs.Sets.{Has, first, later}
use Rattle.law_obligations.proofs.Members.{Has-left, Has-right, Has-cases, Has-from_map, Has-flat_map}
use Rattle.law_obligations.proofs.Lookups.{Has-from_filter}
use Rattle.law_designs.specs.Reading.{Reference, references, Reading, readings, readings_of}
use Rattle.law_designs.specs.LayerFaults.{assignments_of}
use Rattle.law_sound_texts.specs.Extension.{HasWholeLeftSides, FlatTextHasWholeLeftSides}
use mathlib.Core.Former.{Count}

-- what lets a box of a definition's part compute
unfoldable boxes : Unit {0}
unfolding Rattle.smv_core.specs.declared.flat.DefBody.TheBlock.hidden-the_row-DefBody-0 Rattle.smv_core.specs.declared.flat.DefBody.TheBlock.shape-the_row-DefBody-0 denote.Hole.Carrier.hidden
boxes = tt

module _ (n : ℕ) where
  abbrev mutual
    -- each left side has at least so many indexes
    AreLong : DefBody → Type 0
    AreLong Nothing = Unit {0}
    AreLong (flat.Assign left value place at) = n ≤ length left
    AreLong (flat.If' test l (more_of-DefBody left end_of-DefBody) r (more_of-DefBody right end_of-DefBody)) = AreLong left × AreLong right
    AreLong (First' shape parts) = RowIsLong parts
    AreLong (flat.Forall' var over shape (more_of-DefBody body end_of-DefBody)) = AreLong body

    RowIsLong : {m : _} → Row_of-DefBody m → Type 0
    RowIsLong end_of-DefBody = Unit {0}
    RowIsLong (more_of-DefBody part rest) = AreLong part × RowIsLong rest

  map_long : {X Y : Type 0} (f : X → Y) (xs : List X) → length (map f xs) ≡ length xs
  map_long f [] = refl
  map_long f (x ∷ xs) = let e = map_long f xs in omega (arith, e)

  module _ (family : ℕ) where
    mutual
      reading_long : (around : List Reference) (def : DefBody) → AreLong def → (a : Reading) → Has (readings family around def) a → n ≤ length a.left
      reading_long around Nothing l a h = elim h [ ]
      reading_long around (flat.Assign left value place at) l a h = at_one a h
        where
          at_one : (a : Reading) → Has (readings family around (flat.Assign left value place at)) a → n ≤ length a.left
          at_one _ first = subst (λ k. n ≤ k) (sym (map_long flat_index left)) l
          at_one a (later h) = elim h [ ]
      reading_long around (flat.If' test l (more_of-DefBody left end_of-DefBody) r (more_of-DefBody right end_of-DefBody)) p a h =
          elim (Has-cases (readings family (around ++ references test) left) (readings family (around ++ references test) right) h) [
            | inl k ↦ reading_long (around ++ references test) left p.0 a k
            | inr k ↦ reading_long (around ++ references test) right p.1 a k
          ]
      reading_long around (First' shape parts) p a h = row_long around parts p a h
      reading_long around (flat.Forall' var over shape (more_of-DefBody body end_of-DefBody)) p a h = reading_long around body p a h

      row_long : {m : _} (around : List Reference) (parts : Row_of-DefBody m) → RowIsLong parts → (a : Reading) → Has (readings_of family around parts) a → n ≤ length a.left
      row_long around end_of-DefBody p a h = elim h [ ]
      row_long around (more_of-DefBody part rest) p a h =
          elim (Has-cases (readings family around part) (readings_of family around rest) h) [ inl k ↦ reading_long around part p.0 a k | inr k ↦ row_long around rest p.1 a k ]

  -- ---- parts of a definition

  abbrev EachIsLong : List DefBody → Type 0
  EachIsLong parts = (p : DefBody) → Has parts p → AreLong p

  long-row : (k : _) (row : Row_of-DefBody k) → EachIsLong (items-the_row-DefBody k row) → RowIsLong row
  long-row k end_of-DefBody h = tt
  long-row k (more_of-DefBody p rest) h = (h p first, long-row _ rest (λ q i. h q (later i)))

  abbrev rows_of : DefBody → (k : Count) × Row_of-DefBody k
  rows_of (First' shape row) = (_, row)
  rows_of _ = (_, end_of-DefBody)

  long-First : (parts : List DefBody) → EachIsLong parts → AreLong (First parts)
  long-First parts h = let row : (k : Count) × Row_of-DefBody k = rows_of (First parts) in long-row row.0 row.1 (subst EachIsLong (sym (items_hidden-the_row-DefBody-1 parts)) h)

  long-If : (test : FlatExpr) (p q : DefBody) → AreLong p → AreLong q → AreLong (If test p q)
  unfolding boxes
  long-If test p q h k = (h, k)

  long-Forall : (var : ℕ) (over : Simple) (p : DefBody) → AreLong p → AreLong (Forall var over p)
  unfolding boxes
  long-Forall var over p h = h

  long-joined : (parts : List DefBody) → EachIsLong parts → AreLong (joined parts)
  long-joined [] h = tt
  long-joined (p ∷ []) h = h p first
  long-joined (p ∷ q ∷ more) h = long-First (p ∷ q ∷ more) h

  long-first_part : (parts : List DefBody) → EachIsLong parts → AreLong (first_part parts)
  long-first_part parts h = long-joined (filter (λ p. not (is_nothing p)) parts) (λ p k. h p (Has-from_filter (λ p. not (is_nothing p)) parts k).0)

  long-cond : (b : Bool) (p q : DefBody) → AreLong p → AreLong q → AreLong (cond b p q)
  long-cond true p q h k = h
  long-cond false p q h k = k

-- ---- statements

module _ (flat_text : FlatText) (kind : Kind) (family : ℕ) (layer : Option ℕ) where
  -- each left side of these assignments is whole
  abbrev AreWhole : List Standing → Type 0
  AreWhole all = (a : Standing) → Has all a → index_count flat_text a.family ≤ length a.left

  abbrev IsLong : DefBody → Type 0
  IsLong p = AreLong (index_count flat_text family) p

  mutual
    long_of : (around : List ℕ) (k : ℕ) (act : FlatStmt) → AreWhole (standing layer around act) → IsLong (flat_of kind family k act)
    long_of around k (Assign which other left value at) h = by_test (same_kind which kind && nat_eq other family) refl
      where
        by_test : (b : Bool) → (same_kind which kind && nat_eq other family) ≡ b → IsLong (cond b (flat.Assign left value k at) Nothing)
        by_test true e = subst (λ j. index_count flat_text j ≤ length left) (nat_eq-is other family (right_of (same_kind which kind) (nat_eq other family) e)) (h _ first)
        by_test false e = tt
    long_of around k (If' test l (more_of-FlatStmt left end_of-FlatStmt) r (more_of-FlatStmt right end_of-FlatStmt)) h =
        long-cond (index_count flat_text family) (is_nothing (flat_of kind family k left) && is_nothing (flat_of kind family (k + count left) right)) Nothing (If test (flat_of kind family k left) (flat_of kind family (k + count left) right)) tt
        (long-If (index_count flat_text family) test (flat_of kind family k left) (flat_of kind family (k + count left) right) (long_of around k left (λ a i. h a (Has-left (standing layer around right) i)))
        (long_of around (k + count left) right (λ a i. h a (Has-right (standing layer around left) i))))
    long_of around k (Block' shape parts) h = long-first_part (index_count flat_text family) (flats_of kind family k parts) (long_in around k parts h)
    long_of around k (Default' l (more_of-FlatStmt left end_of-FlatStmt) r (more_of-FlatStmt right end_of-FlatStmt)) h =
        long-first_part (index_count flat_text family) (flat_of kind family (k + count left) right ∷ flat_of kind family k left ∷ [])
        (two (flat_of kind family (k + count left) right) (flat_of kind family k left) (long_of around (k + count left) right (λ a i. h a (Has-right (standing layer around left) i))) (long_of around k left (λ a i. h a (Has-left (standing layer around right) i))))
      where
        two : (p q : DefBody) → IsLong p → IsLong q → (r : DefBody) → Has (p ∷ q ∷ []) r → IsLong r
        two p q x y _ first = x
        two p q x y _ (later first) = y
        two p q x y r (later (later i)) = elim i [ ]
    long_of around k (Forall' var over shape (more_of-FlatStmt body end_of-FlatStmt)) h =
        long-cond (index_count flat_text family) (is_nothing (flat_of kind family k body)) Nothing (Forall var over (flat_of kind family k body)) tt
        (long-Forall (index_count flat_text family) var over (flat_of kind family k body) (long_of (var ∷ around) k body h))

    long_in : {m : _} (around : List ℕ) (k : ℕ) (parts : Row_of-FlatStmt m) → AreWhole (standing_in layer around parts) → (p : DefBody) → Has (flats_of kind family k parts) p → IsLong p
    long_in around k end_of-FlatStmt h p i = elim i [ ]
    long_in around k (more_of-FlatStmt part rest) h p i =
        one_of (flat_of kind family k part) (flats_of kind family (k + count part) rest) (long_of around k part (λ a j. h a (Has-left (standing_in layer around rest) j)))
        (long_in around (k + count part) rest (λ a j. h a (Has-right (standing layer around part) j))) p i
      where
        one_of : (q : DefBody) (qs : List DefBody) → IsLong q → ((p : DefBody) → Has qs p → IsLong p) → (p : DefBody) → Has (q ∷ qs) p → IsLong p
        one_of q qs x rest _ first = x
        one_of q qs x rest p (later i) = rest p i

-- ---- the design

module _ (flat_text : FlatText) (whole : FlatTextHasWholeLeftSides flat_text) where
  part_long : (kind : Kind) (head : Head) → AreLong (index_count flat_text head.family) (part_of kind head.family (set_of flat_text head.layer))
  part_long kind head =
      long-first_part (index_count flat_text head.family) (map (λ (s : Statement). flat_of kind head.family s.place s.act) (set_of flat_text head.layer)) (λ p i.
      let r : (s : Statement) × Has (set_of flat_text head.layer) s × (p ≡ flat_of kind head.family s.place s.act) = Has-from_map (λ (s : Statement). flat_of kind head.family s.place s.act) (set_of flat_text head.layer) i in
      let there : Has (statements_of flat_text) r.0 × (is_one_layer head.layer r.0.layer ≡ true) = Has-from_filter (λ (s : Statement). is_one_layer head.layer s.layer) (statements_of flat_text) r.1 in
      subst (AreLong (index_count flat_text head.family)) (sym r.2) (long_of flat_text kind head.family r.0.layer [] r.0.place r.0.act (λ a j. whole a (Has-flat_map assigned_by there.0 j))))

  part_whole : (head : Head) (a : Reading) → Has (assignments_of (def_of flat_text head)) a → index_count flat_text head.family ≤ length a.left
  part_whole head a h =
      let def : Def = def_of flat_text head in
      elim (Has-cases (readings def.family [] def.init ++ readings def.family [] def.next) (readings def.family [] def.comb) h) [
        | inl k ↦ elim (Has-cases (readings def.family [] def.init) (readings def.family [] def.next) k) [
          | inl m ↦ reading_long (index_count flat_text head.family) head.family [] def.init (part_long Init head) a m
          | inr m ↦ reading_long (index_count flat_text head.family) head.family [] def.next (part_long Next head) a m
        ]
        | inr k ↦ reading_long (index_count flat_text head.family) head.family [] def.comb (part_long Comb head) a k
      ]

  abbrev count_of : Option Family → ℕ
  count_of None = 0
  count_of (Some f) = length f.over

  count-is : (family : ℕ) (f : Family) → slice_get flat_text.families family ≡ Some f → index_count flat_text family ≡ length f.over
  count-is family f e = ap count_of e

  pub whole_design : HasWholeLeftSides (design_of_flat_text flat_text)
  whole_design def k f there a h =
      let r : (head : Head) × Has (first_heads flat_text) head × (def ≡ def_of flat_text head) = Has-from_map (def_of flat_text) (first_heads flat_text) k in
      subst (λ n. n ≤ length a.left) (count-is r.0.family f (subst (λ (def : Def). slice_get flat_text.families def.family ≡ Some f) r.2 there)) (part_whole r.0 a (subst (λ (def : Def). Has (assignments_of def) a) r.2 h))
