-- What a reference may read, and the elements that an assignment may concern, have their places among the cells of the reference and of the assignment.
use Rattle.std.proofs.Common.{◌≡◌, ℕ, suc, ◌+◌, ◌-◌, ◌≤◌, List, [], ◌∷◌, map, zip, length, Bool, true, false, ◌&&◌, cond, refl, sym, ap, subst, Option, Some, None, slice_get, get_or, arith}
use Rattle.std.specs.List.{list_all}
use Rattle.law_lists.proofs.Booleans.{left_of, right_of}
use Rattle.smv_core.specs.Values.{Value, number, constant, scalar, ordinal, scalarset, ordset, Sizes, values_of, is_in, numbers_from}
use Rattle.smv_core.specs.Assignments.{Index, fixed, bare, computed, fits}
use Rattle.smv_core.specs.FlatMeaning.{Numbered, values_in, set_type}
use Rattle.smv_core.specs.declared.flat.Simple.{Simple}
use Rattle.smv_core.specs.declared.flat.Simple.TheVariants.{Range, Enum, Set}
use Rattle.smv_core.specs.declared.flat.SetInfo.{SetInfo}
use Rattle.smv_core.specs.declared.flat.Family.{Family}
use Rattle.smv_core.specs.declared.flat.Cell.{Cell}
use Rattle.law_obligations.specs.Sets.{Has, first, later, one_of_each}
use Rattle.law_obligations.specs.Soundness.{values_over}
use Rattle.law_obligations.proofs.Members.{Has-map, Has-from_map, Has-flat_map}
use Rattle.law_obligations.proofs.OneOfEach.{Has-from_flat_map}
use Rattle.law_obligations.proofs.Lookups.{Has-filter}
use Rattle.law_obligations.proofs.Same.{Has-is_in}
use Rattle.law_designs.specs.Loops.{is_constant, at_index, ways, cells_of}
use Rattle.law_flat_kinds.proofs.Lists.{is_in-Has}
use Rattle.law_sound_texts.proofs.Agreeing.{is_plain, MayBe}

-- what a cell has for a value of a type
abbrev pub at_type : Simple → Value → Option ℕ
at_type (Range low high) (number k) = Some k
at_type (Range low high) (constant c) = None
at_type (Range low high) (scalar t k) = None
at_type (Range low high) (ordinal t k) = None
at_type (Enum list) v = None
at_type (Set set) v = None

-- the cell of an element
abbrev pub cell_at : ℕ → List Simple → List Value → Cell
cell_at family over vs = record { family = family; indexes = map (λ (o, v). at_type o v) (zip over vs) }

-- ---- a value that is no number fits no constant

abbrev is_number : Value → Bool
is_number (number k) = true
is_number (constant c) = false
is_number (scalar t k) = false
is_number (ordinal t k) = false

no_constant : (i : Index) (v : Value) → is_number v ≡ false → fits i v ≡ true → is_plain i ≡ true → is_constant i ≡ false
no_constant (fixed None) v e h p = absurd (cc (h))
no_constant (fixed (Some (number k))) (number m) e h p = absurd (cc (e))
no_constant (fixed (Some (number k))) (constant c) e h p = absurd (cc (h))
no_constant (fixed (Some (number k))) (scalar t m) e h p = absurd (cc (h))
no_constant (fixed (Some (number k))) (ordinal t m) e h p = absurd (cc (h))
no_constant (fixed (Some (constant c))) v e h p = absurd (cc (p))
no_constant (fixed (Some (scalar t k))) v e h p = absurd (cc (p))
no_constant (fixed (Some (ordinal t k))) v e h p = absurd (cc (p))
no_constant (bare k) v e h p = refl
no_constant computed v e h p = refl

set_number : (sizes : Sizes) (o : Option SetInfo) (v : Value) → Has (values_of sizes (set_type o)) v → is_number v ≡ false
set_number sizes None v h = elim h [ ]
set_number sizes (Some info) v h = by_order info.ordered h
  where
    by_order : (b : Bool) → Has (values_of sizes (cond b (ordset info.name) (scalarset info.name))) v → is_number v ≡ false
    by_order true h = let r = Has-from_map (ordinal info.name) (numbers_from 0 (sizes info.name)) h in ap is_number r.2
    by_order false h = let r = Has-from_map (scalar info.name) (numbers_from 0 (sizes info.name)) h in ap is_number r.2

-- ---- cells

no_index : (b : Bool) → b ≡ false → Has {X = Option ℕ} (cond b [] (None ∷ [])) None
no_index true e = absurd (cc (e))
no_index false e = first

module _ (n : Numbered) where
  has_index : (o : Simple) (i : Index) (v : Value) → Has (values_in n o) v → fits i v ≡ true → is_plain i ≡ true → Has (at_index o i) (at_type o v)
  has_index (Range low high) i v h e p =
      let r : (k : ℕ) × Has (numbers_from low (high + 1 - low)) k × (v ≡ number k) = Has-from_map number (numbers_from low (high + 1 - low)) h in
      subst (λ v. Has (at_index (Range low high) i) (at_type (Range low high) v)) (sym r.2)
      (Has-map Some (Has-filter (λ k. fits i (number k)) r.1 (subst (λ v. fits i v ≡ true) r.2 e)))
  has_index (Enum list) i v h e p =
      let r = Has-from_map constant (get_or n.enums list []) h in
      no_index (is_constant i) (no_constant i v (ap is_number r.2) e p)
  has_index (Set set) i v h e p =
      no_index (is_constant i) (no_constant i v (set_number n.sizes (slice_get n.sets set) v h) e p)

  has_way : (over : List Simple) (is : List Index) (vs : List Value) → MayBe n over is vs → length vs ≡ length over →
      Has (ways (map (λ (over, i). at_index over i) (zip over is))) (map (λ (o, v). at_type o v) (zip over vs))
  has_way [] is [] m e = first
  has_way [] is (v ∷ vs) m e = elim m [ ]
  has_way (o ∷ over) [] [] m e = absurd (omega (arith, e))
  has_way (o ∷ over) [] (v ∷ vs) m e = elim m [ ]
  has_way (o ∷ over) (i ∷ is) [] m e = elim m [ ]
  has_way (o ∷ over) (i ∷ is) (v ∷ vs) m e =
      Has-flat_map (λ x. map (λ xs. x ∷ xs) (ways (map (λ (over, i). at_index over i) (zip over is)))) (has_index o i v m.0 m.1 m.2)
      (Has-map (λ xs. at_type o v ∷ xs) (has_way over is vs m.3 (omega (arith, e))))

  -- what a reference may read has its cell among those of the reference
  pub has_cell : (f : Family) (family : ℕ) (is : List Index) (vs : List Value) → MayBe n f.over is vs → length vs ≡ length f.over → Has (cells_of (Some f) family is) (cell_at family f.over vs)
  has_cell f family is vs m e = Has-map (λ (is : List (Option ℕ)). record { family = family; indexes = is }) (has_way f.over is vs m e)

  -- ---- elements

  -- an element has one value of each type of its indexes
  abbrev pub AreOver : List Simple → List Value → Type 0
  AreOver [] [] = Unit {0}
  AreOver [] (v ∷ vs) = ⊥
  AreOver (o ∷ over) [] = ⊥
  AreOver (o ∷ over) (v ∷ vs) = Has (values_in n o) v × AreOver over vs

  pub are_over : (over : List Simple) (vs : List Value) → Has (values_over n over) vs → AreOver over vs
  are_over [] _ first = tt
  are_over [] vs (later h) = elim h [ ]
  are_over (o ∷ over) vs h =
      let r : (v : Value) × Has (values_in n o) v × Has (map (λ ys. v ∷ ys) (one_of_each (map (values_in n) over))) vs = Has-from_flat_map (λ v. map (λ ys. v ∷ ys) (one_of_each (map (values_in n) over))) (values_in n o) h in
      let q : (ws : List Value) × Has (one_of_each (map (values_in n) over)) ws × (vs ≡ r.0 ∷ ws) = Has-from_map (λ ys. r.0 ∷ ys) (one_of_each (map (values_in n) over)) r.2 in
      subst (AreOver (o ∷ over)) (sym q.2) (r.1, are_over over q.0 q.1)

  pub over_long : (over : List Simple) (vs : List Value) → AreOver over vs → length vs ≡ length over
  over_long [] [] h = refl
  over_long [] (v ∷ vs) h = elim h [ ]
  over_long (o ∷ over) [] h = elim h [ ]
  over_long (o ∷ over) (v ∷ vs) h = ap suc (over_long over vs h.1)

  -- an element that fits the constants of a whole left side
  pub may_be : (over : List Simple) (is : List Index) (vs : List Value) → AreOver over vs → length over ≤ length is → list_all is_plain is ≡ true → list_all (λ (i, v). fits i v) (zip is vs) ≡ true → MayBe n over is vs
  may_be [] is [] a l p e = tt
  may_be [] is (v ∷ vs) a l p e = elim a [ ]
  may_be (o ∷ over) [] vs a l p e = absurd (omega (arith, l))
  may_be (o ∷ over) (i ∷ is) [] a l p e = elim a [ ]
  may_be (o ∷ over) (i ∷ is) (v ∷ vs) a l p e = (
    a.0,
    left_of (fits i v) (list_all (λ (i, v). fits i v) (zip is vs)) e,
    left_of (is_plain i) (list_all is_plain is) p,
    may_be over is vs a.1 (omega (arith, l)) (right_of (is_plain i) (list_all is_plain is) p) (right_of (fits i v) (list_all (λ (i, v). fits i v) (zip is vs)) e),
  )

  -- the same as a test
  abbrev pub is_over : List Simple → List Value → Bool
  is_over [] [] = true
  is_over [] (v ∷ vs) = false
  is_over (o ∷ over) [] = false
  is_over (o ∷ over) (v ∷ vs) = is_in (values_in n o) v && is_over over vs

  pub over-are : (over : List Simple) (vs : List Value) → is_over over vs ≡ true → AreOver over vs
  over-are [] [] e = tt
  over-are [] (v ∷ vs) e = absurd (cc (e))
  over-are (o ∷ over) [] e = absurd (cc (e))
  over-are (o ∷ over) (v ∷ vs) e = (Has-is_in (values_in n o) v (left_of (is_in (values_in n o) v) (is_over over vs) e), over-are over vs (right_of (is_in (values_in n o) v) (is_over over vs) e))

  pub are-over : (over : List Simple) (vs : List Value) → AreOver over vs → is_over over vs ≡ true
  are-over [] [] h = refl
  are-over [] (v ∷ vs) h = elim h [ ]
  are-over (o ∷ over) [] h = elim h [ ]
  are-over (o ∷ over) (v ∷ vs) h = rw (is_in-Has (values_in n o) v h.0) (are-over over vs h.1)

  pub over-Has : (over : List Simple) (vs : List Value) → AreOver over vs → Has (values_over n over) vs
  over-Has [] [] h = first
  over-Has [] (v ∷ vs) h = elim h [ ]
  over-Has (o ∷ over) [] h = elim h [ ]
  over-Has (o ∷ over) (v ∷ vs) h = Has-flat_map (λ v. map (λ ys. v ∷ ys) (one_of_each (map (values_in n) over))) h.0 (Has-map (λ ys. v ∷ ys) (over-Has over vs h.1))
