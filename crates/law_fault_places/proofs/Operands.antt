-- Operands made of operands within a number are within it, and so are the faults in types.
use Rattle.std.proofs.Common.{◌≡◌, ◌≤◌, ℕ, Bool, true, not, ◌||◌, List, [], ◌∷◌, ◌++◌, zip, Option, Some, None, nat_eq, nat_lt, refl, arith}
use Rattle.std.specs.List.{AllByRecursion, flat_map, list_any}
use Rattle.law_lists.proofs.Each.{each_flat_map, each_append}
use Rattle.smv_core.specs.declared.fault.Fault.{Fault}
use Rattle.smv_core.specs.declared.tree.Op.{Op}
use Rattle.smv_core.specs.declared.tree.Op.TheVariants.{Equal, Differ, Less, AtMost, Greater, AtLeast}
use Rattle.smv_core.specs.declared.tree.Span.{Span}
use Rattle.smv_core.specs.declared.tree.TypeExpr.{TypeExpr, Boolean, Range, Enum, Named, Array', Struct', end_of-TypeExpr, more_of-TypeExpr, Row_of-Field, end_of-Field, more_of-Field}
use Rattle.smv_mentions.specs.NameFaults.{place_if}
use Rattle.smv_mentions.specs.FirstFault.{faults_at}
use Rattle.law_designs.specs.Kinds.{Kind, no_kind, joins, joined, accepts, is_number, has_order, Operand, unless, takes_number, takes, alike_with, alike, ordered, first_at, number_at, of_numbers, of_alike, chosen, listed, stray_set}
use Rattle.law_designs.specs.Types.{Whole, Types, index_kind, is_reversed, range_faults, size_faults, is_index, index_faults, type_faults, field_faults}
use Rattle.law_designs.specs.References.{reference}
use Rattle.law_designs.specs.Operands.{compared, remainder}
use Rattle.law_fault_places.specs.TreePlaces.{TypeIsWithin, FieldsAreWithin}
use Rattle.law_fault_places.specs.FaultPlaces.{IsFaultOf}
use Rattle.law_fault_places.proofs.TreeLists.{zipped-all}
use Rattle.law_fault_places.proofs.Firsts.{faults-placed, placed-if}
use Rattle.law_fault_places.specs.KindFaultPlaces.{numbers_of_kinds}

module _ (n : ℕ) where
  abbrev pub IsWithin : Fault → Type 0
  IsWithin f = IsFaultOf numbers_of_kinds n f

  abbrev pub AreWithin : List Fault → Type 0
  AreWithin faults = AllByRecursion IsWithin faults

  pub both : (xs ys : List Fault) → AreWithin xs → AreWithin ys → AreWithin (xs ++ ys)
  both xs ys h g = each_append IsWithin xs ys h g

  -- a fault of these numbers where a rule is broken
  pub placed : (number : ℕ) → list_any (nat_eq number) numbers_of_kinds ≡ true → (b : Bool) (at : ℕ) → at ≤ n → AreWithin (faults_at (number, place_if b at))
  placed number e b at h = faults-placed numbers_of_kinds n number (place_if b at) e (placed-if n b at h)

  pub one-placed : (number : ℕ) → list_any (nat_eq number) numbers_of_kinds ≡ true → (at : ℕ) → at ≤ n → AreWithin (faults_at (number, at ∷ []))
  one-placed number e at h = faults-placed numbers_of_kinds n number (at ∷ []) e (h, tt)

  -- ---- operands

  pub record IsOperandWithin (e : Operand) : Type 0 where
    pub place : e.at ≤ n
    pub faults : AreWithin e.faults

  abbrev pub AreOperandsWithin : List Operand → Type 0
  AreOperandsWithin es = AllByRecursion IsOperandWithin es

  unless-within : (fits : Bool) (e : Operand) → IsOperandWithin e → AreWithin (unless fits e)
  unfolding unless
  unless-within fits e h = placed 12 refl (not fits) e.at h.place

  pub takes_number-within : (e : Operand) → IsOperandWithin e → AreWithin (takes_number e)
  unfolding takes_number
  takes_number-within e h = both e.faults (unless (is_number e.kind) e) h.faults (unless-within (is_number e.kind) e h)

  pub takes-within : (kind : Kind) (e : Operand) → IsOperandWithin e → AreWithin (takes kind e)
  unfolding takes
  takes-within kind e h = both e.faults (unless (accepts kind e.kind) e) h.faults (unless-within (accepts kind e.kind) e h)

  alike_with-within : (kind : Kind) (es : List Operand) → AreOperandsWithin es → AreWithin (alike_with kind es)
  unfolding alike_with
  alike_with-within kind [] h = tt
  alike_with-within kind (e ∷ more) h =
      both (e.faults ++ (unless (joins kind e.kind) e)) (alike_with (joined kind e.kind) more) (both e.faults (unless (joins kind e.kind) e) h.0.faults (unless-within (joins kind e.kind) e h.0)) (alike_with-within (joined kind e.kind) more h.1)

  pub alike-within : (es : List Operand) → AreOperandsWithin es → AreWithin (alike es)
  alike-within es h = alike_with-within no_kind es h

  first-within : (es : List Operand) → AreOperandsWithin es → first_at es ≤ n
  first-within [] h = omega arith
  first-within (e ∷ more) h = h.0.place

  pub numbers-within : (es : List Operand) → AreOperandsWithin es → IsOperandWithin (of_numbers es)
  numbers-within es h = record { place = first-within es h; faults = each_flat_map IsOperandWithin IsWithin takes_number takes_number-within es h }

  pub of_alike-within : (es : List Operand) → AreOperandsWithin es → IsOperandWithin (of_alike es)
  of_alike-within es h = record { place = first-within es h; faults = alike-within es h }

  pub chosen-within : (cond left right : Operand) → IsOperandWithin cond → IsOperandWithin left → IsOperandWithin right → IsOperandWithin (chosen cond left right)
  chosen-within cond left right c h g = record { place = c.place; faults = both (takes_number cond) (alike (left ∷ right ∷ [])) (takes_number-within cond c) (alike-within (left ∷ right ∷ []) (h, (g, tt))) }

  pub listed-within : (at : ℕ) (members : List Operand) → at ≤ n → AreOperandsWithin members → IsOperandWithin (listed at members)
  listed-within at members h g = record { place = h; faults = alike-within members g }

  pub stray-within : (at : ℕ) → at ≤ n → IsOperandWithin (stray_set at)
  stray-within at h = record { place = h; faults = one-placed 14 refl at h }

  ordered-within : (left right : Operand) → IsOperandWithin left → IsOperandWithin right → IsOperandWithin (number_at left.at (ordered left right))
  ordered-within left right h g = record {
    place = h.place;
    faults = both ((alike (left ∷ right ∷ [])) ++ (unless (has_order left.kind) left)) (unless (has_order right.kind) right) (both (alike (left ∷ right ∷ [])) (unless (has_order left.kind) left) (alike-within (left ∷ right ∷ []) (h, (g, tt))) (unless-within (has_order left.kind) left h)) (unless-within (has_order right.kind) right g);
  }

  pub compared-within : (op : Op) (left right : Operand) → IsOperandWithin left → IsOperandWithin right → IsOperandWithin (compared op left right)
  compared-within Equal left right h g = of_alike-within (left ∷ right ∷ []) (h, (g, tt))
  compared-within Differ left right h g = of_alike-within (left ∷ right ∷ []) (h, (g, tt))
  compared-within Less left right h g = ordered-within left right h g
  compared-within AtMost left right h g = ordered-within left right h g
  compared-within Greater left right h g = ordered-within left right h g
  compared-within AtLeast left right h g = ordered-within left right h g

  pub remainder-within : (e : Operand) (by at : ℕ) → IsOperandWithin e → at ≤ n → IsOperandWithin (remainder e by at)
  remainder-within e by at h g = record { place = h.place; faults = both (takes_number e) (faults_at (12, place_if (nat_eq by 0) at)) (takes_number-within e h) (placed 12 refl (nat_eq by 0) at g) }

  pub reference-within : (at : ℕ) (o : Option Whole) (indexes : List Operand) → at ≤ n → AreOperandsWithin indexes → IsOperandWithin (reference at o indexes)
  unfolding reference
  reference-within at None indexes h g = record {
    place = h;
    faults = both (faults_at (12, at ∷ [])) (flat_map (λ (e : Operand). e.faults) indexes) (one-placed 12 refl at h) (each_flat_map IsOperandWithin IsWithin (λ (e : Operand). e.faults) (λ e own. own.faults) indexes g);
  }
  reference-within at (Some w) indexes h g = record {
    place = h;
    faults = each_flat_map (λ (p : Kind × Operand). IsOperandWithin p.1) IsWithin (λ (p : Kind × Operand). takes p.0 p.1) (λ p own. takes-within p.0 p.1 own) (zip w.over indexes) (zipped-all IsOperandWithin w.over indexes g);
  }

  -- ---- types

  range-within : (span : Span) (at : ℕ) → at ≤ n → AreWithin (range_faults span at)
  range-within span at h = placed 13 refl (is_reversed span || nat_lt 255 span.high) at h

  pub size-within : (o : Option Span) (at : ℕ) → at ≤ n → AreWithin (size_faults o at)
  size-within None at h = tt
  size-within (Some span) at h = range-within span at h

  module _ (types : Types) where
    pub index-within : (t : TypeExpr) → TypeIsWithin n t → AreWithin (index_faults types t)
    unfolding index_faults
    index-within (Range span at) h = range-within span at h
    index-within (Named word at) h = placed 12 refl (not (is_index (index_kind types (Named word at)))) at h.1
    index-within Boolean h = tt
    index-within (Enum names at) h = tt
    index-within (Array' i index o of) h = tt
    index-within (Struct' shape fields) h = tt

    mutual
      unfolding type_faults field_faults

      pub type-within : (t : TypeExpr) → TypeIsWithin n t → AreWithin (type_faults types t)
      type-within (Range span at) h = range-within span at h
      type-within (Array' i (more_of-TypeExpr index end_of-TypeExpr) o (more_of-TypeExpr of end_of-TypeExpr)) h = both (index_faults types index) (type_faults types of) (index-within index h.0) (type-within of h.1)
      type-within (Struct' shape fields) h = fields-within fields h
      type-within Boolean h = tt
      type-within (Enum names at) h = tt
      type-within (Named word at) h = tt

      fields-within : {m : _} (row : Row_of-Field m) → FieldsAreWithin n row → AreWithin (field_faults types row)
      fields-within end_of-Field h = tt
      fields-within (more_of-Field names of at rest) h = both (type_faults types of) (field_faults types rest) (type-within of h.1) (fields-within rest h.3)
