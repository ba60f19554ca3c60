-- Each left side of a definition is that of an assignment in the statements from which it is made.
use Rattle.std.proofs.Common.{◌≡◌, ℕ, ◌+◌, List, [], ◌∷◌, ◌++◌, map, filter, Option, Bool, true, false, ◌&&◌, cond, nat_eq, refl, subst, inl, inr}
use Rattle.std.specs.List.{flat_map}
use Rattle.law_lists.proofs.Numbers.{nat_eq-is}
use Rattle.law_lists.proofs.Booleans.{left_of, right_of}
use Rattle.smv_core.specs.Walk.{same_kind}
use Rattle.smv_core.specs.Assignments.{Index}
use Rattle.smv_core.specs.FlatMeaning.{flat_index, indexes_assigned}
use Rattle.smv_core.specs.declared.tree.Kind.{Kind}
use Rattle.smv_core.specs.declared.tree.Kind.TheVariants.{Comb, Init, Next}
use Rattle.smv_core.specs.declared.flat.FlatStmt.{FlatStmt, Assign, If', Block', Default', Forall', Row_of-FlatStmt, end_of-FlatStmt, more_of-FlatStmt}
use Rattle.smv_core.specs.declared.flat.DefBody.{DefBody, Nothing}
use Rattle.smv_core.specs.declared.flat.DefBody as flat
use Rattle.law_designs.specs.WholeText.{is_one_layer}
use Rattle.law_obligations.specs.Sets.{Has, first, later}
use Rattle.law_obligations.proofs.Members.{Has-left, Has-right, Has-cases}
use Rattle.law_designs.specs.Standing.{count, Statement, Standing, standing, standing_in, assigned_by}
use Rattle.law_designs.specs.Definitions.{flat_of, flats_of}
use Rattle.law_designs.proofs.FlatParts.{indexes-first_part, indexes-branches, indexes-each_value}
use Rattle.law_designs.proofs.Descents.{one-is}

pub kind-is : (a b : Kind) → same_kind a b ≡ true → a ≡ b
kind-is Comb Comb e = refl
kind-is Init Init e = refl
kind-is Next Next e = refl
kind-is Comb Init e = absurd (cc (e))
kind-is Comb Next e = absurd (cc (e))
kind-is Init Comb e = absurd (cc (e))
kind-is Init Next e = absurd (cc (e))
kind-is Next Comb e = absurd (cc (e))
kind-is Next Init e = absurd (cc (e))

-- an assignment of this layer, kind and family with these indexes among some
pub record Comes (layer : Option ℕ) (kind : Kind) (family : ℕ) (all : List Standing) (is : List Index) : Type 0 where
  pub by : Standing
  pub among : Has all by
  pub layer_is : by.layer ≡ layer
  pub kind_is : by.kind ≡ kind
  pub family_is : by.family ≡ family
  pub indexes_are : map flat_index by.left ≡ is

module _ (layer : Option ℕ) (kind : Kind) (family : ℕ) where
  pub comes-left : (as' bs : List Standing) (is : List Index) → Comes layer kind family as' is → Comes layer kind family (as' ++ bs) is
  comes-left as' bs is c = record { by = c.by; among = Has-left bs c.among; layer_is = c.layer_is; kind_is = c.kind_is; family_is = c.family_is; indexes_are = c.indexes_are }

  pub comes-right : (as' bs : List Standing) (is : List Index) → Comes layer kind family bs is → Comes layer kind family (as' ++ bs) is
  comes-right as' bs is c = record { by = c.by; among = Has-right as' c.among; layer_is = c.layer_is; kind_is = c.kind_is; family_is = c.family_is; indexes_are = c.indexes_are }

  only : {X : Type 0} (x y : X) → Has (x ∷ []) y → x ≡ y
  only x y first = refl
  only x y (later h) = elim h [ ]

  from_one : (around : List ℕ) (which : Kind) (other : ℕ) (left : List _) (value : _) (at k : ℕ) (is : List Index) →
      (b : Bool) → (same_kind which kind && nat_eq other family) ≡ b → Has (indexes_assigned (cond b (flat.Assign left value k at) Nothing)) is →
      Comes layer kind family (record { layer = layer; kind = which; family = other; left = left; around = around; at = at } ∷ []) is
  from_one around which other left value at k is true e h = record {
    by = record { layer = layer; kind = which; family = other; left = left; around = around; at = at };
    among = first;
    layer_is = refl;
    kind_is = kind-is which kind (left_of (same_kind which kind) (nat_eq other family) e);
    family_is = nat_eq-is other family (right_of (same_kind which kind) (nat_eq other family) e);
    indexes_are = only (map flat_index left) is h;
  }
  from_one around which other left value at k is false e h = elim h [ ]

  mutual
    pub comes : (around : List ℕ) (k : ℕ) (act : FlatStmt) (is : List Index) → Has (indexes_assigned (flat_of kind family k act)) is → Comes layer kind family (standing layer around act) is
    comes around k (Assign which other left value at) is h = from_one around which other left value at k is (same_kind which kind && nat_eq other family) refl h
    comes around k (If' test l (more_of-FlatStmt left end_of-FlatStmt) r (more_of-FlatStmt right end_of-FlatStmt)) is h =
        elim (Has-cases (indexes_assigned (flat_of kind family k left)) (indexes_assigned (flat_of kind family (k + count left) right))
        (subst (λ l. Has l is) (indexes-branches test (flat_of kind family k left) (flat_of kind family (k + count left) right)) h)) [
          | inl p ↦ comes-left (standing layer around left) (standing layer around right) is (comes around k left is p)
          | inr p ↦ comes-right (standing layer around left) (standing layer around right) is (comes around (k + count left) right is p)
        ]
    comes around k (Block' shape parts) is h = comes_in around k parts is (subst (λ l. Has l is) (indexes-first_part (flats_of kind family k parts)) h)
    comes around k (Default' l (more_of-FlatStmt left end_of-FlatStmt) r (more_of-FlatStmt right end_of-FlatStmt)) is h =
        elim (Has-cases (indexes_assigned (flat_of kind family (k + count left) right)) (indexes_assigned (flat_of kind family k left) ++ [])
        (subst (λ l. Has l is) (indexes-first_part (flat_of kind family (k + count left) right ∷ flat_of kind family k left ∷ [])) h)) [
          | inl p ↦ comes-right (standing layer around left) (standing layer around right) is (comes around (k + count left) right is p)
          | inr p ↦ comes-left (standing layer around left) (standing layer around right) is (comes around k left is (elim (Has-cases (indexes_assigned (flat_of kind family k left)) [] p) [ inl q ↦ q | inr q ↦ elim q [ ] ]))
        ]
    comes around k (Forall' var over shape (more_of-FlatStmt body end_of-FlatStmt)) is h =
        comes (var ∷ around) k body is (subst (λ l. Has l is) (indexes-each_value var over (flat_of kind family k body)) h)

    pub comes_in : {m : _} (around : List ℕ) (k : ℕ) (parts : Row_of-FlatStmt m) (is : List Index) → Has (flat_map indexes_assigned (flats_of kind family k parts)) is → Comes layer kind family (standing_in layer around parts) is
    comes_in around k end_of-FlatStmt is h = elim h [ ]
    comes_in around k (more_of-FlatStmt part rest) is h =
        elim (Has-cases (indexes_assigned (flat_of kind family k part)) (flat_map indexes_assigned (flats_of kind family (k + count part) rest)) h) [
          | inl p ↦ comes-left (standing layer around part) (standing_in layer around rest) is (comes around k part is p)
          | inr p ↦ comes-right (standing layer around part) (standing_in layer around rest) is (comes_in around (k + count part) rest is p)
        ]

module _ (layer : Option ℕ) (kind : Kind) (family : ℕ) where
  abbrev pub part : Statement → DefBody
  part s = flat_of kind family s.place s.act

  abbrev pub chosen : List Statement → List Statement
  chosen set = filter (λ s. is_one_layer layer s.layer) set

  -- so it is for the statements of a layer
  pub comes_of : (set : List Statement) (is : List Index) → Has (flat_map indexes_assigned (map part (chosen set))) is → Comes layer kind family (flat_map assigned_by set) is
  comes_of [] is h = elim h [ ]
  comes_of (s ∷ set) is h = by_test (is_one_layer layer s.layer) refl h (λ k. comes_of set is k)
    where
      turned : (other : Option ℕ) → layer ≡ other → Comes layer kind family (standing layer [] s.act) is → Comes layer kind family (standing other [] s.act) is
      turned other e c = subst (λ l. Comes layer kind family (standing l [] s.act) is) e c

      by_test : (b : Bool) → is_one_layer layer s.layer ≡ b → Has (flat_map indexes_assigned (map part (cond b (s ∷ chosen set) (chosen set)))) is →
          (Has (flat_map indexes_assigned (map part (chosen set))) is → Comes layer kind family (flat_map assigned_by set) is) → Comes layer kind family (assigned_by s ++ flat_map assigned_by set) is
      by_test true e h rest =
          elim (Has-cases (indexes_assigned (part s)) (flat_map indexes_assigned (map part (chosen set))) h) [
            | inl p ↦ comes-left layer kind family (assigned_by s) (flat_map assigned_by set) is (turned s.layer (one-is layer s.layer e) (comes layer kind family [] s.place s.act is p))
            | inr p ↦ comes-right layer kind family (assigned_by s) (flat_map assigned_by set) is (rest p)
          ]
      by_test false e h rest = comes-right layer kind family (assigned_by s) (flat_map assigned_by set) is (rest h)
