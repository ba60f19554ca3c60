-- The first assignment of a family in a flattened text stands in the first statement that assigns the family; and the definition made from it has an assignment.
use Rattle.std.proofs.Common.{◌≡◌, ℕ, ◌+◌, List, [], ◌∷◌, ◌++◌, map, find, zip, length, Option, Some, None, is_some, Bool, true, cond, nat_eq, refl, sym, ap, subst, ◌∙◌, inl, inr}
use Rattle.std.specs.List.{flat_map, list_any, list_all, AllZip}
use Rattle.std.specs.Option.{option_or}
use Rattle.std.proofs.lemmas.List.Folds.{find-append}
use Rattle.std.proofs.lemmas.Bool.{and_from}
use Rattle.smv_core.specs.Values.{numbers_from}
use Rattle.smv_core.specs.Walk.{same_kind}
use Rattle.smv_core.specs.Assignments.{Index, fits}
use Rattle.smv_core.specs.FlatMeaning.{FlatElement, indexes_assigned, indexes_assigned_in}
use Rattle.smv_core.specs.declared.tree.Kind.{Kind}
use Rattle.smv_core.specs.declared.tree.Kind.TheVariants.{Comb, Init, Next}
use Rattle.smv_core.specs.declared.flat.DefBody.{DefBody, Nothing, Assign, If', First', Forall', Row_of-DefBody, end_of-DefBody, more_of-DefBody}
use Rattle.smv_core.specs.declared.flat.FlatStmt.{FlatStmt, Row_of-FlatStmt, end_of-FlatStmt, more_of-FlatStmt}
use Rattle.smv_core.specs.declared.flat.FlatStmt as stmt
use Rattle.smv_core.specs.declared.flat.FlatText.{FlatText}
use Rattle.law_designs.specs.Flattening.{FlatAssigned, flat_assignments, flat_assignments_in}
use Rattle.law_designs.specs.FlatTextAllowed.{flat_concerns}
use Rattle.law_designs.specs.WholeText.{is_one_layer}
use Rattle.law_designs.specs.Standing.{Statement, statements_of, Standing, standing, standing_in, assigned_by}
use Rattle.law_designs.specs.Definitions.{flat_of, set_of, part_of, Head, head, heads_of, def_of}
use Rattle.law_designs.proofs.FlatParts.{indexes-first_part}
use Rattle.law_designs.proofs.SameResults.{concerned-same}
use Rattle.law_obligations.specs.Sets.{Has, first}
use Rattle.law_obligations.proofs.Members.{Has-left, Has-right, Has-cases, Has-map, Has-flat_map, any-found, any-some}
use Rattle.law_obligations.proofs.Lookups.{Has-filter}
use Rattle.law_obligations.proofs.Same.{nat_eq-itself}
use Rattle.law_designs.specs.Reading.{Reference, references, Reading, readings, readings_of}
use Rattle.law_designs.specs.LayerFaults.{assignments_of}
use Rattle.law_sound_texts.proofs.FirstFound.{FindAlike, find-zip, zip-append, any-is-find}

-- ---- the assignments of a statement, in three forms

-- an assignment by its layer and family
abbrev pub IsOne : Option ℕ → Standing → FlatAssigned → Type 0
IsOne layer a b = (a.layer ≡ layer) × (a.family ≡ b.family)

abbrev IsOneHead : Option ℕ → Head → FlatAssigned → Type 0
IsOneHead layer h b = (h.layer ≡ layer) × (h.family ≡ b.family)

module _ (layer : Option ℕ) where
  mutual
    pub standing-one : (around : List ℕ) (act : FlatStmt) → AllZip (IsOne layer) (standing layer around act) (flat_assignments act)
    standing-one around (stmt.Assign kind family left value at) = ((refl, refl), tt)
    standing-one around (stmt.If' cond l (more_of-FlatStmt left end_of-FlatStmt) r (more_of-FlatStmt right end_of-FlatStmt)) =
        zip-append (IsOne layer) (standing layer around left) (flat_assignments left) (standing layer around right) (flat_assignments right) (standing-one around left) (standing-one around right)
    standing-one around (stmt.Block' shape parts) = standing-each around parts
    standing-one around (stmt.Default' l (more_of-FlatStmt left end_of-FlatStmt) r (more_of-FlatStmt right end_of-FlatStmt)) =
        zip-append (IsOne layer) (standing layer around left) (flat_assignments left) (standing layer around right) (flat_assignments right) (standing-one around left) (standing-one around right)
    standing-one around (stmt.Forall' var over shape (more_of-FlatStmt body end_of-FlatStmt)) = standing-one (var ∷ around) body

    standing-each : {m : _} (around : List ℕ) (parts : Row_of-FlatStmt m) → AllZip (IsOne layer) (standing_in layer around parts) (flat_assignments_in parts)
    standing-each around end_of-FlatStmt = tt
    standing-each around (more_of-FlatStmt part rest) =
        zip-append (IsOne layer) (standing layer around part) (flat_assignments part) (standing_in layer around rest) (flat_assignments_in rest) (standing-one around part) (standing-each around rest)

  heads-one : (as' : List Standing) (bs : List FlatAssigned) (k : ℕ) → AllZip (IsOne layer) as' bs → AllZip (IsOneHead layer) (map (λ (a, k). head a k) (zip as' (numbers_from k (length bs)))) bs
  heads-one [] [] k h = tt
  heads-one [] (b ∷ bs) k h = elim h [ ]
  heads-one (a ∷ as') [] k h = elim h [ ]
  heads-one (a ∷ as') (b ∷ bs) k h = (h.0, heads-one as' bs (k + 1) h.1)

-- ---- the first assignment of a family

-- it stands in the statement's layer
abbrev pub IsAt : Head → Statement → Type 0
IsAt h s = h.layer ≡ s.layer

module _ (family : ℕ) where
  abbrev pub is_head_of : Head → Bool
  is_head_of h = nat_eq h.family family

  abbrev pub assigns : Statement → Bool
  assigns s = list_any (λ (a : FlatAssigned). nat_eq a.family family) (flat_assignments s.act)

  pub first-head : (set : List Statement) → FindAlike IsAt (find is_head_of (flat_map heads_of set)) (find assigns set)
  first-head [] = tt
  first-head (s ∷ set) =
      let own = find-zip (IsOneHead s.layer) is_head_of (λ (a : FlatAssigned). nat_eq a.family family) (λ h a is. ap (λ k. nat_eq k family) is.1) (heads_of s) (flat_assignments s.act) (heads-one s.layer (assigned_by s) (flat_assignments s.act) s.place (standing-one s.layer [] s.act)) in
      subst (λ o. FindAlike IsAt o (cond (assigns s) (Some s) (find assigns set))) (sym (find-append is_head_of (heads_of s) (flat_map heads_of set)))
      (subst (λ b. FindAlike IsAt (option_or (find is_head_of (heads_of s)) (find is_head_of (flat_map heads_of set))) (cond b (Some s) (find assigns set))) (sym (any-is-find (λ (a : FlatAssigned). nat_eq a.family family) (flat_assignments s.act)))
      (by_found (find is_head_of (heads_of s)) (find (λ (a : FlatAssigned). nat_eq a.family family) (flat_assignments s.act)) own (first-head set)))
    where
      by_found : (o : Option Head) (p : Option FlatAssigned) → FindAlike (IsOneHead s.layer) o p → FindAlike IsAt (find is_head_of (flat_map heads_of set)) (find assigns set) →
          FindAlike IsAt (option_or o (find is_head_of (flat_map heads_of set))) (cond (is_some p) (Some s) (find assigns set))
      by_found None None h rest = rest
      by_found None (Some a) h rest = elim h [ ]
      by_found (Some g) None h rest = elim h [ ]
      by_found (Some g) (Some a) h rest = h.0

-- ---- a definition has an assignment

-- an assignment of a part is among those that are read
module _ (family : ℕ) where
  abbrev IsRead : List Reading → Type 0
  IsRead all = (a : Reading) × Has all a

  read-left : (as' bs : List Reading) → IsRead as' → IsRead (as' ++ bs)
  read-left as' bs r = (r.0, Has-left bs r.1)

  read-right : (as' bs : List Reading) → IsRead bs → IsRead (as' ++ bs)
  read-right as' bs r = (r.0, Has-right as' r.1)

  mutual
    is-read : (around : List Reference) (part : DefBody) (is : List Index) → Has (indexes_assigned part) is → IsRead (readings family around part)
    is-read around Nothing is h = elim h [ ]
    is-read around (Assign left value place at) is h = (_, first)
    is-read around (If' test l (more_of-DefBody left end_of-DefBody) r (more_of-DefBody right end_of-DefBody)) is h = elim (Has-cases (indexes_assigned left) (indexes_assigned right) h) [
      | inl k ↦ read-left (readings family (around ++ references test) left) (readings family (around ++ references test) right) (is-read (around ++ references test) left is k)
      | inr k ↦ read-right (readings family (around ++ references test) left) (readings family (around ++ references test) right) (is-read (around ++ references test) right is k)
    ]
    is-read around (First' shape parts) is h = are-read around parts is h
    is-read around (Forall' var over shape (more_of-DefBody body end_of-DefBody)) is h = is-read around body is h

    are-read : {m : _} (around : List Reference) (parts : Row_of-DefBody m) (is : List Index) → Has (indexes_assigned_in parts) is → IsRead (readings_of family around parts)
    are-read around end_of-DefBody is h = elim h [ ]
    are-read around (more_of-DefBody part rest) is h = elim (Has-cases (indexes_assigned part) (indexes_assigned_in rest) h) [
      | inl k ↦ read-left (readings family around part) (readings_of family around rest) (is-read around part is k)
      | inr k ↦ read-right (readings family around part) (readings_of family around rest) (are-read around rest is k)
    ]

module _ (flat_text : FlatText) (h : Head) (s : Statement) (there : Has (statements_of flat_text) s) (here : h.layer ≡ s.layer) where
  abbrev x : FlatElement
  x = record { family = h.family; indexes = [] }

  all-fit : (is : List Index) → list_all (λ (i, v). fits i v) (zip is []) ≡ true
  all-fit [] = refl
  all-fit (i ∷ is) = refl

  kind-itself : (kind : Kind) → same_kind kind kind ≡ true
  kind-itself Comb = refl
  kind-itself Init = refl
  kind-itself Next = refl

  layer-itself : (o : Option ℕ) → is_one_layer o o ≡ true
  layer-itself None = refl
  layer-itself (Some k) = nat_eq-itself k

  -- one of the assignment's kind
  part-read : (a : FlatAssigned) → Has (flat_assignments s.act) a → nat_eq a.family h.family ≡ true → IsRead h.family (readings h.family [] (part_of a.kind h.family (set_of flat_text h.layer)))
  part-read a m e =
      let concerned : list_any (flat_concerns a.kind x) (flat_assignments s.act) ≡ true =
      any-found (flat_concerns a.kind x) m (and_from (same_kind a.kind a.kind) _ (kind-itself a.kind) (and_from (nat_eq a.family h.family) _ e (all-fit a.indexes))) in
      let is : (is : List Index) × Has (indexes_assigned (flat_of a.kind h.family s.place s.act)) is × (list_all (λ (i, v). fits i v) (zip is []) ≡ true) =
      any-some (λ is. list_all (λ (i, v). fits i v) (zip is [])) (indexes_assigned (flat_of a.kind h.family s.place s.act)) (concerned-same x a.kind s.place s.act ∙ concerned) in
      let own : Has (set_of flat_text h.layer) s = Has-filter (λ (s : Statement). is_one_layer h.layer s.layer) there (subst (λ l. is_one_layer h.layer l ≡ true) here (layer-itself h.layer)) in
      is-read h.family [] (part_of a.kind h.family (set_of flat_text h.layer)) is.0
      (subst (λ l. Has l is.0) (sym (indexes-first_part (map (λ (s : Statement). flat_of a.kind h.family s.place s.act) (set_of flat_text h.layer))))
      (Has-flat_map indexes_assigned (Has-map (λ (s : Statement). flat_of a.kind h.family s.place s.act) own) is.1))

  abbrev part : Kind → List Reading
  part kind = readings h.family [] (part_of kind h.family (set_of flat_text h.layer))

  pub has_assignment : assigns h.family s ≡ true → (a : Reading) × Has (assignments_of (def_of flat_text h)) a
  has_assignment e =
      let a : (a : FlatAssigned) × Has (flat_assignments s.act) a × (nat_eq a.family h.family ≡ true) = any-some (λ (a : FlatAssigned). nat_eq a.family h.family) (flat_assignments s.act) e in
      by_kind a.0.kind (part-read a.0 a.1 a.2)
    where
      by_kind : (kind : Kind) → IsRead h.family (part kind) → IsRead h.family (part Init ++ part Next ++ part Comb)
      by_kind Init r = (r.0, Has-left (part Comb) (Has-left (part Next) r.1))
      by_kind Next r = (r.0, Has-left (part Comb) (Has-right (part Init) r.1))
      by_kind Comb r = (r.0, Has-right (part Init ++ part Next) r.1)
