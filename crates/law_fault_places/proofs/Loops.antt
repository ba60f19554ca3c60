-- The first fault of loops and layers stands at a place of the design.
use Rattle.std.proofs.Common.{◌≤◌, ℕ, Bool, true, false, cond, List, [], ◌∷◌, ◌++◌, filter, slice_get, is_none, nat_lt, IfSome, refl}
use Rattle.std.specs.List.{AllByRecursion, flat_map}
use Rattle.law_lists.proofs.Each.{each_flat_map, each_filter, each_append}
use Rattle.smv_core.specs.declared.flat.FlatMember.{One, Span as SpanOf}
use Rattle.smv_core.specs.declared.flat.FlatExpr.{FlatExpr, Number, Read', Var, Loop, Constant, Not', And', Or', Implies', Iff', Compare', Within', Sum', Modulo', Choose', All', Any', List', Each', Held-FlatExpr-Each-2, None', Some', Row_of-FlatExpr, end_of-FlatExpr, more_of-FlatExpr, Row_of-FlatMember, end_of-FlatMember, more_of-FlatMember, Row_of-FlatSigned, end_of-FlatSigned, more_of-FlatSigned}
use Rattle.smv_core.specs.declared.flat.DefBody.{DefBody, Nothing, Assign, If', First', Forall', Row_of-DefBody, end_of-DefBody, more_of-DefBody}
use Rattle.smv_core.specs.declared.flat.Def.{Def}
use Rattle.smv_core.specs.declared.flat.Design.{Design}
use Rattle.law_designs.specs.Reading.{Reference, references, references_of, references_signed, references_members, references_held, Reading, readings, readings_of}
use Rattle.law_designs.specs.Loops.{is_base, Edge, edges_of, hold_a_cycle, put, in_order, undelayed, undelayed_in, closing, looping}
use Rattle.law_designs.specs.LayerFaults.{assignments_of, is_abstract, outside_layers, leaking, assigned_outside}
use Rattle.law_designs.specs.FirstFault.{faults_of_loops, first_fault_of_loops, faults_of_layers, first_fault_of_layers, first_fault_of_design}
use Rattle.law_designs.proofs.Faultless.{each-map}
use Rattle.law_fault_places.specs.FaultPlaces.{IsFaultOf}
use Rattle.law_fault_places.proofs.Firsts.{first-one, either-one, AreUpTo, faults-placed, lists-placed}
use Rattle.law_fault_places.specs.FlatPlaces.{FlatExprIsWithin, FlatRowIsWithin, FlatTermsAreWithin, FlatMembersAreWithin, FlatConditionIsWithin, PartOfIsWithin, PartsOfAreWithin, DefIsWithin, DesignIsWithin}
use Rattle.law_fault_places.specs.DesignFaultPlaces.{numbers_of_designs}

module _ (n : ℕ) where
  -- ---- what is read

  abbrev ReferenceIsWithin : Reference → Type 0
  ReferenceIsWithin r = r.at ≤ n

  abbrev ReferencesAreWithin : List Reference → Type 0
  ReferencesAreWithin rs = AllByRecursion ReferenceIsWithin rs

  join : (xs ys : List Reference) → ReferencesAreWithin xs → ReferencesAreWithin ys → ReferencesAreWithin (xs ++ ys)
  join xs ys h g = each_append ReferenceIsWithin xs ys h g

  mutual
    references-within : (e : FlatExpr) → FlatExprIsWithin n e → ReferencesAreWithin (references e)
    references-within (Number value at) h = tt
    references-within (Read' family shape indexes at) h = (h.0, row-within indexes h.1)
    references-within (Var var at) h = tt
    references-within (Loop value at) h = tt
    references-within (Constant list value at) h = tt
    references-within (Not' shape (more_of-FlatExpr e end_of-FlatExpr) at) h = references-within e h.1
    references-within (And' shape parts) h = row-within parts h
    references-within (Or' shape parts) h = row-within parts h
    references-within (Implies' shape parts) h = row-within parts h
    references-within (Iff' l (more_of-FlatExpr left end_of-FlatExpr) r (more_of-FlatExpr right end_of-FlatExpr)) h = join (references left) (references right) (references-within left h.0) (references-within right h.1)
    references-within (Compare' op l (more_of-FlatExpr left end_of-FlatExpr) r (more_of-FlatExpr right end_of-FlatExpr)) h = join (references left) (references right) (references-within left h.0) (references-within right h.1)
    references-within (Within' l (more_of-FlatExpr left end_of-FlatExpr) r (more_of-FlatExpr set end_of-FlatExpr)) h = join (references left) (references set) (references-within left h.0) (references-within set h.1)
    references-within (Sum' f (more_of-FlatExpr head end_of-FlatExpr) shape more) h = join (references head) (references_signed more) (references-within head h.0) (signed-within more h.1)
    references-within (Modulo' shape (more_of-FlatExpr e end_of-FlatExpr) by at) h = references-within e h.1
    references-within (Choose' c (more_of-FlatExpr cond end_of-FlatExpr) l (more_of-FlatExpr left end_of-FlatExpr) r (more_of-FlatExpr right end_of-FlatExpr)) h =
        join ((references cond) ++ (references left)) (references right) (join (references cond) (references left) (references-within cond h.0) (references-within left h.1)) (references-within right h.2)
    references-within (All' shape (more_of-FlatExpr body end_of-FlatExpr) var over at) h = references-within body h.1
    references-within (Any' shape (more_of-FlatExpr body end_of-FlatExpr) var over at) h = references-within body h.1
    references-within (List' shape members at) h = members-within members h.1
    references-within (Each' var over cond at) h = held-within cond h.1

    row-within : {m : _} (row : Row_of-FlatExpr m) → FlatRowIsWithin n row → ReferencesAreWithin (references_of row)
    row-within end_of-FlatExpr h = tt
    row-within (more_of-FlatExpr e rest) h = join (references e) (references_of rest) (references-within e h.0) (row-within rest h.1)

    signed-within : {m : _} (row : Row_of-FlatSigned m) → FlatTermsAreWithin n row → ReferencesAreWithin (references_signed row)
    signed-within end_of-FlatSigned h = tt
    signed-within (more_of-FlatSigned minus e rest) h = join (references e) (references_signed rest) (references-within e h.0) (signed-within rest h.1)

    members-within : {m : _} (row : Row_of-FlatMember m) → FlatMembersAreWithin n row → ReferencesAreWithin (references_members row)
    members-within end_of-FlatMember h = tt
    members-within (more_of-FlatMember (One e) rest) h = join (references e) (references_members rest) (references-within e h.0) (members-within rest h.1)
    members-within (more_of-FlatMember (SpanOf span at) rest) h = members-within rest h.1

    held-within : (cond : Held-FlatExpr-Each-2) → FlatConditionIsWithin n cond → ReferencesAreWithin (references_held cond)
    held-within None' h = tt
    held-within (Some' shape (more_of-FlatExpr cond end_of-FlatExpr)) h = references-within cond h

  -- ---- assignments

  abbrev ReadingIsWithin : Reading → Type 0
  ReadingIsWithin a = (a.at ≤ n) × ReferencesAreWithin a.reads

  abbrev ReadingsAreWithin : List Reading → Type 0
  ReadingsAreWithin all = AllByRecursion ReadingIsWithin all

  module _ (family : ℕ) where
    mutual
      readings-within : (around : List Reference) (p : DefBody) → ReferencesAreWithin around → PartOfIsWithin n p → ReadingsAreWithin (readings family around p)
      readings-within around Nothing a h = tt
      readings-within around (Assign left value place at) a h =
          ((h.0, join (around ++ (flat_map references left)) (references value) (join around (flat_map references left) a (each_flat_map (FlatExprIsWithin n) ReferenceIsWithin references references-within left h.1)) (references-within value h.2)), tt)
      readings-within around (If' cond l (more_of-DefBody left end_of-DefBody) r (more_of-DefBody right end_of-DefBody)) a h =
          let inside : ReferencesAreWithin (around ++ references cond) = join around (references cond) a (references-within cond h.0) in
          each_append ReadingIsWithin (readings family (around ++ references cond) left) (readings family (around ++ references cond) right) (readings-within (around ++ references cond) left inside h.1) (readings-within (around ++ references cond) right inside h.2)
      readings-within around (First' shape parts) a h = parts-within around parts a h
      readings-within around (Forall' var over shape (more_of-DefBody body end_of-DefBody)) a h = readings-within around body a h

      parts-within : {m : _} (around : List Reference) (row : Row_of-DefBody m) → ReferencesAreWithin around → PartsOfAreWithin n row → ReadingsAreWithin (readings_of family around row)
      parts-within around end_of-DefBody a h = tt
      parts-within around (more_of-DefBody part rest) a h = each_append ReadingIsWithin (readings family around part) (readings_of family around rest) (readings-within around part a h.0) (parts-within around rest a h.1)

  -- ---- loops

  undelayed-within : (def : Def) → DefIsWithin n def → ReadingsAreWithin (undelayed def)
  undelayed-within def h =
      each_append ReadingIsWithin (readings def.family [] def.comb) (readings def.family [] def.init) (readings-within def.family [] def.comb tt h.2) (readings-within def.family [] def.init tt h.0)

  put-within : (a : Reading) (more : List Reading) → ReadingIsWithin a → ReadingsAreWithin more → ReadingsAreWithin (put a more)
  put-within a [] h g = (h, tt)
  put-within a (b ∷ more) h g = by (nat_lt a.place b.place) (put a more) (put-within a more h g.1)
    where
      by : (c : Bool) (rest : List Reading) → ReadingsAreWithin rest → ReadingsAreWithin (cond c (a ∷ b ∷ more) (b ∷ rest))
      by true rest r = (h, g)
      by false rest r = (g.0, r)

  order-within : (all : List Reading) → ReadingsAreWithin all → ReadingsAreWithin (in_order all)
  order-within [] h = tt
  order-within (a ∷ more) h = put-within a (in_order more) h.0 (order-within more h.1)

  closing-within : (d : Design) (edges : List Edge) (all : List Reading) → ReadingsAreWithin all → AreUpTo n (closing d edges all)
  closing-within d edges [] h = tt
  closing-within d edges (a ∷ more) h = by (hold_a_cycle (edges ++ edges_of d a)) (closing d (edges ++ edges_of d a) more) (closing-within d (edges ++ edges_of d a) more h.1)
    where
      by : (b : Bool) (rest : List ℕ) → AreUpTo n rest → AreUpTo n (cond b (a.at ∷ []) rest)
      by true rest r = (h.0.0, tt)
      by false rest r = r

  looping-within : (d : Design) → DesignIsWithin n d → AreUpTo n (looping d)
  looping-within d h =
      closing-within d [] (undelayed_in d) (order-within (flat_map undelayed (filter (is_base d) d.defs))
      (each_flat_map (DefIsWithin n) ReadingIsWithin undelayed undelayed-within (filter (is_base d) d.defs) (each_filter (DefIsWithin n) (is_base d) d.defs h.defs)))

  -- ---- layers

  assignments-within : (def : Def) → DefIsWithin n def → ReadingsAreWithin (assignments_of def)
  assignments-within def h =
      each_append ReadingIsWithin ((readings def.family [] def.init) ++ (readings def.family [] def.next)) (readings def.family [] def.comb) (each_append ReadingIsWithin (readings def.family [] def.init) (readings def.family [] def.next) (readings-within def.family [] def.init tt h.0) (readings-within def.family [] def.next tt h.1)) (readings-within def.family [] def.comb tt h.2)

  module _ (d : Design) (h : DesignIsWithin n d) where
    outside-within : ReadingsAreWithin (outside_layers d)
    outside-within = each_flat_map (DefIsWithin n) ReadingIsWithin assignments_of assignments-within (filter (λ (def : Def). is_none def.layer) d.defs) (each_filter (DefIsWithin n) (λ (def : Def). is_none def.layer) d.defs h.defs)

    leaking-within : AreUpTo n (leaking d)
    leaking-within =
        let reads = flat_map (λ (a : Reading). a.reads) (outside_layers d) in
        let test = λ (r : Reference). is_abstract d (slice_get d.families r.family) in
        each-map ReferenceIsWithin (λ (at : ℕ). at ≤ n) (λ (r : Reference). r.at) (λ r own. own) (filter test reads)
        (each_filter ReferenceIsWithin test reads (each_flat_map ReadingIsWithin ReferenceIsWithin (λ (a : Reading). a.reads) (λ a own. own.1) (outside_layers d) outside-within))

    assigned-within : AreUpTo n (assigned_outside d)
    assigned-within =
        let test = λ (a : Reading). is_abstract d (slice_get d.families a.family) in
        each-map ReadingIsWithin (λ (at : ℕ). at ≤ n) (λ (a : Reading). a.at) (λ a own. own.0) (filter test (outside_layers d)) (each_filter ReadingIsWithin test (outside_layers d) outside-within)

  pub first-within : (d : Design) → DesignIsWithin n d → IfSome (first_fault_of_design d) (IsFaultOf numbers_of_designs n)
  first-within d h =
      either-one (IsFaultOf numbers_of_designs n) (first_fault_of_loops d) (first_fault_of_layers d)
      (first-one (IsFaultOf numbers_of_designs n) (faults_of_loops d) (faults-placed numbers_of_designs n 18 (looping d) refl (looping-within d h)))
      (first-one (IsFaultOf numbers_of_designs n) (faults_of_layers d) (lists-placed numbers_of_designs n ((19, leaking d) ∷ (20, assigned_outside d) ∷ [])
      ((refl, leaking-within d h), ((refl, assigned-within d h), tt))))
