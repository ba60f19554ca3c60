-- What a definition allows in a run is met in the picture, and what is not broken there is allowed.
use Rattle.std.proofs.Common.{◌≡◌, ℕ, zero, suc, ◌+◌, ◌-◌, List, [], ◌∷◌, map, length, Bool, true, false, not, if◌then◌else◌, ◌&&◌, ◌||◌, refl, sym, ap, subst, inl, inr, Option, Some, None, unwrap_or}
use Rattle.std.specs.List.{list_any, list_all, slice_get, zip}
use Rattle.law_lists.proofs.Booleans.{left_of, right_of}
use Rattle.smv_core.specs.Values.{Name, Value, number, constant, scalar, ordinal}
use Rattle.smv_core.specs.Walk.{Walk}
use Rattle.smv_core.specs.Assignments.{Index, fixed, bare, computed, add_fixed, modulo_fixed, fits}
use Rattle.smv_core.specs.FlatMeaning.{Numbered, FlatState, FlatElement, values_in, simple_in, flat_index, flat_index_sum, indexes_assigned, indexes_assigned_in, is_concerned_by, flat_result, flat_kept, flat_stepped, flat_allowed}
use Rattle.smv_core.specs.declared.flat.Def.{Def}
use Rattle.smv_core.specs.declared.flat.Family.{Family}
use Rattle.smv_core.specs.declared.flat.FlatExpr.{FlatExpr, Number, Var, Loop, Sum', Modulo', Row_of-FlatSigned, end_of-FlatSigned, more_of-FlatSigned, more_of-FlatExpr, end_of-FlatExpr}
use Rattle.smv_core.specs.declared.flat.DefBody.{DefBody, Nothing, Assign, If', First', Forall', Row_of-DefBody, end_of-DefBody, more_of-DefBody}
use Rattle.smv_core.specs.declared.abstract_type.AbsType.{AbsType}
use Rattle.law_obligations.specs.Sets.{Has, first, later}
use Rattle.law_obligations.specs.Places.{Place, world, places_in, same_place, is_named, is_among}
use Rattle.law_obligations.specs.May.{AbsState, Kept}
use Rattle.law_obligations.specs.Right.{may_allow, must_allow}
use Rattle.law_obligations.specs.Demands.{fits_place, concerns_place, or_else, may_give, must_give, may_keep, must_keep, may_step, must_step, may_be, must_be, places_of_family, is_defined, is_broken_map}
use Rattle.law_obligations.specs.Pictures.{Spot, class, other, Placing, at_spot, placed, ArePlaced, AreOfTypes, IsState, IsPicture, ArePictured}
use Rattle.law_obligations.specs.Bound.{IsBound, OneGives, AreAtClasses, IsSingle}
use Rattle.law_obligations.proofs.Members.{Has-from_map, Has-cases, any-found, all-each}
use Rattle.law_obligations.proofs.Same.{same_place-itself, same_place-is, is_among-Has}
use Rattle.law_obligations.proofs.RightKeeps.{named_here, right_may, right_must}
use Rattle.law_obligations.proofs.WalkKeeps.{Related, walk_keeps}

-- a constant index is a number or Undefined
abbrev IsNumeric : Index → Type 0
IsNumeric (fixed (Some (number k))) = Unit {0}
IsNumeric (fixed None) = Unit {0}
IsNumeric (fixed (Some v)) = ⊥
IsNumeric _ = Unit {0}

if_numeric : (b : Bool) (k : ℕ) → IsNumeric (fixed (if b then Some (number k) else None))
if_numeric true k = tt
if_numeric false k = tt

added_numeric : (minus : Bool) (i j : Index) → IsNumeric i → IsNumeric j → IsNumeric (add_fixed minus i j)
added_numeric false (fixed (Some (number k))) (fixed (Some (number l))) p q = if_numeric _ (k + l)
added_numeric true (fixed (Some (number k))) (fixed (Some (number l))) p q = if_numeric _ (k - l)
added_numeric false (fixed None) (fixed v) p q = tt
added_numeric true (fixed None) (fixed v) p q = tt
added_numeric false (fixed (Some (number k))) (fixed None) p q = tt
added_numeric true (fixed (Some (number k))) (fixed None) p q = tt
added_numeric minus (bare k) j p q = tt
added_numeric minus computed j p q = tt
added_numeric minus (fixed u) (bare k) p q = tt
added_numeric minus (fixed u) computed p q = tt
added_numeric minus (fixed (Some (constant c))) (fixed v) p q = elim p [ ]
added_numeric minus (fixed (Some (scalar t k))) (fixed v) p q = elim p [ ]
added_numeric minus (fixed (Some (ordinal t k))) (fixed v) p q = elim p [ ]
added_numeric minus (fixed (Some (number k))) (fixed (Some (constant c))) p q = elim q [ ]
added_numeric minus (fixed (Some (number k))) (fixed (Some (scalar t l))) p q = elim q [ ]
added_numeric minus (fixed (Some (number k))) (fixed (Some (ordinal t l))) p q = elim q [ ]

modulo_numeric : (i : Index) (by : ℕ) → IsNumeric i → IsNumeric (modulo_fixed i by)
modulo_numeric (fixed (Some (number k))) zero p = tt
modulo_numeric (fixed (Some (number k))) (suc by) p = tt
modulo_numeric (fixed None) by p = tt
modulo_numeric (fixed (Some (constant c))) by p = elim p [ ]
modulo_numeric (fixed (Some (scalar t k))) by p = elim p [ ]
modulo_numeric (fixed (Some (ordinal t k))) by p = elim p [ ]
modulo_numeric (bare k) by p = tt
modulo_numeric computed by p = tt

mutual
  index_numeric : (e : FlatExpr) → IsNumeric (flat_index e)
  index_numeric (Number value place) = tt
  index_numeric (Loop value place) = tt
  index_numeric (Var var place) = tt
  index_numeric (Sum' f (more_of-FlatExpr head end_of-FlatExpr) shape more) = sum_numeric more (flat_index head) (index_numeric head)
  index_numeric (Modulo' shape (more_of-FlatExpr e end_of-FlatExpr) by place) = modulo_numeric (flat_index e) by (index_numeric e)
  index_numeric _ = tt

  sum_numeric : {m : _} (row : Row_of-FlatSigned m) (i : Index) → IsNumeric i → IsNumeric (flat_index_sum i row)
  sum_numeric end_of-FlatSigned i p = p
  sum_numeric (more_of-FlatSigned minus e others) i p = sum_numeric others (add_fixed minus i (flat_index e)) (added_numeric minus i (flat_index e) p (index_numeric e))

-- a class is no number
fits_same : (spots : Placing) (i : Index) (v : Value) → IsNumeric i → is_named (placed spots v) ≡ true → fits_place i (placed spots v) ≡ fits i v
fits_same spots i (number k) p e = refl
fits_same spots i (constant c) p e = refl
fits_same spots i (scalar t k) p e = at i (spots t k) p e
  where
    at : (i : Index) (s : Spot) → IsNumeric i → is_named (at_spot (scalar t) s) ≡ true → fits_place i (at_spot (scalar t) s) ≡ fits i (scalar t k)
    at (fixed (Some (number l))) (class c) p e = refl
    at (fixed None) (class c) p e = refl
    at (bare l) (class c) p e = refl
    at computed (class c) p e = refl
    at (fixed (Some (constant d))) (class c) p e = elim p [ ]
    at (fixed (Some (scalar u l))) (class c) p e = elim p [ ]
    at (fixed (Some (ordinal u l))) (class c) p e = elim p [ ]
    at i (other g) p e = absurd (cc)
fits_same spots i (ordinal t k) p e = at i (spots t k) p e
  where
    at : (i : Index) (s : Spot) → IsNumeric i → is_named (at_spot (ordinal t) s) ≡ true → fits_place i (at_spot (ordinal t) s) ≡ fits i (ordinal t k)
    at (fixed (Some (number l))) (class c) p e = refl
    at (fixed None) (class c) p e = refl
    at (bare l) (class c) p e = refl
    at computed (class c) p e = refl
    at (fixed (Some (constant d))) (class c) p e = elim p [ ]
    at (fixed (Some (scalar u l))) (class c) p e = elim p [ ]
    at (fixed (Some (ordinal u l))) (class c) p e = elim p [ ]
    at i (other g) p e = absurd (cc)

indexes_same : (n : Numbered) (spots : Placing) (is : List Index) (xs : List Value) → ((i : Index) → Has is i → IsNumeric i) → AreAtClasses n spots xs →
    list_all (λ (i, q). fits_place i q) (zip is (map (placed spots) xs)) ≡ list_all (λ (i, v). fits i v) (zip is xs)
indexes_same n spots [] xs p h = refl
indexes_same n spots (i ∷ is) [] p h = refl
indexes_same n spots (i ∷ is) (x ∷ xs) p h = rw (fits_same spots i x (p i first) h.0.1) (ap (λ b. fits i x && b) (indexes_same n spots is xs (λ j k. p j (later k)) h.1))

mutual
  assigned_numeric : (def : DefBody) (is : List Index) → Has (indexes_assigned def) is → (i : Index) → Has is i → IsNumeric i
  assigned_numeric Nothing is h i k = elim h [ ]
  assigned_numeric (Assign left value place offset) _ first i k = let e = Has-from_map flat_index left k in subst IsNumeric (sym e.2) (index_numeric e.0)
  assigned_numeric (Assign left value place offset) is (later h) i k = elim h [ ]
  assigned_numeric (If' cond l (more_of-DefBody left end_of-DefBody) r (more_of-DefBody right end_of-DefBody)) is h i k =
      elim (Has-cases (indexes_assigned left) (indexes_assigned right) h) [ inl p ↦ assigned_numeric left is p i k | inr p ↦ assigned_numeric right is p i k ]
  assigned_numeric (First' shape parts) is h i k = assigned_numeric_in parts is h i k
  assigned_numeric (Forall' var over shape (more_of-DefBody body end_of-DefBody)) is h i k = assigned_numeric body is h i k

  assigned_numeric_in : {m : _} (row : Row_of-DefBody m) (is : List Index) → Has (indexes_assigned_in row) is → (i : Index) → Has is i → IsNumeric i
  assigned_numeric_in end_of-DefBody is h i k = elim h [ ]
  assigned_numeric_in (more_of-DefBody part others) is h i k =
      elim (Has-cases (indexes_assigned part) (indexes_assigned_in others) h) [ inl p ↦ assigned_numeric part is p i k | inr p ↦ assigned_numeric_in others is p i k ]

-- an element at classes is concerned exactly where the values' element is
concerned_same : (n : Numbered) (spots : Placing) (def : DefBody) (x : FlatElement) → AreAtClasses n spots x.indexes → concerns_place def (map (placed spots) x.indexes) ≡ is_concerned_by def x
concerned_same n spots def x h = at (indexes_assigned def) (assigned_numeric def)
  where
    at : (iss : List (List Index)) → ((is : List Index) → Has iss is → (i : Index) → Has is i → IsNumeric i) →
        list_any (λ is. list_all (λ (i, q). fits_place i q) (zip is (map (placed spots) x.indexes))) iss ≡ list_any (λ is. list_all (λ (i, v). fits i v) (zip is x.indexes)) iss
    at [] p = refl
    at (is ∷ iss) p = rw (indexes_same n spots is x.indexes (λ i k. p is first i k) h) (ap (λ b. list_all (λ (i, v). fits i v) (zip is x.indexes) || b) (at iss (λ js k. p js (later k))))

module _ (n : Numbered) (types : Name → AbsType) (spots : Placing) (facts : ArePlaced n (world n types) spots) (kept : Kept)
    (def : Def) (f : Family) (is_family : slice_get n.families def.family ≡ Some f) (xs : List Value) (of_types : AreOfTypes n f.over xs) (classes : AreAtClasses n spots xs)
    (is_kept : kept def.family (map (placed spots) xs) ≡ true) where
  abbrev x : FlatElement
  x = record { family = def.family; indexes = xs }

  abbrev values : List Value
  values = values_in n f.value

  abbrev every : List Place
  every = places_in (world n types) f.value

  abbrev qs : List Place
  qs = map (placed spots) xs

  here : (v : Value) → Has values v → is_among every (placed spots v) ≡ true
  here v h = is_among-Has ((facts f.value).is_somewhere v h)

  -- the parts of a definition
  module _ (s : FlatState) (is_state : IsState n s) (a : AbsState) (picture : IsPicture n spots kept s a) (part : DefBody) (bound : IsBound 0 (length xs) part) (one : OneGives n s x values part)
      (nothing : Place → Bool) (left : List Value) where
    part_may : ((v : Value) → Has left v → nothing (placed spots v) ≡ true) → (v : Value) → Has (unwrap_or (flat_result n s x values part []) left) v →
        may_give (world n types) kept def qs every part a nothing (placed spots v) ≡ true
    part_may ok v h =
        let r = walk_keeps n types spots facts s is_state kept a picture x classes (λ vs y. (v : Value) → Has vs v → y (placed spots v) ≡ true) values (λ p. is_among every p) here
        (may_allow (world n types) kept a every) (λ e b k v i. (right_may n types spots facts s is_state kept a picture f.value e b v k i).1) part [] tt bound one in
        any-found (λ r. or_else r nothing (placed spots v)) r.1 (at (flat_result n s x values part []) r.0 r.2 h)
      where
        at : (w : Walk) (r : Option (Place → Bool)) → Related (λ vs y. (v : Value) → Has vs v → y (placed spots v) ≡ true) w r → Has (unwrap_or w left) v → or_else r nothing (placed spots v) ≡ true
        at None None g h = ok v h
        at (Some vs) (Some y) g h = g v h
        at None (Some y) g h = elim g [ ]
        at (Some vs) None g h = elim g [ ]

    part_must : (v : Value) → Has values v → (nothing (placed spots v) ≡ true → Has left v) → must_give (world n types) kept def qs every part a nothing (placed spots v) ≡ true →
        Has (unwrap_or (flat_result n s x values part []) left) v
    part_must v k ok h =
        let r = walk_keeps n types spots facts s is_state kept a picture x classes (λ vs y. (v : Value) → Has values v → y (placed spots v) ≡ true → Has vs v) values (λ p. is_among every p) (λ v k i. k)
        (must_allow (world n types) kept a every) (λ e b k v i m. right_must n types spots facts s is_state kept a picture f.value e b v k i m) part [] tt bound one in
        at (flat_result n s x values part []) r.0 r.2 (all-each (λ r. or_else r nothing (placed spots v)) h r.1)
      where
        at : (w : Walk) (r : Option (Place → Bool)) → Related (λ vs y. (v : Value) → Has values v → y (placed spots v) ≡ true → Has vs v) w r → or_else r nothing (placed spots v) ≡ true → Has (unwrap_or w left) v
        at None None g h = ok h
        at (Some vs) (Some y) g h = g v k h
        at None (Some y) g h = elim g [ ]
        at (Some vs) None g h = elim g [ ]

  only : {u v : Value} → Has (u ∷ []) v → v ≡ u
  only first = refl
  only (later h) = elim h [ ]

  pictured : (s : FlatState) (a : AbsState) → IsPicture n spots kept s a → a def.family qs ≡ placed spots (s def.family xs)
  pictured s a picture = picture def.family f is_family xs of_types is_kept

  keep_may : (old : FlatState) (b : AbsState) → IsPicture n spots kept old b → (v : Value) → Has (flat_kept n def x values old) v → may_keep (world n types) kept def qs every b (placed spots v) ≡ true
  keep_may old b picture v h = rw (concerned_same n spots def.next x classes) (at (is_concerned_by def.next x) h)
    where
      at : (c : Bool) → Has (if c then old def.family xs ∷ [] else values) v → (if c then same_place (b def.family qs) (placed spots v) else is_among every (placed spots v)) ≡ true
      at true h = rw (pictured old b picture, only h) (same_place-itself (placed spots (old def.family xs)))
      at false h = here v h

  keep_must : (old : FlatState) → IsState n old → (b : AbsState) → IsPicture n spots kept old b → (v : Value) → Has values v → must_keep (world n types) kept def qs every b (placed spots v) ≡ true → Has (flat_kept n def x values old) v
  keep_must old is_old b picture v k h = at (is_concerned_by def.next x) (rw (concerned_same n spots def.next x classes) at h)
    where
      at : (c : Bool) → (if c then same_place (b def.family qs) (placed spots v) && is_named (placed spots v) else is_among every (placed spots v)) ≡ true → Has (if c then old def.family xs ∷ [] else values) v
      at true h =
          let u = old def.family xs in
          let inside = is_old def.family f is_family xs of_types in
          let spot = same_place-is (placed spots u) (placed spots v) (subst (λ q. same_place q (placed spots v) ≡ true) (pictured old b picture) (left_of (same_place (b def.family qs) (placed spots v)) (is_named (placed spots v)) h)) in
          let is : v ≡ u = (facts f.value).class_has_one v u k inside
          (named_here (world n types) (simple_in n f.value) (placed spots v) ((facts f.value).is_somewhere v k) (right_of (same_place (b def.family qs) (placed spots v)) (is_named (placed spots v)) h)) (sym spot) in
          subst (λ z. Has (u ∷ []) z) (sym is) first
      at false h = k

  module _ (single : IsSingle n def xs values) (now : FlatState) (is_now : IsState n now) (a : AbsState) (picture : IsPicture n spots kept now a) where
    step_may : (before : Option FlatState) (old : Option AbsState) → ArePictured n spots kept before old → (v : Value) → Has (flat_stepped n def x values before now) v → may_step (world n types) kept def qs every old a (placed spots v) ≡ true
    step_may None None p v h = part_may now is_now a picture def.init single.init_bound (single.init_single now is_now) (λ p. is_among every p) values here v h
    step_may (Some s) (Some b) p v h = part_may s p.0 b p.1 def.next single.next_bound (single.next_single s p.0) (may_keep (world n types) kept def qs every b) (flat_kept n def x values s) (keep_may s b p.1) v h
    step_may None (Some b) p v h = elim p [ ]
    step_may (Some s) None p v h = elim p [ ]

    step_must : (before : Option FlatState) (old : Option AbsState) → ArePictured n spots kept before old → (v : Value) → Has values v → must_step (world n types) kept def qs every old a (placed spots v) ≡ true → Has (flat_stepped n def x values before now) v
    step_must None None p v k h = part_must now is_now a picture def.init single.init_bound (single.init_single now is_now) (λ p. is_among every p) values v k (λ i. k) h
    step_must (Some s) (Some b) p v k h = part_must s p.0 b p.1 def.next single.next_bound (single.next_single s p.0) (must_keep (world n types) kept def qs every b) (flat_kept n def x values s) v k (keep_must s p.0 b p.1 v k) h
    step_must None (Some b) p v k h = elim p [ ]
    step_must (Some s) None p v k h = elim p [ ]

    be_may : (before : Option FlatState) (old : Option AbsState) → ArePictured n spots kept before old → (v : Value) → Has (flat_allowed n def x values before now) v → may_be (world n types) kept def qs every old a (placed spots v) ≡ true
    be_may before old p v h = rw (concerned_same n spots def.comb x classes) (at (is_concerned_by def.comb x) h)
      where
        at : (c : Bool) → Has (if c then unwrap_or (flat_result n now x values def.comb []) values else flat_stepped n def x values before now) v →
            (if c then may_give (world n types) kept def qs every def.comb a (λ p. is_among every p) (placed spots v) else may_step (world n types) kept def qs every old a (placed spots v)) ≡ true
        at true h = part_may now is_now a picture def.comb single.comb_bound (single.comb_single now is_now) (λ p. is_among every p) values here v h
        at false h = step_may before old p v h

    be_must : (before : Option FlatState) (old : Option AbsState) → ArePictured n spots kept before old → (v : Value) → Has values v → must_be (world n types) kept def qs every old a (placed spots v) ≡ true → Has (flat_allowed n def x values before now) v
    be_must before old p v k h = at (is_concerned_by def.comb x) (rw (concerned_same n spots def.comb x classes) at h)
      where
        at : (c : Bool) → (if c then must_give (world n types) kept def qs every def.comb a (λ p. is_among every p) (placed spots v) else must_step (world n types) kept def qs every old a (placed spots v)) ≡ true →
            Has (if c then unwrap_or (flat_result n now x values def.comb []) values else flat_stepped n def x values before now) v
        at true h = part_must now is_now a picture def.comb single.comb_bound (single.comb_single now is_now) (λ p. is_among every p) values v k (λ i. k) h
        at false h = step_must before old p v k h

    every_is : places_of_family (world n types) kept (slice_get n.families def.family) ≡ every
    every_is = ap (places_of_family (world n types) kept) is_family

    -- a definition that allows the element's value is met in the picture
    pub map_may : (before : Option FlatState) (old : Option AbsState) → ArePictured n spots kept before old → Has (flat_allowed n def x values before now) (now def.family xs) → is_defined (world n types) kept def qs old a ≡ true
    map_may before old p h = subst (λ ps. may_be (world n types) kept def qs ps old a (a def.family qs) ≡ true) (sym every_is)
        (subst (λ q. may_be (world n types) kept def qs every old a q ≡ true) (sym (pictured now a picture)) (be_may before old p (now def.family xs) h))

    -- a map that is not broken in the picture allows the element's value
    pub map_must : (before : Option FlatState) (old : Option AbsState) → ArePictured n spots kept before old → is_broken_map (world n types) kept def qs old a ≡ false → Has (flat_allowed n def x values before now) (now def.family xs)
    map_must before old p h = be_must before old p (now def.family xs) (is_now def.family f is_family xs of_types)
        (subst (λ q. must_be (world n types) kept def qs every old a q ≡ true) (pictured now a picture)
        (subst (λ ps. must_be (world n types) kept def qs ps old a (a def.family qs) ≡ true) every_is
        (both_not (not (list_all is_named qs)) (must_be (world n types) kept def qs (places_of_family (world n types) kept (slice_get n.families def.family)) old a (a def.family qs)) h)))
      where
        both_not : (p q : Bool) → (p || not q) ≡ false → q ≡ true
        both_not true q e = absurd (cc)
        both_not false true e = refl
        both_not false false e = absurd (cc)
