-- The coded cells of some elements, one behind the other.
use Rattle.std.proofs.Common.{◌≡◌, ◌≢◌, ℕ, List, [], ◌∷◌, ◌++◌, map, Bool, true, false, not, ◌||◌, inl, inr, if◌then◌else◌, refl, sym, ap, subst, ◌∙◌, Some, Result, Ok, Err, IfOk}
use Rattle.std.proofs.lemmas.Bool.{cases_Bool}
use Rattle.std.proofs.lemmas.List.{append-nil}
use Rattle.std.proofs.lemmas.List.Folds.{list_any-append}
use Rattle.std.specs.List.{filter, list_any, slice_get}
use Rattle.law_lists.proofs.Lists.{append_again}
use Rattle.smv_core.specs.declared.flat.Element.{Element}
use Rattle.law_obligations.specs.Sets.{Has, first, later}
use Rattle.law_obligations.specs.Places.{Place, World, AbsOutcome}
use Rattle.law_obligations.specs.Demands.{places_of_family}
use Rattle.law_obligations.specs.May.{AbsState, Kept}
use Rattle.law_obligations.specs.Cones.{AbsElement, element, same_element, kept}
use Rattle.law_obligations.specs.Readings.{PosedCase}
use Rattle.law_obligations.proofs.ConeFacts.{same_element-family, same_element-indexes}
use Rattle.law_obligations.proofs.Members.{Has-right}
use Rattle.law_obligations.proofs.ReadBack.{reading_is_state}
use Rattle.law_arrangements.specs.Arrangements.{put, spread}
use Rattle.law_arrangements.specs.Orders.{arranged}
use Rattle.bdd_store.specs.declared.Ref.{Ref}
use Rattle.bdd_store.specs.Diagram.{Diagram, table}
use Rattle.bdd_codes.specs.Codes.{bits_at}
use Rattle.smv_spots.specs.declared.spots.Spot.{Spot}
use Rattle.smv_spots.specs.Spots.{place_in}
use Rattle.smv_conditions.specs.declared.offers.Offer.{Offer}
use Rattle.smv_conditions.specs.Offers.{any_offer}
use Rattle.smv_elements.specs.Elements as listed
use Rattle.smv_problem.specs.declared.problem.Problem.{Problem}
use Rattle.smv_problem.specs.Written.{written, written_element}
use Rattle.smv_problem.specs.WellFormed.{IsWellFormed, AreApartElements, OfCases}
use Rattle.smv_problem_spots.specs.Worlds.{IsWorldOf}
use Rattle.smv_cells.specs.declared.cells.Cell.{Cell}
use Rattle.smv_cells.specs.Cells.{cell_any}
use Rattle.smv_cells.specs.Seen.{IsSeen}
use Rattle.smv_targets.proofs.TargetLaws.{read_kept}
use Rattle.smv_encode.specs.Coded.{state_at, view_at}
use Rattle.smv_encode.specs.Parts.{AreElements}
use Rattle.smv_encode.proofs.Choices.{same_written}
use Rattle.smv_encode.proofs.CodedCells.{problem_world}
use Rattle.smv_wires.specs.Tried.{KeepsOneMore, view_keeping, view_coded}
use Rattle.smv_wires.proofs.Facts.{kept_element, state_among, filled_view}
use Rattle.smv_wires.proofs.Seeing.{IsCellOf, seen_more, or_nothing}

-- ---- the value of an element by the cells of all

module _ (p : Problem) (c : PosedCase) (is : p ≡ written c) (well : IsWellFormed c) where
  pub coded_value : (order : List ℕ) (d e : Diagram) (next : Bool) (coded : List (Cell Ref)) → IsSeen table d p coded (view_at c (arranged order) next) → (x : AbsElement) → Has c.elements x → (family : ℕ) → x.family ≡ family →
      (shown : List Spot) → map (place_in c.problem.world.classes) shown ≡ x.indexes → (every places : List Spot) → places ≡ every → ((w : World) (keeps : Kept) → IsWorldOf p w → map (place_in w.classes) every ≡ places_of_family w keeps (slice_get w.classes.families family)) →
      (offers values : List (Offer Ref)) → values ≡ offers → ((w : World) → IsWorldOf p w → (q : AbsOutcome → Bool) (a : ℕ → Bool) → any_offer w.classes table e a q offers ≡ cell_any w.classes table d a q family (map (place_in w.classes) shown) (map (place_in w.classes) places) coded) →
      (a : ℕ → Bool) (q : AbsOutcome → Bool) → any_offer c.problem.world.classes table e a q values ≡ q (Some (state_at c (arranged order) next a x.family x.indexes))
  coded_value order d e next coded seen x h family same shown at every places all are offers values own read a q =
      let n = c.problem.world.classes in
      let world : IsWorldOf p c.problem.world = problem_world p c is well in
      ap (any_offer n table e a q) own
      ∙ read c.problem.world world q a
      ∙ ap (λ (ps : List Place). cell_any n table d a q family ps (map (place_in n) places) coded) at
      ∙ ap (λ (ps : List Place). cell_any n table d a q family x.indexes ps coded) (ap (map (place_in n)) all ∙ are c.problem.world c.problem.kept world)
      ∙ ap (λ (f : ℕ). cell_any n table d a q f x.indexes (places_of_family c.problem.world c.problem.kept (slice_get n.families f)) coded) (sym same)
      ∙ read_kept table d p coded (view_at c (arranged order) next) seen a q x.family x.indexes (slice_get n.families x.family) (kept_element c well x h)
      (state_among c well (state_at c (arranged order) next a) (reading_is_state c well.is_case (spread order (bits_at next a))) x h)

pub coded_means : {V E : Type 0} (items : V → List (Offer Ref)) (p : Problem) (d e : Diagram) (coded : List (Cell Ref)) (family : ℕ) (shown every places : List Spot) → places ≡ every → ((w : World) (keeps : Kept) → IsWorldOf p w → map (place_in w.classes) every ≡ places_of_family w keeps (slice_get w.classes.families family)) →
    (r : Result V E) → IfOk r (λ v. (w : World) → IsWorldOf p w → (q : AbsOutcome → Bool) (a : ℕ → Bool) → any_offer w.classes table e a q (items v) ≡ cell_any w.classes table d a q family (map (place_in w.classes) shown) (map (place_in w.classes) places) coded)
    → IfOk r (λ v. OfCases p (λ c. (order : List ℕ) (next : Bool) → IsSeen table d p coded (view_at c (arranged order) next) → (x : AbsElement) → Has c.elements x → x.family ≡ family → map (place_in c.problem.world.classes) shown ≡ x.indexes → (a : ℕ → Bool) (q : AbsOutcome → Bool) → any_offer c.problem.world.classes table e a q (items v) ≡ q (Some (state_at c (arranged order) next a x.family x.indexes))))
coded_means items p d e coded family shown every places all are (Ok v) says = λ c is well order next seen x h same at a q. coded_value p c is well order d e next coded seen x h family same shown at every places all are (items v) (items v) refl says a q
coded_means items p d e coded family shown every places all are (Err x) says = tt

-- ---- one cell more

put_own : (x : AbsElement) (a : AbsState) → put x (a x.family x.indexes) a ≡ a
put_own x a i family ps = own family ps i
  where
    at : (family : ℕ) (ps : List Place) (b : Bool) → same_element (element family ps) x ≡ b → (if b then a x.family x.indexes else a family ps) ≡ a family ps
    at family ps true e = sym (ap (λ (k : ℕ). a k ps) (same_element-family (element family ps) x e) ∙ ap (a x.family) (same_element-indexes (element family ps) x e))
    at family ps false e = refl

    own : (family : ℕ) (ps : List Place) → put x (a x.family x.indexes) a family ps ≡ a family ps
    own family ps = at family ps (same_element (element family ps) x) refl

pub one_more : (p : Problem) (c : PosedCase) → IsWellFormed c → (d : Diagram) (x : AbsElement) (keeps more : Kept) (state : (ℕ → Bool) → AbsState) → KeepsOneMore x keeps more → (cells new : List (Cell Ref)) (cell : Cell Ref) → IsCellOf c.problem.world x cell →
    ((a : ℕ → Bool) (q : AbsOutcome → Bool) → any_offer c.problem.world.classes table d a q cell.values ≡ q (Some (state a x.family x.indexes))) → new ≡ cells ++ cell ∷ [] → IsSeen table d p cells (view_keeping c keeps state) → IsSeen table d p new (view_keeping c more state)
one_more p c well d x keeps more state k cells new cell of values pushed seen =
    subst (λ (cs : List (Cell Ref)). IsSeen table d p cs (view_keeping c more state)) (sym pushed)
    (subst (λ (st : (ℕ → Bool) → AbsState). IsSeen table d p (cells ++ cell ∷ []) (view_keeping c more st)) (λ i a. put_own x (state a) i)
    (seen_more d p c.problem.world keeps more state (λ a. state a x.family x.indexes) x cells cell (filled_view c well more (λ a. put x (state a x.family x.indexes) (state a))) of k.fresh k.grows values seen))

-- ---- those of a list, unless they are tried

-- no cell yet
pub none_seen : (p : Problem) (c : PosedCase) → p ≡ written c → IsWellFormed c → (d : Diagram) (order : List ℕ) (next : Bool) (cells : List (Cell Ref)) → cells ≡ [] → IsSeen table d p cells (view_coded c order [] next)
none_seen p c is well d order next cells none = subst (λ (cs : List (Cell Ref)). IsSeen table d p cs (view_coded c order [] next)) (sym none) (record {
  view = filled_view c well (kept []) (state_at c (arranged order) next);
  world = problem_world p c is well;
  values = λ a q cell h. elim h [ ];
  kept = λ family ps. refl;
})

pub keeps_behind : (x : AbsElement) (front : List AbsElement) → list_any (same_element x) front ≡ false → KeepsOneMore x (kept front) (kept (front ++ x ∷ []))
keeps_behind x front fresh = record {
  fresh = fresh;
  grows = λ family ps. list_any-append (same_element (element family ps)) front (x ∷ []) ∙ ap (λ (b : Bool). list_any (same_element (element family ps)) front || b) (or_nothing (same_element (element family ps) x));
}

any_written : (c : PosedCase) → IsWellFormed c → (x : AbsElement) → Has c.elements x → (xs : List AbsElement) → ((y : AbsElement) → Has xs y → Has c.elements y) →
    list_any (listed.same_element (written_element x)) (map written_element xs) ≡ list_any (same_element x) xs
any_written c well x h [] among = refl
any_written c well x h (y ∷ xs) among =
    ap (λ (b : Bool). b || list_any (listed.same_element (written_element x)) (map written_element xs)) (same_written c well x y h (among y first))
    ∙ ap (λ (b : Bool). same_element x y || b) (any_written c well x h xs (λ z k. among z (later k)))

pub tried_written : (c : PosedCase) → IsWellFormed c → (x : AbsElement) (x' : Element) → AreElements c (x ∷ []) (x' ∷ []) → (xs : List AbsElement) (tried : List Element) → AreElements c xs tried → (b : Bool) → b ≡ list_any (listed.same_element x') tried → b ≡ list_any (same_element x) xs
tried_written c well x x' h xs tried are b tells =
    tells ∙ ap (λ (y : Element). list_any (listed.same_element y) tried) (alone h.written) ∙ ap (list_any (listed.same_element (written_element x))) are.written ∙ any_written c well x (h.among x first) xs are.among
  where
    alone : {y z : Element} → y ∷ [] ≡ z ∷ [] → y ≡ z
    alone e = cc

-- the first element and the others
pub record AreMore (c : PosedCase) (ys : List AbsElement) (x' : Element) (others : List Element) : Type 0 where
  pub y : AbsElement
  pub rest : List AbsElement
  pub are : ys ≡ y ∷ rest
  pub one : AreElements c (y ∷ []) (x' ∷ [])
  pub more : AreElements c rest others

pub elements_more : (c : PosedCase) (ys : List AbsElement) (elements others : List Element) (x' : Element) → elements ≡ x' ∷ others → AreElements c ys elements → AreMore c ys x' others
elements_more c [] elements others x' e h = absurd (let f = sym h.written ∙ e in cc)
elements_more c (y ∷ rest) elements others x' e h =
    let f : written_element y ∷ map written_element rest ≡ x' ∷ others = sym h.written ∙ e in
    record {
      y = y;
      rest = rest;
      are = refl;
      one = record { written = ap (λ (z : Element). z ∷ []) (heads f); among = λ z m. h.among z (only m) };
      more = record { written = tails f; among = λ z m. h.among z (later m) };
    }
  where
    heads : {x y : Element} {xs ys : List Element} → x ∷ xs ≡ y ∷ ys → y ≡ x
    heads e = cc

    tails : {x y : Element} {xs ys : List Element} → x ∷ xs ≡ y ∷ ys → ys ≡ xs
    tails e = cc

    only : {z : AbsElement} → Has (y ∷ []) z → Has (y ∷ rest) z
    only first = first
    only (later m) = elim m [ ]

no_elements : (c : PosedCase) (ys : List AbsElement) (elements : List Element) → elements ≡ [] → AreElements c ys elements → ys ≡ []
no_elements c [] elements e h = refl
no_elements c (y ∷ rest) elements e h = absurd (let f = sym h.written ∙ e in cc)

-- ---- distinct elements

same_is : (x y : AbsElement) → same_element x y ≡ true → x ≡ y
same_is x y e i = record { family = same_element-family x y e i; indexes = same_element-indexes x y e i }

pub other_element : (x y : AbsElement) → x ≢ y → same_element x y ≡ false
other_element x y apart = elim (cases_Bool (same_element x y)) [
  | inl e ↦ absurd (apart (same_is x y e))
  | inr e ↦ e
]

fresh_of : (front : List AbsElement) (y : AbsElement) (rest : List AbsElement) → AreApartElements (front ++ y ∷ rest) → list_any (same_element y) front ≡ false
fresh_of [] y rest apart = refl
fresh_of (z ∷ front) y rest apart = ap (λ (b : Bool). b || list_any (same_element y) front) (other_element y z (λ e. apart.0 y (Has-right front first) (sym e))) ∙ fresh_of front y rest apart.1

without : (front : List AbsElement) (y : AbsElement) (rest : List AbsElement) → AreApartElements (front ++ y ∷ rest) → AreApartElements (front ++ rest)
without [] y rest apart = apart.1
without (z ∷ front) y rest apart = (λ w h. apart.0 w (moved front h), without front y rest apart.1)
  where
    moved : {w : AbsElement} (zs : List AbsElement) → Has (zs ++ rest) w → Has (zs ++ y ∷ rest) w
    moved [] h = later h
    moved (v ∷ zs) first = first
    moved (v ∷ zs) (later h) = later (moved zs h)

-- ---- one after the other

module _ (p : Problem) (c : PosedCase) (d e f : Diagram) (order : List ℕ) (next : Bool) (xs : List AbsElement) where
  abbrev others_in : List AbsElement → List AbsElement
  others_in ys = filter (λ y. not (list_any (same_element y) xs)) ys

  pub last_seen : (ys : List AbsElement) (elements : List Element) → elements ≡ [] → AreElements c ys elements → (front : List AbsElement) (cells : List (Cell Ref)) → IsSeen table d p cells (view_coded c order front next) → IsSeen table d p cells (view_coded c order (front ++ others_in ys) next)
  last_seen ys elements none h front cells seen =
      subst (λ (zs : List AbsElement). IsSeen table d p cells (view_coded c order zs next)) (sym (ap (λ (ws : List AbsElement). front ++ others_in ws) (no_elements c ys elements none h) ∙ append-nil front)) seen

  next_front : (b : Bool) (front : List AbsElement) (y : AbsElement) (rest : List AbsElement) → list_any (same_element y) xs ≡ b → (if b then front else front ++ y ∷ []) ++ others_in rest ≡ front ++ others_in (y ∷ rest)
  next_front true front y rest is = ap (λ (b : Bool). front ++ (if not b then y ∷ others_in rest else others_in rest)) (sym is)
  next_front false front y rest is = append_again front (others_in rest) y ∙ ap (λ (b : Bool). front ++ (if not b then y ∷ others_in rest else others_in rest)) (sym is)

  next_apart : (b : Bool) (front : List AbsElement) (y : AbsElement) (rest : List AbsElement) → AreApartElements (front ++ y ∷ rest) → AreApartElements ((if b then front else front ++ y ∷ []) ++ rest)
  next_apart true front y rest apart = without front y rest apart
  next_apart false front y rest apart = subst AreApartElements (sym (append_again front rest y)) apart

  pub more_seen : (ys : List AbsElement) (elements others : List Element) (x' : Element) → elements ≡ x' ∷ others → AreElements c ys elements → (front : List AbsElement) → AreApartElements (front ++ ys) → (old mid new : List (Cell Ref)) →
      ((x : AbsElement) → AreElements c (x ∷ []) (x' ∷ []) → list_any (same_element x) front ≡ false → IsSeen table d p old (view_coded c order front next) → IsSeen table e p mid (view_coded c order (if list_any (same_element x) xs then front else front ++ x ∷ []) next)) →
      ((rest : List AbsElement) → AreElements c rest others → (more : List AbsElement) → AreApartElements (more ++ rest) → IsSeen table e p mid (view_coded c order more next) → IsSeen table f p new (view_coded c order (more ++ others_in rest) next)) →
      IsSeen table d p old (view_coded c order front next) → IsSeen table f p new (view_coded c order (front ++ others_in ys) next)
  more_seen ys elements others x' is h front apart old mid new one goes seen =
      let r = elements_more c ys elements others x' is h in
      let apart' : AreApartElements (front ++ r.y ∷ r.rest) = subst (λ (zs : List AbsElement). AreApartElements (front ++ zs)) r.are apart in
      let b : Bool = list_any (same_element r.y) xs in
      subst (λ (zs : List AbsElement). IsSeen table f p new (view_coded c order (front ++ others_in zs) next)) (sym r.are)
      (subst (λ (zs : List AbsElement). IsSeen table f p new (view_coded c order zs next)) (next_front b front r.y r.rest refl)
      (goes r.rest r.more (if b then front else front ++ r.y ∷ []) (next_apart b front r.y r.rest apart') (one r.y r.one (fresh_of front r.y r.rest apart') seen)))
