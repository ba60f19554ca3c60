-- Elements that are tried one after the other: one is worked out more, or has its coded cell after all.
use Rattle.std.proofs.Common.{◌≡◌, ℕ, List, [], ◌∷◌, ◌++◌, map, length, Bool, true, false, not, ◌&&◌, ◌||◌, inl, inr, if◌then◌else◌, refl, sym, ap, subst, ◌∙◌}
use Rattle.std.proofs.lemmas.Bool.{cases_Bool}
use Rattle.std.proofs.lemmas.List.{append-nil, map-append}
use Rattle.std.specs.List.{filter, list_any}
use Rattle.law_lists.proofs.Lists.{append_again}
use Rattle.law_lists.proofs.Booleans.{clash, not_left, not_right}
use Rattle.smv_core.specs.declared.flat.Element.{Element}
use Rattle.law_obligations.specs.Sets.{Has, first, later}
use Rattle.law_obligations.specs.May.{Kept}
use Rattle.law_obligations.specs.Cones.{AbsElement, element, same_element, kept}
use Rattle.law_obligations.specs.Readings.{PosedCase, state_bits, reading}
use Rattle.law_obligations.proofs.ConeFacts.{same_element-itself, same_element-family, same_element-indexes}
use Rattle.law_obligations.proofs.Members.{Has-left, Has-right, one_of_one}
use Rattle.law_obligations.proofs.ReadBack.{reading_is_state}
use Rattle.law_arrangements.specs.Arrangements.{EachWith, IsArrangement, spread}
use Rattle.law_arrangements.specs.Orders.{IsOrder, arranged, wired}
use Rattle.law_arrangements.proofs.OrderLaws.{order_arranges}
use Rattle.law_arrangements.proofs.Views.{all_found, none_left, none_right, none_both}
use Rattle.law_wires.specs.Tries.{IsTry, AreDetermined}
use Rattle.law_wires.proofs.Wired.{left_may_go, wires_arrange}
use Rattle.bdd_store.specs.declared.Ref.{Ref}
use Rattle.bdd_store.specs.Diagram.{Diagram, IsLive, Keeps, table}
use Rattle.bdd_codes.specs.Codes.{bits_at}
use Rattle.smv_orders.specs.Places.{ArePlaces}
use Rattle.smv_problem.specs.declared.problem.Problem.{Problem}
use Rattle.smv_problem.specs.Written.{written_element}
use Rattle.smv_problem.specs.WellFormed.{IsWellFormed, AreApartElements}
use Rattle.smv_cells.specs.declared.cells.Cell.{Cell}
use Rattle.smv_conditions.specs.Offers.{AreOffersMade}
use Rattle.smv_cells.specs.Cells.{AreCellsMade}
use Rattle.smv_cells.specs.Seen.{IsSeen}
use Rattle.smv_encode.specs.declared.cells.Cells.{Cells}
use Rattle.smv_encode.specs.Coded.{AreAmong, state_at, view_at}
use Rattle.smv_encode.specs.Encoded.{AreLiveCells, AreCellsOf}
use Rattle.smv_encode.specs.Parts.{AreElements, AreWiredCells}
use Rattle.smv_encode.proofs.Calls.{list_kept, list_seen}
use Rattle.smv_wires.specs.Wired.{kept_beside, state_beside, view_beside}
use Rattle.smv_wires.specs.Tried.{KeepsOneMore, IsUnderWay, AreCellsBeside, AreFound, AreTried, view_coded}
use Rattle.smv_wires.proofs.Added.{kept_not, kept_after}
use Rattle.smv_wires.proofs.Behind.{other_element}
use Rattle.smv_wires.proofs.Values.{made_pushed}

-- ---- an element that is tried

pub try_of : (c : PosedCase) (order : List ℕ) → IsOrder (state_bits c) order → (done : List AbsElement) (x : AbsElement) (left : List AbsElement) → IsUnderWay c done (x ∷ left) → IsTry c order done x left
try_of c order is done x left under = let all = order_arranges c order is in record {
  are_elements = under.are_elements;
  are_apart = under.are_apart;
  have_places = λ slot h e i lt. all.have_places slot h refl i lt;
  are_determined = under.are_determined;
}

-- it is none of those done
turned : (x y : AbsElement) → same_element x y ≡ false → same_element y x ≡ false
turned x y e = elim (cases_Bool (same_element y x)) [
  | inl t ↦
      let is : y ≡ x = λ i. record { family = same_element-family y x t i; indexes = same_element-indexes y x t i } in
      absurd (clash (subst (λ (z : AbsElement). same_element z y ≡ true) is (same_element-itself y)) e)
  | inr f ↦ f
]

not_done : (done : List AbsElement) (x : AbsElement) (left : List AbsElement) → EachWith (λ behind y. list_any (same_element y) behind ≡ false) (done ++ x ∷ left) → list_any (same_element x) done ≡ false
not_done [] x left apart = refl
not_done (y ∷ done) x left apart =
    ap (λ (b : Bool). b || list_any (same_element x) done) (turned y x (not_left (same_element y x) (list_any (same_element y) left) (none_right (same_element y) done (x ∷ left) apart.0))) ∙ not_done done x left apart.1

-- ---- an element that gets its coded cell after all

go_apart : (done : List AbsElement) (x : AbsElement) (left : List AbsElement) → EachWith (λ behind y. list_any (same_element y) behind ≡ false) (done ++ x ∷ left) → EachWith (λ behind y. list_any (same_element y) behind ≡ false) (done ++ left)
go_apart [] x left apart = apart.1
go_apart (y ∷ done) x left apart = (
  none_both (same_element y) done left (none_left (same_element y) done (x ∷ left) apart.0) (not_right (same_element y x) (list_any (same_element y) left) (none_right (same_element y) done (x ∷ left) apart.0)),
  go_apart done x left apart.1,
)

go_has : (done : List AbsElement) (x : AbsElement) (left : List AbsElement) {y : AbsElement} → Has (done ++ left) y → Has (done ++ x ∷ left) y
go_has [] x left h = later h
go_has (z ∷ done) x left first = first
go_has (z ∷ done) x left (later h) = later (go_has done x left h)

pub goes_on : (c : PosedCase) (done : List AbsElement) (x : AbsElement) (left : List AbsElement) → IsUnderWay c done (x ∷ left) → IsUnderWay c done left
goes_on c done x left under = record {
  are_elements = λ y h. under.are_elements y (go_has done x left h);
  are_apart = go_apart done x left under.are_apart;
  are_determined = left_may_go c done x left under.are_determined;
}

module _ (p : Problem) (c : PosedCase) (well : IsWellFormed c) (order : List ℕ) (is : IsOrder (state_bits c) order) (done : List AbsElement) (x : AbsElement) (left : List AbsElement) (under : IsUnderWay c done (x ∷ left)) (next : Bool) where
  pub keeps_again : KeepsOneMore x (kept_beside c (x ∷ left)) (kept_beside c left)
  keeps_again = record {
    fresh = kept_not p c well order done x left (try_of c order is done x left under) next;
    grows = kept_after p c well order done x left (try_of c order is done x left under) next;
  }

  -- its bits are read as they are
  pub reads_again : (a : ℕ → Bool) → state_beside c order done (x ∷ left) next a x.family x.indexes ≡ state_at c (arranged order) next a x.family x.indexes
  reads_again a =
      (all_found c well.is_case done (x ∷ left) under.are_determined under.are_apart (λ y h. under.are_elements y (Has-left (x ∷ left) h)) (reading c (spread order (bits_at next a))) (reading_is_state c well.is_case (spread order (bits_at next a)))).agrees
      x.family x.indexes (not_done done x left under.are_apart)

-- ---- an element that is worked out

pub one_done : (c : PosedCase) (done : List AbsElement) (x : AbsElement) (left : List AbsElement) → IsUnderWay c done (x ∷ left) → AreDetermined c (done ++ x ∷ []) left → IsUnderWay c (done ++ x ∷ []) left
one_done c done x left under determined = record {
  are_elements = λ y h. under.are_elements y (subst (λ (ys : List AbsElement). Has ys y) (append_again done left x) h);
  are_apart = subst (EachWith (λ behind y. list_any (same_element y) behind ≡ false)) (sym (append_again done left x)) under.are_apart;
  are_determined = determined;
}

pub wired_more : (c : PosedCase) (order : List ℕ) (x : AbsElement) (x' : Element) → x' ≡ written_element x → (left : List AbsElement) (d e : Diagram) (p : Problem) (old new : List Element) (cells more : Cells) (t : AreTried c order (x ∷ left) d p old cells) → new ≡ old ++ x' ∷ []
    → (current next : List (Cell Ref)) → more.current.items ≡ current → more.next.items ≡ next → AreFound c order t.done x left e p current next → AreTried c order left e p new more
wired_more c order x x' own left d e p old new cells more t pushed current next ec en found = record {
  done = t.done ++ x ∷ [];
  wires = pushed ∙ ap (λ (ws : List Element). ws ++ x' ∷ []) t.wires ∙ ap (λ (w : Element). map written_element t.done ++ w ∷ []) own ∙ sym (map-append written_element t.done (x ∷ []));
  under_way = one_done c t.done x left t.under_way found.are_determined;
  cells = record {
    current = subst (λ (cs : List (Cell Ref)). IsSeen table e p cs (view_beside c order (t.done ++ x ∷ []) left false)) (sym ec) found.current;
    next = subst (λ (cs : List (Cell Ref)). IsSeen table e p cs (view_beside c order (t.done ++ x ∷ []) left true)) (sym en) found.next;
  };
}

pub back_again : (c : PosedCase) (order : List ℕ) (x : AbsElement) (left : List AbsElement) (d e : Diagram) (p : Problem) (wires : List Element) (cells more : Cells) (t : AreTried c order (x ∷ left) d p wires cells) → AreCellsBeside c order t.done left e p more → AreTried c order left e p wires more
back_again c order x left d e p wires cells more t beside = record { done = t.done; wires = t.wires; under_way = goes_on c t.done x left t.under_way; cells = beside }

-- those of a later store
pub beside_on : (c : PosedCase) (order : List ℕ) (done left : List AbsElement) (d e : Diagram) (p : Problem) (cells more : Cells) → more.current.items ≡ cells.current.items → more.next.items ≡ cells.next.items → Keeps d e → AreLiveCells d cells → AreCellsBeside c order done left d p cells → AreCellsBeside c order done left e p more
beside_on c order done left d e p cells more ec en k live are = record {
  current = subst (λ (cs : List (Cell Ref)). IsSeen table e p cs (view_beside c order done left false)) (sym ec) (list_seen d e p cells.current.items (view_beside c order done left false) k live.current are.current);
  next = subst (λ (cs : List (Cell Ref)). IsSeen table e p cs (view_beside c order done left true)) (sym en) (list_seen d e p cells.next.items (view_beside c order done left true) k live.next are.next);
}

-- both lists with a cell more are made
pub live_more : (d : Diagram) (cells more : Cells) (current next : Cell Ref) → AreLiveCells d cells → AreOffersMade (IsLive d) current.values → AreOffersMade (IsLive d) next.values → more.current.items ≡ cells.current.items ++ current ∷ [] → more.next.items ≡ cells.next.items ++ next ∷ [] → AreLiveCells d more
live_more d cells more current next live c n ec en = record { current = made_pushed d cells.current.items more.current.items current live.current c ec; next = made_pushed d cells.next.items more.next.items next live.next n en }

-- and so are those of a later store that are the same
pub live_same : (d e : Diagram) (cells more : Cells) → more.current.items ≡ cells.current.items → more.next.items ≡ cells.next.items → Keeps d e → AreLiveCells d cells → AreLiveCells e more
live_same d e cells more ec en k live = record {
  current = subst (AreCellsMade (IsLive e)) (sym ec) (list_kept d e cells.current.items k live.current);
  next = subst (AreCellsMade (IsLive e)) (sym en) (list_kept d e cells.next.items k live.next);
}

-- the first of those left
pub first_left : (c : PosedCase) (order : List ℕ) (d : Diagram) (p : Problem) (wires : List Element) (cells : Cells) (left : List AbsElement) (tried others : List Element) (x' : Element) → tried ≡ x' ∷ others → tried ≡ map written_element left →
    (x : AbsElement) × (rest : List AbsElement) × (left ≡ x ∷ rest) × (x' ≡ written_element x) × (others ≡ map written_element rest)
first_left c order d p wires cells [] tried others x' e f = absurd (let g = sym e ∙ f in cc)
first_left c order d p wires cells (x ∷ rest) tried others x' e f = let g : x' ∷ others ≡ written_element x ∷ map written_element rest = sym e ∙ f in (x, rest, refl, heads g, tails g)
  where
    heads : {y z : Element} {ys zs : List Element} → y ∷ ys ≡ z ∷ zs → y ≡ z
    heads e = cc

    tails : {y z : Element} {ys zs : List Element} → y ∷ ys ≡ z ∷ zs → ys ≡ zs
    tails e = cc

pub none_tried : (c : PosedCase) (order : List ℕ) (d : Diagram) (p : Problem) (wires : List Element) (cells : Cells) (left : List AbsElement) (tried : List Element) → tried ≡ [] → tried ≡ map written_element left → AreTried c order left d p wires cells → AreTried c order [] d p wires cells
none_tried c order d p wires cells [] tried e f t = t
none_tried c order d p wires cells (x ∷ rest) tried e f t = absurd (let g = sym e ∙ f in cc)

pub try_then : (c : PosedCase) (order : List ℕ) (d e f : Diagram) (p : Problem) (old mid new : List Element) (cells more last : Cells) (left : List AbsElement) (tried others : List Element) (x' : Element) → tried ≡ x' ∷ others → tried ≡ map written_element left →
    ((x : AbsElement) (rest : List AbsElement) → x' ≡ written_element x → tried ≡ map written_element (x ∷ rest) → AreTried c order (x ∷ rest) d p old cells → AreTried c order rest e p mid more) →
    ((rest : List AbsElement) → others ≡ map written_element rest → AreTried c order rest e p mid more → AreTried c order [] f p new last) → AreTried c order left d p old cells → AreTried c order [] f p new last
try_then c order d e f p old mid new cells more last left tried others x' is are one goes t =
    let r = first_left c order d p old cells left tried others x' is are in
    goes r.1 r.4 (one r.0 r.1 r.3 (are ∙ ap (map written_element) r.2) (subst (λ (ys : List AbsElement). AreTried c order ys d p old cells) r.2 t))

-- the element of a try, as it is written
pub tried_element : (c : PosedCase) (done : List AbsElement) (x : AbsElement) (left : List AbsElement) → IsUnderWay c done (x ∷ left) → (x' : Element) → x' ≡ written_element x → AreElements c (x ∷ []) (x' ∷ [])
tried_element c done x left under x' e = record {
  written = ap (λ (y : Element). y ∷ []) e;
  among = λ y h. subst (Has c.elements) (sym (one_of_one h)) (under.are_elements x (Has-right done first));
}

-- ---- the begin

-- what is kept by the others
kept_others : (c : PosedCase) → IsWellFormed c → (xs : List AbsElement) → kept (filter (λ y. not (list_any (same_element y) xs)) c.elements) ≡ kept_beside c xs
kept_others c well xs i family ps = (by c.elements ∙ ap (λ (keeps : Kept). keeps family ps && not (list_any (same_element (element family ps)) xs)) (sym well.is_case.are_kept)) i
  where
    moved : (y : AbsElement) → same_element (element family ps) y ≡ true → list_any (same_element y) xs ≡ list_any (same_element (element family ps)) xs
    moved y e =
        let is : element family ps ≡ y = λ i. record { family = same_element-family (element family ps) y e i; indexes = same_element-indexes (element family ps) y e i } in
        ap (λ (z : AbsElement). list_any (same_element z) xs) (sym is)

    step : (y : AbsElement) (ys : List AbsElement) (b : Bool) → list_any (same_element y) xs ≡ b → list_any (same_element (element family ps)) (filter (λ y. not (list_any (same_element y) xs)) ys) ≡ (list_any (same_element (element family ps)) ys && not (list_any (same_element (element family ps)) xs)) →
        list_any (same_element (element family ps)) (if not b then y ∷ filter (λ y. not (list_any (same_element y) xs)) ys else filter (λ y. not (list_any (same_element y) xs)) ys) ≡ (list_any (same_element (element family ps)) (y ∷ ys) && not (list_any (same_element (element family ps)) xs))
    step y ys true is e =
        e ∙ dropped (same_element (element family ps) y) (list_any (same_element (element family ps)) ys) (list_any (same_element (element family ps)) xs) (λ s. sym (moved y s) ∙ is)
      where
        dropped : (s t h : Bool) → (s ≡ true → h ≡ true) → t && not h ≡ (s || t) && not h
        dropped true t true g = gone t
          where
            gone : (t : Bool) → t && false ≡ false
            gone true = refl
            gone false = refl
        dropped true t false g = absurd (clash (g refl) refl)
        dropped false t h g = refl
    step y ys false is e =
        ap (λ (b : Bool). same_element (element family ps) y || b) e
        ∙ taken (same_element (element family ps) y) (list_any (same_element (element family ps)) ys) (list_any (same_element (element family ps)) xs) (λ s. sym (moved y s) ∙ is)
      where
        taken : (s t h : Bool) → (s ≡ true → h ≡ false) → s || (t && not h) ≡ (s || t) && not h
        taken true t false g = refl
        taken true t true g = absurd (clash refl (g refl))
        taken false t h g = refl

    by : (ys : List AbsElement) → list_any (same_element (element family ps)) (filter (λ y. not (list_any (same_element y) xs)) ys) ≡ (list_any (same_element (element family ps)) ys && not (list_any (same_element (element family ps)) xs))
    by [] = refl
    by (y ∷ ys) = step y ys (list_any (same_element y) xs) refl (by ys)

each_apart : (xs : List AbsElement) → AreApartElements xs → EachWith (λ behind y. list_any (same_element y) behind ≡ false) xs
each_apart [] apart = tt
each_apart (x ∷ xs) apart = (none xs apart.0, each_apart xs apart.1)
  where
    none : (ys : List AbsElement) → ((y : AbsElement) → Has ys y → x ≡ y → ⊥) → list_any (same_element x) ys ≡ false
    none [] h = refl
    none (y ∷ ys) h = ap (λ (b : Bool). b || list_any (same_element x) ys) (other_element x y (h y first)) ∙ none ys (λ z k. h z (later k))

pub no_cells : (d : Diagram) (cells : List (Cell Ref)) → cells ≡ [] → AreCellsMade (IsLive d) cells
no_cells d cells none = subst (AreCellsMade (IsLive d)) (sym none) tt

pub begun : (c : PosedCase) → IsWellFormed c → (order : List ℕ) (xs : List AbsElement) → AreAmong c.elements xs → AreApartElements xs → (d : Diagram) (p : Problem) (wires : List Element) → wires ≡ [] → (cells : Cells)
    → IsSeen table d p cells.current.items (view_coded c order (filter (λ y. not (list_any (same_element y) xs)) c.elements) false) → IsSeen table d p cells.next.items (view_coded c order (filter (λ y. not (list_any (same_element y) xs)) c.elements) true) → AreTried c order xs d p wires cells
begun c well order xs among apart d p wires none cells current next = record {
  done = [];
  wires = none;
  under_way = record { are_elements = among; are_apart = each_apart xs apart; are_determined = tt };
  cells = record { current = at false cells.current.items current; next = at true cells.next.items next };
}
  where
    at : (next : Bool) (cs : List (Cell Ref)) → IsSeen table d p cs (view_coded c order (filter (λ y. not (list_any (same_element y) xs)) c.elements) next) → IsSeen table d p cs (view_beside c order [] xs next)
    at next cs seen = subst (λ (keeps : Kept). IsSeen table d p cs (record { world = c.problem.world; kept = keeps; state = state_at c (arranged order) next })) (kept_others c well xs) seen

-- ---- the end

and_true : (b : Bool) → b && true ≡ b
and_true true = refl
and_true false = refl

pub none_left_over : (c : PosedCase) → IsWellFormed c → (order : List ℕ) (d : Diagram) (p : Problem) (wires : List Element) (cells : Cells) (t : AreTried c order [] d p wires cells) → AreCellsOf c (wired order t.done) d p cells
none_left_over c well order d p wires cells t = record {
  states = λ s. (all_found c well.is_case t.done [] t.under_way.are_determined t.under_way.are_apart (λ y h. t.under_way.are_elements y (Has-left [] h)) (reading c (spread order s)) (reading_is_state c well.is_case (spread order s))).is_state;
  current = at false cells.current.items t.cells.current;
  next = at true cells.next.items t.cells.next;
}
  where
    at : (next : Bool) (cs : List (Cell Ref)) → IsSeen table d p cs (view_beside c order t.done [] next) → IsSeen table d p cs (view_at c (wired order t.done) next)
    at next cs seen = subst (λ (keeps : Kept). IsSeen table d p cs (record { world = c.problem.world; kept = keeps; state = state_at c (wired order t.done) next })) (λ i family ps. and_true (c.problem.kept family ps) i) seen

pub whole_wired : (c : PosedCase) → IsWellFormed c → (order : List ℕ) (d : Diagram) (p : Problem) (places : List ℕ) → ArePlaces order 0 places → length order ≡ length places → (wires shown : List Element) → shown ≡ wires → (cells : Cells) (t : AreTried c order [] d p wires cells) → AreWiredCells c order t.done d p places shown cells
whole_wired c well order d p places placed long wires shown same cells t = record {
  are_places = placed;
  are_counted = long;
  are_wires = record { written = same ∙ t.wires; among = λ y h. t.under_way.are_elements y (Has-left [] h) };
  are_cells = none_left_over c well order d p wires cells t;
}

pub whole_arranged : (c : PosedCase) (order : List ℕ) → IsOrder (state_bits c) order → (d : Diagram) (p : Problem) (wires : List Element) (cells : Cells) (t : AreTried c order [] d p wires cells) → IsArrangement c (wired order t.done)
whole_arranged c order is d p wires cells t =
    wires_arrange c order is t.done (λ y h. t.under_way.are_elements y (Has-left [] h)) (subst (EachWith (λ behind y. list_any (same_element y) behind ≡ false)) (append-nil t.done) t.under_way.are_apart) t.under_way.are_determined
