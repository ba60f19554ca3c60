-- Elements that are worked out, the wires, have no function: the others have theirs, in their order.
use Rattle.std.proofs.Common.{◌≡◌, List, [], ◌∷◌, ◌++◌, map, Bool, true, false, ◌&&◌, ◌||◌, not, if◌then◌else◌, refl, sym, ap, subst, ◌∙◌}
use Rattle.std.specs.List.{filter, list_any}
use Rattle.std.proofs.lemmas.List.{append-nil}
use Rattle.law_obligations.specs.Sets.{Has, first, later}
use Rattle.law_obligations.specs.Obligations.{Demanded}
use Rattle.law_obligations.specs.Cones.{AbsElement, same_element}
use Rattle.law_obligations.specs.Readings.{PosedCase, Slot}
use Rattle.law_reports.specs.CaseLists.{moving_first}
use Rattle.law_arrangements.specs.Arrangements.{Arrangement}
use Rattle.law_arrangements.specs.ArrangedLists.{has_bits}
use Rattle.bdd_ops.specs.Functions.{Function}
use Rattle.smv_core.specs.declared.flat.Element.{Element}
use Rattle.smv_elements.specs.Elements as listed
use Rattle.smv_problem.specs.Written.{written_element}
use Rattle.smv_problem.specs.WellFormed.{IsWellFormed}
use Rattle.smv_encode.specs.Parts.{AreElements, is_turn, has_turn}
use Rattle.smv_encode.specs.declared.elements.Turn.{Turn}
use Rattle.smv_encode.specs.declared.elements.Turn.TheVariants as turn
use Rattle.smv_encode.proofs.Choices.{same_written}
use Rattle.smv_encode.proofs.Whole.{every_turn, moving_turns}

-- ---- an element is one of the wires

any_written : (c : PosedCase) → IsWellFormed c → (x : AbsElement) → Has c.elements x → (xs : List AbsElement) → ((y : AbsElement) → Has xs y → Has c.elements y) →
    list_any (listed.same_element (written_element x)) (map written_element xs) ≡ list_any (same_element x) xs
any_written c well x h [] among = refl
any_written c well x h (y ∷ xs) among =
    ap (λ (b : Bool). b || list_any (listed.same_element (written_element x)) (map written_element xs)) (same_written c well x y h (among y first))
    ∙ ap (λ (b : Bool). same_element x y || b) (any_written c well x h xs (λ z k. among z (later k)))

wire_written : (c : PosedCase) → IsWellFormed c → (x : AbsElement) (x' : Element) → Has c.elements x → x' ≡ written_element x → (xs : List AbsElement) (wires : List Element) → AreElements c xs wires → list_any (listed.same_element x') wires ≡ list_any (same_element x) xs
wire_written c well x x' h e xs wires are =
    ap (λ (y : Element). list_any (listed.same_element y) wires) e ∙ ap (list_any (listed.same_element (written_element x))) are.written ∙ any_written c well x h xs are.among

module _ (c : PosedCase) (well : IsWellFormed c) (o : Arrangement) (wires : List Element) (are : AreElements c (o.determined ++ o.idle) wires) (slot : Slot) (x' : Element) (h : Has c.elements slot.element) (e : x' ≡ written_element slot.element)
    (ds : List Demanded) (t : Turn) (b : Bool) (tells : b ≡ list_any (listed.same_element x') wires) where
  is_wire : b ≡ list_any (same_element slot.element) (o.determined ++ o.idle)
  is_wire = tells ∙ wire_written c well slot.element x' h e (o.determined ++ o.idle) wires are

  pub wire_has_none : b ≡ true → false ≡ has_turn o ds t slot
  wire_has_none on = sym (ap (λ (w : Bool). not w && is_turn ds t slot) (sym is_wire ∙ on))

  pub other_has_turn : b ≡ false → (taken : Bool) → taken ≡ is_turn ds t slot → taken ≡ has_turn o ds t slot
  other_has_turn off taken is = is ∙ sym (ap (λ (w : Bool). not w && is_turn ds t slot) (sym is_wire ∙ off))

-- ---- in order

both_filtered : (p q : Slot → Bool) (xs : List Slot) → filter (λ x. q x && p x) xs ≡ filter p (filter q xs)
both_filtered p q [] = refl
both_filtered p q (x ∷ xs) = by (q x) (both_filtered p q xs)
  where
    by : (b : Bool) → filter (λ x. q x && p x) xs ≡ filter p (filter q xs) → (if b && p x then x ∷ filter (λ x. q x && p x) xs else filter (λ x. q x && p x) xs) ≡ filter p (if b then x ∷ filter q xs else filter q xs)
    by true e = ap (λ (ys : List Slot). if p x then x ∷ ys else ys) e
    by false e = e

turned : (o : Arrangement) (ds : List Demanded) (t : Turn) (ss : List Slot) → filter (has_turn o ds t) ss ≡ filter (is_turn ds t) (filter (has_bits o) ss)
turned o ds t ss = both_filtered (is_turn ds t) (has_bits o) ss

pub every_wired : (o : Arrangement) (ds : List Demanded) (ss : List Slot) (f : Slot → Function) (gs : List Function) → map f (filter (has_turn o ds turn.All) ss) ++ gs ≡ map f (filter (has_bits o) ss) ++ gs
every_wired o ds ss f gs = ap (λ (xs : List Slot). map f xs ++ gs) (turned o ds turn.All ss) ∙ every_turn ds (filter (has_bits o) ss) f gs

pub moving_wired : (o : Arrangement) (ds : List Demanded) (ss : List Slot) (f : Slot → Function) (gs : List Function) →
    map f (filter (has_turn o ds turn.Moving) ss) ++ (map f (filter (has_turn o ds turn.Others) ss) ++ gs) ≡ map f (moving_first ds (filter (has_bits o) ss)) ++ gs
moving_wired o ds ss f gs =
    ap (λ (xs : List Slot). map f xs ++ (map f (filter (has_turn o ds turn.Others) ss) ++ gs)) (turned o ds turn.Moving ss)
    ∙ ap (λ (xs : List Slot). map f (filter (is_turn ds turn.Moving) (filter (has_bits o) ss)) ++ (map f xs ++ gs)) (turned o ds turn.Others ss)
    ∙ moving_turns ds (filter (has_bits o) ss) f gs

-- ---- with no element idle

pub all_wires : (c : PosedCase) (done : List AbsElement) (wires : List Element) → AreElements c done wires → AreElements c (done ++ []) wires
all_wires c done wires are = subst (λ (xs : List AbsElement). AreElements c xs wires) (sym (append-nil done)) are

pub no_wires : (c : PosedCase) (wires : List Element) → wires ≡ [] → AreElements c [] wires
no_wires c wires none = record { written = none; among = λ x h. elim h [ ] }
