-- Elements that are picked by their numbers, each once.
use Rattle.std.proofs.Common.{◌≡◌, ℕ, zero, suc, ◌+◌, ◌<◌, ◌≤◌, List, [], ◌∷◌, ◌++◌, map, length, get_or, take, false, refl, sym, ap, subst, ◌∙◌, inl, inr, Some, arith, nat_eq}
use Rattle.std.specs.List.{IsDistinct, AllByRecursion}
use Rattle.std.proofs.Math.ListN.{get_or-map}
use Rattle.std.proofs.lemmas.Bool.{cases_Bool}
use Rattle.std.proofs.lemmas.List.{get_or-take, get_or_default, length-take, map-append, take_more}
use Rattle.std.proofs.lemmas.Map.Keys.{IsDistinct-head, IsDistinct-tail, IsDistinct-from_apart}
use Rattle.law_lists.proofs.Booleans.{clash}
use Rattle.law_lists.proofs.Lists.{length_map}
use Rattle.law_lists.proofs.Numbers.{nat_eq-is}
use Rattle.smv_core.specs.declared.flat.Element.{Element}
use Rattle.law_obligations.specs.Sets.{Has, first, later}
use Rattle.law_obligations.specs.Cones.{AbsElement}
use Rattle.law_obligations.specs.Outlines.{place_of}
use Rattle.law_obligations.specs.Readings.{PosedCase}
use Rattle.law_obligations.proofs.Members.{Has-from_map}
use Rattle.law_obligations.proofs.Same.{nat_eq-itself}
use Rattle.law_arrangements.specs.Orders.{IsOrder}
use Rattle.law_arrangements.proofs.OrderLaws.{order_long, places_own}
use Rattle.smv_problem.specs.declared.problem.Problem.{Problem}
use Rattle.smv_problem.specs.Written.{written, written_element}
use Rattle.smv_problem.specs.WellFormed.{OfCases, AreApartElements}
use Rattle.smv_bit_order.specs.Wires.{element_at}

-- ---- lists by index

get_there : {X : Type 0} (xs : List X) (i : ℕ) (d : X) → i < length xs → Has xs (get_or xs i d)
get_there [] i d l = absurd (omega arith)
get_there (x ∷ xs) zero d l = first
get_there (x ∷ xs) (suc i) d l = later (get_there xs i d (omega arith))

record IsAt (ns : List ℕ) (n : ℕ) : Type 0 where
  place : ℕ
  less : place < length ns
  is : get_or ns place 0 ≡ n

there_at : (ns : List ℕ) (n : ℕ) → Has ns n → IsAt ns n
there_at [] n h = elim h [ ]
there_at (n ∷ ns) _ first = record { place = 0; less = omega arith; is = refl }
there_at (m ∷ ns) n (later h) = let r = there_at ns n h in record { place = suc r.place; less = (let l = r.less in omega (arith, l)); is = r.is }

all_has : (P : ℕ → Type 0) (ns : List ℕ) → AllByRecursion P ns → (n : ℕ) → Has ns n → P n
all_has P [] all n h = elim h [ ]
all_has P (n ∷ ns) all _ first = all.0
all_has P (m ∷ ns) all n (later h) = all_has P ns all.1 n h

-- ---- elements that are apart

get_once : (xs : List AbsElement) → AreApartElements xs → (i j : ℕ) (d : AbsElement) → i < length xs → j < length xs → get_or xs i d ≡ get_or xs j d → i ≡ j
get_once [] apart i j d l k e = absurd (omega arith)
get_once (x ∷ xs) apart zero zero d l k e = refl
get_once (x ∷ xs) apart zero (suc j) d l k e = absurd (apart.0 (get_or xs j d) (get_there xs j d (omega arith)) e)
get_once (x ∷ xs) apart (suc i) zero d l k e = absurd (apart.0 (get_or xs i d) (get_there xs i d (omega arith)) (sym e))
get_once (x ∷ xs) apart (suc i) (suc j) d l k e = ap (λ (n : ℕ). suc n) (get_once xs apart.1 i j d (omega arith) (omega arith) e)

module _ (xs : List AbsElement) (apart : AreApartElements xs) (d : AbsElement) where
  picked_apart : (ns : List ℕ) → IsDistinct nat_eq ns → ((n : ℕ) → Has ns n → n < length xs) → AreApartElements (map (λ n. get_or xs n d) ns)
  picked_apart [] distinct below = tt
  picked_apart (n ∷ ns) distinct below = (
    λ y h e.
        let r = Has-from_map (λ n. get_or xs n d) ns h in
        let same : n ≡ r.0 = get_once xs apart n r.0 d (below n first) (below r.0 (later r.1)) (e ∙ r.2) in
        clash (ap (nat_eq n) (sym same) ∙ nat_eq-itself n) (all_has (λ m. nat_eq n m ≡ false) ns (IsDistinct-head nat_eq n ns distinct) r.0 r.1),
    picked_apart ns (IsDistinct-tail nat_eq n ns distinct) (λ m h. below m (later h)),
  )

  picked_there : (ns : List ℕ) → ((n : ℕ) → Has ns n → n < length xs) → (x : AbsElement) → Has (map (λ n. get_or xs n d) ns) x → Has xs x
  picked_there ns below x h = let r = Has-from_map (λ n. get_or xs n d) ns h in subst (Has xs) (sym r.2) (get_there xs r.0 d (below r.0 r.1))

-- ---- the first numbers of an order

module _ (count : ℕ) (order : List ℕ) (is : IsOrder count order) (k : ℕ) where
  short : length (take k order) ≤ k
  short = let e = length-take k order in omega (arith, e)

  within : length (take k order) ≤ length order
  within = let e = length-take k order in omega (arith, e)

  taken : (i d : ℕ) → i < length (take k order) → get_or (take k order) i d ≡ get_or order i d
  taken i d l = let s = short in get_or-take k order i d (omega (arith, l, s))

  below : (i : ℕ) → i < length (take k order) → i < count
  below i l = let w = within in let n = order_long count order is in omega (arith, l, w, n)

  pub taken_within : (n : ℕ) → Has (take k order) n → n < count
  taken_within n h =
      let r = there_at (take k order) n h in
      subst (λ m. m < count) (sym (taken r.place 0 r.less) ∙ r.is) (places_own count order is r.place (below r.place r.less)).0

  taken_apart : (i j d : ℕ) → i < j → j < length (take k order) → nat_eq (get_or (take k order) i d) (get_or (take k order) j d) ≡ false
  taken_apart i j d l m = elim (cases_Bool (nat_eq (get_or (take k order) i d) (get_or (take k order) j d))) [
    | inl e ↦
        let less : i < length (take k order) = omega (arith, l, m) in
        let same : get_or order i 0 ≡ get_or order j 0 =
        any i less ∙ nat_eq-is (get_or (take k order) i d) (get_or (take k order) j d) e ∙ sym (any j m) in
        let places : Some i ≡ Some j = sym (places_own count order is i (below i less)).1 ∙ ap (λ n. place_of (nat_eq n) order) same ∙ (places_own count order is j (below j m)).1 in
        let one : i ≡ j = some_is places in
        absurd (omega (arith, one, l))
    | inr e ↦ e
  ]
    where
      some_is : {a b : ℕ} → Some a ≡ Some b → a ≡ b
      some_is e = cc

      at_any : (ns : List ℕ) (i d e : ℕ) → i < length ns → get_or ns i d ≡ get_or ns i e
      at_any [] i d e l = absurd (omega arith)
      at_any (n ∷ ns) zero d e l = refl
      at_any (n ∷ ns) (suc i) d e l = at_any ns i d e (omega arith)

      any : (i : ℕ) → i < length (take k order) → get_or order i 0 ≡ get_or (take k order) i d
      any i l = sym (taken i 0 l) ∙ at_any (take k order) i 0 d l

  taken_distinct : IsDistinct nat_eq (take k order)
  taken_distinct = IsDistinct-from_apart nat_eq (take k order) taken_apart

-- ---- elements of a case

module _ (c : PosedCase) where
  abbrev none : AbsElement
  none = record { family = 0; indexes = [] }

  numbered : (ns : List ℕ) → ((n : ℕ) → Has ns n → n < length c.elements) → map (element_at (map written_element c.elements)) ns ≡ map written_element (map (λ n. get_or c.elements n (none)) ns)
  numbered [] below = refl
  numbered (n ∷ ns) below = λ i. get_or-map written_element c.elements n none i ∷ numbered ns (λ m h. below m (later h)) i

elements_are : (c : PosedCase) (p : Problem) → p ≡ written c → p.elements ≡ map written_element c.elements
unfolding written
elements_are c p is = ap (λ (q : Problem). q.elements) is

pub elements_picked : (p : Problem) (count : ℕ) (order ns : List ℕ) (k : ℕ) → count ≡ length p.elements → IsOrder count order → ns ≡ take k order → (all wires : List Element) → all ≡ p.elements → wires ≡ map (element_at all) ns →
    OfCases p (λ c. (xs : List AbsElement) × (wires ≡ map written_element xs) × ((x : AbsElement) → Has xs x → Has c.elements x) × AreApartElements xs)
elements_picked p count order ns k counted is taken_so all wires all_is wires_are c same well =
    let long : count ≡ length c.elements = counted ∙ ap (λ (es : List Element). length es) (elements_are c p same) ∙ length_map written_element c.elements in
    let below : (n : ℕ) → Has (take k order) n → n < length c.elements = λ n h. subst (λ m. n < m) long (taken_within count order is k n h) in (
      map (λ n. get_or c.elements n (none c)) (take k order),
      wires_are ∙ ap (map (element_at all)) taken_so ∙ ap (λ (es : List Element). map (element_at es) (take k order)) (all_is ∙ elements_are c p same) ∙ numbered c (take k order) below,
      picked_there c.elements well.elements (none c) (take k order) below,
      picked_apart c.elements well.elements (none c) (take k order) (taken_distinct count order is k) below,
    )

-- none are picked
pub none_picked : (p : Problem) (wires : List Element) → wires ≡ [] → OfCases p (λ c. (xs : List AbsElement) × (wires ≡ map written_element xs) × ((x : AbsElement) → Has xs x → Has c.elements x) × AreApartElements xs)
none_picked p wires e c same well = ([], e, (λ x h. elim h [ ]), tt)

-- ---- one place after the other

pub place_within : (ns : List ℕ) (n : ℕ) → ((m : ℕ) → Has ns m → m < n) → (i : ℕ) → i < length ns → get_or ns i 0 < n
place_within ns n within i l = within (get_or ns i 0) (get_there ns i 0 l)

pub one_more : (all : List Element) (ns : List ℕ) (i : ℕ) (done : List Element) → done ≡ map (element_at all) (take i ns) → i < length ns → (n : ℕ) → n ≡ get_or ns i 0 → n < length all → (x : Element) → x ≡ get_or all n x → (copy : Element) → copy ≡ x
    → (more : List Element) → more ≡ done ++ copy ∷ [] → more ≡ map (element_at all) (take (i + 1) ns)
one_more all ns i done before l n at less x is copy same more pushed =
    let none : Element = record { family = 0; indexes = [] } in
    let one : copy ≡ element_at all (get_or ns i 0) = same ∙ is ∙ get_or_default all n x none less ∙ ap (element_at all) at in
    pushed ∙ ap (λ (es : List Element). es ++ copy ∷ []) before ∙ ap (λ (e : Element). map (element_at all) (take i ns) ++ e ∷ []) one
    ∙ sym (ap (map (element_at all)) (take_more ns i 0 l) ∙ map-append (element_at all) (take i ns) (get_or ns i 0 ∷ []))
