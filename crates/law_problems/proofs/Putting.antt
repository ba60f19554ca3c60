-- What is put is added.
use Rattle.std.proofs.Common.{◌≡◌, List, [], ◌∷◌, ◌++◌, map, Bool, true, false, ◌||◌, if◌then◌else◌, refl, sym, ap, subst, ◌∙◌, inl, inr}
use Rattle.std.proofs.lemmas.List.{map-append, append-nil}
use Rattle.law_lists.proofs.Lists.{append_again}
use Rattle.smv_core.specs.declared.flat.Element.{Element}
use Rattle.law_obligations.specs.Sets.{Has, first, later}
use Rattle.law_obligations.specs.Places.{World}
use Rattle.law_obligations.proofs.Members.{Has-left, Has-right, Has-cases, Has-uncons, Has-from_map, any-some}
use Rattle.law_obligations.specs.Cones.{AbsElement, elements}
use Rattle.law_problems.specs.Order.{AreIndexed}
use Rattle.law_problems.proofs.Writing.{elements_written}
use Rattle.smv_problem.specs.WellFormed.{AreApartElements}
use Rattle.smv_problem.specs.Written.{written_element}
use Rattle.smv_elements.specs.Elements.{is_full, is_among, same_element, put, put_all}
use Rattle.smv_elements.proofs.Keys.{same-is, same-itself}
use Rattle.smv_elements.proofs.Puts.{all-full}
use Rattle.law_problems.specs.Adds.{Adds}
use Rattle.law_problems.specs.FoundLaws.{AreOf}

-- one more element that is none of these
apart-more : (xs : List AbsElement) (y : AbsElement) → AreApartElements xs → (Has xs y → ⊥) → AreApartElements (xs ++ y ∷ [])
apart-more [] y apart new = (λ z h. elim h [ ], tt)
apart-more (x ∷ xs) y apart new = (
  λ z h. elim (Has-cases xs (y ∷ []) h) [
    | inl l ↦ apart.0 z l
    | inr r ↦ elim (Has-uncons r) [ inl e ↦ (λ same. new (subst (Has (x ∷ xs)) (same ∙ e) first)) | inr m ↦ elim m [ ] ]
  ],
  apart-more xs y apart.1 (λ h. new (later h)),
)

-- what is among the written ones
among-written : (xs : List AbsElement) (e : Element) → is_among (map written_element xs) e ≡ true → (x : AbsElement) × Has xs x × (e ≡ written_element x)
among-written xs e t =
    let some = any-some (same_element e) (map written_element xs) t in
    let from = Has-from_map written_element xs some.1 in
    (from.0, from.1, same-is e some.0 some.2 ∙ from.2)

has-among : (xs : List AbsElement) (x : AbsElement) → Has xs x → is_among (map written_element xs) (written_element x) ≡ true
has-among [] x h = elim h [ ]
has-among (y ∷ xs) _ first = ap (λ (b : Bool). b || is_among (map written_element xs) (written_element y)) (same-itself (written_element y))
has-among (y ∷ xs) x (later h) = or_true (same_element (written_element x) (written_element y)) (is_among (map written_element xs) (written_element x)) (has-among xs x h)
  where
    or_true : (a b : Bool) → b ≡ true → (a || b) ≡ true
    or_true true b e = refl
    or_true false b e = e

module _ (w : World) (indexed : AreIndexed w) where
  -- what is put adds, wherever it is put
  abbrev Goes : List AbsElement → Type 0
  Goes ys = (xs : List AbsElement) → AreOf w xs → AreApartElements xs → (more : List AbsElement) × Adds xs ys more

  pub added : (found ys : List AbsElement) → AreOf w found → AreOf w ys → AreApartElements found → (more : List AbsElement) × Adds found ys more
  unfolding put_all
  added found [] of_found of_ys apart = (
    [],
    record {
      are_put = ap (map written_element) (sym (append-nil found));
      are_apart = subst AreApartElements (sym (append-nil found)) apart;
      fresh = λ x h. elim h [ ];
      all = λ few x h. elim h [ ];
    },
  )
  added found (y ∷ ys) of_found of_ys apart = by_full (is_full (map written_element found)) refl (λ xs of a. added xs ys of (λ x k. of_ys x (later k)) a)
    where
      -- nothing is put
      full : is_full (map written_element found) ≡ true → (more : List AbsElement) × Adds found (y ∷ ys) more
      full f = (
        [],
        record {
          are_put = all-full (map written_element found) (map written_element (y ∷ ys)) f ∙ ap (map written_element) (sym (append-nil found));
          are_apart = subst AreApartElements (sym (append-nil found)) apart;
          fresh = λ x h. elim h [ ];
          all = λ few. absurd (both f (ap (λ xs. is_full (map written_element xs)) (sym (append-nil found)) ∙ few));
        },
      )
        where
          both : {b : Bool} → b ≡ true → b ≡ false → ⊥
          both t f = absurd (cc)

      -- it is there
      there : Goes ys → Has found y → put (map written_element found) (written_element y) ≡ map written_element found → (more : List AbsElement) × Adds found (y ∷ ys) more
      there goes h same =
          let r = goes found of_found apart in (
            r.0,
            record {
              are_put = ap (λ l. put_all l (map written_element ys)) same ∙ r.1.are_put;
              are_apart = r.1.are_apart;
              fresh = λ x k. later (r.1.fresh x k);
              all = λ few x k. elim (Has-uncons k) [ inl e ↦ Has-left r.0 (subst (Has found) (sym e) h) | inr l ↦ r.1.all few x l ];
            },
          )

      -- it is new
      new : Goes ys → (Has found y → ⊥) → put (map written_element found) (written_element y) ≡ map written_element found ++ written_element y ∷ [] → (more : List AbsElement) × Adds found (y ∷ ys) more
      new goes none same =
          let of_more : AreOf w (found ++ y ∷ []) = λ x h. elim (Has-cases found (y ∷ []) h) [
            | inl l ↦ of_found x l
            | inr k ↦ elim (Has-uncons k) [ inl e ↦ subst (Has (elements w)) (sym e) (of_ys y first) | inr m ↦ elim m [ ] ]
          ] in
          let r = goes (found ++ y ∷ []) of_more (apart-more found y apart none) in
          let joined : (found ++ y ∷ []) ++ r.0 ≡ found ++ y ∷ r.0 = append_again found r.0 y in (
            y ∷ r.0,
            record {
              are_put = ap (λ l. put_all l (map written_element ys)) (same ∙ sym (map-append written_element found (y ∷ []))) ∙ (r.1.are_put ∙ ap (map written_element) joined);
              are_apart = subst AreApartElements joined r.1.are_apart;
              fresh = λ x k. elim (Has-uncons k) [ inl e ↦ subst (Has (y ∷ ys)) (sym e) first | inr l ↦ later (r.1.fresh x l) ];
              all = λ few x k. elim (Has-uncons k) [
                | inl e ↦ subst (Has (found ++ y ∷ r.0)) (sym e) (Has-right found first)
                | inr l ↦ subst (λ xs. Has xs x) joined (r.1.all (ap (λ xs. is_full (map written_element xs)) joined ∙ few) x l)
              ];
            },
          )

      by_among : Goes ys → is_full (map written_element found) ≡ false → (b : Bool) → is_among (map written_element found) (written_element y) ≡ b → (more : List AbsElement) × Adds found (y ∷ ys) more
      by_among goes f true e =
          let r = among-written found (written_element y) e in
          let same : y ≡ r.0 = elements_written w indexed y r.0 (of_ys y first) (of_found r.0 r.1) r.2 in
          there goes (subst (Has found) (sym same) r.1) (ap (λ (b : Bool). if b || is_among (map written_element found) (written_element y) then map written_element found else map written_element found ++ written_element y ∷ []) f
          ∙ ap (λ (b : Bool). if b then map written_element found else map written_element found ++ written_element y ∷ []) e)
      by_among goes f false e = new goes (λ h. absurd (both (has-among found y h) e)) (ap (λ (b : Bool). if b || is_among (map written_element found) (written_element y) then map written_element found else map written_element found ++ written_element y ∷ []) f
          ∙ ap (λ (b : Bool). if b then map written_element found else map written_element found ++ written_element y ∷ []) e)
        where
          both : {b : Bool} → b ≡ true → b ≡ false → ⊥
          both t f = absurd (cc)

      by_full : (b : Bool) → is_full (map written_element found) ≡ b → Goes ys → (more : List AbsElement) × Adds found (y ∷ ys) more
      by_full true f goes = full f
      by_full false f goes = by_among goes f (is_among (map written_element found) (written_element y)) refl
