-- Elements that are put.
use Rattle.std.proofs.Common.{◌≡◌, ℕ, List, [], ◌∷◌, ◌++◌, Bool, true, false, ◌||◌, if◌then◌else◌, refl, sym, ap, subst, ◌∙◌, inl, inr}
use Rattle.std.specs.List.{slice_get}
use Rattle.std.proofs.lemmas.Bool.{cases_Bool}
use Rattle.smv_core.specs.declared.flat.Element.{Element}
use Rattle.law_obligations.specs.Sets.{Has, first, later}
use Rattle.law_obligations.proofs.Members.{Has-cases, Has-left, Has-right, Has-uncons}
use Rattle.smv_elements.specs.Elements.{is_full, is_among, same_element, put, put_all, AreInOrder, HaveSame, is_at, inserted}
use Rattle.smv_elements.proofs.Keys.{same-is, same-itself}
use Rattle.smv_elements.proofs.Sorted.{Splits, absent, present, inserted-has, has-inserted, has-new, ordered}

pub all-joined : (found xs ys : List Element) → put_all found (xs ++ ys) ≡ put_all (put_all found xs) ys
unfolding put_all
all-joined found [] ys = refl
all-joined found (x ∷ xs) ys = all-joined (put found x) xs ys

pub full-put : (found : List Element) (x : Element) → is_full found ≡ true → put found x ≡ found
full-put found x e = rw e refl

pub all-full : (found xs : List Element) → is_full found ≡ true → put_all found xs ≡ found
unfolding put_all
all-full found [] e = refl
all-full found (x ∷ xs) e = let same = full-put found x e in ap (λ l. put_all l xs) same ∙ all-full found xs e

-- ---- beside the list in order

among-has : (xs : List Element) (x : Element) → Has xs x → is_among xs x ≡ true
among-has [] x h = elim h [ ]
among-has (y ∷ xs) x h = elim (Has-uncons h) [
  | inl e ↦ let here : same_element x y ≡ true = subst (λ z. same_element x z ≡ true) e (same-itself x) in rw here refl
  | inr l ↦ let there = among-has xs x l in or_true (same_element x y) (is_among xs x) there
]
  where
    or_true : (a b : Bool) → b ≡ true → (a || b) ≡ true
    or_true true b e = refl
    or_true false b e = e

among-none : (xs : List Element) (x : Element) → (Has xs x → ⊥) → is_among xs x ≡ false
among-none [] x none = refl
among-none (y ∷ xs) x none = elim (cases_Bool (same_element x y)) [
  | inl e ↦ absurd (none (subst (Has (y ∷ xs)) (sym (same-is x y e)) first))
  | inr e ↦ rw e (among-none xs x (λ h. none (later h)))
]

pub put-there : (queue sorted : List Element) (x : Element) (k : ℕ) → HaveSame queue sorted → is_at x (slice_get sorted k) ≡ true → put queue x ≡ queue
put-there queue sorted x k same e = by (is_full queue) (among-has queue x (same.back x (present x sorted k e)))
  where
    by : (b : Bool) → is_among queue x ≡ true → (if b || is_among queue x then queue else queue ++ x ∷ []) ≡ queue
    by true h = refl
    by false h = rw h refl

pub put-new : (queue sorted : List Element) (x : Element) (k : ℕ) → HaveSame queue sorted → AreInOrder sorted → Splits x sorted k → is_at x (slice_get sorted k) ≡ false → is_full queue ≡ false → put queue x ≡ queue ++ x ∷ []
put-new queue sorted x k same order split e full = rw full (rw (among-none queue x (λ h. absent x sorted k order split e (same.there x h))) refl)

pub same-kept : (queue sorted : List Element) (x : Element) (k : ℕ) → HaveSame queue sorted → HaveSame (queue ++ x ∷ []) (inserted sorted k x)
same-kept queue sorted x k same = record {
  there = λ y h. elim (Has-cases queue (x ∷ []) h) [
    | inl l ↦ has-inserted x sorted k y (same.there y l)
    | inr r ↦ elim (Has-uncons r) [ inl e ↦ subst (Has (inserted sorted k x)) (sym e) (has-new x sorted k) | inr m ↦ elim m [ ] ]
  ];
  back = λ y h. elim (inserted-has x sorted k y h) [
    | inl e ↦ subst (Has (queue ++ x ∷ [])) (sym e) (Has-right queue first)
    | inr l ↦ Has-left (x ∷ []) (same.back y l)
  ];
}

pub ruleset put_laws = (full-put, put-there, put-new, ordered, same-kept)
