-- Elements that are put again change nothing, so what is the same at each place of a variable is put at one of them.
use Rattle.std.proofs.Common.{◌≡◌, suc, List, [], ◌∷◌, ◌++◌, length, take, Bool, true, false, ◌||◌, if◌then◌else◌, refl, sym, ap, subst, ◌∙◌, inl, inr, arith}
use Rattle.std.specs.List.{flat_map}
use Rattle.std.proofs.lemmas.Bool.{or_cases}
use Rattle.law_lists.proofs.Booleans.{either_left, either_right}
use Rattle.smv_core.specs.declared.flat.Element.{Element}
use Rattle.smv_elements.specs.Elements.{is_full, is_among, same_element, put, put_all}
use Rattle.smv_elements.proofs.Keys.{same-itself}
use Rattle.smv_elements.proofs.Puts.{all-joined}
use Rattle.smv_reads.proofs.Joins.{put-nothing}

-- an element that is there, or that comes too late
abbrev is_settled : List Element → Element → Bool
is_settled found x = is_full found || is_among found x

AreSettled : List Element → List Element → Type 0
AreSettled found [] = Unit {0}
AreSettled found (x ∷ xs) = (is_settled found x ≡ true) × AreSettled found xs

settled-put : (found : List Element) (x : Element) → is_settled found x ≡ true → put found x ≡ found
settled-put found x e = rw e refl

one-longer : (found : List Element) (y : Element) → length (found ++ y ∷ []) ≡ suc (length found)
one-longer [] y = refl
one-longer (x ∷ found) y = ap suc (one-longer found y)

longer-full : (found : List Element) (y : Element) → is_full found ≡ true → is_full (found ++ y ∷ []) ≡ true
longer-full found y e = let more = one-longer found y in grind (arith, e, more)

longer-among : (found more : List Element) (x : Element) → is_among found x ≡ true → is_among (found ++ more) x ≡ true
longer-among [] more x e = absurd (cc)
longer-among (y ∷ found) more x e = elim (or_cases (same_element x y) (is_among found x) e) [
  | inl h ↦ either_left (is_among (found ++ more) x) h
  | inr h ↦ either_right (same_element x y) (longer-among found more x h)
]

last-among : (found : List Element) (x : Element) → is_among (found ++ x ∷ []) x ≡ true
last-among [] x = either_left false (same-itself x)
last-among (y ∷ found) x = either_right (same_element x y) (last-among found x)

longer-settled : (found : List Element) (y x : Element) → is_settled found x ≡ true → is_settled (found ++ y ∷ []) x ≡ true
longer-settled found y x e = elim (or_cases (is_full found) (is_among found x) e) [
  | inl h ↦ either_left (is_among (found ++ y ∷ []) x) (longer-full found y h)
  | inr h ↦ either_right (is_full (found ++ y ∷ [])) (longer-among found (y ∷ []) x h)
]

put-keeps : (found : List Element) (y x : Element) → is_settled found x ≡ true → is_settled (put found y) x ≡ true
put-keeps found y x e = by (is_settled found y)
  where
    by : (b : Bool) → is_settled (if b then found else found ++ y ∷ []) x ≡ true
    by true = e
    by false = longer-settled found y x e

put-settles : (found : List Element) (x : Element) → is_settled (put found x) x ≡ true
put-settles found x = by (is_settled found x) refl
  where
    by : (b : Bool) → is_settled found x ≡ b → is_settled (if b then found else found ++ x ∷ []) x ≡ true
    by true e = e
    by false e = either_right (is_full (found ++ x ∷ [])) (last-among found x)

all-keep : (found ys : List Element) (x : Element) → is_settled found x ≡ true → is_settled (put_all found ys) x ≡ true
unfolding put_all
all-keep found [] x e = e
all-keep found (y ∷ ys) x e = all-keep (put found y) ys x (put-keeps found y x e)

all-settle : (found xs : List Element) → AreSettled (put_all found xs) xs
unfolding put_all AreSettled
all-settle found [] = tt
all-settle found (x ∷ xs) = (all-keep (put found x) xs x (put-settles found x), all-settle (put found x) xs)

settled-all : (found xs : List Element) → AreSettled found xs → put_all found xs ≡ found
unfolding put_all AreSettled
settled-all found [] h = refl
settled-all found (x ∷ xs) h = ap (λ l. put_all l xs) (settled-put found x h.0) ∙ settled-all found xs h.1

pub put-again : (found xs : List Element) → put_all (put_all found xs) xs ≡ put_all found xs
put-again found xs = settled-all (put_all found xs) xs (all-settle found xs)

settled-kept : (found xs ys : List Element) → AreSettled found ys → AreSettled (put_all found xs) ys
unfolding AreSettled
settled-kept found xs [] h = tt
settled-kept found xs (y ∷ ys) h = (all-keep found xs y h.0, settled-kept found xs ys h.1)

-- what changes nothing changes nothing later
pub put-later : (found xs ys : List Element) → put_all found ys ≡ found → put_all (put_all found xs) ys ≡ put_all found xs
put-later found xs ys e = settled-all (put_all found xs) ys (settled-kept found xs ys (subst (λ l. AreSettled l ys) e (all-settle found ys)))

-- ---- for each of a list the same

others-again : {X : Type 0} (f : X → List Element) (p : X) (ps : List X) (found : List Element) → ((q : X) → f q ≡ f p) → put_all (put_all found (f p)) (flat_map f ps) ≡ put_all found (f p)
others-again f p [] found same = put-nothing (put_all found (f p))
others-again f p (q ∷ ps) found same =
    all-joined (put_all found (f p)) (f q) (flat_map f ps)
    ∙ ap (λ es. put_all (put_all (put_all found (f p)) es) (flat_map f ps)) (same q)
    ∙ ap (λ l. put_all l (flat_map f ps)) (put-again found (f p))
    ∙ others-again f p ps found same

from-first : {X : Type 0} (f : X → List Element) (p : X) (ps : List X) (found : List Element) → ((q : X) → f q ≡ f p) → put_all found (flat_map f (p ∷ ps)) ≡ put_all found (f p)
from-first f p ps found same = all-joined found (f p) (flat_map f ps) ∙ others-again f p ps found same

-- the first alone
pub first-alone : {X : Type 0} (f : X → List Element) (ps : List X) (found : List Element) → ((p q : X) → f q ≡ f p) → put_all found (flat_map f (take 1 ps)) ≡ put_all found (flat_map f ps)
first-alone f [] found same = refl
first-alone f (p ∷ ps) found same = from-first f p [] found (same p) ∙ sym (from-first f p ps found (same p))
