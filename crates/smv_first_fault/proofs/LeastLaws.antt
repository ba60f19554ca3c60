-- The first of some places.
use Rattle.std.specs.List.{flat_map}
use Rattle.std.proofs.Common.{◌≡◌, ℕ, ◌+◌, ◌<◌, length, get_or, drop, List, [], ◌∷◌, ◌++◌, refl, ap, sym, ◌∙◌, arith, zero, suc}
use Rattle.std.specs.Prelude.{Option, Some, None}
use Rattle.law_lists.proofs.Places.{drop_read_one}
use Rattle.smv_mentions.specs.Scopes.{first_of_places}
use Rattle.smv_first_fault.specs.Firsts.{least}

pub first-none : (a : Option ℕ) → first_of_places a None ≡ a
first-none None = refl
first-none (Some x) = refl

pub first-assoc : (a b c : Option ℕ) → first_of_places (first_of_places a b) c ≡ first_of_places a (first_of_places b c)
first-assoc None b c = refl
first-assoc (Some x) None c = refl
first-assoc (Some x) (Some y) None = refl
first-assoc (Some x) (Some y) (Some z) = ap Some (omega arith)

pub least-append : (xs ys : List ℕ) → least (xs ++ ys) ≡ first_of_places (least xs) (least ys)
least-append [] ys = refl
least-append (x ∷ xs) ys = ap (first_of_places (Some x)) (least-append xs ys) ∙ sym (first-assoc (Some x) (least xs) (least ys))

pub ruleset leasts = (first-none, first-assoc, least-append)

-- what is left of a list from a place on begins with what stands there
from_suc : {A : Type 0} (xs : List A) (n : ℕ) (x : A) → n < length xs → x ≡ get_or xs n x → drop n xs ≡ x ∷ drop (suc n) xs
from_suc [] n x h e = absurd (omega arith)
from_suc (y ∷ xs) zero x h e = ap (λ z. z ∷ xs) (sym e)
from_suc (y ∷ xs) (suc n) x h e = from_suc xs n x (omega arith) e

pub from_here : {A : Type 0} (xs : List A) (n : ℕ) (x : A) → n < length xs → x ≡ get_or xs n x → drop n xs ≡ x ∷ drop (n + 1) xs
from_here xs n x h e = let more : suc n ≡ n + 1 = omega arith in from_suc xs n x h e ∙ ap (λ m. x ∷ drop m xs) more

-- one step of a search for the first place
pub least-step : {A : Type 0} (f : A → List ℕ) (xs : List A) (n : ℕ) (x : A) (a b new whole : Option ℕ) → n < length xs → x ≡ get_or xs n x → b ≡ least (f x) → new ≡ first_of_places a b
    → first_of_places a (least (flat_map f (drop n xs))) ≡ whole → first_of_places new (least (flat_map f (drop (n + 1) xs))) ≡ whole
least-step f xs n x a b new whole below here at is known =
    ap (λ o. first_of_places o (least (flat_map f (drop (n + 1) xs)))) (is ∙ ap (first_of_places a) at) ∙ first-assoc a (least (f x)) (least (flat_map f (drop (n + 1) xs)))
    ∙ ap (first_of_places a) (sym (least-append (f x) (flat_map f (drop (n + 1) xs))) ∙ ap (λ l. least (flat_map f l)) (sym (drop_read_one xs n x below here))) ∙ known
