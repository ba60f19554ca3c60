-- Lists: places, and what is found in them.
use Rattle.std.proofs.Common.{◌≡◌, ℕ, zero, suc, ◌+◌, ◌<◌, ◌≤◌, List, [], ◌∷◌, ◌++◌, map, length, Bool, sym, ap, ◌∙◌, Option, Some, None, arith}
use Rattle.std.specs.List.{slice_get, flat_map}
use Rattle.std.specs.Option.{option_to_list}
use Rattle.std.proofs.lemmas.List.{length-append}
use Rattle.std.proofs.lemmas.Option.{slice_get_within}
use Rattle.law_lists.proofs.Options.{some_is}
use Rattle.law_obligations.specs.Sets.{Has}
use Rattle.law_obligations.specs.Outlines.{place_of}
use Rattle.law_obligations.proofs.Lookups.{place_of-is}
use Rattle.law_obligations.proofs.Members.{one_of_one}

-- what stands at a place stands there with more behind it, and what is made of it in a map
pub get_longer : {X : Type 0} (xs ys : List X) (k : ℕ) {x : X} → slice_get xs k ≡ Some x → slice_get (xs ++ ys) k ≡ Some x
get_longer [] ys k e = absurd (cc)
get_longer (x ∷ xs) ys zero e = e
get_longer (x ∷ xs) ys (suc k) e = get_longer xs ys k e

pub get_behind : {X : Type 0} (xs ys : List X) (k : ℕ) → slice_get (xs ++ ys) (length xs + k) ≡ slice_get ys k
get_behind [] ys k = let e : 0 + k ≡ k = omega arith in ap (slice_get ys) e
get_behind (x ∷ xs) ys k = let e : suc (length xs) + k ≡ suc (length xs + k) = omega arith in ap (slice_get (x ∷ xs ++ ys)) e ∙ get_behind xs ys k

pub get_map : {X Y : Type 0} (f : X → Y) (xs : List X) (k : ℕ) {x : X} → slice_get xs k ≡ Some x → slice_get (map f xs) k ≡ Some (f x)
get_map f [] k e = absurd (cc)
get_map f (x ∷ xs) zero e = ap (λ z. Some (f z)) (some_is e)
get_map f (x ∷ xs) (suc k) e = get_map f xs k e

-- a list of one member
pub one_only : {X : Type 0} (xs : List X) (x y : X) → length xs ≡ 1 → Has xs x → Has xs y → x ≡ y
one_only [] x y e h k = elim h [ ]
one_only (z ∷ []) x y e h k = one_of_one h ∙ sym (one_of_one k)
one_only (z ∷ w ∷ xs) x y e h k = absurd (omega (arith, e))

-- at most one for each
pub at_most_each : {X Y : Type 0} (f : X → List Y) → ((x : X) → length (f x) ≤ 1) → (xs : List X) → length (flat_map f xs) ≤ length xs
at_most_each f each [] = omega arith
at_most_each f each (x ∷ xs) = let a = each x in let b = at_most_each f each xs in let c = length-append (f x) (flat_map f xs) in omega (arith, a, b, c)

pub option_long : {X : Type 0} (o : Option X) → length (option_to_list o) ≤ 1
option_long None = omega arith
option_long (Some x) = omega arith

-- a place that is found is one of the list
pub place_below : {X : Type 0} (test : X → Bool) (xs : List X) (k : ℕ) → place_of test xs ≡ Some k → k < length xs
place_below test xs k e = let r = place_of-is test xs k e in slice_get_within xs k r.0 r.1
