-- Products of counts, and how many cases there are.
use Rattle.std.proofs.Common.{◌≡◌, ◌*◌, ◌<◌, ◌≤◌, ℕ, zero, suc, List, [], ◌∷◌, map, flat_map, length, Option, Some, None, refl, ap, subst, ◌∙◌, arith}
use Rattle.std.proofs.lemmas.List.{length-append}
use Rattle.std.proofs.Math.Nat.{suc-mul}
use Rattle.law_lists.proofs.Lists.{length_map}
use Rattle.law_obligations.specs.Sets.{one_of_each}
use Rattle.law_concrete.specs.Sizes.{product}
use Rattle.smv_concrete.specs.Counts.{IsBeyond, IsProduct, IsWithin}

-- one count more
pub product-more : (limit first count : ℕ) (more : List ℕ) (o : Option ℕ) → (count ≡ product more) × (count ≤ limit) → IsWithin limit (first * count) o → IsProduct limit (first ∷ more) o
product-more limit first count more o h w = subst (λ p. IsWithin limit (first * p) o) h.0 w

pub product-beyond : (limit first : ℕ) (more : List ℕ) (o : Option ℕ) → limit < product more → IsBeyond first o → IsProduct limit (first ∷ more) o
product-beyond limit zero more (Some n) l b = let none = b.0 in (omega (arith, none), omega (arith, none))
product-beyond limit (suc first) more (Some n) l b = let some = b.1 in absurd (omega (arith, some))
product-beyond limit zero more None l b = absurd (omega (arith, b))
product-beyond limit (suc first) more None l b = let m = suc-mul first (product more) in omega (arith, m, l)

-- as many cases as the product of the counts
flat-long : {X Y Z : Type 0} (f : X → Y → Z) (ys : List Y) (xs : List X) → length (flat_map (λ x. map (f x) ys) xs) ≡ length xs * length ys
flat-long f ys [] = omega arith
flat-long f ys (x ∷ xs) =
    let a = length-append (map (f x) ys) (flat_map (λ x. map (f x) ys) xs) in
    let b = length_map (f x) ys in
    let c = flat-long f ys xs in
    let m = suc-mul (length xs) (length ys) in omega (arith, a, b, c, m)

pub cases-long : {X : Type 0} (xss : List (List X)) → length (one_of_each xss) ≡ product (map length xss)
cases-long [] = refl
cases-long (xs ∷ xss) = flat-long (λ x ys. x ∷ ys) (one_of_each xss) xs ∙ ap (λ k. length xs * k) (cases-long xss)
