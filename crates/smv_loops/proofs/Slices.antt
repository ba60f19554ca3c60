-- Parts of lists.
use Rattle.std.proofs.Common.{◌≡◌, ℕ, suc, ◌+◌, ◌-◌, ◌≤◌, List, [], ◌∷◌, ◌++◌, length, get_or, take, drop, sym, ap, ◌∙◌, arith}
use Rattle.std.proofs.lemmas.Grind.{common_steps}

pub put_back : {X : Type 0} (len : ℕ) (new items : List X) → length new ≡ length items → len ≡ length items → take len (new ++ drop (length new) items) ≡ new
put_back len new items e l = grind (arith, common_steps)

-- a list with a first value, as a pattern on a slice has its parts
pub split : {X : Type 0} (xs : List X) (d : X) → 1 ≤ length xs → xs ≡ get_or xs 0 d ∷ take (length xs - 1) (drop 1 xs)
split [] d l = absurd (omega (arith, l))
split (x ∷ xs) d l = let n : suc (length xs) - 1 ≡ length xs = omega arith in ap (λ ys. x ∷ ys) (sym (ap (λ n. take n xs) n ∙ take-all xs))
  where
    take-all : {X : Type 0} (xs : List X) → take (length xs) xs ≡ xs
    take-all xs = grind (arith, common_steps)
