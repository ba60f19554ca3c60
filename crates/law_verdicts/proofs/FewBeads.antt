-- How many beads truth tables have at most.
use Rattle.std.proofs.Common.{◌≤◌, ℕ, zero, suc, ◌+◌, ◌-◌, ◌*◌, ◌^◌, Bool, true, false, cond, List, [], ◌∷◌, ◌++◌, length, take, drop, arith}
use Rattle.std.specs.List.{flat_map, list_any}
use Rattle.std.proofs.Math.Nat.{pow-suc}
use Rattle.bdd_store.specs.Beads.{same_block, blocks_of, count_distinct, bead_count}
use Rattle.std.proofs.lemmas.List.{length-append}

-- a table's own block, if it is a bead, and those of its two halves
with_own : (b : ℕ) (t : List Bool) (own : Bool) (first second : List (List Bool)) → length first + 1 ≤ 2 ^ b → length second + 1 ≤ 2 ^ b → length (cond own [] (t ∷ []) ++ (first ++ second)) + 1 ≤ 2 ^ suc b
with_own b t true first second h k = omega (arith, length-append first second, pow-suc 2 b, h, k)
with_own b t false first second h k = omega (arith, length-append first second, pow-suc 2 b, h, k)

few_blocks : (b : ℕ) (t : List Bool) → length (blocks_of b t) + 1 ≤ 2 ^ b
unfolding blocks_of
few_blocks zero t = omega arith
few_blocks (suc b) t =
    with_own b t (same_block (take (2 ^ b) t) (drop (2 ^ b) t)) (blocks_of b (take (2 ^ b) t)) (blocks_of b (drop (2 ^ b) t)) (few_blocks b (take (2 ^ b) t)) (few_blocks b (drop (2 ^ b) t))

few_distinct : {A : Type 0} (same : A → A → Bool) (xs : List A) → count_distinct same xs ≤ length xs
unfolding count_distinct
few_distinct same [] = omega arith
few_distinct same (x ∷ xs) = one_more (list_any (same x) xs) (count_distinct same xs) (length xs) (few_distinct same xs)
  where
    one_more : (known : Bool) (count most : ℕ) → count ≤ most → cond known count (suc count) ≤ suc most
    one_more true count most h = omega arith
    one_more false count most h = omega arith

few_of_all : {A B : Type 0} (f : A → List B) (most : ℕ) → ((x : A) → length (f x) ≤ most) → (xs : List A) → length (flat_map f xs) ≤ length xs * most
few_of_all f most few [] = omega arith
few_of_all f most few (x ∷ xs) = grind (arith, length-append (f x) (flat_map f xs), few x, few_of_all f most few xs)

pub few_beads : (n : ℕ) (tables : List (List Bool)) → bead_count n tables ≤ length tables * (2 ^ n - 1)
unfolding bead_count
few_beads n tables = omega (arith, few_distinct same_block (flat_map (blocks_of n) tables), few_of_all (blocks_of n) (2 ^ n - 1) (λ t. omega (arith, few_blocks n t)) tables)

-- fewer tables, fewer beads
pub more_times : (a b c : ℕ) → a ≤ b → a * c ≤ b * c
more_times a b zero h = omega arith
more_times a b (suc c) h = grind (arith, more_times a b c h)
