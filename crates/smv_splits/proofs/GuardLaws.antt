-- The numbers of variables in guards.
use Rattle.std.proofs.Common.{◌≡◌, ℕ, zero, suc, ◌+◌, ◌-◌, List, map, length, Bool, true, false, cond, nat_lt, refl, ap, ◌∙◌}
use Rattle.std.specs.Prelude.{Some, None, slice_get, unwrap_or, option_map}
use Rattle.std.specs.List.{flat_map}
use Rattle.std.proofs.Math.Path.{fun_ext}
use Rattle.std.proofs.lemmas.List.{length-map}
use Rattle.std.proofs.lemmas.Option.{slice_get-map}
use Rattle.smv_core.specs.Values.{numbers_from}
use Rattle.smv_core.specs.declared.flat.Param.{Param}
use Rattle.smv_core.specs.declared.flat.FlatSplit.{FlatSplit}
use Rattle.smv_core.specs.declared.flat.FlatPair.{FlatPair}
use Rattle.law_splits.specs.Leaves.{stands_for, number_in, with_name, numbered, bound_as}
use Rattle.smv_splits.specs.declared.numbers.Numbers.{Numbers}
use Rattle.smv_splits.specs.Renaming.{number_by}
use Rattle.smv_splits.proofs.StandingLaws.{at-number}
use Rattle.smv_splits.specs.Links.{Place, given, guard_by, guards_at}

numbers-long : (first n : ℕ) → length (numbers_from first n) ≡ n
numbers-long first zero = refl
numbers-long first (suc n) = ap suc (numbers-long (first + 1) n)

given-long : (s : FlatSplit) → length (given s) ≡ length s.bound
given-long s = length-map (map (stands_for s) (numbers_from 0 (length s.bound))) (λ place. unwrap_or place 0) ∙ length-map (numbers_from 0 (length s.bound)) (stands_for s) ∙ numbers-long 0 (length s.bound)

-- the number of a variable by the list of those that are given
number-at : (s : FlatSplit) (count var : ℕ) → unwrap_or (slice_get (given s) var) (count + (var - length (given s))) ≡ number_in s count var
number-at s count var =
    ap (λ n. unwrap_or (slice_get (given s) var) (count + (var - n))) (given-long s)
    ∙ ap (λ o. unwrap_or o (count + (var - length s.bound))) (slice_get-map (λ place. unwrap_or place 0) (map (stands_for s) (numbers_from 0 (length s.bound))) var ∙ ap (option_map (λ place. unwrap_or place 0)) (at-number (stands_for s) (length s.bound) var))
    ∙ by (nat_lt var (length s.bound))
  where
    by : (b : Bool) → unwrap_or (option_map (λ place. unwrap_or place 0) (cond b (Some (stands_for s var)) None)) (count + (var - length s.bound))
        ≡ cond b (unwrap_or (stands_for s var) 0) (count + (var - length s.bound))
    by true = refl
    by false = refl

numbers-same : (s : FlatSplit) (numbers : Numbers) → numbers.given.now ≡ given s → (var : ℕ) → number_by numbers var ≡ number_in s numbers.count var
numbers-same s numbers e var = ap (λ l. unwrap_or (slice_get l var) (numbers.count + (var - length l))) e ∙ number-at s numbers.count var

-- the guards of a split, by the numbers that are given
pub guards-by : (numbers : Numbers) (place : Place) (count : ℕ) (new : List Param) (pairs : List FlatPair) → numbers.given.now ≡ given place.0 → numbers.count ≡ count →
    new ≡ numbered place.1 (map (bound_as place.0.bound) place.0.vars) → pairs ≡ place.0.pairs →
    flat_map (λ (pair : FlatPair). map (guard_by (number_by numbers) pair) (with_name new pair.right)) pairs ≡ guards_at count place
guards-by numbers place count new pairs g c n p =
    ap (λ f. flat_map (λ (pair : FlatPair). map (guard_by f pair) (with_name new pair.right)) pairs) (fun_ext (numbers-same place.0 numbers g))
    ∙ ap (λ k. flat_map (λ (pair : FlatPair). map (guard_by (number_in place.0 k) pair) (with_name new pair.right)) pairs) c
    ∙ ap (λ l. flat_map (λ (pair : FlatPair). map (guard_by (number_in place.0 count) pair) (with_name l pair.right)) pairs) n
    ∙ ap (λ l. flat_map (λ (pair : FlatPair). map (guard_by (number_in place.0 count) pair) (with_name (numbered place.1 (map (bound_as place.0.bound) place.0.vars)) pair.right)) l) p
