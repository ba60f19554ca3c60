-- What stands at the place of a name.
use Rattle.std.proofs.Common.{◌≡◌, ℕ, suc, List, [], ◌∷◌, map, Bool, true, false, refl, subst, Option, Some, None, option_map, if◌then◌else◌}
use Rattle.std.specs.Str.{bytes_eq}
use Rattle.std.specs.List.{slice_get}
use Rattle.law_lists.proofs.Options.{some_is}
use Rattle.smv_core.specs.Values.{Name}
use Rattle.name_index.specs.Position.{position}

-- the place of a name among the names of some things is that of one of them
pub named_there : {X : Type 0} (name_of : X → Name) (xs : List X) (name : Name) (k : ℕ) → position (map name_of xs) name ≡ Some k → (x : X) × (slice_get xs k ≡ Some x)
named_there name_of [] name k e = absurd (cc)
named_there {X} name_of (x ∷ xs) name k e = at (bytes_eq (name_of x) name) (position (map name_of xs) name) e (λ j i. named_there name_of xs name j i)
  where
    behind : (o : Option ℕ) → option_map suc o ≡ Some k → ((j : ℕ) → o ≡ Some j → (y : X) × (slice_get xs j ≡ Some y)) → (y : X) × (slice_get (x ∷ xs) k ≡ Some y)
    behind None e goes = absurd (cc)
    behind (Some j) e goes = let r = goes j refl in subst (λ k. (y : X) × (slice_get (x ∷ xs) k ≡ Some y)) (some_is e) (r.0, r.1)

    at : (b : Bool) (o : Option ℕ) → (if b then Some 0 else option_map suc o) ≡ Some k → ((j : ℕ) → o ≡ Some j → (y : X) × (slice_get xs j ≡ Some y)) → (y : X) × (slice_get (x ∷ xs) k ≡ Some y)
    at true o e goes = subst (λ k. (y : X) × (slice_get (x ∷ xs) k ≡ Some y)) (some_is e) (x, refl)
    at false o e goes = behind o e goes
