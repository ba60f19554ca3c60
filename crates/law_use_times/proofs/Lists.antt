-- Members of lists, by `Has` and by `Contains`.
use Rattle.std.proofs.Common.{◌≡◌, ℕ, zero, suc, ◌<◌, List, [], ◌∷◌, length, get_or, refl, sym, subst, arith}
use Rattle.std.specs.List.{Contains}
use Rattle.law_obligations.specs.Sets.{Has, first, later}

pub Contains-Has : {X : Type 0} (xs : List X) (x : X) → Contains xs x → Has xs x
Contains-Has xs x c = at xs c.0 c.1 c.2
  where
    at : (xs : List _) (k : ℕ) → k < length xs → get_or xs k x ≡ x → Has xs x
    at [] k h e = absurd (omega arith)
    at (y ∷ xs) zero h e = subst (λ z. Has (z ∷ xs) x) (sym e) first
    at (y ∷ xs) (suc k) h e = later (at xs k (omega arith) e)

pub Has-Contains : {X : Type 0} {xs : List X} {x : X} → Has xs x → Contains xs x
Has-Contains first = (0, omega arith, refl)
Has-Contains (later h) = let r = Has-Contains h in let l = r.1 in (suc r.0, omega (arith, l), r.2)
