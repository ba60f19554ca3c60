-- Tests that pass alone pass once.
use Rattle.std.proofs.Common.{◌≡◌, List, [], ◌∷◌, Bool, true, false, ◌||◌, cond, refl, ap}
use Rattle.std.specs.List.{filter, list_any}
use Rattle.law_wires.specs.Tries.{PassAlone, PassesOnce}

-- where one has been found no other passes
none_more : {X : Type 0} (test : X → Bool) (xs : List X) → PassAlone test true xs → filter test xs ≡ []
none_more test [] h = refl
none_more test (x ∷ xs) h = rw (h.0) (none_more test xs h.1)

pub once : {X : Type 0} (test : X → Bool) (xs : List X) → list_any test xs ≡ true → PassAlone test false xs → PassesOnce test xs
once test [] e h = absurd (cc)
once test (x ∷ xs) e h = at (test x) e h.1 (λ k rest. once test xs k rest)
  where
    at : (t : Bool) → t || list_any test xs ≡ true → PassAlone test t xs → (list_any test xs ≡ true → PassAlone test false xs → PassesOnce test xs) → (y : _) × (cond t (x ∷ filter test xs) (filter test xs) ≡ y ∷ [])
    at true e rest goes = (x, ap (λ l. x ∷ l) (none_more test xs rest))
    at false e rest goes = goes e rest
