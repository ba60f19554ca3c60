-- What stands at a place is known.
use Rattle.std.proofs.Common.{◌≡◌, ℕ, zero, suc, ◌<◌, List, [], ◌∷◌, length, get_or, sym, subst, refl, arith}
use Rattle.law_obligations.specs.Sets.{Has, first, later}
use Rattle.law_obligations.specs.FreeReads.{Agree}
use Rattle.smv_core.specs.declared.flat.FlatExpr.{FlatExpr}
use Rattle.smv_spots.specs.declared.spots.Spot.{Spot}
use Rattle.smv_free_variables.specs.Reading.{occurs}
use Rattle.smv_free_variables.specs.Placeless.{placeless}
use Rattle.smv_free_variables.specs.Known.{IsKnownOf}
use Rattle.smv_free_variables.specs.declared.known.Entry.{Entry}

Has-at : {X : Type 0} (xs : List X) (k : ℕ) (x d : X) → k < length xs → x ≡ get_or xs k d → Has xs x
Has-at [] k x d l e = absurd (omega arith)
Has-at (y ∷ ys) zero x d l e = subst (Has (y ∷ ys)) (sym e) first
Has-at (y ∷ ys) (suc k) x d l e = later (Has-at ys k x d (omega arith) e)

pub known-at : {A : Type 0} (entries shown : List (Entry A)) (place : ℕ) (x : Entry A) (e : FlatExpr) (b bound : List Spot) → shown ≡ entries → place < length shown → x ≡ get_or shown place x → placeless x.of.now ≡ placeless e → bound ≡ x.bindings → Agree (λ k. occurs k e) bound b → IsKnownOf entries e b x.answer
known-at entries shown place x e b bound same l at equal bindings agree =
    (x, (subst (λ xs. Has xs x) same (Has-at shown place x x l at), (record { same = equal; agree = subst (λ c. Agree (λ k. occurs k e) c b) bindings agree }, refl)))
