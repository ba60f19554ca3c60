-- Laws of written tokens.
use Rattle.std.proofs.Common.{◌≡◌, ℕ, List, [], ◌∷◌, ◌++◌, map, get_or, length, ◌<◌, zero, suc, refl, ap, append_assoc, arith}
use Rattle.std.specs.List.{flat_map}
use Rattle.std.proofs.lemmas.List.{append-nil}
use Rattle.std.proofs.lemmas.Grind.{flat_map-append}
use Rattle.smv_print.specs.Written.{Kinds, spaced, written}

pub written-append : (a b : Kinds) → written (a ++ b) ≡ written a ++ written b
written-append a b = flat_map-append spaced a b

-- lists that are made one by one, end to end
pub flat_map-each : {A : Type 0} (f : A → Kinds) (xs : List A) → flat_map (λ ks. ks) (map f xs) ≡ flat_map f xs
flat_map-each f [] = refl
flat_map-each f (x ∷ xs) = ap (λ (ks : Kinds). f x ++ ks) (flat_map-each f xs)

pub ruleset writing = (written-append, flat_map-each, append_assoc, append-nil)

pub get_or_map : {A B : Type 0} (f : A → B) (xs : List A) (i : ℕ) (d : A) (e : B) → i < length xs → get_or (map f xs) i e ≡ f (get_or xs i d)
get_or_map f [] i d e h = absurd (omega arith)
get_or_map f (x ∷ xs) zero d e h = refl
get_or_map f (x ∷ xs) (suc i) d e h = get_or_map f xs i d e (omega arith)
