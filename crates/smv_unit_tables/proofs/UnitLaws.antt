-- Units, noted one behind another.
use Rattle.std.proofs.Common.{◌≡◌, ℕ, suc, ◌+◌, ◌<◌, List, [], ◌∷◌, ◌++◌, length, take, get_or, Bool, true, false, cond, if◌then◌else◌, refl, ap, sym, ◌∙◌, Option, Some, None, option_map, ◌&&◌, nat_eq, arith, add-one}
use Rattle.std.specs.HashMap.{HashMap}
use Rattle.std.proofs.lemmas.List.{length-take}
use Rattle.std.proofs.Math.Seq.{take-suc}
use Rattle.law_lists.proofs.Numbers.{nat_eq-is}
use Rattle.law_lists.proofs.Booleans.{left_of, right_of}
use Rattle.smv_core.specs.declared.flat.Design.{Design}
use Rattle.smv_core.specs.declared.flat.Unit.{Unit}
use Rattle.law_obligations.specs.Outlines.{place_of, is_map, is_claim}
use Rattle.smv_unit_tables.specs.declared.units.UnitTable.{UnitTable}
use Rattle.smv_unit_tables.specs.Units.{found_or, same_pair, noted_map, AreNoted, Notes}

further : (o : Option ℕ) (b : Bool) (n : ℕ) → option_map (λ k. suc k) (found_or o b n) ≡ found_or (option_map (λ k. suc k) o) b (suc n)
further (Some k) b n = refl
further None true n = refl
further None false n = refl

-- one more at the end
place_of-push : {X : Type 0} (p : X → Bool) (xs : List X) (x : X) → place_of p (xs ++ x ∷ []) ≡ found_or (place_of p xs) (p x) (length xs)
place_of-push p [] x = at (p x)
  where
    at : (b : Bool) → (if b then Some 0 else option_map (λ k. suc k) None) ≡ found_or None b 0
    at true = refl
    at false = refl
place_of-push p (y ∷ xs) x = ap (λ o. if p y then Some 0 else option_map (λ k. suc k) o) (place_of-push p xs x) ∙ at (p y)
  where
    at : (b : Bool) → (if b then Some 0 else option_map (λ k. suc k) (found_or (place_of p xs) (p x) (length xs))) ≡ found_or (if b then Some 0 else option_map (λ k. suc k) (place_of p xs)) (p x) (suc (length xs))
    at true = refl
    at false = further (place_of p xs) (p x) (length xs)

-- the place among those so far, and one more
place_of-more : {X : Type 0} (p : X → Bool) (xs : List X) (k : ℕ) (z : X) → k < length xs → place_of p (take (k + 1) xs) ≡ found_or (place_of p (take k xs)) (p (get_or xs k z)) k
place_of-more p xs k z h =
    ap (λ n. place_of p (take n xs)) (add-one k)
    ∙ ap (place_of p) (take-suc xs k z h)
    ∙ place_of-push p (take k xs) (get_or xs k z)
    ∙ ap (found_or (place_of p (take k xs)) (p (get_or xs k z))) (let l = length-take k xs in omega (arith, l))

pub noted_more : (d : Design) (units : List Unit) (k : ℕ) (z : Unit) (old new : UnitTable) → k < length units → AreNoted d (take k units) old → Notes d (get_or units k z) k old new → AreNoted d (take (k + 1) units) new
noted_more d units k z old new h known notes = record {
  maps = λ family layer. notes.maps family layer ∙ ap (λ o. found_or o (is_map d family layer (get_or units k z)) k) (known.maps family layer) ∙ sym (place_of-more (is_map d family layer) units k z h);
  claims = λ claim. notes.claims claim ∙ ap (λ o. found_or o (is_claim claim (get_or units k z)) k) (known.claims claim) ∙ sym (place_of-more (is_claim claim) units k z h);
}

pub not_it : (o : Option ℕ) (n : ℕ) → o ≡ found_or o false n
not_it None n = refl
not_it (Some k) n = refl

-- a map that has no place gets it
pub map_new : {S : Type 0} (old new : HashMap (ℕ × ℕ) ℕ S) (a b n : ℕ) → noted_map old a b ≡ None → ((family layer : ℕ) → noted_map new family layer ≡ cond (nat_eq a family && nat_eq b layer) (Some n) (noted_map old family layer)) →
    (family layer : ℕ) → noted_map new family layer ≡ found_or (noted_map old family layer) (same_pair (a, b) (family, layer)) n
map_new old new a b n absent updated family layer = updated family layer ∙ at (nat_eq a family && nat_eq b layer) refl
  where
    at : (t : Bool) → (nat_eq a family && nat_eq b layer) ≡ t → cond t (Some n) (noted_map old family layer) ≡ found_or (noted_map old family layer) t n
    at true e = sym (ap (λ o. found_or o true n)
        (ap (λ f. noted_map old f layer) (sym (nat_eq-is a family (left_of (nat_eq a family) (nat_eq b layer) e))) ∙ ap (noted_map old a) (sym (nat_eq-is b layer (right_of (nat_eq a family) (nat_eq b layer) e))) ∙ absent))
    at false e = not_it (noted_map old family layer) n
