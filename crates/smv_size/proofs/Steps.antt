-- Steps over lists.
use Rattle.std.proofs.Common.{◌≡◌, ℕ, ◌+◌, ◌<◌, Option, Bool, true, false, List, [], ◌∷◌, ◌++◌, map, drop, length, get_or, refl, ap, sym, ◌∙◌, arith, suc, add-one, drop-cons}
use Rattle.std.specs.Prelude.{Some, None, flat_map, min}
use Rattle.std.proofs.lemmas.Bool.Decides.{nat_tests}
use Rattle.std.proofs.lemmas.List.{append-nil, append_assoc, map-append}
use Rattle.std.proofs.lemmas.List.Sums.{fold-append}
use Rattle.std.proofs.lemmas.List.Elements.{filter_map-append}
use Rattle.std.proofs.lemmas.Grind.{flat_map-append}
use Rattle.name_index.proofs.Finding.{position-within}
use Rattle.smv_mentions.specs.Mentions.{Mention, declares, binds, follows, names_type, lists_constants, has_fields, instantiates, first_place}
use Rattle.smv_mentions.specs.NameFaults.{used_in, place_if}
use Rattle.smv_size.specs.Recursion.{least_from, is_at_most}

-- the instances of a list of mentions, one behind the other
pub used_in-cons : (mention : Mention) (mentions : List Mention) → used_in (mention ∷ mentions) ≡ used_in (mention ∷ []) ++ used_in mentions
used_in-cons (instantiates word args) mentions = refl
used_in-cons (declares word what) mentions = refl
used_in-cons (binds around var) mentions = refl
used_in-cons (follows around parts) mentions = refl
used_in-cons (names_type word) mentions = refl
used_in-cons (lists_constants words) mentions = refl
used_in-cons (has_fields words) mentions = refl

-- a place that is not before the first changes nothing
pub least-kept : (first : Option ℕ) (found : Bool) (at : ℕ) → is_at_most first at ≡ true → least_from first (place_if found at) ≡ first
least-kept None found at e = cc
least-kept (Some g) false at e = refl
least-kept (Some g) true at e = let h : min at g ≡ g = grind (arith, nat_tests) in ap Some h

-- a place that is before the first comes first
pub least-found : (first : Option ℕ) (found : Bool) (at : ℕ) → is_at_most first at ≡ false → found ≡ true → least_from first (place_if found at) ≡ Some at
least-found first false at e is = cc
least-found None true at e is = refl
least-found (Some g) true at e is = let h : min at g ≡ at = grind (arith, nat_tests) in ap Some h

-- one element more in a loop
pub least-turn : {A B : Type 0} (f : B → List ℕ) (t : A → B) (xs : List A) (i : ℕ) (x : A) (first least start : Option ℕ) → i < length xs → x ≡ get_or xs i x → least ≡ least_from first (f (t x))
    → least_from first (flat_map f (map t (drop i xs))) ≡ start → least_from least (flat_map f (map t (drop (i + 1) xs))) ≡ start
least-turn {A} f t xs i x first least start h at is e =
    let rest : drop i xs ≡ x ∷ drop (i + 1) xs = drop-cons xs i x h ∙ ap (λ (y : A). y ∷ drop (suc i) xs) (sym at) ∙ ap (λ k. x ∷ drop k xs) (sym (add-one i)) in
    let parts = fold-append (λ (o : Option ℕ) (at : ℕ). Some (first_place at o)) first (f (t x)) (flat_map f (map t (drop (i + 1) xs))) in
    ap (λ o. least_from o (flat_map f (map t (drop (i + 1) xs)))) is ∙ sym parts ∙ sym (ap (λ l. least_from first (flat_map f (map t l))) rest) ∙ e

pub ruleset steps = (append-nil, append_assoc, map-append, fold-append, flat_map-append, used_in-cons, filter_map-append)

pub ruleset firsts = (least-kept, least-found, position-within)
