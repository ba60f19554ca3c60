-- Constants that belong to several lists.
use Rattle.std.proofs.Common.{◌≡◌, ◌<◌, ◌≤◌, ℕ, suc, List, [], ◌∷◌, ◌++◌, length, drop, Bool, true, false, refl, sym, ap, ◌∙◌, arith}
use Rattle.std.proofs.lemmas.Bool.Decides.{nat_tests}
use Rattle.std.proofs.lemmas.List.{drop_all}
use Rattle.std.specs.Prelude.{Option, filter, if◌then◌else◌, ◌&&◌, nat_eq}
use Rattle.std.specs.List.{flat_map}
use Rattle.smv_core.specs.Outcome.{same_path}
use Rattle.smv_core.specs.Types.{names_of}
use Rattle.smv_core.specs.declared.tree.Word.{Word}
use Rattle.smv_mentions.specs.NameFaults.{places_of, place_if}
use Rattle.smv_mentions.specs.Scopes.{first_of_places}
use Rattle.smv_first_fault.specs.Firsts.{least}
use Rattle.smv_first_fault.proofs.LeastLaws.{first-none}

-- where one list has ended, they are the same if the other one has
pub ends : (left right : List Word) → (0 < length left → 0 < length right → ⊥) → same_path (names_of left) (names_of right) ≡ (nat_eq (length left) 0 && nat_eq (length right) 0)
ends [] [] over = refl
ends [] (w ∷ right) over = let not_none : nat_eq (suc (length right)) 0 ≡ false = grind (arith, nat_tests) in sym not_none
ends (w ∷ left) [] over = let not_none : nat_eq (suc (length left)) 0 ≡ false = grind (arith, nat_tests) in sym (ap (λ b. b && true) not_none)
ends (w ∷ left) (v ∷ right) over = absurd (over (omega arith) (omega arith))

-- the places of those words that break a rule
pub places-flat : (p : Word → Bool) (words : List Word) → places_of (filter p words) ≡ flat_map (λ word. place_if (p word) word.at) words
places-flat p [] = refl
places-flat p (w ∷ words) = by (p w) (places-flat p words)
  where
    by : (b : Bool) → places_of (filter p words) ≡ flat_map (λ word. place_if (p word) word.at) words →
        places_of (if b then w ∷ filter p words else filter p words) ≡ place_if b w.at ++ flat_map (λ word. place_if (p word) word.at) words
    by true more = ap (λ l. w.at ∷ l) more
    by false more = more

-- where all words have been looked at
pub at-end : (f : Word → List ℕ) (words : List Word) (n : ℕ) (first whole : Option ℕ) → length words ≤ n → first_of_places first (least (flat_map f (drop n words))) ≡ whole → first ≡ whole
at-end f words n first whole over known = sym (first-none first) ∙ ap (λ l. first_of_places first (least (flat_map f l))) (sym (drop_all n words over)) ∙ known
