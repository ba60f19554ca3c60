-- One step of the loops whose invariants `search` does not keep.
use Rattle.std.proofs.Common.{◌≡◌, ℕ, ◌+◌, ◌<◌, List, ◌++◌, map, length, get_or, drop, Bool, true, false, ◌&&◌, ◌||◌, cond, refl, ap, sym, ◌∙◌, arith, append_assoc, Some, nat_eq}
use Rattle.std.specs.Prelude.{Option}
use Rattle.std.specs.List.{flat_map}
use Rattle.law_lists.proofs.Places.{drop_read_one}
use Rattle.smv_core.specs.declared.flat.Def.{Def}
use Rattle.smv_mentions.specs.Scopes.{first_of_places}
use Rattle.smv_first_fault.specs.Firsts.{least}
use Rattle.smv_first_fault.proofs.LeastLaws.{first-assoc, least-append}
use Rattle.law_obligations.specs.Outlines.{is_in_layer, is_def}
use Rattle.smv_choices.specs.Parts.{first_among}

-- what is gathered
pub gather-step : {A B : Type 0} (f : A → List B) (xs : List A) (n : ℕ) (x : A) (old new whole : List B) → n < length xs → x ≡ get_or xs n x → new ≡ old ++ f x → old ++ flat_map f (drop n xs) ≡ whole → new ++ flat_map f (drop (n + 1) xs) ≡ whole
gather-step f xs n x old new whole below here is known =
    ap (λ l. l ++ flat_map f (drop (n + 1) xs)) is ∙ append_assoc old (f x) (flat_map f (drop (n + 1) xs)) ∙ ap (λ l. old ++ flat_map f l) (sym (drop_read_one xs n x below here)) ∙ known

-- the first of all places
pub place-step : {A : Type 0} (f : A → List ℕ) (xs : List A) (n : ℕ) (x : A) (old new whole : Option ℕ) → n < length xs → x ≡ get_or xs n x → new ≡ first_of_places old (least (f x))
    → first_of_places old (least (flat_map f (drop n xs))) ≡ whole → first_of_places new (least (flat_map f (drop (n + 1) xs))) ≡ whole
place-step f xs n x old new whole below here is known =
    ap (λ o. first_of_places o (least (flat_map f (drop (n + 1) xs)))) is ∙ first-assoc old (least (f x)) (least (flat_map f (drop (n + 1) xs)))
    ∙ ap (first_of_places old) (sym (least-append (f x) (flat_map f (drop (n + 1) xs))) ∙ ap (λ l. least (flat_map f l)) (sym (drop_read_one xs n x below here))) ∙ known

-- the first of what is found of each
pub among-step : {A B : Type 0} (g : B → Option ℕ) (held : A → B) (xs : List A) (n : ℕ) (x : A) (old place new whole : Option ℕ) → n < length xs → x ≡ get_or xs n x → place ≡ g (held x) → new ≡ first_of_places old place
    → first_of_places old (first_among (map g (map held (drop n xs)))) ≡ whole → first_of_places new (first_among (map g (map held (drop (n + 1) xs)))) ≡ whole
among-step g held xs n x old place new whole below here at is known =
    ap (λ o. first_of_places o (first_among (map g (map held (drop (n + 1) xs))))) (is ∙ ap (first_of_places old) at) ∙ first-assoc old (g (held x)) (first_among (map g (map held (drop (n + 1) xs))))
    ∙ ap (λ l. first_of_places old (first_among (map g (map held l)))) (sym (drop_read_one xs n x below here)) ∙ known

-- a definition more among those noted
pub noted-def : (def : Def) (l family layer : ℕ) (after before : Bool) → def.layer ≡ Some l → after ≡ cond (nat_eq def.family family && nat_eq l layer) true before → after ≡ (is_def family layer (Some def) || before)
noted-def def l family layer after before e updated = updated ∙ on (nat_eq def.family family && nat_eq l layer) ∙ ap (λ o. (nat_eq def.family family && is_in_layer layer o) || before) (sym e)
  where
    on : (b : Bool) → cond b true before ≡ (b || before)
    on true = refl
    on false = refl
