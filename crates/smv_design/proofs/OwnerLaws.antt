-- When two owners, or two layers, are the same.
use Rattle.std.proofs.Common.{◌≡◌, ℕ, Option, Some, None, true, nat_eq, ◌&&◌, refl, sym, ap, ◌∙◌, arith}
use Rattle.std.specs.Option.{option_eq}
use Rattle.std.proofs.lemmas.Bool.Decides.{nat_tests}
use Rattle.std.proofs.lemmas.Bool.{and_parts}
use Rattle.law_lists.proofs.Numbers.{nat_eq-turned}
use Rattle.law_designs.specs.WholeText.{is_one_layer}
use Rattle.smv_design.specs.declared.owners.Owner.{Owner}
use Rattle.smv_design.specs.Groups.{same_owner}

layers-equal : (a b : Option ℕ) → option_eq nat_eq a b ≡ true → a ≡ b
layers-equal None None e = refl
layers-equal None (Some j) e = absurd (cc)
layers-equal (Some i) None e = absurd (cc)
layers-equal (Some i) (Some j) e = let same : i ≡ j = grind (arith, nat_tests) in ap (λ k. Some k) same

pub one-layer : (a b : Option ℕ) → option_eq nat_eq a b ≡ is_one_layer a b
one-layer None None = refl
one-layer None (Some j) = refl
one-layer (Some i) None = refl
one-layer (Some i) (Some j) = refl

pub layers-turned : (a b : Option ℕ) → is_one_layer a b ≡ is_one_layer b a
layers-turned None None = refl
layers-turned None (Some j) = refl
layers-turned (Some i) None = refl
layers-turned (Some i) (Some j) = grind arith

pub owners-equal : (a b : Owner) → same_owner a b ≡ true → a ≡ b
owners-equal a b e =
    let both : (option_eq nat_eq a.layer b.layer ≡ true) × (nat_eq a.family b.family ≡ true) = and_parts _ _ e in
    let layers : a.layer ≡ b.layer = layers-equal a.layer b.layer both.0 in
    let test : nat_eq a.family b.family ≡ true = both.1 in
    let families : a.family ≡ b.family = grind (arith, nat_tests) in
    ap (λ (l : Option ℕ). let o : Owner = record { layer = l; family = a.family } in o) layers ∙ ap (λ (f : ℕ). let o : Owner = record { layer = b.layer; family = f } in o) families

pub owners-turned : (a b : Owner) → same_owner a b ≡ same_owner b a
owners-turned a b =
    ap (λ t. t && nat_eq a.family b.family) (one-layer a.layer b.layer ∙ layers-turned a.layer b.layer ∙ sym (one-layer b.layer a.layer)) ∙ ap (λ t. option_eq nat_eq b.layer a.layer && t) (nat_eq-turned a.family b.family)
