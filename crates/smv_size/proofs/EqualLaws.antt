-- Sizes that are equal by their test are equal.
use Rattle.std.proofs.Common.{◌≡◌, ℕ, Bool, true, false, ◌&&◌, eqb, refl, ap, sym, ◌∙◌, arith, Decides}
use mathlib.Core.Bool.{beq}
use Rattle.std.proofs.lemmas.Bool.Decides.{nat_tests}
use Rattle.std.proofs.lemmas.Bool.{and_from, eqb-true}
use Rattle.law_lists.proofs.Booleans.{left_of, right_of}
use Rattle.smv_size.specs.declared.modules.Things.{Things}
use Rattle.smv_size.specs.declared.modules.ModuleSize.{ModuleSize}
use Rattle.smv_size.proofs.SummaryLaws.{same_size, same_things}

same_number : (n : ℕ) → eqb n n ≡ true
same_number n = grind (arith, nat_tests)

truth : (p q : Bool) → beq p q ≡ true → p ≡ q
truth true true h = refl
truth false false h = refl
truth true false h = cc
truth false true h = cc

same_truth : (p : Bool) → beq p p ≡ true
same_truth true = refl
same_truth false = refl

abbrev equal_things : Things → Things → Bool
equal_things a b = eqb a.count b.count && beq a.wide b.wide

abbrev equal : ModuleSize → ModuleSize → Bool
equal a b = eqb a.formals b.formals && (equal_things a.things b.things && eqb a.statements b.statements)

is : (a b : ModuleSize) → equal a b ≡ true → a ≡ b
is a b h =
    let rest = right_of (eqb a.formals b.formals) (equal_things a.things b.things && eqb a.statements b.statements) h in
    let things = left_of (equal_things a.things b.things) (eqb a.statements b.statements) rest in
    same_size a.formals b.formals a.things b.things a.statements b.statements
    (eqb-true a.formals b.formals (left_of (eqb a.formals b.formals) (equal_things a.things b.things && eqb a.statements b.statements) h))
    (same_things a.things.count b.things.count a.things.wide b.things.wide (eqb-true a.things.count b.things.count (left_of (eqb a.things.count b.things.count) (beq a.things.wide b.things.wide) things)) (truth a.things.wide b.things.wide (right_of (eqb a.things.count b.things.count) (beq a.things.wide b.things.wide) things)))
    (eqb-true a.statements b.statements (right_of (equal_things a.things b.things) (eqb a.statements b.statements) rest))

same : (a : ModuleSize) → equal a a ≡ true
same a =
    and_from (eqb a.formals a.formals) (equal_things a.things a.things && eqb a.statements a.statements) (same_number a.formals)
    (and_from (equal_things a.things a.things) (eqb a.statements a.statements) (and_from (eqb a.things.count a.things.count) (beq a.things.wide a.things.wide) (same_number a.things.count) (same_truth a.things.wide)) (same_number a.statements))

pub decides : (a b : ModuleSize) → Decides (equal a b) (a ≡ b)
decides a b = (is a b, λ e. ap (equal a) (sym e) ∙ same a)
