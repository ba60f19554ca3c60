use mathlib.Core.Bool.{false≢true}
use Rattle.std.proofs.Common.{◌≡◌, eqb, true, false, inl, inr, refl, sym, subst, ◌∙◌, arith}
use Rattle.std.proofs.lemmas.Bool.{cases_lt}
use Rattle.std.proofs.lemmas.Bool.Decides.{nat_tests}
use Rattle.bdd_store.specs.Diagram.{IsReduced}
use Rattle.bdd_store.proofs.Laws.{zero_constant, one_constant, place_proper, proper_iff}
use Rattle.bdd_store.proofs.Store.is_constant.Goals as goal

pub returns-then-r-lt2-clause-some : goal.returns-then-r-lt2-clause-some
unfolding IsReduced
returns-then-r-lt2-clause-some c a =
    let ok : IsReduced c.args.self.now = subst IsReduced c.self.view_is c.self.invariant.reduced in
    let test_zero : c.args.r.place ≡ 0 → eqb c.args.r.place 1 ≡ false = λ e. grind (arith, nat_tests) in
    let test_one : c.args.r.place ≡ 1 → eqb c.args.r.place 1 ≡ true = λ e. grind (arith, nat_tests) in
    elim (cases_lt c.args.r.place 1) [
      | inl below ↦ let e : c.args.r.place ≡ 0 = omega arith in (zero_constant c.args.self.now ok c.args.r e).1 a ∙ sym (test_zero e)
      | inr above ↦ let e : c.args.r.place ≡ 1 = omega arith in (one_constant c.args.self.now ok c.args.r e).1 a ∙ sym (test_one e)
    ]

pub returns-else-r-lt2-clause-none : goal.returns-else-r-lt2-clause-none
unfolding IsReduced
returns-else-r-lt2-clause-none c = place_proper c.args.self.now (subst IsReduced c.self.view_is c.self.invariant.reduced) c.args.r c.requires c.if-r-lt2.false

pub returns-then-r-lt2-clause-proper : goal.returns-then-r-lt2-clause-proper
unfolding IsReduced
returns-then-r-lt2-clause-proper c =
    let ok : IsReduced c.args.self.now = subst IsReduced c.self.view_is c.self.invariant.reduced in
    (λ e. absurd (false≢true (sym e)), λ p. absurd (omega (arith, (proper_iff c.args.self.now ok c.args.r c.requires).to p)))

pub returns-else-r-lt2-clause-proper : goal.returns-else-r-lt2-clause-proper
unfolding IsReduced
returns-else-r-lt2-clause-proper c =
    let ok : IsReduced c.args.self.now = subst IsReduced c.self.view_is c.self.invariant.reduced in
    (λ e. (proper_iff c.args.self.now ok c.args.r c.requires).from c.if-r-lt2.false, λ p. refl)
