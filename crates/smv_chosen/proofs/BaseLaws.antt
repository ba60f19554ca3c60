-- The base definition of a family, found from the first definition on.
use Rattle.std.proofs.Common.{◌≡◌, ℕ, List, [], ◌∷◌, filter, Option, Some, None, Bool, true, false, cond, nat_lt, refl, sym, ap, ◌∙◌, arith}
use Rattle.std.specs.List.{slice_get}
use Rattle.smv_core.specs.declared.flat.Design.{Design}
use Rattle.smv_core.specs.declared.flat.Def.{Def}
use Rattle.law_obligations.specs.Outlines.{earlier, earliest, may_be_base, base_of}
use Rattle.smv_core.specs.declared.flat.Family.{Family}
use Rattle.smv_chosen.specs.Chosen as words
use Rattle.smv_chosen.specs.Chosen.{earlier_of}

-- two definitions and then a third
earlier-again : (a b : Def) (c : Option Def) → earlier a (Some (earlier b c)) ≡ earlier (earlier a (Some b)) c
earlier-again a b None = refl
earlier-again a b (Some c) = by (nat_lt b.place a.place) (nat_lt c.place b.place) refl refl
  where
    by : (p q : Bool) → nat_lt b.place a.place ≡ p → nat_lt c.place b.place ≡ q → earlier a (Some (cond q c b)) ≡ earlier (cond p b a) (Some c)
    by true true e f = let l : nat_lt c.place a.place ≡ true = grind arith in ap (λ (x : Bool). cond x c a) l ∙ sym (ap (λ (x : Bool). cond x c b) f)
    by true false e f = ap (λ (x : Bool). cond x b a) e ∙ sym (ap (λ (x : Bool). cond x c b) f)
    by false true e f = refl
    by false false e f = let l : nat_lt c.place a.place ≡ false = grind arith in ap (λ (x : Bool). cond x b a) e ∙ sym (ap (λ (x : Bool). cond x c a) l)

pub earlier_of-again : (found : Option Def) (def : Def) (defs : List Def) → earlier_of (earlier_of found (Some def)) (earliest defs) ≡ earlier_of found (earliest (def ∷ defs))
earlier_of-again None def defs = refl
earlier_of-again (Some other) def defs = ap Some (sym (earlier-again other def (earliest defs)))

pub earlier_of-none : (found : Option Def) → earlier_of found None ≡ found
earlier_of-none None = refl
earlier_of-none (Some def) = refl

pub ruleset bases = (earlier_of-again, earlier_of-none)

nothing : (d : Design) (family : ℕ) (defs : List Def) → filter (may_be_base d family None) defs ≡ []
nothing d family [] = refl
nothing d family (def ∷ defs) = nothing d family defs

pub no-base : (d : Design) (family : ℕ) → slice_get d.families family ≡ None → base_of d family ≡ None
no-base d family e = ap (λ o. earliest (filter (may_be_base d family o) d.defs)) e ∙ ap earliest (nothing d family d.defs)

pub some-base : (d : Design) (family : ℕ) (f : Family) → slice_get d.families family ≡ Some f → base_of d family ≡ earliest (filter (words.may_be_base family f) d.defs)
some-base d family f e = ap (λ o. earliest (filter (may_be_base d family o) d.defs)) e
