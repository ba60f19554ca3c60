-- The law of what comes after a token that opens a level, and stands outside that level.
use Rattle.std.proofs.Common.{◌≡◌, ℕ, zero, suc, ◌<◌, ◌-◌, Bool, true, Option, Ok, Err, ◌⊎◌, inl, inr, subst, arith}
use Rattle.smv_core.specs.declared.token.Token.{Token}
use Rattle.smv_core.specs.Notation.{Tokens}
use Rattle.law_grammar.specs.Parsing.{Halts, Parser}
use Rattle.law_grammar.specs.Lawful.{Levels, first, Finishes, Reads, Stuck, IsDeep, Law, Lawful}

module _ {A : Type 0} (F : Levels A) where
  -- the same, where a level less is counted
  abbrev pub less : Levels A
  less floor m = F floor (suc m)

  less-finish : ((place : ℕ) → Finishes F place) → (place : ℕ) → Finishes less place
  less-finish f place = let x = f place in record { more = x.more; value = x.value; enough = x.enough; spelled = λ floor m z e r. x.spelled floor (suc m) z (omega arith) r }

  module _ (n : ℕ) (p : Parser A) (st : A → Option Token → Bool) (f : Law F (suc n) p st) where
    less-reads : (ts : Tokens) (a : A) (rest : Tokens) → p ts ≡ Ok (a, rest) → Reads less n p ts a rest
    less-reads ts a rest h =
        let u = f.reads ts a rest h in
        record { front = u.front; split = u.split; spelled = λ floor m w r. u.spelled floor (suc m) (λ i. let l = w i in omega arith) r; again = u.again }

    less-complete : (floor : ℕ → ℕ) (m : ℕ) (ts : Tokens) (a : A) (rest : Tokens) → less floor m ts a rest → st a (first rest) ≡ true → (p ts ≡ Ok (a, rest)) ⊎ IsDeep n floor m (p ts)
    less-complete floor m ts a rest h stop = go (f.complete floor (suc m) ts a rest h stop)
      where
        go : (p ts ≡ Ok (a, rest)) ⊎ IsDeep (suc n) floor (suc m) (p ts) → (p ts ≡ Ok (a, rest)) ⊎ IsDeep n floor m (p ts)
        go (inl e) = inl e
        go (inr d) = inr (let l = d.forbidden in record { token = d.token; rest = d.rest; halts = d.halts; forbidden = omega arith })

    less-halts : (ts : Tokens) (deep : Bool) (bad : Tokens) → p ts ≡ Err (Halts deep bad) → Stuck less n p deep ts bad
    less-halts ts deep bad h =
        let u = f.halts ts deep bad h in
        record {
          front = u.front;
          split = u.split;
          at_token = u.at_token;
          goes_on = λ place is.
              let g = u.goes_on place is in
              record { more = g.more; value = g.value; enough = g.enough; spelled = λ floor m w z l r. g.spelled floor (suc m) (λ i. let k = w i in omega arith) z (omega arith) r };
          again = u.again;
        }

    less-law : Law less n p st
    less-law = record { reads = less-reads; complete = less-complete; halts = less-halts }

  less-law-at : (n : ℕ) (p : Parser A) (st : A → Option Token → Bool) → 0 < n → Law F n p st → Law less (n - 1) p st
  less-law-at zero p st c f = absurd (omega arith)
  less-law-at (suc n) p st c f = let e : n ≡ suc n - 1 = omega arith in let P : ℕ → Type 0 = λ k. Law less k p st in subst P e (less-law n p st f)

-- outside the level
pub outside : {A : Type 0} {F : Levels A} {n : ℕ} {p : Parser A} {st : A → Option Token → Bool} → Lawful (0 < n) F n p st → Lawful (0 < n) (λ floor m. F floor (suc m)) (n - 1) p st
outside {F = F} {n = n} {p = p} {st = st} f = record { finishes = less-finish F f.finishes; law = λ c. less-law-at F n p st c (f.law c) }
