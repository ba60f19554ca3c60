-- The law of what is read together with what is seen in the tokens ahead of it.
use Rattle.std.proofs.Common.{◌≡◌, ℕ, Bool, true, [], ◌++◌, Option, Ok, Err, ◌⊎◌, inl, inr, refl, sym, ◌∙◌, ap, subst, arith}
use Rattle.smv_core.specs.declared.token.Token.{Token}
use Rattle.smv_core.specs.Notation.{Tokens, Rule}
use Rattle.law_grammar.specs.Parsing.{Halts, Outcome, Parser, and_then}
use Rattle.law_grammar.specs.Lawful.{Levels, first, Finishes, Reads, kept, Stuck, IsDeep, Law, Lawful}
use Rattle.law_grammar.specs.Readers.{noting}
use Rattle.law_grammar.proofs.Lists.{same_ok}

-- a rule, and what is seen in the tokens
abbrev pub noted : {A B : Type 0} → (Tokens → B) → Rule A → Rule (A × B)
noted f r ts v rest = r ts v.0 rest × (v.1 ≡ f ts)

module _ {A B : Type 0} (F : Levels A) (f : Tokens → B) (steady : (floor : ℕ → ℕ) (m : ℕ) (front : Tokens) (a : A) → F floor m (front ++ []) a [] → (z : Tokens) → f (front ++ z) ≡ f front) where
  abbrev pub seen : Levels (A × B)
  seen floor m = noted f (F floor m)

  steady-at : (floor : ℕ → ℕ) (m : ℕ) (front : Tokens) (a : A) → ((r : Tokens) → F floor m (front ++ r) a r) → (z : Tokens) → f (front ++ z) ≡ f front
  steady-at floor m front a h z = steady floor m front a (h []) z

  noted-finish : ((place : ℕ) → Finishes F place) → (place : ℕ) → Finishes seen place
  noted-finish x place =
      let u = x place in
      record {
        more = u.more;
        value = (u.value, f u.more);
        enough = u.enough;
        spelled = λ floor m z e r. (u.spelled floor m z e r, sym (steady-at floor m u.more u.value (u.spelled floor m z e) r));
      }

  module _ (n : ℕ) (p : Parser A) (st : A → Option Token → Bool) (law : Law F n p st) where
    noted-reads : (ts : Tokens) (v : A × B) (rest : Tokens) (o : Outcome A) → p ts ≡ o → and_then o (λ a rest. Ok ((a, f ts), rest)) ≡ Ok (v, rest) → Reads seen n (noting f p) ts v rest
    noted-reads ts v rest (Err x) q h = absurd cc
    noted-reads ts v rest (Ok (a, middle)) q h =
        let same = same_ok (a, f ts) v middle rest _ refl h in
        let P : A × B → Type 0 = λ w. Reads seen n (noting f p) ts w rest in
        let Q : Tokens → Type 0 = λ z. Reads seen n (noting f p) ts (a, f ts) z in
        subst P same.0 (subst Q same.1 (done (law.reads ts a middle q)))
      where
        done : Reads F n p ts a middle → Reads seen n (noting f p) ts (a, f ts) middle
        done u =
            let k = steady-at (λ i. 0) n u.front a (u.spelled (λ i. 0) n (λ i. omega arith)) in
            let e : f ts ≡ f u.front = ap f u.split ∙ k middle in
            record {
              front = u.front;
              split = u.split;
              spelled = λ floor m w r. (u.spelled floor m w r, e ∙ sym (k r));
              again = λ other same. let q' = u.again other same in let e' : f (u.front ++ other) ≡ f ts = k other ∙ sym e in rw q' (rw e' refl);
            }

    noted-complete : (floor : ℕ → ℕ) (m : ℕ) (ts : Tokens) (v : A × B) (rest : Tokens) → seen floor m ts v rest → st v.0 (first rest) ≡ true
        → (noting f p ts ≡ Ok (v, rest)) ⊎ IsDeep n floor m (noting f p ts)
    noted-complete floor m ts v rest h stop = go (law.complete floor m ts v.0 rest h.0 stop)
      where
        go : (p ts ≡ Ok (v.0, rest)) ⊎ IsDeep n floor m (p ts) → (noting f p ts ≡ Ok (v, rest)) ⊎ IsDeep n floor m (noting f p ts)
        go (inl q) = let e = h.1 in inl (rw q (rw (← e) refl))
        go (inr d) = let q = d.halts in inr (record { token = d.token; rest = d.rest; halts = rw q refl; forbidden = d.forbidden })

    noted-halts : (ts : Tokens) (deep : Bool) (bad : Tokens) (o : Outcome A) → p ts ≡ o → and_then {B = A × B} o (λ a rest. Ok ((a, f ts), rest)) ≡ Err (Halts deep bad) → Stuck seen n (noting f p) deep ts bad
    noted-halts ts deep bad (Ok x) q h = absurd cc
    noted-halts ts deep bad (Err x) q h = done (law.halts ts deep bad (q ∙ cc))
      where
        done : Stuck F n p deep ts bad → Stuck seen n (noting f p) deep ts bad
        done u = record {
          front = u.front;
          split = u.split;
          at_token = u.at_token;
          goes_on = λ place is.
              let g = u.goes_on place is in
              record {
                more = g.more;
                value = (g.value, f ((u.front ++ kept deep bad) ++ g.more));
                enough = g.enough;
                spelled = λ floor m w z l r. (g.spelled floor m w z l r, sym (steady-at floor m ((u.front ++ kept deep bad) ++ g.more) g.value (g.spelled floor m w z l) r));
              };
          again = λ other same. let q' = u.again other same in rw q' refl;
        }

    noted-law : Law seen n (noting f p) (λ v. st v.0)
    noted-law = record {
      reads = λ ts v rest. noted-reads ts v rest (p ts) refl;
      complete = noted-complete;
      halts = λ ts deep bad. noted-halts ts deep bad (p ts) refl;
    }

-- what is read and seen, where what is seen does not depend on what comes after what is read
pub noted-lawful : {C A B : Type 0} {F : Levels A} {n : ℕ} {p : Parser A} {st : A → Option Token → Bool} (f : Tokens → B)
    → ((floor : ℕ → ℕ) (m : ℕ) (front : Tokens) (a : A) → F floor m (front ++ []) a [] → (z : Tokens) → f (front ++ z) ≡ f front)
    → Lawful C F n p st → Lawful C (λ floor m. noted f (F floor m)) n (noting f p) (λ v. st v.0)
noted-lawful {F = F} {n = n} {p = p} {st = st} f steady x = record { finishes = noted-finish F f steady x.finishes; law = λ c. noted-law F f steady n p st (x.law c) }
