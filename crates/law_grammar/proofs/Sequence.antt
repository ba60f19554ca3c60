-- The law of one parser after another.
use Rattle.std.proofs.Common.{◌≡◌, ℕ, max, Bool, true, ◌++◌, Option, Ok, Err, ◌⊎◌, inl, inr, refl, sym, ◌∙◌, ap, append_assoc, arith}
use Rattle.std.proofs.Math.Nat.{le-max_left, le-max_right}
use Rattle.smv_core.specs.declared.token.Token.{Token}
use Rattle.smv_core.specs.Notation.{Tokens, ◌>>=◌}
use Rattle.law_grammar.specs.Parsing.{Halts, Outcome, Parser, and_then, bind}
use Rattle.law_grammar.specs.Lawful.{Levels, first, Finishes, Reads, kept, Stuck, IsDeep, Law, Lawful}
use Rattle.law_grammar.proofs.Lists.{first-append, regroup, regroup-end}

module _ {A B : Type 0} (F : Levels A) (S : A → Levels B) where
  abbrev pub sequence : Levels B
  sequence floor m = F floor m >>= λ a. S a floor m

  pub sequence-finish : ((place : ℕ) → Finishes F place) → ((a : A) (place : ℕ) → Finishes (S a) place) → (place : ℕ) → Finishes sequence place
  sequence-finish f s place =
      let x = f place in
      let y = s x.value place in
      record {
        more = x.more ++ y.more;
        value = y.value;
        enough = max x.enough y.enough;
        spelled = λ floor m z e r.
            let l = le-max_left x.enough y.enough in
            let k = le-max_right x.enough y.enough in
            (x.value, y.more ++ r, rw append_assoc (x.spelled floor m z (omega arith) (y.more ++ r)), y.spelled floor m z (omega arith) r);
      }

  module _ {n : ℕ} {p : Parser A} {q : A → Parser B} {st : A → Option Token → Bool} {st' : B → Option Token → Bool} (f : Law F n p st) (s : (a : A) → Law (S a) n (q a) st')
      (ends : (a : A) (place : ℕ) → Finishes (S a) place)
      (follow : (floor : ℕ → ℕ) (m : ℕ) (a : A) (b : B) (middle rest : Tokens) → S a floor m middle b rest → st' b (first rest) ≡ true → st a (first middle) ≡ true) where
    sequence-reads : (ts : Tokens) (b : B) (rest : Tokens) (o : Outcome A) → p ts ≡ o → and_then o q ≡ Ok (b, rest) → Reads sequence n (bind p q) ts b rest
    sequence-reads ts b rest (Ok (a, middle)) e h =
        let u = f.reads ts a middle e in
        let v = (s a).reads middle b rest h in
        record {
          front = u.front ++ v.front;
          split = u.split ∙ (ap (λ (z : Tokens). u.front ++ z) v.split ∙ sym (append_assoc u.front v.front rest));
          spelled = λ floor m w r. (a, v.front ++ r, rw append_assoc (u.spelled floor m w (v.front ++ r)), v.spelled floor m w r);
          again = λ other same.
              let e1 : first (v.front ++ other) ≡ first middle = first-append v.front other rest same ∙ ap first (sym v.split) in
              let e2 : p ((u.front ++ v.front) ++ other) ≡ Ok (a, v.front ++ other) = rw append_assoc (u.again (v.front ++ other) e1) in
              rw e2 (v.again other same);
        }
    sequence-reads ts b rest (Err x) e h = absurd cc

    sequence-complete : (floor : ℕ → ℕ) (m : ℕ) (ts : Tokens) (b : B) (rest : Tokens) → sequence floor m ts b rest → st' b (first rest) ≡ true
        → (bind p q ts ≡ Ok (b, rest)) ⊎ IsDeep n floor m (bind p q ts)
    sequence-complete floor m ts b rest h stop = go (f.complete floor m ts h.0 h.1 h.2 (follow floor m h.0 b h.1 rest h.3 stop))
      where
        go : (p ts ≡ Ok (h.0, h.1)) ⊎ IsDeep n floor m (p ts) → (bind p q ts ≡ Ok (b, rest)) ⊎ IsDeep n floor m (bind p q ts)
        go (inl e) = rw e ((s h.0).complete floor m h.1 b rest h.3 stop)
        go (inr d) = inr (let e = d.halts in record { token = d.token; rest = d.rest; halts = rw e; forbidden = d.forbidden })

    sequence-halts : (ts : Tokens) (deep : Bool) (bad : Tokens) (o : Outcome A) → p ts ≡ o → and_then o q ≡ Err (Halts deep bad) → Stuck sequence n (bind p q) deep ts bad
    sequence-halts ts deep bad (Err x) e h =
        let e' : p ts ≡ Err (Halts deep bad) = cc in
        let u = f.halts ts deep bad e' in
        record {
          front = u.front;
          split = u.split;
          at_token = u.at_token;
          goes_on = λ place is.
              let g = u.goes_on place is in
              let y = ends g.value place in
              record {
                more = g.more ++ y.more;
                value = y.value;
                enough = max g.enough y.enough;
                spelled = λ floor m w z e r.
                    let l = le-max_left g.enough y.enough in
                    let k = le-max_right g.enough y.enough in
                    (g.value, y.more ++ r, rw (regroup-end (u.front ++ kept deep bad) g.more y.more r) (g.spelled floor m w z (omega arith) (y.more ++ r)), y.spelled floor m z (omega arith) r);
              };
          again = λ other same. rw (u.again other same);
        }
    sequence-halts ts deep bad (Ok (a, middle)) e h =
        let u = f.reads ts a middle e in
        let v = (s a).halts middle deep bad h in
        record {
          front = u.front ++ v.front;
          split = u.split ∙ (ap (λ (z : Tokens). u.front ++ z) v.split ∙ sym (append_assoc u.front v.front bad));
          at_token = v.at_token;
          goes_on = λ place is.
              let g = v.goes_on place is in
              record {
                more = g.more;
                value = g.value;
                enough = g.enough;
                spelled = λ floor m w z e r. (
                  a,
                  ((v.front ++ kept deep bad) ++ g.more) ++ r,
                  rw (regroup u.front v.front (kept deep bad) g.more r) (u.spelled floor m w (((v.front ++ kept deep bad) ++ g.more) ++ r)),
                  g.spelled floor m w z e r,
                );
              };
          again = λ other same.
              let e1 : first (v.front ++ other) ≡ first middle = first-append v.front other bad same ∙ ap first (sym v.split) in
              let e2 : p ((u.front ++ v.front) ++ other) ≡ Ok (a, v.front ++ other) = rw append_assoc (u.again (v.front ++ other) e1) in
              rw e2 (v.again other same);
        }

    pub sequence-law : Law sequence n (bind p q) st'
    sequence-law = record {
      reads = λ ts b rest. sequence-reads ts b rest (p ts) refl;
      complete = sequence-complete;
      halts = λ ts deep bad. sequence-halts ts deep bad (p ts) refl;
    }

-- one parser after another, where each value of the first is stopped by what begins the second
pub followed : {C : Type 0} {A B : Type 0} {F : Levels A} {S : A → Levels B} {n : ℕ} {p : Parser A} {q : A → Parser B} {st : A → Option Token → Bool} {st' : B → Option Token → Bool}
    → Lawful C F n p st → ((a : A) → Lawful C (S a) n (q a) st')
    → ((floor : ℕ → ℕ) (m : ℕ) (a : A) (b : B) (middle rest : Tokens) → S a floor m middle b rest → st' b (first rest) ≡ true → st a (first middle) ≡ true)
    → Lawful C (λ floor m. F floor m >>= λ a. S a floor m) n (bind p q) st'
followed f s follow = record {
  finishes = sequence-finish _ _ f.finishes (λ a. (s a).finishes);
  law = λ c. sequence-law _ _ (f.law c) (λ a. (s a).law c) (λ a. (s a).finishes) follow;
}
