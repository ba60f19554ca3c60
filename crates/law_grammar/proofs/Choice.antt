-- The law of a choice by the next token.
use Rattle.std.proofs.Common.{◌≡◌, ℕ, Bool, true, false, cond, ◌++◌, Option, Ok, Err, ◌⊎◌, inl, inr, refl, sym, ◌∙◌, ap}
use Rattle.smv_core.specs.declared.token.Token.{Token}
use Rattle.smv_core.specs.Notation.{Tokens, ◌<|>◌}
use Rattle.law_grammar.specs.Parsing.{Halts, Parser, starts, fork}
use Rattle.law_grammar.specs.Lawful.{Levels, first, Reads, Stuck, IsDeep, Law, Lawful}
use Rattle.law_grammar.proofs.Lists.{first-append, starts-same}
use Rattle.law_grammar.proofs.Tokens.{same-finish, includes-completes}

module _ {A : Type 0} (F G : Levels A) where
  abbrev pub choice : Levels A
  choice floor m = F floor m <|> G floor m

  module _ {n : ℕ} {test : Token → Bool} {p q : Parser A} {st : A → Option Token → Bool} (f : Law F n p st) (g : Law G n q st)
      (heads : (floor : ℕ → ℕ) (m : ℕ) (ts : Tokens) (a : A) (rest : Tokens) → F floor m ts a rest → starts test ts ≡ true)
      (others : (floor : ℕ → ℕ) (m : ℕ) (ts : Tokens) (a : A) (rest : Tokens) → G floor m ts a rest → st a (first rest) ≡ true → starts test ts ≡ false) where
    same-fork : (ts front rest other : Tokens) → ts ≡ front ++ rest → first other ≡ first rest → starts test (front ++ other) ≡ starts test ts
    same-fork ts front rest other e same = starts-same test (front ++ other) (front ++ rest) (first-append front other rest same) ∙ ap (starts test) (sym e)

    reads-by : (ts : Tokens) (a : A) (rest : Tokens) (b : Bool) → starts test ts ≡ b → cond b (p ts) (q ts) ≡ Ok (a, rest) → Reads choice n (fork test p q) ts a rest
    reads-by ts a rest true e h =
        let u = f.reads ts a rest h in
        record {
          front = u.front;
          split = u.split;
          spelled = λ floor m w r. inl (u.spelled floor m w r);
          again = λ other same. let e' : starts test (u.front ++ other) ≡ true = same-fork ts u.front rest other u.split same ∙ e in rw e' (u.again other same);
        }
    reads-by ts a rest false e h =
        let u = g.reads ts a rest h in
        record {
          front = u.front;
          split = u.split;
          spelled = λ floor m w r. inr (u.spelled floor m w r);
          again = λ other same. let e' : starts test (u.front ++ other) ≡ false = same-fork ts u.front rest other u.split same ∙ e in rw e' (u.again other same);
        }

    complete-by : (floor : ℕ → ℕ) (m : ℕ) (ts : Tokens) (a : A) (rest : Tokens) → choice floor m ts a rest → st a (first rest) ≡ true
        → (fork test p q ts ≡ Ok (a, rest)) ⊎ IsDeep n floor m (fork test p q ts)
    complete-by floor m ts a rest (inl h) stop = rw (heads floor m ts a rest h) (f.complete floor m ts a rest h stop)
    complete-by floor m ts a rest (inr h) stop = rw (others floor m ts a rest h stop) (g.complete floor m ts a rest h stop)

    halts-by : (ts : Tokens) (deep : Bool) (bad : Tokens) (b : Bool) → starts test ts ≡ b → cond b (p ts) (q ts) ≡ Err (Halts deep bad) → Stuck choice n (fork test p q) deep ts bad
    halts-by ts deep bad true e h =
        let u = f.halts ts deep bad h in
        record {
          front = u.front;
          split = u.split;
          at_token = u.at_token;
          goes_on = λ place is. includes-completes F choice (λ floor m ts a rest h. inl h) (u.goes_on place is);
          again = λ other same. let e' : starts test (u.front ++ other) ≡ true = same-fork ts u.front bad other u.split same ∙ e in rw e' (u.again other same);
        }
    halts-by ts deep bad false e h =
        let u = g.halts ts deep bad h in
        record {
          front = u.front;
          split = u.split;
          at_token = u.at_token;
          goes_on = λ place is. includes-completes G choice (λ floor m ts a rest h. inr h) (u.goes_on place is);
          again = λ other same. let e' : starts test (u.front ++ other) ≡ false = same-fork ts u.front bad other u.split same ∙ e in rw e' (u.again other same);
        }

    pub choice-law : Law choice n (fork test p q) st
    choice-law = record {
      reads = λ ts a rest. reads-by ts a rest (starts test ts) refl;
      complete = complete-by;
      halts = λ ts deep bad. halts-by ts deep bad (starts test ts) refl;
    }

-- The first where the next token passes the test. What the first rule spells begins so, and what the second spells does not.
pub chosen : {C A : Type 0} {F G : Levels A} {n : ℕ} {p q : Parser A} {st : A → Option Token → Bool} (test : Token → Bool) → Lawful C F n p st → Lawful C G n q st
    → ((floor : ℕ → ℕ) (m : ℕ) (ts : Tokens) (a : A) (rest : Tokens) → F floor m ts a rest → starts test ts ≡ true)
    → ((floor : ℕ → ℕ) (m : ℕ) (ts : Tokens) (a : A) (rest : Tokens) → G floor m ts a rest → st a (first rest) ≡ true → starts test ts ≡ false)
    → Lawful C (λ floor m. F floor m <|> G floor m) n (fork test p q) st
chosen {F = F} {G = G} test f g heads others = record {
  finishes = same-finish F _ (λ floor m ts a rest h. inl h) f.finishes;
  law = λ c. choice-law F G (f.law c) (g.law c) heads others;
}
