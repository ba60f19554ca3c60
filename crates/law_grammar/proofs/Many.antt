-- The law of what stands any number of times.
use Rattle.std.proofs.Common.{◌≡◌, ℕ, zero, suc, ◌<◌, ◌≤◌, Bool, true, false, cond, List, [], ◌∷◌, ◌++◌, length, Option, Ok, Err, ◌⊎◌, inl, inr, refl, sym, ◌∙◌, ap, subst, append_assoc, arith}
use Rattle.smv_core.specs.declared.token.Token.{Token}
use Rattle.smv_core.specs.Notation.{Tokens, many}
use Rattle.law_grammar.specs.Parsing.{Halt, Halts, Outcome, Parser, and_then, starts, turns, loop}
use Rattle.law_grammar.specs.Lawful.{Levels, first, Above, Finishes, Completes, Reads, kept, AtToken, IsPlaceOf, Stuck, IsDeep, Law, Lawful}
use Rattle.law_grammar.proofs.Lists.{same_ok, first-append, starts-same, regroup}

-- a parser that reads a value takes a token
abbrev pub Takes : {A : Type 0} → Parser A → Type 0
Takes {A} p = (ts : Tokens) (a : A) (rest : Tokens) → p ts ≡ Ok (a, rest) → length rest < length ts

module _ {A : Type 0} (F : Levels A) where
  abbrev pub repeated : Levels (List A)
  repeated floor m = many (F floor m)

  pub many-finish : (place : ℕ) → Finishes repeated place
  many-finish place = record { more = []; value = []; enough = 0; spelled = λ floor m z e r. refl }

  module _ (n : ℕ) (test : Token → Bool) (p : Parser A) (st : A → Option Token → Bool) (st' : Option Token → Bool) (f : Law F n p st)
      (heads : (floor : ℕ → ℕ) (m : ℕ) (ts : Tokens) (a : A) (rest : Tokens) → F floor m ts a rest → starts test ts ≡ true)
      (shrinks : Takes p)
      (between : (floor : ℕ → ℕ) (m : ℕ) (ts : Tokens) (a : A) (rest : Tokens) → F floor m ts a rest → starts test rest ≡ true → st a (first rest) ≡ true)
      (ends : (ts : Tokens) → st' (first ts) ≡ true → starts test ts ≡ false)
      (last : (floor : ℕ → ℕ) (m : ℕ) (ts : Tokens) (a : A) (rest : Tokens) → F floor m ts a rest → st' (first rest) ≡ true → st a (first rest) ≡ true) where
    abbrev consed : A → Outcome (List A) → Outcome (List A)
    consed a o = and_then o (λ more end. Ok (a ∷ more, end))

    abbrev after : Outcome A → ℕ → Outcome (List A)
    after o k = and_then o (λ a rest. consed a (turns test p k rest))

    turns-end : (k : ℕ) (ts : Tokens) → starts test ts ≡ false → turns test p k ts ≡ Ok ([], ts)
    turns-end zero ts e = refl
    turns-end (suc k) ts e = rw e

    turns-go : (k : ℕ) (ts : Tokens) (a : A) (middle : Tokens) → starts test ts ≡ true → p ts ≡ Ok (a, middle) → turns test p (suc k) ts ≡ consed a (turns test p k middle)
    turns-go k ts a middle e h = rw e (rw h)

    turns-bad : (k : ℕ) (ts : Tokens) (x : Halt) → starts test ts ≡ true → p ts ≡ Err x → turns test p (suc k) ts ≡ Err x
    turns-bad k ts x e h = rw e (rw h)

    same-head : (ts front rest other : Tokens) → ts ≡ front ++ rest → first other ≡ first rest → starts test (front ++ other) ≡ starts test ts
    same-head ts front rest other e same = starts-same test (front ++ other) (front ++ rest) (first-append front other rest same) ∙ ap (starts test) (sym e)

    -- what comes of the turns that read everything
    record Good (ts : Tokens) (items : List A) (rest : Tokens) : Type 0 where
      front : Tokens
      split : ts ≡ front ++ rest
      spelled : (floor : ℕ → ℕ) (m : ℕ) → Above n floor m → (r : Tokens) → repeated floor m (front ++ r) items r
      again : (other : Tokens) (k : ℕ) → first other ≡ first rest → length (front ++ other) ≤ k → turns test p k (front ++ other) ≡ Ok (items, other)

    good-one : (ts : Tokens) (a : A) (middle : Tokens) (more : List A) (rest : Tokens) → starts test ts ≡ true → p ts ≡ Ok (a, middle) → Good middle more rest → Good ts (a ∷ more) rest
    good-one ts a middle more rest e h v = done (f.reads ts a middle h)
      where
        done : Reads F n p ts a middle → Good ts (a ∷ more) rest
        done u = record {
          front = u.front ++ v.front;
          split = u.split ∙ (ap (λ (z : Tokens). u.front ++ z) v.split ∙ sym (append_assoc u.front v.front rest));
          spelled = λ floor m w r. (v.front ++ r, rw append_assoc (u.spelled floor m w (v.front ++ r)), v.spelled floor m w r);
          again = again;
        }
          where
            again : (other : Tokens) (k : ℕ) → first other ≡ first rest → length ((u.front ++ v.front) ++ other) ≤ k → turns test p k ((u.front ++ v.front) ++ other) ≡ Ok (a ∷ more, other)
            again other k same le = go k le
              where
                e1 : first (v.front ++ other) ≡ first middle
                e1 = first-append v.front other rest same ∙ ap first (sym v.split)

                e2 : p ((u.front ++ v.front) ++ other) ≡ Ok (a, v.front ++ other)
                e2 = rw append_assoc (u.again (v.front ++ other) e1)

                e3 : starts test ((u.front ++ v.front) ++ other) ≡ true
                e3 = rw append_assoc (same-head ts u.front middle (v.front ++ other) u.split e1 ∙ e)

                less : length (v.front ++ other) < length ((u.front ++ v.front) ++ other)
                less = shrinks _ a _ e2

                go : (k : ℕ) → length ((u.front ++ v.front) ++ other) ≤ k → turns test p k ((u.front ++ v.front) ++ other) ≡ Ok (a ∷ more, other)
                go zero le = absurd (let l = less in omega arith)
                go (suc k) le =
                    let l = less in
                    let le' : length (v.front ++ other) ≤ k = omega arith in
                    turns-go k _ a (v.front ++ other) e3 e2 ∙ rw (v.again other k same le')

    good-end : (ts : Tokens) (items : List A) (rest : Tokens) → starts test ts ≡ false → [] ≡ items → ts ≡ rest → Good ts items rest
    good-end ts items rest e none same =
        let P : List A → Type 0 = λ xs. Good ts xs rest in
        subst P none (record {
          front = [];
          split = same;
          spelled = λ floor m w r. refl;
          again = λ other k same' le. turns-end k other (starts-same test other ts (same' ∙ ap first (sym same)) ∙ e);
        })

    turns-good : (k : ℕ) (ts : Tokens) (items : List A) (rest : Tokens) → length ts ≤ k → turns test p k ts ≡ Ok (items, rest) → Good ts items rest
    turns-good zero [] items rest le h = let u = same_ok [] items [] rest _ refl h in good-end [] items rest refl u.0 u.1
    turns-good zero (t ∷ ts) items rest le h = absurd (omega arith)
    turns-good (suc k) ts items rest le h = go (λ middle more end le q. turns-good k middle more end le q) (starts test ts) refl h
      where
        go : ((middle : Tokens) (more : List A) (end : Tokens) → length middle ≤ k → turns test p k middle ≡ Ok (more, end) → Good middle more end)
            → (b : Bool) → starts test ts ≡ b → cond b (after (p ts) k) (Ok ([], ts)) ≡ Ok (items, rest) → Good ts items rest
        go ih false e h = let u = same_ok [] items ts rest _ refl h in good-end ts items rest e u.0 u.1
        go ih true e h = item (p ts) refl h
          where
            item : (o : Outcome A) → p ts ≡ o → after o k ≡ Ok (items, rest) → Good ts items rest
            item (Err x) q h = absurd cc
            item (Ok (a, middle)) q h = others (turns test p k middle) refl h
              where
                others : (o : Outcome (List A)) → turns test p k middle ≡ o → consed a o ≡ Ok (items, rest) → Good ts items rest
                others (Err x) r h = absurd cc
                others (Ok (more, end)) r h =
                    let u = same_ok (a ∷ more) items end rest _ refl h in
                    let less = shrinks ts a middle q in
                    let le' : length middle ≤ k = omega arith in
                    let P : List A → Tokens → Type 0 = λ xs r. Good ts xs r in
                    let Q : Tokens → Type 0 = λ r. P items r in
                    let x = good-one ts a middle more end e q (ih middle more end le' r) in
                    subst Q u.1 (let R : List A → Type 0 = λ xs. P xs end in subst R u.0 x)

    turns-complete : (floor : ℕ → ℕ) (m : ℕ) (items : List A) (k : ℕ) (ts rest : Tokens) → length ts ≤ k → repeated floor m ts items rest → st' (first rest) ≡ true
        → (turns test p k ts ≡ Ok (items, rest)) ⊎ IsDeep n floor m (turns test p k ts)
    turns-complete floor m [] k ts rest le h stop = inl (rw (← h) (turns-end k ts (rw h (ends rest stop))))
    turns-complete floor m (a ∷ more) zero [] rest le h stop = absurd (let e : starts test [] ≡ true = heads floor m [] a h.0 h.1 in cc)
    turns-complete floor m (a ∷ more) zero (t ∷ ts) rest le h stop = absurd (omega arith)
    turns-complete floor m (a ∷ more) (suc k) ts rest le h stop =
        go (λ le'. turns-complete floor m more k h.0 rest le' h.2 stop) (f.complete floor m ts a h.0 h.1 (middle-stop more h.2))
      where
        e : starts test ts ≡ true
        e = heads floor m ts a h.0 h.1

        middle-stop : (more : List A) → repeated floor m h.0 more rest → st a (first h.0) ≡ true
        middle-stop [] y = last floor m ts a h.0 h.1 (rw y stop)
        middle-stop (b ∷ more) y = between floor m ts a h.0 h.1 (heads floor m h.0 b y.0 y.1)

        join : p ts ≡ Ok (a, h.0) → (turns test p k h.0 ≡ Ok (more, rest)) ⊎ IsDeep n floor m (turns test p k h.0)
            → (turns test p (suc k) ts ≡ Ok (a ∷ more, rest)) ⊎ IsDeep n floor m (turns test p (suc k) ts)
        join q (inl r) = inl (turns-go k ts a h.0 e q ∙ rw r)
        join q (inr d) = inr (let r = d.halts in record { token = d.token; rest = d.rest; halts = turns-go k ts a h.0 e q ∙ rw r; forbidden = d.forbidden })

        go : (length h.0 ≤ k → (turns test p k h.0 ≡ Ok (more, rest)) ⊎ IsDeep n floor m (turns test p k h.0)) → (p ts ≡ Ok (a, h.0)) ⊎ IsDeep n floor m (p ts)
            → (turns test p (suc k) ts ≡ Ok (a ∷ more, rest)) ⊎ IsDeep n floor m (turns test p (suc k) ts)
        go ih (inl q) = let l = shrinks ts a h.0 q in join q (ih (omega arith))
        go ih (inr d) = inr (record { token = d.token; rest = d.rest; halts = turns-bad k ts (Halts true (d.token ∷ d.rest)) e d.halts; forbidden = d.forbidden })

    -- where the turns halt
    record Bad (ts : Tokens) (deep : Bool) (bad : Tokens) : Type 0 where
      front : Tokens
      split : ts ≡ front ++ bad
      at_token : AtToken deep bad
      goes_on : (place : ℕ) → IsPlaceOf place deep bad → Completes repeated n place (front ++ kept deep bad)
      again : (other : Tokens) (k : ℕ) → first other ≡ first bad → length (front ++ other) ≤ k → turns test p k (front ++ other) ≡ Err (Halts deep other)

    bad-first : (ts : Tokens) (deep : Bool) (bad : Tokens) → starts test ts ≡ true → p ts ≡ Err (Halts deep bad) → Bad ts deep bad
    bad-first ts deep bad e h = done (f.halts ts deep bad h)
      where
        done : Stuck F n p deep ts bad → Bad ts deep bad
        done u = record {
          front = u.front;
          split = u.split;
          at_token = u.at_token;
          goes_on = λ place is.
              let g = u.goes_on place is in
              record { more = g.more; value = g.value ∷ []; enough = g.enough; spelled = λ floor m w z l r. (r, g.spelled floor m w z l r, refl) };
          again = again;
        }
          where
            again : (other : Tokens) (k : ℕ) → first other ≡ first bad → length (u.front ++ other) ≤ k → turns test p k (u.front ++ other) ≡ Err (Halts deep other)
            again other k same le = go (u.front ++ other) refl k le
              where
                e3 : starts test (u.front ++ other) ≡ true
                e3 = same-head ts u.front bad other u.split same ∙ e

                go : (x : Tokens) → u.front ++ other ≡ x → (k : ℕ) → length (u.front ++ other) ≤ k → turns test p k (u.front ++ other) ≡ Err (Halts deep other)
                go [] ex k le = absurd (let e4 : starts test [] ≡ true = rw ex at e3 in cc)
                go (t ∷ x) ex zero le = absurd (let l = ap length ex in omega arith)
                go (t ∷ x) ex (suc k) le = turns-bad k _ _ e3 (u.again other same)

    bad-later : (ts : Tokens) (a : A) (middle : Tokens) (deep : Bool) (bad : Tokens) → starts test ts ≡ true → p ts ≡ Ok (a, middle) → Bad middle deep bad → Bad ts deep bad
    bad-later ts a middle deep bad e h v = done (f.reads ts a middle h)
      where
        done : Reads F n p ts a middle → Bad ts deep bad
        done u = record {
          front = u.front ++ v.front;
          split = u.split ∙ (ap (λ (z : Tokens). u.front ++ z) v.split ∙ sym (append_assoc u.front v.front bad));
          at_token = v.at_token;
          goes_on = λ place is.
              let g = v.goes_on place is in
              record {
                more = g.more;
                value = a ∷ g.value;
                enough = g.enough;
                spelled = λ floor m w z l r. (
                  ((v.front ++ kept deep bad) ++ g.more) ++ r,
                  rw (regroup u.front v.front (kept deep bad) g.more r) (u.spelled floor m w (((v.front ++ kept deep bad) ++ g.more) ++ r)),
                  g.spelled floor m w z l r,
                );
              };
          again = again;
        }
          where
            again : (other : Tokens) (k : ℕ) → first other ≡ first bad → length ((u.front ++ v.front) ++ other) ≤ k → turns test p k ((u.front ++ v.front) ++ other) ≡ Err (Halts deep other)
            again other k same le = go k le
              where
                e1 : first (v.front ++ other) ≡ first middle
                e1 = first-append v.front other bad same ∙ ap first (sym v.split)

                e2 : p ((u.front ++ v.front) ++ other) ≡ Ok (a, v.front ++ other)
                e2 = rw append_assoc (u.again (v.front ++ other) e1)

                e3 : starts test ((u.front ++ v.front) ++ other) ≡ true
                e3 = rw append_assoc (same-head ts u.front middle (v.front ++ other) u.split e1 ∙ e)

                less : length (v.front ++ other) < length ((u.front ++ v.front) ++ other)
                less = shrinks _ a _ e2

                go : (k : ℕ) → length ((u.front ++ v.front) ++ other) ≤ k → turns test p k ((u.front ++ v.front) ++ other) ≡ Err (Halts deep other)
                go zero le = absurd (let l = less in omega arith)
                go (suc k) le =
                    let l = less in
                    let le' : length (v.front ++ other) ≤ k = omega arith in
                    turns-go k _ a (v.front ++ other) e3 e2 ∙ rw (v.again other k same le')

    turns-bad-at : (k : ℕ) (ts : Tokens) (deep : Bool) (bad : Tokens) → length ts ≤ k → turns test p k ts ≡ Err (Halts deep bad) → Bad ts deep bad
    turns-bad-at zero ts deep bad le h = absurd cc
    turns-bad-at (suc k) ts deep bad le h = go (λ middle le q. turns-bad-at k middle deep bad le q) (starts test ts) refl h
      where
        go : ((middle : Tokens) → length middle ≤ k → turns test p k middle ≡ Err (Halts deep bad) → Bad middle deep bad)
            → (b : Bool) → starts test ts ≡ b → cond b (after (p ts) k) (Ok ([], ts)) ≡ Err (Halts deep bad) → Bad ts deep bad
        go ih false e h = absurd cc
        go ih true e h = item (p ts) refl h
          where
            item : (o : Outcome A) → p ts ≡ o → after o k ≡ Err (Halts deep bad) → Bad ts deep bad
            item (Err x) q h = bad-first ts deep bad e (q ∙ cc)
            item (Ok (a, middle)) q h = others (turns test p k middle) refl h
              where
                others : (o : Outcome (List A)) → turns test p k middle ≡ o → consed a o ≡ Err (Halts deep bad) → Bad ts deep bad
                others (Ok x) r h = absurd cc
                others (Err x) r h =
                    let less = shrinks ts a middle q in
                    let le' : length middle ≤ k = omega arith in
                    bad-later ts a middle deep bad e q (ih middle le' (r ∙ cc))

    pub loop-law : Law repeated n (loop test p) (λ items. st')
    loop-law = record {
      reads = λ ts items rest h.
          let x = turns-good (length ts) ts items rest (omega arith) h in
          record { front = x.front; split = x.split; spelled = x.spelled; again = λ other same. x.again other (length (x.front ++ other)) same (omega arith) };
      complete = λ floor m ts items rest h stop. turns-complete floor m items (length ts) ts rest (omega arith) h stop;
      halts = λ ts deep bad h.
          let x = turns-bad-at (length ts) ts deep bad (omega arith) h in
          record { front = x.front; split = x.split; at_token = x.at_token; goes_on = x.goes_on; again = λ other same. x.again other (length (x.front ++ other)) same (omega arith) };
    }

-- As long as the next token passes the test. Each item begins so and takes a token, and is stopped by the next item and by what stops them all, which does not begin so.
pub looped : {C A : Type 0} {F : Levels A} {n : ℕ} {p : Parser A} {st : A → Option Token → Bool} (test : Token → Bool) (st' : Option Token → Bool) → Lawful C F n p st
    → ((floor : ℕ → ℕ) (m : ℕ) (ts : Tokens) (a : A) (rest : Tokens) → F floor m ts a rest → starts test ts ≡ true)
    → (C → Takes p)
    → ((floor : ℕ → ℕ) (m : ℕ) (ts : Tokens) (a : A) (rest : Tokens) → F floor m ts a rest → starts test rest ≡ true → st a (first rest) ≡ true)
    → ((ts : Tokens) → st' (first ts) ≡ true → starts test ts ≡ false)
    → ((floor : ℕ → ℕ) (m : ℕ) (ts : Tokens) (a : A) (rest : Tokens) → F floor m ts a rest → st' (first rest) ≡ true → st a (first rest) ≡ true)
    → Lawful C (λ floor m. many (F floor m)) n (loop test p) (λ items. st')
looped {F = F} {n = n} {p = p} {st = st} test st' f heads shrinks between ends last = record {
  finishes = many-finish F;
  law = λ c. loop-law F n test p st st' (f.law c) heads (shrinks c) between ends last;
}
