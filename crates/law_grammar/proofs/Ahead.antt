-- The law of a choice by the next two tokens, where both rules take the first.
use Rattle.std.proofs.Common.{◌≡◌, ℕ, ◌<◌, Bool, true, false, ◌&&◌, cond, [], ◌∷◌, ◌++◌, length, Option, Ok, Err, ◌⊎◌, inl, inr, refl, sym, ◌∙◌, ap, arith}
use Rattle.smv_core.specs.declared.token.Token.{Token}
use Rattle.smv_core.specs.Notation.{Tokens, ◌<|>◌}
use Rattle.law_grammar.specs.Parsing.{Halts, Parser, starts, starts2, fork2}
use Rattle.law_grammar.specs.Lawful.{Levels, first, Reads, Stuck, IsDeep, Law, Lawful}
use Rattle.law_grammar.proofs.Tokens.{same-finish, includes-completes}
use Rattle.law_grammar.proofs.Choice.{choice}

-- A parser takes the token: it neither reads a value without it nor halts at it.
pub record Accepts {A : Type 0} (p : Parser A) (t : Token) : Type 0 where
  pub reads : (ts : Tokens) (a : A) (rest : Tokens) → p (t ∷ ts) ≡ Ok (a, rest) → length rest < length (t ∷ ts)
  pub halts : (ts : Tokens) (deep : Bool) (bad : Tokens) → p (t ∷ ts) ≡ Err (Halts deep bad) → length bad < length (t ∷ ts)

module _ {A : Type 0} (F G : Levels A) (test1 test2 : Token → Bool) {n : ℕ} {p q : Parser A} {st : A → Option Token → Bool} (f : Law F n p st) (g : Law G n q st)
    (heads : (floor : ℕ → ℕ) (m : ℕ) (ts : Tokens) (a : A) (rest : Tokens) → F floor m ts a rest → starts2 test1 test2 ts ≡ true)
    (others : (floor : ℕ → ℕ) (m : ℕ) (ts : Tokens) (a : A) (rest : Tokens) → G floor m ts a rest → st a (first rest) ≡ true → starts2 test1 test2 ts ≡ false)
    (p-accepts : (t : Token) → test1 t ≡ true → Accepts p t)
    (q-accepts : (t : Token) → test1 t ≡ true → Accepts q t) where
  same-after : (ts front rest other : Tokens) → ts ≡ front ++ rest → first other ≡ first rest → length rest < length ts → starts2 test1 test2 (front ++ other) ≡ starts2 test1 test2 ts
  same-after ts [] rest other e same less = absurd (let l = ap length e in omega arith)
  same-after ts (x ∷ []) rest other e same less = second other rest same ∙ ap (starts2 test1 test2) (sym e)
    where
      second : (other rest : Tokens) → first other ≡ first rest → starts2 test1 test2 (x ∷ other) ≡ starts2 test1 test2 (x ∷ rest)
      second [] [] same = refl
      second [] (y ∷ rest) same = absurd cc
      second (y ∷ other) [] same = absurd cc
      second (y ∷ other) (z ∷ rest) same = let h : y ≡ z = cc in ap (λ (v : Token). test1 x && test2 v) h
  same-after ts (x ∷ y ∷ front) rest other e same less = ap (starts2 test1 test2) (sym e)

  -- where the first token fails its test, the second does not count
  first-fails : (t : Token) (ts : Tokens) → test1 t ≡ false → starts2 test1 test2 (t ∷ ts) ≡ false
  first-fails t [] e = refl
  first-fails t (u ∷ ts) e = rw e

  fails-alone : (other bad : Tokens) → first other ≡ first bad → starts test1 bad ≡ false → starts2 test1 test2 other ≡ false
  fails-alone [] bad same e = refl
  fails-alone (t ∷ other) [] same e = absurd cc
  fails-alone (t ∷ other) (u ∷ bad) same e = let h : t ≡ u = cc in let e' : test1 t ≡ false = rw h e in first-fails t other e'

  passes : (ts : Tokens) → starts2 test1 test2 ts ≡ true → starts test1 ts ≡ true
  passes [] e = cc
  passes (t ∷ []) e = absurd cc
  passes (t ∷ u ∷ ts) e = go (test1 t) refl e
    where
      go : (b : Bool) → test1 t ≡ b → (b && test2 u) ≡ true → test1 t ≡ true
      go true q e = q
      go false q e = absurd cc

  reads-by : (ts : Tokens) (a : A) (rest : Tokens) (b : Bool) → starts2 test1 test2 ts ≡ b → cond b (p ts) (q ts) ≡ Ok (a, rest) → Reads (choice F G) n (fork2 test1 test2 p q) ts a rest
  reads-by [] a rest true e h = absurd cc
  reads-by (t ∷ ts) a rest true e h =
      let u = f.reads (t ∷ ts) a rest h in
      let less = (p-accepts t (passes (t ∷ ts) e)).reads ts a rest h in
      record {
        front = u.front;
        split = u.split;
        spelled = λ floor m w r. inl (u.spelled floor m w r);
        again = λ other same. rw (same-after (t ∷ ts) u.front rest other u.split same less ∙ e) (u.again other same);
      }
  reads-by ts a rest false e h =
      let u = g.reads ts a rest h in
      record {
        front = u.front;
        split = u.split;
        spelled = λ floor m w r. inr (u.spelled floor m w r);
        again = λ other same. again ts e h u.front u.split other same (u.again other same);
      }
    where
      again : (ts : Tokens) → starts2 test1 test2 ts ≡ false → q ts ≡ Ok (a, rest) → (front : Tokens) → ts ≡ front ++ rest → (other : Tokens) → first other ≡ first rest → q (front ++ other) ≡ Ok (a, other)
          → fork2 test1 test2 p q (front ++ other) ≡ Ok (a, other)
      again [] e h [] s other same r = let e' : starts2 test1 test2 other ≡ false = fails-alone other rest same (rw (← s) refl) in rw e' r
      again [] e h (x ∷ front) s other same r = absurd cc
      again (t ∷ ts) e h front s other same r = by_first (test1 t) refl front s r
        where
          by_first : (b : Bool) → test1 t ≡ b → (front : Tokens) → t ∷ ts ≡ front ++ rest → q (front ++ other) ≡ Ok (a, other) → fork2 test1 test2 p q (front ++ other) ≡ Ok (a, other)
          by_first true b front s r = rw (same-after (t ∷ ts) front rest other s same ((q-accepts t b).reads ts a rest h) ∙ e) r
          by_first false b [] s r = let z : starts test1 rest ≡ false = rw (← s) b in rw (fails-alone other rest same z) r
          by_first false b (y ∷ front) s r = let y_is : t ≡ y = cc in let z : test1 y ≡ false = rw (← y_is) b in rw (first-fails y (front ++ other) z) r

  complete-by : (floor : ℕ → ℕ) (m : ℕ) (ts : Tokens) (a : A) (rest : Tokens) → choice F G floor m ts a rest → st a (first rest) ≡ true
      → (fork2 test1 test2 p q ts ≡ Ok (a, rest)) ⊎ IsDeep n floor m (fork2 test1 test2 p q ts)
  complete-by floor m ts a rest (inl h) stop = rw (heads floor m ts a rest h) (f.complete floor m ts a rest h stop)
  complete-by floor m ts a rest (inr h) stop = rw (others floor m ts a rest h stop) (g.complete floor m ts a rest h stop)

  halts-by : (ts : Tokens) (deep : Bool) (bad : Tokens) (b : Bool) → starts2 test1 test2 ts ≡ b → cond b (p ts) (q ts) ≡ Err (Halts deep bad) → Stuck (choice F G) n (fork2 test1 test2 p q) deep ts bad
  halts-by [] deep bad true e h = absurd cc
  halts-by (t ∷ ts) deep bad true e h =
      let u = f.halts (t ∷ ts) deep bad h in
      let less = (p-accepts t (passes (t ∷ ts) e)).halts ts deep bad h in
      record {
        front = u.front;
        split = u.split;
        at_token = u.at_token;
        goes_on = λ place is. includes-completes F (choice F G) (λ floor m ts a rest h. inl h) (u.goes_on place is);
        again = λ other same. rw (same-after (t ∷ ts) u.front bad other u.split same less ∙ e) (u.again other same);
      }
  halts-by ts deep bad false e h =
      let u = g.halts ts deep bad h in
      record {
        front = u.front;
        split = u.split;
        at_token = u.at_token;
        goes_on = λ place is. includes-completes G (choice F G) (λ floor m ts a rest h. inr h) (u.goes_on place is);
        again = λ other same. again ts e h u.front u.split other same (u.again other same);
      }
    where
      again : (ts : Tokens) → starts2 test1 test2 ts ≡ false → q ts ≡ Err (Halts deep bad) → (front : Tokens) → ts ≡ front ++ bad → (other : Tokens) → first other ≡ first bad → q (front ++ other) ≡ Err (Halts deep other)
          → fork2 test1 test2 p q (front ++ other) ≡ Err (Halts deep other)
      again [] e h [] s other same r = let e' : starts2 test1 test2 other ≡ false = fails-alone other bad same (rw (← s) refl) in rw e' r
      again [] e h (x ∷ front) s other same r = absurd cc
      again (t ∷ ts) e h front s other same r = by_first (test1 t) refl front s r
        where
          by_first : (b : Bool) → test1 t ≡ b → (front : Tokens) → t ∷ ts ≡ front ++ bad → q (front ++ other) ≡ Err (Halts deep other) → fork2 test1 test2 p q (front ++ other) ≡ Err (Halts deep other)
          by_first true b front s r = rw (same-after (t ∷ ts) front bad other s same ((q-accepts t b).halts ts deep bad h) ∙ e) r
          by_first false b [] s r = let z : starts test1 bad ≡ false = rw (← s) b in rw (fails-alone other bad same z) r
          by_first false b (y ∷ front) s r = let y_is : t ≡ y = cc in let z : test1 y ≡ false = rw (← y_is) b in rw (first-fails y (front ++ other) z) r

  pub ahead-law : Law (choice F G) n (fork2 test1 test2 p q) st
  ahead-law = record {
    reads = λ ts a rest. reads-by ts a rest (starts2 test1 test2 ts) refl;
    complete = complete-by;
    halts = λ ts deep bad. halts-by ts deep bad (starts2 test1 test2 ts) refl;
  }

-- The first where the next two tokens pass the tests. What the first rule spells begins so, what the second spells does not, and both take the first of these tokens.
pub chosen-ahead : {C A : Type 0} {F G : Levels A} {n : ℕ} {p q : Parser A} {st : A → Option Token → Bool} (test1 test2 : Token → Bool) → Lawful C F n p st → Lawful C G n q st
    → ((floor : ℕ → ℕ) (m : ℕ) (ts : Tokens) (a : A) (rest : Tokens) → F floor m ts a rest → starts2 test1 test2 ts ≡ true)
    → ((floor : ℕ → ℕ) (m : ℕ) (ts : Tokens) (a : A) (rest : Tokens) → G floor m ts a rest → st a (first rest) ≡ true → starts2 test1 test2 ts ≡ false)
    → (C → (t : Token) → test1 t ≡ true → Accepts p t) → (C → (t : Token) → test1 t ≡ true → Accepts q t)
    → Lawful C (λ floor m. F floor m <|> G floor m) n (fork2 test1 test2 p q) st
chosen-ahead {F = F} {G = G} test1 test2 f g heads others p-accepts q-accepts = record {
  finishes = same-finish F _ (λ floor m ts a rest h. inl h) f.finishes;
  law = λ c. ahead-law F G test1 test2 (f.law c) (g.law c) heads others (p-accepts c) (q-accepts c);
}
