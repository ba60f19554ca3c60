-- The law of a token that opens a level, and of what stands in it.
use Rattle.std.proofs.Common.{◌≡◌, ℕ, zero, suc, ◌<◌, ◌≤◌, ◌+◌, ◌-◌, Bool, true, false, [], ◌∷◌, ◌++◌, Option, Some, None, Ok, Err, ◌⊎◌, inl, inr, refl, sym, ◌∙◌, ap, subst, arith}
use Rattle.smv_core.specs.declared.token.Token.{Token}
use Rattle.smv_core.specs.Notation.{Tokens, nothing, one, ◌>>=◌, ◌>>◌, opens}
use Rattle.law_grammar.specs.Parsing.{Halts, Parser, opened, take_open}
use Rattle.law_grammar.specs.Lawful.{Levels, first, Above, Finishes, Completes, Reads, kept, Stuck, IsDeep, Law, Lawful}

module _ {A : Type 0} (read : Token → Option ℕ) (S : ℕ → Levels A) where
  -- the token, and what comes after it, which knows how many levels were left before it
  abbrev pub opening : Levels A
  opening floor m = (one read >>= λ at. opens floor m at >> nothing at) >>= λ at. S at floor m

  -- the same, where a level less is left
  abbrev pub inside : ℕ → Levels A
  inside at floor m = S at floor (suc m)

  record Opens (floor : ℕ → ℕ) (m : ℕ) (t : Token) (ts : Tokens) (a : A) (rest : Tokens) : Type 0 where
    at : ℕ
    reads : read t ≡ Some at
    left : floor at < m
    then_inside : S at floor m ts a rest

  open-by : (floor : ℕ → ℕ) (m : ℕ) (t : Token) (ts : Tokens) (a : A) (rest : Tokens) → opening floor m (t ∷ ts) a rest → Opens floor m t ts a rest
  open-by floor m t ts a rest h =
      -- h.2 is the token that opens, and h.3 what stands inside
      let k = h.2 in
      let same_at : k.0 ≡ h.0 = k.3.3.0 in
      let to_middle : ts ≡ h.1 = k.2.1 ∙ (k.3.2.1.1 ∙ k.3.3.1) in
      let P : ℕ → Type 0 = λ i. floor i < m in
      let Q : Tokens → Type 0 = λ z. S h.0 floor m z a rest in
      record { at = h.0; reads = rw (← same_at) k.2.0; left = subst P same_at k.3.2.0; then_inside = subst Q (sym to_middle) h.3 }

  to-open : (floor : ℕ → ℕ) (m at : ℕ) (t : Token) (ts : Tokens) (a : A) (rest : Tokens) → read t ≡ Some at → floor at < m → S at floor m ts a rest → opening floor m (t ∷ ts) a rest
  to-open floor m at t ts a rest q l h = (at, ts, (at, ts, (q, refl), (tt, ts, (l, (refl, refl)), (refl, refl))), h)

  module _ (place_is : (t : Token) (at : ℕ) → read t ≡ Some at → at ≡ t.at) (sample : (place : ℕ) → (t : Token) × (read t ≡ Some place)) (ends : (at place : ℕ) → Finishes (inside at) place) where
    pub opening-finish : (place : ℕ) → Finishes opening place
    opening-finish place =
        let t = sample place in
        let x = ends place place in
        record {
          more = t.0 ∷ x.more;
          value = x.value;
          enough = suc x.enough;
          spelled = λ floor m z e r. by_levels t x floor m z e r;
        }
      where
        by_levels : (t : (t : Token) × (read t ≡ Some place)) (x : Finishes (inside place) place) (floor : ℕ → ℕ) (m : ℕ) → floor place ≡ zero → suc x.enough ≤ m → (r : Tokens)
            → opening floor m (t.0 ∷ x.more ++ r) x.value r
        by_levels t x floor zero z e r = absurd (omega arith)
        by_levels t x floor (suc m) z e r = to-open floor (suc m) place t.0 (x.more ++ r) x.value r t.1 (omega arith) (x.spelled floor m z (omega arith) r)

    shut-complete : (p : ℕ → Parser A) (floor : ℕ → ℕ) (m : ℕ) (ts : Tokens) (a : A) (rest : Tokens) → opening floor m ts a rest
        → (take_open read zero p ts ≡ Ok (a, rest)) ⊎ IsDeep zero floor m (take_open read zero p ts)
    shut-complete p floor m [] a rest h = absurd h.2.2
    shut-complete p floor m (t ∷ ts) a rest h =
        let u = open-by floor m t ts a rest h in
        let e = u.reads in
        let l = u.left in
        let i : u.at ≡ t.at = place_is t u.at u.reads in
        let P : ℕ → Type 0 = λ at. floor at + 0 < m in
        let l' : floor u.at + 0 < m = omega arith in
        inr (record { token = t; rest = ts; halts = rw e; forbidden = subst P i l' })

    shut-never : (p : ℕ → Parser A) (ts : Tokens) (a : A) (rest : Tokens) → take_open read zero p ts ≡ Ok (a, rest) → ⊥
    shut-never p [] a rest e = cc
    shut-never p (t ∷ ts) a rest e = go (read t) e
      where
        go : (o : Option ℕ) → opened o zero (t ∷ ts) p ts ≡ Ok (a, rest) → ⊥
        go None e = cc
        go (Some at) e = cc

    module _ (n : ℕ) (p : ℕ → Parser A) where
      -- the first token is none that opens
      not-first : (t : Token) (ts : Tokens) → read t ≡ None → take_open read n p (t ∷ ts) ≡ Err (Halts false (t ∷ ts))
      not-first t ts q = rw q

      stuck-first : (ts : Tokens) (deep : Bool) (bad : Tokens) → deep ≡ false → ts ≡ bad → ((other : Tokens) → first other ≡ first bad → take_open read n p other ≡ Err (Halts false other))
          → Stuck opening n (take_open read n p) deep ts bad
      stuck-first ts deep bad shallow e again =
          let P : Bool → Type 0 = λ d. Stuck opening n (take_open read n p) d ts bad in
          subst P (sym shallow) (record {
            front = [];
            split = e;
            at_token = tt;
            goes_on = λ place is. let x = opening-finish place in record { more = x.more; value = x.value; enough = x.enough; spelled = λ floor m w. x.spelled floor m };
            again = again;
          })

      again-end : (bad other : Tokens) → first other ≡ first bad → bad ≡ [] → take_open read n p other ≡ Err (Halts false other)
      again-end bad [] same e = refl
      again-end bad (y ∷ other) same e = absurd (let h : Some y ≡ None = same ∙ ap first e in cc)

      again-none : (bad other : Tokens) → first other ≡ first bad → (t : Token) (ts : Tokens) → bad ≡ t ∷ ts → read t ≡ None → take_open read n p other ≡ Err (Halts false other)
      again-none bad [] same t ts e q = refl
      again-none bad (y ∷ other) same t ts e q =
          let h : Some y ≡ Some t = same ∙ ap first e in
          let h' : y ≡ t = cc in
          let q' : read y ≡ None = rw h' q in
          not-first y other q'

    shut-halts : (p : ℕ → Parser A) (ts : Tokens) (deep : Bool) (bad : Tokens) → take_open read zero p ts ≡ Err (Halts deep bad) → Stuck opening zero (take_open read zero p) deep ts bad
    shut-halts p [] deep bad e = let e1 : deep ≡ false = cc in let e2 : [] ≡ bad = cc in stuck-first zero p [] deep bad e1 e2 (λ other same. again-end zero p bad other same (sym e2))
    shut-halts p (t ∷ ts) deep bad e = go (read t) refl e
      where
        go : (o : Option ℕ) → read t ≡ o → opened o zero (t ∷ ts) p ts ≡ Err (Halts deep bad) → Stuck opening zero (take_open read zero p) deep (t ∷ ts) bad
        go None q e =
            let e1 : deep ≡ false = cc in
            let e2 : t ∷ ts ≡ bad = cc in
            stuck-first zero p (t ∷ ts) deep bad e1 e2 (λ other same. again-none zero p bad other same t ts (sym e2) q)
        go (Some at) q e =
            let e1 : true ≡ deep = cc in
            let e2 : t ∷ ts ≡ bad = cc in
            let P : Bool → Tokens → Type 0 = λ d b. Stuck opening zero (take_open read zero p) d (t ∷ ts) b in
            let Q : Bool → Type 0 = λ d. P d bad in
            let done : P true (t ∷ ts) = record { front = []; split = refl; at_token = tt; goes_on = goes; again = same_head } in
            subst Q e1 (subst (P true) e2 done)
          where
            goes : (place : ℕ) → t.at ≡ place → Completes opening zero place (t ∷ [])
            goes place is =
                let x = ends at place in
                record { more = x.more; value = x.value; enough = suc x.enough; spelled = λ floor m w z l r. by_levels x floor m z l r }
              where
                by_levels : (x : Finishes (inside at) place) (floor : ℕ → ℕ) (m : ℕ) → floor place ≡ zero → suc x.enough ≤ m → (r : Tokens) → opening floor m (((t ∷ []) ++ x.more) ++ r) x.value r
                by_levels x floor zero z l r = absurd (omega arith)
                by_levels x floor (suc m) z l r =
                    let same : at ≡ place = place_is t at q ∙ is in
                    let z' : floor at ≡ zero = ap floor same ∙ z in
                    to-open floor (suc m) at t (x.more ++ r) x.value r q (omega arith) (x.spelled floor m z (omega arith) r)

            same_head : (other : Tokens) → first other ≡ first (t ∷ ts) → take_open read zero p other ≡ Err (Halts true other)
            same_head [] same = absurd cc
            same_head (y ∷ other) same =
                let h' : y ≡ t = cc in
                let q' : read y ≡ Some at = rw h' q in
                rw q'

    shut-law : (p : ℕ → Parser A) (st : A → Option Token → Bool) → Law opening zero (take_open read zero p) st
    shut-law p st = record {
      reads = λ ts a rest e. absurd (shut-never p ts a rest e);
      complete = λ floor m ts a rest h stop. shut-complete p floor m ts a rest h;
      halts = shut-halts p;
    }

    module _ (n : ℕ) (p : ℕ → Parser A) (st : A → Option Token → Bool) (law : (at : ℕ) → Law (inside at) n (p at) st) where
      some-reads : (ts : Tokens) (a : A) (rest : Tokens) → take_open read (suc n) p ts ≡ Ok (a, rest) → Reads opening (suc n) (take_open read (suc n) p) ts a rest
      some-reads [] a rest e = absurd cc
      some-reads (t ∷ ts) a rest e = go (read t) refl e
        where
          go : (o : Option ℕ) → read t ≡ o → opened o (suc n) (t ∷ ts) p ts ≡ Ok (a, rest) → Reads opening (suc n) (take_open read (suc n) p) (t ∷ ts) a rest
          go None q e = absurd cc
          go (Some at) q e =
              let u = (law at).reads ts a rest e in
              record {
                front = t ∷ u.front;
                split = ap (λ (z : Tokens). t ∷ z) u.split;
                spelled = λ floor m w r. by_levels u floor m w r;
                again = λ other same. rw q (u.again other same);
              }
            where
              by_levels : (u : Reads (inside at) n (p at) ts a rest) (floor : ℕ → ℕ) (m : ℕ) → Above (suc n) floor m → (r : Tokens) → opening floor m (t ∷ u.front ++ r) a r
              by_levels u floor zero w r = absurd (let l = w at in omega arith)
              by_levels u floor (suc m) w r =
                  let l = w at in
                  to-open floor (suc m) at t (u.front ++ r) a r q (omega arith) (u.spelled floor m (λ i. let l = w i in omega arith) r)

      some-complete : (floor : ℕ → ℕ) (m : ℕ) (ts : Tokens) (a : A) (rest : Tokens) → opening floor m ts a rest → st a (first rest) ≡ true
          → (take_open read (suc n) p ts ≡ Ok (a, rest)) ⊎ IsDeep (suc n) floor m (take_open read (suc n) p ts)
      some-complete floor m [] a rest h stop = absurd h.2.2
      some-complete floor zero (t ∷ ts) a rest h stop = absurd (let l = (open-by floor zero t ts a rest h).left in omega arith)
      some-complete floor (suc m) (t ∷ ts) a rest h stop =
          let u = open-by floor (suc m) t ts a rest h in
          go u.at u.reads ((law u.at).complete floor m ts a rest u.then_inside stop)
        where
          go : (at : ℕ) → read t ≡ Some at → (p at ts ≡ Ok (a, rest)) ⊎ IsDeep n floor m (p at ts)
              → (take_open read (suc n) p (t ∷ ts) ≡ Ok (a, rest)) ⊎ IsDeep (suc n) floor (suc m) (take_open read (suc n) p (t ∷ ts))
          go at q (inl e) = inl (rw q e)
          go at q (inr d) = inr (let l = d.forbidden in record { token = d.token; rest = d.rest; halts = rw q d.halts; forbidden = omega arith })

      some-halts : (ts : Tokens) (deep : Bool) (bad : Tokens) → take_open read (suc n) p ts ≡ Err (Halts deep bad) → Stuck opening (suc n) (take_open read (suc n) p) deep ts bad
      some-halts [] deep bad e = let e1 : deep ≡ false = cc in let e2 : [] ≡ bad = cc in stuck-first (suc n) p [] deep bad e1 e2 (λ other same. again-end (suc n) p bad other same (sym e2))
      some-halts (t ∷ ts) deep bad e = go (read t) refl e
        where
          go : (o : Option ℕ) → read t ≡ o → opened o (suc n) (t ∷ ts) p ts ≡ Err (Halts deep bad) → Stuck opening (suc n) (take_open read (suc n) p) deep (t ∷ ts) bad
          go None q e =
              let e1 : deep ≡ false = cc in
              let e2 : t ∷ ts ≡ bad = cc in
              stuck-first (suc n) p (t ∷ ts) deep bad e1 e2 (λ other same. again-none (suc n) p bad other same t ts (sym e2) q)
          go (Some at) q e =
              let u = (law at).halts ts deep bad e in
              record {
                front = t ∷ u.front;
                split = ap (λ (z : Tokens). t ∷ z) u.split;
                at_token = u.at_token;
                goes_on = λ place is. goes u.front place (u.goes_on place is);
                again = λ other same. rw q (u.again other same);
              }
            where
              goes : (front : Tokens) (place : ℕ) → Completes (inside at) n place (front ++ kept deep bad) → Completes opening (suc n) place (t ∷ front ++ kept deep bad)
              goes front place g = record { more = g.more; value = g.value; enough = suc g.enough; spelled = by_levels }
                where
                  by_levels : (floor : ℕ → ℕ) (m : ℕ) → Above (suc n) floor m → floor place ≡ zero → suc g.enough ≤ m → (r : Tokens) → opening floor m (((t ∷ front ++ kept deep bad) ++ g.more) ++ r) g.value r
                  by_levels floor zero w z l r = absurd (omega arith)
                  by_levels floor (suc m) w z l r =
                      let k = w at in
                      to-open floor (suc m) at t (((front ++ kept deep bad) ++ g.more) ++ r) g.value r q (omega arith) (g.spelled floor m (λ i. let j = w i in omega arith) z (omega arith) r)

      some-law : Law opening (suc n) (take_open read (suc n) p) st
      some-law = record { reads = some-reads; complete = some-complete; halts = some-halts }

    opening-law : (n : ℕ) (p : ℕ → Parser A) (st : A → Option Token → Bool) → (0 < n → (at : ℕ) → Law (inside at) (n - 1) (p at) st) → Law opening n (take_open read n p) st
    opening-law zero p st law = shut-law p st
    opening-law (suc n) p st law =
        let e : suc n - 1 ≡ n = omega arith in
        let P : ℕ → Type 0 = λ k. (at : ℕ) → Law (inside at) k (p at) st in
        some-law n p st (subst P e (law (omega arith)))

-- a token that opens a level, and what stands in it, which has its law where a level is left
pub opened-lawful : {C A : Type 0} {read : Token → Option ℕ} {S : ℕ → Levels A} {n : ℕ} {p : ℕ → Parser A} {st : A → Option Token → Bool}
    → ((t : Token) (at : ℕ) → read t ≡ Some at → at ≡ t.at) → ((place : ℕ) → (t : Token) × (read t ≡ Some place))
    → ((at : ℕ) → Lawful (0 < n) (λ floor m. S at floor (suc m)) (n - 1) (p at) st) → Lawful C (opening read S) n (take_open read n p) st
opened-lawful {read = read} {S = S} {n = n} {p = p} {st = st} place_is sample x = record {
  finishes = opening-finish read S place_is sample (λ at. (x at).finishes);
  law = λ c. opening-law read S place_is sample (λ at. (x at).finishes) n p st (λ l at. (x at).law l);
}
