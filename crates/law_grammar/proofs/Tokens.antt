-- The laws of no token, of one token, and of a law in another form.
use Rattle.std.proofs.Common.{◌≡◌, ℕ, Bool, true, false, [], ◌∷◌, ◌++◌, Option, Some, None, Ok, Err, inl, refl, sym, ◌∙◌, ap, subst}
use Rattle.smv_core.specs.declared.token.Token.{Token}
use Rattle.smv_core.specs.Notation.{Tokens, nothing, one}
use Rattle.law_grammar.specs.Parsing.{Halts, Parser, pure, taken, take}
use Rattle.law_grammar.specs.Lawful.{Levels, first, Finishes, Completes, Reads, Stuck, Law, Lawful}
use Rattle.law_grammar.proofs.Lists.{same_ok}

-- whatever follows
abbrev pub always : {A : Type 0} → A → Option Token → Bool
always a t = true

-- ---- no token

pub nothing-finish : {A : Type 0} (a : A) (place : ℕ) → Finishes (λ floor m. nothing a) place
nothing-finish a place = record { more = []; value = a; enough = 0; spelled = λ floor m z e r. (refl, refl) }

pub pure-law : {A : Type 0} (n : ℕ) (a : A) (st : A → Option Token → Bool) → Law (λ floor m. nothing a) n (pure a) st
pure-law {A} n a st = record {
  reads = λ ts b rest e.
      let h = same_ok a b ts rest _ refl e in
      record { front = []; split = h.1; spelled = λ floor m w r. (h.0, refl); again = λ other same. let e2 = h.0 in cc };
  complete = λ floor m ts b rest h stop. inl (let e1 = h.0 in let e2 = h.1 in cc);
  halts = λ ts deep bad e. absurd cc;
}

pub nothing-lawful : {C A : Type 0} {n : ℕ} {st : A → Option Token → Bool} (a : A) → Lawful C (λ floor m. nothing a) n (pure a) st
nothing-lawful {n = n} {st = st} a = record { finishes = nothing-finish a; law = λ c. pure-law n a st }

-- ---- one token

-- a token from which a value is read
pub record Sample {A : Type 0} (read : Token → Option A) : Type 0 where
  pub token : Token
  pub value : A
  pub reads : read token ≡ Some value

pub first-none : {A : Type 0} (read : Token → Option A) (bad other : Tokens) → first other ≡ first bad → (t : Token) (ts : Tokens) → bad ≡ t ∷ ts → read t ≡ None → take read other ≡ Err (Halts false other)
first-none read bad [] same t ts e q = refl
first-none read bad (y ∷ other) same t ts e q =
    let h : Some y ≡ Some t = same ∙ ap first e in
    let h' : y ≡ t = cc in
    let q' : read y ≡ None = rw h' q in
    rw q'

pub first-end : {A : Type 0} (read : Token → Option A) (bad other : Tokens) → first other ≡ first bad → bad ≡ [] → take read other ≡ Err (Halts false other)
first-end read bad [] same e = refl
first-end read bad (y ∷ other) same e = absurd (let h : Some y ≡ None = same ∙ ap first e in cc)

module _ {A : Type 0} (read : Token → Option A) where
  pub one-finish : Sample read → (place : ℕ) → Finishes (λ floor m. one read) place
  one-finish s place = record { more = s.token ∷ []; value = s.value; enough = 0; spelled = λ floor m z e r. (s.reads, refl) }

  one-reads : (n : ℕ) (ts : Tokens) (a : A) (rest : Tokens) → take read ts ≡ Ok (a, rest) → Reads (λ floor m. one read) n (take read) ts a rest
  one-reads n [] a rest e = absurd cc
  one-reads n (t ∷ ts) a rest e = go (read t) refl e
    where
      go : (o : Option A) → read t ≡ o → taken o (t ∷ ts) ts ≡ Ok (a, rest) → Reads (λ floor m. one read) n (take read) (t ∷ ts) a rest
      go None q e = absurd cc
      go (Some b) q e =
          let h = same_ok b a ts rest _ refl e in
          let q' : read t ≡ Some a = rw (← h.0) q in
          record { front = t ∷ []; split = ap (λ (z : Tokens). t ∷ z) h.1; spelled = λ floor m w r. (q', refl); again = λ other same. rw q' }

  one-complete : (ts : Tokens) (a : A) (rest : Tokens) → one read ts a rest → take read ts ≡ Ok (a, rest)
  one-complete [] a rest h = absurd h
  one-complete (t ∷ ts) a rest h = rw h.0 (ap (λ (z : Tokens). Ok (a, z)) h.1)

  one-halts : (n : ℕ) → Sample read → (ts : Tokens) (deep : Bool) (bad : Tokens) → take read ts ≡ Err (Halts deep bad) → Stuck (λ floor m. one read) n (take read) deep ts bad
  one-halts n s ts deep bad e = by_tokens ts e
    where
      stuck : (ts : Tokens) → deep ≡ false → ts ≡ bad → ((other : Tokens) → first other ≡ first bad → take read other ≡ Err (Halts false other)) → Stuck (λ floor m. one read) n (take read) deep ts bad
      stuck ts shallow e2 again =
          let P : Bool → Type 0 = λ d. Stuck (λ floor m. one read) n (take read) d ts bad in
          subst P (sym shallow) (record {
            front = [];
            split = e2;
            at_token = tt;
            goes_on = λ place is. record { more = s.token ∷ []; value = s.value; enough = 0; spelled = λ floor m w z e r. (s.reads, refl) };
            again = again;
          })

      by_tokens : (ts : Tokens) → take read ts ≡ Err (Halts deep bad) → Stuck (λ floor m. one read) n (take read) deep ts bad
      by_tokens [] e = let e1 : deep ≡ false = cc in let e2 : [] ≡ bad = cc in stuck [] e1 e2 (λ other same. first-end read bad other same (sym e2))
      by_tokens (t ∷ ts) e = go (read t) refl e
        where
          go : (o : Option A) → read t ≡ o → taken o (t ∷ ts) ts ≡ Err (Halts deep bad) → Stuck (λ floor m. one read) n (take read) deep (t ∷ ts) bad
          go (Some b) q e = absurd cc
          go None q e = let e1 : deep ≡ false = cc in let e2 : t ∷ ts ≡ bad = cc in stuck (t ∷ ts) e1 e2 (λ other same. first-none read bad other same t ts (sym e2) q)

  pub one-lawful : {C : Type 0} {n : ℕ} {st : A → Option Token → Bool} → Sample read → Lawful C (λ floor m. one read) n (take read) st
  one-lawful {n = n} s = record {
    finishes = one-finish s;
    law = λ c. record {
      reads = one-reads n;
      complete = λ floor m ts b rest h stop. inl (one-complete ts b rest h);
      halts = one-halts n s;
    };
  }

-- ---- another form

-- one rule spells what the other does
abbrev pub Includes : {A : Type 0} → Levels A → Levels A → Type 0
Includes {A} F G = (floor : ℕ → ℕ) (m : ℕ) (ts : Tokens) (a : A) (rest : Tokens) → G floor m ts a rest → F floor m ts a rest

pub includes-completes : {A : Type 0} (F G : Levels A) → Includes G F → {n place : ℕ} {ts : Tokens} → Completes F n place ts → Completes G n place ts
includes-completes F G to {ts = ts} g = record {
  more = g.more;
  value = g.value;
  enough = g.enough;
  spelled = λ floor m w z e r. to floor m ((ts ++ g.more) ++ r) g.value r (g.spelled floor m w z e r);
}

pub same-finish : {A : Type 0} (F G : Levels A) → Includes G F → ((place : ℕ) → Finishes F place) → (place : ℕ) → Finishes G place
same-finish F G to f place =
    let x = f place in
    record { more = x.more; value = x.value; enough = x.enough; spelled = λ floor m z e r. to floor m (x.more ++ r) x.value r (x.spelled floor m z e r) }

pub same-law : {A : Type 0} (F G : Levels A) → Includes G F → Includes F G → (n : ℕ) (p q : Parser A) (st st' : A → Option Token → Bool)
    → ((ts : Tokens) → q ts ≡ p ts) → ((a : A) (t : Option Token) → st' a t ≡ true → st a t ≡ true) → Law F n p st → Law G n q st'
same-law F G to from n p q st st' e weaker f = record {
  reads = λ ts a rest h.
      let u = f.reads ts a rest (sym (e ts) ∙ h) in
      record { front = u.front; split = u.split; spelled = λ floor m w r. to floor m (u.front ++ r) a r (u.spelled floor m w r); again = λ other same. e (u.front ++ other) ∙ u.again other same };
  complete = λ floor m ts a rest h stop. rw (e ts) (f.complete floor m ts a rest (from floor m ts a rest h) (weaker a (first rest) stop));
  halts = λ ts deep bad h.
      let u = f.halts ts deep bad (sym (e ts) ∙ h) in
      record {
        front = u.front;
        split = u.split;
        at_token = u.at_token;
        goes_on = λ place is. includes-completes F G to (u.goes_on place is);
        again = λ other same. e (u.front ++ other) ∙ u.again other same;
      };
}

pub same-lawful : {C A : Type 0} {F G : Levels A} {n : ℕ} {p : Parser A} {st st' : A → Option Token → Bool} → Includes G F → Includes F G
    → ((a : A) (t : Option Token) → st' a t ≡ true → st a t ≡ true) → Lawful C F n p st → Lawful C G n p st'
same-lawful {F = F} {G = G} {n = n} {p = p} {st = st} {st' = st'} to from weaker f = record {
  finishes = same-finish F G to f.finishes;
  law = λ c. same-law F G to from n p p st st' (λ ts. refl) weaker (f.law c);
}

-- fewer tokens stop a value
pub stopped : {C A : Type 0} {F : Levels A} {n : ℕ} {p : Parser A} {st st' : A → Option Token → Bool} → ((a : A) (t : Option Token) → st' a t ≡ true → st a t ≡ true) → Lawful C F n p st → Lawful C F n p st'
stopped weaker f = same-lawful (λ floor m ts a rest h. h) (λ floor m ts a rest h. h) weaker f
