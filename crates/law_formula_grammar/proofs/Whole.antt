-- The whole list of tokens, for any rule and its reader: the reader's answer is right.
use Rattle.std.proofs.Common.{◌≡◌, ◌<◌, ◌≤◌, ◌+◌, ℕ, zero, suc, Bool, true, false, [], ◌∷◌, ◌++◌, Option, Some, None, Ok, Err, ◌⊎◌, inl, inr, refl, sym, ◌∙◌, subst, arith}
use Rattle.smv_core.specs.declared.token.Token.{Token}
use Rattle.smv_core.specs.Notation.{Tokens}
use Rattle.smv_core.specs.Spelling.{kept_before, place_of_rest}
use Rattle.law_grammar.specs.Parsing.{Halts, Outcome, Parser}
use Rattle.law_grammar.specs.Lawful.{Levels, first, Completes, Reads, kept, AtToken, IsPlaceOf, Stuck, IsDeep, Law}
use Rattle.law_grammar.proofs.Lists.{same_ok}
use Rattle.law_grammar.proofs.Whole.{no-nil, kept-above, kept-none, kept-all, reorder}
use Rattle.law_formula_grammar.specs.Spelling.{SpellsBy, GoesOnWithinBy, IsRefusedBy, IsUnexpectedBy, IsTooDeepBy}
use Rattle.law_formula_grammar.specs.Readers.{whole}
use Rattle.law_formula_grammar.specs.Laws.{IsRightBy}

module _ {A : Type 0} (F : Levels A) (p : ℕ → Parser A) (st : A → Option Token → Bool) (law : (n : ℕ) → Law F n (p n) st) (end : (a : A) → st a None ≡ true) where
  -- The reader halts here: what is before can go on, and with this token, or the end, nothing is spelled within as many levels as are left.
  pub record Refusal (n : ℕ) (ts : Tokens) (deep : Bool) (bad : Tokens) : Type 0 where
    pub front : Tokens
    pub split : ts ≡ front ++ bad
    pub at_token : AtToken deep bad
    pub goes : (place : ℕ) → IsPlaceOf place deep bad → Completes F n place (front ++ kept deep bad)
    pub blocked : (other : Tokens) → first other ≡ first bad → (floor : ℕ → ℕ) (m : ℕ) (a : A) → F floor m (front ++ other) a [] → IsDeep {A = A} n floor m (Err (Halts deep other))

  halted : (n : ℕ) (ts : Tokens) (deep : Bool) (bad : Tokens) → p n ts ≡ Err (Halts deep bad) → Refusal n ts deep bad
  halted n ts deep bad q = by ((law n).halts ts deep bad q)
    where
      by : Stuck F n (p n) deep ts bad → Refusal n ts deep bad
      by u = record { front = u.front; split = u.split; at_token = u.at_token; goes = u.goes_on; blocked = blocked }
        where
          blocked : (other : Tokens) → first other ≡ first bad → (floor : ℕ → ℕ) (m : ℕ) (a : A) → F floor m (u.front ++ other) a [] → IsDeep {A = A} n floor m (Err (Halts deep other))
          blocked other same floor m a h = go ((law n).complete floor m (u.front ++ other) a [] h (end a))
            where
              go : (p n (u.front ++ other) ≡ Ok (a, [])) ⊎ IsDeep n floor m (p n (u.front ++ other)) → IsDeep {A = A} n floor m (Err (Halts deep other))
              go (inl e) = absurd (let b = u.again other same in cc)
              go (inr d) = let P : Outcome A → Type 0 = λ o. IsDeep n floor m o in subst P (u.again other same) d

  -- a token is left behind what is read
  left : (n : ℕ) (ts : Tokens) (a : A) (t : Token) (rest : Tokens) → p n ts ≡ Ok (a, t ∷ rest) → Refusal n ts false (t ∷ rest)
  left n ts a t rest q = by ((law n).reads ts a (t ∷ rest) q)
    where
      by : Reads F n (p n) ts a (t ∷ rest) → Refusal n ts false (t ∷ rest)
      by u = record { front = u.front; split = u.split; at_token = tt; goes = goes; blocked = blocked }
        where
          goes : (place : ℕ) → IsPlaceOf place false (t ∷ rest) → Completes F n place (u.front ++ [])
          goes place is = record {
            more = [];
            value = a;
            enough = 0;
            spelled = λ floor m w z l r. rw (no-nil u.front) (rw (no-nil u.front) (u.spelled floor m w r));
          }

          blocked : (other : Tokens) → first other ≡ Some t → (floor : ℕ → ℕ) (m : ℕ) (b : A) → F floor m (u.front ++ other) b [] → IsDeep {A = A} n floor m (Err (Halts false other))
          blocked other same floor m b h = absurd (go other same ((law n).complete floor m (u.front ++ other) b [] h (end b)))
            where
              go : (other : Tokens) → first other ≡ Some t → (p n (u.front ++ other) ≡ Ok (b, [])) ⊎ IsDeep n floor m (p n (u.front ++ other)) → ⊥
              go [] same e = cc
              go (v ∷ other) same (inl e) = let c = same_ok a b (v ∷ other) [] _ (u.again (v ∷ other) same) e in let z = c.1 in cc
              go (v ∷ other) same (inr d) = let c = u.again (v ∷ other) same in let z = d.halts in cc

  pub refusal : (n : ℕ) (ts : Tokens) (deep : Bool) (bad : Tokens) → whole (p n ts) ≡ Err (Halts deep bad) → Refusal n ts deep bad
  refusal n ts deep bad e = go (p n ts) refl e
    where
      go : (o : Outcome A) → p n ts ≡ o → whole o ≡ Err (Halts deep bad) → Refusal n ts deep bad
      go (Err h) q e = halted n ts deep bad (q ∙ cc)
      go (Ok (a, [])) q e = absurd cc
      go (Ok (a, t ∷ rest)) q e =
          let e1 : false ≡ deep = cc in
          let e2 : t ∷ rest ≡ bad = cc in
          let P : Bool → Type 0 = λ d. Refusal n ts d bad in
          let Q : Tokens → Type 0 = λ b. Refusal n ts false b in
          subst P e1 (subst Q e2 (left n ts a t rest q))

  -- ---- the answer is right

  -- what can go on, can within n levels before a place
  pub within : (n place : ℕ) (ts : Tokens) → Completes F n place ts → (at : ℕ) → at ≤ place → GoesOnWithinBy F n at ts
  within n place ts g at l =
      let z : kept_before at g.enough place ≡ zero = kept-none at g.enough place l in
      let h = g.spelled (kept_before at g.enough) (n + g.enough) (kept-above n at g.enough) z (omega arith) [] in
      (g.more, g.enough, g.value, rw (← no-nil (ts ++ g.more)) h)

  pub never-deep : (n : ℕ) (floor : ℕ → ℕ) (m : ℕ) (other : Tokens) → IsDeep {A = A} n floor m (Err (Halts false other)) → ⊥
  never-deep n floor m other d = let e = d.halts in let q : false ≡ true = cc in cc

  unexpected : (n length : ℕ) (ts bad : Tokens) → Refusal n ts false bad → IsUnexpectedBy F n length ts (place_of_rest length bad)
  unexpected n length ts bad u = record {
    front = u.front;
    rest = bad;
    split = u.split;
    place = refl;
    goes_on = let P : Tokens → Type 0 = λ z. GoesOnWithinBy F n (place_of_rest length bad) z in subst P (no-nil u.front) (within n (place_of_rest length bad) (u.front ++ []) (u.goes (place_of_rest length bad) tt) (place_of_rest length bad) (omega arith));
    refused = by bad u.blocked;
  }
    where
      by : (bad : Tokens) → ((other : Tokens) → first other ≡ first bad → (floor : ℕ → ℕ) (m : ℕ) (a : A) → F floor m (u.front ++ other) a [] → IsDeep {A = A} n floor m (Err (Halts false other))) → IsRefusedBy F u.front bad
      by [] blocked = λ m x h. never-deep n (λ at. 0) m [] (blocked [] refl (λ at. 0) m x (rw (no-nil u.front) h))
      by (t ∷ rest) blocked = λ h. never-deep n (λ at. 0) h.1 (t ∷ h.0) (blocked (t ∷ h.0) refl (λ at. 0) h.1 h.2 (rw (← reorder u.front t h.0) h.3))

  -- a token that opens a level too many cannot be allowed to
  pub too-deep-at : (n : ℕ) (floor : ℕ → ℕ) (m : ℕ) (t : Token) (other : Tokens) → IsDeep {A = A} n floor m (Err (Halts true (t ∷ other))) → floor t.at + n < m
  too-deep-at n floor m t other d =
      let e = d.halts in
      let q : t ∷ other ≡ d.token ∷ d.rest = cc in
      let r : t ≡ d.token = cc in
      let P : Token → Type 0 = λ z. floor z.at + n < m in
      subst P (sym r) d.forbidden

  too-deep : (n : ℕ) (ts : Tokens) (t : Token) (rest : Tokens) → Refusal n ts true (t ∷ rest) → IsTooDeepBy F n ts t.at
  too-deep n ts t rest u = record {
    front = u.front;
    token = t;
    rest = rest;
    split = u.split;
    place = refl;
    goes_on = within n t.at (u.front ++ t ∷ []) (u.goes t.at refl) t.at (omega arith);
    too_deep = λ h.
        let d = u.blocked (t ∷ h.0) refl (kept_before (suc t.at) h.1) (n + h.1) h.2 (rw (← reorder u.front t h.0) h.3) in
        let l = too-deep-at n (kept_before (suc t.at) h.1) (n + h.1) t h.0 d in
        let k = kept-all (suc t.at) h.1 t.at (omega arith) in
        omega arith;
  }

  pub answered : (n length : ℕ) (ts : Tokens) → IsRightBy F n length ts (whole (p n ts))
  answered n length ts = go (p n ts) refl
    where
      spelled : (a : A) → Reads F n (p n) ts a [] → SpellsBy F n ts a
      spelled a u =
          let P : Tokens → Type 0 = λ z. F (λ at. 0) n z a [] in
          subst P (sym u.split) (u.spelled (λ at. 0) n (λ i. omega arith) [])

      go : (o : Outcome A) → p n ts ≡ o → IsRightBy F n length ts (whole o)
      go (Ok (a, [])) q = spelled a ((law n).reads ts a [] q)
      go (Ok (a, t ∷ rest)) q = unexpected n length ts (t ∷ rest) (left n ts a t rest q)
      go (Err (Halts false bad)) q = unexpected n length ts bad (halted n ts false bad q)
      go (Err (Halts true [])) q = absurd (halted n ts true [] q).at_token
      go (Err (Halts true (t ∷ rest))) q = too-deep n ts t rest (halted n ts true (t ∷ rest) q)
