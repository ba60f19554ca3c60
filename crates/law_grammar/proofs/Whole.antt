-- The whole list of tokens: the reader's answer is right, and no other is.
use Rattle.std.proofs.Common.{◌≡◌, ◌<◌, ◌≤◌, ◌+◌, ℕ, zero, suc, nat_lt, Bool, true, false, cond, List, [], ◌∷◌, ◌++◌, Some, Ok, Err, ◌⊎◌, inl, inr, refl, sym, ◌∙◌, ap, subst, append_assoc, arith}
use Rattle.std.proofs.lemmas.Bool.{ltb-true, lt-ltb}
use Rattle.std.proofs.Common.{◌-◌, drop, length, length-append}
use Rattle.std.proofs.Math.Seq.{drop-append_seam}
use Rattle.smv_core.specs.declared.token.Token.{Token}
use Rattle.smv_core.specs.declared.tree.Top.{Top}
use Rattle.smv_core.specs.Notation.{Tokens}
use Rattle.smv_core.specs.Grammar as g
use Rattle.smv_core.specs.Spelling.{Spells, CanGoOn, GoesOnWithin, kept_before, place_of_rest, IsRefusedAfter, IsUnexpected, IsTooDeep}
use Rattle.law_grammar.specs.Parsing.{Halts, Outcome}
use Rattle.law_grammar.specs.Lawful.{first, Above, Completes, Reads, kept, AtToken, IsPlaceOf, Stuck, IsDeep, Law}
use Rattle.law_grammar.specs.Marks.{stops_by}
use Rattle.law_grammar.specs.Items.{read_tops, whole, top_marks, read_text}
use Rattle.law_grammar.specs.Laws.{IsRight}
use Rattle.law_grammar.proofs.Lists.{same_ok}
use Rattle.law_grammar.proofs.Texts.{texts}

abbrev pub law : (n : ℕ) → Law g.text_rule n (read_tops n) (stops_by (λ tops. top_marks))
law n = (texts n).law tt

-- ---- where the reader halts

-- The reader halts here: what is before can go on, and with this token, or the end, nothing is spelled within as many levels as are left.
pub record Refusal (n : ℕ) (ts : Tokens) (deep : Bool) (bad : Tokens) : Type 0 where
  pub front : Tokens
  pub split : ts ≡ front ++ bad
  pub at_token : AtToken deep bad
  pub goes : (place : ℕ) → IsPlaceOf place deep bad → Completes g.text_rule n place (front ++ kept deep bad)
  pub blocked : (other : Tokens) → first other ≡ first bad → (floor : ℕ → ℕ) (m : ℕ) (tops : List Top) → g.text_rule floor m (front ++ other) tops [] → IsDeep {A = List Top} n floor m (Err (Halts deep other))

pub no-nil : (xs : Tokens) → xs ++ [] ≡ xs
no-nil [] = refl
no-nil (x ∷ xs) = ap (λ (z : Tokens). x ∷ z) (no-nil xs)

halted : (n : ℕ) (ts : Tokens) (deep : Bool) (bad : Tokens) → read_tops n ts ≡ Err (Halts deep bad) → Refusal n ts deep bad
halted n ts deep bad q = by ((law n).halts ts deep bad q)
  where
    by : Stuck g.text_rule n (read_tops n) deep ts bad → Refusal n ts deep bad
    by u = record { front = u.front; split = u.split; at_token = u.at_token; goes = u.goes_on; blocked = blocked }
      where
        blocked : (other : Tokens) → first other ≡ first bad → (floor : ℕ → ℕ) (m : ℕ) (tops : List Top) → g.text_rule floor m (u.front ++ other) tops [] → IsDeep {A = List Top} n floor m (Err (Halts deep other))
        blocked other same floor m tops h = go ((law n).complete floor m (u.front ++ other) tops [] h refl)
          where
            go : (read_tops n (u.front ++ other) ≡ Ok (tops, [])) ⊎ IsDeep n floor m (read_tops n (u.front ++ other)) → IsDeep {A = List Top} n floor m (Err (Halts deep other))
            go (inl e) = absurd (let a = u.again other same in cc)
            go (inr d) = let P : Outcome (List Top) → Type 0 = λ o. IsDeep n floor m o in subst P (u.again other same) d

-- a token is left behind the tops
left : (n : ℕ) (ts : Tokens) (tops : List Top) (t : Token) (rest : Tokens) → read_tops n ts ≡ Ok (tops, t ∷ rest) → Refusal n ts false (t ∷ rest)
left n ts tops t rest q = by ((law n).reads ts tops (t ∷ rest) q)
  where
    by : Reads g.text_rule n (read_tops n) ts tops (t ∷ rest) → Refusal n ts false (t ∷ rest)
    by u = record { front = u.front; split = u.split; at_token = tt; goes = goes; blocked = blocked }
      where
        goes : (place : ℕ) → IsPlaceOf place false (t ∷ rest) → Completes g.text_rule n place (u.front ++ [])
        goes place is = record {
          more = [];
          value = tops;
          enough = 0;
          spelled = λ floor m w z l r. rw (no-nil u.front) (rw (no-nil u.front) (u.spelled floor m w r));
        }

        blocked : (other : Tokens) → first other ≡ Some t → (floor : ℕ → ℕ) (m : ℕ) (more : List Top) → g.text_rule floor m (u.front ++ other) more [] → IsDeep {A = List Top} n floor m (Err (Halts false other))
        blocked other same floor m more h = absurd (go other same ((law n).complete floor m (u.front ++ other) more [] h refl))
          where
            go : (other : Tokens) → first other ≡ Some t → (read_tops n (u.front ++ other) ≡ Ok (more, [])) ⊎ IsDeep n floor m (read_tops n (u.front ++ other)) → ⊥
            go [] same e = cc
            go (v ∷ other) same (inl e) = let a = same_ok tops more (v ∷ other) [] _ (u.again (v ∷ other) same) e in let z = a.1 in cc
            go (v ∷ other) same (inr d) = let a = u.again (v ∷ other) same in let z = d.halts in cc

pub refusal : (n : ℕ) (ts : Tokens) (deep : Bool) (bad : Tokens) → read_text n ts ≡ Err (Halts deep bad) → Refusal n ts deep bad
unfolding read_text
refusal n ts deep bad e = go (read_tops n ts) refl e
  where
    go : (o : Outcome (List Top)) → read_tops n ts ≡ o → whole o ≡ Err (Halts deep bad) → Refusal n ts deep bad
    go (Err h) q e = halted n ts deep bad (q ∙ cc)
    go (Ok (tops, [])) q e = absurd cc
    go (Ok (tops, t ∷ rest)) q e =
        let e1 : false ≡ deep = cc in
        let e2 : t ∷ rest ≡ bad = cc in
        let P : Bool → Type 0 = λ d. Refusal n ts d bad in
        let Q : Tokens → Type 0 = λ b. Refusal n ts false b in
        subst P e1 (subst Q e2 (left n ts tops t rest q))

-- ---- levels that are kept back

kept-most : (place k at : ℕ) → kept_before place k at ≤ k
kept-most place k at = go (nat_lt at place)
  where
    go : (b : Bool) → cond b k 0 ≤ k
    go true = omega arith
    go false = omega arith

pub kept-above : (n place k : ℕ) → Above n (kept_before place k) (n + k)
kept-above n place k at = let l = kept-most place k at in omega arith

pub kept-none : (place k at : ℕ) → place ≤ at → kept_before place k at ≡ zero
kept-none place k at l = go (nat_lt at place) refl
  where
    go : (b : Bool) → nat_lt at place ≡ b → cond b k 0 ≡ zero
    go true e = absurd (let q = ltb-true at place e in omega arith)
    go false e = refl

pub kept-all : (place k at : ℕ) → at < place → kept_before place k at ≡ k
kept-all place k at l = rw (lt-ltb at place l) refl

-- ---- the answer is right

pub reorder : (front : Tokens) (t : Token) (more : Tokens) → (front ++ t ∷ []) ++ more ≡ front ++ t ∷ more
reorder front t more = append_assoc front (t ∷ []) more

-- what can go on, can within n levels before a place
pub within : (n place : ℕ) (ts : Tokens) → Completes g.text_rule n place ts → (at : ℕ) → at ≤ place → GoesOnWithin n at ts
unfolding GoesOnWithin
within n place ts g at l =
    let z : kept_before at g.enough place ≡ zero = kept-none at g.enough place l in
    let h = g.spelled (kept_before at g.enough) (n + g.enough) (kept-above n at g.enough) z (omega arith) [] in
    (g.more, g.enough, record { tops = g.value }, rw (← no-nil (ts ++ g.more)) h)

pub never-deep : (n : ℕ) (floor : ℕ → ℕ) (m : ℕ) (other : Tokens) → IsDeep {A = List Top} n floor m (Err (Halts false other)) → ⊥
never-deep n floor m other d = let e = d.halts in let q : false ≡ true = cc in cc

unexpected : (n length : ℕ) (ts bad : Tokens) → Refusal n ts false bad → IsUnexpected n length ts (place_of_rest length bad)
unfolding CanGoOn Spells
unexpected n length ts bad u = record {
  front = u.front;
  rest = bad;
  split = u.split;
  place = refl;
  goes_on = let P : Tokens → Type 0 = λ z. GoesOnWithin n (place_of_rest length bad) z in subst P (no-nil u.front) (within n (place_of_rest length bad) (u.front ++ []) (u.goes (place_of_rest length bad) tt) (place_of_rest length bad) (omega arith));
  refused = by bad u.blocked;
}
  where
    by : (bad : Tokens) → ((other : Tokens) → first other ≡ first bad → (floor : ℕ → ℕ) (m : ℕ) (tops : List Top) → g.text_rule floor m (u.front ++ other) tops [] → IsDeep {A = List Top} n floor m (Err (Halts false other))) → IsRefusedAfter u.front bad
    by [] blocked = λ m x h. never-deep n (λ at. 0) m [] (blocked [] refl (λ at. 0) m x.tops (rw (no-nil u.front) h))
    by (t ∷ rest) blocked = λ h. never-deep n (λ at. 0) h.1 (t ∷ h.0) (blocked (t ∷ h.0) refl (λ at. 0) h.1 h.2.tops (rw (← reorder u.front t h.0) h.3))

-- a token that opens a level too many cannot be allowed to
pub too-deep-at : (n : ℕ) (floor : ℕ → ℕ) (m : ℕ) (t : Token) (other : Tokens) → IsDeep {A = List Top} n floor m (Err (Halts true (t ∷ other))) → floor t.at + n < m
too-deep-at n floor m t other d =
    let e = d.halts in
    let q : t ∷ other ≡ d.token ∷ d.rest = cc in
    let r : t ≡ d.token = cc in
    let P : Token → Type 0 = λ z. floor z.at + n < m in
    subst P (sym r) d.forbidden

too-deep : (n length : ℕ) (ts : Tokens) (t : Token) (rest : Tokens) → Refusal n ts true (t ∷ rest) → IsTooDeep n ts t.at
unfolding GoesOnWithin
too-deep n length ts t rest u = record {
  front = u.front;
  token = t;
  rest = rest;
  split = u.split;
  place = refl;
  goes_on = within n t.at (u.front ++ t ∷ []) (u.goes t.at refl) t.at (omega arith);
  too_deep = λ h.
      let d = u.blocked (t ∷ h.0) refl (kept_before (suc t.at) h.1) (n + h.1) h.2.tops (rw (← reorder u.front t h.0) h.3) in
      let l = too-deep-at n (kept_before (suc t.at) h.1) (n + h.1) t h.0 d in
      let k = kept-all (suc t.at) h.1 t.at (omega arith) in
      omega arith;
}

pub answered : (n length : ℕ) (ts : Tokens) → IsRight n length ts (read_text n ts)
unfolding read_text Spells
answered n length ts = go (read_tops n ts) refl
  where
    spelled : (tops : List Top) → Reads g.text_rule n (read_tops n) ts tops [] → g.text_rule (λ at. 0) n ts tops []
    spelled tops u =
        let P : Tokens → Type 0 = λ z. g.text_rule (λ at. 0) n z tops [] in
        subst P (sym u.split) (u.spelled (λ at. 0) n (λ i. omega arith) [])

    go : (o : Outcome (List Top)) → read_tops n ts ≡ o → IsRight n length ts (whole o)
    go (Ok (tops, [])) q = spelled tops ((law n).reads ts tops [] q)
    go (Ok (tops, t ∷ rest)) q = unexpected n length ts (t ∷ rest) (left n ts tops t rest q)
    go (Err (Halts false bad)) q = unexpected n length ts bad (halted n ts false bad q)
    go (Err (Halts true [])) q = absurd (halted n ts true [] q).at_token
    go (Err (Halts true (t ∷ rest))) q = too-deep n length ts t rest (halted n ts true (t ∷ rest) q)

-- the tokens where the reader halts are the last ones, as many as are left
pub halts_at_last : (n : ℕ) (ts : Tokens) (deep : Bool) (bad : Tokens) → read_text n ts ≡ Err (Halts deep bad) → (length bad ≤ length ts) × (drop (length ts - length bad) ts ≡ bad)
halts_at_last n ts deep bad e = go (refusal n ts deep bad e)
  where
    go : Refusal n ts deep bad → (length bad ≤ length ts) × (drop (length ts - length bad) ts ≡ bad)
    go u =
        let s : length ts ≡ length u.front + length bad = ap length u.split ∙ length-append u.front bad in
        let k : length ts - length bad ≡ length u.front = omega arith in
        (omega arith, rw k (rw u.split (drop-append_seam u.front bad)))
