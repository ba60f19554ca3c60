-- No answer but the reader's is right.
use Rattle.std.proofs.Common.{◌≡◌, ◌<◌, ◌≤◌, ◌+◌, ℕ, suc, Bool, true, false, List, [], ◌∷◌, ◌++◌, Some, Result, Ok, Err, refl, sym, ◌∙◌, ap, subst, append_assoc, arith}
use Rattle.smv_core.specs.declared.token.Token.{Token}
use Rattle.smv_core.specs.declared.tree.Top.{Top}
use Rattle.smv_core.specs.declared.tree.Text.{Text}
use Rattle.smv_core.specs.Notation.{Tokens}
use Rattle.smv_core.specs.Grammar as g
use Rattle.smv_core.specs.Spelling.{Spells, CanGoOn, GoesOnWithin, kept_before, place_of_rest, IsRefusedAfter, IsUnexpected, IsTooDeep}
use Rattle.law_grammar.specs.Parsing.{Halt, Halts, Outcome}
use Rattle.law_grammar.specs.Lawful.{first, Completes, IsDeep}
use Rattle.law_grammar.specs.Items.{read_tops, whole, read_text}
use Rattle.law_grammar.specs.Laws.{IsRight, Rise, HaltsAt, IsOneText, IsOnlyText, IsOnlyUnexpected, IsOnlyTooDeep}
use Rattle.law_grammar.proofs.One.{all-read, at-most-one}
use Rattle.law_grammar.proofs.Whole.{law, Refusal, refusal, answered, never-deep, too-deep-at, reorder, no-nil, kept-none, kept-all, kept-above}

-- ---- texts

pub one-text : IsOneText
unfolding Spells
one-text n m ts x y h k =
    let e = at-most-one g.text_rule read_tops _ law (λ a. refl) n m ts x.tops y.tops h k in
    let f : List Top → Text = λ tops. record { tops = tops } in
    ap f e

pub only-text : IsOnlyText
unfolding Spells read_text
only-text n ts x h = let e = all-read g.text_rule read_tops _ law (λ a. refl) n n ts x.tops (omega arith) h in rw e refl

-- ---- two ways to cut a list

pub data Cuts (f r f' r' : Tokens) : Type 0 where
  at_one : f ≡ f' → r ≡ r' → Cuts f r f' r'
  earlier : (t : Token) → (more : Tokens) → f' ≡ f ++ t ∷ more → r ≡ t ∷ more ++ r' → Cuts f r f' r'
  later : (t : Token) → (more : Tokens) → f ≡ f' ++ t ∷ more → r' ≡ t ∷ more ++ r → Cuts f r f' r'

cons-cuts : (x y : Token) (f r f' r' : Tokens) → x ≡ y → Cuts f r f' r' → Cuts (x ∷ f) r (y ∷ f') r'
cons-cuts x y f r f' r' e (at_one p q) = at_one (rw e (ap (λ (z : Tokens). y ∷ z) p)) q
cons-cuts x y f r f' r' e (earlier t more p q) = earlier t more (rw e (ap (λ (z : Tokens). y ∷ z) p)) q
cons-cuts x y f r f' r' e (later t more p q) = later t more (rw e (ap (λ (z : Tokens). y ∷ z) p)) q

pub cuts : (f r f' r' : Tokens) → f ++ r ≡ f' ++ r' → Cuts f r f' r'
cuts [] r [] r' e = at_one refl e
cuts [] r (y ∷ f') r' e = earlier y f' refl e
cuts (x ∷ f) r [] r' e = later x f refl (sym e)
cuts (x ∷ f) r (y ∷ f') r' e = let p : x ≡ y = cc in let q : f ++ r ≡ f' ++ r' = cc in cons-cuts x y f r f' r' p (cuts f r f' r' q)

-- the offset of a token is before the place of what comes later
pub rise-rest : (length : ℕ) (f r : Tokens) → Rise length (f ++ r) → place_of_rest length (f ++ r) ≤ place_of_rest length r
rise-rest length [] r h = omega arith
rise-rest length (t ∷ f) r h = let l = rise-rest length f r h.1 in let k = h.0 in omega arith

pub rise-tail : (length : ℕ) (f r : Tokens) → Rise length (f ++ r) → Rise length r
rise-tail length [] r h = h
rise-tail length (t ∷ f) r h = rise-tail length f r h.1

pub rise-before : (length : ℕ) (f : Tokens) (t : Token) (more r ts : Tokens) → ts ≡ f ++ (t ∷ more ++ r) → Rise length ts → t.at < place_of_rest length r
rise-before length f t more r ts e h =
    let P : Tokens → Type 0 = λ z. Rise length z in
    let k = rise-tail length f (t ∷ more ++ r) (subst P e h) in
    let l = rise-rest length more r k.1 in
    let j = k.0 in
    omega arith

-- ---- what is refused is not spelled

Spelled : Tokens → Type 0
Spelled ts = (m : ℕ) × (tops : List Top) × g.text_rule (λ at. 0) m ts tops []

-- nothing is spelled that begins so and goes on with the refused token or end
refuses : (f r : Tokens) → IsRefusedAfter f r → (z : Tokens) → first z ≡ first r → (m : ℕ) (tops : List Top) → g.text_rule (λ at. 0) m (f ++ z) tops [] → ⊥
unfolding CanGoOn Spells
refuses f [] k [] same m tops h = k m (record { tops = tops }) (rw (← no-nil f) h)
refuses f [] k (v ∷ z) same m tops h = absurd cc
refuses f (t ∷ r) k [] same m tops h = absurd cc
refuses f (t ∷ r) k (v ∷ z) same m tops h =
    let e : v ≡ t = cc in
    let P : Token → Type 0 = λ u. g.text_rule (λ at. 0) m (f ++ u ∷ z) tops [] in
    k (z, m, record { tops = tops }, rw (reorder f t z) (subst P e h))

-- what can go on is spelled, where levels do not count
completed : (n place : ℕ) (ts : Tokens) → Completes g.text_rule n place ts → (more : Tokens) × (m : ℕ) × (tops : List Top) × g.text_rule (λ at. 0) m (ts ++ more) tops []
completed n place ts g = (g.more, n + g.enough, g.value, rw (← no-nil (ts ++ g.more)) (g.spelled (λ at. 0) (n + g.enough) (λ i. omega arith) refl (omega arith) []))

text-spelled : (n : ℕ) (ts : Tokens) (x : Text) → IsRight n 0 ts (Ok x) → g.text_rule (λ at. 0) n ts x.tops []
unfolding Spells
text-spelled n ts x h = h

-- the whole list is spelled
all-spelled : (f r : Tokens) (ts : Tokens) → ts ≡ f ++ r → IsRefusedAfter f r → (m : ℕ) (tops : List Top) → g.text_rule (λ at. 0) m ts tops [] → ⊥
all-spelled f r ts e k m tops h = let P : Tokens → Type 0 = λ z. g.text_rule (λ at. 0) m z tops [] in refuses f r k r refl m tops (subst P e h)

module _ (n length : ℕ) (ts : Tokens) (at : ℕ) (rise : Rise length ts) (x : IsUnexpected n length ts at) where
  -- the reader's front goes beyond: it can go on, though it has the refused token
  beyond : (z : Tokens) (t : Token) (more tail : Tokens) → z ≡ x.front ++ t ∷ more → x.rest ≡ t ∷ tail → (w : Tokens) × (m : ℕ) × (tops : List Top) × g.text_rule (λ at. 0) m (z ++ w) tops [] → ⊥
  beyond z t more tail e r h =
      let P : Tokens → Type 0 = λ y. g.text_rule (λ at. 0) h.1 y h.2 [] in
      let q : z ++ h.0 ≡ x.front ++ (t ∷ more ++ h.0) = rw e (append_assoc x.front (t ∷ more) h.0) in
      refuses x.front x.rest x.refused (t ∷ more ++ h.0) (rw r refl) h.1 h.2 (subst P q h.3)

  unexpected-front : (deep : Bool) (bad : Tokens) → (u : Refusal n ts deep bad) → read_text n ts ≡ Err (Halts deep bad) → Cuts x.front x.rest u.front bad → HaltsAt n length ts false at
  unfolding GoesOnWithin
  unexpected-front false bad u q (at_one e r) = (bad, q, x.place ∙ ap (place_of_rest length) r)
  unexpected-front true [] u q (at_one e r) = absurd u.at_token
  unexpected-front true (t ∷ rest) u q (at_one e r) = absurd (beyond (u.front ++ t ∷ []) t [] rest (rw e refl) r (completed n t.at (u.front ++ t ∷ []) (u.goes t.at refl)))
  unexpected-front false bad u q (earlier t more e r) = absurd (beyond (u.front ++ []) t (more ++ []) (more ++ bad) (rw e (append_assoc x.front (t ∷ more) [])) r (completed n 0 (u.front ++ []) (u.goes 0 tt)))
  unexpected-front true [] u q (earlier t more e r) = absurd u.at_token
  unexpected-front true (v ∷ rest) u q (earlier t more e r) =
      absurd (beyond (u.front ++ v ∷ []) t (more ++ v ∷ []) (more ++ v ∷ rest) (rw e (append_assoc x.front (t ∷ more) (v ∷ []))) r (completed n v.at (u.front ++ v ∷ []) (u.goes v.at refl)))
  unexpected-front deep bad u q (later t more e r) = absurd (passed x.goes_on)
    where
      by : (deep : Bool) → (m k : ℕ) → (other : Tokens) → t.at < at → m ≡ n + k → IsDeep {A = List Top} n (kept_before at k) m (Err (Halts deep (t ∷ other))) → ⊥
      by false m k other l e d = never-deep n (kept_before at k) m (t ∷ other) d
      by true m k other l e d = let j = too-deep-at n (kept_before at k) m t other d in let z = kept-all at k t.at l in omega arith

      passed : GoesOnWithin n at x.front → ⊥
      passed h =
          let P : Tokens → Type 0 = λ y. g.text_rule (kept_before at h.1) (n + h.1) y h.2.tops [] in
          let s : x.front ++ h.0 ≡ u.front ++ (t ∷ more ++ h.0) = rw e (append_assoc u.front (t ∷ more) h.0) in
          let l : t.at < at = rw x.place (rise-before length u.front t more x.rest ts (u.split ∙ ap (λ (y : Tokens). u.front ++ y) r) rise) in
          by deep (n + h.1) h.1 (more ++ h.0) l refl (u.blocked (t ∷ more ++ h.0) (rw r refl) (kept_before at h.1) (n + h.1) h.2.tops (subst P s h.3))

  unexpected-answer : (o : Result Text Halt) → read_text n ts ≡ o → HaltsAt n length ts false at
  unexpected-answer (Ok y) q = absurd (let P : Result Text Halt → Type 0 = λ o. IsRight n 0 ts o in all-spelled x.front x.rest ts x.split x.refused n y.tops (text-spelled n ts y (subst P q (answered n 0 ts))))
  unexpected-answer (Err (Halts deep bad)) q = let u = refusal n ts deep bad q in unexpected-front deep bad u q (cuts x.front x.rest u.front bad (sym x.split ∙ u.split))

pub only-unexpected : IsOnlyUnexpected
only-unexpected n length ts at rise x = unexpected-answer n length ts at rise x (read_text n ts) refl

-- ---- a level too many

module _ (n length : ℕ) (ts : Tokens) (at : ℕ) (rise : Rise length ts) (x : IsTooDeep n ts at) where
  abbrev bad_rest : Tokens
  bad_rest = x.token ∷ x.rest

  -- within so many levels, nothing is spelled that begins so and whose level at the token counts
  counted : (z : Tokens) (k : ℕ) (tops : List Top) → g.text_rule (kept_before (suc at) k) (n + k) (x.front ++ x.token ∷ z) tops [] → ⊥
  unfolding GoesOnWithin
  counted z k tops h = x.too_deep (z, k, record { tops = tops }, rw (reorder x.front x.token z) h)

  -- what goes on beyond the token within n levels
  over : (place : ℕ) (z more : Tokens) → suc at ≤ place → z ≡ x.front ++ x.token ∷ more → Completes g.text_rule n place z → ⊥
  over place z more l e c =
      let zero_at = kept-none (suc at) c.enough place l in
      let h = c.spelled (kept_before (suc at) c.enough) (n + c.enough) (kept-above n (suc at) c.enough) zero_at (omega arith) [] in
      let P : Tokens → Type 0 = λ y. g.text_rule (kept_before (suc at) c.enough) (n + c.enough) y c.value [] in
      let s : (z ++ c.more) ++ [] ≡ x.front ++ (x.token ∷ more ++ c.more) = no-nil (z ++ c.more) ∙ rw e (append_assoc x.front (x.token ∷ more) c.more) in
      counted (more ++ c.more) c.enough c.value (subst P s h)

  -- the reader's front is before the token, with which it can go on
  blocked-by : (deep : Bool) (bad : Tokens) (u : Refusal n ts deep bad) (z : Tokens) (v : Token) → x.front ++ x.token ∷ [] ≡ u.front ++ (v ∷ z) → first bad ≡ Some v → (deep ≡ true → v.at < at) → ⊥
  unfolding GoesOnWithin
  blocked-by deep bad u z v e f l = passed x.goes_on
    where
      by : (deep : Bool) → (deep ≡ true → v.at < at) → (m k : ℕ) → (other : Tokens) → m ≡ n + k → IsDeep {A = List Top} n (kept_before at k) m (Err (Halts deep (v ∷ other))) → ⊥
      by false l m k other e d = never-deep n (kept_before at k) m (v ∷ other) d
      by true l m k other e d = let j = too-deep-at n (kept_before at k) m v other d in let z = kept-all at k v.at (l refl) in omega arith

      passed : GoesOnWithin n at (x.front ++ x.token ∷ []) → ⊥
      passed h =
          let P : Tokens → Type 0 = λ y. g.text_rule (kept_before at h.1) (n + h.1) y h.2.tops [] in
          let s : (x.front ++ x.token ∷ []) ++ h.0 ≡ u.front ++ (v ∷ z ++ h.0) = rw e (append_assoc u.front (v ∷ z) h.0) in
          by deep l (n + h.1) h.1 (z ++ h.0) refl (u.blocked (v ∷ z ++ h.0) (sym f) (kept_before at h.1) (n + h.1) h.2.tops (subst P s h.3))

  deep-front : (deep : Bool) (bad : Tokens) → (u : Refusal n ts deep bad) → read_text n ts ≡ Err (Halts deep bad) → Cuts x.front bad_rest u.front bad → HaltsAt n length ts true at
  deep-front true bad u q (at_one e r) = (bad, q, x.place ∙ ap (place_of_rest length) r)
  deep-front false bad u q (at_one e r) = absurd (blocked-by false bad u [] x.token (ap (λ (y : Tokens). y ++ x.token ∷ []) e) (rw (← r) refl) (λ z. absurd cc))
  deep-front false bad u q (earlier t more e r) =
      let s : x.token ≡ t = cc in
      let P : Token → Type 0 = λ y. u.front ++ [] ≡ x.front ++ y ∷ more in
      absurd (over (suc at) (u.front ++ []) more (omega arith) (subst P (sym s) (no-nil u.front ∙ e)) (u.goes (suc at) tt))
  deep-front true [] u q (earlier t more e r) = absurd u.at_token
  deep-front true (v ∷ rest) u q (earlier t more e r) =
      let s : x.token ≡ t = cc in
      let P : Token → Type 0 = λ y. u.front ++ v ∷ [] ≡ x.front ++ (y ∷ more ++ v ∷ []) in
      let l : t.at < v.at = rise-before length x.front t more (v ∷ rest) ts (x.split ∙ ap (λ (y : Tokens). x.front ++ y) r) rise in
      let k : at ≡ t.at = x.place ∙ ap (λ (y : Token). y.at) s in
      absurd (over v.at (u.front ++ v ∷ []) (more ++ v ∷ []) (omega arith) (subst P (sym s) (rw e (append_assoc x.front (t ∷ more) (v ∷ [])))) (u.goes v.at refl))
  deep-front deep bad u q (later t more e r) =
      let l : t.at < at = rw x.place (rise-before length u.front t more bad_rest ts (u.split ∙ ap (λ (y : Tokens). u.front ++ y) r) rise) in
      absurd (blocked-by deep bad u (more ++ x.token ∷ []) t (rw e (append_assoc u.front (t ∷ more) (x.token ∷ []))) (rw r refl) (λ z. l))

  deep-answer : (o : Result Text Halt) → read_text n ts ≡ o → HaltsAt n length ts true at
  unfolding read_text
  deep-answer (Err (Halts deep bad)) q = let u = refusal n ts deep bad q in deep-front deep bad u q (cuts x.front bad_rest u.front bad (sym x.split ∙ u.split))
  deep-answer (Ok y) q = absurd (go (read_tops n ts) refl q)
    where
      go : (o : Outcome (List Top)) → read_tops n ts ≡ o → whole o ≡ Ok y → ⊥
      go (Err h) p e = cc
      go (Ok (tops, t ∷ rest)) p e = cc
      go (Ok (tops, [])) p e =
          let u = (law n).reads ts tops [] p in
          let P : Tokens → Type 0 = λ z. g.text_rule (kept_before (suc at) 0) (n + 0) z tops [] in
          let s : u.front ++ [] ≡ x.front ++ x.token ∷ x.rest = sym u.split ∙ x.split in
          counted x.rest 0 tops (subst P s (u.spelled (kept_before (suc at) 0) (n + 0) (kept-above n (suc at) 0) []))

pub only-too-deep : IsOnlyTooDeep
only-too-deep n length ts at rise x = deep-answer n length ts at rise x (read_text n ts) refl
