-- No answer but the reader's is right, for any rule and its reader.
use Rattle.std.proofs.Common.{◌≡◌, ◌<◌, ◌≤◌, ◌+◌, ℕ, suc, Bool, true, false, [], ◌∷◌, ◌++◌, Option, Some, None, Result, Ok, Err, refl, sym, ◌∙◌, ap, subst, append_assoc, arith}
use Rattle.smv_core.specs.declared.token.Token.{Token}
use Rattle.smv_core.specs.Notation.{Tokens}
use Rattle.smv_core.specs.Spelling.{kept_before, place_of_rest}
use Rattle.law_grammar.specs.Parsing.{Halt, Halts, Outcome, Parser}
use Rattle.law_grammar.specs.Lawful.{Levels, first, Completes, IsDeep, Law}
use Rattle.law_grammar.specs.Laws.{Rise}
use Rattle.law_grammar.proofs.Whole.{reorder, no-nil, kept-none, kept-all, kept-above}
use Rattle.law_grammar.proofs.Only.{Cuts, at_one, earlier, later, cuts, rise-before}
use Rattle.law_formula_grammar.specs.Spelling.{GoesOnWithinBy, IsRefusedBy, IsUnexpectedBy, IsTooDeepBy}
use Rattle.law_formula_grammar.specs.Readers.{whole}
use Rattle.law_formula_grammar.specs.Laws.{IsRightBy, HaltsBy}
use Rattle.law_formula_grammar.proofs.Whole.{Refusal, refusal, answered, never-deep, too-deep-at}

module _ {A : Type 0} (F : Levels A) (p : ℕ → Parser A) (st : A → Option Token → Bool) (law : (n : ℕ) → Law F n (p n) st) (end : (a : A) → st a None ≡ true) where
  abbrev Halted : ℕ → Tokens → Bool → Tokens → Type 0
  Halted n ts deep bad = Refusal F p st law end n ts deep bad

  abbrev Read : ℕ → Tokens → Result A Halt
  Read n ts = whole (p n ts)

  -- ---- what is refused is not spelled

  -- nothing is spelled that begins so and goes on with the refused token or end
  refuses : (f r : Tokens) → IsRefusedBy F f r → (z : Tokens) → first z ≡ first r → (m : ℕ) (a : A) → F (λ at. 0) m (f ++ z) a [] → ⊥
  refuses f [] k [] same m a h = k m a (rw (← no-nil f) h)
  refuses f [] k (v ∷ z) same m a h = absurd cc
  refuses f (t ∷ r) k [] same m a h = absurd cc
  refuses f (t ∷ r) k (v ∷ z) same m a h =
      let e : v ≡ t = cc in
      let P : Token → Type 0 = λ u. F (λ at. 0) m (f ++ u ∷ z) a [] in
      k (z, m, a, rw (reorder f t z) (subst P e h))

  -- what can go on is spelled, where levels do not count
  completed : (n place : ℕ) (ts : Tokens) → Completes F n place ts → (more : Tokens) × (m : ℕ) × (a : A) × F (λ at. 0) m (ts ++ more) a []
  completed n place ts g = (g.more, n + g.enough, g.value, rw (← no-nil (ts ++ g.more)) (g.spelled (λ at. 0) (n + g.enough) (λ i. omega arith) refl (omega arith) []))

  -- the whole list is spelled
  all-spelled : (f r : Tokens) (ts : Tokens) → ts ≡ f ++ r → IsRefusedBy F f r → (m : ℕ) (a : A) → F (λ at. 0) m ts a [] → ⊥
  all-spelled f r ts e k m a h = let P : Tokens → Type 0 = λ z. F (λ at. 0) m z a [] in refuses f r k r refl m a (subst P e h)

  module _ (n length : ℕ) (ts : Tokens) (at : ℕ) (rise : Rise length ts) (x : IsUnexpectedBy F n length ts at) where
    -- the reader's front goes beyond: it can go on, though it has the refused token
    beyond : (z : Tokens) (t : Token) (more tail : Tokens) → z ≡ x.front ++ t ∷ more → x.rest ≡ t ∷ tail → (w : Tokens) × (m : ℕ) × (a : A) × F (λ at. 0) m (z ++ w) a [] → ⊥
    beyond z t more tail e r h =
        let P : Tokens → Type 0 = λ y. F (λ at. 0) h.1 y h.2 [] in
        let q : z ++ h.0 ≡ x.front ++ (t ∷ more ++ h.0) = rw e (append_assoc x.front (t ∷ more) h.0) in
        refuses x.front x.rest x.refused (t ∷ more ++ h.0) (rw r refl) h.1 h.2 (subst P q h.3)

    unexpected-front : (deep : Bool) (bad : Tokens) → (u : Halted n ts deep bad) → Read n ts ≡ Err (Halts deep bad) → Cuts x.front x.rest u.front bad → HaltsBy Read n length ts false at
    unexpected-front false bad u q (at_one e r) = (bad, q, x.place ∙ ap (place_of_rest length) r)
    unexpected-front true [] u q (at_one e r) = absurd u.at_token
    unexpected-front true (t ∷ rest) u q (at_one e r) = absurd (beyond (u.front ++ t ∷ []) t [] rest (rw e refl) r (completed n t.at (u.front ++ t ∷ []) (u.goes t.at refl)))
    unexpected-front false bad u q (earlier t more e r) = absurd (beyond (u.front ++ []) t (more ++ []) (more ++ bad) (rw e (append_assoc x.front (t ∷ more) [])) r (completed n 0 (u.front ++ []) (u.goes 0 tt)))
    unexpected-front true [] u q (earlier t more e r) = absurd u.at_token
    unexpected-front true (v ∷ rest) u q (earlier t more e r) =
        absurd (beyond (u.front ++ v ∷ []) t (more ++ v ∷ []) (more ++ v ∷ rest) (rw e (append_assoc x.front (t ∷ more) (v ∷ []))) r (completed n v.at (u.front ++ v ∷ []) (u.goes v.at refl)))
    unexpected-front deep bad u q (later t more e r) = absurd (passed x.goes_on)
      where
        by : (deep : Bool) → (m k : ℕ) → (other : Tokens) → t.at < at → m ≡ n + k → IsDeep {A = A} n (kept_before at k) m (Err (Halts deep (t ∷ other))) → ⊥
        by false m k other l e d = never-deep F p st law end n (kept_before at k) m (t ∷ other) d
        by true m k other l e d = let j = too-deep-at F p st law end n (kept_before at k) m t other d in let z = kept-all at k t.at l in omega arith

        passed : GoesOnWithinBy F n at x.front → ⊥
        passed h =
            let P : Tokens → Type 0 = λ y. F (kept_before at h.1) (n + h.1) y h.2 [] in
            let s : x.front ++ h.0 ≡ u.front ++ (t ∷ more ++ h.0) = rw e (append_assoc u.front (t ∷ more) h.0) in
            let l : t.at < at = rw x.place (rise-before length u.front t more x.rest ts (u.split ∙ ap (λ (y : Tokens). u.front ++ y) r) rise) in
            by deep (n + h.1) h.1 (more ++ h.0) l refl (u.blocked (t ∷ more ++ h.0) (rw r refl) (kept_before at h.1) (n + h.1) h.2 (subst P s h.3))

    pub only-unexpected : HaltsBy Read n length ts false at
    only-unexpected = by (Read n ts) refl
      where
        by : (o : Result A Halt) → Read n ts ≡ o → HaltsBy Read n length ts false at
        by (Ok y) q = absurd (let P : Result A Halt → Type 0 = λ o. IsRightBy F n 0 ts o in all-spelled x.front x.rest ts x.split x.refused n y (subst P q (answered F p st law end n 0 ts)))
        by (Err (Halts deep bad)) q = let u = refusal F p st law end n ts deep bad q in unexpected-front deep bad u q (cuts x.front x.rest u.front bad (sym x.split ∙ u.split))

  -- ---- a level too many

  module _ (n length : ℕ) (ts : Tokens) (at : ℕ) (rise : Rise length ts) (x : IsTooDeepBy F n ts at) where
    abbrev bad_rest : Tokens
    bad_rest = x.token ∷ x.rest

    -- within so many levels, nothing is spelled that begins so and whose level at the token counts
    counted : (z : Tokens) (k : ℕ) (a : A) → F (kept_before (suc at) k) (n + k) (x.front ++ x.token ∷ z) a [] → ⊥
    counted z k a h = x.too_deep (z, k, a, rw (reorder x.front x.token z) h)

    -- what goes on beyond the token within n levels
    over : (place : ℕ) (z more : Tokens) → suc at ≤ place → z ≡ x.front ++ x.token ∷ more → Completes F n place z → ⊥
    over place z more l e c =
        let zero_at = kept-none (suc at) c.enough place l in
        let h = c.spelled (kept_before (suc at) c.enough) (n + c.enough) (kept-above n (suc at) c.enough) zero_at (omega arith) [] in
        let P : Tokens → Type 0 = λ y. F (kept_before (suc at) c.enough) (n + c.enough) y c.value [] in
        let s : (z ++ c.more) ++ [] ≡ x.front ++ (x.token ∷ more ++ c.more) = no-nil (z ++ c.more) ∙ rw e (append_assoc x.front (x.token ∷ more) c.more) in
        counted (more ++ c.more) c.enough c.value (subst P s h)

    -- the reader's front is before the token, with which it can go on
    blocked-by : (deep : Bool) (bad : Tokens) (u : Halted n ts deep bad) (z : Tokens) (v : Token) → x.front ++ x.token ∷ [] ≡ u.front ++ (v ∷ z) → first bad ≡ Some v → (deep ≡ true → v.at < at) → ⊥
    blocked-by deep bad u z v e f l = passed x.goes_on
      where
        by : (deep : Bool) → (deep ≡ true → v.at < at) → (m k : ℕ) → (other : Tokens) → m ≡ n + k → IsDeep {A = A} n (kept_before at k) m (Err (Halts deep (v ∷ other))) → ⊥
        by false l m k other e d = never-deep F p st law end n (kept_before at k) m (v ∷ other) d
        by true l m k other e d = let j = too-deep-at F p st law end n (kept_before at k) m v other d in let z = kept-all at k v.at (l refl) in omega arith

        passed : GoesOnWithinBy F n at (x.front ++ x.token ∷ []) → ⊥
        passed h =
            let P : Tokens → Type 0 = λ y. F (kept_before at h.1) (n + h.1) y h.2 [] in
            let s : (x.front ++ x.token ∷ []) ++ h.0 ≡ u.front ++ (v ∷ z ++ h.0) = rw e (append_assoc u.front (v ∷ z) h.0) in
            by deep l (n + h.1) h.1 (z ++ h.0) refl (u.blocked (v ∷ z ++ h.0) (sym f) (kept_before at h.1) (n + h.1) h.2 (subst P s h.3))

    deep-front : (deep : Bool) (bad : Tokens) → (u : Halted n ts deep bad) → Read n ts ≡ Err (Halts deep bad) → Cuts x.front bad_rest u.front bad → HaltsBy Read n length ts true at
    deep-front true bad u q (at_one e r) = (bad, q, x.place ∙ ap (place_of_rest length) r)
    deep-front false bad u q (at_one e r) = absurd (blocked-by false bad u [] x.token (ap (λ (y : Tokens). y ++ x.token ∷ []) e) (rw (← r) refl) (λ z. absurd cc))
    deep-front false bad u q (earlier t more e r) =
        let s : x.token ≡ t = cc in
        let P : Token → Type 0 = λ y. u.front ++ [] ≡ x.front ++ y ∷ more in
        absurd (over (suc at) (u.front ++ []) more (omega arith) (subst P (sym s) (no-nil u.front ∙ e)) (u.goes (suc at) tt))
    deep-front true [] u q (earlier t more e r) = absurd u.at_token
    deep-front true (v ∷ rest) u q (earlier t more e r) =
        let s : x.token ≡ t = cc in
        let P : Token → Type 0 = λ y. u.front ++ v ∷ [] ≡ x.front ++ (y ∷ more ++ v ∷ []) in
        let l : t.at < v.at = rise-before length x.front t more (v ∷ rest) ts (x.split ∙ ap (λ (y : Tokens). x.front ++ y) r) rise in
        let k : at ≡ t.at = x.place ∙ ap (λ (y : Token). y.at) s in
        absurd (over v.at (u.front ++ v ∷ []) (more ++ v ∷ []) (omega arith) (subst P (sym s) (rw e (append_assoc x.front (t ∷ more) (v ∷ [])))) (u.goes v.at refl))
    deep-front deep bad u q (later t more e r) =
        let l : t.at < at = rw x.place (rise-before length u.front t more bad_rest ts (u.split ∙ ap (λ (y : Tokens). u.front ++ y) r) rise) in
        absurd (blocked-by deep bad u (more ++ x.token ∷ []) t (rw e (append_assoc u.front (t ∷ more) (x.token ∷ []))) (rw r refl) (λ z. l))

    -- what is read to the end opens no level too many
    all-counted : (o : Outcome A) → p n ts ≡ o → (y : A) → whole o ≡ Ok y → ⊥
    all-counted (Err h) q y e = cc
    all-counted (Ok (a, t ∷ rest)) q y e = cc
    all-counted (Ok (a, [])) q y e =
        let u = (law n).reads ts a [] q in
        let P : Tokens → Type 0 = λ z. F (kept_before (suc at) 0) (n + 0) z a [] in
        let s : u.front ++ [] ≡ x.front ++ x.token ∷ x.rest = sym u.split ∙ x.split in
        counted x.rest 0 a (subst P s (u.spelled (kept_before (suc at) 0) (n + 0) (kept-above n (suc at) 0) []))

    pub only-too-deep : HaltsBy Read n length ts true at
    only-too-deep = by (Read n ts) refl
      where
        by : (o : Result A Halt) → Read n ts ≡ o → HaltsBy Read n length ts true at
        by (Err (Halts deep bad)) q = let u = refusal F p st law end n ts deep bad q in deep-front deep bad u q (cuts x.front bad_rest u.front bad (sym x.split ∙ u.split))
        by (Ok y) q = absurd (all-counted (p n ts) refl y q)
