-- What a parser reads is all that is spelled.
use Rattle.std.proofs.Common.{◌≡◌, ℕ, ◌≤◌, max, Bool, true, [], Option, None, Ok, ◌⊎◌, inl, inr, sym, subst, arith}
use Rattle.std.proofs.Math.Nat.{le-max_left, le-max_right}
use Rattle.smv_core.specs.declared.token.Token.{Token}
use Rattle.smv_core.specs.Notation.{Tokens}
use Rattle.law_grammar.specs.Parsing.{Parser}
use Rattle.law_grammar.specs.Lawful.{Levels, Law, IsDeep, Reads}
use Rattle.law_grammar.proofs.Lists.{same_ok}

module _ {A : Type 0} (F : Levels A) (p : ℕ → Parser A) (st : A → Option Token → Bool) (law : (n : ℕ) → Law F n (p n) st) (end : (a : A) → st a None ≡ true) where
  -- with as many levels as the rule has, it is read
  pub all-read : (n m : ℕ) (ts : Tokens) (a : A) → m ≤ n → F (λ at. 0) m ts a [] → p n ts ≡ Ok (a, [])
  all-read n m ts a le h = go ((law n).complete (λ at. 0) m ts a [] h (end a))
    where
      go : (p n ts ≡ Ok (a, [])) ⊎ IsDeep n (λ at. 0) m (p n ts) → p n ts ≡ Ok (a, [])
      go (inl e) = e
      go (inr d) = absurd (let l = d.forbidden in omega arith)

  pub is-spelled : (n : ℕ) (ts : Tokens) (a : A) → p n ts ≡ Ok (a, []) → F (λ at. 0) n ts a []
  is-spelled n ts a e = by ((law n).reads ts a [] e)
    where
      by : Reads F n (p n) ts a [] → F (λ at. 0) n ts a []
      by u =
          let P : Tokens → Type 0 = λ z. F (λ at. 0) n z a [] in
          subst P (sym u.split) (u.spelled (λ at. 0) n (λ i. omega arith) [])

  pub at-most-one : (n m : ℕ) (ts : Tokens) (a b : A) → F (λ at. 0) n ts a [] → F (λ at. 0) m ts b [] → a ≡ b
  at-most-one n m ts a b x y =
      let l = le-max_left n m in
      let r = le-max_right n m in
      (same_ok a b [] [] (p (max n m) ts) (all-read (max n m) n ts a (omega arith) x) (all-read (max n m) m ts b (omega arith) y)).0

  -- what is read otherwise is not spelled
  pub none-spelled : (n m : ℕ) (ts : Tokens) → m ≤ n → ((a : A) → p n ts ≡ Ok (a, []) → ⊥) → (a : A) → F (λ at. 0) m ts a [] → ⊥
  none-spelled n m ts le k a h = k a (all-read n m ts a le h)
