-- Facts on lists of tokens and on outcomes.
use Rattle.std.proofs.Common.{◌≡◌, Bool, [], ◌∷◌, ◌++◌, Ok, refl, ap, append_assoc}
use Rattle.smv_core.specs.declared.token.Token.{Token}
use Rattle.smv_core.specs.Notation.{Tokens}
use Rattle.law_grammar.specs.Parsing.{Outcome, starts}
use Rattle.law_grammar.specs.Lawful.{first}

pub same_ok : {A : Type 0} (a b : A) (r s : Tokens) (o : Outcome A) → o ≡ Ok (a, r) → o ≡ Ok (b, s) → (a ≡ b) × (r ≡ s)
same_ok {A} a b r s o e e' =
    let h : (a, r) ≡ (b, s) = cc in
    (let f : A × Tokens → A = λ p. p.0 in ap f h, let f : A × Tokens → Tokens = λ p. p.1 in ap f h)

-- what comes first does not depend on what comes later
pub first-append : (xs ys zs : Tokens) → first ys ≡ first zs → first (xs ++ ys) ≡ first (xs ++ zs)
first-append [] ys zs e = e
first-append (x ∷ xs) ys zs e = refl

pub starts-same : (test : Token → Bool) (xs ys : Tokens) → first xs ≡ first ys → starts test xs ≡ starts test ys
starts-same test [] [] e = refl
starts-same test [] (y ∷ ys) e = cc
starts-same test (x ∷ xs) [] e = cc
starts-same test (x ∷ xs) (y ∷ ys) e = let h : x ≡ y = cc in ap test h

pub regroup : (a b c d e : Tokens) → (((a ++ b) ++ c) ++ d) ++ e ≡ a ++ (((b ++ c) ++ d) ++ e)
regroup a b c d e = simp append_assoc

pub regroup-end : (a b c d : Tokens) → (a ++ (b ++ c)) ++ d ≡ (a ++ b) ++ (c ++ d)
regroup-end a b c d = simp append_assoc
