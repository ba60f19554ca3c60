-- The last byte of written tokens gives place to LF.
use Rattle.std.proofs.Common.{◌≡◌, ℕ, List, [], ◌∷◌, ◌++◌, refl, ap, sym, ◌∙◌, append_assoc}
use Rattle.std.proofs.lemmas.List.{append-nil, same_from_push}
use Rattle.smv_core.specs.declared.token.TokenKind.{TokenKind}
use Rattle.smv_print.specs.Written.{Kinds, bytes_of, gap, spaced, written, joined}

-- all bytes but the last
abbrev front_of : Kinds → List ℕ
front_of [] = []
front_of (k ∷ []) = bytes_of k
front_of (k ∷ l ∷ more) = bytes_of k ++ gap k ∷ front_of (l ∷ more)

abbrev last_of : TokenKind → Kinds → ℕ
last_of k [] = gap k
last_of k (l ∷ more) = last_of l more

written-front : (k : TokenKind) (ks : Kinds) → written (k ∷ ks) ≡ front_of (k ∷ ks) ++ last_of k ks ∷ []
unfolding spaced
written-front k [] = append-nil _
written-front k (l ∷ more) =
    append_assoc (bytes_of k) (gap k ∷ []) (written (l ∷ more))
    ∙ (ap (λ (xs : List ℕ). bytes_of k ++ gap k ∷ xs) (written-front l more) ∙ sym (append_assoc (bytes_of k) (gap k ∷ front_of (l ∷ more)) (last_of l more ∷ [])))

joined-front : (k : TokenKind) (ks : Kinds) → joined (k ∷ ks) ≡ front_of (k ∷ ks) ++ 10 ∷ []
joined-front k [] = refl
joined-front k (l ∷ more) =
    ap (λ (xs : List ℕ). bytes_of k ++ gap k ∷ xs) (joined-front l more) ∙ sym (append_assoc (bytes_of k) (gap k ∷ front_of (l ∷ more)) (10 ∷ []))

pub joined-none : (ks : Kinds) → written ks ≡ [] → joined ks ≡ []
joined-none [] e = refl
joined-none (k ∷ ks) e = absurd (not_nil (front_of (k ∷ ks)) (last_of k ks) (sym (written-front k ks) ∙ e))
  where
    not_nil : (xs : List ℕ) (b : ℕ) → xs ++ b ∷ [] ≡ [] → ⊥
    not_nil [] b h = cc
    not_nil (x ∷ xs) b h = cc

pub joined-some : (ks : Kinds) (front : List ℕ) (b : ℕ) → written ks ≡ front ++ b ∷ [] → joined ks ≡ front ++ 10 ∷ []
joined-some [] [] b e = absurd cc
joined-some [] (x ∷ front) b e = absurd cc
joined-some (k ∷ ks) front b e =
    joined-front k ks ∙ ap (λ (xs : List ℕ). xs ++ 10 ∷ []) ((same_from_push (front_of (k ∷ ks)) front (last_of k ks) b (sym (written-front k ks) ∙ e)).0)

pub ruleset endings = (joined-none, joined-some)
