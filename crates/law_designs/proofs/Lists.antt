-- Names in lists of names.
use Rattle.std.proofs.Common.{◌≡◌, suc, ◌<◌, ◌≤◌, List, [], ◌∷◌, ◌++◌, length, Bool, true, false, cond, ◌⊎◌, inl, inr, refl, ap, sym, subst, ◌∙◌, arith}
use Rattle.std.specs.Prelude.{not}
use Rattle.std.specs.List.{filter, list_any}
use Rattle.std.specs.Str.{bytes_eq}
use Rattle.std.proofs.lemmas.Slice.Eq.{bytes_eq-Decides}
use Rattle.std.proofs.lemmas.Bool.{or_left, or_right, or_cases}
use Rattle.smv_core.specs.Values.{Name}

pub bytes_eq-is : (a b : Name) → bytes_eq a b ≡ true → a ≡ b
bytes_eq-is a b e = (bytes_eq-Decides a b).0 e

pub bytes_eq-refl : (a : Name) → bytes_eq a a ≡ true
bytes_eq-refl a = (bytes_eq-Decides a a).1 refl

-- the name is one of these
abbrev pub IsAmong : Name → List Name → Type 0
IsAmong q [] = ⊥
IsAmong q (x ∷ xs) = (x ≡ q) ⊎ IsAmong q xs

pub among-front : (q : Name) (xs ys : List Name) → IsAmong q xs → IsAmong q (xs ++ ys)
among-front q [] ys h = absurd h
among-front q (x ∷ xs) ys (inl e) = inl e
among-front q (x ∷ xs) ys (inr h) = inr (among-front q xs ys h)

pub among-behind : (q : Name) (xs ys : List Name) → IsAmong q ys → IsAmong q (xs ++ ys)
among-behind q [] ys h = h
among-behind q (x ∷ xs) ys h = inr (among-behind q xs ys h)

-- one of these passes the test
pub any-of : (p : Name → Bool) (q : Name) (xs : List Name) → IsAmong q xs → p q ≡ true → list_any p xs ≡ true
any-of p q [] h e = absurd h
any-of p q (x ∷ xs) (inl same) e = or_left (p x) (list_any p xs) (ap p same ∙ e)
any-of p q (x ∷ xs) (inr h) e = or_right (p x) (list_any p xs) (any-of p q xs h e)

pub of-any : (p : Name → Bool) (xs : List Name) → list_any p xs ≡ true → (q : Name) × IsAmong q xs × (p q ≡ true)
of-any p [] e = absurd (cc (e))
of-any p (x ∷ xs) e = by (or_cases (p x) (list_any p xs) e) (of-any p xs)
  where
    by : (p x ≡ true) ⊎ (list_any p xs ≡ true) → (list_any p xs ≡ true → (q : Name) × IsAmong q xs × (p q ≡ true)) → (q : Name) × IsAmong q (x ∷ xs) × (p q ≡ true)
    by (inl h) rest = (x, inl refl, h)
    by (inr h) rest = let found = rest h in (found.0, inr found.1, found.2)

-- these without a name
abbrev pub without : Name → List Name → List Name
without q xs = filter (λ x. not (bytes_eq x q)) xs

without-at-most : (q : Name) (xs : List Name) → length (without q xs) ≤ length xs
without-at-most q [] = omega arith
without-at-most q (x ∷ xs) = by (bytes_eq x q) (without-at-most q xs)
  where
    by : (b : Bool) → length (without q xs) ≤ length xs → length (cond (not b) (x ∷ without q xs) (without q xs)) ≤ suc (length xs)
    by true rest = omega arith
    by false rest = omega arith

pub without-fewer : (q : Name) (xs : List Name) → IsAmong q xs → length (without q xs) < length xs
without-fewer q [] h = absurd h
without-fewer q (x ∷ xs) (inl same) = subst (λ b. length (cond (not b) (x ∷ without q xs) (without q xs)) < suc (length xs)) (sym (subst (λ y. bytes_eq y q ≡ true) (sym same) (bytes_eq-refl q))) (omega (arith, without-at-most q xs))
without-fewer q (x ∷ xs) (inr h) = by (bytes_eq x q) (without-fewer q xs h)
  where
    by : (b : Bool) → length (without q xs) < length xs → length (cond (not b) (x ∷ without q xs) (without q xs)) < suc (length xs)
    by true rest = omega arith
    by false rest = omega arith

-- what is among them is the name, or is left
pub among-without : (q r : Name) (xs : List Name) → IsAmong r xs → (r ≡ q) ⊎ IsAmong r (without q xs)
among-without q r [] h = absurd h
among-without q r (x ∷ xs) (inl same) = by (bytes_eq x q) refl
  where
    by : (b : Bool) → bytes_eq x q ≡ b → (r ≡ q) ⊎ IsAmong r (cond (not b) (x ∷ without q xs) (without q xs))
    by true e = inl (sym same ∙ bytes_eq-is x q e)
    by false e = inr (inl same)
among-without q r (x ∷ xs) (inr h) = by (bytes_eq x q) (among-without q r xs h)
  where
    by : (b : Bool) → (r ≡ q) ⊎ IsAmong r (without q xs) → (r ≡ q) ⊎ IsAmong r (cond (not b) (x ∷ without q xs) (without q xs))
    by b (inl e) = inl e
    by true (inr k) = inr k
    by false (inr k) = inr (inr k)
