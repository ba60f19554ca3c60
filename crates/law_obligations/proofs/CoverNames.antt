-- Set types by their names and by their numbers.
use Rattle.std.proofs.Common.{◌≡◌, ◌≢◌, ℕ, zero, suc, ◌+◌, List, [], ◌∷◌, map, false, refl, ap, inl, inr, arith, slice_get, Some}
use Rattle.std.specs.Str.{bytes_eq}
use Rattle.std.proofs.lemmas.Slice.Eq.{bytes_eq-Decides}
use Rattle.std.proofs.lemmas.Bool.{cases_Bool}
use Rattle.smv_core.specs.Values.{Name, Sizes}
use Rattle.smv_core.specs.declared.flat.SetInfo.{SetInfo}
use Rattle.law_obligations.specs.Sets.{Has, first, later}
use Rattle.law_obligations.specs.Cases.{Treatment, numbered}
use Rattle.law_obligations.specs.Covers.{by_name, AreApart, AreTreated}
use Rattle.law_obligations.proofs.OneOfEach.{get_Has}

pub apart : (a b : Name) → a ≢ b → bytes_eq a b ≡ false
apart a b n = elim (cases_Bool (bytes_eq a b)) [ inl e ↦ absurd (n ((bytes_eq-Decides a b).0 e)) | inr e ↦ e ]

-- what stands at the place of a set type is what its name finds
pub by_name-at : {X : Type 0} (missing : X) (sets : List SetInfo) (xs : List X) (j : ℕ) (info : SetInfo) (x : X) →
    AreApart sets → slice_get sets j ≡ Some info → slice_get xs j ≡ Some x → by_name missing sets xs info.name ≡ x
by_name-at missing [] xs j info x a e f = absurd (cc)
by_name-at missing (i ∷ sets) [] j info x a e f = absurd (cc)
by_name-at {X} missing (i ∷ sets) (y ∷ xs) zero info x a e f =
    let same_name : i.name ≡ info.name = ap (λ z. z.name) (same_info i info e) in
    rw ((bytes_eq-Decides i.name info.name).1 same_name) (same y x f)
  where
    same : (y x : X) → Some y ≡ Some x → y ≡ x
    same y x e = cc

    same_info : (y x : SetInfo) → Some y ≡ Some x → y ≡ x
    same_info y x e = cc
by_name-at missing (i ∷ sets) (y ∷ xs) (suc j) info x a e f =
    rw (apart i.name info.name (a.0 info (get_Has sets j info e))) (by_name-at missing sets xs j info x a.1 e f)

-- the set types with their numbers, each changed
pub numbered-at : {X : Type 0} (f : ℕ × Treatment → X) (k i j : ℕ) (ts : List Treatment) (t : Treatment) → i ≡ k + j → slice_get ts j ≡ Some t → slice_get (map f (numbered k ts)) j ≡ Some (f (i, t))
numbered-at f k i j [] t e g = absurd (cc)
numbered-at f k i zero (u ∷ ts) t e g = pair k i u t (omega arith) (same u t g)
  where
    same : (y x : Treatment) → Some y ≡ Some x → y ≡ x
    same y x e = cc

    pair : (k i : ℕ) (u t : Treatment) → k ≡ i → u ≡ t → Some (f (k, u)) ≡ Some (f (i, t))
    pair k i u t p q = rw (p, q) refl
numbered-at f k i (suc j) (u ∷ ts) t e g = numbered-at f (k + 1) i j ts t (omega arith) g

pub numbered-Has : (k : ℕ) (ts : List Treatment) (x : ℕ × Treatment) → Has (numbered k ts) x → (j : ℕ) × (x.0 ≡ k + j) × (slice_get ts j ≡ Some x.1)
numbered-Has k [] x h = elim h [ ]
numbered-Has k (t ∷ ts) _ first = (0, omega arith, refl)
numbered-Has k (t ∷ ts) x (later h) = let r = numbered-Has (k + 1) ts x h in (suc r.0, (let e = r.1 in omega (arith, e)), r.2)

-- set types and treatments stand at the same places
pub treatment_at : (sizes : Sizes) (sets : List SetInfo) (ts : List Treatment) (j : ℕ) (info : SetInfo) → AreTreated sizes sets ts → slice_get sets j ≡ Some info → (t : Treatment) × (slice_get ts j ≡ Some t)
treatment_at sizes [] ts j info a e = absurd (cc)
treatment_at sizes (i ∷ sets) [] j info a e = absurd a
treatment_at sizes (i ∷ sets) (t ∷ ts) zero info a e = (t, refl)
treatment_at sizes (i ∷ sets) (t ∷ ts) (suc j) info a e = treatment_at sizes sets ts j info a.1 e

pub set_at : (sizes : Sizes) (sets : List SetInfo) (ts : List Treatment) (j : ℕ) (t : Treatment) → AreTreated sizes sets ts → slice_get ts j ≡ Some t → (info : SetInfo) × (slice_get sets j ≡ Some info)
set_at sizes sets [] j t a e = absurd (cc)
set_at sizes [] (u ∷ ts) j t a e = absurd a
set_at sizes (i ∷ sets) (u ∷ ts) zero t a e = (i, refl)
set_at sizes (i ∷ sets) (u ∷ ts) (suc j) t a e = set_at sizes sets ts j t a.1 e
