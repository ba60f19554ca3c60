-- Refs among others, and those of a Rel.
use Rattle.std.proofs.Common.{◌≡◌, ℕ, zero, suc, ◌<◌, ◌⊎◌, inl, inr, List, [], ◌∷◌, ◌++◌, length, get_or, refl, sym, subst, arith}
use Rattle.bdd_store.specs.declared.Ref.{Ref}
use Rattle.bdd_store.specs.Diagram.{Diagram, IsLive, AreLive, ref_at}
use Rattle.smv_rings.specs.declared.Rel.{Rel}
use Rattle.smv_rings.specs.Lists.{refs_of}
use Rattle.smv_rings.specs.Ops.{IsOneOf}

pub one_left : (r : Ref) (xs ys : List Ref) → IsOneOf r xs → IsOneOf r (xs ++ ys)
one_left r [] ys is = absurd is
one_left r (x ∷ xs) ys is = elim is [ inl e ↦ inl e | inr more ↦ inr (one_left r xs ys more) ]

pub one_right : (r : Ref) (xs ys : List Ref) → IsOneOf r ys → IsOneOf r (xs ++ ys)
one_right r [] ys is = is
one_right r (x ∷ xs) ys is = inr (one_right r xs ys is)

pub one_append : (r : Ref) (xs ys : List Ref) → IsOneOf r (xs ++ ys) → IsOneOf r xs ⊎ IsOneOf r ys
one_append r [] ys is = inr is
one_append r (x ∷ xs) ys is = elim is [ inl e ↦ inl (inl e) | inr more ↦ elim (one_append r xs ys more) [ inl h ↦ inl (inr h) | inr h ↦ inr h ] ]

pub one_at : (rs : List Ref) (i : ℕ) (d : Ref) → i < length rs → IsOneOf (get_or rs i d) rs
one_at [] i d lt = absurd (omega arith)
one_at (r ∷ rs) zero d lt = inl refl
one_at (r ∷ rs) (suc i) d lt = inr (one_at rs i d (omega arith))

-- the index of a member
pub place_of : (r : Ref) (rs : List Ref) → IsOneOf r rs → (i : ℕ) × (i < length rs) × (ref_at rs i ≡ r)
place_of r [] one = absurd one
place_of r (q ∷ rs) one = elim one [
  | inl e ↦ (0, omega arith, sym e)
  | inr more ↦ let later = place_of r rs more in (suc later.0, omega (arith, later.1), later.2)
]

pub each_live : (d : Diagram) (rs : List Ref) → AreLive d rs → (r : Ref) → IsOneOf r rs → IsLive d r
each_live d rs live r one = let at = place_of r rs one in subst (IsLive d) at.2 (live at.0 at.1)

pub live_each : (d : Diagram) (rs : List Ref) → ((r : Ref) → IsOneOf r rs → IsLive d r) → AreLive d rs
live_each d rs each i lt = each (ref_at rs i) (one_at rs i (record { place = 0 }) lt)

-- a list of the Rel that is seen as a slice
pub part_live : (d : Diagram) (all part shown : List Ref) → AreLive d all → ((r : Ref) → IsOneOf r part → IsOneOf r all) → shown ≡ part → AreLive d shown
part_live d all part shown live sub e = subst (AreLive d) (sym e) (live_each d part (λ r one. each_live d all live r (sub r one)))

module _ (rel : Rel) (r : Ref) where
  behind_now : IsOneOf r (rel.before_first.items ++ (rel.broken_first ∷ (rel.now_step.items ++ (rel.before_step.items ++ (rel.broken_step ∷ []))))) → IsOneOf r (refs_of rel)
  unfolding refs_of
  behind_now one = one_right r rel.now_first.items _ one

  behind_first : IsOneOf r (rel.now_step.items ++ (rel.before_step.items ++ (rel.broken_step ∷ []))) → IsOneOf r (refs_of rel)
  behind_first one = behind_now (one_right r rel.before_first.items _ (inr one))

  pub in_now_first : IsOneOf r rel.now_first.items → IsOneOf r (refs_of rel)
  unfolding refs_of
  in_now_first one = one_left r rel.now_first.items _ one

  pub in_before_first : IsOneOf r rel.before_first.items → IsOneOf r (refs_of rel)
  in_before_first one = behind_now (one_left r rel.before_first.items _ one)

  pub in_broken_first : r ≡ rel.broken_first → IsOneOf r (refs_of rel)
  in_broken_first e = behind_now (one_right r rel.before_first.items _ (inl e))

  pub in_now_step : IsOneOf r rel.now_step.items → IsOneOf r (refs_of rel)
  in_now_step one = behind_first (one_left r rel.now_step.items _ one)

  pub in_before_step : IsOneOf r rel.before_step.items → IsOneOf r (refs_of rel)
  in_before_step one = behind_first (one_right r rel.now_step.items _ (one_left r rel.before_step.items _ one))

  pub in_broken_step : r ≡ rel.broken_step → IsOneOf r (refs_of rel)
  in_broken_step e = behind_first (one_right r rel.now_step.items _ (one_right r rel.before_step.items _ (inl e)))
