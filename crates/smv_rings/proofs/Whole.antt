-- All current variables quantified at once.
use Rattle.std.proofs.Common.{◌≡◌, ℕ, suc, ◌*◌, ◌-◌, ◌<◌, true, inl, inr, List, [], ◌∷◌, ◌++◌, map, refl, sym, ◌∙◌, ap, subst}
use Rattle.bdd_ops.specs.Functions.{Function, some_at, lowered, FreeOf}
use Rattle.smv_rings.specs.Functions.{DependsBelow}
use Rattle.smv_rings.specs.Lists.{State, both, at, AllBelow, all_of}
use Rattle.smv_rings.specs.Schedule.{after, evens}
use Rattle.smv_rings.specs.Schedule.Act.{Out}
use Rattle.smv_rings.proofs.Early.{joined, FreeAll, IsEven, IsEarly, early_sound, early_complete, NoLower, Has, free_after, some_free}
use Rattle.smv_rings.proofs.Turns.{next_agree, after_append, has_evens, evens_even}
use Rattle.smv_rings.proofs.Image.{below_after, halves, down_odd, both_odd}

abbrev pub all_out : ℕ → Function → Function
all_out m p = after p (map Out (evens m))

pub map_append : {A B : Type 0} → (f : A → B) (xs ys : List A) → map f (xs ++ ys) ≡ map f xs ++ map f ys
map_append f [] ys = refl
map_append f (x ∷ xs) ys = ap (λ zs. f x ∷ zs) (map_append f xs ys)

pub out_next : (m : ℕ) (p : Function) → all_out (suc m) p ≡ some_at (2 * m) (all_out m p)
out_next m p = ap (after p) (map_append Out (evens m) (2 * m ∷ [])) ∙ after_append p (map Out (evens m)) (Out (2 * m) ∷ [])

outs_early : (vs : List ℕ) → ((v : ℕ) → Has v vs → IsEven v) → IsEarly [] (map Out vs)
outs_early [] even = tt
outs_early (v ∷ vs) even = (even v (inl refl), subst (FreeAll v) (sym (none vs)) tt, tt, outs_early vs (λ w has. even w (inr has)))
  where
    none : (ws : List ℕ) → joined (map Out ws) ≡ []
    none [] = refl
    none (w ∷ ws) = none ws

outs_none : (vs : List ℕ) → joined (map Out vs) ≡ []
outs_none [] = refl
outs_none (v ∷ vs) = outs_none vs

outs_lower : (vs : List ℕ) → NoLower (map Out vs)
outs_lower [] = tt
outs_lower (v ∷ vs) = outs_lower vs

outs_free : (v : ℕ) (vs : List ℕ) (p : Function) → Has v vs → FreeOf v (after p (map Out vs))
outs_free v [] p has = absurd has
outs_free v (w ∷ vs) p has = elim has [
  | inl e ↦ free_after v (map Out vs) (some_at w p) (outs_lower vs) (subst (λ (u : ℕ). FreeOf v (some_at u p)) e (some_free v p)) (subst (FreeAll v) (sym (outs_none vs)) tt)
  | inr more ↦ outs_free v vs (some_at w p) more
]

pub all_out_free : (m : ℕ) (p : Function) (b : ℕ) → b < m → FreeOf (2 * b) (all_out m p)
all_out_free m p b lt = outs_free (2 * b) (evens m) p (has_evens m b lt)

all_out_below : (m : ℕ) (p : Function) → DependsBelow (2 * m) p → DependsBelow (2 * m) (all_out m p)
all_out_below m p below = below_after (2 * m) (map Out (evens m)) p (outs_lower (evens m)) below (subst (λ fs. AllBelow (2 * m) fs) (sym (outs_none (evens m))) tt)

-- the image of a set of pairs of states
pub out_to : (m : ℕ) (p : Function) (t : State) → lowered (all_out m p) (at t) ≡ true → (s : State) × (p (both s t) ≡ true)
out_to m p t e =
    let found = early_sound [] (map Out (evens m)) p (λ v. at t (v - 1)) (outs_early (evens m) (evens_even m)) e refl in
    let s : State = λ b. found.0 (2 * b) in
    (s, ap p (sym (halves found.0 t (λ v odd. found.1 v odd ∙ down_odd t v odd))) ∙ found.2)

pub out_from : (m : ℕ) (p : Function) → DependsBelow (2 * m) p → (s t : State) → p (both s t) ≡ true → lowered (all_out m p) (at t) ≡ true
out_from m p below s t e =
    next_agree m (all_out m p) (all_out_below m p below) (all_out_free m p) (λ v. at t (v - 1)) (both s t) (λ v odd. down_odd t v odd ∙ sym (both_odd s t v odd))
    ∙ early_complete (map Out (evens m)) p (both s t) (outs_lower (evens m)) e (ap (λ fs. all_of fs (both s t)) (outs_none (evens m)))
