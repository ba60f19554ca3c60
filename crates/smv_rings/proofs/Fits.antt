-- The acts of a turn fit.
use Rattle.std.proofs.Common.{◌≡◌, ℕ, suc, ◌*◌, ◌<◌, Bool, true, false, ◌&&◌, inl, inr, List, [], ◌∷◌, ◌++◌, map, refl, subst, append_assoc}
use Rattle.std.specs.List.{filter}
use Rattle.bdd_store.specs.Diagram.{Diagram}
use Rattle.bdd_ops.specs.Functions.{Function, depends}
use Rattle.smv_rings.specs.Functions.{DependsBelow}
use Rattle.smv_rings.specs.Lists.{Lists, IsLists}
use Rattle.smv_rings.specs.Schedule.{Act, left_by, after, reads_none, evens, vars, outs, joins, unread, forth, back, turn}
use Rattle.smv_rings.specs.Schedule.Act.{Join, Out, Look_at, Lower}
use Rattle.smv_rings.specs.declared.ops.Op.{Op}
use Rattle.smv_rings.specs.declared.ops.Op.TheVariants.{And, Exists, Look, Rename}
use Rattle.smv_rings.specs.Ops.{act_of, acts_of, FitsActs}
use Rattle.smv_rings.proofs.Early.{Has}
use Rattle.smv_rings.proofs.Image.{turn_free}
use Rattle.smv_rings.proofs.Plans.{evens_below}

-- no renaming, and no variable from n on is quantified
abbrev Plain : ℕ → List Act → Type 0
Plain n [] = Unit {0}
Plain n (Join f ∷ acts) = Plain n acts
Plain n (Out v ∷ acts) = (v < n) × Plain n acts
Plain n (Look_at k f ∷ acts) = Plain n acts
Plain n (Lower ∷ acts) = ⊥

plain_append : (n : ℕ) (xs ys : List Act) → Plain n xs → Plain n ys → Plain n (xs ++ ys)
plain_append n [] ys plain more = more
plain_append n (Join f ∷ xs) ys plain more = plain_append n xs ys plain more
plain_append n (Out v ∷ xs) ys plain more = (plain.0, plain_append n xs ys plain.1 more)
plain_append n (Look_at k f ∷ xs) ys plain more = plain_append n xs ys plain more
plain_append n (Lower ∷ xs) ys plain more = absurd plain

plain_outs : (n : ℕ) (t : ℕ → Bool) (vs : List ℕ) → ((v : ℕ) → Has v vs → v < n) → Plain n (map Out (filter t vs))
plain_outs n t [] below = tt
plain_outs n t (v ∷ vs) below = by_test (t v) refl (plain_outs n t vs (λ w has. below w (inr has)))
  where
    by_test : (x : Bool) → t v ≡ x → Plain n (map Out (filter t vs)) → Plain n (map Out (filter t (v ∷ vs)))
    by_test true e plain = rw e (below v (inl refl), plain)
    by_test false e plain = rw e plain

plain_of : (l : Lists) (f : Function) (later : List Function) → Plain (2 * l.bits) (outs l f later)
plain_of l f later = plain_outs (2 * l.bits) (λ v. depends (vars l) f v && reads_none (vars l) later v) (evens l.bits) (evens_below l.bits)

plain_joins : (l : Lists) (fs later : List Function) → Plain (2 * l.bits) (joins l fs later)
plain_joins l [] later = tt
plain_joins l (f ∷ fs) later = plain_append (2 * l.bits) (outs l f (fs ++ later)) (joins l fs later) (plain_of l f (fs ++ later)) (plain_joins l fs later)

fits_then : (n : ℕ) (p : Function) (xs ys : List Act) → Plain n xs → FitsActs n (after p xs) ys → FitsActs n p (xs ++ ys)
fits_then n p [] ys plain fits = fits
fits_then n p (Join f ∷ xs) ys plain fits = (tt, fits_then n (left_by (Join f) p) xs ys plain fits)
fits_then n p (Out v ∷ xs) ys plain fits = (plain.0, fits_then n (left_by (Out v) p) xs ys plain.1 fits)
fits_then n p (Look_at k f ∷ xs) ys plain fits = (tt, fits_then n p xs ys plain fits)
fits_then n p (Lower ∷ xs) ys plain fits = absurd plain

module _ (l : Lists) (ok : IsLists l) where
  pub turn_fits : (p : Function) (k : ℕ) → DependsBelow (2 * l.bits) p → FitsActs (2 * l.bits) p (turn l k)
  turn_fits p k below =
      fits_then (2 * l.bits) p (forth l) (Look_at (suc k) l.broken_step ∷ back l) plain_forth (
        tt,
        subst (FitsActs (2 * l.bits) (after p (forth l))) (append_assoc (outs l l.broken_step l.before_step) (joins l l.before_step []) (Lower ∷ []))
            (fits_then (2 * l.bits) (after p (forth l)) (outs l l.broken_step l.before_step ++ joins l l.before_step []) (Lower ∷ []) plain_back (turn_free l ok p below, tt)),
      )
    where
      plain_forth : Plain (2 * l.bits) (forth l)
      plain_forth = plain_append (2 * l.bits) (unread l) (joins l l.now_step (l.broken_step ∷ l.before_step)) (plain_outs (2 * l.bits) (reads_none (vars l) (l.now_step ++ (l.broken_step ∷ l.before_step))) (evens l.bits) (evens_below l.bits)) (plain_joins l l.now_step (l.broken_step ∷ l.before_step))

      plain_back : Plain (2 * l.bits) (outs l l.broken_step l.before_step ++ joins l l.before_step [])
      plain_back = plain_append (2 * l.bits) (outs l l.broken_step l.before_step) (joins l l.before_step []) (plain_of l l.broken_step l.before_step) (plain_joins l l.before_step [])

-- whatever path a look is for
pub fits_any : (d : Diagram) (n i j : ℕ) (p : Function) (ops : List Op) → FitsActs n p (acts_of d i ops) → FitsActs n p (acts_of d j ops)
fits_any d n i j p [] fits = tt
fits_any d n i j p (And f ∷ ops) fits = (tt, fits_any d n i j (left_by (act_of d i (And f)) p) ops fits.1)
fits_any d n i j p (Exists v ∷ ops) fits = (fits.0, fits_any d n i j (left_by (Out v) p) ops fits.1)
fits_any d n i j p (Look f ∷ ops) fits = (tt, fits_any d n i j p ops fits.1)
fits_any d n i j p (Rename ∷ ops) fits = (fits.0, fits_any d n i j (left_by Lower p) ops fits.1)
