-- Where classes lie, place by place.
use Rattle.std.proofs.Common.{◌≡◌, ℕ, zero, suc, ◌+◌, ◌<◌, ◌≤◌, List, [], ◌∷◌, ◌++◌, length, drop, get_or, refl, sym, ap, ◌∙◌, ◌⊎◌, inl, inr, arith}
use Rattle.law_lists.proofs.Lists.{append_again}
use Rattle.smv_core.specs.declared.flat.Simple.{Simple}
use Rattle.smv_core.specs.declared.flat.Class.{Class}
use Rattle.smv_spots.specs.declared.spots.Spot.{Spot}
use Rattle.smv_reads.specs.Views.{spot_in}
use Rattle.smv_cone.specs.Parts.{spots_in}

one-spot : (over : List Simple) (classes : List Class) (k : ℕ) (t : Simple) (c : Class) → k < length over → k < length classes → spots_in (drop k over) (drop k classes) ≡ spot_in (get_or over k t) (get_or classes k c) ∷ spots_in (drop (suc k) over) (drop (suc k) classes)
one-spot [] classes k t c l m = absurd (omega arith)
one-spot (u ∷ over) [] k t c l m = absurd (omega arith)
one-spot (u ∷ over) (d ∷ classes) zero t c l m = refl
one-spot (u ∷ over) (d ∷ classes) (suc k) t c l m = one-spot over classes k t c (omega arith) (omega arith)

pub spots-kept : (over : List Simple) (classes : List Class) (k : ℕ) (t : Simple) (c : Class) (done new all : List Spot) → k < length over → k < length classes → new ≡ done ++ spot_in (get_or over k t) (get_or classes k c) ∷ [] →
    done ++ spots_in (drop k over) (drop k classes) ≡ all → new ++ spots_in (drop (k + 1) over) (drop (k + 1) classes) ≡ all
spots-kept over classes k t c done new all l m e h =
    let next : k + 1 ≡ suc k = omega arith in
    let rest = spots_in (drop (suc k) over) (drop (suc k) classes) in
    ap (λ (n : ℕ). new ++ spots_in (drop n over) (drop n classes)) next
    ∙ (ap (λ (ss : List Spot). ss ++ rest) e
    ∙ (append_again done rest (spot_in (get_or over k t) (get_or classes k c))
    ∙ (ap (λ (ss : List Spot). done ++ ss) (sym (one-spot over classes k t c l m)) ∙ h)))

no-spot : (over : List Simple) (classes : List Class) (k : ℕ) → length over ≤ k → spots_in (drop k over) (drop k classes) ≡ []
no-spot [] classes zero l = refl
no-spot [] classes (suc k) l = refl
no-spot (t ∷ over) classes zero l = absurd (omega arith)
no-spot (t ∷ over) [] (suc k) l = nothing (drop k over)
  where
    nothing : (ts : List Simple) → spots_in ts [] ≡ []
    nothing [] = refl
    nothing (t ∷ ts) = refl
no-spot (t ∷ over) (c ∷ classes) (suc k) l = no-spot over classes k (omega arith)

no-class : (over : List Simple) (classes : List Class) (k : ℕ) → length classes ≤ k → spots_in (drop k over) (drop k classes) ≡ []
no-class over [] k l = nothing (drop k over) k
  where
    nothing : (ts : List Simple) (k : ℕ) → spots_in ts (drop k []) ≡ []
    nothing [] k = refl
    nothing (t ∷ ts) zero = refl
    nothing (t ∷ ts) (suc k) = refl
no-class over (c ∷ classes) zero l = absurd (omega arith)
no-class [] (c ∷ classes) (suc k) l = refl
no-class (t ∷ over) (c ∷ classes) (suc k) l = no-class over classes k (omega arith)

nothing-behind : (ss : List Spot) → ss ++ [] ≡ ss
nothing-behind [] = refl
nothing-behind (s ∷ ss) = ap (λ rs. s ∷ rs) (nothing-behind ss)

pub spots-over : (over : List Simple) (classes : List Class) (k m : ℕ) (done all : List Spot) → m ≤ k → (m ≡ length over) ⊎ (m ≡ length classes) → done ++ spots_in (drop k over) (drop k classes) ≡ all → done ≡ all
spots-over over classes k m done all l (inl e) h = sym (ap (λ (ss : List Spot). done ++ ss) (no-spot over classes k (omega (arith, l, e))) ∙ nothing-behind done) ∙ h
spots-over over classes k m done all l (inr e) h = sym (ap (λ (ss : List Spot). done ++ ss) (no-class over classes k (omega (arith, l, e))) ∙ nothing-behind done) ∙ h
