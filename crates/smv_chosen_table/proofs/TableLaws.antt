-- The table of definitions, from one family to the next and from one pick to the one before it.
use Rattle.std.proofs.Common.{◌≡◌, ◌≢◌, ℕ, zero, suc, ◌+◌, ◌<◌, ◌≤◌, List, [], ◌∷◌, ◌++◌, length, slice_get, get_or, Option, Some, None, cond, drop, refl, ap, sym, subst, ◌∙◌, ◌⊎◌, inl, inr, Bor, arith}
use Rattle.std.specs.Prelude.{find, option_copied, option_and_then, slice_set, nat_eq}
use Rattle.law_lists.proofs.Numbers.{nat_eq-other, nat_eq-same}
use Rattle.smv_core.specs.declared.flat.Design.{Design}
use Rattle.smv_core.specs.declared.flat.Def.{Def}
use Rattle.smv_core.specs.declared.flat.Claim.{Claim as FlatClaim}
use Rattle.smv_core.specs.declared.flat.Pick.{Pick}
use Rattle.smv_core.specs.declared.flat.Unit.{Unit}
use Rattle.smv_core.specs.declared.flat.Unit.TheVariants.{Map, Claim}
use Rattle.law_obligations.specs.Outlines.{Outline, as_map, as_claim, map_in, said_by, base_of, map_by_pick, map_in_layer}
use Rattle.smv_chosen_table.specs.Tables.{IsTable, AreBaseDefs, AreBaseDefsBut, map_of_unit}

-- ---- base definitions by their families

got-pushed : {X : Type 0} (xs : List X) (x : X) (k : ℕ) (y : X) → slice_get (xs ++ x ∷ []) k ≡ Some y → (slice_get xs k ≡ Some y) ⊎ ((k ≡ length xs) × (x ≡ y))
got-pushed [] x zero y e = inr (refl, cc (e))
got-pushed [] x (suc k) y e = absurd (cc (e))
got-pushed (z ∷ xs) x zero y e = inl e
got-pushed (z ∷ xs) x (suc k) y e = elim (got-pushed xs x k y e) [
  | inl h ↦ inl h
  | inr h ↦ inr (ap suc h.0, h.1)
]

-- one family more
pub base-pushed : (d : Design) (table new : List (Option (Bor Def))) (def : Option (Bor Def)) (family : ℕ) → length table ≡ family → AreBaseDefs d table → option_copied def ≡ base_of d family → new ≡ table ++ def ∷ [] → AreBaseDefs d new
base-pushed d table new def family long are is e k other at = elim (got-pushed table def k other (ap (λ l. slice_get l k) (sym e) ∙ at)) [
  | inl h ↦ are k other h
  | inr h ↦ ap option_copied (sym h.1) ∙ (is ∙ ap (base_of d) (sym (h.0 ∙ long)))
]

pub pushed-long : {X : Type 0} (xs new : List X) (x : X) (k : ℕ) → length xs ≡ k → new ≡ xs ++ x ∷ [] → length new ≡ k + 1
pushed-long xs new x k l e = ap length e ∙ (longer xs ∙ ap (λ n. n + 1) l)
  where
    longer : (ys : List _) → length (ys ++ x ∷ []) ≡ length ys + 1
    longer [] = refl
    longer (y ∷ ys) = let l = longer ys in omega (arith, l)

-- ---- units

pub map-unit : (d : Design) (k : ℕ) → map_of_unit d (Some (Map k)) ≡ slice_get d.defs k
map-unit d k = by (slice_get d.defs k)
  where
    by : (o : Option Def) → map_in (as_map o) ≡ o
    by None = refl
    by (Some def) = refl

pub claim-unit : (d : Design) (k : ℕ) → map_of_unit d (Some (Claim k)) ≡ None
claim-unit d k = by (slice_get d.claims k)
  where
    by : (o : Option FlatClaim) → map_in (as_claim o) ≡ None
    by None = refl
    by (Some claim) = refl

pub said : (o : Outline) (unit : Option Unit) → option_and_then map_in (said_by o unit) ≡ map_of_unit o.design unit
said o None = refl
said o (Some unit) = refl

-- ---- picks

set-got : {X : Type 0} (xs : List X) (k : ℕ) (x : X) (j : ℕ) (y : X) → slice_get (slice_set xs k x) j ≡ Some y → ((j ≡ k) × (y ≡ x)) ⊎ ((j ≢ k) × (slice_get xs j ≡ Some y))
set-got [] k x j y e = absurd (cc (e))
set-got (z ∷ xs) zero x zero y e = inl (refl, cc (e))
set-got (z ∷ xs) zero x (suc j) y e = inr (λ s. absurd (cc (s)), e)
set-got (z ∷ xs) (suc k) x zero y e = inr (λ s. absurd (cc (s)), e)
set-got (z ∷ xs) (suc k) x (suc j) y e = elim (set-got xs k x j y e) [
  | inl h ↦ inl (ap suc h.0, h.1)
  | inr h ↦ inr (λ s. h.0 (cc (s)), h.1)
]

-- one pick in front
picked : (o : Outline) (p : Pick) (more : List Pick) (table new : List (Option (Bor Def))) (def : Option (Bor Def)) → IsTable o more table → option_copied def ≡ map_in_layer o p.family p.layer → new ≡ slice_set table p.family def → IsTable o (p ∷ more) new
picked o p more table new def so is e family other at =
    let rest = find (λ (q : Pick). nat_eq q.family family) more in
    elim (set-got table p.family def family other (ap (λ l. slice_get l family) (sym e) ∙ at)) [
      | inl h ↦ ap option_copied h.1 ∙ (is ∙ sym (ap (λ b. map_by_pick o family (cond b (Some p) rest)) (nat_eq-same p.family family h.0)))
      | inr h ↦ so family other h.1 ∙ sym (ap (λ b. map_by_pick o family (cond b (Some p) rest)) (nat_eq-other p.family family h.0))
    ]

drop-more : (picks : List Pick) (k : ℕ) (d : Pick) → k < length picks → drop k picks ≡ get_or picks k d ∷ drop (suc k) picks
drop-more [] k d l = absurd (omega arith)
drop-more (p ∷ picks) zero d l = refl
drop-more (p ∷ picks) (suc k) d l = drop-more picks k d (omega arith)

drop-all : (picks : List Pick) → drop (length picks) picks ≡ []
drop-all [] = refl
drop-all (p ∷ picks) = drop-all picks

pub before-last : (o : Outline) (picks : List Pick) (k : ℕ) (table : List (Option (Bor Def))) → k ≡ length picks → AreBaseDefs o.design table → IsTable o (drop k picks) table
before-last o picks k table e are = subst (λ (ps : List Pick). IsTable o ps table) (sym (ap (λ n. drop n picks) e ∙ drop-all picks)) are

pub picked-turn : (o : Outline) (picks : List Pick) (k : ℕ) (d : Pick) (table new : List (Option (Bor Def))) (def : Option (Bor Def)) → k < length picks → IsTable o (drop (k + 1) picks) table →
    option_copied def ≡ map_in_layer o (get_or picks k d).family (get_or picks k d).layer → new ≡ slice_set table (get_or picks k d).family def → IsTable o (drop k picks) new
picked-turn o picks k d table new def l so is e =
    let next : k + 1 ≡ suc k = omega arith in
    subst (λ (ps : List Pick). IsTable o ps new) (sym (drop-more picks k d l)) (picked o (get_or picks k d) (drop (suc k) picks) table new def (subst (λ (n : ℕ). IsTable o (drop n picks) table) next so) is e)

-- from the last pick to the first
pub picked-back : (o : Outline) (picks : List Pick) (k j : ℕ) (d : Pick) (table new : List (Option (Bor Def))) (def : Option (Bor Def)) → j + 1 ≡ k → k ≤ length picks → IsTable o (drop k picks) table →
    option_copied def ≡ map_in_layer o (get_or picks j d).family (get_or picks j d).layer → new ≡ slice_set table (get_or picks j d).family def → IsTable o (drop j picks) new
picked-back o picks k j d table new def before l so is e = picked-turn o picks j d table new def (omega (arith, before, l)) (subst (λ (n : ℕ). IsTable o (drop n picks) table) (sym before) so) is e

pub at-first : (o : Outline) (picks : List Pick) (k : ℕ) (table : List (Option (Bor Def))) → k ≤ 0 → IsTable o (drop k picks) table → IsTable o picks table
at-first o picks zero table l so = so
at-first o picks (suc k) table l so = absurd (omega arith)

-- ---- the base definitions put back, pick by pick

pub back-first : (o : Outline) (picks : List Pick) (table : List (Option (Bor Def))) → IsTable o picks table → AreBaseDefsBut o.design picks table
back-first o picks table so family def at none = so family def at ∙ ap (map_by_pick o family) none

put-one : (d : Design) (p : Pick) (more : List Pick) (table new : List (Option (Bor Def))) (def : Option (Bor Def)) → AreBaseDefsBut d (p ∷ more) table → option_copied def ≡ base_of d p.family → new ≡ slice_set table p.family def → AreBaseDefsBut d more new
put-one d p more table new def so is e family other at none =
    elim (set-got table p.family def family other (ap (λ l. slice_get l family) (sym e) ∙ at)) [
      | inl h ↦ ap option_copied h.1 ∙ (is ∙ ap (base_of d) (sym h.0))
      | inr h ↦ so family other h.1 (ap (λ b. cond b (Some p) (find (λ (q : Pick). nat_eq q.family family) more)) (nat_eq-other p.family family h.0) ∙ none)
    ]

pub back-turn : (d : Design) (picks : List Pick) (k : ℕ) (first : Pick) (table new : List (Option (Bor Def))) (def : Option (Bor Def)) → k < length picks → AreBaseDefsBut d (drop k picks) table →
    option_copied def ≡ base_of d (get_or picks k first).family → new ≡ slice_set table (get_or picks k first).family def → AreBaseDefsBut d (drop (k + 1) picks) new
back-turn d picks k first table new def l so is e =
    let next : k + 1 ≡ suc k = omega arith in
    subst (λ (n : ℕ). AreBaseDefsBut d (drop n picks) new) (sym next)
    (put-one d (get_or picks k first) (drop (suc k) picks) table new def (subst (λ (ps : List Pick). AreBaseDefsBut d ps table) (drop-more picks k first l) so) is e)

drop-past : (picks : List Pick) (k : ℕ) → length picks ≤ k → drop k picks ≡ []
drop-past [] zero l = refl
drop-past [] (suc k) l = refl
drop-past (p ∷ picks) zero l = absurd (omega arith)
drop-past (p ∷ picks) (suc k) l = drop-past picks k (omega arith)

pub back-last : (d : Design) (picks : List Pick) (k : ℕ) (table : List (Option (Bor Def))) → length picks ≤ k → AreBaseDefsBut d (drop k picks) table → AreBaseDefs d table
back-last d picks k table l so family def at = so family def at (ap (find (λ (q : Pick). nat_eq q.family family)) (drop-past picks k l))

-- ---- a table for the units, the picks and the table that slices show
pub table-shown : (d : Design) (units all : List Unit) (picks own : List Pick) (items table : List (Option (Bor Def))) → units ≡ all → picks ≡ own → table ≡ items
    → IsTable (record { design = d; units = units }) picks items → IsTable (record { design = d; units = all }) own table
table-shown d units all picks own items table same chosen shown is =
    subst (λ (xs : List (Option (Bor Def))). IsTable (record { design = d; units = all }) own xs) (sym shown)
    (subst (λ (ps : List Pick). IsTable (record { design = d; units = all }) ps items) chosen (subst (λ (us : List Unit). IsTable (record { design = d; units = us }) picks items) same is))
