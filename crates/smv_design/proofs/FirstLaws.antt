-- The first assignments stay right where one more assignment is noted.
use Rattle.std.proofs.Common.{◌≡◌, List, [], ◌∷◌, ◌++◌, map, filter, Bool, true, false, not, cond, nat_eq, ◌&&◌, ◌||◌, subst, refl, sym, ap, ◌∙◌}
use Rattle.std.specs.List.{list_any}
use Rattle.std.specs.HashSet.{HashSet}
use Rattle.std.proofs.lemmas.List.{map-append}
use Rattle.std.proofs.lemmas.List.Folds.{list_any-append}
use Rattle.law_designs.specs.Flattening.{different}
use Rattle.law_designs.specs.Definitions.{Head, same_definition}
use Rattle.smv_design.specs.declared.heads.Noted.{Noted}
use Rattle.smv_design.specs.declared.owners.Owner.{Owner}
use Rattle.smv_design.specs.declared.firsts.Gathered.{Gathered}
use Rattle.smv_design.specs.Acts.{head_of}
use Rattle.smv_design.specs.Groups.{same_owner}
use Rattle.smv_design.specs.Firsts.{has, owns, IsGathered}
use Rattle.smv_design.specs.Definitions.{owner_of, AreApart}
use Rattle.smv_design.proofs.OwnerLaws.{one-layer, owners-turned}

-- ---- the first of each definition

module _ {X : Type 0} (same : X → X → Bool) where
  filter-end : (p : X → Bool) (xs ys : List X) → filter p (xs ++ ys) ≡ filter p xs ++ filter p ys
  filter-end p [] ys = refl
  filter-end p (x ∷ xs) ys = by (p x) (filter-end p xs ys)
    where
      by : (b : Bool) → filter p (xs ++ ys) ≡ filter p xs ++ filter p ys → cond b (x ∷ filter p (xs ++ ys)) (filter p (xs ++ ys)) ≡ cond b (x ∷ filter p xs) (filter p xs) ++ filter p ys
      by true rest = ap (λ l. x ∷ l) rest
      by false rest = rest

  -- an element behind a list is one of the different ones unless it is in the list
  pub different-end : (xs : List X) (x : X) → different same (xs ++ x ∷ []) ≡ different same xs ++ cond (list_any (λ y. same y x) xs) [] (x ∷ [])
  different-end [] x = refl
  different-end (y ∷ xs) x =
      ap (λ l. y ∷ filter (λ z. not (same y z)) l) (different-end xs x) ∙ ap (λ l. y ∷ l) (filter-end (λ z. not (same y z)) (different same xs) _ ∙ ap (λ l. filter (λ z. not (same y z)) (different same xs) ++ l) (by (same y x) refl (list_any (λ z. same z x) xs)))
    where
      by : (b : Bool) → same y x ≡ b → (c : Bool) → filter (λ z. not (same y z)) (cond c [] (x ∷ [])) ≡ cond (b || c) [] (x ∷ [])
      by true e true = refl
      by true e false = rw e refl
      by false e true = refl
      by false e false = rw e refl

-- ---- one more assignment

owns-same : (owner : Owner) (h : Noted) → same_owner owner (owner_of h) ≡ owns owner (head_of h)
owns-same owner h = owners-turned owner (owner_of h) ∙ ap (λ b. b && nat_eq h.family owner.family) (one-layer h.layer owner.layer)

not-cond : {X : Type 0} (b : Bool) (x y : X) → cond b x y ≡ cond (not b) y x
not-cond true x y = refl
not-cond false x y = refl

-- the owners, where one is noted
met-more : (owner : Owner) (met : List Head) (h : Noted) (before after : Bool) → before ≡ list_any (owns owner) met → after ≡ cond (same_owner (owner_of h) owner) true before → after ≡ list_any (owns owner) (met ++ head_of h ∷ [])
met-more owner met h before after old new =
    new ∙ ap (λ b. cond b true before) (owners-turned (owner_of h) owner ∙ owns-same owner h) ∙ by (owns owner (head_of h)) before ∙ ap (λ b. b || (owns owner (head_of h) || false)) old ∙ sym (list_any-append (owns owner) met (head_of h ∷ []))
  where
    by : (b c : Bool) → cond b true c ≡ (c || (b || false))
    by true true = refl
    by true false = refl
    by false true = refl
    by false false = refl

pub one-more : {S : Type 0} (g : Gathered) (owners' : HashSet Owner S) (heads' : List Noted) (met : List Head) (h : Noted) (is_first : Bool) → is_first ≡ not (has g.owners (owner_of h))
    → ((other : Owner) → has owners' other ≡ cond (same_owner (owner_of h) other) true (has g.owners other))
    → heads' ≡ g.heads.items ++ cond is_first (h ∷ []) [] → IsGathered g met
    → (map head_of heads' ≡ different same_definition (met ++ head_of h ∷ [])) × ((owner : Owner) → has owners' owner ≡ list_any (owns owner) (met ++ head_of h ∷ []))
one-more g owners' heads' met h is_first first owners heads gathered = (
  ap (map head_of) heads ∙ map-append head_of g.heads.items _ ∙ ap (λ l. l ++ map head_of (cond is_first (h ∷ []) [])) gathered.0
      ∙ ap (λ l. different same_definition met ++ l) (mapped is_first ∙ ap (λ b. cond b (head_of h ∷ []) []) (first ∙ ap not (gathered.1 (owner_of h))))
      ∙ ap (λ l. different same_definition met ++ l) (sym (not-cond (list_any (λ g. same_definition g (head_of h)) met) [] (head_of h ∷ [])))
      ∙ sym (different-end same_definition met (head_of h)),
  λ other. met-more other met h (has g.owners other) (has owners' other) (gathered.1 other) (owners other),
)
  where
    mapped : (b : Bool) → map head_of (cond b (h ∷ []) []) ≡ cond b (head_of h ∷ []) []
    mapped true = refl
    mapped false = refl

pub none-gathered : (g : Gathered) → g.heads.items ≡ [] → g.owners.keys ≡ [] → IsGathered g []
none-gathered g heads owners = (ap (map head_of) heads, λ owner. rw owners refl)

-- ---- they are apart

module _ (same : Head → Head → Bool) where
  abbrev Apart : List Head → Type 0
  Apart [] = Unit {0}
  Apart (h ∷ hs) = (list_any (same h) hs ≡ false) × Apart hs

  either-false : (a b : Bool) → (a || b) ≡ false → (a ≡ false) × (b ≡ false)
  either-false true b e = absurd (cc)
  either-false false b e = (refl, e)

  none-filtered : (p q : Head → Bool) (hs : List Head) → list_any p hs ≡ false → list_any p (filter q hs) ≡ false
  none-filtered p q [] e = refl
  none-filtered p q (h ∷ hs) e = by (q h) (either-false (p h) (list_any p hs) e).0 (none-filtered p q hs (either-false (p h) (list_any p hs) e).1)
    where
      by : (b : Bool) → p h ≡ false → list_any p (filter q hs) ≡ false → list_any p (cond b (h ∷ filter q hs) (filter q hs)) ≡ false
      by true here rest = ap (λ a. a || list_any p (filter q hs)) here ∙ rest
      by false here rest = rest

  none-left : (h : Head) (hs : List Head) → list_any (same h) (filter (λ y. not (same h y)) hs) ≡ false
  none-left h [] = refl
  none-left h (x ∷ xs) = by (same h x) refl (none-left h xs)
    where
      by : (b : Bool) → same h x ≡ b → list_any (same h) (filter (λ y. not (same h y)) xs) ≡ false → list_any (same h) (cond (not b) (x ∷ filter (λ y. not (same h y)) xs) (filter (λ y. not (same h y)) xs)) ≡ false
      by true e rest = rest
      by false e rest = ap (λ a. a || list_any (same h) (filter (λ y. not (same h y)) xs)) e ∙ rest

  apart-filtered : (q : Head → Bool) (hs : List Head) → Apart hs → Apart (filter q hs)
  apart-filtered q [] apart = tt
  apart-filtered q (h ∷ hs) apart = by (q h) (apart-filtered q hs apart.1)
    where
      by : (b : Bool) → Apart (filter q hs) → Apart (cond b (h ∷ filter q hs) (filter q hs))
      by true rest = (none-filtered (same h) q hs apart.0, rest)
      by false rest = rest

  different-apart : (hs : List Head) → Apart (different same hs)
  different-apart [] = tt
  different-apart (h ∷ hs) = (none-left h (different same hs), apart-filtered (λ y. not (same h y)) (different same hs) (different-apart hs))

are-apart : (heads : List Noted) → Apart same_definition (map head_of heads) → AreApart heads
are-apart [] apart = tt
are-apart (h ∷ heads) apart = (apart.0, are-apart heads apart.1)

-- the first assignments are apart
pub firsts-apart : (heads : List Noted) (met : List Head) → map head_of heads ≡ different same_definition met → AreApart heads
firsts-apart heads met e = are-apart heads (subst (Apart same_definition) (sym e) (different-apart same_definition met))
