-- Assignments that share their variables, and parts of the list between which none clash.
use Rattle.std.proofs.Common.{◌≡◌, ◌≤◌, ◌<◌, ℕ, zero, suc, Bor, ◌+◌, ◌-◌, List, [], ◌∷◌, ◌++◌, map, filter, length, get_or, take, drop, Bool, true, false, not, cond, ◌&&◌, ◌||◌, refl, ap, sym, ◌∙◌, arith, subst, ◌⊎◌, inl, inr}
use Rattle.std.specs.Prelude.{Option, Some, slice_get, nat_eq}
use Rattle.std.specs.List.{list_all, Contains}
use Rattle.std.specs.HashMap.{HashMap}
use Rattle.std.specs.Global.{Vec}
use Rattle.std.proofs.lemmas.Bool.{cases_eq, eqb-true}
use Rattle.std.proofs.lemmas.Option.{slice_get_within, get_or_from_slice_get}
use Rattle.std.proofs.lemmas.List.Elements.{All-nil, All-cons, All-append, All-weaker, All-get_or, All-contains, Contains-append_right, Contains-get_or}
use Rattle.law_lists.proofs.Booleans.{left_of, right_of}
use Rattle.smv_core.specs.Assignments.{Index, fixed, bare, computed}
use Rattle.smv_core.specs.Conflicts.{are_both}
use Rattle.smv_core.specs.FlatMeaning.{flat_index}
use Rattle.smv_core.specs.declared.flat.FlatExpr.{FlatExpr}
use Rattle.smv_core.specs.declared.flat.FlatStmt.{FlatStmt, Assign, If', Block', Default', Forall', Row_of-FlatStmt, end_of-FlatStmt, more_of-FlatStmt}
use Rattle.law_designs.specs.Standing.{Standing, standing, standing_in}
use Rattle.law_designs.specs.SingleFaults.{later_places, may_meet, meet, cross, share}
use Rattle.smv_single_assignment.specs.Links.{AreClassed, between}
use Rattle.smv_single_assignment.specs.LeftSides.{any_two}
use Rattle.smv_single_assignment.specs.Shared.{AreShared, AreInside, AreApart, HasSpot, HasSpots, is_bare, stays_bare, all_two, is_below, meets_all, is_above_one, kept_at}

-- ---- variables around

inside-weaker : (var : ℕ) (around : List ℕ) (xs : List Standing) → AreInside (var ∷ around) xs → AreInside around xs
inside-weaker var around xs inside =
    All-weaker (λ (a : Standing). (k : ℕ) → Contains (var ∷ around) k → Contains a.around k) (λ (a : Standing). (k : ℕ) → Contains around k → Contains a.around k) (λ a has k there. has k (Contains-append_right (var ∷ []) around k there)) xs inside

module _ (layer : Option ℕ) where
  mutual
    -- the assignments of a statement are inside the variables around it
    pub standing-inside : (around : List ℕ) (x : FlatStmt) → AreInside around (standing layer around x)
    standing-inside around (Assign kind family left value at) = All-cons (λ (a : Standing). (k : ℕ) → Contains around k → Contains a.around k) _ [] (λ k there. there) (All-nil (λ (a : Standing). (k : ℕ) → Contains around k → Contains a.around k))
    standing-inside around (If' cond l (more_of-FlatStmt left end_of-FlatStmt) r (more_of-FlatStmt right end_of-FlatStmt)) =
        All-append (λ (a : Standing). (k : ℕ) → Contains around k → Contains a.around k) (standing layer around left) (standing layer around right) (standing-inside around left) (standing-inside around right)
    standing-inside around (Block' shape parts) = standing-inside-row around parts
    standing-inside around (Default' l (more_of-FlatStmt left end_of-FlatStmt) r (more_of-FlatStmt right end_of-FlatStmt)) =
        All-append (λ (a : Standing). (k : ℕ) → Contains around k → Contains a.around k) (standing layer around left) (standing layer around right) (standing-inside around left) (standing-inside around right)
    standing-inside around (Forall' var over shape (more_of-FlatStmt body end_of-FlatStmt)) = inside-weaker var around (standing layer (var ∷ around) body) (standing-inside (var ∷ around) body)

    standing-inside-row : {m : _} (around : List ℕ) (parts : Row_of-FlatStmt m) → AreInside around (standing_in layer around parts)
    standing-inside-row around end_of-FlatStmt = All-nil (λ (a : Standing). (k : ℕ) → Contains around k → Contains a.around k)
    standing-inside-row around (more_of-FlatStmt part rest) =
        All-append (λ (a : Standing). (k : ℕ) → Contains around k → Contains a.around k) (standing layer around part) (standing_in layer around rest) (standing-inside around part) (standing-inside-row around rest)

-- ---- no clashes

module _ (clash : Standing → Standing → Bool) where
  filter-none : (a : Standing) (ys : List Standing) → ((j : ℕ) (b : Standing) → slice_get ys j ≡ Some b → clash a b ≡ false) → map (λ (b : Standing). b.at) (filter (clash a) ys) ≡ []
  filter-none a [] miss = refl
  filter-none a (y ∷ ys) miss = by (clash a y) (miss zero y refl) (filter-none a ys (λ j b got. miss (suc j) b got))
    where
      by : (t : Bool) → t ≡ false → map (λ (b : Standing). b.at) (filter (clash a) ys) ≡ [] → map (λ (b : Standing). b.at) (cond t (y ∷ filter (clash a) ys) (filter (clash a) ys)) ≡ []
      by true e rest = cc
      by false e rest = rest

  pub later-none : (xs ys : List Standing) → ((i j : ℕ) (a b : Standing) → slice_get xs i ≡ Some a → slice_get ys j ≡ Some b → clash a b ≡ false) → later_places clash xs ys ≡ []
  later-none [] ys miss = refl
  later-none (x ∷ xs) ys miss = ap (λ l. l ++ later_places clash xs ys) (filter-none x ys (λ j b got. miss zero j x b refl got)) ∙ later-none xs ys (λ i j a b got there. miss (suc i) j a b got there)

take-get : {A : Type 0} (n : ℕ) (xs : List A) (i : ℕ) (a : A) → slice_get (take n xs) i ≡ Some a → (slice_get xs i ≡ Some a) × (i < n)
take-get zero [] i a got = cc
take-get zero (x ∷ xs) i a got = cc
take-get (suc n) [] i a got = cc
take-get (suc n) (x ∷ xs) zero a got = (got, omega arith)
take-get (suc n) (x ∷ xs) (suc i) a got = let more = take-get n xs i a got in (more.0, omega (arith, more.1))

drop-get : {A : Type 0} (s : ℕ) (xs : List A) (i : ℕ) (a : A) → slice_get (drop s xs) i ≡ Some a → slice_get xs (s + i) ≡ Some a
drop-get zero [] i a got = cc
drop-get (suc s) [] i a got = cc
drop-get zero (x ∷ xs) i a got = let same : 0 + i ≡ i = omega arith in ap (slice_get (x ∷ xs)) same ∙ got
drop-get (suc s) (x ∷ xs) i a got = let same : suc s + i ≡ suc (s + i) = omega arith in ap (slice_get (x ∷ xs)) same ∙ drop-get s xs i a got

between-get : {A : Type 0} (s m : ℕ) (xs : List A) (i : ℕ) (a : A) → slice_get (between s m xs) i ≡ Some a → (slice_get xs (s + i) ≡ Some a) × (s + i < m)
between-get s m xs i a got = let here = take-get (m - s) (drop s xs) i a got in (drop-get s xs i a here.0, omega (arith, here.1))

pub apart-none : (all : List Standing) (start middle end : ℕ) → AreApart all start middle end → later_places meet (between start middle all) (between middle end all) ≡ []
apart-none all start middle end apart = later-none meet (between start middle all) (between middle end all) (λ i j a b got there.
    let one = between-get start middle all i a got in
    let other = between-get middle end all j b there in
    apart (start + i) (middle + j) a b one.0 other.0 (omega arith) one.1 (omega arith) other.1)

-- what does not meet does not cross
pub apart-cross : (around : List ℕ) (all : List Standing) (start middle end : ℕ) → AreApart all start middle end → later_places (cross around) (between start middle all) (between middle end all) ≡ []
apart-cross around all start middle end apart = later-none (cross around) (between start middle all) (between middle end all) (λ i j a b got there.
    let one = between-get start middle all i a got in
    let other = between-get middle end all j b there in
    ap (λ t. t && not (list_all (share a b) around)) (apart (start + i) (middle + j) a b one.0 other.0 (omega arith) one.1 (omega arith) other.1))

-- ---- shared variables

all-shared : (f : ℕ → Bool) (around : List ℕ) → ((k : ℕ) → Contains around k → f k ≡ true) → list_all f around ≡ true
all-shared f [] holds = refl
all-shared f (k ∷ around) holds =
    ap (λ t. t && list_all f around) (holds k (Contains-get_or (k ∷ around) 0 k (omega arith)))
    ∙ all-shared f around (λ j there. holds j (Contains-append_right (k ∷ []) around j there))

shared-excused : (around : List ℕ) (a b : Standing) → (may_meet a b ≡ true → (k : ℕ) → Contains around k → share a b k ≡ true) → cross around a b ≡ false
shared-excused around a b shares = by (meet a b) refl
  where
    by : (t : Bool) → meet a b ≡ t → (t && not (list_all (share a b) around)) ≡ false
    by false e = refl
    by true e = ap not (all-shared (share a b) around (shares (right_of _ (may_meet a b) e)))

inside-at : (around : List ℕ) (xs : List Standing) (i : ℕ) (a : Standing) → AreInside around xs → slice_get xs i ≡ Some a → (k : ℕ) → Contains around k → Contains a.around k
inside-at around xs i a inside got =
    subst (λ (x : Standing). (k : ℕ) → Contains around k → Contains x.around k) (get_or_from_slice_get xs i a a got) (All-get_or (λ (x : Standing). (k : ℕ) → Contains around k → Contains x.around k) xs i a (slice_get_within xs i a got) inside)

pub shared-none : (around : List ℕ) (all : List Standing) (start middle end : ℕ) → AreShared all → AreInside around (between start middle all) → AreInside around (between middle end all)
    → later_places (cross around) (between start middle all) (between middle end all) ≡ []
shared-none around all start middle end shared first second = later-none (cross around) (between start middle all) (between middle end all) (λ i j a b got there.
    let one = between-get start middle all i a got in
    let other = between-get middle end all j b there in
    shared-excused around a b (λ met k has. shared (start + i) (middle + j) a b one.0 other.0 met k (inside-at around (between start middle all) i a first got k has) (inside-at around (between middle end all) j b second there k has)))

-- ---- left sides that are kept

or-true : (b : Bool) → (b || true) ≡ true
or-true true = refl
or-true false = refl

both-bare : (k : ℕ) (i j : Index) → is_bare k i ≡ true → is_bare k j ≡ true → are_both k i j ≡ true
both-bare k (bare m) (bare n) one other = ap (λ t. t && nat_eq n k) one ∙ other
both-bare k (bare m) (fixed v) one other = cc
both-bare k (bare m) computed one other = cc
both-bare k (fixed v) j one other = cc
both-bare k computed j one other = cc

bare-both : (k : ℕ) (i j : Index) → are_both k i j ≡ true → (is_bare k i ≡ true) × (is_bare k j ≡ true)
bare-both k (bare m) (bare n) both = by (nat_eq m k) (nat_eq n k) both
  where
    by : (s t : Bool) → (s && t) ≡ true → (s ≡ true) × (t ≡ true)
    by true true e = (refl, refl)
    by true false e = cc
    by false t e = cc
bare-both k (bare m) (fixed v) both = cc
bare-both k (bare m) computed both = cc
bare-both k (fixed v) j both = cc
bare-both k computed j both = cc

-- what is bare in both of a left side and another is so in what is above it and that other
both-above : (k : ℕ) (h i j : Index) → stays_bare k h i ≡ true → are_both k h j ≡ true → are_both k i j ≡ true
both-above k h i j below both =
    let bares = bare-both k h j both in
    both-bare k i j (sym (ap (λ t. cond t (is_bare k i) true) bares.0) ∙ below) bares.1

-- nothing is left on one side
pub stay-left : (test : Index → Index → Bool) (xs ys : List FlatExpr) → length xs < 1 → all_two test xs ys ≡ true
stay-left test [] ys h = refl
stay-left test (x ∷ xs) ys h = absurd (omega arith)

pub stay-right : (test : Index → Index → Bool) (xs ys : List FlatExpr) → length ys < 1 → all_two test xs ys ≡ true
stay-right test [] ys h = refl
stay-right test (x ∷ xs) [] h = refl
stay-right test (x ∷ xs) (y ∷ ys) h = absurd (omega arith)

pub ruleset stay_ends = (stay-left, stay-right)

-- a left side that is above another shares what the other does
share-along : (k : ℕ) (kept xs ys : List FlatExpr) → all_two (stays_bare k) kept xs ≡ true → length kept ≡ length xs → any_two (are_both k) kept ys ≡ true → any_two (are_both k) xs ys ≡ true
share-along k [] xs ys stay long shared = cc
share-along k (h ∷ kept) [] ys stay long shared = cc
share-along k (h ∷ kept) (x ∷ xs) [] stay long shared = cc
share-along k (h ∷ kept) (x ∷ xs) (y ∷ ys) stay long shared = by (are_both k (flat_index h) (flat_index y)) refl shared (λ e. share-along k kept xs ys (right_of (stays_bare k (flat_index h) (flat_index x)) _ stay) (omega (arith, long)) e)
  where
    here : stays_bare k (flat_index h) (flat_index x) ≡ true
    here = left_of _ (all_two (stays_bare k) kept xs) stay

    by : (t : Bool) → are_both k (flat_index h) (flat_index y) ≡ t → (t || any_two (are_both k) kept ys) ≡ true → (any_two (are_both k) kept ys ≡ true → any_two (are_both k) xs ys ≡ true) → any_two (are_both k) (x ∷ xs) (y ∷ ys) ≡ true
    by true is e more = ap (λ t. t || any_two (are_both k) xs ys) (both-above k (flat_index h) (flat_index x) (flat_index y) here is)
    by false is e more = ap (λ t. are_both k (flat_index x) (flat_index y) || t) (more e) ∙ or-true (are_both k (flat_index x) (flat_index y))

share-above : (k : ℕ) (kept xs ys : List FlatExpr) → is_below k kept xs ≡ true → any_two (are_both k) kept ys ≡ true → any_two (are_both k) xs ys ≡ true
share-above k kept xs ys below shared =
    share-along k kept xs ys (right_of (nat_eq (length kept) (length xs)) _ below) (eqb-true (length kept) (length xs) (left_of _ (all_two (stays_bare k) kept xs) below)) shared

-- of two left sides, one above a kept one and one that shares with each kept one
shared-by-one : (k : ℕ) (lefts : List (Bor (List FlatExpr))) (xs ys : List FlatExpr) → is_above_one k lefts xs ≡ true → meets_all k lefts ys ≡ true → any_two (are_both k) xs ys ≡ true
shared-by-one k [] xs ys above meets = cc
shared-by-one k (kept ∷ lefts) xs ys above meets = by (is_below k kept.now xs) refl above (λ e. shared-by-one k lefts xs ys e (right_of (any_two (are_both k) kept.now ys) _ meets))
  where
    by : (t : Bool) → is_below k kept.now xs ≡ t → (t || is_above_one k lefts xs) ≡ true → (is_above_one k lefts xs ≡ true → any_two (are_both k) xs ys ≡ true) → any_two (are_both k) xs ys ≡ true
    by true is e more = share-above k kept.now xs ys is (left_of _ (meets_all k lefts ys) meets)
    by false is e more = more e

module _ {S : Type 0} (kept : HashMap (ℕ × ℕ) (Vec (Bor (List FlatExpr))) S) (all : List Standing) (classes : List ℕ) where
  -- so far each has its left sides
  abbrev pub HaveSpots : ℕ → Type 0
  HaveSpots n = (i : ℕ) (a : Standing) → i < n → slice_get all i ≡ Some a → HasSpots kept (get_or classes i 0) a

  pub have-more : (n : ℕ) (b : Standing) (class : ℕ) → slice_get all n ≡ Some b → class ≡ get_or classes n 0 → HasSpots kept class b → HaveSpots n → HaveSpots (n + 1)
  have-more n b class here is has have i a lt got = by (cases_eq i n)
    where
      by : (i ≡ n) ⊎ (i ≡ n → ⊥) → HasSpots kept (get_or classes i 0) a
      by (inl same) =
          let one : Some b ≡ Some a = sym here ∙ ap (slice_get all) (sym same) ∙ got in
          let it : b ≡ a = cc in
          subst (λ c. HasSpots kept c a) (is ∙ ap (λ k. get_or classes k 0) (sym same)) (subst (HasSpots kept class) it has)
      by (inr not) = have i a (omega (arith, lt, not)) got

  pub spots-shared : (count n : ℕ) → AreClassed all classes count → length all ≤ n → HaveSpots n → AreShared all
  spots-shared count n classed whole have i j a b got there met k in_a in_b =
      let le_i : i < n = omega (arith, slice_get_within all i a got, whole) in
      let le_j : j < n = omega (arith, slice_get_within all j b there, whole) in
      let one = All-contains (HasSpot kept (get_or classes i 0) a.left) a.around k (have i a le_i got) in_a in
      let other = All-contains (HasSpot kept (get_or classes j 0) b.left) b.around k (have j b le_j there) in_b in
      let class : get_or classes i 0 ≡ get_or classes j 0 = classed.together i j a b got there met in
      let both : Some one.0 ≡ Some other.0 = sym one.1 ∙ ap (λ c. kept_at kept c k) class ∙ other.1 in
      let lefts : one.0 ≡ other.0 = cc in
      let met : (meets_all k one.0.items b.left && is_above_one k one.0.items b.left) ≡ true = ap (λ (v : Vec (Bor (List FlatExpr))). meets_all k v.items b.left && is_above_one k v.items b.left) lefts ∙ other.2 in
      shared-by-one k one.0.items a.left b.left (right_of (meets_all k one.0.items a.left) _ one.2) (left_of _ (is_above_one k one.0.items b.left) met)
