-- Where no place breaks the rules of single assignment, no two assignments of a definition conflict.
use Rattle.std.proofs.Common.{◌≡◌, ℕ, zero, suc, ◌+◌, ◌<◌, ◌≤◌, List, [], ◌∷◌, ◌++◌, map, filter, zip, length, Option, Some, None, Bool, true, false, not, ◌&&◌, ◌||◌, cond, nat_eq, refl, sym, ap, ◌∙◌, subst, ◌⊎◌, inl, inr, arith, slice_get}
use Rattle.std.specs.List.{flat_map, list_any, list_all}
use Rattle.std.proofs.lemmas.Bool.{or_cases, cases_Bool}
use Rattle.law_lists.proofs.Booleans.{clash, right_of, same_tests}
use Rattle.law_lists.proofs.Numbers.{nat_eq-is}
use Rattle.smv_core.specs.Values.{same}
use Rattle.smv_core.specs.Walk.{same_kind}
use Rattle.smv_core.specs.Assignments.{Index, fixed, bare, computed}
use Rattle.smv_core.specs.Conflicts.{are_two_constants, are_both}
use Rattle.smv_core.specs.FlatMeaning.{flat_index, indexes_assigned}
use Rattle.smv_core.specs.declared.tree.Kind.{Kind}
use Rattle.smv_core.specs.declared.tree.Kind.TheVariants.{Comb, Init, Next}
use Rattle.smv_core.specs.declared.flat.Simple.{Simple}
use Rattle.smv_core.specs.declared.flat.FlatExpr.{FlatExpr, Var}
use Rattle.smv_core.specs.declared.flat.FlatStmt.{FlatStmt, Assign, If', Block', Default', Forall', Row_of-FlatStmt, end_of-FlatStmt, more_of-FlatStmt}
use Rattle.smv_core.specs.declared.flat.DefBody.{DefBody, Nothing, If, First, Forall, Row_of-DefBody, end_of-DefBody, more_of-DefBody, items-the_row-DefBody, items_hidden-the_row-DefBody-1}
use Rattle.smv_core.specs.declared.flat.DefBody as flat
use Rattle.smv_core.specs.declared.flat.FlatText.{FlatText}
use Rattle.law_designs.specs.WholeText.{is_one_layer}
use Rattle.law_obligations.specs.Sets.{Has, first, later}
use Rattle.law_obligations.specs.Bound.{HasVariable}
use Rattle.law_obligations.specs.FlatConflicts.{AreExcused, EachTwo, HasNoConflict, HaveNoConflict, IsConflictFree}
use Rattle.law_obligations.proofs.OneGives.{is_single}
use Rattle.law_obligations.proofs.Members.{Has-left, Has-right, Has-cases, all-each}
use Rattle.law_obligations.proofs.Same.{nat_eq-itself, same-is, same-itself}
use Rattle.law_designs.specs.Standing.{count, Statement, statements_of, Standing, standing, standing_in, assigned_by}
use Rattle.law_designs.specs.SingleFaults.{differ, share, meet, cross, later_places, conflicts, conflicts_in, conflicting, is_variable, has_variables, first_fault_of_single}
use Rattle.law_designs.specs.Definitions.{is_nothing, joined, first_part, branches, each_value, flat_of, flats_of, Head, def_of}
use Rattle.law_designs.proofs.FlatParts.{boxes, rows_of, indexes-row, indexes-kept}
use Rattle.law_designs.specs.Laws.{index_count}
use Rattle.law_designs.proofs.Descents.{one-is}
use Rattle.law_sound_texts.specs.Placed.{IsPlaced, ArePlaced, FlatTextIsPlaced, IsFree, OneValueGives}
use Rattle.law_sound_texts.proofs.FaultlessSides.{no-clash, no-conflict, no-lack}
use Rattle.law_sound_texts.proofs.Comes.{Comes, comes, comes_in, comes_of, part, chosen}
use mathlib.Core.Former.{Count}
use Rattle.law_flat_kinds.proofs.NoFaults.{nil-left, nil-right}

-- the numbers below a number, the greatest first
abbrev down : ℕ → List ℕ
down zero = []
down (suc n) = n ∷ down n

down-has : (n k : ℕ) → k < n → Has (down n) k
down-has zero k lt = absurd (omega (arith, lt))
down-has (suc n) k lt = elim (cases_Bool (nat_eq k n)) [ inl e ↦ subst (Has (n ∷ down n)) (sym (nat_eq-is k n e)) first | inr e ↦ later (down-has n k (below k n lt e)) ]
  where
    below : (k n : ℕ) → k < suc n → nat_eq k n ≡ false → k < n
    below k n lt e = grind arith

-- ---- variables

variable-is : (k : ℕ) (x : FlatExpr) → is_variable k x ≡ true → (offset : ℕ) × (x ≡ Var k offset)
variable-is k (Var var at) e = (at, ap (λ v. Var v at) (nat_eq-is var k e))
variable-is k _ e = absurd (cc (e))

variable-at : (k : ℕ) (left : List FlatExpr) → list_any (is_variable k) left ≡ true → (j : ℕ) × (j < length left) × (offset : ℕ) × (slice_get left j ≡ Some (Var k offset))
variable-at k [] e = absurd (cc (e))
variable-at k (x ∷ xs) e = here_or_later (or_cases (is_variable k x) (list_any (is_variable k) xs) e) (λ h. variable-at k xs h)
  where
    here_or_later : (is_variable k x ≡ true) ⊎ (list_any (is_variable k) xs ≡ true) → (list_any (is_variable k) xs ≡ true → (j : ℕ) × (j < length xs) × (offset : ℕ) × (slice_get xs j ≡ Some (Var k offset))) →
        (j : ℕ) × (j < length (x ∷ xs)) × (offset : ℕ) × (slice_get (x ∷ xs) j ≡ Some (Var k offset))
    here_or_later (inl h) rest = let v : (offset : ℕ) × (x ≡ Var k offset) = variable-is k x h in (0, omega arith, v.0, ap Some v.1)
    here_or_later (inr h) rest = let r : (j : ℕ) × (j < length xs) × (offset : ℕ) × (slice_get xs j ≡ Some (Var k offset)) = rest h in (suc r.0, omega (arith, r.1), r.2, r.3)

-- ---- two assignments

-- the rule is the same from both sides
two-turned : (i j : Index) → are_two_constants i j ≡ are_two_constants j i
two-turned (fixed (Some u)) (fixed (Some v)) = ap not (same_tests (same u v) (same v u) (λ e. turned u v e) (λ e. turned v u e))
  where
    turned : (u v : _) → same u v ≡ true → same v u ≡ true
    turned u v e = subst (λ w. same w u ≡ true) (same-is u v e) (same-itself u)
two-turned (fixed None) (fixed None) = refl
two-turned (fixed None) (fixed (Some v)) = refl
two-turned (fixed (Some u)) (fixed None) = refl
two-turned (fixed None) (bare n) = refl
two-turned (fixed (Some u)) (bare n) = refl
two-turned (fixed None) computed = refl
two-turned (fixed (Some u)) computed = refl
two-turned (bare m) (fixed None) = refl
two-turned (bare m) (fixed (Some v)) = refl
two-turned (bare m) (bare n) = refl
two-turned (bare m) computed = refl
two-turned computed (fixed None) = refl
two-turned computed (fixed (Some v)) = refl
two-turned computed (bare n) = refl
two-turned computed computed = refl

and-turned : (a b : Bool) → (a && b) ≡ (b && a)
and-turned true true = refl
and-turned true false = refl
and-turned false true = refl
and-turned false false = refl

both-turned : (k : ℕ) (i j : Index) → are_both k i j ≡ are_both k j i
both-turned k (bare m) (bare n) = and-turned (nat_eq m k) (nat_eq n k)
both-turned k (bare m) (fixed u) = refl
both-turned k (bare m) computed = refl
both-turned k (fixed u) (bare n) = refl
both-turned k (fixed u) (fixed v) = refl
both-turned k (fixed u) computed = refl
both-turned k computed (bare n) = refl
both-turned k computed (fixed v) = refl
both-turned k computed computed = refl

any-turned : (f : Index → Index → Bool) → ((i j : Index) → f i j ≡ f j i) → (is js : List Index) → list_any (λ (i, j). f i j) (zip is js) ≡ list_any (λ (i, j). f i j) (zip js is)
any-turned f h [] [] = refl
any-turned f h [] (j ∷ js) = refl
any-turned f h (i ∷ is) [] = refl
any-turned f h (i ∷ is) (j ∷ js) = or-same (f i j) (f j i) _ _ (h i j) (any-turned f h is js)
  where
    or-same : (a b c d : Bool) → a ≡ b → c ≡ d → (a || c) ≡ (b || d)
    or-same a b c d p q = rw (p, q) refl

excused-turned : (n : ℕ) (is js : List Index) → AreExcused n is js → AreExcused n js is
excused-turned n is js (inl e) = inl (sym (any-turned are_two_constants two-turned is js) ∙ e)
excused-turned n is js (inr h) = inr (λ k lt. sym (any-turned (are_both k) (both-turned k) is js) ∙ h k lt)

-- where two do not meet though they have one kind, layer and family, they differ
meet-cases : (k l f d : Bool) → k ≡ true → l ≡ true → f ≡ true → (k && (l && (f && not d))) ≡ false → d ≡ true
meet-cases k l f true p q r e = refl
meet-cases k l f false p q r e = absurd (clash (rw (p, q, r) refl) e)

cross-cases : (m s : Bool) → (m && not s) ≡ false → (m ≡ false) ⊎ (s ≡ true)
cross-cases false s e = inl refl
cross-cases true true e = inr refl
cross-cases true false e = absurd (cc (e))

kinds-same : (a b c : Kind) → a ≡ c → b ≡ c → same_kind a b ≡ true
kinds-same a b Comb h k = rw (h, k) refl
kinds-same a b Init h k = rw (h, k) refl
kinds-same a b Next h k = rw (h, k) refl

layers-same : (a b c : Option ℕ) → a ≡ c → b ≡ c → is_one_layer a b ≡ true
layers-same a b None h k = rw (h, k) refl
layers-same a b (Some n) h k = rw (h, k) (nat_eq-itself n)

families-same : (a b c : ℕ) → a ≡ c → b ≡ c → nat_eq a b ≡ true
families-same a b c h k = rw (h, k) (nat_eq-itself c)

any-beside : (f : Index → Index → Bool) (is js ks ls : List Index) → is ≡ ks → js ≡ ls → list_any (λ (i, j). f i j) (zip is js) ≡ true → list_any (λ (i, j). f i j) (zip ks ls) ≡ true
any-beside f is js ks ls h k e = subst (λ l. list_any (λ (i, j). f i j) (zip l ls) ≡ true) h (subst (λ l. list_any (λ (i, j). f i j) (zip is l) ≡ true) k e)

module _ (layer : Option ℕ) (kind : Kind) (family : ℕ) where
  differ-unless : (as' bs : List Standing) (is js : List Index) (c : Comes layer kind family as' is) (d : Comes layer kind family bs js) → meet c.by d.by ≡ false → list_any (λ (i, j). are_two_constants i j) (zip is js) ≡ true
  differ-unless as' bs is js c d e =
      any-beside are_two_constants (map flat_index c.by.left) (map flat_index d.by.left) is js c.indexes_are d.indexes_are
      (meet-cases (same_kind c.by.kind d.by.kind) (is_one_layer c.by.layer d.by.layer) (nat_eq c.by.family d.by.family) (differ c.by d.by)
      (kinds-same c.by.kind d.by.kind kind c.kind_is d.kind_is) (layers-same c.by.layer d.by.layer layer c.layer_is d.layer_is) (families-same c.by.family d.by.family family c.family_is d.family_is) e)

  apart : (n : ℕ) (as' bs : List Standing) → later_places meet as' bs ≡ [] → (is js : List Index) → Comes layer kind family as' is → Comes layer kind family bs js → AreExcused n is js
  apart n as' bs e is js c d = inl (differ-unless as' bs is js c d (no-clash meet as' bs e c.by d.by c.among d.among))

  crossing : (n : ℕ) (as' bs : List Standing) → later_places (cross (down n)) as' bs ≡ [] → (is js : List Index) → Comes layer kind family as' is → Comes layer kind family bs js → AreExcused n is js
  crossing n as' bs e is js c d = by_cases (cross-cases (meet c.by d.by) (list_all (share c.by d.by) (down n)) (no-clash (cross (down n)) as' bs e c.by d.by c.among d.among))
    where
      by_cases : (meet c.by d.by ≡ false) ⊎ (list_all (share c.by d.by) (down n) ≡ true) → AreExcused n is js
      by_cases (inl h) = inl (differ-unless as' bs is js c d h)
      by_cases (inr h) = inr (λ k lt. any-beside (are_both k) (map flat_index c.by.left) (map flat_index d.by.left) is js c.indexes_are d.indexes_are (all-each (share c.by d.by) h (down-has n k lt)))

-- ---- parts of a definition

abbrev AreFree : ℕ → ℕ → List DefBody → Type 0
AreFree n c [] = Unit {0}
AreFree n c (p ∷ ps) = HasNoConflict n c p × AreFree n c ps × EachTwo n (indexes_assigned p) (flat_map indexes_assigned ps)

module _ (n c : ℕ) where
  free-row : (k : _) (row : Row_of-DefBody k) → AreFree n c (items-the_row-DefBody k row) → HaveNoConflict n c row
  free-row k end_of-DefBody h = tt
  free-row k (more_of-DefBody p rest) h = (h.0, free-row _ rest h.1, subst (EachTwo n (indexes_assigned p)) (sym (indexes-row _ rest)) h.2)

  free-First : (parts : List DefBody) → AreFree n c parts → HasNoConflict n c (First parts)
  free-First parts h = let row : (k : Count) × Row_of-DefBody k = rows_of (First parts) in free-row row.0 row.1 (subst (AreFree n c) (sym (items_hidden-the_row-DefBody-1 parts)) h)

  free-If : (test : FlatExpr) (p q : DefBody) → HasNoConflict n c p → HasNoConflict n c q → EachTwo n (indexes_assigned p) (indexes_assigned q) → HasNoConflict n c (If test p q)
  unfolding boxes
  free-If test p q h k e = (h, k, e)

  free-Forall : (var : ℕ) (over : Simple) (p : DefBody) → var ≡ n → HasNoConflict (suc n) c p → HasNoConflict n c (Forall var over p)
  unfolding boxes
  free-Forall var over p e h = (e, h)

  free-joined : (parts : List DefBody) → AreFree n c parts → HasNoConflict n c (joined parts)
  free-joined [] h = tt
  free-joined (p ∷ []) h = h.0
  free-joined (p ∷ q ∷ more) h = free-First (p ∷ q ∷ more) h

  free-kept : (parts : List DefBody) → AreFree n c parts → AreFree n c (filter (λ p. not (is_nothing p)) parts)
  free-kept [] h = tt
  free-kept (p ∷ ps) h = by_test (is_nothing p) (free-kept ps h.1)
    where
      by_test : (b : Bool) → AreFree n c (filter (λ q. not (is_nothing q)) ps) → AreFree n c (cond (not b) (p ∷ filter (λ q. not (is_nothing q)) ps) (filter (λ q. not (is_nothing q)) ps))
      by_test true rest = rest
      by_test false rest = (h.0, rest, subst (EachTwo n (indexes_assigned p)) (sym (indexes-kept ps)) h.2)

  free-first_part : (parts : List DefBody) → AreFree n c parts → HasNoConflict n c (first_part parts)
  free-first_part parts h = free-joined (filter (λ p. not (is_nothing p)) parts) (free-kept parts h)

  free-branches : (test : FlatExpr) (p q : DefBody) → HasNoConflict n c p → HasNoConflict n c q → EachTwo n (indexes_assigned p) (indexes_assigned q) → HasNoConflict n c (branches test p q)
  free-branches test p q h k e = by_test (is_nothing p && is_nothing q)
    where
      by_test : (b : Bool) → HasNoConflict n c (cond b Nothing (If test p q))
      by_test true = tt
      by_test false = free-If test p q h k e

  free-each_value : (var : ℕ) (over : Simple) (p : DefBody) → var ≡ n → HasNoConflict (suc n) c p → HasNoConflict n c (each_value var over p)
  free-each_value var over p e h = by_test (is_nothing p)
    where
      by_test : (b : Bool) → HasNoConflict n c (cond b Nothing (Forall var over p))
      by_test true = tt
      by_test false = free-Forall var over p e h

-- ---- statements

nil-first : {X : Type 0} (xs ys zs : List X) → xs ++ ys ++ zs ≡ [] → xs ≡ []
nil-first xs ys zs e = nil-left xs ys (nil-left (xs ++ ys) zs e)

nil-second : {X : Type 0} (xs ys zs : List X) → xs ++ ys ++ zs ≡ [] → ys ≡ []
nil-second xs ys zs e = nil-right xs ys (nil-left (xs ++ ys) zs e)

nil-third : {X : Type 0} (xs ys zs : List X) → xs ++ ys ++ zs ≡ [] → zs ≡ []
nil-third xs ys zs e = nil-right (xs ++ ys) zs e

-- each assignment has the variables around it
abbrev Have : List Standing → Type 0
Have all = (a : Standing) → Has all a → has_variables a ≡ true

module _ (counts : ℕ → ℕ) (layer : Option ℕ) (kind : Kind) (family : ℕ) where
  free_one : (n k at : ℕ) (which : Kind) (other : ℕ) (left : List FlatExpr) (value : FlatExpr) → length left ≤ counts other → list_all (λ v. list_any (is_variable v) left) (down n) ≡ true →
      (b : Bool) → (same_kind which kind && nat_eq other family) ≡ b → HasNoConflict n (counts family) (cond b (flat.Assign left value k at) Nothing)
  free_one n k at which other left value whole has false e = tt
  free_one n k at which other left value whole has true e =
      let fits : length left ≤ counts family = subst (λ f. length left ≤ counts f) (nat_eq-is other family (right_of (same_kind which kind) (nat_eq other family) e)) whole in
      (fits, λ v lt. variable v (variable-at v left (all-each (λ v. list_any (is_variable v) left) has (down-has n v lt))) fits)
    where
      variable : (v : ℕ) → (j : ℕ) × (j < length left) × (offset : ℕ) × (slice_get left j ≡ Some (Var v offset)) → length left ≤ counts family → HasVariable v (counts family) (flat.Assign left value k at)
      variable v r fits = (r.0, omega (arith, r.1, fits), r.2, r.3)

  mutual
    free : (n k : ℕ) (act : FlatStmt) → IsPlaced counts n act → conflicts layer (down n) act ≡ [] → Have (standing layer (down n) act) → HasNoConflict n (counts family) (flat_of kind family k act)
    free n k (Assign which other left value at) placed e has = free_one n k at which other left value placed (has _ first) (same_kind which kind && nat_eq other family) refl
    free n k (If' test l (more_of-FlatStmt left end_of-FlatStmt) r (more_of-FlatStmt right end_of-FlatStmt)) placed e has =
        free-branches n (counts family) test (flat_of kind family k left) (flat_of kind family (k + count left) right)
        (free n k left placed.0 (nil-first (conflicts layer (down n) left) (conflicts layer (down n) right) (later_places (cross (down n)) (standing layer (down n) left) (standing layer (down n) right)) e) (λ a h. has a (Has-left (standing layer (down n) right) h)))
        (free n (k + count left) right placed.1 (nil-second (conflicts layer (down n) left) (conflicts layer (down n) right) (later_places (cross (down n)) (standing layer (down n) left) (standing layer (down n) right)) e) (λ a h. has a (Has-right (standing layer (down n) left) h)))
        (λ is js h g. crossing layer kind family n (standing layer (down n) left) (standing layer (down n) right) (nil-third (conflicts layer (down n) left) (conflicts layer (down n) right) (later_places (cross (down n)) (standing layer (down n) left) (standing layer (down n) right)) e) is js
        (comes layer kind family (down n) k left is h) (comes layer kind family (down n) (k + count left) right js g))
    free n k (Block' shape parts) placed e has = free-first_part n (counts family) (flats_of kind family k parts) (free_in n k parts placed e has)
    free n k (Default' l (more_of-FlatStmt left end_of-FlatStmt) r (more_of-FlatStmt right end_of-FlatStmt)) placed e has =
        free-first_part n (counts family) (flat_of kind family (k + count left) right ∷ flat_of kind family k left ∷ []) (
          free n (k + count left) right placed.1 (nil-second (conflicts layer (down n) left) (conflicts layer (down n) right) (later_places (cross (down n)) (standing layer (down n) left) (standing layer (down n) right)) e) (λ a h. has a (Has-right (standing layer (down n) left) h)),
          (free n k left placed.0 (nil-first (conflicts layer (down n) left) (conflicts layer (down n) right) (later_places (cross (down n)) (standing layer (down n) left) (standing layer (down n) right)) e) (λ a h. has a (Has-left (standing layer (down n) right) h)), tt, λ is js h g. elim g [ ]),
          λ is js h g. excused-turned n js is
              (crossing layer kind family n (standing layer (down n) left) (standing layer (down n) right) (nil-third (conflicts layer (down n) left) (conflicts layer (down n) right) (later_places (cross (down n)) (standing layer (down n) left) (standing layer (down n) right)) e) js is
              (comes layer kind family (down n) k left js (elim (Has-cases (indexes_assigned (flat_of kind family k left)) [] g) [ inl q ↦ q | inr q ↦ elim q [ ] ])) (comes layer kind family (down n) (k + count left) right is h)),
        )
    free n k (Forall' var over shape (more_of-FlatStmt body end_of-FlatStmt)) placed e has =
        let same : var ∷ down n ≡ down (suc n) = ap (λ v. v ∷ down n) placed.0 in
        free-each_value n (counts family) var over (flat_of kind family k body) placed.0
        (free (suc n) k body placed.1 (subst (λ l. conflicts layer l body ≡ []) same e) (subst (λ l. Have (standing layer l body)) same has))

    free_in : {m : _} (n k : ℕ) (parts : Row_of-FlatStmt m) → ArePlaced counts n parts → conflicts_in layer (down n) parts ≡ [] → Have (standing_in layer (down n) parts) → AreFree n (counts family) (flats_of kind family k parts)
    free_in n k end_of-FlatStmt placed e has = tt
    free_in n k (more_of-FlatStmt p rest) placed e has = (
      free n k p placed.0 (nil-first (conflicts layer (down n) p) (conflicts_in layer (down n) rest) (later_places meet (standing layer (down n) p) (standing_in layer (down n) rest)) e) (λ a h. has a (Has-left (standing_in layer (down n) rest) h)),
      free_in n (k + count p) rest placed.1 (nil-second (conflicts layer (down n) p) (conflicts_in layer (down n) rest) (later_places meet (standing layer (down n) p) (standing_in layer (down n) rest)) e) (λ a h. has a (Has-right (standing layer (down n) p) h)),
      λ is js h g. apart layer kind family n (standing layer (down n) p) (standing_in layer (down n) rest) (nil-third (conflicts layer (down n) p) (conflicts_in layer (down n) rest) (later_places meet (standing layer (down n) p) (standing_in layer (down n) rest)) e) is js
          (comes layer kind family (down n) k p is h) (comes_in layer kind family (down n) (k + count p) rest js g),
    )

-- ---- definition sets

module _ (counts : ℕ → ℕ) (layer : Option ℕ) (kind : Kind) (family : ℕ) where
  set_free : (set : List Statement) → conflicting set ≡ [] → ((s : Statement) → Has set s → IsPlaced counts 0 s.act) → Have (flat_map assigned_by set) → AreFree 0 (counts family) (map (part layer kind family) (chosen layer kind family set))
  set_free [] e placed has = tt
  set_free (s ∷ set) e placed has =
      by_test (is_one_layer layer s.layer) refl
      (set_free set (nil-second (conflicts s.layer [] s.act) (conflicting set) (later_places meet (assigned_by s) (flat_map assigned_by set)) e) (λ t h. placed t (later h)) (λ a h. has a (Has-right (assigned_by s) h)))
    where
      here : HasNoConflict 0 (counts family) (part layer kind family s)
      here =
          free counts s.layer kind family 0 s.place s.act (placed s first) (nil-first (conflicts s.layer [] s.act) (conflicting set) (later_places meet (assigned_by s) (flat_map assigned_by set)) e)
          (λ a h. has a (Has-left (flat_map assigned_by set) h))

      by_test : (b : Bool) → is_one_layer layer s.layer ≡ b → AreFree 0 (counts family) (map (part layer kind family) (chosen layer kind family set)) →
          AreFree 0 (counts family) (map (part layer kind family) (cond b (s ∷ chosen layer kind family set) (chosen layer kind family set)))
      by_test true h rest = (
        here,
        rest,
        λ is js p q. apart layer kind family 0 (assigned_by s) (flat_map assigned_by set)
            (nil-third (conflicts s.layer [] s.act) (conflicting set) (later_places meet (assigned_by s) (flat_map assigned_by set)) e) is js
            (subst (λ l. Comes l kind family (assigned_by s) is) (sym (one-is layer s.layer h)) (comes s.layer kind family [] s.place s.act is p)) (comes_of layer kind family set js q),
      )
      by_test false h rest = rest

module _ (flat_text : FlatText) (placed : FlatTextIsPlaced flat_text) (faultless : first_fault_of_single flat_text ≡ None) (head : Head) where
  part_free : (kind : Kind) → HasNoConflict 0 (index_count flat_text head.family) (first_part (map (part head.layer kind head.family) (chosen head.layer kind head.family (statements_of flat_text))))
  part_free kind =
      free-first_part 0 (index_count flat_text head.family) (map (part head.layer kind head.family) (chosen head.layer kind head.family (statements_of flat_text)))
      (set_free (index_count flat_text) head.layer kind head.family (statements_of flat_text) (no-conflict flat_text faultless) placed (λ a h. no-lack flat_text faultless a h))

  pub def_free : IsFree flat_text (def_of flat_text head)
  def_free = record { init = part_free Init; next = part_free Next; comb = part_free Comb }

  pub def_single : OneValueGives flat_text (def_of flat_text head)
  def_single n indexes every e = is_single n (def_of flat_text head) indexes every (subst (λ c. IsConflictFree c (def_of flat_text head)) (sym e) def_free)
