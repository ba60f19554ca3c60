-- Which assignments count, on definitions that are made of lists and values.
use Rattle.std.proofs.Common.{◌≡◌, ℕ, zero, suc, ◌-◌, ◌≤◌, List, [], ◌∷◌, ◌++◌, map, take, length, slice_get, Option, Some, None, Bool, true, false, ◌&&◌, ◌||◌, nat_lt, refl, sym, ap, subst, ◌∙◌, inl, inr, arith}
use Rattle.std.specs.List.{list_any}
use Rattle.std.proofs.lemmas.Bool.{or_cases, cases_Bool}
use Rattle.law_lists.proofs.Lists.{length_map}
use Rattle.law_lists.proofs.Booleans.{either_left, either_right, and_both, left_of, right_of}
use Rattle.law_lists.proofs.Anys.{any-map, any-agree}
use Rattle.smv_core.specs.Assignments.{Index, fixed, bare, computed}
use Rattle.smv_core.specs.FlatMeaning.{flat_index}
use Rattle.smv_core.specs.declared.flat.Simple.{Simple}
use Rattle.smv_core.specs.declared.flat.FlatExpr.{FlatExpr}
use Rattle.smv_core.specs.declared.flat.DefBody.{DefBody, Nothing, If, If', First, Forall, Forall', Assign, First', Row_of-DefBody, end_of-DefBody, more_of-DefBody, items-the_row-DefBody, items_hidden-the_row-DefBody-1}
use Rattle.law_obligations.specs.Places.{Place, places_in, bind_place}
use Rattle.law_obligations.proofs.Members.{any-some}
use Rattle.law_obligations.specs.Reads.{is_own, is_bound_to, has_counting, have_counting}
use Rattle.smv_spots.specs.declared.spots.Spot.{Spot}
use Rattle.smv_reads.specs.declared.bindings.View.{View}
use Rattle.smv_reads.specs.Views.{world_of, place_in, places, bind_spot}
use Rattle.smv_reads.specs.Reading.{counts_in, counts_over}
use Rattle.smv_reads.specs.Counts.{fits, may_be, may_fit, may_be_own, may_count, some_may_count}
use Rattle.smv_reads.proofs.Computing.{boxes}
use Rattle.smv_reads.proofs.Lists.{bound-places}
use mathlib.Core.Former.{Count}

abbrev rows_of : DefBody → (k : Count) × Row_of-DefBody k
rows_of (First' shape row) = (_, row)
rows_of _ = (_, end_of-DefBody)

-- ---- left sides

pub own-nil : (own b : List Place) → is_own own [] b ≡ true
own-nil own b = refl

pub own-none : (is : List Index) (b : List Place) → is_own [] is b ≡ true
own-none [] b = refl
own-none (i ∷ is) b = refl

pub own-cons : (i : Index) (is : List Index) (q : Place) (qs b : List Place) → is_own (q ∷ qs) (i ∷ is) b ≡ (fits b i q && is_own qs is b)
own-cons (fixed u) is q qs b = refl
own-cons (bare var) is q qs b = refl
own-cons computed is q qs b = refl

pub ruleset own_laws = (own-nil, own-none, own-cons)

-- ---- what counts

module _ (v : View) (own b : List Spot) where
  parts-row : (k : _) (row : Row_of-DefBody k) → have_counting (places_in (world_of v)) (is_own (places v own)) row (places v b) ≡ list_any (counts_in v own b) (items-the_row-DefBody k row)
  unfolding counts_in
  parts-row k end_of-DefBody = refl
  parts-row k (more_of-DefBody part rest) = ap (λ c. counts_in v own b part || c) (parts-row _ rest)

  pub count-Nothing : counts_in v own b Nothing ≡ false
  unfolding counts_in
  count-Nothing = refl

  pub count-Assign : (left : List FlatExpr) (value : FlatExpr) (place at : ℕ) → counts_in v own b (Assign left value place at) ≡ is_own (places v own) (map flat_index left) (places v b)
  unfolding counts_in
  count-Assign left value place at = refl

  pub count-If : (cond : FlatExpr) (x y : DefBody) → counts_in v own b (If cond x y) ≡ (counts_in v own b x || counts_in v own b y)
  unfolding counts_in boxes
  count-If cond x y = refl

  pub count-First : (parts : List DefBody) → counts_in v own b (First parts) ≡ list_any (counts_in v own b) parts
  unfolding counts_in
  count-First parts =
      let row : (k : Count) × Row_of-DefBody k = rows_of (First parts) in
      parts-row row.0 row.1 ∙ ap (list_any (counts_in v own b)) (items_hidden-the_row-DefBody-1 parts)

  pub count-Forall : (var : ℕ) (over : Simple) (body : DefBody) → counts_in v own b (Forall var over body) ≡ counts_over v own b var over body
  unfolding counts_in counts_over boxes
  count-Forall var over body = refl

  -- at the spots of a variable
  pub over-spots : (var : ℕ) (over : Simple) (body : DefBody) (spots : List Spot) → places v spots ≡ places_in (world_of v) over → counts_over v own b var over body ≡ list_any (λ p. counts_in v own (bind_spot b var p) body) spots
  unfolding counts_in counts_over
  over-spots var over body spots e =
      let f : Place → Bool = λ p. has_counting (places_in (world_of v)) (is_own (places v own)) body (bind_place (places v b) var p) in
      ap (list_any f) (sym e)
      ∙ any-map f (place_in v) spots
      ∙ any-agree (λ s. f (place_in v s)) (λ s. counts_in v own (bind_spot b var s) body) spots (λ s. ap (has_counting (places_in (world_of v)) (is_own (places v own)) body) (sym (bound-places v b var s)))

pub ruleset equations = (count-Nothing, count-Assign, count-If, count-First, count-Forall)

pub ruleset over = (over-spots)

-- ---- what may count

module _ (own b : List Place) where
  may-row : (k : _) (row : Row_of-DefBody k) → some_may_count own b row ≡ list_any (may_count own b) (items-the_row-DefBody k row)
  unfolding may_count
  may-row k end_of-DefBody = refl
  may-row k (more_of-DefBody part rest) = ap (λ c. may_count own b part || c) (may-row _ rest)

  pub may-Nothing : may_count own b Nothing ≡ false
  unfolding may_count
  may-Nothing = refl

  pub may-Assign : (left : List FlatExpr) (value : FlatExpr) (place at : ℕ) → may_count own b (Assign left value place at) ≡ may_be_own b (map flat_index left) own
  unfolding may_count
  may-Assign left value place at = refl

  pub may-If : (cond : FlatExpr) (x y : DefBody) → may_count own b (If cond x y) ≡ (may_count own b x || may_count own b y)
  unfolding may_count boxes
  may-If cond x y = refl

  pub may-First : (parts : List DefBody) → may_count own b (First parts) ≡ list_any (may_count own b) parts
  unfolding may_count
  may-First parts =
      let row : (k : Count) × Row_of-DefBody k = rows_of (First parts) in
      may-row row.0 row.1 ∙ ap (list_any (may_count own b)) (items_hidden-the_row-DefBody-1 parts)

  pub may-Forall : (var : ℕ) (over : Simple) (body : DefBody) → may_count own b (Forall var over body) ≡ (nat_lt var (length b) || may_count own b body)
  unfolding may_count boxes
  may-Forall var over body = refl

pub ruleset may_equations = (may-Nothing, may-Assign, may-If, may-First, may-Forall, length_map)

-- ---- what counts may count

get-front : (b more : List Place) (k : ℕ) (p : Place) → slice_get b k ≡ Some p → slice_get (b ++ more) k ≡ Some p
get-front [] more k p e = absurd (cc)
get-front (q ∷ b) more zero p e = e
get-front (q ∷ b) more (suc k) p e = get-front b more k p e

-- a variable that is bound here lies where it lies with more variables
bare-may : (b more : List Place) (var : ℕ) (q : Place) → is_bound_to (slice_get (b ++ more) var) q ≡ true → may_be (slice_get b var) q ≡ true
bare-may b more var q e = at (slice_get b var) refl
  where
    at : (o : Option Place) → slice_get b var ≡ o → may_be o q ≡ true
    at None f = refl
    at (Some p) f = subst (λ o. is_bound_to o q ≡ true) (get-front b more var p f) e

fit-may : (b more : List Place) (i : Index) (q : Place) → fits (b ++ more) i q ≡ true → may_fit b i q ≡ true
fit-may b more (fixed u) q e = refl
fit-may b more (bare var) q e = bare-may b more var q e
fit-may b more computed q e = refl

own-may : (b more : List Place) (is : List Index) (own : List Place) → is_own own is (b ++ more) ≡ true → may_be_own b is own ≡ true
own-may b more [] own e = refl
own-may b more (i ∷ is) [] e = refl
own-may b more (i ∷ is) (q ∷ own) e =
    let both : (fits (b ++ more) i q && is_own own is (b ++ more)) ≡ true = sym (own-cons i is q own (b ++ more)) ∙ e in
    and_both (fit-may b more i q (left_of (fits (b ++ more) i q) (is_own own is (b ++ more)) both)) (own-may b more is own (right_of (fits (b ++ more) i q) (is_own own is (b ++ more)) both))

take-behind : (b more : List Place) (n : ℕ) → length b ≤ n → take n (b ++ more) ≡ b ++ take (n - length b) more
take-behind [] more n l = ap (λ k. take k more) (omega arith)
take-behind (p ∷ b) more zero l = absurd (omega (arith, l))
take-behind (p ∷ b) more (suc n) l = ap (λ ps. p ∷ ps) (take-behind b more n (omega (arith, l)) ∙ ap (λ k. b ++ take k more) (omega arith))

again : (xs ys zs : List Place) → (xs ++ ys) ++ zs ≡ xs ++ (ys ++ zs)
again [] ys zs = refl
again (x ∷ xs) ys zs = ap (λ l. x ∷ l) (again xs ys zs)

module _ (every : Simple → List Place) (own b : List Place) where
  mutual
    unfolding may_count

    counting-may : (part : DefBody) (more : List Place) → has_counting every (is_own own) part (b ++ more) ≡ true → may_count own b part ≡ true
    counting-may Nothing more e = e
    counting-may (Assign left value place at) more e = own-may b more (map flat_index left) own e
    counting-may (If' cond l (more_of-DefBody left end_of-DefBody) r (more_of-DefBody right end_of-DefBody)) more e =
        elim (or_cases (has_counting every (is_own own) left (b ++ more)) (has_counting every (is_own own) right (b ++ more)) e) [
          | inl h ↦ either_left (may_count own b right) (counting-may left more h)
          | inr h ↦ either_right (may_count own b left) (counting-may right more h)
        ]
    counting-may (First' shape parts) more e = some-counting-may parts more e
    counting-may (Forall' var over shape (more_of-DefBody body end_of-DefBody)) more e = elim (cases_Bool (nat_lt var (length b))) [
      | inl t ↦ either_left (may_count own b body) t
      | inr f ↦
          let some = any-some (λ p. has_counting every (is_own own) body (bind_place (b ++ more) var p)) (every over) e in
          let behind : length b ≤ var = grind (arith, f) in
          let joined : bind_place (b ++ more) var some.0 ≡ b ++ (take (var - length b) more ++ some.0 ∷ []) = ap (λ ps. ps ++ some.0 ∷ []) (take-behind b more var behind) ∙ again b (take (var - length b) more) (some.0 ∷ []) in
          either_right (nat_lt var (length b)) (counting-may body (take (var - length b) more ++ some.0 ∷ []) (ap (has_counting every (is_own own) body) (sym joined) ∙ some.2))
    ]

    some-counting-may : {m : _} → (parts : Row_of-DefBody m) (more : List Place) → have_counting every (is_own own) parts (b ++ more) ≡ true → some_may_count own b parts ≡ true
    some-counting-may end_of-DefBody more e = e
    some-counting-may (more_of-DefBody part others) more e =
        elim (or_cases (has_counting every (is_own own) part (b ++ more)) (have_counting every (is_own own) others (b ++ more)) e) [
          | inl h ↦ either_left (some_may_count own b others) (counting-may part more h)
          | inr h ↦ either_right (may_count own b part) (some-counting-may others more h)
        ]

nothing-behind : (b : List Place) → b ++ [] ≡ b
nothing-behind [] = refl
nothing-behind (p ∷ b) = ap (λ ps. p ∷ ps) (nothing-behind b)

pub none-may : (v : View) (own b : List Spot) (part : DefBody) → may_count (places v own) (places v b) part ≡ false → counts_in v own b part ≡ false
unfolding counts_in
none-may v own b part e = elim (cases_Bool (has_counting (places_in (world_of v)) (is_own (places v own)) part (places v b))) [
  | inl t ↦
      absurd (never (may_count (places v own) (places v b) part)
      (counting-may (places_in (world_of v)) (places v own) (places v b) part [] (ap (has_counting (places_in (world_of v)) (is_own (places v own)) part) (nothing-behind (places v b)) ∙ t)) e)
  | inr f ↦ f
]
  where
    never : (b : Bool) → b ≡ true → b ≡ false → ⊥
    never b t f = absurd (cc)

pub ruleset none_may = (none-may)
