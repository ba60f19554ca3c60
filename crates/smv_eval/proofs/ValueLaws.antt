-- The answers of `may` are the outcomes of the expression, as they are written.
use Rattle.std.proofs.Common.{◌≡◌, ◌≢◌, ℕ, zero, suc, ◌+◌, ◌<◌, ◌≤◌, List, [], ◌∷◌, ◌++◌, map, length, drop, get_or, min, Bool, true, false, not, ◌&&◌, ◌||◌, if◌then◌else◌, cond, refl, sym, ap, subst, ◌∙◌, ◌⊎◌, inl, inr, Option, Some, None, option_map, bytes_eq, nat_eq, nat_lt, arith}
use Rattle.std.specs.Prelude.{unwrap_or, position}
use Rattle.std.specs.List.{slice_get, list_any, position_or_len}
use Rattle.law_lists.proofs.Numbers.{nat_eq-is}
use Rattle.law_lists.proofs.Booleans.{and_both, left_of, right_of}
use Rattle.law_lists.proofs.Options.{some_is}
use Rattle.smv_core.specs.Values.{scalar, ordinal}
use Rattle.smv_core.specs.FlatMeaning.{Numbered}
use Rattle.smv_core.specs.declared.flat.SetInfo.{SetInfo}
use Rattle.smv_core.specs.declared.flat.Simple.{Simple}
use Rattle.smv_core.specs.declared.flat.Simple.TheVariants.{Range, Enum, Set}
use Rattle.smv_core.specs.declared.flat.Family.{Family}
use Rattle.smv_core.specs.declared.flat.FlatText.{FlatText}
use Rattle.smv_core.specs.declared.flat.FlatExpr.{FlatExpr, Number, Read', Var, Loop, Constant, Not', And', Or', Implies', Iff', Compare', Within', Sum', Modulo', Choose, Choose', All', Any', List', Each', end_of-FlatExpr, more_of-FlatExpr}
use Rattle.law_obligations.specs.Sets.{Has, first, later}
use Rattle.law_obligations.specs.Places.{Place, named, rest, World, AbsOutcome}
use Rattle.law_obligations.specs.May.{AbsState, may}
use Rattle.law_obligations.specs.Pictures.{IsAbsState}
use Rattle.law_obligations.specs.Covers.{IsIndexType}
use Rattle.law_obligations.proofs.Members.{Has-left, Has-right, Has-cases, Has-map, Has-from_map, Has-uncons, any-found, any-some}
use Rattle.law_obligations.proofs.Same.{nat_eq-itself, same_outcome, same_outcome-itself, same_outcome-is}
use Rattle.law_obligations.proofs.Computing.{computing}
use Rattle.law_obligations.proofs.OneOfEach.{get_Has}
use Rattle.law_obligations.specs.Outlines.{place_of}
use Rattle.law_designs.specs.FlatKinds as kinds
use Rattle.law_designs.specs.FlatKinds.{FlatKind, enumeration, set_type, kind_of, joins, joined}
use Rattle.law_obligations.specs.Readings.{PosedCase}
use Rattle.smv_spots.specs.declared.spots.Spot.{Spot}
use Rattle.smv_spots.specs.declared.spots.Spot.TheVariants as spot
use Rattle.smv_spots.specs.Spots.{place_in as place_at, outcome_in, of_set}
use Rattle.smv_problem.specs.declared.problem.AbsValue.{AbsValue}
use Rattle.smv_problem.specs.declared.problem.AbsValue.TheVariants as value
use Rattle.smv_problem.specs.declared.problem.AbsState.{AbsState as StateData}
use Rattle.smv_problem.specs.declared.problem.Problem.{Problem}
use Rattle.smv_problem.specs.Written.{written, written_spot, written_outcome, written_constant}
use Rattle.smv_problem.specs.WellFormed.{IsWellFormed, IsOfKind, OfStates, as_flat_text}
use Rattle.smv_typed_spots.proofs.TypedLaws.{spots_placed}
use Rattle.smv_problem_spots.specs.Worlds.{IsWorldOf, count_at, name_at, name_number_at}
use Rattle.law_worlds.proofs.Worlds.{world_of_case}
use Rattle.smv_conditions.specs.declared.stores.Plain.{Plain}
use Rattle.smv_conditions.specs.declared.offers.Offer.{Offer}
use Rattle.smv_conditions.specs.Offers.{any_offer, AreOffersMade}
use Rattle.smv_cells.specs.declared.cells.Cell.{Cell}
use Rattle.smv_cells.specs.Cells.{AreCellsMade}
use Rattle.smv_cells.specs.Seen.{View, IsSeen, outcomes}
use Rattle.smv_outcomes.specs.Outcomes.{AreOffersOf}
use Rattle.smv_eval.specs.States.{plainly, view_of}
use Rattle.smv_eval.specs.Answers.{AreOnce, IsSetOf, list_of, list_over, list_for, list_in, place_in, constant_in, value_at, is_same_value, with_value, with_offer, with_offers}
use Rattle.smv_eval.proofs.Narrow.{Narrow, IsNarrow, outcomes_narrow}

-- plain conditions are made everywhere
offers_made : (offers : List (Offer Bool)) → AreOffersMade (λ (c : Bool). Unit {0}) offers
offers_made [] = tt
offers_made (o ∷ offers) = (tt, offers_made offers)

pub cells_made : (cells : List (Cell Bool)) → AreCellsMade (λ (c : Bool). Unit {0}) cells
cells_made [] = tt
cells_made (c ∷ cells) = (offers_made c.values, cells_made cells)

-- that of a conditional is that of its first branch
choose_list : (families : List Family) (test left right : FlatExpr) → list_in families (Choose test left right) ≡ list_in families left
unfolding computing
choose_list families test left right = refl

pub chosen_list : (families : List Family) (whole test left right of : FlatExpr) (r : Option ℕ) → whole ≡ Choose test left right → of ≡ left → r ≡ list_in families of → r ≡ list_in families whole
chosen_list families whole test left right of r is o e = e ∙ (ap (list_in families) o ∙ (sym (choose_list families test left right) ∙ sym (ap (list_in families) is)))

-- ---- the enumeration of a kind

pub kind_list : (t : Simple) → list_over t ≡ list_of (kind_of t)
kind_list (Range low high) = refl
kind_list (Enum list) = refl
kind_list (Set set) = refl

joined_list : (k l : FlatKind) → joins k l ≡ true → list_of (joined k l) ≡ list_of k
joined_list FlatKind.number FlatKind.number j = refl
joined_list FlatKind.number (enumeration l) j = absurd (cc)
joined_list FlatKind.number (set_type s) j = refl
joined_list (enumeration k) l j = refl
joined_list (set_type s) l j = refl

number_is : (b : Bool) (kind : FlatKind) → kinds.number_if b ≡ Some kind → None ≡ list_of kind
number_is true kind e = ap list_of (some_is e)
number_is false kind e = absurd (cc)

-- no variable is of an enumeration
abbrev NoLists : List FlatKind → Type 0
NoLists vars = (k : FlatKind) → Has vars k → list_of k ≡ None

module _ (flat_text : FlatText) (families : List Family) (same : flat_text.families ≡ families) where
  choose_kind : (cond left right : Option FlatKind) (kind : FlatKind) → kinds.chosen cond left right ≡ Some kind → (k : FlatKind) × (left ≡ Some k) × (list_of k ≡ list_of kind)
  choose_kind cond left right kind e = at (kinds.takes FlatKind.number cond) e
    where
      after : (k : FlatKind) (right : Option FlatKind) → kinds.common_after k (right ∷ []) ≡ Some kind → list_of k ≡ list_of kind
      after k None e = absurd (cc)
      after k (Some o) e = by (joins k o) refl e
        where
          by : (b : Bool) → joins k o ≡ b → (if b then Some (joined k o) else None) ≡ Some kind → list_of k ≡ list_of kind
          by true j e = sym (joined_list k o j) ∙ ap list_of (some_is e)
          by false j e = absurd (cc)

      of_left : (left : Option FlatKind) → kinds.common (left ∷ right ∷ []) ≡ Some kind → (k : FlatKind) × (left ≡ Some k) × (list_of k ≡ list_of kind)
      of_left None e = absurd (cc)
      of_left (Some k) e = (k, refl, after k right e)

      at : (b : Bool) → (if b then kinds.common (left ∷ right ∷ []) else None) ≡ Some kind → (k : FlatKind) × (left ≡ Some k) × (list_of k ≡ list_of kind)
      at true e = of_left left e
      at false e = absurd (cc)

  read_kind : (o : Option Family) (indexes : List (Option FlatKind)) (kind : FlatKind) → kinds.element o indexes ≡ Some kind → list_for o ≡ list_of kind
  read_kind None indexes kind e = absurd (cc)
  read_kind (Some f) indexes kind e = at (kinds.take_each f.over indexes) e
    where
      at : (b : Bool) → (if b then Some (kind_of f.value) else None) ≡ Some kind → list_over f.value ≡ list_of kind
      at true e = kind_list f.value ∙ ap list_of (some_is e)
      at false e = absurd (cc)

  constant_kind : (list value : ℕ) (kind : FlatKind) → kinds.constant flat_text list value ≡ Some kind → Some list ≡ list_of kind
  constant_kind list value kind e = at (nat_lt value (length (get_or flat_text.enums list []))) e
    where
      at : (b : Bool) → (if b then Some (enumeration list) else None) ≡ Some kind → Some list ≡ list_of kind
      at true e = ap list_of (some_is e)
      at false e = absurd (cc)

  list_is : (vars : List FlatKind) → NoLists vars → (e : FlatExpr) (kind : FlatKind) → kinds.kind_in flat_text vars e ≡ Some kind → list_in families e ≡ list_of kind
  list_is vars none (Number value at) kind e = ap list_of (some_is e)
  list_is vars none (Read' family shape indexes at) kind e = ap (λ fs. list_for (slice_get fs family)) (sym same) ∙ read_kind (slice_get flat_text.families family) (kinds.kinds_in flat_text vars indexes) kind e
  list_is vars none (Var var at) kind e = sym (none kind (get_Has vars var kind e))
  list_is vars none (Loop value at) kind e = ap list_of (some_is e)
  list_is vars none (Constant list value at) kind e = constant_kind list value kind e
  list_is vars none (Not' shape (more_of-FlatExpr of end_of-FlatExpr) at) kind e = number_is _ kind e
  list_is vars none (And' shape parts) kind e = number_is _ kind e
  list_is vars none (Or' shape parts) kind e = number_is _ kind e
  list_is vars none (Implies' shape parts) kind e = number_is _ kind e
  list_is vars none (Iff' l (more_of-FlatExpr left end_of-FlatExpr) r (more_of-FlatExpr right end_of-FlatExpr)) kind e = number_is _ kind e
  list_is vars none (Compare' op l (more_of-FlatExpr left end_of-FlatExpr) r (more_of-FlatExpr right end_of-FlatExpr)) kind e = number_is _ kind e
  list_is vars none (Within' l (more_of-FlatExpr left end_of-FlatExpr) r (more_of-FlatExpr set end_of-FlatExpr)) kind e = number_is _ kind e
  list_is vars none (Sum' f (more_of-FlatExpr head end_of-FlatExpr) shape more) kind e = number_is _ kind e
  list_is vars none (Modulo' shape (more_of-FlatExpr of end_of-FlatExpr) by at) kind e = number_is _ kind e
  list_is vars none (Choose' c (more_of-FlatExpr test end_of-FlatExpr) l (more_of-FlatExpr left end_of-FlatExpr) r (more_of-FlatExpr right end_of-FlatExpr)) kind e =
      let k = choose_kind (kinds.kind_in flat_text vars test) (kinds.kind_in flat_text vars left) (kinds.kind_in flat_text vars right) kind e in
      list_is vars none left k.0 k.1 ∙ k.2
  list_is vars none (All' shape (more_of-FlatExpr body end_of-FlatExpr) var over at) kind e = number_is _ kind e
  list_is vars none (Any' shape (more_of-FlatExpr body end_of-FlatExpr) var over at) kind e = number_is _ kind e
  list_is vars none (List' shape members at) kind e = absurd (cc)
  list_is vars none (Each' var over test at) kind e = absurd (cc)

index_lists : (over : List Simple) → ((t : Simple) → Has over t → IsIndexType t) → NoLists (map kind_of over)
index_lists over each k h = let r = Has-from_map kind_of over h in subst (λ k. list_of k ≡ None) (sym r.2) (at r.0 (each r.0 r.1))
  where
    at : (t : Simple) → IsIndexType t → list_of (kind_of t) ≡ None
    at (Range low high) i = refl
    at (Enum list) i = absurd i
    at (Set set) i = refl

-- ---- outcomes as they are written

next_place : {X : Type 0} (p : X → Bool) (x : X) (xs : List X) → position p (x ∷ xs) ≡ (if p x then Some 0 else option_map (λ k. suc k) (position p xs))
next_place p x xs = at (p x) (position_or_len p xs) (length xs)
  where
    at : (b : Bool) (k n : ℕ) → cond (nat_lt (cond (not b) (1 + k) 0) (suc n)) (Some (cond (not b) (1 + k) 0)) None ≡ (if b then Some 0 else option_map (λ k. suc k) (cond (nat_lt k n) (Some k) None))
    at true k n = ap (λ b. cond b (Some 0) None) (positive n)
      where
        positive : (n : ℕ) → nat_lt 0 (suc n) ≡ true
        positive n = grind arith
    at false k n = ap (λ b. cond b (Some (1 + k)) None) (same_test k n) ∙ (ap (λ m. cond (nat_lt k n) (Some m) None) (one_more k) ∙ by (nat_lt k n))
      where
        one_more : (k : ℕ) → 1 + k ≡ suc k
        one_more k = omega arith

        same_test : (k n : ℕ) → nat_lt (1 + k) (suc n) ≡ nat_lt k n
        same_test k n = grind arith

        by : (b : Bool) → cond b (Some (suc k)) None ≡ option_map (λ k. suc k) (cond b (Some k) None)
        by true = refl
        by false = refl

-- the first place at which tests pass that agree at each place
same_position : {X Y : Type 0} (f : X → Bool) (g : Y → Bool) (d : X) (e : Y) (xs : List X) (ys : List Y) → length xs ≡ length ys → ((i : ℕ) → f (get_or xs i d) ≡ g (get_or ys i e)) → place_of f xs ≡ position g ys
same_position f g d e [] [] long each = refl
same_position f g d e [] (y ∷ ys) long each = absurd (omega arith)
same_position f g d e (x ∷ xs) [] long each = absurd (omega arith)
same_position f g d e (x ∷ xs) (y ∷ ys) long each =
    ap (λ b. if b then Some 0 else option_map (λ k. suc k) (place_of f xs)) (each 0)
    ∙ (ap (λ o. if g y then Some 0 else option_map (λ k. suc k) o) (same_position f g d e xs ys (omega arith) (λ i. each (suc i))) ∙ sym (next_place g y ys))

-- a place is within the list
within : {X : Type 0} (f : X → Bool) (xs : List X) → unwrap_or (position f xs) 0 ≤ length xs
within f xs = at (position_or_len f xs) (length xs)
  where
    at : (k n : ℕ) → unwrap_or (cond (nat_lt k n) (Some k) None) 0 ≤ n
    at k n = by (nat_lt k n) refl
      where
        by : (b : Bool) → nat_lt k n ≡ b → unwrap_or (cond b (Some k) None) 0 ≤ n
        by true e = grind (arith, e)
        by false e = omega arith

least : (k n : ℕ) → k ≤ n → min k n ≡ k
least k n l = grind (arith, l)

module _ (p : Problem) (w : World) (is : IsWorldOf p w) where
  constant_written : (list other k : ℕ) → value.Constant (place_in p list (name_number_at p.names other k)) ≡ written_constant w.classes (enumeration list) (name_at w.classes.enums other k)
  constant_written list other k =
      let n = name_number_at p.names other k in
      let long : unwrap_or (position (nat_eq n) (get_or p.names list [])) 0 ≤ count_at p.lists list = subst (λ m. unwrap_or (position (nat_eq n) (get_or p.names list [])) 0 ≤ m) (is.names list) (within (nat_eq n) (get_or p.names list [])) in
      ap value.Constant (least (unwrap_or (position (nat_eq n) (get_or p.names list [])) 0) (count_at p.lists list) long)
      ∙ ap (λ o. value.Constant (unwrap_or o 0)) (sym (same_position (bytes_eq (name_at w.classes.enums other k)) (nat_eq n) [] 0 (get_or w.classes.enums list []) (get_or p.names list []) (is.lists list ∙ sym (is.names list)) (λ i. is.constants other k list i)))

  by_kind : (kind : FlatKind) (other k : ℕ) → constant_in p (list_of kind) (name_number_at p.names other k) ≡ written_constant w.classes kind (name_at w.classes.enums other k)
  by_kind FlatKind.number other k = refl
  by_kind (set_type set) other k = refl
  by_kind (enumeration list) other k = constant_written list other k

  class_written : (kind : FlatKind) (o : Option SetInfo) (k : ℕ) → Narrow (named (of_set o k)) → value.Named (min k 255) ≡ written_outcome w.classes kind (Some (named (of_set o k)))
  class_written kind None k n = ap value.Named (least k 255 n)
  class_written kind (Some info) k n = at info.ordered n
    where
      at : (b : Bool) → Narrow (named (if b then ordinal info.name k else scalar info.name k)) → value.Named (min k 255) ≡ written_outcome w.classes kind (Some (named (if b then ordinal info.name k else scalar info.name k)))
      at true n = ap value.Named (least k 255 n)
      at false n = ap value.Named (least k 255 n)

  rest_written : (kind : FlatKind) (o : Option SetInfo) (g : ℕ) → Narrow (rest (of_set o g)) → value.Rest (min g 255) ≡ written_outcome w.classes kind (Some (rest (of_set o g)))
  rest_written kind None g n = ap value.Rest (least g 255 n)
  rest_written kind (Some info) g n = at info.ordered n
    where
      at : (b : Bool) → Narrow (rest (if b then ordinal info.name g else scalar info.name g)) → value.Rest (min g 255) ≡ written_outcome w.classes kind (Some (rest (if b then ordinal info.name g else scalar info.name g)))
      at true n = ap value.Rest (least g 255 n)
      at false n = ap value.Rest (least g 255 n)

  pub value_written : (kind : FlatKind) (outcome : Option Spot) → IsNarrow (outcome_in w.classes outcome) → value_at p (list_of kind) outcome ≡ written_outcome w.classes kind (outcome_in w.classes outcome)
  value_written kind None n = refl
  value_written kind (Some (spot.Number k)) n = refl
  value_written kind (Some (spot.Constant other k)) n = by_kind kind other k
  value_written kind (Some (spot.Class set k)) n = class_written kind (slice_get w.classes.sets set) k n
  value_written kind (Some (spot.Rest set g)) n = rest_written kind (slice_get w.classes.sets set) g n

-- ---- values that are gathered

same_value-itself : (v : AbsValue) → is_same_value v v ≡ true
same_value-itself (value.Number k) = nat_eq-itself k
same_value-itself (value.Constant k) = nat_eq-itself k
same_value-itself (value.Named k) = nat_eq-itself k
same_value-itself (value.Rest k) = nat_eq-itself k
same_value-itself value.Undefined = refl

same_value-is : (v u : AbsValue) → is_same_value v u ≡ true → v ≡ u
same_value-is (value.Number k) (value.Number l) e = ap value.Number (nat_eq-is k l e)
same_value-is (value.Number k) (value.Constant l) e = absurd (cc)
same_value-is (value.Number k) (value.Named l) e = absurd (cc)
same_value-is (value.Number k) (value.Rest l) e = absurd (cc)
same_value-is (value.Number k) value.Undefined e = absurd (cc)
same_value-is (value.Constant k) (value.Constant l) e = ap value.Constant (nat_eq-is k l e)
same_value-is (value.Constant k) (value.Number l) e = absurd (cc)
same_value-is (value.Constant k) (value.Named l) e = absurd (cc)
same_value-is (value.Constant k) (value.Rest l) e = absurd (cc)
same_value-is (value.Constant k) value.Undefined e = absurd (cc)
same_value-is (value.Named k) (value.Named l) e = ap value.Named (nat_eq-is k l e)
same_value-is (value.Named k) (value.Number l) e = absurd (cc)
same_value-is (value.Named k) (value.Constant l) e = absurd (cc)
same_value-is (value.Named k) (value.Rest l) e = absurd (cc)
same_value-is (value.Named k) value.Undefined e = absurd (cc)
same_value-is (value.Rest k) (value.Rest l) e = ap value.Rest (nat_eq-is k l e)
same_value-is (value.Rest k) (value.Number l) e = absurd (cc)
same_value-is (value.Rest k) (value.Constant l) e = absurd (cc)
same_value-is (value.Rest k) (value.Named l) e = absurd (cc)
same_value-is (value.Rest k) value.Undefined e = absurd (cc)
same_value-is value.Undefined value.Undefined e = refl
same_value-is value.Undefined (value.Number l) e = absurd (cc)
same_value-is value.Undefined (value.Constant l) e = absurd (cc)
same_value-is value.Undefined (value.Named l) e = absurd (cc)
same_value-is value.Undefined (value.Rest l) e = absurd (cc)

once_more : (values : List AbsValue) (v : AbsValue) → list_any (is_same_value v) values ≡ false → AreOnce values → AreOnce (values ++ v ∷ [])
once_more [] v e once = ((λ y h. elim h [ ]), tt)
once_more (x ∷ values) v e once = at (is_same_value v x) refl e (λ e. once_more values v e once.1)
  where
    unlike : is_same_value v x ≡ false → x ≡ v → ⊥
    unlike f s = clash (same_value-itself v) (subst (λ y. is_same_value v y ≡ false) s f)
      where
        clash : {b : Bool} → b ≡ true → b ≡ false → ⊥
        clash p q = cc

    apart : is_same_value v x ≡ false → (y : AbsValue) → Has (values ++ v ∷ []) y → x ≢ y
    apart f y h s = elim (Has-cases values (v ∷ []) h) [
      | inl l ↦ once.0 y l s
      | inr r ↦ elim (Has-uncons r) [ inl k ↦ unlike f (s ∙ k) | inr k ↦ elim k [ ] ]
    ]

    at : (b : Bool) → is_same_value v x ≡ b → (b || list_any (is_same_value v) values) ≡ false → (list_any (is_same_value v) values ≡ false → AreOnce (values ++ v ∷ [])) → AreOnce (x ∷ (values ++ v ∷ []))
    at true i e goes = absurd (cc)
    at false i e goes = (apart i, goes e)

module _ (values : List AbsValue) (v : AbsValue) where
  value_kept : (u : AbsValue) → Has values u → Has (with_value values v) u
  value_kept u h = at (list_any (is_same_value v) values)
    where
      at : (b : Bool) → Has (if b then values else values ++ v ∷ []) u
      at true = h
      at false = Has-left (v ∷ []) h

  value_added : Has (with_value values v) v
  value_added = at (list_any (is_same_value v) values) refl
    where
      at : (b : Bool) → list_any (is_same_value v) values ≡ b → Has (if b then values else values ++ v ∷ []) v
      at true e = let r = any-some (is_same_value v) values e in subst (Has values) (sym (same_value-is v r.0 r.2)) r.1
      at false e = Has-right values first

  value_from : (u : AbsValue) → Has (with_value values v) u → Has values u ⊎ (u ≡ v)
  value_from u h = at (list_any (is_same_value v) values) h
    where
      at : (b : Bool) → Has (if b then values else values ++ v ∷ []) u → Has values u ⊎ (u ≡ v)
      at true h = inl h
      at false h = elim (Has-cases values (v ∷ []) h) [ inl l ↦ inl l | inr r ↦ elim (Has-uncons r) [ inl k ↦ inr k | inr k ↦ elim k [ ] ] ]

  value_once : AreOnce values → AreOnce (with_value values v)
  value_once once = at (list_any (is_same_value v) values) refl
    where
      at : (b : Bool) → list_any (is_same_value v) values ≡ b → AreOnce (if b then values else values ++ v ∷ [])
      at true e = once
      at false e = once_more values v e once

-- where a value is from
record IsOffered (p : Problem) (list : Option ℕ) (offers : List (Offer Bool)) (v : AbsValue) : Type 0 where
  offer : Offer Bool
  is_there : Has offers offer
  is_possible : offer.when ≡ true
  is_value : v ≡ value_at p list offer.outcome

module _ (p : Problem) (list : Option ℕ) where
  offers_keep : (offers : List (Offer Bool)) (values : List AbsValue) (v : AbsValue) → Has values v → Has (with_offers p list values offers) v
  offers_keep [] values v h = h
  offers_keep (o ∷ offers) values v h = offers_keep offers (if o.when then with_value values (value_at p list o.outcome) else values) v (at o.when)
    where
      at : (b : Bool) → Has (if b then with_value values (value_at p list o.outcome) else values) v
      at true = value_kept values (value_at p list o.outcome) v h
      at false = h

  offers_each : (offers : List (Offer Bool)) (values : List AbsValue) (o : Offer Bool) → Has offers o → o.when ≡ true → Has (with_offers p list values offers) (value_at p list o.outcome)
  offers_each [] values o h e = elim h [ ]
  offers_each (_ ∷ offers) values o first e =
      offers_keep offers (if o.when then with_value values (value_at p list o.outcome) else values) (value_at p list o.outcome)
      (subst (λ b. Has (if b then with_value values (value_at p list o.outcome) else values) (value_at p list o.outcome)) (sym e) (value_added values (value_at p list o.outcome)))
  offers_each (x ∷ offers) values o (later h) e = offers_each offers (if x.when then with_value values (value_at p list x.outcome) else values) o h e

  offers_from : (offers : List (Offer Bool)) (values : List AbsValue) (v : AbsValue) → Has (with_offers p list values offers) v → Has values v ⊎ IsOffered p list offers v
  offers_from [] values v h = inl h
  offers_from (o ∷ offers) values v h = elim (offers_from offers (if o.when then with_value values (value_at p list o.outcome) else values) v h) [
    | inl l ↦ at o.when refl l
    | inr r ↦ inr (record { offer = r.offer; is_there = later r.is_there; is_possible = r.is_possible; is_value = r.is_value })
  ]
    where
      at : (b : Bool) → o.when ≡ b → Has (if b then with_value values (value_at p list o.outcome) else values) v → Has values v ⊎ IsOffered p list (o ∷ offers) v
      at true e h = elim (value_from values (value_at p list o.outcome) v h) [ inl l ↦ inl l | inr k ↦ inr (record { offer = o; is_there = first; is_possible = e; is_value = k }) ]
      at false e h = inl h

  offers_once : (offers : List (Offer Bool)) (values : List AbsValue) → AreOnce values → AreOnce (with_offers p list values offers)
  offers_once [] values once = once
  offers_once (o ∷ offers) values once = offers_once offers (if o.when then with_value values (value_at p list o.outcome) else values) (at o.when)
    where
      at : (b : Bool) → AreOnce (if b then with_value values (value_at p list o.outcome) else values)
      at true = value_once values (value_at p list o.outcome) once
      at false = once

-- ---- the answer

-- offers whose tests are those of a list, each written, are the list as it is written
module _ (p : Problem) (w : World) (is : IsWorldOf p w) (kind : FlatKind) (offers : List (Offer Bool)) (us : List AbsOutcome)
    (same : (q : AbsOutcome → Bool) → list_any (λ (o : Offer Bool). o.when && q (outcome_in w.classes o.outcome)) offers ≡ list_any q us) (narrow : (u : AbsOutcome) → Has us u → IsNarrow u) where
  offered : (o : Offer Bool) → Has offers o → o.when ≡ true → Has us (outcome_in w.classes o.outcome)
  offered o h e =
      let u = outcome_in w.classes o.outcome in
      let r = any-some (same_outcome u) us (sym (same (same_outcome u)) ∙ any-found (λ (o : Offer Bool). o.when && same_outcome u (outcome_in w.classes o.outcome)) h (and_both e (same_outcome-itself u))) in
      subst (Has us) (sym (same_outcome-is u r.0 r.2)) r.1

  is_written : (o : Offer Bool) → Has offers o → o.when ≡ true → value_at p (list_of kind) o.outcome ≡ written_outcome w.classes kind (outcome_in w.classes o.outcome)
  is_written o h e = value_written p w is kind o.outcome (narrow (outcome_in w.classes o.outcome) (offered o h e))

  set_answered : IsSetOf (map (written_outcome w.classes kind) us) (with_offers p (list_of kind) [] offers)
  set_answered = record {
    each = λ v h.
        let r = Has-from_map (written_outcome w.classes kind) us h in
        let u = r.0 in
        let f = any-some (λ (o : Offer Bool). o.when && same_outcome u (outcome_in w.classes o.outcome)) offers (same (same_outcome u) ∙ any-found (same_outcome u) r.1 (same_outcome-itself u)) in
        let o = f.0 in
        let e = left_of o.when (same_outcome u (outcome_in w.classes o.outcome)) f.2 in
        let s = same_outcome-is u (outcome_in w.classes o.outcome) (right_of o.when (same_outcome u (outcome_in w.classes o.outcome)) f.2) in
        subst (Has (with_offers p (list_of kind) [] offers)) (is_written o f.1 e ∙ (ap (written_outcome w.classes kind) (sym s) ∙ sym r.2)) (offers_each p (list_of kind) offers [] o f.1 e);
    only = λ v h. elim (offers_from p (list_of kind) offers [] v h) [
      | inl k ↦ elim k [ ]
      | inr r ↦ subst (Has (map (written_outcome w.classes kind) us)) (sym (r.is_value ∙ is_written r.offer r.is_there r.is_possible)) (Has-map (written_outcome w.classes kind) (offered r.offer r.is_there r.is_possible))
    ];
    once = offers_once p (list_of kind) offers [] tt;
  }

-- what is offered at plain conditions
plain_offers : (n : Numbered) (s : Plain) (q : AbsOutcome → Bool) (offers : List (Offer Bool)) → any_offer n plainly s (λ v. false) q offers ≡ list_any (λ (o : Offer Bool). o.when && q (outcome_in n o.outcome)) offers
unfolding any_offer
plain_offers n s q offers = refl

module _ (c : PosedCase) (well : IsWellFormed c) (p : Problem) (is : p ≡ written c) (a : AbsState) (state : IsAbsState c.problem.world c.problem.kept a) (e : FlatExpr) (over : List Simple) (b : List Place) (kind : FlatKind)
    (index_types : (t : Simple) → Has over t → IsIndexType t) (of_kind : IsOfKind c e over b kind) (spots : List Spot) (bound : spots ≡ map (written_spot c.problem.world.classes) b) where
  families_are : p.families ≡ c.problem.world.classes.families
  unfolding written
  families_are = ap (λ (q : Problem). q.families) is

  kind_is : list_in p.families e ≡ list_of kind
  kind_is = list_is (as_flat_text c.problem.world.classes) p.families (sym families_are) (map kind_of over) (index_lists over index_types) e kind of_kind.has_kind

  places_are : map (place_at c.problem.world.classes) spots ≡ b
  places_are = ap (map (place_at c.problem.world.classes)) bound ∙ spots_placed c.problem.world well.set_types over b of_kind.are_of

  outcomes_are : (v : ℕ → Bool) → outcomes (view_of c a) v e spots ≡ may c.problem.world c.problem.kept a e b
  unfolding outcomes
  outcomes_are v = ap (may c.problem.world c.problem.kept a e) places_are

  answered : (s : Plain) (offers : List (Offer Bool)) → AreOffersOf plainly s (view_of c a) e spots offers → IsSetOf (map (written_outcome c.problem.world.classes kind) (may c.problem.world c.problem.kept a e b)) (with_offers p (list_in p.families e) [] offers)
  unfolding AreOffersOf
  answered s offers are =
      subst (λ list. IsSetOf (map (written_outcome c.problem.world.classes kind) (may c.problem.world c.problem.kept a e b)) (with_offers p list [] offers)) (sym kind_is)
      (set_answered p c.problem.world (subst (λ (q : Problem). IsWorldOf q c.problem.world) (sym is) (world_of_case c well)) kind offers (may c.problem.world c.problem.kept a e b)
      (λ q. sym (plain_offers c.problem.world.classes s q offers) ∙ (are (λ v. false) q ∙ ap (list_any q) (outcomes_are (λ v. false)))) (outcomes_narrow c well a state e over b of_kind.are_of))

pub may_answered : (p : Problem) (state : StateData) (e : FlatExpr) (spots : List Spot) (s t : Plain) (cells sliced : List (Cell Bool)) (offers given : List (Offer Bool)) (list : Option ℕ) (values : List AbsValue) →
    OfStates p state (λ c a. (s : Plain) → IsSeen plainly s p cells (view_of c a)) → sliced ≡ cells → ((v : View) → IsSeen plainly s p sliced v → AreOffersOf plainly t v e spots offers) → given ≡ offers → list ≡ list_in p.families e → values ≡ with_offers p list [] given →
    OfStates p state (λ c a. (over : List Simple) (b : List Place) (kind : FlatKind) → ((t : Simple) → Has over t → IsIndexType t) → IsOfKind c e over b kind → spots ≡ map (written_spot c.problem.world.classes) b →
    IsSetOf (map (written_outcome c.problem.world.classes kind) (may c.problem.world c.problem.kept a e b)) values)
may_answered p state e spots s t cells sliced offers given list values seen is_sliced are is_given is_list is_values c is well a abs same over b kind index_types of_kind bound =
    subst (IsSetOf (map (written_outcome c.problem.world.classes kind) (may c.problem.world c.problem.kept a e b))) (sym (is_values ∙ (ap (λ l. with_offers p l [] given) is_list ∙ ap (with_offers p (list_in p.families e) []) is_given)))
    (answered c well p is a abs e over b kind index_types of_kind spots bound t offers (are (view_of c a) (subst (λ cells. IsSeen plainly s p cells (view_of c a)) (sym is_sliced) (seen c is well a abs same s))))

-- ---- offers one after the other

pub one_offer : (p : Problem) (list : Option ℕ) (values more all : List AbsValue) (offers : List (Offer Bool)) (i : ℕ) (o d : Offer Bool) → i < length offers → o ≡ get_or offers i d → more ≡ with_offer p list values o →
    with_offers p list values (drop i offers) ≡ all → with_offers p list more (drop (i + 1) offers) ≡ all
one_offer p list values more all offers i o d l is e h = ap (λ vs. with_offers p list vs (drop (i + 1) offers)) (e ∙ ap (with_offer p list values) is) ∙ (sym (ap (with_offers p list values) (split offers i l)) ∙ h)
  where
    split : (offers : List (Offer Bool)) (i : ℕ) → i < length offers → drop i offers ≡ get_or offers i d ∷ drop (i + 1) offers
    split [] i l = absurd (omega arith)
    split (x ∷ offers) zero l = refl
    split (x ∷ offers) (suc i) l = split offers i (omega arith) ∙ ap (λ (k : ℕ). get_or offers i d ∷ drop k (x ∷ offers)) (next i)
      where
        next : (i : ℕ) → suc (i + 1) ≡ suc i + 1
        next i = omega arith

pub no_offer : (p : Problem) (list : Option ℕ) (values all : List AbsValue) (offers : List (Offer Bool)) (i : ℕ) → length offers ≤ i → with_offers p list values (drop i offers) ≡ all → values ≡ all
no_offer p list values all offers i l h = sym (ap (with_offers p list values) (none offers i l)) ∙ h
  where
    none : (offers : List (Offer Bool)) (i : ℕ) → length offers ≤ i → drop i offers ≡ []
    none [] zero l = refl
    none [] (suc i) l = refl
    none (x ∷ offers) zero l = absurd (omega arith)
    none (x ∷ offers) (suc i) l = none offers i (omega arith)
