-- The numbers of cells: how many there are, and how they follow one another.
use Rattle.std.proofs.Common.{◌≡◌, ℕ, zero, suc, ◌+◌, ◌-◌, ◌*◌, ◌<◌, ◌≤◌, List, [], ◌∷◌, ◌++◌, map, filter, length, get_or, take, drop, slice_get, Option, Some, None, Bool, true, false, cond, nat_eq, refl, sym, ap, ◌∙◌, arith}
use Rattle.std.specs.List.{flat_map}
use Rattle.std.proofs.lemmas.List.{map-append, append-nil, append_assoc, length-append}
use Rattle.std.proofs.lemmas.List.Concat.{flat_map-append}
use Rattle.law_lists.proofs.Lists.{map_agree}
use Rattle.law_lists.proofs.Numbers.{nat_eq-is, nat_eq-above, nat_eq-below}
use Rattle.smv_core.specs.Values.{number, numbers_from}
use Rattle.smv_core.specs.Assignments.{Index, computed, fits, fixed}
use Rattle.smv_core.specs.declared.flat.Simple.{Simple}
use Rattle.smv_core.specs.declared.flat.Simple.TheVariants.{Range, Enum, Set}
use Rattle.smv_core.specs.declared.flat.Family.{Family}
use Rattle.smv_core.specs.declared.flat.Cell.{Cell}
use Rattle.law_designs.specs.Loops.{at_index, is_constant, cells_of}
use Rattle.smv_loops.specs.Cells.{picked, every, digit, place, base, over_of, number_in}
use Rattle.smv_loops.proofs.Slices.{split}
use Rattle.smv_loops.specs.Numbers.{places, digit_places, places_at, range_places, single_places}

-- ---- how many there are

all_kept : (n low : ℕ) → length (map Some (filter (λ k. fits computed (number k)) (numbers_from low n))) ≡ n
all_kept zero low = refl
all_kept (suc n) low = let e = all_kept n (low + 1) in omega (arith, e)

pub choices-Range : (low high : ℕ) → length (at_index (Range low high) computed) ≡ high + 1 - low
choices-Range low high = all_kept (high + 1 - low) low

pub choices-Enum : (list : ℕ) → length (at_index (Enum list) computed) ≡ 1
choices-Enum list = refl

pub choices-Set : (set : ℕ) → length (at_index (Set set) computed) ≡ 1
choices-Set set = refl

module _ {X : Type 0} where
  pub length-map : {Y : Type 0} (f : X → Y) (xs : List X) → length (map f xs) ≡ length xs
  length-map f [] = refl
  length-map f (x ∷ xs) = ap suc (length-map f xs)

module _ {X : Type 0} where
  pub length-fronts : (ws : List (List X)) (xs : List X) → length (flat_map (λ (x : X). map (λ (w : List X). x ∷ w) ws) xs) ≡ length xs * length ws
  length-fronts ws [] = omega arith
  length-fronts ws (x ∷ xs) =
      let l = length-append (map (λ w. x ∷ w) ws) (flat_map (λ (x : X). map (λ (w : List X). x ∷ w) ws) xs) in
      let m = length-map (λ w. x ∷ w) ws in
      let e = length-fronts ws xs in
      omega (arith, l, m, e)

pub count-cons : (o : Simple) (over : List Simple) → length (every (o ∷ over)) ≡ 1 + length (at_index o computed) * length (every over)
count-cons o over = let e = length-fronts (every over) (at_index o computed) in omega (arith, e)

-- ---- the cells with some indexes

map-map : {X Y Z : Type 0} (f : X → Y) (g : Y → Z) (xs : List X) → map g (map f xs) ≡ map (λ x. g (f x)) xs
map-map f g [] = refl
map-map f g (x ∷ xs) = ap (λ l. g (f x) ∷ l) (map-map f g xs)

module _ (low high : ℕ) (i : Index) (over : List Simple) (more : List Index) (start : ℕ) where
  abbrev at_place : List (Option ℕ) → ℕ
  at_place js = start + place (Range low high ∷ over) js

  picked-some : (ks : List ℕ) → map at_place (flat_map (λ x. map (λ xs. x ∷ xs) (picked over more)) (map Some (filter (λ k. fits i (number k)) ks))) ≡ flat_map (places_at low i over more start) ks
  picked-some [] = refl
  picked-some (k ∷ ks) = at (fits i (number k)) (picked-some ks)
    where
      rest : List (Option ℕ) → ℕ
      rest = at_place

      at : (b : Bool) → map at_place (flat_map (λ x. map (λ xs. x ∷ xs) (picked over more)) (map Some (filter (λ k. fits i (number k)) ks))) ≡ flat_map (places_at low i over more start) ks →
          map at_place (flat_map (λ x. map (λ xs. x ∷ xs) (picked over more)) (map Some (cond b (k ∷ filter (λ k. fits i (number k)) ks) (filter (λ k. fits i (number k)) ks))))
          ≡ cond b (map (λ js. start + (1 + ((k - low) * length (every over) + place over js))) (picked over more)) [] ++ flat_map (places_at low i over more start) ks
      at true e =
          map-append at_place (map (λ xs. Some k ∷ xs) (picked over more)) _
          ∙ ap (λ l. l ++ map at_place (flat_map (λ x. map (λ xs. x ∷ xs) (picked over more)) (map Some (filter (λ k. fits i (number k)) ks)))) (map-map (λ xs. Some k ∷ xs) at_place (picked over more))
          ∙ ap (λ l. map (λ js. start + (1 + ((k - low) * length (every over) + place over js))) (picked over more) ++ l) e
      at false e = e

  pub picked-Range : map at_place (picked (Range low high ∷ over) (i ∷ more)) ≡ range_places low high i over more start
  picked-Range = picked-some (numbers_from low (high + 1 - low))

module _ (i : Index) (over : List Simple) (more : List Index) (start : ℕ) where
  abbrev none_at : Simple → List (Option ℕ) → ℕ
  none_at o js = start + place (o ∷ over) js

  picked-single : (o : Simple) (b : Bool) → digit o None ≡ 0 → map (none_at o) (flat_map (λ x. map (λ xs. x ∷ xs) (picked over more)) (cond b [] (None ∷ []))) ≡ cond b [] (map (λ js. start + (1 + place over js)) (picked over more))
  picked-single o true d = refl
  picked-single o false d =
      ap (map (none_at o)) (append-nil (map (λ xs. None ∷ xs) (picked over more)))
      ∙ map-map (λ xs. None ∷ xs) (none_at o) (picked over more)
      ∙ map_agree (λ js. none_at o (None ∷ js)) (λ js. start + (1 + place over js)) (λ js. let z = ap (λ t. t * length (every over)) d in omega (arith, z)) (picked over more)

  pub places-Range : (low high : ℕ) → places (Range low high ∷ over) (i ∷ more) start ≡ range_places low high i over more start
  places-Range low high = picked-Range low high i over more start

  pub places-Enum : (list : ℕ) → places (Enum list ∷ over) (i ∷ more) start ≡ single_places i over more start
  places-Enum list = picked-single (Enum list) (is_constant i) refl

  pub places-Set : (set : ℕ) → places (Set set ∷ over) (i ∷ more) start ≡ single_places i over more start
  places-Set set = picked-single (Set set) (is_constant i) refl

  pub places-none : is_constant i ≡ true → single_places i over more start ≡ []
  places-none e = ap (λ b. cond b [] (map (λ js. start + (1 + place over js)) (picked over more))) e

  pub places-one : (next : ℕ) → is_constant i ≡ false → next ≡ start + (1 + 0 * 0) → single_places i over more start ≡ places over more next
  places-one next e n =
      ap (λ b. cond b [] (map (λ js. start + (1 + place over js)) (picked over more))) e
      ∙ map_agree (λ js. start + (1 + place over js)) (λ js. next + place over js) (λ js. omega (arith, n)) (picked over more)

  pub places-unfit : (digit k : ℕ) → fits i (number k) ≡ false → digit_places digit i over more start k ≡ []
  places-unfit digit k e = ap (λ b. cond b (map (λ js. start + (1 + (digit * length (every over) + place over js))) (picked over more)) []) e

  pub places-fit : (digit k next size : ℕ) → fits i (number k) ≡ true → size ≡ length (every over) → next ≡ start + (1 + digit * size) → digit_places digit i over more start k ≡ places over more next
  places-fit digit k next size e s n =
      ap (λ b. cond b (map (λ js. start + (1 + (digit * length (every over) + place over js))) (picked over more)) []) e
      ∙ map_agree (λ js. start + (1 + (digit * length (every over) + place over js))) (λ js. next + place over js) (λ js. let t = ap (λ s. digit * s) s in omega (arith, n, t)) (picked over more)

-- ---- numbers one after another

above : (m n : ℕ) → nat_eq m n ≡ false → n ≤ m → n < m
above m n e l = grind arith

pub numbers-more : (low n : ℕ) → numbers_from low (suc n) ≡ numbers_from low n ++ (low + n) ∷ []
numbers-more low zero = let e : low ≡ low + 0 = omega arith in ap (λ k. k ∷ []) e
numbers-more low (suc n) =
    let e : low + 1 + n ≡ low + suc n = omega arith in
    ap (λ l. low ∷ l) (numbers-more (low + 1) n ∙ ap (λ k. numbers_from (low + 1) n ++ k ∷ []) e)

pub places-more : (low k : ℕ) (g : ℕ → List ℕ) → low ≤ k → flat_map g (numbers_from low (k + 1 - low)) ≡ flat_map g (numbers_from low (k - low)) ++ g k
places-more low k g l =
    let n : k + 1 - low ≡ suc (k - low) = omega arith in
    let m : low + (k - low) ≡ k = omega arith in
    ap (λ n. flat_map g (numbers_from low n)) n
    ∙ ap (flat_map g) (numbers-more low (k - low))
    ∙ flat_map-append g (numbers_from low (k - low)) ((low + (k - low)) ∷ [])
    ∙ ap (λ l. flat_map g (numbers_from low (k - low)) ++ l) (append-nil (g (low + (k - low))))
    ∙ ap (λ j. flat_map g (numbers_from low (k - low)) ++ g j) m

-- none of these numbers gives anything
none-of : (g : ℕ → List ℕ) (low n : ℕ) → ((k : ℕ) → low ≤ k → g k ≡ []) → flat_map g (numbers_from low n) ≡ []
none-of g low zero h = refl
none-of g low (suc n) h = ap (λ l. l ++ flat_map g (numbers_from (low + 1) n)) (h low (omega arith)) ∙ none-of g (low + 1) n (λ k l. h k (omega (arith, l)))

none-below : (g : ℕ → List ℕ) (v low n : ℕ) → ((k : ℕ) → nat_eq v k ≡ false → g k ≡ []) → low + n ≤ v → flat_map g (numbers_from low n) ≡ []
none-below g v low zero h l = refl
none-below g v low (suc n) h l = ap (λ l. l ++ flat_map g (numbers_from (low + 1) n)) (h low (nat_eq-above v low (omega (arith, l)))) ∙ none-below g v (low + 1) n h (omega (arith, l))

-- one of them alone does
one-of : (g : ℕ → List ℕ) (v low n : ℕ) → ((k : ℕ) → nat_eq v k ≡ false → g k ≡ []) → low ≤ v → v < low + n → flat_map g (numbers_from low n) ≡ g v
one-of g v low zero h a b = absurd (omega (arith, a, b))
one-of g v low (suc n) h a b = by (nat_eq v low) refl (one-of g v (low + 1) n h)
  where
    by : (t : Bool) → nat_eq v low ≡ t → (low + 1 ≤ v → v < low + 1 + n → flat_map g (numbers_from (low + 1) n) ≡ g v) → g low ++ flat_map g (numbers_from (low + 1) n) ≡ g v
    by true e rest =
        let same : v ≡ low = nat_eq-is v low e in
        ap (λ l. g low ++ l) (none-of g (low + 1) n (λ k l. h k (nat_eq-below v k (omega (arith, l, same))))) ∙ append-nil (g low) ∙ ap g (sym same)
    by false e rest =
        let l : low < v = above v low e a in
        ap (λ l. l ++ flat_map g (numbers_from (low + 1) n)) (h low e) ∙ rest (omega (arith, l)) (omega (arith, b))

-- the places of a constant over a range
module _ (low high value : ℕ) (over : List Simple) (more : List Index) (start : ℕ) where
  other-number : (k : ℕ) → nat_eq value k ≡ false → places_at low (fixed (Some (number value))) over more start k ≡ []
  other-number k e = places-unfit (fixed (Some (number value))) over more start (k - low) k e

  pub fixed-in : low ≤ value → value ≤ high → range_places low high (fixed (Some (number value))) over more start ≡ digit_places (value - low) (fixed (Some (number value))) over more start value
  fixed-in a b = one-of (places_at low (fixed (Some (number value))) over more start) value low (high + 1 - low) other-number a (omega (arith, a, b))

  pub fixed-below : value < low → range_places low high (fixed (Some (number value))) over more start ≡ []
  fixed-below l = none-of (places_at low (fixed (Some (number value))) over more start) low (high + 1 - low) (λ k m. other-number k (nat_eq-below value k (omega (arith, l, m))))

  pub fixed-above : low ≤ value → high < value → range_places low high (fixed (Some (number value))) over more start ≡ []
  fixed-above a l = none-below (places_at low (fixed (Some (number value))) over more start) value low (high + 1 - low) other-number (omega (arith, a, l))

pub base-more : (families : List Family) (k : ℕ) (f : Family) → k < length families → f ≡ get_or families k f → base families (k + 1) ≡ base families k + length (every f.over)
base-more [] k f l e = absurd (omega (arith, l))
base-more (g ∷ families) zero f l e = at families (ap (λ (f : Family). length (every f.over)) e)
  where
    at : (families : List Family) → length (every f.over) ≡ length (every g.over) → length (every g.over) + base families 0 ≡ 0 + length (every f.over)
    at [] h = omega (arith, h)
    at (x ∷ xs) h = omega (arith, h)
base-more (g ∷ families) (suc k) f l e =
    let h = base-more families k f (omega (arith, l)) e in
    let n : suc k + 1 ≡ suc (k + 1) = omega arith in
    ap (base (g ∷ families)) n ∙ omega (arith, h)

pub base-none : (families : List Family) → base families 0 ≡ 0
base-none [] = refl
base-none (f ∷ families) = refl

pub places-step : (low k : ℕ) (g : ℕ → List ℕ) (init out new : List ℕ) → low ≤ k → out ≡ init ++ flat_map g (numbers_from low (k - low)) → new ≡ out ++ g k → new ≡ init ++ flat_map g (numbers_from low (k + 1 - low))
places-step low k g init out new l e f =
    f ∙ ap (λ l. l ++ g k) e ∙ append_assoc init (flat_map g (numbers_from low (k - low))) (g k) ∙ ap (λ l. init ++ l) (sym (places-more low k g l))

-- the count of a list of types that has a first one
pub count-split : (over : List Simple) (d : Simple) (choices rest : ℕ) → 1 ≤ length over → choices ≡ length (at_index (get_or over 0 d) computed) → rest ≡ length (every (take (length over - 1) (drop 1 over))) → 0 + (1 + choices * rest) ≡ length (every over)
count-split over d choices rest l c r =
    let e = count-cons (get_or over 0 d) (take (length over - 1) (drop 1 over)) in
    let s = ap (λ over. length (every over)) (split over d l) in
    let p : choices * rest ≡ length (at_index (get_or over 0 d) computed) * length (every (take (length over - 1) (drop 1 over))) = ap (λ n. n * rest) c ∙ ap (λ n. length (at_index (get_or over 0 d) computed) * n) r in
    omega (arith, e, s, p)

-- the numbers of a family's cells
pub number-cells : (families : List Family) (family : ℕ) (f : Family) (is : List Index) → slice_get families family ≡ Some f → map (number_in families) (cells_of (slice_get families family) family is) ≡ places f.over is (base families family)
number-cells families family f is e =
    ap (λ g. map (number_in families) (cells_of g family is)) e
    ∙ map-map (cell_of family) (number_in families) (picked f.over is)
    ∙ map_agree (λ js. number_in families (cell_of family js)) (λ js. base families family + place f.over js) (λ js. ap (λ g. base families family + place (over_of g) js) e) (picked f.over is)
  where
    cell_of : ℕ → List (Option ℕ) → Cell
    cell_of family indexes = record { family = family; indexes = indexes }

pub ruleset fixing = (fixed-in, fixed-below, fixed-above)

pub ruleset placing = (places-Range, places-Enum, places-Set)

pub ruleset counts = (choices-Range, choices-Enum, choices-Set, count-cons, base-more, base-none)
