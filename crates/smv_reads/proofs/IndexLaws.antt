-- Which classes indexes may be, as they are written.
use Rattle.std.proofs.Common.{◌≡◌, ℕ, zero, suc, ◌+◌, ◌-◌, ◌<◌, ◌≤◌, List, [], ◌∷◌, ◌++◌, map, filter, length, drop, get_or, slice_get, Option, Some, None, Bool, true, false, refl, sym, ap, ◌∙◌, arith}
use Rattle.std.specs.List.{flat_map}
use Rattle.std.proofs.lemmas.List.{map-append}
use Rattle.law_lists.proofs.Lists.{append_again, filter-map, map-map}
use Rattle.smv_core.specs.Values.{numbers_from}
use Rattle.smv_core.specs.Assignments.{Index, fixed, bare, computed}
use Rattle.smv_core.specs.FlatMeaning.{flat_index}
use Rattle.smv_core.specs.declared.flat.Simple.{Simple}
use Rattle.smv_core.specs.declared.flat.Simple.TheVariants.{Range, Enum, Set}
use Rattle.smv_core.specs.declared.flat.SetInfo.{SetInfo}
use Rattle.smv_core.specs.declared.flat.Family.{Family}
use Rattle.smv_core.specs.declared.flat.Element.{Element}
use Rattle.smv_core.specs.declared.flat.Class.{Class}
use Rattle.smv_core.specs.declared.flat.Class.TheVariants as class
use Rattle.smv_core.specs.declared.flat.FlatExpr.{FlatExpr}
use Rattle.law_obligations.specs.Sets.{Has, first, later, one_of_each}
use Rattle.law_obligations.specs.Places.{Place, named, rest, named_in}
use Rattle.law_obligations.specs.Covers.{IsIndexType}
use Rattle.law_obligations.proofs.OneOfEach.{get_Has}
use Rattle.smv_core.specs.declared.abstract_type.AbsType.{AbsType}
use Rattle.law_obligations.specs.Cones.{element, index_places, each_index, elements_in}
use Rattle.law_problems.proofs.Writing.{choices_written}
use Rattle.smv_problem.specs.Written.{written_class, written_element}
use Rattle.smv_spots.specs.declared.spots.Spot.{Spot}
use Rattle.smv_spots.specs.declared.places.Sort.TheVariants as sort
use Rattle.smv_spots.specs.Spots.{of_set, spot_of, classes_of, IsWorld}
use Rattle.smv_spots.proofs.Numbers.{one_number}
use Rattle.smv_spots.proofs.TypeLaws.{range_named, classes_named}
use Rattle.smv_reads.specs.declared.bindings.View.{View}
use Rattle.smv_reads.specs.Views.{world_of, IsView, place_in, places, spot_in, classes_in, may_lie}
use Rattle.smv_reads.specs.Reading.{elements_from, choice_in, choices_in, read_at}

-- ---- places that an index may be

all-kept : {X : Type 0} (xs : List X) → xs ≡ filter (λ x. true) xs
all-kept [] = refl
all-kept (x ∷ xs) = ap (λ ys. x ∷ ys) (all-kept xs)

none-kept : {X : Type 0} (xs : List X) → [] ≡ filter (λ x. false) xs
none-kept [] = refl
none-kept (x ∷ xs) = none-kept xs

lying : (b : List Place) (i : Index) (ps : List Place) → index_places b i ps ≡ filter (may_lie b i) ps
lying b (fixed None) ps = none-kept ps
lying b (fixed (Some u)) ps = refl
lying b (bare var) ps = refl
lying b computed ps = all-kept ps

map-back : {X Y : Type 0} (f : X → Y) (g : Y → X) → ((x : X) → g (f x) ≡ x) → (xs : List X) → map g (map f xs) ≡ xs
map-back f g e [] = refl
map-back f g e (x ∷ xs) = ap (λ y. y ∷ map g (map f xs)) (e x) ∙ ap (λ ys. x ∷ ys) (map-back f g e xs)

-- ---- classes as spots

module _ (v : View) where
  pub class-back : (over : Simple) (c : Class) → written_class (place_in v (spot_in over c)) ≡ c
  class-back over (class.Number k) = refl
  class-back over (class.Named k) = at (slice_get v.design.now.sets _)
    where
      at : (o : Option SetInfo) → written_class (named (of_set o k)) ≡ class.Named k
      at None = refl
      at (Some info) = by info.ordered
        where
          by : (b : Bool) → written_class (named (of_set (Some (record info { ordered = b })) k)) ≡ class.Named k
          by true = refl
          by false = refl
  class-back over (class.Rest g) = at (slice_get v.design.now.sets _)
    where
      at : (o : Option SetInfo) → written_class (rest (of_set o g)) ≡ class.Rest g
      at None = refl
      at (Some info) = by info.ordered
        where
          by : (b : Bool) → written_class (rest (of_set (Some (record info { ordered = b })) g)) ≡ class.Rest g
          by true = refl
          by false = refl

  pub named-classes : IsWorld v.design.now v.types.now (world_of v) → (over : Simple) → IsIndexType over → named_in (world_of v) over ≡ map (λ c. place_in v (spot_in over c)) (classes_in v.types.now over)
  named-classes h (Range low high) i =
      sym (range_named v.design.now (world_of v) low high)
      ∙ map-map (place_in v) (spot_of sort.Number) (numbers_from low (high + 1 - low))
      ∙ sym (map-map (λ c. place_in v (spot_in (Range low high) c)) class.Number (numbers_from low (high + 1 - low)))
  named-classes h (Enum list) i = absurd i
  named-classes h (Set set) i =
      let n = classes_of (slice_get v.types.now set) in
      sym (classes_named v.design.now v.types.now (world_of v) set h)
      ∙ map-map (place_in v) (spot_of (sort.Class set)) (numbers_from 0 n)
      ∙ sym (map-map (λ c. place_in v (spot_in (Set set) c)) class.Named (numbers_from 0 n))

  -- all classes of a type, and those that an index may be
  pub all-classes : IsView v → (over : Simple) → IsIndexType over → map written_class (named_in (world_of v) over) ≡ classes_in v.types.now over
  all-classes h over i = ap (map written_class) (named-classes h.is_world over i) ∙ map-back (λ c. place_in v (spot_in over c)) written_class (class-back over) (classes_in v.types.now over)

  pub some-classes : IsView v → (b : List Spot) (i : Index) (over : Simple) → IsIndexType over →
      map written_class (index_places (places v b) i (named_in (world_of v) over)) ≡ filter (λ c. may_lie (places v b) i (place_in v (spot_in over c))) (classes_in v.types.now over)
  some-classes h b i over t =
      ap (map written_class)
      (lying (places v b) i (named_in (world_of v) over)
      ∙ ap (filter (may_lie (places v b) i)) (named-classes h.is_world over t)
      ∙ filter-map (may_lie (places v b) i) (λ c. place_in v (spot_in over c)) (classes_in v.types.now over))
      ∙ map-back (λ c. place_in v (spot_in over c)) written_class (class-back over) (filter (λ c. may_lie (places v b) i (place_in v (spot_in over c))) (classes_in v.types.now over))

  -- ---- choices

  pub choices-end : (b : List Spot) (indexes : List FlatExpr) → choices_in v b indexes [] ≡ []
  unfolding choices_in
  choices-end b [] = refl
  choices-end b (e ∷ indexes) = refl

  choices-none : (b : List Spot) (t : Simple) (over : List Simple) → choices_in v b [] (t ∷ over) ≡ choice_in v b None t ∷ choices_in v b [] over
  unfolding choices_in
  choices-none b t over = refl

  choices-more : (b : List Spot) (e : FlatExpr) (indexes : List FlatExpr) (t : Simple) (over : List Simple) →
      choices_in v b (e ∷ indexes) (t ∷ over) ≡ map written_class (index_places (places v b) (flat_index e) (named_in (world_of v) t)) ∷ choices_in v b indexes over
  unfolding choices_in
  choices-more b e indexes t over = refl

  drop-none : (k : ℕ) → drop {A = FlatExpr} k [] ≡ []
  drop-none zero = refl
  drop-none (suc k) = refl

  -- the choices of one index, and then of those behind it
  choices-turn : (b : List Spot) (indexes : List FlatExpr) (over : List Simple) (k : ℕ) (d : Simple) → k < length over →
      choices_in v b (drop k indexes) (drop k over) ≡ choice_in v b (slice_get indexes k) (get_or over k d) ∷ choices_in v b (drop (suc k) indexes) (drop (suc k) over)
  choices-turn b indexes [] k d l = absurd (omega arith)
  choices-turn b [] (u ∷ over) zero d l = choices-none b u over
  choices-turn b (x ∷ indexes) (u ∷ over) zero d l = choices-more b x indexes u over
  choices-turn b [] (u ∷ over) (suc k) d l = ap (λ (xs : List FlatExpr). choices_in v b xs (drop k over)) (sym (drop-none k)) ∙ choices-turn b [] over k d (omega arith)
  choices-turn b (x ∷ indexes) (u ∷ over) (suc k) d l = choices-turn b indexes over k d (omega arith)

  pub choices-kept : (b : List Spot) (indexes : List FlatExpr) (over : List Simple) (k : ℕ) (d : Simple) (done new all : List (List Class)) (x : List Class) (o : Option FlatExpr) → k < length over → new ≡ done ++ x ∷ [] → x ≡ choice_in v b o (get_or over k d) →
      o ≡ slice_get indexes k → done ++ choices_in v b (drop k indexes) (drop k over) ≡ all → new ++ choices_in v b (drop (k + 1) indexes) (drop (k + 1) over) ≡ all
  choices-kept b indexes over k d done new all x o l e f g h =
      let rest = choices_in v b (drop (suc k) indexes) (drop (suc k) over) in
      let next : k + 1 ≡ suc k = omega arith in
      ap (λ (n : ℕ). new ++ choices_in v b (drop n indexes) (drop n over)) next
      ∙ (ap (λ (css : List (List Class)). css ++ rest) e
      ∙ (append_again done rest x
      ∙ (ap (λ (cs : List Class). done ++ cs ∷ rest) (f ∙ ap (λ (o : Option FlatExpr). choice_in v b o (get_or over k d)) g)
      ∙ (ap (λ (css : List (List Class)). done ++ css) (sym (choices-turn b indexes over k d l)) ∙ h))))

  pub choices-over : (b : List Spot) (indexes : List FlatExpr) (over : List Simple) (k : ℕ) (done all : List (List Class)) → length over ≤ k → done ++ choices_in v b (drop k indexes) (drop k over) ≡ all → done ≡ all
  choices-over b indexes over k done all l h =
      sym (ap (λ (css : List (List Class)). done ++ css) (ap (λ (ts : List Simple). choices_in v b (drop k indexes) ts) (past over k l) ∙ choices-end b (drop k indexes)) ∙ nothing done) ∙ h
    where
      nothing : (css : List (List Class)) → css ++ [] ≡ css
      nothing [] = refl
      nothing (c ∷ css) = ap (λ ds. c ∷ ds) (nothing css)

      past : (ts : List Simple) (k : ℕ) → length ts ≤ k → drop k ts ≡ []
      past [] zero l = refl
      past [] (suc k) l = refl
      past (t ∷ ts) zero l = absurd (omega arith)
      past (t ∷ ts) (suc k) l = past ts k (omega arith)

  -- ---- references

  abbrev made : ℕ → List Class → List Class → Element
  made family front cs = record { family = family; indexes = front ++ cs }

  no-more : (cs : List Class) → cs ++ [] ≡ cs
  no-more [] = refl
  no-more (c ∷ cs) = ap (λ ds. c ∷ ds) (no-more cs)

  again : (cs : List Class) (c : Class) (ds : List Class) → cs ++ c ∷ ds ≡ (cs ++ c ∷ []) ++ ds
  again [] c ds = refl
  again (e ∷ cs) c ds = ap (λ l. e ∷ l) (again cs c ds)

  turned : (family : ℕ) (front : List Class) (c : Class) (dss : List (List Class)) → map (made family front) (map (λ ds. c ∷ ds) dss) ≡ map (made family (front ++ c ∷ [])) dss
  turned family front c [] = refl
  turned family front c (ds ∷ dss) = ap (λ (l : List Class). record { family = family; indexes = l } ∷ map (made family front) (map (λ ds. c ∷ ds) dss)) (again front c ds) ∙ ap (λ l. made family (front ++ c ∷ []) ds ∷ l) (turned family front c dss)

  each-front : (family : ℕ) (front : List Class) (more : List (List Class)) → ((c : Class) → map (made family (front ++ c ∷ [])) (one_of_each more) ≡ elements_from family (front ++ c ∷ []) more) → (cs : List Class) →
      map (made family front) (flat_map (λ c. map (λ ds. c ∷ ds) (one_of_each more)) cs) ≡ flat_map (λ c. elements_from family (front ++ c ∷ []) more) cs
  each-front family front more goes [] = refl
  each-front family front more goes (c ∷ cs) =
      map-append (made family front) (map (λ ds. c ∷ ds) (one_of_each more)) (flat_map (λ c. map (λ ds. c ∷ ds) (one_of_each more)) cs)
      ∙ ap (λ l. l ++ map (made family front) (flat_map (λ c. map (λ ds. c ∷ ds) (one_of_each more)) cs)) (turned family front c (one_of_each more) ∙ goes c)
      ∙ ap (λ l. elements_from family (front ++ c ∷ []) more ++ l) (each-front family front more goes cs)

  from-front : (family : ℕ) (front : List Class) (css : List (List Class)) → map (made family front) (one_of_each css) ≡ elements_from family front css
  from-front family front [] = ap (λ (cs : List Class). record { family = family; indexes = cs } ∷ []) (no-more front)
  from-front family front (cs ∷ more) = each-front family front more (λ c. from-front family (front ++ c ∷ []) more) cs

  pub reads-none : (b : List Spot) (family : ℕ) (indexes : List FlatExpr) → slice_get v.design.now.families family ≡ None → read_at v b family indexes ≡ []
  unfolding read_at
  reads-none b family indexes e = ap (λ o. map written_element (elements_in (world_of v) family (map flat_index indexes) (places v b) o)) e

  pub reads-some : (b : List Spot) (family : ℕ) (indexes : List FlatExpr) (f : Family) → slice_get v.design.now.families family ≡ Some f → read_at v b family indexes ≡ elements_from family [] (choices_in v b indexes f.over)
  unfolding read_at choices_in
  reads-some b family indexes f e =
      let pss = each_index (places v b) (map flat_index indexes) (map (named_in (world_of v)) f.over) in
      ap (λ o. map written_element (elements_in (world_of v) family (map flat_index indexes) (places v b) o)) e
      ∙ map-map written_element (element family) (one_of_each pss)
      ∙ sym (map-map (λ (cs : List Class). record { family = family; indexes = cs }) (map written_class) (one_of_each pss))
      ∙ ap (map (λ (cs : List Class). record { family = family; indexes = cs })) (choices_written pss)
      ∙ from-front family [] (map (map written_class) pss)

-- ---- the numbers of a range and the classes of a set type, one by one

more-made : (make : ℕ → Class) (done new all : List Class) (i end : ℕ) → i < end → new ≡ done ++ make i ∷ [] → done ++ map make (numbers_from i (end - i)) ≡ all → new ++ map make (numbers_from (i + 1) (end - (i + 1))) ≡ all
more-made make done new all i end l e h = ap (λ (cs : List Class). cs ++ map make (numbers_from (i + 1) (end - (i + 1)))) e ∙ one_number make done (make i) i end all l refl h

pub more-numbers : (done new all : List Class) (i end : ℕ) → i < end → new ≡ done ++ class.Number i ∷ [] → done ++ map class.Number (numbers_from i (end - i)) ≡ all → new ++ map class.Number (numbers_from (i + 1) (end - (i + 1))) ≡ all
more-numbers done new all i end l e h = more-made class.Number done new all i end l e h

pub more-names : (done new all : List Class) (i end : ℕ) → i < end → new ≡ done ++ class.Named i ∷ [] → done ++ map class.Named (numbers_from i (end - i)) ≡ all → new ++ map class.Named (numbers_from (i + 1) (end - (i + 1))) ≡ all
more-names done new all i end l e h = more-made class.Named done new all i end l e h

-- a set type has few classes
pub few-at : (types : List AbsType) (k : ℕ) → ((t : AbsType) → Has types t → t.named ≤ 256) → classes_of (slice_get types k) ≤ 256
few-at types k few = at (slice_get types k) refl
  where
    at : (o : Option AbsType) → slice_get types k ≡ o → classes_of o ≤ 256
    at None e = omega arith
    at (Some t) e = few t (get_Has types k t e)

-- what is kept, where all are looked at
pub all-taken : (done : List Class) (f : Class → Bool) (xs : List Class) (k : ℕ) → length xs ≤ k → done ++ filter f (drop k xs) ≡ filter f xs → done ≡ filter f xs
all-taken done f xs k l e = sym (ap (λ (cs : List Class). done ++ filter f cs) (past xs k l) ∙ nothing done) ∙ e
  where
    nothing : (cs : List Class) → cs ++ [] ≡ cs
    nothing [] = refl
    nothing (c ∷ cs) = ap (λ ds. c ∷ ds) (nothing cs)

    past : (cs : List Class) (k : ℕ) → length cs ≤ k → drop k cs ≡ []
    past [] zero l = refl
    past [] (suc k) l = refl
    past (c ∷ cs) zero l = absurd (omega arith)
    past (c ∷ cs) (suc k) l = past cs k (omega arith)

pub item-Has : {X : Type 0} (xs : List X) (k : ℕ) (d : X) → k < length xs → Has xs (get_or xs k d)
item-Has [] k d l = absurd (omega arith)
item-Has (x ∷ xs) zero d l = first
item-Has (x ∷ xs) (suc k) d l = later (item-Has xs k d (omega arith))
