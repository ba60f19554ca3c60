-- A case of a leaf of a checked script, as the search for its cone takes it.
use Rattle.std.proofs.Common.{◌≡◌, ℕ, suc, ◌+◌, ◌-◌, ◌<◌, ◌≤◌, List, [], ◌∷◌, map, length, Bool, true, false, if◌then◌else◌, refl, sym, ap, subst, ◌∙◌, inl, inr, Option, Some, None, arith}
use Rattle.std.specs.Prelude.{unwrap_or}
use Rattle.std.specs.List.{slice_get}
use Rattle.smv_core.specs.Values.{scalar, ordinal, scalarset, ordset, numbers_from}
use Rattle.smv_core.specs.FlatMeaning.{simple_in, set_type}
use Rattle.smv_core.specs.declared.flat.Simple.{Simple}
use Rattle.smv_core.specs.declared.flat.Simple.TheVariants.{Range, Enum, Set}
use Rattle.smv_core.specs.declared.flat.SetInfo.{SetInfo}
use Rattle.smv_core.specs.declared.flat.Param.{Param}
use Rattle.smv_core.specs.declared.flat.Design.{Design}
use Rattle.smv_core.specs.declared.flat.Unit.{Unit}
use Rattle.smv_core.specs.declared.flat.Unit.TheVariants as unit
use Rattle.smv_core.specs.declared.flat.Leaf.{Leaf}
use Rattle.smv_core.specs.declared.flat.Choice.{Choice}
use Rattle.smv_core.specs.declared.flat.Keep.{Keep}
use Rattle.smv_core.specs.declared.flat.Class.{Class}
use Rattle.smv_core.specs.declared.flat.Class.TheVariants.{Number, Named, Rest}
use Rattle.smv_core.specs.declared.abstract_type.AbsType.{AbsType}
use Rattle.smv_core.specs.declared.abstract_type.Rest.TheVariants as beside
use Rattle.law_obligations.specs.Sets.{Has, first, later}
use Rattle.law_obligations.specs.Places.{Place, named, rest, World}
use Rattle.law_obligations.specs.Cases.{Treatment, ordered, Parameter, used, named_among, listed_classes, abstract_type, type_in, candidates, numbered}
use Rattle.law_obligations.specs.Covers.{place_at, places_at, by_name, AreApart}
use Rattle.law_obligations.specs.LeafCases.{kept_of, treatment_of, treatments_of, stays, parameters_of}
use Rattle.law_obligations.proofs.Members.{Has-from_map, Has-uncons}
use Rattle.law_obligations.proofs.OneOfEach.{AreOf, are_of}
use Rattle.law_obligations.proofs.CoverNames.{by_name-at}
use Rattle.law_obligations.specs.Reached.{IsLeast}
use Rattle.smv_core.specs.declared.fault.Fault.{Fault}
use Rattle.law_obligations.specs.Soundness.{FlatUnit, map_of, claim_of}
use Rattle.law_lists.proofs.Lists.{length_map, map-map}
use Rattle.law_lists.proofs.Numbers.{nat_lt-true, nat_lt-false}
use Rattle.law_obligations.specs.Outlines.{Entry, Outline, Script, entries_of, outline_of, names_of, unit_in}
use Rattle.law_obligations.specs.Units.{units_of, script_of}
use Rattle.law_obligations.specs.Cones.{first_elements, next_elements, cone}
use Rattle.law_obligations.specs.Problems.{leaf_treatments, world_of, params_at}
use Rattle.law_obligations.specs.Checked.{IsSplit, IsFilled}
use Rattle.law_obligations.proofs.Lookups.{Has-from_filter}
use Rattle.law_obligations.proofs.LeastCones.{cone_is_least}
use Rattle.law_problems.specs.Parts.{outlined, entry_of, world_with, cone_with, bits_with, place_of_unit, fault_at_unit, width_fault}
use Rattle.law_problems.proofs.Forms.{among-is, listed-are, class-below, named-few}
use Rattle.smv_cases.specs.Types.{types_of}
use Rattle.smv_cases.specs.Faults as cases_faults
use Rattle.law_obligations.specs.Readings.{bits_of_all}
use Rattle.law_obligations.proofs.CoverOrdsets.{used_most}
use Rattle.smv_problem.specs.Written.{written_class}
use Rattle.smv_spots.specs.declared.spots.Spot.{Spot}
use Rattle.smv_spots.specs.Spots.{of_set, AreTypes}
use Rattle.smv_reads.specs.declared.bindings.View.{View}
use Rattle.smv_reads.specs.Views as view
use Rattle.smv_reads.specs.Views.{world_by, IsView, place_in, places, spot_in}
use Rattle.smv_reads.proofs.IndexLaws.{class-back}
use Rattle.smv_cone.specs.declared.parts.Part.{Part}
use Rattle.smv_cone.specs.Parts as parts
use Rattle.smv_cone.specs.Parts.{spots_in, IsPartView, IsPartOf}
use Rattle.smv_chosen_table.specs.Tables.{IsTable}
use Rattle.smv_cone.specs.Searching.{HasLeast}

-- ---- lists

units-are : (us : List Unit) (leaves : List Leaf) (choices : List Choice) → length leaves ≡ length us → length choices ≡ length us → map (λ entry. entry.unit) (entries_of us leaves choices) ≡ us
units-are [] leaves choices l c = refl
units-are (u ∷ us) [] choices l c = absurd (omega arith)
units-are (u ∷ us) (leaf ∷ leaves) [] l c = absurd (omega arith)
units-are (u ∷ us) (leaf ∷ leaves) (choice ∷ choices) l c = ap (λ us. u ∷ us) (units-are us leaves choices (omega arith) (omega arith))

-- ---- few classes

all-below : (treatments : List Treatment) (count : ℕ) (params : List Parameter) (classes : List Class) → AreOf (map (λ (p : Parameter). candidates treatments count p.over) params) classes → (k : ℕ) → Has classes (Named k) → k < count
all-below treatments count [] [] are k h = elim h [ ]
all-below treatments count [] (c ∷ classes) are k h = elim are [ ]
all-below treatments count (p ∷ params) [] are k h = elim are [ ]
all-below treatments count (p ∷ params) (_ ∷ classes) are k first = class-below treatments count p.over k are.0
all-below treatments count (p ∷ params) (c ∷ classes) are k (later h) = all-below treatments count params classes are.1 k h

-- a treatment is that of a set type
treated : (keeps : List Keep) (k : ℕ) (sets : List SetInfo) (x : ℕ × Treatment) → Has (numbered k (treatments_of keeps k sets)) x → (info : SetInfo) × Has sets info × (keep : Option (List ℕ)) × (x.1 ≡ treatment_of info.ordered info.size keep)
treated keeps k [] x h = elim h [ ]
treated keeps k (info ∷ sets) x h = elim (Has-uncons h) [
  | inl e ↦ (info, first, kept_of keeps k, ap (λ (x : ℕ × Treatment). x.1) e)
  | inr l ↦ let r = treated keeps (k + 1) sets x l in (r.0, later r.1, r.2, r.3)
]

-- ---- the abstract forms of set types

numbered-long : {X : Type 0} (f : ℕ × Treatment → X) (keeps : List Keep) (k : ℕ) (sets : List SetInfo) → length (map f (numbered k (treatments_of keeps k sets))) ≡ length sets
numbered-long f keeps k [] = refl
numbered-long f keeps k (info ∷ sets) = ap suc (numbered-long f keeps (k + 1) sets)

module _ (d : Design) (types : List AbsType) (apart : AreApart d.sets) where
  forms : (k : ℕ) (infos : List SetInfo) (ts : List AbsType) → ((j : ℕ) (info : SetInfo) → slice_get infos j ≡ Some info → slice_get d.sets (k + j) ≡ Some info) → ((j : ℕ) (t : AbsType) → slice_get ts j ≡ Some t → slice_get types (k + j) ≡ Some t) →
      length ts ≡ length infos → AreTypes (world_by d types) infos ts
  forms k [] [] f g l = tt
  forms k [] (t ∷ ts) f g l = absurd (omega arith)
  forms k (info ∷ infos) [] f g l = absurd (omega arith)
  forms k (info ∷ infos) (t ∷ ts) f g l =
      let is : by_name (record { named = 0; rest = beside.None }) d.sets types info.name ≡ t = by_name-at (record { named = 0; rest = beside.None }) d.sets types (k + 0) info t apart (f 0 info refl) (g 0 t refl) in (
        ap (λ (a : AbsType). a.named) is,
        ap (λ (a : AbsType). a.rest) is,
        forms (k + 1) infos ts (λ j i e. ap (slice_get d.sets) (omega arith) ∙ f (suc j) i e) (λ j u e. ap (slice_get types) (omega arith) ∙ g (suc j) u e) (omega arith),
      )

  all-forms : length types ≡ length d.sets → AreTypes (world_by d types) d.sets types
  all-forms l = forms 0 d.sets types (λ j i e. ap (slice_get d.sets) (omega arith) ∙ e) (λ j t e. ap (slice_get types) (omega arith) ∙ e) l

-- ---- parameters

-- a class or a rest of a set type that is there
class-place : (info : SetInfo) (k : ℕ) → named (of_set (Some info) k) ≡ place_at (set_type (Some info)) (Named k)
class-place info k = at info.ordered
  where
    at : (b : Bool) → named (if b then ordinal info.name k else scalar info.name k) ≡ place_at (if b then ordset info.name else scalarset info.name) (Named k)
    at true = refl
    at false = refl

rest-place : (info : SetInfo) (g : ℕ) → rest (of_set (Some info) g) ≡ place_at (set_type (Some info)) (Rest g)
rest-place info g = at info.ordered
  where
    at : (b : Bool) → rest (if b then ordinal info.name g else scalar info.name g) ≡ place_at (if b then ordset info.name else scalarset info.name) (Rest g)
    at true = refl
    at false = refl

module _ (v : View) (treatments : List Treatment) (count : ℕ) where
  not-named : (low n k : ℕ) → Has (map Number (numbers_from low n)) (Named k) → ⊥
  not-named low n k h = clash (Has-from_map Number (numbers_from low n) h).2
    where
      clash : {m : ℕ} → Named k ≡ Number m → ⊥
      clash e = cc

  not-rest : (low n g : ℕ) → Has (map Number (numbers_from low n)) (Rest g) → ⊥
  not-rest low n g h = clash (Has-from_map Number (numbers_from low n) h).2
    where
      clash : {m : ℕ} → Rest g ≡ Number m → ⊥
      clash e = cc

  place-is : (t : Simple) (c : Class) → Has (candidates treatments count t) c → IsFilled v.design.now t → place_in v (spot_in t c) ≡ place_at (simple_in (names_of v.design.now) t) c
  place-is t (Number k) h f = refl
  place-is (Range low high) (Named k) h f = absurd (not-named low (high + 1 - low) k h)
  place-is (Range low high) (Rest g) h f = absurd (not-rest low (high + 1 - low) g h)
  place-is (Enum list) (Named k) h f = elim h [ ]
  place-is (Enum list) (Rest g) h f = elim h [ ]
  place-is (Set set) (Named k) h f = ap (λ (o : Option SetInfo). named (of_set o k)) f.1 ∙ (class-place f.0 k ∙ sym (ap (λ (o : Option SetInfo). place_at (set_type o) (Named k)) f.1))
  place-is (Set set) (Rest g) h f = ap (λ (o : Option SetInfo). rest (of_set o g)) f.1 ∙ (rest-place f.0 g ∙ sym (ap (λ (o : Option SetInfo). place_at (set_type o) (Rest g)) f.1))

  places-are : (params : List Parameter) (classes : List Class) → AreOf (map (λ (p : Parameter). candidates treatments count p.over) params) classes → ((p : Parameter) → Has params p → IsFilled v.design.now p.over) →
      places v (spots_in (map (λ (p : Parameter). p.over) params) classes) ≡ places_at (names_of v.design.now) params classes
  places-are [] [] h f = refl
  places-are [] (c ∷ classes) h f = elim h [ ]
  places-are (p ∷ params) [] h f = elim h [ ]
  places-are (p ∷ params) (c ∷ classes) h f =
      ap (λ (q : Place). q ∷ places v (spots_in (map (λ (p : Parameter). p.over) params) classes)) (place-is p.over c h.0 (f p first))
      ∙ ap (λ (qs : List Place). place_at (simple_in (names_of v.design.now) p.over) c ∷ qs) (places-are params classes h.1 (λ q m. f q (later m)))

  classes-are : (params : List Parameter) (classes : List Class) → AreOf (map (λ (p : Parameter). candidates treatments count p.over) params) classes → map written_class (places v (spots_in (map (λ (p : Parameter). p.over) params) classes)) ≡ classes
  classes-are [] [] h = refl
  classes-are [] (c ∷ classes) h = elim h [ ]
  classes-are (p ∷ params) [] h = elim h [ ]
  classes-are (p ∷ params) (c ∷ classes) h =
      ap (λ (d : Class). d ∷ map written_class (places v (spots_in (map (λ (p : Parameter). p.over) params) classes))) (class-back v p.over c) ∙ ap (λ (ds : List Class). c ∷ ds) (classes-are params classes h.1)

-- ---- faults

-- a unit stands at one place for the cases and for the cone of its leaf
same-place : (u : FlatUnit) → cases_faults.place_of_unit u ≡ place_of_unit u
same-place (map_of def) = refl
same-place (claim_of claim) = refl

-- ---- a case of a part

module _ (p : Part) (h : IsPartOf p) where
  abbrev pub d : Design
  d = p.view.design.now

  abbrev pub entry : Entry
  entry = entry_of p.view.design.now p.leaf.now p.choice.now

  abbrev pub s : Script
  s = script_of p.view.design.now h.is_part.leaves h.is_part.choices

  abbrev pub params : List Parameter
  params = parameters_of p.choice.now.keeps p.leaf.now.params

  pub types-are : map (λ (q : Parameter). q.over) params ≡ map (λ (q : Param). q.over) p.leaf.now.params
  types-are = map-map (λ (q : Parameter). q.over) (λ (q : Param). record { over = q.over; listed = stays p.choice.now.keeps q.over q.var }) p.leaf.now.params

  pub candidates-are : AreOf (map (λ (q : Parameter). candidates (leaf_treatments (outlined d) entry) (length params) q.over) params) p.classes.now
  candidates-are = are_of (map (λ (q : Parameter). candidates (leaf_treatments (outlined d) entry) (length params) q.over) params) p.classes.now (Has-from_filter _ _ h.is_case.is_case).0

  pub split : IsSplit s entry
  split = h.is_part.is_checked.are_split entry h.is_part.is_entry

  pub filled : (q : Parameter) → Has params q → IsFilled d q.over
  filled q m = let r = Has-from_map (λ (q : Param). record { over = q.over; listed = stays p.choice.now.keeps q.over q.var }) p.leaf.now.params m in subst (λ (q : Parameter). IsFilled d q.over) (sym r.2) (split.are_filled r.0 r.1)

  few-forms : (t : AbsType) → Has (types_of d.sets p.leaf.now.params p.choice.now.keeps p.classes.now) t → t.named ≤ 256
  few-forms t has =
      let r = Has-from_map (λ ((set, t) : ℕ × Treatment). type_in t set params p.classes.now) (numbered 0 (treatments_of p.choice.now.keeps 0 d.sets)) has in
      let x : ℕ × Treatment = r.0 in
      let q = treated p.choice.now.keeps 0 d.sets x r.1 in
      let m = used (named_among (listed_classes x.1 x.0 params p.classes.now)) in
      let long : length params ≡ length p.leaf.now.params = length_map (λ (q : Param). record { over = q.over; listed = stays p.choice.now.keeps q.over q.var }) p.leaf.now.params in
      let some = h.is_case.few in
      let few : m ≤ 8 = used_most 8 _ (λ k n. let l = all-below (leaf_treatments (outlined d) entry) (length params) params p.classes.now candidates-are k (listed-are x.1 x.0 params p.classes.now (Named k) (among-is (listed_classes x.1 x.0 params p.classes.now) k n)) in omega (arith, l, long, some)) in
      let is : t ≡ abstract_type (treatment_of q.0.ordered q.0.size q.2) m = r.2 ∙ ap (λ (u : Treatment). abstract_type u m) q.3 in
      subst (λ (a : AbsType). a.named ≤ 256) (sym is) (named-few q.0.ordered q.0.size q.2 (h.is_part.sizes q.0 q.1) m few)

  view-is : IsView p.view
  view-is = record {
    is_world = record {
      sets = refl;
      enums = refl;
      families = refl;
      forms = all-forms d p.view.types.now h.is_part.is_checked.are_apart (ap length h.forms ∙ numbered-long (λ ((set, t) : ℕ × Treatment). type_in t set params p.classes.now) p.choice.now.keeps 0 d.sets);
    };
    are_indexed = h.is_part.is_fit.indexes;
    few = λ t m. few-forms t (subst (λ ts. Has ts t) h.forms m);
  }

  pub spots-by : p.params.now ≡ spots_in (map (λ (q : Parameter). q.over) params) p.classes.now
  spots-by = h.spots ∙ ap (λ (ts : List Simple). spots_in ts p.classes.now) (sym types-are)

  pub outline-is : outlined d ≡ parts.outline_of p
  outline-is = ap (λ (us : List Unit). record { design = d; units = us }) (sym h.units)

  pub part-view : IsPartView p
  part-view = record {
    is_view = view-is;
    all_units = h.units;
    are_written = ap (λ (b : List Spot). map written_class (places p.view b)) spots-by ∙ classes-are p.view (leaf_treatments (outlined d) entry) (length params) params p.classes.now candidates-are;
    is_table = subst (λ (o : Outline). IsTable o p.choice.now.picks p.table.now) outline-is h.is_table;
  }

  -- ---- the cone of the definitions

  abbrev Least : World → Outline → Entry → List Place → Type 0
  Least w o e ps = IsLeast (next_elements w o e ps) (first_elements w o e ps) (cone w o e ps)

  pub world-is : world_with p.view.design.now p.leaf.now p.choice.now p.classes.now ≡ view.world_of p.view
  world-is = ap (world_by d) (sym h.forms)

  pub entry-is : entry ≡ parts.entry_of p
  entry-is = ap (λ (us : List Unit). record { unit = unwrap_or (slice_get us p.leaf.now.unit) (unit.Claim 0); leaf = p.leaf.now; choice = p.choice.now }) (sym h.units)

  pub params-is : params_at (outlined d) entry p.classes.now ≡ parts.params_of p
  params-is = sym (ap (λ (b : List Spot). places p.view b) spots-by ∙ places-are p.view (leaf_treatments (outlined d) entry) (length params) params p.classes.now candidates-are filled)

  pub same-outline : outline_of s ≡ outlined d
  same-outline = ap (λ (us : List Unit). record { design = d; units = us }) (units-are (units_of d) h.is_part.leaves h.is_part.choices h.is_part.each_leaf h.is_part.each_choice)

  -- what is said of the cone of a case of a script is said of that of the part
  pub carried : (Says : World → Outline → Entry → List Place → Type 0) → Says (world_with p.view.design.now p.leaf.now p.choice.now p.classes.now) (outlined d) entry (params_at (outlined d) entry p.classes.now) →
      Says (view.world_of p.view) (parts.outline_of p) (parts.entry_of p) (parts.params_of p)
  carried Says said =
      let w = subst (λ (w : World). Says w (outlined d) entry (params_at (outlined d) entry p.classes.now)) world-is said in
      let o = subst (λ (o : Outline). Says (view.world_of p.view) o entry (params_at (outlined d) entry p.classes.now)) outline-is w in
      let e = subst (λ (e : Entry). Says (view.world_of p.view) (parts.outline_of p) e (params_at (outlined d) entry p.classes.now)) entry-is o in
      subst (λ (ps : List Place). Says (view.world_of p.view) (parts.outline_of p) (parts.entry_of p) ps) params-is e

  pub part-least : HasLeast p
  part-least = carried Least
      (subst (λ (o : Outline). Least (world_of o entry p.classes.now) o entry (params_at o entry p.classes.now)) same-outline (cone_is_least s h.is_part.is_checked entry h.is_part.is_entry p.classes.now h.is_case.is_case))

  -- the cone and its bits
  pub cone-is : cone_with p.view.design.now p.leaf.now p.choice.now p.classes.now ≡ parts.cone_of p
  cone-is = carried (λ w o e ps. cone_with p.view.design.now p.leaf.now p.choice.now p.classes.now ≡ cone w o e ps) refl

  pub bits-are : bits_with p.view.design.now p.leaf.now p.choice.now p.classes.now ≡ bits_of_all (view.world_of p.view) (parts.cone_of p)
  bits-are = carried (λ w o e ps. bits_with p.view.design.now p.leaf.now p.choice.now p.classes.now ≡ bits_of_all w (cone w o e ps)) refl

  -- ---- the fault

  pub few-fault : bits_of_all (view.world_of p.view) (parts.cone_of p) ≤ 1024 → width_fault p.view.design.now p.leaf.now p.choice.now p.classes.now ≡ None
  few-fault l =
      let same = bits-are in
      ap (λ (b : Bool). if b then Some (fault_at_unit 30 p.view.design.now p.leaf.now) else None) (nat_lt-false 1024 (bits_with p.view.design.now p.leaf.now p.choice.now p.classes.now) (omega (arith, same, l)))

  pub many-fault : 1024 < bits_of_all (view.world_of p.view) (parts.cone_of p) → (f : Fault) → f ≡ cases_faults.fault_at_unit 30 p.view.design.now p.leaf.now → width_fault p.view.design.now p.leaf.now p.choice.now p.classes.now ≡ Some f
  many-fault l f e =
      let same = bits-are in
      ap (λ (b : Bool). if b then Some (fault_at_unit 30 p.view.design.now p.leaf.now) else None) (nat_lt-true 1024 (bits_with p.view.design.now p.leaf.now p.choice.now p.classes.now) (omega (arith, same, l)))
      ∙ ap Some (sym (e ∙ ap (λ (k : ℕ). record { number = 30; at = k }) (same-place (unit_in p.view.design.now (unwrap_or (slice_get (units_of p.view.design.now) p.leaf.now.unit) (unit.Claim 0))))))
