-- What bits are read as by a problem as it is written is the abstract state of the case, written.
use Rattle.std.proofs.Common.{◌≡◌, ℕ, zero, suc, ◌+◌, ◌-◌, ◌<◌, List, [], ◌∷◌, ◌++◌, map, length, get_or, find, Bool, true, false, cond, refl, sym, ap, subst, ◌∙◌, inl, inr, Option, Some, None, option_map, Result, Ok, Err, IfOk, arith}
use Rattle.std.specs.Prelude.{unwrap_or}
use Rattle.std.specs.List.{slice_get}
use Rattle.std.specs.Str.{bytes_eq}
use Rattle.std.proofs.lemmas.Slice.Eq.{bytes_eq-Decides}
use Rattle.std.proofs.lemmas.List.Elements.{All-nil, All-cons}
use Rattle.std.proofs.lemmas.Bool.{cases_Bool}
use Rattle.std.proofs.lemmas.Option.{slice_get-map}
use Rattle.smv_core.specs.Values.{Name, Value, number, constant, scalar, ordinal, scalarset, ordset, numbers_from}
use Rattle.smv_core.specs.FlatMeaning.{set_type}
use Rattle.smv_core.specs.declared.flat.Simple.{Simple}
use Rattle.smv_core.specs.declared.flat.Simple.TheVariants.{Range, Enum, Set}
use Rattle.smv_core.specs.declared.flat.SetInfo.{SetInfo}
use Rattle.smv_core.specs.declared.flat.Family.{Family}
use Rattle.smv_core.specs.declared.abstract_type.AbsType.{AbsType}
use Rattle.law_obligations.specs.Sets.{Has, first, later}
use Rattle.law_obligations.specs.Places.{Place, named, rest, World, rests_beside, places_of, places_in}
use Rattle.law_obligations.specs.May.{AbsState}
use Rattle.law_obligations.specs.Outlines.{place_of}
use Rattle.law_obligations.specs.Cones.{AbsElement, element, same_element}
use Rattle.law_obligations.proofs.ConeFacts.{same_element-itself}
use Rattle.law_designs.specs.FlatKinds.{kind_of}
use Rattle.law_obligations.specs.Bits.{Bits}
use Rattle.law_obligations.specs.Codes.{bits_for, code_from, value_of_code}
use Rattle.law_obligations.specs.Readings.{PosedCase, Slot, bits_of, code_of, slots_from, state_bits, reading}
use Rattle.law_obligations.specs.Readings as codes
use Rattle.law_obligations.proofs.ReadBack.{slot_element, reads_slot}
use Rattle.law_obligations.proofs.LeastCones.{same_element-is}
use Rattle.smv_problem.specs.Written.{written, written_element, written_type, written_place, written_state, kind_in}
use Rattle.smv_problem.specs.WellFormed.{AreDistinct, AreApartElements, IsWellFormed, IsProblem, OfCases}
use Rattle.smv_problem.specs.declared.problem.AbsValue.{AbsValue}
use Rattle.smv_problem.specs.declared.problem.AbsValue.TheVariants.{Number, Constant, Named, Rest}
use Rattle.smv_problem.specs.declared.problem.AbsState.{AbsState as StateData}
use Rattle.smv_problem.specs.declared.problem.Problem.{Problem}
use Rattle.smv_readings.specs.StateBits.{count_for, bits_of_family, bits_in as bits_of_problem}
use Rattle.smv_readings.proofs.Counts.{values-counted, bits-of-cases}
use Rattle.smv_readings.specs.States.{bits_in, values_beside, values_in, values_for, value_of, values_from, state_in, IsNarrow, AreNarrow}

-- ---- the values of a type

value_mapped : (f : Place → AbsValue) → f (named (number 0)) ≡ Number 0 → (ps : List Place) (code : ℕ) → f (value_of_code ps code) ≡ value_of (map f ps) code
value_mapped f none [] code = none
value_mapped f none (p ∷ []) code = refl
value_mapped f none (p ∷ q ∷ ps) zero = refl
value_mapped f none (p ∷ q ∷ ps) (suc code) = value_mapped f none (q ∷ ps) code

map_named : {X : Type 0} (f : Place → AbsValue) (g : X → Value) (xs : List X) → map f (map named (map g xs) ++ []) ≡ map (λ (x : X). f (named (g x))) xs
map_named f g [] = refl
map_named f g (x ∷ xs) = ap (λ vs. f (named (g x)) ∷ vs) (map_named f g xs)

map_both : {X Y : Type 0} (f : Place → AbsValue) (g : X → Value) (h : Y → Place) (xs : List X) (ys : List Y) → map f (map named (map g xs) ++ map h ys) ≡ map (λ (x : X). f (named (g x))) xs ++ map (λ (y : Y). f (h y)) ys
map_both f g h [] [] = refl
map_both f g h [] (y ∷ ys) = ap (λ vs. f (h y) ∷ vs) (map_both f g h [] ys)
map_both f g h (x ∷ xs) ys = ap (λ vs. f (named (g x)) ∷ vs) (map_both f g h xs ys)

by_index : {X : Type 0} (g : X → AbsValue) (f : ℕ → AbsValue) (s : ℕ) (xs : List X) (d : X) → ((k : ℕ) → k < length xs → g (get_or xs k d) ≡ f (s + k)) → map g xs ≡ map f (numbers_from s (length xs))
by_index g f s [] d same = refl
by_index g f s (x ∷ xs) d same =
    ap (λ v. v ∷ map g xs) (same 0 (omega arith) ∙ ap f (omega arith))
    ∙ ap (λ vs. f s ∷ vs) (by_index g f (s + 1) xs d (λ k lt. same (suc k) (omega arith) ∙ ap f (omega arith)))

Has_at : {X : Type 0} (xs : List X) (k : ℕ) (d : X) → k < length xs → Has xs (get_or xs k d)
Has_at [] k d lt = absurd (omega arith)
Has_at (x ∷ xs) zero d lt = first
Has_at (x ∷ xs) (suc k) d lt = later (Has_at xs k d (omega arith))

-- a constant stands at its own place
constant_at : (names : List Name) → AreDistinct names → (k : ℕ) → k < length names → place_of (bytes_eq (get_or names k [])) names ≡ Some k
constant_at [] apart k lt = absurd (omega arith)
constant_at (x ∷ names) apart zero lt = ap (λ (b : Bool). cond b (Some 0) (option_map (λ k. suc k) (place_of (bytes_eq x) names))) ((bytes_eq-Decides x x).1 refl)
constant_at (x ∷ names) apart (suc k) lt = elim (cases_Bool (bytes_eq (get_or names k []) x)) [
  | inl e ↦ absurd (apart.0 (get_or names k []) (Has_at names k [] (omega arith)) (sym ((bytes_eq-Decides (get_or names k []) x).0 e)))
  | inr e ↦ ap (λ (b : Bool). cond b (Some 0) (option_map (λ k. suc k) (place_of (bytes_eq (get_or names k [])) names))) e ∙ ap (option_map (λ k. suc k)) (constant_at names apart.1 k (omega arith))
]

names_at : (lists : List (List Name)) → ((names : List Name) → Has lists names → AreDistinct names) → (k : ℕ) → AreDistinct (get_or lists k [])
names_at [] each k = tt
names_at (names ∷ lists) each zero = each names first
names_at (names ∷ lists) each (suc k) = names_at lists (λ other h. each other (later h)) k

lengths_at : (lists : List (List Name)) (k : ℕ) → length (get_or lists k []) ≡ get_or (map (λ (l : List Name). length l) lists) k 0
lengths_at [] k = refl
lengths_at (l ∷ lists) zero = refl
lengths_at (l ∷ lists) (suc k) = lengths_at lists k

module _ (w : World) (distinct : (names : List Name) → Has w.classes.enums names → AreDistinct names) where
  abbrev lists : List ℕ
  lists = map (λ (l : List Name). length l) w.classes.enums

  abbrev types : List AbsType
  types = map (written_type w) w.classes.sets

  set_written : (set : ℕ) (info : SetInfo) → map (written_place w.classes (kind_of (Set set))) (places_of w (set_type (Some info))) ≡ values_beside (Some (written_type w info))
  set_written set info = at info.ordered
    where
      at : (b : Bool) → map (written_place w.classes (kind_of (Set set))) (places_of w (cond b (ordset info.name) (scalarset info.name)))
          ≡ map Named (numbers_from 0 (w.classes.sizes info.name)) ++ map Rest (rests_beside (w.rests info.name) (w.classes.sizes info.name))
      at true = map_both (written_place w.classes (kind_of (Set set))) (ordinal info.name) (λ g. rest (ordinal info.name g)) (numbers_from 0 (w.classes.sizes info.name)) (rests_beside (w.rests info.name) (w.classes.sizes info.name))
      at false = map_both (written_place w.classes (kind_of (Set set))) (scalar info.name) (λ g. rest (scalar info.name g)) (numbers_from 0 (w.classes.sizes info.name)) (rests_beside (w.rests info.name) (w.classes.sizes info.name))

  pub values_written : (t : Simple) → map (written_place w.classes (kind_of t)) (places_in w t) ≡ values_in lists types t
  values_written (Range low high) = map_named (written_place w.classes (kind_of (Range low high))) number (numbers_from low (high + 1 - low))
  values_written (Enum list) =
      let names : List Name = get_or w.classes.enums list [] in
      map_named (written_place w.classes (kind_of (Enum list))) constant names
      ∙ by_index (λ (name : Name). Constant (unwrap_or (place_of (bytes_eq name) names) 0)) Constant 0 names []
      (λ k lt. ap (λ (o : Option ℕ). Constant (unwrap_or o 0)) (constant_at names (names_at w.classes.enums distinct list) k lt) ∙ ap Constant (omega arith))
      ∙ ap (λ (n : ℕ). map Constant (numbers_from 0 n)) (lengths_at w.classes.enums list)
  values_written (Set set) = by (slice_get w.classes.sets set) refl
    where
      by : (o : Option SetInfo) → slice_get w.classes.sets set ≡ o → map (written_place w.classes (kind_of (Set set))) (places_of w (set_type (slice_get w.classes.sets set))) ≡ values_beside (slice_get types set)
      by None e =
          ap (λ (o : Option SetInfo). map (written_place w.classes (kind_of (Set set))) (places_of w (set_type o))) e
          ∙ sym (ap values_beside (slice_get-map (written_type w) w.classes.sets set ∙ ap (option_map (written_type w)) e))
      by (Some info) e =
          ap (λ (o : Option SetInfo). map (written_place w.classes (kind_of (Set set))) (places_of w (set_type o))) e
          ∙ set_written set info
          ∙ sym (ap values_beside (slice_get-map (written_type w) w.classes.sets set ∙ ap (option_map (written_type w)) e))

  -- the value of a code, written
  value_written : (o : Option Family) (code : ℕ) → value_of (values_for lists types o) code ≡ written_place w.classes (kind_in o) (value_of_code (codes.values_in w o) code)
  value_written None code = refl
  value_written (Some f) code =
      ap (λ (vs : List AbsValue). value_of vs code) (sym (values_written f.value))
      ∙ sym (value_mapped (written_place w.classes (kind_of f.value)) refl (places_in w f.value) code)

  bits_written : (x : AbsElement) → bits_of_family w.classes.families lists types x.family ≡ bits_of w x
  bits_written x = ap bits_for (by (slice_get w.classes.families x.family))
    where
      by : (o : Option Family) → count_for lists types o ≡ length (codes.values_in w o)
      by None = refl
      by (Some f) = sym (values-counted w f.value)

  -- the values of elements, one behind the other
  pub elements_written : (s : Bits) (a : AbsState) (b : ℕ) (xs : List AbsElement)
      → ((slot : Slot) → Has (slots_from w b xs) slot → a slot.element.family slot.element.indexes ≡ value_of_code (codes.values_of w slot.element) (code_of w s slot))
      → values_from w.classes.families lists types s b (map written_element xs)
      ≡ map (λ (x : AbsElement). written_place w.classes (kind_in (slice_get w.classes.families x.family)) (a x.family x.indexes)) xs
  elements_written s a b [] each = refl
  elements_written s a b (x ∷ xs) each =
      ap (λ (n : ℕ). value_of (values_for lists types (slice_get w.classes.families x.family)) (code_from s b n) ∷ values_from w.classes.families lists types s (b + n) (map written_element xs)) (bits_written x)
      ∙ ap (λ v. v ∷ values_from w.classes.families lists types s (b + bits_of w x) (map written_element xs))
      (value_written (slice_get w.classes.families x.family) (code_from s b (bits_of w x)) ∙ ap (written_place w.classes (kind_in (slice_get w.classes.families x.family))) (sym (each (record { element = x; bit = b }) first)))
      ∙ ap (λ vs. written_place w.classes (kind_in (slice_get w.classes.families x.family)) (a x.family x.indexes) ∷ vs) (elements_written s a (b + bits_of w x) xs (λ slot h. each slot (later h)))

-- ---- each element is found at its own slot

pub slot_found : (w : World) (b : ℕ) (xs : List AbsElement) → AreApartElements xs → (slot : Slot) → Has (slots_from w b xs) slot
    → find (λ (t : Slot). same_element (element slot.element.family slot.element.indexes) t.element) (slots_from w b xs) ≡ Some slot
slot_found w b [] apart slot h = elim h [ ]
slot_found w b (x ∷ xs) apart _ first = ap (λ (y : Bool). cond y (Some (record { element = x; bit = b })) (find (λ (t : Slot). same_element (element x.family x.indexes) t.element) (slots_from w (b + bits_of w x) xs))) (same_element-itself x)
slot_found w b (x ∷ xs) apart slot (later h) = elim (cases_Bool (same_element (element slot.element.family slot.element.indexes) x)) [
  | inl e ↦ absurd (apart.0 slot.element (slot_element w (b + bits_of w x) xs slot h) (sym (same_element-is slot.element x e)))
  | inr e ↦
      ap (λ (y : Bool). cond y (Some (record { element = x; bit = b })) (find (λ (t : Slot). same_element (element slot.element.family slot.element.indexes) t.element) (slots_from w (b + bits_of w x) xs))) e
      ∙ slot_found w (b + bits_of w x) xs apart.1 slot h
]

-- ---- the state of a case, written
pub state_written : (p : Problem) (c : PosedCase) (s : Bits) → p ≡ written c → IsWellFormed c → state_in p s ≡ written_state c (reading c s)
unfolding written
state_written p c s is well =
    ap (λ (q : Problem). state_in q s) is
    ∙ ap (λ (vs : List AbsValue). let state : StateData = record { values = vs } in state)
    (elements_written c.problem.world well.constants s (reading c s) 0 c.elements
    (λ slot h. reads_slot c s slot.element.family slot.element.indexes (Some slot) (slot_found c.problem.world 0 c.elements well.elements slot h)))

-- ---- the numbers of classes and rests fit their fields

narrow_types : (w : World) (sets : List SetInfo) → ((info : SetInfo) → Has sets info → IsNarrow (written_type w info)) → AreNarrow (map (written_type w) sets)
narrow_types w [] each = All-nil IsNarrow
narrow_types w (info ∷ sets) each = All-cons IsNarrow (written_type w info) (map (written_type w) sets) (each info first) (narrow_types w sets (λ other h. each other (later h)))

pub problem_narrow : (p : Problem) → IsProblem p → AreNarrow p.types
unfolding written
problem_narrow p (c, is, well) =
    subst AreNarrow (sym (ap (λ (q : Problem). q.types) is))
    (narrow_types c.problem.world c.problem.world.classes.sets (λ info h. record { classes = well.classes info h; gaps = well.gaps info h }))

pub problem_bits : (p : Problem) (n : ℕ) → IsProblem p → OfCases p (λ c. n ≡ state_bits c) → n ≡ bits_of_problem p
problem_bits p n (c, is, well) all = all c is well ∙ sym (bits-of-cases p c is)

-- so is what a call reads
pub read_written : {E : Type 0} (p : Problem) (bits : List Bool) (r : Result StateData E) → IfOk r (λ state. state ≡ state_in p (bits_in bits)) → IfOk r (λ state. OfCases p (λ c. state ≡ written_state c (reading c (bits_in bits))))
read_written p bits (Ok state) e = λ c is well. e ∙ state_written p c (bits_in bits) is well
read_written p bits (Err x) e = tt
