-- Values of codes, and how many values types have.
use Rattle.std.proofs.Common.{◌≡◌, ℕ, zero, suc, ◌+◌, ◌-◌, ◌<◌, min, List, [], ◌∷◌, map, length, get_or, refl, sym, ap, ◌∙◌, Option, Some, None, arith}
use Rattle.std.specs.List.{slice_get}
use Rattle.std.proofs.lemmas.List.{length-append, get_or_append_left, get_or-append-add}
use Rattle.law_lists.proofs.Lists.{length_map}
use Rattle.smv_core.specs.Values.{numbers_from}
use Rattle.smv_core.specs.declared.flat.Simple.{Simple}
use Rattle.smv_core.specs.declared.flat.Simple.TheVariants.{Range, Enum, Set}
use Rattle.smv_core.specs.declared.flat.Family.{Family}
use Rattle.smv_core.specs.declared.abstract_type.AbsType.{AbsType}
use Rattle.smv_core.specs.declared.abstract_type.Rest.TheVariants as beside
use Rattle.law_obligations.specs.Places.{rests_beside}
use Rattle.smv_problem.specs.declared.problem.AbsValue.{AbsValue}
use Rattle.smv_problem.specs.declared.problem.AbsValue.TheVariants.{Number, Constant, Named, Rest}
use Rattle.smv_readings.specs.StateBits.{count_of, count_in, count_for}
use Rattle.smv_readings.specs.States.{values_beside, values_in, values_for, value_of, IsNarrow}

pub length_numbers : (s n : ℕ) → length (numbers_from s n) ≡ n
length_numbers s zero = refl
length_numbers s (suc n) = ap (λ k. suc k) (length_numbers (s + 1) n)

length_numbered : (f : ℕ → AbsValue) (s n : ℕ) → length (map f (numbers_from s n)) ≡ n
length_numbered f s n = length_map f (numbers_from s n) ∙ length_numbers s n

beside_are : (o : Option AbsType) → count_of o ≡ length (values_beside o)
beside_are None = refl
beside_are (Some t) =
    sym (length-append (map Named (numbers_from 0 t.named)) (map Rest (rests_beside t.rest t.named)) ∙ ap (λ n. n + length (map Rest (rests_beside t.rest t.named))) (length_numbered Named 0 t.named) ∙ ap (λ n. t.named + n) (length_map Rest (rests_beside t.rest t.named)))

-- as many values as are counted
pub values_are : (lists : List ℕ) (types : List AbsType) (over : Simple) → count_in lists types over ≡ length (values_in lists types over)
values_are lists types (Range low high) = sym (length_numbered Number low (high + 1 - low))
values_are lists types (Enum list) = sym (length_numbered Constant 0 (get_or lists list 0))
values_are lists types (Set set) = beside_are (slice_get types set)

pub values_for_are : (lists : List ℕ) (types : List AbsType) (o : Option Family) → count_for lists types o ≡ length (values_for lists types o)
values_for_are lists types None = refl
values_for_are lists types (Some f) = values_are lists types f.value

-- a code reads the value at its position, or the last one
pub value_at_place : (vs : List AbsValue) (code place : ℕ) (d : AbsValue) → 0 < length vs → place ≡ min code (length vs - 1) → value_of vs code ≡ get_or vs place d
value_at_place [] code place d some e = absurd (omega arith)
value_at_place (v ∷ []) code place d some e = let none : place ≡ 0 = omega arith in sym (ap (λ (k : ℕ). get_or (v ∷ []) k d) none)
value_at_place (v ∷ w ∷ vs) zero place d some e = let none : place ≡ 0 = omega arith in sym (ap (λ (k : ℕ). get_or (v ∷ w ∷ vs) k d) none)
value_at_place (v ∷ w ∷ vs) (suc code) place d some e =
    let next : ℕ = min code (length (w ∷ vs) - 1) in
    let is : place ≡ suc next = omega arith in
    value_at_place (w ∷ vs) code next d (omega arith) refl ∙ sym (ap (λ (k : ℕ). get_or (v ∷ w ∷ vs) k d) is)

-- the values of a code and of its place are the same
pub value_same : (vs : List AbsValue) (code place : ℕ) → 0 < length vs → place ≡ min code (length vs - 1) → value_of vs place ≡ value_of vs code
value_same vs code place some e = value_at_place vs place place (Number 0) some (omega arith) ∙ sym (value_at_place vs code place (Number 0) some e)

numbered_at : (f : ℕ → AbsValue) (s n k : ℕ) (d : AbsValue) → k < n → get_or (map f (numbers_from s n)) k d ≡ f (s + k)
numbered_at f s zero k d lt = absurd (omega arith)
numbered_at f s (suc n) zero d lt = ap f (omega arith)
numbered_at f s (suc n) (suc k) d lt = numbered_at f (s + 1) n k d (omega arith) ∙ ap f (omega arith)

-- the value of a code of numbered values
pub numbered_value : (f : ℕ → AbsValue) (s n code place : ℕ) → 0 < n → place ≡ min code (n - 1) → f (s + place) ≡ value_of (map f (numbers_from s n)) code
numbered_value f s n code place some e =
    let long = length_numbered f s n in
    sym (value_at_place (map f (numbers_from s n)) code place (Number 0) (omega arith) (omega arith) ∙ numbered_at f s n place (Number 0) (omega arith))

rest_numbers : (t : AbsType) (k : ℕ) → k < length (rests_beside t.rest t.named) → get_or (map Rest (rests_beside t.rest t.named)) k (Number 0) ≡ Rest k
rest_numbers t k lt = by t.rest lt
  where
    by : (r : _) → k < length (rests_beside r t.named) → get_or (map Rest (rests_beside r t.named)) k (Number 0) ≡ Rest k
    by beside.None lt = absurd (omega arith)
    by beside.One lt = let none : k ≡ 0 = omega arith in ap (λ (j : ℕ). get_or (Rest 0 ∷ []) j (Number 0)) none ∙ sym (ap Rest none)
    by beside.Gaps lt = let long = length_numbers 0 (t.named + 1) in numbered_at Rest 0 (t.named + 1) k (Number 0) (omega arith) ∙ ap Rest (omega arith)

-- a class, and a rest
pub class_at : (t : AbsType) (place : ℕ) → place < t.named → Named place ≡ value_of (values_beside (Some t)) place
class_at t place lt =
    let long = length-append (map Named (numbers_from 0 t.named)) (map Rest (rests_beside t.rest t.named)) in
    let classes = length_numbered Named 0 t.named in
    sym (value_at_place (values_beside (Some t)) place place (Number 0) (omega arith) (omega arith)
    ∙ get_or_append_left (map Named (numbers_from 0 t.named)) (map Rest (rests_beside t.rest t.named)) (Number 0) place (omega arith)
    ∙ numbered_at Named 0 t.named place (Number 0) lt ∙ ap Named (omega arith))

pub rest_at : (t : AbsType) (place gap : ℕ) → place < length (values_beside (Some t)) → place ≡ t.named + gap → Rest gap ≡ value_of (values_beside (Some t)) place
rest_at t place gap lt e =
    let long = length-append (map Named (numbers_from 0 t.named)) (map Rest (rests_beside t.rest t.named)) in
    let classes = length_numbered Named 0 t.named in
    let rests = length_map Rest (rests_beside t.rest t.named) in
    let at : place ≡ length (map Named (numbers_from 0 t.named)) + gap = omega arith in
    sym (value_at_place (values_beside (Some t)) place place (Number 0) (omega arith) (omega arith)
    ∙ ap (λ (k : ℕ). get_or (values_beside (Some t)) k (Number 0)) at
    ∙ get_or-append-add (map Named (numbers_from 0 t.named)) (map Rest (rests_beside t.rest t.named)) gap (Number 0)
    ∙ rest_numbers t gap (omega arith))

-- a gap fits its field
pub gap_fits : (t : AbsType) (place gap : ℕ) → IsNarrow t → place < length (values_beside (Some t)) → place ≡ t.named + gap → gap < 256
gap_fits t place gap narrow lt e =
    let long = length-append (map Named (numbers_from 0 t.named)) (map Rest (rests_beside t.rest t.named)) in
    let classes = length_numbered Named 0 t.named in
    let rests = length_map Rest (rests_beside t.rest t.named) in
    by t.rest refl (omega arith)
  where
    by : (r : _) → t.rest ≡ r → gap < length (rests_beside r t.named) → gap < 256
    by beside.None is lt = absurd (omega arith)
    by beside.One is lt = omega arith
    by beside.Gaps is lt = let long = length_numbers 0 (t.named + 1) in let few = narrow.gaps is in omega arith

-- ---- the place of a code among the values of a type
module _ (lists : List ℕ) (types : List AbsType) (over : Simple) where
  module _ (count code place : ℕ) (is : count ≡ count_in lists types over) (some : count ≡ 0 → ⊥) (e : place ≡ min code (count - 1)) where
    many : count ≡ length (values_in lists types over)
    many = is ∙ values_are lists types over

    has_some : 0 < count
    has_some = positive count some
      where
        positive : (n : ℕ) → (n ≡ 0 → ⊥) → 0 < n
        positive zero none = absurd (none refl)
        positive (suc n) none = omega arith

    pub place_in_range : place < length (values_in lists types over)
    place_in_range = let all = many in let some = has_some in omega arith

    pub value_placed : value_of (values_in lists types over) place ≡ value_of (values_in lists types over) code
    value_placed = let all = many in let some = has_some in value_same (values_in lists types over) code place (omega arith) (omega arith)

  pub number_at : (low high : ℕ) → over ≡ Range low high → (count code place : ℕ) → count ≡ count_in lists types over → (count ≡ 0 → ⊥) → place ≡ min code (count - 1) → Number (low + place) ≡ value_of (values_in lists types over) code
  number_at low high same count code place is some e =
      let counted : count ≡ high + 1 - low = is ∙ ap (count_in lists types) same in
      let positive = has_some count code place is some e in
      numbered_value Number low (high + 1 - low) code place (omega arith) (omega arith) ∙ sym (ap (λ (t : Simple). value_of (values_in lists types t) code) same)

  pub constant_at : (list : ℕ) → over ≡ Enum list → (count code place : ℕ) → count ≡ count_in lists types over → (count ≡ 0 → ⊥) → place ≡ min code (count - 1) → Constant place ≡ value_of (values_in lists types over) code
  constant_at list same count code place is some e =
      let counted : count ≡ get_or lists list 0 = is ∙ ap (count_in lists types) same in
      let positive = has_some count code place is some e in
      ap Constant (omega arith) ∙ numbered_value Constant 0 (get_or lists list 0) code place (omega arith) (omega arith) ∙ sym (ap (λ (t : Simple). value_of (values_in lists types t) code) same)
