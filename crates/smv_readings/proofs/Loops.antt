-- One element more is read.
use Rattle.std.proofs.Common.{◌≡◌, ℕ, suc, ◌+◌, ◌-◌, ◌<◌, ◌≤◌, ◌^◌, Bool, false, List, [], ◌∷◌, ◌++◌, length, take, drop, get_or, sym, ap, ◌∙◌, arith, append_assoc}
use Rattle.std.specs.List.{slice_get}
use Rattle.std.proofs.Math.Seq.{drop-cons}
use Rattle.std.proofs.lemmas.List.{get_or-take, get_or-drop, length-take, length-take-le, length-drop}
use Rattle.smv_core.specs.declared.flat.Family.{Family}
use Rattle.smv_core.specs.declared.flat.Element.{Element}
use Rattle.smv_core.specs.declared.abstract_type.AbsType.{AbsType}
use Rattle.law_obligations.specs.Codes.{bits_for, code_from}
use Rattle.smv_problem.specs.declared.problem.AbsValue.{AbsValue}
use Rattle.smv_readings.specs.StateBits.{count_for, bits_of_family, bits_of_elements}
use Rattle.smv_readings.specs.States.{bits_in, values_for, value_of, value_at, values_from}
use Rattle.smv_readings.proofs.Spelling.{code_same, bits_short}

-- a part of a list of bits
part_at : (bits : List Bool) (bit width i : ℕ) → i < width → bits_in (take width (drop bit bits)) i ≡ bits_in bits (bit + i)
part_at bits bit width i lt = get_or-take width (drop bit bits) i false lt ∙ get_or-drop bit bits i false

pub part_short : (bits : List Bool) (bit count width : ℕ) → count < 2 ^ 32 → width ≡ bits_for count → length (take (bit + width - bit) (drop bit bits)) ≤ 32
part_short bits bit count width small is =
    let short = bits_short count small in
    let long = length-take (bit + width - bit) (drop bit bits) in
    omega (arith, short, long)

module _ (families : List Family) (lists : List ℕ) (types : List AbsType) where
  pub width_is : (fs : List Family) (ls : List ℕ) (ts : List AbsType) → fs ≡ families → ls ≡ lists → ts ≡ types → (family count width : ℕ) → count ≡ count_for ls ts (slice_get fs family) → width ≡ bits_for count → width ≡ bits_of_family families lists types family
  width_is fs ls ts f l t family count width counted is =
      is ∙ ap bits_for (counted
      ∙ ap (λ (xs : List Family). count_for ls ts (slice_get xs family)) f ∙ ap (λ (xs : List ℕ). count_for xs ts (slice_get families family)) l ∙ ap (λ (xs : List AbsType). count_for lists xs (slice_get families family)) t)

  pub value_is : (fs : List Family) (ls : List ℕ) (ts : List AbsType) → fs ≡ families → ls ≡ lists → ts ≡ types → (bits : List Bool) (bit family width code : ℕ) (value : AbsValue) → width ≡ bits_of_family families lists types family → bit + width ≤ length bits
      → code ≡ code_from (bits_in (take (bit + width - bit) (drop bit bits))) 0 (length (take (bit + width - bit) (drop bit bits)))
      → value ≡ value_of (values_for ls ts (slice_get fs family)) code → value ≡ value_at families lists types (bits_in bits) bit family
  value_is fs ls ts f l t bits bit family width code value is within spelled read =
      let same : bit + width - bit ≡ width = omega arith in
      let rest = length-drop bit bits in
      let long : length (take width (drop bit bits)) ≡ width = length-take-le width (drop bit bits) (omega arith) in
      let coded : code ≡ code_from (bits_in bits) bit width =
      spelled
      ∙ ap (λ (n : ℕ). code_from (bits_in (take n (drop bit bits))) 0 (length (take n (drop bit bits)))) same
      ∙ ap (λ (n : ℕ). code_from (bits_in (take width (drop bit bits))) 0 n) long
      ∙ code_same (bits_in (take width (drop bit bits))) (bits_in bits) 0 bit width (λ i lt. ap (bits_in (take width (drop bit bits))) (omega arith) ∙ part_at bits bit width i lt) in
      read
      ∙ ap (λ (xs : List Family). value_of (values_for ls ts (slice_get xs family)) code) f ∙ ap (λ (xs : List ℕ). value_of (values_for xs ts (slice_get families family)) code) l ∙ ap (λ (xs : List AbsType). value_of (values_for lists xs (slice_get families family)) code) t
      ∙ ap (value_of (values_for lists types (slice_get families family))) (coded ∙ ap (code_from (bits_in bits) bit) is)

  module _ (elements : List Element) (i : ℕ) (x : Element) (lt : i < length elements) (is : x ≡ get_or elements i x) (bit width : ℕ) (wide : width ≡ bits_of_family families lists types x.family) where
    next_is : drop i elements ≡ x ∷ drop (i + 1) elements
    next_is = drop-cons elements i x lt ∙ ap (λ (y : Element). y ∷ drop (suc i) elements) (sym is) ∙ ap (λ (k : ℕ). x ∷ drop k elements) (let e : suc i ≡ i + 1 = omega arith in e)

    pub next_bits : (n : ℕ) → bit + bits_of_elements families lists types (drop i elements) ≡ n → (bit + width) + bits_of_elements families lists types (drop (i + 1) elements) ≡ n
    next_bits n e =
        let split : bit + (bits_of_family families lists types x.family + bits_of_elements families lists types (drop (i + 1) elements)) ≡ n = sym (ap (λ (xs : List Element). bit + bits_of_elements families lists types xs) next_is) ∙ e in
        omega (arith, split)

    pub next_within : (n : ℕ) → bit + bits_of_elements families lists types (drop i elements) ≡ n → bit + width ≤ n
    next_within n e = let all = next_bits n e in omega (arith, all)

    pub next_values : (s : ℕ → Bool) (values pushed all : List AbsValue) (value : AbsValue) → values ++ values_from families lists types s bit (drop i elements) ≡ all → value ≡ value_at families lists types s bit x.family → pushed ≡ values ++ (value ∷ [])
        → pushed ++ values_from families lists types s (bit + width) (drop (i + 1) elements) ≡ all
    next_values s values pushed all value e read put =
        ap (λ (vs : List AbsValue). vs ++ values_from families lists types s (bit + width) (drop (i + 1) elements)) put
        ∙ append_assoc values (value ∷ []) (values_from families lists types s (bit + width) (drop (i + 1) elements))
        ∙ ap (λ (v : AbsValue). values ++ (v ∷ values_from families lists types s (bit + width) (drop (i + 1) elements))) read
        ∙ ap (λ (n : ℕ). values ++ (value_at families lists types s bit x.family ∷ values_from families lists types s (bit + n) (drop (i + 1) elements))) wide
        ∙ sym (ap (λ (xs : List Element). values ++ values_from families lists types s bit xs) next_is)
        ∙ e
