-- The abstract values of a type are as many as are counted of it as it is written.
use Rattle.std.proofs.Common.{◌≡◌, ℕ, zero, suc, ◌+◌, ◌-◌, ◌≤◌, List, [], ◌∷◌, ◌++◌, map, length, Bool, true, false, cond, refl, sym, ap, ◌∙◌, Option, Some, None, arith}
use Rattle.std.specs.Prelude.{get_or}
use Rattle.std.specs.List.{slice_get}
use Rattle.std.proofs.lemmas.List.{length-append}
use Rattle.law_lists.proofs.Lists.{length_map}
use Rattle.law_lists.proofs.Places.{get-map}
use Rattle.smv_core.specs.Values.{Name, Value, number, constant, scalar, ordinal, scalarset, ordset, numbers_from}
use Rattle.smv_core.specs.FlatMeaning.{set_type}
use Rattle.smv_core.specs.declared.flat.Simple.{Simple}
use Rattle.smv_core.specs.declared.flat.Simple.TheVariants.{Range, Enum, Set}
use Rattle.smv_core.specs.declared.flat.SetInfo.{SetInfo}
use Rattle.smv_core.specs.declared.flat.Family.{Family}
use Rattle.smv_core.specs.declared.abstract_type.Rest.TheVariants as beside
use Rattle.smv_core.specs.declared.abstract_type.AbsType.{AbsType}
use Rattle.law_obligations.specs.Places.{named, rest, World, rests_beside, places_of, places_in}
use Rattle.law_obligations.specs.Cones.{AbsElement}
use Rattle.law_obligations.specs.Codes.{bits_for}
use Rattle.law_obligations.specs.Readings.{PosedCase, values_in, bits_of, bits_of_all, state_bits}
use Rattle.smv_problem.specs.Written.{written, written_element, written_type}
use Rattle.smv_problem.specs.WellFormed.{IsProblem}
use Rattle.smv_problem.specs.declared.problem.Problem.{Problem}
use Rattle.smv_readings.specs.StateBits.{count_of, count_in, count_for, bits_of_elements, bits_in}

length-numbers : (s n : ℕ) → length (numbers_from s n) ≡ n
length-numbers s zero = refl
length-numbers s (suc n) = ap (λ k. suc k) (length-numbers (s + 1) n)

pub counted-none : (classes : ℕ) → length (rests_beside beside.None classes) ≡ 0
counted-none classes = refl

pub counted-one : (classes : ℕ) → length (rests_beside beside.One classes) ≡ 1
counted-one classes = refl

pub counted-gaps : (classes : ℕ) → length (rests_beside beside.Gaps classes) ≡ classes + 1
counted-gaps classes = length-numbers 0 (classes + 1)

pub ruleset counted = (counted-none, counted-one, counted-gaps)

some-map : {X Y : Type 0} (f : X → Y) (y x : X) → Some y ≡ Some x → Some (f y) ≡ Some (f x)
some-map f y x e = cc

get-none : {X Y : Type 0} (f : X → Y) (xs : List X) (k : ℕ) → slice_get xs k ≡ None → slice_get (map f xs) k ≡ None
get-none f [] k e = refl
get-none f (y ∷ xs) zero e = absurd (cc)
get-none f (y ∷ xs) (suc k) e = get-none f xs k e

lengths-at : (lists : List (List Name)) (k : ℕ) → length (get_or lists k []) ≡ get_or (map (λ (l : List Name). length l) lists) k 0
lengths-at [] k = refl
lengths-at (l ∷ lists) zero = refl
lengths-at (l ∷ lists) (suc k) = lengths-at lists k

module _ (w : World) where
  abbrev lists : List ℕ
  lists = map (λ (l : List Name). length l) w.classes.enums

  abbrev types : List AbsType
  types = map (written_type w) w.classes.sets

  -- two lists of places, by what they are made of
  both-counted : (f : ℕ → Value) (g : ℕ → Value) (ks gs : List ℕ) → length (map named (map f ks) ++ map (λ k. rest (g k)) gs) ≡ length ks + length gs
  both-counted f g ks gs =
      length-append (map named (map f ks)) (map (λ k. rest (g k)) gs)
      ∙ ap (λ n. n + length (map (λ k. rest (g k)) gs)) (length_map named (map f ks) ∙ length_map f ks) ∙ ap (λ n. length ks + n) (length_map (λ k. rest (g k)) gs)

  set-counted : (info : SetInfo) → length (places_of w (set_type (Some info))) ≡ count_of (Some (written_type w info))
  set-counted info = at info.ordered
    where
      at : (b : Bool) → length (places_of w (cond b (ordset info.name) (scalarset info.name))) ≡ w.classes.sizes info.name + length (rests_beside (w.rests info.name) (w.classes.sizes info.name))
      at true =
          both-counted (ordinal info.name) (ordinal info.name) (numbers_from 0 (w.classes.sizes info.name)) (rests_beside (w.rests info.name) (w.classes.sizes info.name))
          ∙ ap (λ n. n + length (rests_beside (w.rests info.name) (w.classes.sizes info.name))) (length-numbers 0 (w.classes.sizes info.name))
      at false =
          both-counted (scalar info.name) (scalar info.name) (numbers_from 0 (w.classes.sizes info.name)) (rests_beside (w.rests info.name) (w.classes.sizes info.name))
          ∙ ap (λ n. n + length (rests_beside (w.rests info.name) (w.classes.sizes info.name))) (length-numbers 0 (w.classes.sizes info.name))

  pub values-counted : (t : Simple) → length (places_in w t) ≡ count_in lists types t
  values-counted (Range low high) =
      length-append (map named (map number (numbers_from low (high + 1 - low)))) [] ∙ ap (λ n. n + 0) (length_map named (map number (numbers_from low (high + 1 - low))) ∙ length_map number (numbers_from low (high + 1 - low)) ∙ length-numbers low (high + 1 - low)) ∙ nothing-more (high + 1 - low)
    where
      nothing-more : (n : ℕ) → n + 0 ≡ n
      nothing-more n = omega arith
  values-counted (Enum list) =
      length-append (map named (map constant (get_or w.classes.enums list []))) [] ∙ ap (λ n. n + 0) (length_map named (map constant (get_or w.classes.enums list [])) ∙ length_map constant (get_or w.classes.enums list []) ∙ lengths-at w.classes.enums list) ∙ nothing-more (get_or lists list 0)
    where
      nothing-more : (n : ℕ) → n + 0 ≡ n
      nothing-more n = omega arith
  values-counted (Set set) = by (slice_get w.classes.sets set) refl
    where
      by : (o : Option SetInfo) → slice_get w.classes.sets set ≡ o → length (places_of w (set_type (slice_get w.classes.sets set))) ≡ count_of (slice_get types set)
      by None e = ap (λ (o : Option SetInfo). length (places_of w (set_type o))) e ∙ ap count_of (sym (get-none (written_type w) w.classes.sets set e))
      by (Some info) e = ap (λ (o : Option SetInfo). length (places_of w (set_type o))) e ∙ set-counted info ∙ ap count_of (sym (get-map (written_type w) w.classes.sets set info e))

  family-counted : (o : Option Family) → length (values_in w o) ≡ count_for lists types o
  family-counted None = refl
  family-counted (Some f) = values-counted f.value

  bits-counted : (xs : List AbsElement) → bits_of_elements w.classes.families lists types (map written_element xs) ≡ bits_of_all w xs
  bits-counted [] = refl
  bits-counted (x ∷ xs) =
      ap (λ n. bits_for n + bits_of_elements w.classes.families lists types (map written_element xs)) (sym (family-counted (slice_get w.classes.families x.family))) ∙ ap (λ n. bits_of w x + n) (bits-counted xs)

-- the bits of a problem are the state bits of each case that is written so
pub bits-are-those : (c : PosedCase) → bits_in (written c) ≡ state_bits c
unfolding written
bits-are-those c = bits-counted c.problem.world c.elements

pub bits-of-cases : (p : Problem) (c : PosedCase) → p ≡ written c → bits_in p ≡ state_bits c
bits-of-cases p c same = ap bits_in same ∙ bits-are-those c

pub bits-few : (p : Problem) → IsProblem p → bits_in p ≤ 1024
bits-few p (c, same, well) = let few = well.bits in let e = bits-of-cases p c same in omega (arith, few, e)
