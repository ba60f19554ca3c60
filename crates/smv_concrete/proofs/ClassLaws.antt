-- The classes of types at given sizes.
use Rattle.std.proofs.Common.{◌≡◌, ◌≤◌, ℕ, zero, suc, List, [], ◌∷◌, map, length, slice_get, Option, Some, None, Bool, true, false, if◌then◌else◌, refl, sym, ap, ◌∙◌, arith}
use Rattle.law_lists.proofs.Lists.{length_map}
use Rattle.law_lists.proofs.Options.{some_is}
use Rattle.smv_core.specs.Values.{Sizes, numbers_from, ordset, scalarset, values_of}
use Rattle.smv_core.specs.FlatMeaning.{Numbered, set_type, values_in}
use Rattle.smv_core.specs.declared.abstract_type.AbsType.{AbsType}
use Rattle.smv_core.specs.declared.flat.Class.TheVariants.{Named}
use Rattle.smv_core.specs.declared.flat.Design.{Design}
use Rattle.smv_core.specs.declared.flat.SetInfo.{SetInfo}
use Rattle.smv_core.specs.declared.flat.Simple.{Simple}
use Rattle.smv_core.specs.declared.flat.Simple.TheVariants.{Range, Enum, Set}
use Rattle.law_obligations.specs.Sets.{Has, first, later}
use Rattle.law_obligations.specs.Covers.{AreApart}
use Rattle.law_obligations.specs.Places.{World}
use Rattle.law_obligations.proofs.CoverLists.{length-numbers}
use Rattle.law_concrete.specs.Concrete.{classes_of_type, sized, values_of_set}
use Rattle.law_concrete.specs.Sizes.{sizes_at}
use Rattle.smv_spots.specs.Spots.{AreTypes, classes_of}
use Rattle.smv_reads.specs.Views.{classes_in, world_by}
use Rattle.smv_concrete.specs.Subjects.{whole_types}
use Rattle.smv_concrete.proofs.Forms.{all-forms, named-is}

-- how many classes a set type has by its form
form-at : (w : World) (infos : List SetInfo) (ts : List AbsType) (k : ℕ) (info : SetInfo) → AreTypes w infos ts → slice_get infos k ≡ Some info → classes_of (slice_get ts k) ≡ w.classes.sizes info.name
form-at w [] ts k info h e = absurd (cc (e))
form-at w (i ∷ infos) [] k info h e = elim h [ ]
form-at w (i ∷ infos) (t ∷ ts) zero info h e = sym h.0 ∙ ap (λ (i : SetInfo). w.classes.sizes i.name) (some_is e)
form-at w (i ∷ infos) (t ∷ ts) (suc k) info h e = form-at w infos ts k info h.2 e

no-form : (w : World) (infos : List SetInfo) (ts : List AbsType) (k : ℕ) → AreTypes w infos ts → slice_get infos k ≡ None → classes_of (slice_get ts k) ≡ 0
no-form w [] [] k h e = refl
no-form w [] (t ∷ ts) k h e = elim h [ ]
no-form w (i ∷ infos) [] k h e = refl
no-form w (i ∷ infos) (t ∷ ts) zero h e = absurd (cc (e))
no-form w (i ∷ infos) (t ∷ ts) (suc k) h e = no-form w infos ts k h.2 e

-- as many classes as numbers
pub numbers-long : {X : Type 0} (f : ℕ → X) (low k : ℕ) → length (map f (numbers_from low k)) ≡ k
numbers-long f low k = length_map f (numbers_from low k) ∙ length-numbers low k

-- no type has more classes than each may have
pub few-classes : (types : List AbsType) → ((t : AbsType) → Has types t → t.named ≤ 256) → (set : ℕ) → classes_of (slice_get types set) ≤ 256
few-classes [] each set = omega arith
few-classes (t ∷ types) each zero = each t first
few-classes (t ∷ types) each (suc set) = few-classes types (λ u h. each u (later h)) set

module _ (d : Design) (given : List ℕ) (apart : AreApart d.sets) where
  abbrev S : Sizes
  S = sizes_at d.sets given

  abbrev n : Numbered
  n = sized d S

  abbrev types : List AbsType
  types = whole_types d.sets given

  count-at : (set : ℕ) (info : SetInfo) → slice_get d.sets set ≡ Some info → classes_of (slice_get types set) ≡ S info.name
  count-at set info e = form-at (world_by d types) d.sets types set info (all-forms d given apart) e ∙ named-is d given info.name

  count-none : (set : ℕ) → slice_get d.sets set ≡ None → classes_of (slice_get types set) ≡ 0
  count-none set e = no-form (world_by d types) d.sets types set (all-forms d given apart) e

  -- the classes of a type by the forms
  pub classes-are : (t : Simple) → classes_in types t ≡ classes_of_type n t
  classes-are (Range low high) = refl
  classes-are (Enum list) = refl
  classes-are (Set set) = at (slice_get d.sets set) refl
    where
      at : (o : Option SetInfo) → slice_get d.sets set ≡ o → map Named (numbers_from 0 (classes_of (slice_get types set))) ≡ values_of_set S (slice_get d.sets set)
      at None e = ap (λ k. map Named (numbers_from 0 k)) (count-none set e) ∙ sym (ap (values_of_set S) e)
      at (Some info) e = ap (λ k. map Named (numbers_from 0 k)) (count-at set info e) ∙ sym (ap (values_of_set S) e)

  -- how many values a set type has
  pub values-long : (set : ℕ) → classes_of (slice_get types set) ≡ length (values_in n (Set set))
  values-long set = at (slice_get d.sets set) refl
    where
      of_type : (info : SetInfo) → S info.name ≡ length (values_of S (set_type (Some info)))
      of_type info = by info.ordered
        where
          by : (b : Bool) → S info.name ≡ length (values_of S (if b then ordset info.name else scalarset info.name))
          by true = sym (length_map _ (numbers_from 0 (S info.name)) ∙ length-numbers 0 (S info.name))
          by false = sym (length_map _ (numbers_from 0 (S info.name)) ∙ length-numbers 0 (S info.name))

      at : (o : Option SetInfo) → slice_get d.sets set ≡ o → classes_of (slice_get types set) ≡ length (values_of S (set_type (slice_get d.sets set)))
      at None e = count-none set e ∙ sym (ap (λ (o : Option SetInfo). length (values_of S (set_type o))) e)
      at (Some info) e = count-at set info e ∙ (of_type info ∙ sym (ap (λ (o : Option SetInfo). length (values_of S (set_type o))) e))
