-- The abstract forms of set types at given sizes: the design as a case sees it.
use Rattle.std.proofs.Common.{◌≡◌, ◌+◌, ◌<◌, ◌≤◌, ℕ, suc, List, [], ◌∷◌, ◌++◌, drop, get_or, map, length, slice_get, Some, Bool, true, false, if◌then◌else◌, refl, sym, ap, subst, ◌∙◌, arith}
use Rattle.std.specs.Str.{bytes_eq}
use Rattle.law_lists.proofs.Lists.{append_again, nothing_behind}
use Rattle.law_lists.proofs.Places.{drop_past, drop_read_one}
use Rattle.smv_core.specs.Values.{Name, Sizes}
use Rattle.smv_core.specs.declared.abstract_type.AbsType.{AbsType}
use Rattle.smv_core.specs.declared.abstract_type.Rest.TheVariants as beside
use Rattle.smv_core.specs.declared.flat.Design.{Design}
use Rattle.smv_core.specs.declared.flat.SetInfo.{SetInfo}
use Rattle.law_obligations.specs.Sets.{Has, first, later}
use Rattle.law_obligations.specs.Places.{world}
use Rattle.law_obligations.specs.Covers.{AreApart, by_name}
use Rattle.law_obligations.specs.Outlines.{names_of}
use Rattle.law_obligations.proofs.CoverNames.{by_name-at}
use Rattle.law_exact.specs.Exact.{whole, whole_world}
use Rattle.law_concrete.specs.Concrete.{sized}
use Rattle.law_concrete.specs.Sizes.{given_after, next_size, size_list, sizes_at}
use Rattle.smv_spots.specs.Spots.{AreTypes}
use Rattle.smv_reads.specs.Views.{world_by}
use Rattle.smv_concrete.specs.Subjects.{whole_types}

-- what is found among mapped values
by-name-map : {X Y : Type 0} (f : X → Y) (m : X) (sets : List SetInfo) (xs : List X) (t : Name) → by_name (f m) sets (map f xs) t ≡ f (by_name m sets xs t)
by-name-map f m [] xs t = refl
by-name-map f m (info ∷ sets) [] t = refl
by-name-map f m (info ∷ sets) (x ∷ xs) t = at (bytes_eq info.name t) (by-name-map f m sets xs t)
  where
    at : (b : Bool) → by_name (f m) sets (map f xs) t ≡ f (by_name m sets xs t) → (if b then f x else by_name (f m) sets (map f xs) t) ≡ f (if b then x else by_name m sets xs t)
    at true rest = refl
    at false rest = rest

sizes-long : (sets : List SetInfo) (given : List ℕ) → length (size_list sets given) ≡ length sets
sizes-long [] given = refl
sizes-long (info ∷ sets) given = ap suc (sizes-long sets (given_after info.size given))

abbrev form : ℕ → AbsType
form k = record { named = k; rest = beside.None }

pub types-long : (sets : List SetInfo) (given : List ℕ) → length (whole_types sets given) ≡ length sets
types-long sets given = mapped (size_list sets given) ∙ sizes-long sets given
  where
    mapped : (ks : List ℕ) → length (map form ks) ≡ length ks
    mapped [] = refl
    mapped (k ∷ ks) = ap suc (mapped ks)

module _ (d : Design) (given : List ℕ) where
  abbrev S : Sizes
  S = sizes_at d.sets given

  abbrev types : List AbsType
  types = whole_types d.sets given

  form-is : (t : Name) → by_name (record { named = 0; rest = beside.None }) d.sets types t ≡ whole S t
  form-is t = by-name-map form 0 d.sets (size_list d.sets given) t

  -- the world of the forms is that of the sizes
  pub world-is : world_by d types ≡ whole_world (sized d S)
  world-is = λ i. world (names_of d) (λ t. form-is t i)

  pub named-is : (t : Name) → (world_by d types).classes.sizes t ≡ S t
  named-is t = ap (λ (a : AbsType). a.named) (form-is t)

  forms : AreApart d.sets → (k : ℕ) (infos : List SetInfo) (ts : List AbsType) → ((j : ℕ) (info : SetInfo) → slice_get infos j ≡ Some info → slice_get d.sets (k + j) ≡ Some info) →
      ((j : ℕ) (t : AbsType) → slice_get ts j ≡ Some t → slice_get types (k + j) ≡ Some t) → length ts ≡ length infos → AreTypes (world_by d types) infos ts
  forms apart k [] [] f g l = tt
  forms apart k [] (t ∷ ts) f g l = absurd (omega arith)
  forms apart k (info ∷ infos) [] f g l = absurd (omega arith)
  forms apart k (info ∷ infos) (t ∷ ts) f g l =
      let is : by_name (record { named = 0; rest = beside.None }) d.sets types info.name ≡ t = by_name-at (record { named = 0; rest = beside.None }) d.sets types (k + 0) info t apart (f 0 info refl) (g 0 t refl) in (
        ap (λ (a : AbsType). a.named) is,
        ap (λ (a : AbsType). a.rest) is,
        forms apart (k + 1) infos ts (λ j i e. ap (slice_get d.sets) (omega arith) ∙ f (suc j) i e) (λ j u e. ap (slice_get types) (omega arith) ∙ g (suc j) u e) (omega arith),
      )

  pub all-forms : AreApart d.sets → AreTypes (world_by d types) d.sets types
  all-forms apart = forms apart 0 d.sets types (λ j i e. ap (slice_get d.sets) (omega arith) ∙ e) (λ j t e. ap (slice_get types) (omega arith) ∙ e) (types-long d.sets given)

  few-in : (infos : List SetInfo) (ts : List AbsType) → AreTypes (world_by d types) infos ts → ((info : SetInfo) → Has infos info → S info.name ≤ 256) → (t : AbsType) → Has ts t → t.named ≤ 256
  few-in [] [] h f t m = elim m [ ]
  few-in [] (u ∷ ts) h f t m = elim h [ ]
  few-in (info ∷ infos) [] h f t m = elim m [ ]
  few-in (info ∷ infos) (u ∷ ts) h f _ first = subst (λ k. k ≤ 256) (sym (named-is info.name) ∙ h.0) (f info first)
  few-in (info ∷ infos) (u ∷ ts) h f t (later m) = few-in infos ts h.2 (λ i k. f i (later k)) t m

  pub few-forms : AreApart d.sets → ((info : SetInfo) → Has d.sets info → S info.name ≤ 256) → (t : AbsType) → Has types t → t.named ≤ 256
  few-forms apart few = few-in d.sets types (all-forms apart) few

-- ---- one set type after the other

pub whole-step : (done : List AbsType) (sets : List SetInfo) (place : ℕ) (info : SetInfo) (left rest : List ℕ) (size : ℕ) (all : List AbsType) → place < length sets → info ≡ get_or sets place info → size ≡ next_size info.size left → rest ≡ given_after info.size left →
    done ++ whole_types (drop place sets) left ≡ all → (done ++ record { named = size; rest = beside.None } ∷ []) ++ whole_types (drop (place + 1) sets) rest ≡ all
whole-step done sets place info left rest size all l e s r h =
    append_again done (whole_types (drop (place + 1) sets) rest) (form size)
    ∙ (ap (λ (ts : List AbsType). done ++ ts)
    (ap (λ k. form k ∷ whole_types (drop (place + 1) sets) rest) s ∙ (ap (λ g. form (next_size info.size left) ∷ whole_types (drop (place + 1) sets) g) r ∙ sym (ap (λ xs. whole_types xs left) (drop_read_one sets place info l e)))) ∙ h)

pub whole-end : (done : List AbsType) (sets : List SetInfo) (place : ℕ) (left : List ℕ) (all : List AbsType) → length sets ≤ place → done ++ whole_types (drop place sets) left ≡ all → done ≡ all
whole-end done sets place left all l h = nothing_behind done ∙ (ap (λ (xs : List SetInfo). done ++ whole_types xs left) (sym (drop_past sets place l)) ∙ h)
