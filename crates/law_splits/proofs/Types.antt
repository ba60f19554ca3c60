-- What splits show of the parameters before them, by the types of these.
use Rattle.std.proofs.Common.{◌≡◌, ℕ, zero, suc, List, [], ◌∷◌, ◌++◌, map, length, refl, ap, sym, ◌∙◌}
use Rattle.std.specs.List.{flat_map, slice_get}
use Rattle.std.proofs.lemmas.List.{map-append, length-map}
use Rattle.std.proofs.lemmas.List.Concat.{flat_map-append}
use Rattle.law_lists.proofs.Lists.{append_same}
use Rattle.smv_core.specs.Values.{Name}
use Rattle.smv_core.specs.declared.tree.Word.{Word}
use Rattle.smv_core.specs.declared.flat.Simple.{Simple}
use Rattle.smv_core.specs.declared.flat.Design.{Design}
use Rattle.smv_core.specs.declared.flat.Param.{Param}
use Rattle.smv_core.specs.declared.flat.FlatSplit.{FlatSplit}
use Rattle.smv_core.specs.declared.flat.Unit.{Unit}
use Rattle.law_obligations.specs.Soundness.{FlatUnit, map_of, claim_of, over_of}
use Rattle.law_obligations.specs.Outlines.{unit_in}
use Rattle.law_obligations.specs.Units.{units_of}
use Rattle.law_splits.specs.Leaves.{numbered, nameless, name_of, own_params, splits_of, bound_as, cut, new, all_params, onward}
use Rattle.law_splits.specs.SplitFaults.{miscounted, mismatches, cuts}
use Rattle.law_splits.specs.SplitFaults as spec
use Rattle.law_splits.specs.Chains.{types_of, new_types, other_types, mismatches_by, from_split, shown, unit_types, TypesTell}

-- what is made of each of what is made of each
pub each-each : {X Y Z : Type 0} (g : Y → List Z) (f : X → List Y) (h : X → List Z) → ((x : X) → flat_map g (f x) ≡ h x) → (xs : List X) → flat_map g (flat_map f xs) ≡ flat_map h xs
each-each g f h same [] = refl
each-each g f h same (x ∷ xs) = flat_map-append g (f x) (flat_map f xs) ∙ append_same (same x) (each-each g f h same xs)

types-numbered : (k : ℕ) (params : List Param) → types_of (numbered k params) ≡ types_of params
types-numbered k [] = refl
types-numbered k (p ∷ params) = ap (λ l. p.over ∷ l) (types-numbered (suc k) params)

types-bound : (bound : List Param) (words : List Word) → types_of (map (bound_as bound) words) ≡ map (λ (word : Word). (bound_as bound word).over) words
types-bound bound [] = refl
types-bound bound (word ∷ words) = ap (λ l. (bound_as bound word).over ∷ l) (types-bound bound words)

types-nameless : (types : List Simple) → types_of (map nameless types) ≡ types
types-nameless [] = refl
types-nameless (t ∷ types) = ap (λ l. t ∷ l) (types-nameless types)

types-all : (params : List Param) (s : FlatSplit) → types_of (all_params (cut params s)) ≡ types_of params ++ new_types s
types-all params s =
    map-append (λ (p : Param). p.over) params (new (cut params s))
    ∙ ap (λ l. types_of params ++ l) (types-numbered (length params) (map (bound_as s.bound) s.vars) ∙ types-bound s.bound s.vars)

others : (params : List Param) (s : FlatSplit) → spec.other_type (cut params s) ≡ other_types s.bound s.of.names (types_of params)
others params s = on s.of.names params
  where
    on : (words : List Word) (params : List Param) → spec.other_type (cut params (record s { of = record s.of { names = words } })) ≡ other_types s.bound words (types_of params)
    on [] params = refl
    on (word ∷ words) [] = refl
    on (word ∷ words) (p ∷ params) = append_same refl (on words params)

mismatches-are : (params : List Param) (s : FlatSplit) → mismatches (cut params s) ≡ mismatches_by s (types_of params)
mismatches-are params s = append_same (ap (λ n. miscounted n s.of.names) (sym (length-map params (λ (p : Param). p.over)))) (others params s)

module _ (d : Design) where
  shown-are : (n : ℕ) (name : Name) (params : List Param) → flat_map mismatches (cuts d n name params) ≡ shown d n name (types_of params)
  shown-are zero name params = refl
  shown-are (suc n) name params =
      each-each mismatches (onward (cuts d n) params) (from_split (shown d n) (types_of params))
      (λ s. append_same (mismatches-are params s) (shown-are n s.name (all_params (cut params s)) ∙ ap (shown d n s.name) (types-all params s))) (splits_of d name)

  own-types : (unit : FlatUnit) → types_of (own_params d unit) ≡ unit_types d unit
  own-types (map_of def) = types-numbered 0 (map nameless (over_of (slice_get d.families def.family))) ∙ types-nameless (over_of (slice_get d.families def.family))
  own-types (claim_of claim) = refl

pub types_tell : TypesTell
types_tell d =
    each-each mismatches (λ (unit : Unit). cuts d (length d.splits) (name_of d (unit_in d unit)) (own_params d (unit_in d unit)))
    (λ (unit : Unit). shown d (length d.splits) (name_of d (unit_in d unit)) (unit_types d (unit_in d unit)))
    (λ unit. shown-are d (length d.splits) (name_of d (unit_in d unit)) (own_params d (unit_in d unit)) ∙ ap (shown d (length d.splits) (name_of d (unit_in d unit))) (own-types d (unit_in d unit))) (units_of d)
